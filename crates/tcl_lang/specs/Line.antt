-- What a line is to the others: a condition on inputs, a goal, an assumption, and what it states. Everything above reads
-- lines through these words, so that a further kind of line that states a predicate adds cases here alone.
use Rattle.std.specs.Prelude.{ℕ, ℤ, Bool, true, false, ◌||◌, List, map, slice_get, Option, Some, None}
use Rattle.tcl_lang.specs.declared.ty.Ty.{Ty}
use Rattle.tcl_lang.specs.declared.ty.Word.{Word}
use Rattle.tcl_lang.specs.declared.instr.Op.{Op}
use Rattle.tcl_lang.specs.declared.instr.Op.TheVariants.{Nondet}
use Rattle.tcl_lang.specs.declared.instr.Instr.{Instr}
use Rattle.tcl_lang.specs.declared.instr.Atom.{Atom}
use Rattle.tcl_lang.specs.declared.pred.Pred.{Pred}
use Rattle.tcl_lang.specs.declared.pred.Pred.TheVariants.{Alg}
use Rattle.tcl_lang.specs.declared.pred.Line.{Line}
use Rattle.tcl_lang.specs.declared.pred.Line.TheVariants.{Input, Pre, Step, Assert, Assume, Cut, Post}
use Rattle.tcl_lang.specs.Store.{word_of}
use Rattle.tcl_lang.specs.Exactness.{has_condition, is_exact}
use Rattle.tcl_lang.specs.Predicate.{predicate_truth}

-- the predicate that a line states
abbrev pub predicate_of : Line → Option Pred
predicate_of (Input T name) = None
predicate_of (Pre p) = Some p
predicate_of (Step i) = None
predicate_of (Assert p) = Some p
predicate_of (Assume p) = Some p
predicate_of (Cut p) = Some p
predicate_of (Post p) = Some p

-- the line of the same kind that states another predicate; a line that states none stays as it is
abbrev pub with_predicate : Line → Pred → Line
with_predicate (Pre p) q = Pre q
with_predicate (Assert p) q = Assert q
with_predicate (Assume p) q = Assume q
with_predicate (Cut p) q = Cut q
with_predicate (Post p) q = Post q
with_predicate l q = l

-- the line states an algebraic predicate
abbrev pub is_algebraic_in : Option Pred → Bool
is_algebraic_in (Some (Alg p)) = true
is_algebraic_in _ = false

abbrev pub is_algebraic : Line → Bool
is_algebraic l = is_algebraic_in (predicate_of l)

-- the line is an `in` line
abbrev pub is_input : Line → Bool
is_input (Input T name) = true
is_input _ = false

-- the instruction of a line
abbrev pub instruction_of : Line → Option Instr
instruction_of (Step i) = Some i
instruction_of _ = None

-- the line is part of the precondition
abbrev pub is_precondition : Line → Bool
is_precondition (Pre p) = true
is_precondition _ = false

-- the line is an assumption
abbrev pub is_assumption : Line → Bool
is_assumption (Assume p) = true
is_assumption _ = false

-- the line has a goal: the exactness condition of its instruction, or its predicate
abbrev pub is_goal : Line → Bool
is_goal (Input T name) = false
is_goal (Pre p) = false
is_goal (Step i) = has_condition i.op
is_goal (Assert p) = true
is_goal (Assume p) = false
is_goal (Cut p) = true
is_goal (Post p) = true

-- a fact may have the line as a hypothesis
abbrev pub is_hypothesis : Line → Bool
is_hypothesis l = is_precondition l || is_assumption l || is_goal l

-- the line ends what algebraic goals below it may use; the same for range goals
abbrev pub cuts_algebraic : Line → Bool
cuts_algebraic (Cut p) = true
cuts_algebraic _ = false

abbrev pub cuts_range : Line → Bool
cuts_range (Cut p) = true
cuts_range _ = false

-- the type of the value that an instruction takes from the input
abbrev pub choice_type : Op → Ty → Option Ty
choice_type Nondet T = Some T
choice_type _ T = None

-- the type of the value that a line takes from the input
abbrev pub taken_type : Line → Option Ty
taken_type (Input T name) = Some T
taken_type (Step i) = choice_type i.op i.ty
taken_type _ = None

-- the name of the value that an instruction takes from the input: its first result
abbrev pub choice_name : Op → List ℕ → Option ℕ
choice_name Nondet outs = slice_get outs 0
choice_name _ outs = None

-- the name of the value that a line takes from the input
abbrev pub taken_name : Line → Option ℕ
taken_name (Input T name) = Some name
taken_name (Step i) = choice_name i.op i.outs
taken_name _ = None

-- the values of operands in a store
abbrev pub values_of : List Word → List Atom → List ℤ
values_of store atoms = map (λ atom. (word_of store atom).value) atoms

-- the condition of an instruction holds in a store, or there is none
abbrev pub instruction_truth : List Word → Instr → Bool
instruction_truth store i = is_exact i.op i.ty i.amount (values_of store i.args)

-- what is stated is true in a store: the predicate, else the condition of the instruction
abbrev pub stated_truth : List Word → Option Pred → Option Instr → Bool
stated_truth store (Some p) i = predicate_truth store p
stated_truth store None (Some i) = instruction_truth store i
stated_truth store None None = true

-- what a line states is true in a store; a line that states nothing is true
abbrev pub line_truth : List Word → Line → Bool
line_truth store l = stated_truth store (predicate_of l) (instruction_of l)
