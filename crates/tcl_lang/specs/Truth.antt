-- Computed truth: what 128 bits can tell of a line. `Yes` and `No` agree with the truth of the line.
use Rattle.std.specs.Prelude.{◌^◌, pos, ◌-ℤ◌, nat_lt, Bool, if◌then◌else◌, List, Option, Some, None}
use Rattle.tcl_num.specs.Congruence.{is_multiple}
use Rattle.tcl_lang.specs.declared.outcome.Truth.{Truth}
use Rattle.tcl_lang.specs.declared.outcome.Truth.TheVariants.{Yes, No, Wide}
use Rattle.tcl_lang.specs.declared.ty.Word.{Word}
use Rattle.tcl_lang.specs.declared.term.Term.{Term}
use Rattle.tcl_lang.specs.declared.term.Part.{Part}
use Rattle.tcl_lang.specs.declared.pred.Pred.{Pred}
use Rattle.tcl_lang.specs.declared.pred.Pred.TheVariants.{Alg, Rng}
use Rattle.tcl_lang.specs.declared.instr.Instr.{Instr}
use Rattle.tcl_lang.specs.declared.pred.Line.{Line}
use Rattle.tcl_lang.specs.Term.{term_value}
use Rattle.tcl_lang.specs.Modulus.{modulus_value, is_wide_modulus}
use Rattle.tcl_lang.specs.Range.{range_truth}
use Rattle.tcl_lang.specs.Bound.{equation_size, size_end}
use Rattle.tcl_lang.specs.Line.{predicate_of, instruction_of, instruction_truth}

abbrev pub yes_or_no : Bool → Truth
yes_or_no b = if b then Yes else No

-- with a modulus: exact, or `Wide` where the modulus is wide; without: `No` where the sides differ modulo 2 ^ 128, else
-- `Yes` where the size bound says that they are equal, else `Wide`
abbrev pub equation_truth : List Word → Term → Term → Option (List Part) → Truth
equation_truth store f g None =
    if is_multiple (pos (2 ^ 128)) (term_value store f -ℤ term_value store g)
    then (if nat_lt (equation_size store f g) size_end then Yes else Wide)
    else No
equation_truth store f g (Some m) =
    if is_wide_modulus m then Wide
    else yes_or_no (is_multiple (modulus_value m) (term_value store f -ℤ term_value store g))

abbrev pub predicate_computed : List Word → Pred → Truth
predicate_computed store (Alg p) = equation_truth store p.left p.right p.modulus
predicate_computed store (Rng p) = yes_or_no (range_truth store p)

-- the computed truth of what is stated: of the predicate, else of the condition of the instruction
abbrev pub stated_computed : List Word → Option Pred → Option Instr → Truth
stated_computed store (Some p) i = predicate_computed store p
stated_computed store None (Some i) = yes_or_no (instruction_truth store i)
stated_computed store None None = Yes

-- the computed truth of a line in a store; a line that states nothing is true
abbrev pub line_computed : List Word → Line → Truth
line_computed store l = stated_computed store (predicate_of l) (instruction_of l)
