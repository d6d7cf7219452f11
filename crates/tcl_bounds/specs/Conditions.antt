-- Intervals from which rows can be computed in 128 bits.
use Rattle.std.specs.Prelude.{◌≡◌, ◌≤◌, ◌^◌, ◌≤ℤ◌, ℕ, Bool, true, false, ◌&&◌, List, [], ◌∷◌, unsigned_abs, slice_get, Option, Some, None}
use Rattle.tcl_lang.specs.Types.{InType}
use Rattle.tcl_lang.specs.declared.ty.Ty.{Ty}
use Rattle.tcl_lang.specs.declared.instr.Op.{Op}
use Rattle.tcl_lang.specs.declared.instr.Op.TheVariants.{Nondet}
use Rattle.tcl_lang.specs.declared.variable.Variable.{Variable}
use Rattle.tcl_lang.specs.declared.instr.Instr.{Instr}
use Rattle.tcl_lang.specs.declared.instr.Atom.{Atom}
use Rattle.tcl_lang.specs.declared.instr.Atom.TheVariants.{Var, Lit}
use Rattle.tcl_lang.specs.declared.range.RngPred.{RngPred, RngPred-F, fold-RngPred}
use Rattle.tcl_lang.specs.declared.range.RngPred.TheOpen as pred_layer
use Rattle.tcl_lang.specs.declared.pred.Pred.{Pred}
use Rattle.tcl_lang.specs.declared.pred.Pred.TheVariants.{Alg, Rng}
use Rattle.tcl_lang.specs.declared.pred.Line.{Line}
use Rattle.tcl_lang.specs.declared.pred.Line.TheVariants.{Step}
use Rattle.tcl_lang.specs.Exactness.{has_condition}
use Rattle.tcl_lang.specs.Line.{predicate_of}
use Rattle.tcl_lang.specs.Operands.{IsWordValue, HasOperands, may_stand}
use Rattle.tcl_bounds.specs.declared.interval.Interval.{Interval}
use Rattle.tcl_bounds.specs.Intervals.{is_within, is_empty}
use Rattle.tcl_bounds.specs.Narrowing.{atom_of}
use Rattle.tcl_bounds.specs.Bounds.{operand_interval}

-- both ends are values of words
pub record HasWordEnds (i : Interval) : Type 0 where
  pub least : IsWordValue i.least
  pub greatest : IsWordValue i.greatest

-- both ends are of magnitude at most 2 ^ 63
pub record HasSmallEnds (i : Interval) : Type 0 where
  pub least : unsigned_abs i.least ≤ 2 ^ 63
  pub greatest : unsigned_abs i.greatest ≤ 2 ^ 63

-- both ends are values of the type, in order
pub record HasEndsIn (T : Ty) (i : Interval) : Type 0 where
  pub least : InType T i.least
  pub greatest : InType T i.greatest
  pub order : i.least ≤ℤ i.greatest

-- the instruction can be executed at the least and at the greatest values of these intervals, which are not empty
pub record CanTake (op : Op) (T : Ty) (n : ℕ) (a b c : Interval) : Type 0 where
  pub least : HasOperands op T n a.least b.least c.least
  pub greatest : HasOperands op T n a.greatest b.greatest c.greatest
  pub first : a.least ≤ℤ a.greatest
  pub second : b.least ≤ℤ b.greatest
  pub third : c.least ≤ℤ c.greatest

-- each interval lies in the type of its variable, or is empty
abbrev pub AreWithin : List Variable → List Interval → Type 0
AreWithin [] [] = Unit {0}
AreWithin [] (i ∷ bounds) = ⊥
AreWithin (v ∷ variables) [] = ⊥
AreWithin (v ∷ variables) (i ∷ bounds) = (is_within v.ty i ≡ true) × AreWithin variables bounds

-- the instruction takes a value from the input, and its row says nothing
abbrev pub is_nondet : Op → Bool
is_nondet Nondet = true
is_nondet _ = false

-- the rows of the instruction can be computed from these intervals
abbrev pub CanStep : List Interval → Instr → Type 0
CanStep bounds i =
    is_nondet i.op ≡ false →
    is_empty (operand_interval bounds i.args 0) ≡ false → is_empty (operand_interval bounds i.args 1) ≡ false →
    is_empty (operand_interval bounds i.args 2) ≡ false →
    CanTake i.op i.ty i.amount (operand_interval bounds i.args 0) (operand_interval bounds i.args 1) (operand_interval bounds i.args 2)

-- a literal next to which narrowing does not overflow
abbrev pub is_word_atom : Option Atom → Bool
is_word_atom None = true
is_word_atom (Some (Var v)) = true
is_word_atom (Some (Lit T n)) = may_stand None n

-- the literals of a range predicate
abbrev pub literals_step : RngPred-F Bool → Bool
literals_step (pred_layer.Cmp op t u) = is_word_atom (atom_of t) && is_word_atom (atom_of u)
literals_step (pred_layer.Both p q) = p && q
literals_step _ = true

-- all literals of a range predicate are such
abbrev pub has_word_literals : RngPred → Bool
has_word_literals p = fold-RngPred Bool literals_step p

-- the literals of a predicate
abbrev pub predicate_has_words : Option Pred → Bool
predicate_has_words None = true
predicate_has_words (Some (Alg p)) = true
predicate_has_words (Some (Rng p)) = has_word_literals p

-- the literals of a line
abbrev pub line_has_words : Option Line → Bool
line_has_words None = true
line_has_words (Some l) = predicate_has_words (predicate_of l)

-- the literals of all lines
abbrev pub LinesHaveWords : List Line → Type 0
LinesHaveWords lines = (k : ℕ) → line_has_words (slice_get lines k) ≡ true

-- the exactness condition of the instruction can be looked at
abbrev pub CanBeExact : List Interval → Instr → Type 0
CanBeExact bounds i =
    has_condition i.op ≡ true →
    CanTake i.op i.ty i.amount (operand_interval bounds i.args 0) (operand_interval bounds i.args 1) (operand_interval bounds i.args 2)

-- the goal of a line can be looked at
abbrev pub CanFollow : List Interval → Line → Type 0
CanFollow bounds (Step i) = CanBeExact bounds i
CanFollow bounds _ = Unit {0}

-- the line can be gone through
abbrev pub CanPassLine : List Interval → Line → Type 0
CanPassLine bounds (Step i) = CanStep bounds i
CanPassLine bounds _ = Unit {0}
