-- What typing says of the predicates and the instructions of a form.
use Rattle.std.specs.Prelude.{◌≡◌, ◌^◌, ◌≤◌, ◌&&◌, nat_le, unsigned_abs, Bool, true, List}
use Rattle.std.specs.List.{list_all}
use Rattle.tcl_lang.specs.declared.instr.Atom.{Atom}
use Rattle.tcl_lang.specs.declared.instr.Atom.TheVariants as atom
use Rattle.tcl_lang.specs.declared.instr.Instr.{Instr}
use Rattle.tcl_lang.specs.declared.pred.Pred.{Pred}
use Rattle.tcl_lang.specs.declared.pred.Pred.TheVariants.{Alg, Rng}
use Rattle.tcl_lang.specs.declared.variable.Variable.{Variable}
use Rattle.tcl_lang.specs.Types.{IsTy}
use Rattle.tcl_measure.specs.SoundModulus.{IsSound}
use Rattle.tcl_algebra.specs.Row.{atom_at, type_of}
use Rattle.tcl_algebra.specs.Equations.{equalities_of}

-- a literal has the magnitude of a word
abbrev pub is_small : Atom → Bool
is_small (atom.Var v) = true
is_small (atom.Lit T n) = nat_le (unsigned_abs n) (2 ^ 64)

abbrev pub are_small : Atom × Atom → Bool
are_small e = is_small e.0 && is_small e.1

-- the modulus of an equation is one; the operands that a range predicate equates are words
abbrev pub IsSoundPredicate : Pred → Type 0
IsSoundPredicate (Alg f) = IsSound f.modulus
IsSoundPredicate (Rng p) = list_all are_small (equalities_of p) ≡ true

-- the types of an instruction and of its first operand are those of words, and its amount is at most their greatest width
pub record IsSoundInstruction (variables : List Variable) (i : Instr) : Type 0 where
  pub word : IsTy i.ty
  pub amount : i.amount ≤ 64
  pub source : IsTy (type_of variables (atom_at i.args 0))
