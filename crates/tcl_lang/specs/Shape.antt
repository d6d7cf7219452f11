-- The shape of a program: what its text could say, before types are looked at.
use Rattle.std.specs.Prelude.{◌≡◌, ◌≢◌, ◌+◌, ◌-◌, ◌^◌, ◌<◌, ℕ, ℤ, pos, neg_ℤ, int_lt, int_le, nat_le, ◌==◌, max, Bool, true, false, not, ◌&&◌, List, [], ◌∷◌, map, length, slice_get, Option, Some, None}
use Rattle.std.specs.List.{list_all}
use Rattle.tcl_lang.specs.declared.ty.Ty.{Ty}
use Rattle.tcl_lang.specs.declared.instr.Atom.{Atom}
use Rattle.tcl_lang.specs.declared.instr.Atom.TheVariants.{Var, Lit}
use Rattle.tcl_lang.specs.declared.instr.Op.{Op}
use Rattle.tcl_lang.specs.declared.instr.Op.TheVariants.{Shl, Split}
use Rattle.tcl_lang.specs.declared.instr.Instr.{Instr}
use Rattle.tcl_lang.specs.declared.term.Term.{Term, Term-F, fold-Term}
use Rattle.tcl_lang.specs.declared.term.Term.TheOpen as term_layer
use Rattle.tcl_lang.specs.declared.term.Part.{Part}
use Rattle.tcl_lang.specs.declared.range.RngTerm.{RngTerm, RngTerm-F, fold-RngTerm}
use Rattle.tcl_lang.specs.declared.range.RngTerm.TheOpen as range_layer
use Rattle.tcl_lang.specs.declared.range.RngPred.{RngPred, RngPred-F, fold-RngPred}
use Rattle.tcl_lang.specs.declared.range.RngPred.TheOpen as pred_layer
use Rattle.tcl_lang.specs.declared.pred.Pred.{Pred}
use Rattle.tcl_lang.specs.declared.pred.Pred.TheVariants.{Alg, Rng}
use Rattle.tcl_lang.specs.declared.pred.Line.{Line}
use Rattle.tcl_lang.specs.declared.pred.Line.TheVariants.{Input, Pre, Step, Post}
use Rattle.tcl_lang.specs.Types.{is_ty}
use Rattle.tcl_lang.specs.Instruction.{result_count, operand_count}
use Rattle.tcl_lang.specs.Line.{predicate_of}
use Rattle.tcl_lang.specs.Names.{all_occurrences}

-- the part of a program in which a line stands: `in` lines, `pre` lines, the body, `post` lines
abbrev pub stage_of : Line → ℕ
stage_of (Input T name) = 0
stage_of (Pre p) = 1
stage_of (Post p) = 3
stage_of _ = 2

-- parts in this order, from this part on
abbrev pub in_stages : ℕ → List ℕ → Bool
in_stages stage [] = true
in_stages stage (next ∷ stages) = nat_le stage next && in_stages next stages

-- a number of a term or a modulus: 0 to 2 ^ 127 - 1
abbrev pub is_number : ℤ → Bool
is_number n = int_le (pos 0) n && int_lt n (pos (2 ^ 127))

-- a literal: below 2 ^ 127 in magnitude, of one of the types
abbrev pub is_literal : Ty → ℤ → Bool
is_literal T n = is_ty T && int_lt (neg_ℤ (pos (2 ^ 127))) n && int_lt n (pos (2 ^ 127))

abbrev pub is_atom : Atom → Bool
is_atom (Var name) = true
is_atom (Lit T n) = is_literal T n

-- an exponent: at most 1,024
abbrev pub is_exponent : Option ℕ → Bool
is_exponent None = true
is_exponent (Some k) = nat_le k 1024

-- an algebraic term
abbrev pub is_term_step : Term-F Bool → Bool
is_term_step (term_layer.Var name) = true
is_term_step (term_layer.Num n) = is_number n
is_term_step (term_layer.Neg t) = t
is_term_step (term_layer.Add t u) = t && u
is_term_step (term_layer.Sub t u) = t && u
is_term_step (term_layer.Mul t u) = t && u
is_term_step (term_layer.Pow t k) = t && nat_le k 1024

abbrev pub is_term : Term → Bool
is_term t = fold-Term Bool is_term_step t

-- the parts of a modulus: at least one, and the first has no minus
abbrev pub is_part : Part → Bool
is_part p = is_number p.base && is_exponent p.power

abbrev pub is_parts : Option (List Part) → Bool
is_parts None = true
is_parts (Some []) = false
is_parts (Some (p ∷ ps)) = not p.minus && list_all is_part (p ∷ ps)

-- a range term and a range predicate
abbrev pub is_range_term_step : RngTerm-F Bool → Bool
is_range_term_step (range_layer.Leaf atom) = is_atom atom
is_range_term_step (range_layer.Neg t) = t
is_range_term_step (range_layer.Flip t) = t
is_range_term_step (range_layer.Bin op t u) = t && u
is_range_term_step (range_layer.Cast T t) = is_ty T && t

abbrev pub is_range_term : RngTerm → Bool
is_range_term t = fold-RngTerm Bool is_range_term_step t

abbrev pub is_range_step : RngPred-F Bool → Bool
is_range_step pred_layer.True = true
is_range_step pred_layer.False = true
is_range_step (pred_layer.Cmp op t u) = is_range_term t && is_range_term u
is_range_step (pred_layer.Not p) = p
is_range_step (pred_layer.Both p q) = p && q
is_range_step (pred_layer.Either p q) = p && q

abbrev pub is_range : RngPred → Bool
is_range p = fold-RngPred Bool is_range_step p

-- a predicate
abbrev pub is_predicate : Pred → Bool
is_predicate (Alg p) = is_term p.left && is_term p.right && is_parts p.modulus
is_predicate (Rng p) = is_range p

-- only a shift and a split have an amount
abbrev pub has_amount : Op → Bool
has_amount Shl = true
has_amount Split = true
has_amount _ = false

abbrev pub is_amount : Op → ℕ → Bool
is_amount op n = if_amount (has_amount op) n
  where
    if_amount : Bool → ℕ → Bool
    if_amount true n = true
    if_amount false n = n == 0

-- an instruction: as many results and operands as its form has
abbrev pub is_instruction : Instr → Bool
is_instruction i =
    is_ty i.ty && length i.outs == result_count i.op && length i.args == operand_count i.op
    && list_all is_atom i.args && is_amount i.op i.amount

-- what is stated, where there is a predicate
abbrev pub is_stated : Option Pred → Bool
is_stated (Some p) = is_predicate p
is_stated None = true

-- a line
abbrev pub is_line : Line → Bool
is_line (Input T name) = is_ty T
is_line (Step i) = is_instruction i
is_line l = is_stated (predicate_of l)

-- names are numbered by first occurrence: after `next` names each further one is one of them or the next, and at the
-- end there are `names` of them
abbrev pub is_numbered : ℕ → ℕ → List ℕ → Bool
is_numbered names next [] = next == names
is_numbered names next (name ∷ others) = nat_le name next && is_numbered names (max next (name + 1)) others

-- no two names are equal
abbrev pub AreDistinct : List (List ℕ) → Type 0
AreDistinct names =
    (j k : ℕ) (name : List ℕ) → j < k → slice_get names j ≡ Some name → slice_get names k ≢ Some name

-- what the type of a program keeps
pub record HasShape (names : List (List ℕ)) (lines : List Line) : Type 0 where
  pub few : length lines < 2 ^ 32 - 1
  pub stages : in_stages 0 (map stage_of lines) ≡ true
  pub shapes : list_all is_line lines ≡ true
  pub distinct : AreDistinct names
  pub numbered : is_numbered (length names) 0 (all_occurrences lines) ≡ true
