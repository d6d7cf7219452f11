-- The rows of as many results as there are.
use Rattle.std.proofs.Common.{◌≡◌, ◌∙◌, ap, Bool, false, cond, ◌||◌, ℕ, ℤ, pos, neg_ℤ, ◌^◌, int_le, int_lt, true, arith, ◌≤◌, refl, List, [], ◌∷◌, length, set, Option, None}
use Rattle.std.specs.List.{slice_get}
use Rattle.std.proofs.lemmas.Int.{ints}
use Rattle.std.proofs.lemmas.Bool.{and_parts}
use Rattle.std.proofs.lemmas.List.{set_past}
use Rattle.tcl_lang.specs.Operands.{IsWordValue, may_stand}
use Rattle.tcl_bounds.specs.declared.interval.Interval.{Interval}
use Rattle.tcl_lang.specs.declared.ty.Ty.{Ty}
use Rattle.tcl_lang.specs.declared.instr.Instr.{Instr}
use Rattle.tcl_lang.specs.declared.instr.Op.{Op}
use Rattle.tcl_lang.specs.declared.instr.Op.TheVariants.{Nondet}
use Rattle.tcl_bounds.specs.Intervals.{is_empty}
use Rattle.tcl_bounds.specs.Rows.{row}
use Rattle.tcl_bounds.specs.Conditions.{is_nondet}
use Rattle.tcl_bounds.specs.Bounds.{operand_interval, bounds_after, set_rows}
use Rattle.tcl_bounds.specs.Limits.{set_at}

pub set_none : (narrow : ℕ → Interval → Interval) (bounds : List Interval) (outs : List ℕ) → set_rows narrow bounds outs [] ≡ bounds
set_none narrow bounds [] = refl
set_none narrow bounds (v ∷ outs) = refl

pub set_one : (narrow : ℕ → Interval → Interval) (bounds : List Interval) (outs : List ℕ) (r : Option Interval) → set_rows narrow bounds outs (r ∷ []) ≡ set_at narrow bounds (slice_get outs 0) r
set_one narrow bounds [] r = refl
set_one narrow bounds (v ∷ []) r = refl
set_one narrow bounds (v ∷ u ∷ outs) r = refl

pub set_two : (narrow : ℕ → Interval → Interval) (bounds : List Interval) (outs : List ℕ) (r s : Option Interval) → set_rows narrow bounds outs (r ∷ s ∷ []) ≡ set_at narrow (set_at narrow bounds (slice_get outs 0) r) (slice_get outs 1) s
set_two narrow bounds [] r s = refl
set_two narrow bounds (v ∷ []) r s = refl
set_two narrow bounds (v ∷ u ∷ []) r s = refl
set_two narrow bounds (v ∷ u ∷ w ∷ outs) r s = refl

pub set_beyond : (bounds : List Interval) (v : ℕ) (i : Interval) → length bounds ≤ v → set bounds v i ≡ bounds
set_beyond bounds v i h = set_past bounds v i h

-- a literal that is a value of some type
pub word_literal : (n : ℤ) → may_stand None n ≡ true → IsWordValue n
word_literal n e =
    let both = and_parts (int_le (neg_ℤ (pos (2 ^ 63))) n) (int_lt n (pos (2 ^ 64))) e in
    record { least = omega (arith, ints, both.0); below = omega (arith, ints, both.1) }

-- the rows of an instruction that takes a value say nothing
pub row_nondet : (op : Op) (T : Ty) (n : ℕ) (a b c : Interval) → is_nondet op ≡ true → row op T n a b c ≡ []
row_nondet Nondet T n a b c e = refl
row_nondet _ T n a b c e = absurd (cc)

chosen_none : (t : Bool) (rows : List (Option Interval)) → rows ≡ [] → cond t [] rows ≡ []
chosen_none true rows e = refl
chosen_none false rows e = e

pub nondet_rows : (narrow : ℕ → Interval → Interval) (bounds : List Interval) (i : Instr) → is_nondet i.op ≡ true → bounds_after narrow bounds i ≡ bounds
nondet_rows narrow bounds i e =
    let a = operand_interval bounds i.args 0 in
    let b = operand_interval bounds i.args 1 in
    let c = operand_interval bounds i.args 2 in
    ap (set_rows narrow bounds i.outs) (chosen_none (is_empty a || is_empty b || is_empty c) (row i.op i.ty i.amount a b c) (row_nondet i.op i.ty i.amount a b c e))
    ∙ set_none narrow bounds i.outs
