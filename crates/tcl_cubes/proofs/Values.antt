-- Assignments in which one bit is given a value.
use Rattle.std.proofs.Common.{◌≡◌, ◌⊎◌, inl, inr, ℕ, ◌==◌, eqb-true, eq-eqb, refl, sym, ◌∙◌, ap, Bool, true, false, not, ◌&&◌, if◌then◌else◌}
use Rattle.std.proofs.lemmas.Bool.{and_parts, and_from}
use Rattle.tcl_list.proofs.Booleans.{if_yes, if_no}
use Rattle.tcl_goals.specs.declared.fact.BitLit.{BitLit}
use Rattle.tcl_goals.specs.Order.{same_bit}
use Rattle.tcl_cubes.specs.Covering.{Assignment, has_value, differ}

-- the assignment with the bit of a literal at its value
abbrev pub given : Assignment → BitLit → Assignment
given v l x k = if l.var == x && l.bit == k then l.value else v x k

-- the literals of one bit
pub same_parts : (l b : BitLit) → same_bit l b ≡ true → (l.var ≡ b.var) × (l.bit ≡ b.bit)
same_parts l b e =
    let parts = and_parts (l.var == b.var) (l.bit == b.bit) e in
    (eqb-true l.var b.var parts.0, eqb-true l.bit b.bit parts.1)

pub itself : (l : BitLit) → same_bit l l ≡ true
itself l = and_from _ _ (eq-eqb l.var l.var refl) (eq-eqb l.bit l.bit refl)

-- a literal of the bit has its value exactly where it does not differ
value_of : (v : Assignment) (x k : ℕ) (s t : Bool) → (if s then v x k else not (v x k)) ≡ true → (if t then v x k else not (v x k)) ≡ not (differ s t)
value_of v x k true true e = e
value_of v x k true false e = ap not e
value_of v x k false true e = not_value (v x k) e
  where
    not_value : (b : Bool) → not b ≡ true → b ≡ false
    not_value true f = absurd (cc)
    not_value false f = refl
value_of v x k false false e = e

pub at_bit : (v : Assignment) (l b : BitLit) → has_value v l ≡ true → same_bit l b ≡ true → has_value v b ≡ not (differ l.value b.value)
at_bit v l b has same =
    let parts = same_parts l b same in
    ap (λ x. if b.value then v x b.bit else not (v x b.bit)) (sym parts.0)
    ∙ ap (λ k. if b.value then v l.var k else not (v l.var k)) (sym parts.1)
    ∙ value_of v l.var l.bit l.value b.value has

-- given the value, the literal has it
bit_given : (s b : Bool) → b ≡ s → (if s then b else not b) ≡ true
bit_given true b e = e
bit_given false b e = ap not e

pub given_has : (v : Assignment) (l : BitLit) → has_value (given v l) l ≡ true
given_has v l = bit_given l.value (given v l l.var l.bit) (if_yes (l.var == l.var && l.bit == l.bit) l.value (v l.var l.bit) (itself l))

-- other bits keep their value
pub given_other : (v : Assignment) (l b : BitLit) → same_bit l b ≡ false → has_value (given v l) b ≡ has_value v b
given_other v l b other =
    ap (λ t. if b.value then t else not t) (if_no (l.var == b.var && l.bit == b.bit) l.value (v b.var b.bit) other)

-- either value is one of the two
pub one_of : (v : Assignment) (l : BitLit) → (has_value v (record { var = l.var; bit = l.bit; value = true }) ≡ true) ⊎ (has_value v (record { var = l.var; bit = l.bit; value = false }) ≡ true)
one_of v l = either (v l.var l.bit)
  where
    either : (b : Bool) → (b ≡ true) ⊎ (not b ≡ true)
    either true = inl refl
    either false = inr refl
