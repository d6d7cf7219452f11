-- What the machine's signed arithmetic leaves of a result is the wrapped value of a signed word of that width.
use Rattle.std.proofs.Common.{◌≡◌, ℕ, suc, ◌-◌, ◌^◌, ◌<◌, refl, sym, ap, subst, arith, ℤ, pos, negsuc, unsigned_abs, Bool, true, false}
use Rattle.std.specs.Int.{Width, w8, w16, w32, w64, w128, int_rem_euclid, int_wrap}
use Rattle.std.proofs.lemmas.Int.{ints, SFits-int_wrap}
use Rattle.std.proofs.lemmas.Nat.{pow_pos}
use lib.Dec.{ltb}
use mir.Val.{sel, bits, hbits}
use Rattle.tcl_num.specs.Congruence.{Congruent}
use Rattle.tcl_num.specs.Range.{wrapped}
use Rattle.tcl_num.proofs.EuclideanDivision.{euclid_range}
use Rattle.tcl_num.proofs.Congruences.{congruent_trans, congruent_remainder}
use Rattle.tcl_num.proofs.WrappedValues.{wrapped_only}

-- a pattern read as a signed number differs from it by the whole or not at all
read_congruent : (t : Bool) (n whole : ℕ) → n < whole → Congruent (pos whole) (pos n) (sel t (pos n) (negsuc (whole - suc n)))
read_congruent true n whole p = (pos 0, omega (arith, ints))
read_congruent false n whole p = (pos 1, omega (arith, ints))

half_is : (w : Width) → 2 ^ hbits w ≡ 2 ^ (bits w - 1)
half_is w8 = refl
half_is w16 = refl
half_is w32 = refl
half_is w64 = refl
half_is w128 = refl

some_bits : (w : Width) → 0 < bits w
some_bits w8 = omega arith
some_bits w16 = omega arith
some_bits w32 = omega arith
some_bits w64 = omega arith
some_bits w128 = omega arith

pub int_wrap_congruent : (w : Width) (z : ℤ) → Congruent (pos (2 ^ bits w)) z (int_wrap w z)
unfolding int_wrap
int_wrap_congruent w z =
    let whole = 2 ^ bits w in
    let r = euclid_range z whole (pow_pos (bits w)) in
    let left = int_rem_euclid z (pos whole) in
    let pattern : unsigned_abs left ≡ r.0 = ap unsigned_abs r.2 in
    let P : ℕ → Type 0 = λ n. Congruent (pos whole) (pos r.0) (sel (ltb n (2 ^ hbits w)) (pos n) (negsuc (whole - suc n))) in
    let Q : ℤ → Type 0 = λ x. Congruent (pos whole) x (int_wrap w z) in
    congruent_trans (pos whole) z left (int_wrap w z) (congruent_remainder whole z (pow_pos (bits w)))
    (subst Q (sym r.2) (subst P (sym pattern) (read_congruent (ltb r.0 (2 ^ hbits w)) r.0 whole r.1)))

pub int_wrap_is_wrapped : (w : Width) (z : ℤ) → int_wrap w z ≡ wrapped true (bits w) z
int_wrap_is_wrapped w z =
    let fits = SFits-int_wrap w z in
    let half = half_is w in
    wrapped_only true (bits w) z (int_wrap w z) (some_bits w) (omega (arith, ints, fits, half), omega (arith, ints, fits, half)) (int_wrap_congruent w z)
