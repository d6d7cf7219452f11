-- The tests of divisibility and congruence say exactly when the facts hold.
use Rattle.std.proofs.Common.{◌≡◌, ℕ, suc, ◌/◌, ◌%◌, ◌<◌, sym, ◌∙◌, ap, arith, eq-eqb, ℤ, pos, negsuc, ◌+ℤ◌, ◌-ℤ◌, ◌*ℤ◌, neg_ℤ, unsigned_abs, true}
use Rattle.std.specs.Int.{int_rem_euclid, int_div_euclid}
use Rattle.std.proofs.lemmas.Int.{ints, unsigned_abs-mul}
use Rattle.std.proofs.lemmas.Bool.{eqb-true}
use Rattle.std.proofs.lemmas.Nat.{div-add-mod'}
use Rattle.std.proofs.Math.Nat.{mul-mod_right}
use Rattle.tcl_num.specs.Congruence.{Divides, Congruent, is_multiple, is_congruent}
use Rattle.tcl_num.proofs.IntegerRing.{int_mul_assoc, int_mul_add, int_mul_neg, int_mul_zero}
use Rattle.tcl_num.proofs.EuclideanDivision.{euclid_split}
use Rattle.tcl_num.proofs.Congruences.{congruent_sym, congruent_remainder}

-- a number whose magnitude leaves no remainder is a multiple
multiple_of_magnitude : (d n : ℤ) → unsigned_abs n % unsigned_abs d ≡ 0 → Divides d n
multiple_of_magnitude (pos d) (pos n) e = (pos (n / d), omega (arith, ints, div-add-mod' n d))
multiple_of_magnitude (pos d) (negsuc n) e = (neg_ℤ (pos (suc n / d)), omega (arith, ints, div-add-mod' (suc n) d, int_mul_neg (pos d) (pos (suc n / d))))
multiple_of_magnitude (negsuc d) (pos n) e = (neg_ℤ (pos (n / suc d)), omega (arith, ints, div-add-mod' n (suc d), int_mul_neg (negsuc d) (pos (n / suc d))))
multiple_of_magnitude (negsuc d) (negsuc n) e = (pos (suc n / suc d), omega (arith, ints, div-add-mod' (suc n) (suc d)))

pub is_multiple_sound : (d n : ℤ) → is_multiple d n ≡ true → Divides d n
unfolding is_multiple
is_multiple_sound d n t = multiple_of_magnitude d n (eqb-true (unsigned_abs n % unsigned_abs d) 0 t)

pub is_multiple_complete : (d n : ℤ) → Divides d n → is_multiple d n ≡ true
unfolding is_multiple
is_multiple_complete d n (k, e) =
    eq-eqb (unsigned_abs n % unsigned_abs d) 0
    (ap (λ x. unsigned_abs x % unsigned_abs d) e
    ∙ ap (λ x. x % unsigned_abs d) (unsigned_abs-mul d k)
    ∙ mul-mod_right (unsigned_abs d) (unsigned_abs k))

pub congruent_from_divides : (m a b : ℤ) → Divides m (a -ℤ b) → Congruent m a b
congruent_from_divides m a b (k, e) = (k, omega (arith, ints, e))

pub divides_from_congruent : (m a b : ℤ) → Congruent m a b → Divides m (a -ℤ b)
divides_from_congruent m a b (k, e) = (k, omega (arith, ints, e))

pub is_congruent_sound : (m a b : ℤ) → is_congruent m a b ≡ true → Congruent m a b
unfolding is_congruent
is_congruent_sound m a b t = congruent_from_divides m a b (is_multiple_sound m (a -ℤ b) t)

pub is_congruent_complete : (m a b : ℤ) → Congruent m a b → is_congruent m a b ≡ true
unfolding is_congruent
is_congruent_complete m a b c = is_multiple_complete m (a -ℤ b) (divides_from_congruent m a b c)

pub divides_zero : (d : ℤ) → Divides d (pos 0)
divides_zero d = (pos 0, sym (int_mul_zero d))

pub divides_trans : (c d n : ℤ) → Divides c d → Divides d n → Divides c n
divides_trans c d n (j, e) (k, f) = (j *ℤ k, f ∙ ap (λ x. x *ℤ k) e ∙ int_mul_assoc c j k)

pub divides_add : (d a b : ℤ) → Divides d a → Divides d b → Divides d (a +ℤ b)
divides_add d a b (j, e) (k, f) = (j +ℤ k, omega (arith, ints, e, f, int_mul_add d j k))

pub divides_mul : (d a b : ℤ) → Divides d a → Divides d (a *ℤ b)
divides_mul d a b (j, e) = (j *ℤ b, ap (λ x. x *ℤ b) e ∙ int_mul_assoc d j b)

-- a congruence holds modulo each divisor of the modulus
pub congruent_divisor : (d m a b : ℤ) → Divides d m → Congruent m a b → Congruent d a b
congruent_divisor d m a b (j, e) (k, f) =
    (j *ℤ k, f ∙ ap (λ x. b +ℤ x *ℤ k) e ∙ ap (λ x. b +ℤ x) (int_mul_assoc d j k))

-- numbers with one remainder are congruent
pub congruent_from_remainder : (m : ℕ) (a b : ℤ) → 0 < m → int_rem_euclid a (pos m) ≡ int_rem_euclid b (pos m) → Congruent (pos m) a b
congruent_from_remainder m a b p e =
    let left = congruent_remainder m a p in
    let right = congruent_sym (pos m) b (int_rem_euclid b (pos m)) (congruent_remainder m b p) in
    (int_div_euclid a (pos m) -ℤ int_div_euclid b (pos m), omega (arith, ints, e, euclid_split a m p, euclid_split b m p, int_mul_add (pos m) (int_div_euclid a (pos m)) (neg_ℤ (int_div_euclid b (pos m))), int_mul_neg (pos m) (int_div_euclid b (pos m))))

-- congruence modulo 0 is equality, and modulo 1 it always holds
pub congruent_zero : (a b : ℤ) → Congruent (pos 0) a b → a ≡ b
congruent_zero a b (k, e) = omega (arith, ints, e)

pub congruent_one : (a b : ℤ) → Congruent (pos 1) a b
congruent_one a b = (a -ℤ b, omega (arith, ints))
