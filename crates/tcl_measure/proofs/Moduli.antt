-- The parts of a modulus after the power 2 ** k: their value is below that power, and the whole is positive.
use Rattle.std.proofs.Common.{◌≡◌, ℕ, ◌+◌, ◌<◌, ◌≤◌, ◌^◌, refl, ◌∙◌, zero, suc, ap, sym, subst, arith, add-one, ℤ, pos, neg_ℤ, ◌+ℤ◌, ◌*ℤ◌, ◌<ℤ◌, unsigned_abs, FitsSigned, to_z, of_z, Bool, true, false, not, ◌&&◌, ◌||◌, cond, nat_lt, nat_le, List, [], ◌∷◌, length, drop, get_or, Option, Some, None}
use Rattle.std.specs.Prelude.{int_lt, int_le}
use Rattle.std.specs.Int.{w128}
use Rattle.std.specs.Ordering.{int_eq}
use Rattle.std.specs.List.{slice_get, list_all}
use Rattle.std.proofs.lemmas.Bool.{and_parts}
use Rattle.std.proofs.lemmas.Bool.Decides.{nat_tests}
use Rattle.std.proofs.lemmas.Int.{ints, to_z-of_z, fits_signed_from_abs}
use Rattle.std.proofs.Math.Seq.{drop-cons}
use Rattle.std.proofs.Math.Nat.{pow-le-pow_right, pow-suc, pow-zero}
use Rattle.tcl_num.proofs.IntegerRing.{int_add_zero}
use Rattle.tcl_lang.specs.declared.term.Part.{Part}
use Rattle.tcl_lang.specs.Modulus.{raised, part_value, modulus_value, ends_below, falls_on, falls_from, is_modulus, is_wide_modulus, begins_modulus}
use Rattle.tcl_lang.specs.Modulus as moduli
use Rattle.tcl_lang.specs.Term.{power_of}
use Rattle.tcl_lang.specs.declared.ty.Ty.{Ty}
use Rattle.tcl_lang.specs.declared.pred.Pred.{Pred}
use Rattle.tcl_lang.specs.declared.pred.Pred.TheVariants.{Alg, Rng}
use Rattle.tcl_lang.specs.declared.pred.Line.{Line}
use Rattle.tcl_lang.specs.declared.pred.Line.TheVariants.{Input, Pre, Step, Assert, Assume, Cut, Post}
use Rattle.tcl_lang.specs.Program.{VersionedProgram}
use Rattle.tcl_lang.specs.Shape.{is_number, is_exponent, is_part, is_parts, is_term, is_predicate, is_line}
use Rattle.tcl_lang.specs.Typing.{types_at, is_sound_modulus, has_sound_modulus}
use Rattle.tcl_lang.specs.Form.{IsWellFormed}
use Rattle.tcl_lang.proofs.TypedRuns.{HasNoReason, line_shape, line_typed}
use Rattle.tcl_measure.specs.SoundModulus.{IsSoundModulus, IsSound, StatesSound, HasSoundModulus, begins_wide}

-- the part at a place, and those after it
pub read_part : (parts : List Part) (k : ℕ) (d : Part) → k < length parts → drop k parts ≡ get_or parts k d ∷ drop (k + 1) parts
read_part parts k d h = drop-cons parts k d h ∙ ap (λ j. get_or parts k d ∷ drop j parts) (sym (add-one k))

pub value_none : modulus_value [] ≡ pos 0
unfolding modulus_value
value_none = refl

pub value_more : (p : Part) (ps : List Part) → modulus_value (p ∷ ps) ≡ part_value p +ℤ modulus_value ps
unfolding modulus_value
value_more p ps = refl

-- a number ends the parts
record IsLast (k : ℕ) (base : ℤ) (ps : List Part) : Type 0 where
  pub ends : ps ≡ []
  pub below : int_lt base (pos (2 ^ k)) ≡ true

last_at : (k : ℕ) (base : ℤ) (ps : List Part) → ends_below k base ps ≡ true → IsLast k base ps
last_at k base [] e = record { ends = refl; below = e }
last_at k base (q ∷ qs) e = absurd (cc)

number_at : (k : ℕ) (base : ℤ) (o : Option ℕ) (ps : List Part) (rest : ℕ → Bool) → falls_on k base o ps rest ≡ true → o ≡ None → IsLast k base ps
number_at k base None ps rest e n = last_at k base ps e
number_at k base (Some j) ps rest e n = absurd (cc)

number_last : (k : ℕ) (p : Part) (ps : List Part) → falls_from k (p ∷ ps) ≡ true → p.power ≡ None → IsLast k p.base ps
unfolding falls_from
number_last k p ps e n = number_at k p.base p.power ps (λ j. falls_from j ps) e n

-- a power is one of 2, and falls
record IsFalling (k : ℕ) (base : ℤ) (j : ℕ) (falls : Bool) : Type 0 where
  pub two : base ≡ pos 2
  pub less : j < k
  pub rest : falls ≡ true

two_is : (base : ℤ) → int_eq base (pos 2) ≡ true → base ≡ pos 2
two_is base e = grind (arith, ints)

less_is : (j k : ℕ) → nat_lt j k ≡ true → j < k
less_is j k e = grind (arith, nat_tests)

power_at : (k : ℕ) (base : ℤ) (o : Option ℕ) (ps : List Part) (rest : ℕ → Bool) (j : ℕ) → falls_on k base o ps rest ≡ true → o ≡ Some j → IsFalling k base j (rest j)
power_at k base None ps rest j e s = absurd (cc)
power_at k base (Some i) ps rest j e s =
    let same : i ≡ j = some_is i j s in
    let parts = and_parts (int_eq base (pos 2) && nat_lt i k) (rest i) e in
    let left = and_parts (int_eq base (pos 2)) (nat_lt i k) parts.0 in
    record { two = two_is base left.0; less = subst (λ n. n < k) same (less_is i k left.1); rest = ap rest (sym same) ∙ parts.1 }
  where
    some_is : (i j : ℕ) → Some i ≡ Some j → i ≡ j
    some_is i j e = cc

power_falls : (k : ℕ) (p : Part) (ps : List Part) (j : ℕ) → falls_from k (p ∷ ps) ≡ true → p.power ≡ Some j → IsFalling k p.base j (falls_from j ps)
unfolding falls_from
power_falls k p ps j e s = power_at k p.base p.power ps (λ j. falls_from j ps) j e s

-- nothing is left
pub nothing_left : (parts : List Part) (k : ℕ) → length parts ≤ k → drop k parts ≡ []
nothing_left [] zero h = refl
nothing_left [] (suc k) h = refl
nothing_left (p ∷ parts) zero h = absurd (omega arith)
nothing_left (p ∷ parts) (suc k) h = nothing_left parts k (omega arith)

pub end_value : (parts : List Part) (k : ℕ) → length parts ≤ k → pos 0 ≡ modulus_value (drop k parts)
end_value parts k h = sym (ap modulus_value (nothing_left parts k h) ∙ value_none)

signed_value : (minus : Bool) (n : ℤ) → unsigned_abs (cond minus (neg_ℤ n) n) ≡ unsigned_abs n
signed_value true n = omega (arith, ints)
signed_value false n = refl

number_below : (base : ℤ) (k : ℕ) → is_number base ≡ true → int_lt base (pos (2 ^ k)) ≡ true → unsigned_abs base < 2 ^ k
number_below base k e f =
    let parts = and_parts (int_le (pos 0) base) (int_lt base (pos (2 ^ 127))) e in
    omega (arith, ints, parts.0, f)

number_small : (base : ℤ) → is_number base ≡ true → unsigned_abs base < 2 ^ 127
number_small base e =
    let parts = and_parts (int_le (pos 0) base) (int_lt base (pos (2 ^ 127))) e in
    omega (arith, ints, parts.0, parts.1)

-- a number, which is the last part
pub record IsLastPart (parts : List Part) (k above : ℕ) (p : Part) : Type 0 where
  pub value : cond p.minus (neg_ℤ p.base) p.base ≡ modulus_value (drop k parts)
  pub below : unsigned_abs (cond p.minus (neg_ℤ p.base) p.base) < 2 ^ above
  pub small : unsigned_abs p.base < 2 ^ 127

pub last_part : (parts : List Part) (k above : ℕ) (p : Part) → drop k parts ≡ p ∷ drop (k + 1) parts → falls_from above (drop k parts) ≡ true → list_all is_part (drop k parts) ≡ true → p.power ≡ None → IsLastPart parts k above p
last_part parts k above p read falls numbers none =
    let rest = drop (k + 1) parts in
    let last = number_last above p rest (ap (falls_from above) (sym read) ∙ falls) none in
    let number = (and_parts (is_number p.base) (is_exponent p.power) (and_parts (is_part p) (list_all is_part rest) (ap (list_all is_part) (sym read) ∙ numbers)).0).0 in
    let own : part_value p ≡ cond p.minus (neg_ℤ p.base) p.base = ap (λ o. cond p.minus (neg_ℤ (raised p.base o)) (raised p.base o)) none in
    record {
      value = sym (ap modulus_value read ∙ value_more p rest ∙ ap (λ ps. part_value p +ℤ modulus_value ps) last.ends ∙ ap (λ n. part_value p +ℤ n) value_none ∙ int_add_zero (part_value p) ∙ own);
      below = omega (arith, signed_value p.minus p.base, number_below p.base above number last.below);
      small = number_small p.base number;
    }

-- a power of 2, which other parts may follow
two_power : (k : ℕ) → power_of (pos 2) k ≡ pos (2 ^ k)
unfolding power_of
two_power zero = ap pos (sym (pow-zero 2))
two_power (suc k) = ap (λ n. pos 2 *ℤ n) (two_power k) ∙ omega (arith, ints, pow-suc 2 k)

pub sum_below : (j k : ℕ) (minus : Bool) (v : ℤ) → j < k → unsigned_abs v < 2 ^ j → unsigned_abs (cond minus (neg_ℤ (pos (2 ^ j))) (pos (2 ^ j)) +ℤ v) < 2 ^ k
sum_below j k true v h b =
    let more : 2 ^ suc j ≤ 2 ^ k = pow-le-pow_right {n = 2} (omega arith) {i = suc j} {j = k} h in
    omega (arith, ints, more, pow-suc 2 j, b)
sum_below j k false v h b =
    let more : 2 ^ suc j ≤ 2 ^ k = pow-le-pow_right {n = 2} (omega arith) {i = suc j} {j = k} h in
    omega (arith, ints, more, pow-suc 2 j, b)

pub record IsPowerPart (parts : List Part) (k above : ℕ) (p : Part) (j : ℕ) : Type 0 where
  pub less : j < above
  pub falls : falls_from j (drop (k + 1) parts) ≡ true
  pub numbers : list_all is_part (drop (k + 1) parts) ≡ true
  pub value : (v : ℤ) → v ≡ modulus_value (drop (k + 1) parts) → cond p.minus (neg_ℤ (pos (2 ^ j))) (pos (2 ^ j)) +ℤ v ≡ modulus_value (drop k parts)

power_own : (p : Part) (j : ℕ) → p.power ≡ Some j → p.base ≡ pos 2 → part_value p ≡ cond p.minus (neg_ℤ (pos (2 ^ j))) (pos (2 ^ j))
power_own p j e two =
    ap (λ o. cond p.minus (neg_ℤ (raised p.base o)) (raised p.base o)) e
    ∙ ap (λ b. cond p.minus (neg_ℤ (power_of b j)) (power_of b j)) two
    ∙ ap (λ n. cond p.minus (neg_ℤ n) n) (two_power j)

pub power_part : (parts : List Part) (k above : ℕ) (p : Part) (j : ℕ) → drop k parts ≡ p ∷ drop (k + 1) parts → falls_from above (drop k parts) ≡ true → list_all is_part (drop k parts) ≡ true → p.power ≡ Some j → IsPowerPart parts k above p j
power_part parts k above p j read falls numbers some =
    let rest = drop (k + 1) parts in
    let fall = power_falls above p rest j (ap (falls_from above) (sym read) ∙ falls) some in
    record {
      less = fall.less;
      falls = fall.rest;
      numbers = (and_parts (is_part p) (list_all is_part rest) (ap (list_all is_part) (sym read) ∙ numbers)).1;
      value = λ v e. sym (ap modulus_value read ∙ value_more p rest ∙ ap (λ n. n +ℤ modulus_value rest) (power_own p j some fall.two) ∙ ap (λ n. cond p.minus (neg_ℤ (pos (2 ^ j))) (pos (2 ^ j)) +ℤ n) (sym e));
    }

-- what the machine makes of a sum that fits
pub sum_fits : (a b x y : ℤ) → x ≡ a → y ≡ b → unsigned_abs (a +ℤ b) < 2 ^ 127 → FitsSigned w128 (x +ℤ y)
sum_fits a b x y p q h = subst (λ (z : ℤ). FitsSigned w128 z) (sym (ap (λ z. z +ℤ y) p ∙ ap (λ z. a +ℤ z) q)) (fits_signed_from_abs w128 (a +ℤ b) h)

pub machine_sum : (a b x y : ℤ) → x ≡ a → y ≡ b → unsigned_abs (a +ℤ b) < 2 ^ 127 → to_z w128 (of_z w128 (x +ℤ y)) ≡ a +ℤ b
machine_sum a b x y p q h =
    ap (λ z. to_z w128 (of_z w128 (z +ℤ y))) p ∙ ap (λ z. to_z w128 (of_z w128 (a +ℤ z))) q ∙ to_z-of_z w128 (a +ℤ b) (fits_signed_from_abs w128 (a +ℤ b) h)

pub below_word : (k n : ℕ) → k ≤ 126 → n < 2 ^ k → n < 2 ^ 127
below_word k n h b =
    let more : 2 ^ k ≤ 2 ^ 126 = pow-le-pow_right {n = 2} (omega arith) {i = k} {j = 126} h in
    omega (arith, more, b)

pub first_sum : (k : ℕ) (v : ℤ) → k ≤ 126 → unsigned_abs v < 2 ^ k → unsigned_abs (pos (2 ^ k) +ℤ v) < 2 ^ 127
first_sum k v h b =
    let more : 2 ^ k ≤ 2 ^ 126 = pow-le-pow_right {n = 2} (omega arith) {i = k} {j = 126} h in
    omega (arith, ints, more, b)

-- the first part: a number from 1, or a power of 2 that has a plus
not_true : (b : Bool) → not b ≡ true → b ≡ false
not_true true e = absurd (cc)
not_true false e = refl

pub record IsNumber (p : Part) (ps : List Part) : Type 0 where
  pub value : p.base ≡ modulus_value (p ∷ ps)
  pub positive : pos 0 <ℤ p.base

number_first : (minus : Bool) (base : ℤ) (o : Option ℕ) (ps : List Part) → begins_modulus minus base o ps ≡ true → o ≡ None → (minus ≡ false) × (ps ≡ []) × (int_lt (pos 0) base ≡ true)
number_first minus base None [] e n =
    let parts = and_parts (not minus) (int_lt (pos 0) base) e in (not_true minus parts.0, refl, parts.1)
number_first minus base None (p ∷ ps) e n = absurd (cc)
number_first minus base (Some k) ps e n = absurd (cc)

pub first_number : (p : Part) (ps : List Part) → is_modulus (p ∷ ps) ≡ true → p.power ≡ None → IsNumber p ps
first_number p ps e n =
    let f = number_first p.minus p.base p.power ps e n in
    record {
      value = sym (value_more p ps ∙ ap (λ qs. part_value p +ℤ modulus_value qs) f.1 ∙ ap (λ m. part_value p +ℤ m) value_none ∙ int_add_zero (part_value p)
          ∙ ap (λ o. cond p.minus (neg_ℤ (raised p.base o)) (raised p.base o)) n ∙ ap (λ b. cond b (neg_ℤ p.base) p.base) f.0);
      positive = omega (arith, ints, f.2);
    }

pub record IsPower (p : Part) (ps : List Part) (k : ℕ) : Type 0 where
  pub falls : falls_from k ps ≡ true
  pub value : pos (2 ^ k) +ℤ modulus_value ps ≡ modulus_value (p ∷ ps)

power_first : (minus : Bool) (base : ℤ) (o : Option ℕ) (ps : List Part) (k : ℕ) → begins_modulus minus base o ps ≡ true → o ≡ Some k → (minus ≡ false) × (base ≡ pos 2) × (falls_from k ps ≡ true)
power_first minus base None [] k e s = absurd (cc)
power_first minus base None (p ∷ ps) k e s = absurd (cc)
power_first minus base (Some j) ps k e s =
    let parts = and_parts (not minus && int_eq base (pos 2)) (falls_from j ps) e in
    let left = and_parts (not minus) (int_eq base (pos 2)) parts.0 in
    (not_true minus left.0, two_is base left.1, ap (λ i. falls_from i ps) (sym (some_is j k s)) ∙ parts.1)
  where
    some_is : (i j : ℕ) → Some i ≡ Some j → i ≡ j
    some_is i j e = cc

pub first_power : (p : Part) (ps : List Part) (k : ℕ) → is_modulus (p ∷ ps) ≡ true → p.power ≡ Some k → IsPower p ps k
first_power p ps k e s =
    let f = power_first p.minus p.base p.power ps k e s in
    record {
      falls = f.2;
      value = sym (value_more p ps ∙ ap (λ n. n +ℤ modulus_value ps) (power_own p k s f.1 ∙ ap (λ b. cond b (neg_ℤ (pos (2 ^ k))) (pos (2 ^ k))) f.0));
    }

pub positive_sum : (k : ℕ) (v : ℤ) → unsigned_abs v < 2 ^ k → pos 0 <ℤ (pos (2 ^ k) +ℤ v)
positive_sum k v b = omega (arith, ints, b)

-- the same of the first part that is read
pub record IsFirstPower (parts : List Part) (k : ℕ) : Type 0 where
  pub narrow : k ≤ 126
  pub value : pos (2 ^ k) +ℤ modulus_value (drop 1 parts) ≡ modulus_value parts

narrow_power : (o : Option ℕ) (k : ℕ) → moduli.begins_wide o ≡ false → o ≡ Some k → k ≤ 126
narrow_power None k e s = absurd (cc)
narrow_power (Some j) k e s = subst (λ (n : ℕ). n ≤ 126) (same j k s) (at_most j e)
  where
    same : (j k : ℕ) → Some j ≡ Some k → j ≡ k
    same j k e = cc

    at_most : (j : ℕ) → nat_lt 126 j ≡ false → j ≤ 126
    at_most j e = grind (arith, nat_tests)

pub first_power_read : (parts : List Part) (d : Part) (k : ℕ) → is_modulus parts ≡ true → begins_wide parts ≡ false → (get_or parts 0 d).power ≡ Some k → IsFirstPower parts k
first_power_read [] d k e b s = absurd (cc)
first_power_read (p ∷ ps) d k e b s = record { narrow = narrow_power p.power k b s; value = (first_power p ps k e s).value }

pub first_number_read : (parts : List Part) (d : Part) → is_parts (Some parts) ≡ true → is_modulus parts ≡ true → (get_or parts 0 d).power ≡ None → (get_or parts 0 d).base ≡ modulus_value parts
first_number_read [] d h e n = absurd (cc)
first_number_read (p ∷ ps) d h e n = (first_number p ps e n).value

pub sum_sign : (k : ℕ) (v : ℤ) → unsigned_abs v < 2 ^ k → pos (unsigned_abs (pos (2 ^ k) +ℤ v)) ≡ pos (2 ^ k) +ℤ v
sum_sign k v b = omega (arith, ints, b)

-- the parts after the first, as a text has them
pub rest_numbers : (p : Part) (ps : List Part) → is_parts (Some (p ∷ ps)) ≡ true → list_all is_part ps ≡ true
rest_numbers p ps e = (and_parts (is_part p) (list_all is_part ps) (and_parts (not p.minus) (list_all is_part (p ∷ ps)) e).1).1

pub some_part : (parts : List Part) → is_modulus parts ≡ true → 0 < length parts
some_part [] e = absurd (cc)
some_part (p ∷ ps) e = omega arith

pub first_read : (parts : List Part) (d : Part) → 0 < length parts → parts ≡ get_or parts 0 d ∷ drop 1 parts
first_read [] d h = absurd (omega arith)
first_read (p ∷ ps) d h = refl

-- wide moduli
pub wide_is : (parts : List Part) → is_wide_modulus parts ≡ (begins_wide parts || int_lt (pos (2 ^ 126)) (modulus_value parts))
wide_is [] = sym (ap (λ n. false || int_lt (pos (2 ^ 126)) n) value_none)
wide_is (p ∷ ps) = refl

-- the modulus of each line of a versioned form is one that typing allows
sound_given : (m : Option (List Part)) → is_parts m ≡ true → is_sound_modulus m ≡ true → IsSound m
sound_given None s e = tt
sound_given (Some parts) s e = record { shape = s; sound = e }

predicate_sound : (p : Pred) → is_predicate p ≡ true → has_sound_modulus (Some p) ≡ true → StatesSound (Some p)
predicate_sound (Alg p) s e = sound_given p.modulus (and_parts (is_term p.left && is_term p.right) (is_parts p.modulus) s).1 e
predicate_sound (Rng p) s e = tt

line_sound : (types : List (Option Ty)) (l : Line) → is_line l ≡ true → HasNoReason types l → HasSoundModulus l
line_sound types (Input T v) s n = tt
line_sound types (Pre p) s n = predicate_sound p s n.modulus
line_sound types (Step i) s n = tt
line_sound types (Assert p) s n = predicate_sound p s n.modulus
line_sound types (Assume p) s n = predicate_sound p s n.modulus
line_sound types (Cut p) s n = predicate_sound p s n.modulus
line_sound types (Post p) s n = predicate_sound p s n.modulus

pub modulus_at : (f : VersionedProgram) (k : ℕ) (l : Line) → IsWellFormed f → slice_get f.lines k ≡ Some l → HasSoundModulus l
modulus_at f k l w at =
    line_sound (types_at (length f.variables) f.lines k) l (line_shape (length f.variables) f.lines k l w.runnable at)
    (line_typed (length f.variables) f.lines k l w.runnable.typed at)
