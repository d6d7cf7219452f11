-- The first number that passes a test.
use Rattle.std.proofs.Common.{◌≡◌, refl, ap, ◌∙◌, nat_lt, ℕ, zero, suc, ◌<◌, ◌≤◌, ◌⊎◌, inl, inr, subst, arith, Bool, true, false, Option, Some, None}
use Rattle.std.specs.Option.{is_none}
use Rattle.std.proofs.lemmas.Bool.{cases_Bool}
use Rattle.std.proofs.lemmas.Bool.Decides.{nat_tests}
use Rattle.tcl_board.specs.Moves.{first_below, or_this}

pub lt_or_same : (j k : ℕ) → j < suc k → (j < k) ⊎ (j ≡ k)
lt_or_same zero zero h = inr refl
lt_or_same zero (suc k) h = inl (omega arith)
lt_or_same (suc j) zero h = absurd (omega arith)
lt_or_same (suc j) (suc k) h = elim (lt_or_same j k (omega arith)) [ inl less ↦ inl (omega arith) | inr same ↦ inr (ap suc same) ]

first_here : (test : ℕ → Bool) (n : ℕ) → first_below test n ≡ None → test n ≡ true → first_below test (suc n) ≡ Some n
unfolding first_below
first_here test n e f = rw (e, f) refl

first_stays : (test : ℕ → Bool) (n k : ℕ) → first_below test n ≡ Some k → first_below test (suc n) ≡ Some k
unfolding first_below
first_stays test n k e = rw e refl

pub first_found : (test : ℕ → Bool) (n k : ℕ) → first_below test k ≡ None → test k ≡ true → k < n → first_below test n ≡ Some k
first_found test zero k e f h = absurd (omega arith)
first_found test (suc n) k e f h = elim (lt_or_same k n h) [
  | inl less ↦ first_stays test n k (first_found test n k e f less)
  | inr same ↦ subst (λ t. first_below test (suc t) ≡ Some k) same (first_here test k e f)
]

-- what is found passes the test, and is below n
pub record IsFirst (test : ℕ → Bool) (n k : ℕ) : Type 0 where
  pub below : k < n
  pub passes : test k ≡ true

some_same : (m n : ℕ) → Some m ≡ Some n → m ≡ n
some_same m n e = cc

none_some : (n : ℕ) → None ≡ Some n → ⊥
none_some n e = absurd (cc)

from_last : (test : ℕ → Bool) (n k : ℕ) (o : Option ℕ) (b : Bool) → first_below test n ≡ o → test n ≡ b → ((j : ℕ) → first_below test n ≡ Some j → IsFirst test n j) → or_this o b n ≡ Some k → IsFirst test (suc n) k
from_last test n k (Some j) b e f before h =
    let same = some_same j k h in
    let found = before k (e ∙ h) in
    record { below = omega (arith, found.below); passes = found.passes }
from_last test n k None true e f before h =
    let same = some_same n k h in
    record { below = omega arith; passes = subst (λ t. test t ≡ true) same f }
from_last test n k None false e f before h = absurd (none_some k h)

pub first_is : (test : ℕ → Bool) (n k : ℕ) → first_below test n ≡ Some k → IsFirst test n k
unfolding first_below
first_is test zero k e = absurd (none_some k e)
first_is test (suc n) k e = from_last test n k (first_below test n) (test n) refl refl (first_is test n) e

-- no number below n passes the test
none_or : (o : Option ℕ) (b : Bool) (n : ℕ) → is_none (or_this o b n) ≡ true → (is_none o ≡ true) × (b ≡ false)
none_or (Some k) b n e = absurd (cc)
none_or None true n e = absurd (cc)
none_or None false n e = (refl, refl)

pub none_passes : (test : ℕ → Bool) (n k : ℕ) → is_none (first_below test n) ≡ true → k < n → test k ≡ false
unfolding first_below
none_passes test zero k e h = absurd (omega arith)
none_passes test (suc n) k e h =
    let parts = none_or (first_below test n) (test n) n e in
    elim (cases_Bool (nat_lt k n)) [
      | inl less ↦ none_passes test n k parts.0 (below_here k n less)
      | inr far ↦
          let same : n ≡ k = omega (arith, not_below k n far, h) in
          subst (λ t. test t ≡ false) same parts.1
    ]
  where
    below_here : (a b : ℕ) → nat_lt a b ≡ true → a < b
    below_here a b e = grind (arith, nat_tests)

    not_below : (a b : ℕ) → nat_lt a b ≡ false → b ≤ a
    not_below a b e = grind (arith, nat_tests)

-- where only one number passes, it is the first
pub first_only : (test : ℕ → Bool) (n k : ℕ) → k < n → test k ≡ true → ((j : ℕ) → test j ≡ true → j ≡ k) → first_below test n ≡ Some k
first_only test n k h e one = only_in test n k h e one (first_below test n) refl
  where
    clash : (b : Bool) → b ≡ true → b ≡ false → ⊥
    clash b e f = cc

    only_in : (test : ℕ → Bool) (n k : ℕ) → k < n → test k ≡ true → ((j : ℕ) → test j ≡ true → j ≡ k) → (o : Option ℕ) → first_below test n ≡ o → o ≡ Some k
    only_in test n k h e one None f = absurd (clash (test k) e (none_passes test n k (ap is_none f) h))
    only_in test n k h e one (Some j) f = ap Some (one j (first_is test n j f).passes)

-- where no number passes, none is found
pub none_found : (test : ℕ → Bool) (n : ℕ) → ((k : ℕ) → k < n → test k ≡ false) → first_below test n ≡ None
unfolding first_below
none_found test zero f = refl
none_found test (suc n) f = rw (none_found test n (λ k h. f k (omega (arith, h))), f n (omega arith)) refl
