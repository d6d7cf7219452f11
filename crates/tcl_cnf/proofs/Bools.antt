-- Tests of numbers and of truth values that the other files share.
use Rattle.std.proofs.Common.{◌≡◌, ℕ, Bool, true, false, ◌&&◌, ◌||◌, eqb, refl, sym, ◌∙◌, inl, inr}
use Rattle.std.proofs.lemmas.Bool.{eq-eqb, ne_eqb, eqb-true, eqb-false, true≢false, cases_Bool}

pub eqb-self : (x : ℕ) → eqb x x ≡ true
eqb-self x = eq-eqb x x refl

pub eqb-sym : (x y : ℕ) → eqb x y ≡ eqb y x
eqb-sym x y = elim (cases_Bool (eqb x y)) [ inl e ↦ e ∙ sym (eq-eqb y x (sym (eqb-true x y e))) | inr e ↦ e ∙ sym (ne_eqb y x (λ h. eqb-false x y e (sym h))) ]

pub true-false : (b : Bool) → b ≡ true → b ≡ false → ⊥
true-false b p q = true≢false (sym p ∙ q)

pub or-assoc : (a b c : Bool) → ((a || b) || c) ≡ (a || (b || c))
or-assoc true b c = refl
or-assoc false b c = refl

pub or-swap : (a b c : Bool) → (a || (b || c)) ≡ (b || (a || c))
or-swap true true c = refl
or-swap true false c = refl
or-swap false true c = refl
or-swap false false c = refl

pub or-true : (a : Bool) → (a || true) ≡ true
or-true true = refl
or-true false = refl

pub or-false : (a : Bool) → (a || false) ≡ a
or-false true = refl
or-false false = refl

pub and-or : (a b c : Bool) → (a && (b || c)) ≡ ((a && b) || (a && c))
and-or true b c = refl
and-or false b c = refl

pub and-true : (a : Bool) → (a && true) ≡ a
and-true true = refl
and-true false = refl

-- two tests that hold together are equal
pub same_bool : (a b : Bool) → (a ≡ true → b ≡ true) → (b ≡ true → a ≡ true) → a ≡ b
same_bool true b f g = sym (f refl)
same_bool false true f g = g refl
same_bool false false f g = refl
