-- What lists of literals have, after each of the operations on them.
use Rattle.std.proofs.Common.{◌≡◌, ℕ, ◌/◌, Bool, true, false, not, ◌&&◌, ◌||◌, cond, eqb, ltb, List, [], ◌∷◌, ◌++◌, filter, refl, sym, ◌∙◌, ap, arith, inl, inr}
use Rattle.std.proofs.lemmas.Bool.{eq-eqb, eqb-true, cases_Bool}
use Rattle.tcl_cnf.specs.Literal.{neg}
use Rattle.tcl_cnf.specs.Clause.{has, without, put, union}
use Rattle.tcl_cnf.proofs.Bools.{or-assoc, or-swap, or-false, same_bool}

-- negation is its own inverse
pub neg-neg : (l : ℕ) → neg (neg l) ≡ l
unfolding neg
neg-neg l = omega arith

-- a literal is not its negation
pub neg-other : (l : ℕ) → neg l ≡ l → ⊥
unfolding neg
neg-other l e = omega (arith, e)

-- a literal and its negation are of one variable
pub neg-half : (l : ℕ) → neg l / 2 ≡ l / 2
unfolding neg
neg-half l = omega arith

-- literals with equal negations are equal
pub neg-same : (l m : ℕ) → neg l ≡ neg m → l ≡ m
neg-same l m e = sym (neg-neg l) ∙ ap neg e ∙ neg-neg m

pub eqb-neg : (l m : ℕ) → eqb (neg l) m ≡ eqb l (neg m)
eqb-neg l m = same_bool (eqb (neg l) m) (eqb l (neg m)) (λ e. eq-eqb l (neg m) (sym (neg-neg l) ∙ ap neg (eqb-true (neg l) m e))) (λ e. eq-eqb (neg l) m (ap neg (eqb-true l (neg m) e) ∙ neg-neg m))

pub has-append : (x : ℕ) (ys zs : List ℕ) → has x (ys ++ zs) ≡ (has x ys || has x zs)
has-append x [] zs = refl
has-append x (y ∷ ys) zs = ap (λ b. eqb y x || b) (has-append x ys zs) ∙ sym (or-assoc (eqb y x) (has x ys) (has x zs))

without_one : (x y z : ℕ) (ys : List ℕ) (b : Bool) → not (eqb z y) ≡ b → has x (without y ys) ≡ (not (eqb x y) && has x ys)
    → has x (cond b (z ∷ without y ys) (without y ys)) ≡ (not (eqb x y) && (eqb z x || has x ys))
without_one x y z ys true e h =
    ap (λ t. eqb z x || t) h ∙ elim (cases_Bool (eqb z x)) [
      | inl s ↦ rw s (rw (sym (ap (λ t. not (eqb t y)) (eqb-true z x s)) ∙ e) refl)
      | inr s ↦ rw s refl
    ]
without_one x y z ys false e h =
    h ∙ elim (cases_Bool (eqb z x)) [
      | inl s ↦ rw s (rw (sym (ap (λ t. not (eqb t y)) (eqb-true z x s)) ∙ e) refl)
      | inr s ↦ rw s refl
    ]

pub has-without : (x y : ℕ) (ys : List ℕ) → has x (without y ys) ≡ (not (eqb x y) && has x ys)
has-without x y [] = elim (cases_Bool (eqb x y)) [ inl e ↦ rw e refl | inr e ↦ rw e refl ]
has-without x y (z ∷ ys) = without_one x y z ys (not (eqb z y)) refl (has-without x y ys)

put_one : (x y z : ℕ) (ys : List ℕ) (a b : Bool) → eqb y z ≡ a → has x (put y ys) ≡ (eqb y x || has x ys)
    → has x (cond a (z ∷ ys) (cond b (y ∷ z ∷ ys) (z ∷ put y ys))) ≡ (eqb y x || (eqb z x || has x ys))
put_one x y z ys true b e h = rw (eqb-true y z e) (elim (cases_Bool (eqb z x)) [ inl s ↦ rw s refl | inr s ↦ rw s refl ])
put_one x y z ys false true e h = refl
put_one x y z ys false false e h = ap (λ t. eqb z x || t) h ∙ or-swap (eqb z x) (eqb y x) (has x ys)

pub has-put : (x y : ℕ) (ys : List ℕ) → has x (put y ys) ≡ (eqb y x || has x ys)
has-put x y [] = refl
has-put x y (z ∷ ys) = put_one x y z ys (eqb y z) (ltb y z) refl (has-put x y ys)

pub has-union : (x : ℕ) (c d : List ℕ) → has x (union c d) ≡ (has x c || has x d)
has-union x c [] = sym (or-false (has x c))
has-union x c (l ∷ d) =
    has-union x (put l c) d ∙ ap (λ t. t || has x d) (has-put x l c) ∙ or-assoc (eqb l x) (has x c) (has x d) ∙ or-swap (eqb l x) (has x c) (has x d)

filter_one : (p : ℕ → Bool) (x y : ℕ) (ys : List ℕ) (b : Bool) → p y ≡ b → has x (filter p ys) ≡ (p x && has x ys)
    → has x (cond b (y ∷ filter p ys) (filter p ys)) ≡ (p x && (eqb y x || has x ys))
filter_one p x y ys true e h =
    ap (λ t. eqb y x || t) h ∙ elim (cases_Bool (eqb y x)) [
      | inl s ↦ rw s (rw (sym (ap p (eqb-true y x s)) ∙ e) refl)
      | inr s ↦ rw s refl
    ]
filter_one p x y ys false e h =
    h ∙ elim (cases_Bool (eqb y x)) [
      | inl s ↦ rw s (rw (sym (ap p (eqb-true y x s)) ∙ e) refl)
      | inr s ↦ rw s refl
    ]

-- a filter keeps the members that pass
pub has-filter : (p : ℕ → Bool) (x : ℕ) (ys : List ℕ) → has x (filter p ys) ≡ (p x && has x ys)
has-filter p x [] = elim (cases_Bool (p x)) [ inl e ↦ rw e refl | inr e ↦ rw e refl ]
has-filter p x (y ∷ ys) = filter_one p x y ys (p y) refl (has-filter p x ys)
