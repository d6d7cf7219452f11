-- The list of the parts of a polynomial, filled term by term.
use Rattle.std.proofs.Common.{◌≡◌, ℕ, suc, max, ◌<◌, ◌≤◌, ◌==◌, ◌⊎◌, inl, inr, refl, sym, ◌∙◌, ap, arith, Bool, true, false, if◌then◌else◌, List, [], ◌∷◌, ◌++◌, length, ℤ, append_assoc, append-nil, eq-eqb, eqb-true, false-eqb}
use Rattle.std.proofs.lemmas.Bool.{ne_eqb}
use Rattle.tcl_poly.specs.Monomial.{Monomial, exponent, IsMonomialFrom}
use Rattle.tcl_poly.specs.Polynomial.{Polynomial, IsPolynomial, terms_of, degree_of}
use Rattle.tcl_poly.proofs.Degrees.{IsWithin, degree_within}
use Rattle.tcl_poly.proofs.TermLists.{degree_of_values}
use Rattle.tcl_reduce.specs.Parts.{without, part, top, by_power}
use Rattle.tcl_reduce.proofs.PartLemmas.{degree_without}
use Rattle.tcl_reduce.proofs.ValueLists.{top_values}

-- ---- one term

one_here : {E : Type 0} (u k : ℕ) (m : Monomial) (c : E) → exponent m u ≡ k → part u k ((m, c) ∷ []) ≡ (without u m, c) ∷ []
one_here u k m c e = ap (λ b. if b then (without u m, c) ∷ [] else []) (eq-eqb (exponent m u) k e)

one_elsewhere : {E : Type 0} (u k : ℕ) (m : Monomial) (c : E) → (exponent m u ≡ k → ⊥) → part u k ((m, c) ∷ []) ≡ []
one_elsewhere u k m c n = ap (λ b. if b then (without u m, c) ∷ [] else []) (ne_eqb (exponent m u) k n)

keep_same : (b : Bool) (f : ℕ × ℕ) (m n : Monomial) (u : ℕ) → (f.0 == u) ≡ b → 0 < f.1 → exponent (f ∷ m) u ≡ 0 → (exponent m u ≡ 0 → n ≡ m) → (if b then n else f ∷ n) ≡ f ∷ m
keep_same true f m n u s p e h = absurd (omega (arith, e, p, ap (λ x. if x then f.1 else 0) s))
keep_same false f m n u s p e h = ap (λ x. f ∷ x) (h (omega (arith, e)))

pub without_same : (least u : ℕ) (m : Monomial) → IsMonomialFrom least m → exponent m u ≡ 0 → without u m ≡ m
without_same least u [] h e = refl
without_same least u (f ∷ m) h e = keep_same (f.0 == u) f m (without u m) u refl h.1 e (λ z. without_same (suc f.0) u m h.2 z)

part_split_at : {E : Type 0} (b : Bool) (t : Monomial × E) (p : List (Monomial × E)) → (if b then t ∷ p else p) ≡ (if b then t ∷ [] else []) ++ p
part_split_at true t p = refl
part_split_at false t p = refl

-- the first term's part, and that of the others
part_split : {E : Type 0} (u k : ℕ) (t : Monomial × E) (p : List (Monomial × E)) → part u k (t ∷ p) ≡ part u k (t ∷ []) ++ part u k p
part_split u k t p = part_split_at (exponent t.0 u == k) (without u t.0, t.1) (part u k p)

-- ---- one turn over the terms

pub parts_turn : {E : Type 0} (u : ℕ) (f all rest : List (Monomial × E)) (t : Monomial × E) (old new : List (List (Monomial × E))) → all ≡ t ∷ rest → ((k : ℕ) → by_power new k ≡ by_power old k ++ part u k (t ∷ [])) → ((k : ℕ) → by_power old k ++ part u k all ≡ part u k f) → (k : ℕ) → by_power new k ++ part u k rest ≡ part u k f
parts_turn u f all rest t old new e added before k =
    ap (λ x. x ++ part u k rest) (added k)
    ∙ append_assoc (by_power old k) (part u k (t ∷ [])) (part u k rest)
    ∙ ap (λ x. by_power old k ++ x) (sym (part_split u k t rest) ∙ ap (part u k) (sym e))
    ∙ before k

pub top_turn : {E : Type 0} (u : ℕ) (f all rest : List (Monomial × E)) (t : Monomial × E) (old new : ℕ) → all ≡ t ∷ rest → new ≡ max old (suc (exponent t.0 u)) → max old (suc (top u all)) ≡ suc (top u f) → max new (suc (top u rest)) ≡ suc (top u f)
top_turn u f all rest t old new e n before = omega (arith, n, before, ap (top u) e)

nothing_left : {X : Type 0} (xs : List X) → length xs ≡ 0 → xs ≡ []
nothing_left [] h = refl
nothing_left (x ∷ xs) h = absurd (omega (arith, h))

pub parts_end : {E : Type 0} (u : ℕ) (f rest : List (Monomial × E)) (fs : List (List (Monomial × E))) → length rest ≡ 0 → ((k : ℕ) → by_power fs k ++ part u k rest ≡ part u k f) → (k : ℕ) → by_power fs k ≡ part u k f
parts_end u f rest fs h all k =
    sym (append-nil (by_power fs k)) ∙ ap (λ x. by_power fs k ++ part u k x) (sym (nothing_left rest h)) ∙ all k

pub top_end : {E : Type 0} (u : ℕ) (f rest : List (Monomial × E)) (n : ℕ) → 0 < n → length rest ≡ 0 → max n (suc (top u rest)) ≡ suc (top u f) → n ≡ suc (top u f)
top_end u f rest n p h e = omega (arith, p, e, ap (top u) (nothing_left rest h))

-- ---- the list of parts

same_or_other_at : (b : Bool) (k n : ℕ) → (k == n) ≡ b → (k ≡ n) ⊎ (k ≡ n → ⊥)
same_or_other_at true k n e = inl (eqb-true k n e)
same_or_other_at false k n e = inr (false-eqb k n (sym e))

same_or_other : (k n : ℕ) → (k ≡ n) ⊎ (k ≡ n → ⊥)
same_or_other k n = same_or_other_at (k == n) k n refl

pub term_added : {E : Type 0} (u p : ℕ) (m rest : Monomial) (c : E) (old wide new : List (List (Monomial × E))) → p ≡ exponent m u → rest ≡ without u m → ((k : ℕ) → by_power wide k ≡ by_power old k) → by_power new p ≡ by_power wide p ++ (rest, c) ∷ [] → ((k : ℕ) → (k ≡ p → ⊥) → by_power new k ≡ by_power wide k) → (k : ℕ) → by_power new k ≡ by_power old k ++ part u k ((m, c) ∷ [])
term_added u p m rest c old wide new e w same here others k = elim (same_or_other k p) [
  | inl s ↦ ap (by_power new) s ∙ here ∙ (λ i. same p i ++ (w i, c) ∷ []) ∙ (λ i. by_power old (sym s i) ++ sym (one_here u k m c (sym e ∙ sym s)) i)
  | inr n ↦ others k n ∙ same k ∙ sym (append-nil (by_power old k)) ∙ ap (λ x. by_power old k ++ x) (sym (one_elsewhere u k m c (λ s. n (sym s ∙ sym e))))
]

-- ---- the greatest power is at most the degree

top_within : (n u : ℕ) (f : Polynomial) → IsWithin n f → top u f ≤ n
top_within n u [] h = omega arith
top_within n u (t ∷ f) h = omega (arith, h.0, degree_without u t.0, top_within n u f h.1)

pub top_degree : {E : Type 0} (r : ℤ → ℤ) (value : E → ℤ) (u : ℕ) (f : List (Monomial × E)) → IsPolynomial r (terms_of value f) → top u f ≤ degree_of f
top_degree r value u f h =
    omega (arith, top_values value u f, degree_of_values value f, top_within (degree_of (terms_of value f)) u (terms_of value f) (degree_within r (terms_of value f) h))
