-- Lists of factors by places: what a loop over them reads.
use Rattle.std.proofs.Common.{◌≡◌, ℕ, zero, suc, ◌+◌, ◌<◌, ◌≤◌, refl, sym, ◌∙◌, ap, arith, List, [], ◌∷◌, ◌++◌, length, drop, get_or, Less, Equal, Greater, drop-cons, add-one}
use Rattle.tcl_poly.specs.declared.factor.Factor.{Factor}
use Rattle.tcl_poly.specs.Unknown.{factor_of, factors_of}
use Rattle.tcl_poly.specs.Monomial.{Monomial, degree, lex}

pub factors_append : (a b : List Factor) → factors_of (a ++ b) ≡ factors_of a ++ factors_of b
factors_append [] b = refl
factors_append (f ∷ a) b = ap (λ m. factor_of f ∷ m) (factors_append a b)

pub degree_append : (m n : Monomial) → degree (m ++ n) ≡ degree m + degree n
degree_append [] n = omega arith
degree_append (f ∷ m) n = omega (arith, degree_append m n)

-- the factors from place k on begin with the factor at k
pub factors_from : (a : List Factor) (k : ℕ) (d : Factor) → k < length a → factors_of (drop k a) ≡ factor_of (get_or a k d) ∷ factors_of (drop (k + 1) a)
factors_from a k d h = ap factors_of (drop-cons a k d h ∙ ap (λ n. get_or a k d ∷ drop n a) (sym (add-one k)))

-- past its end nothing is left of a list
pub past_end : {X : Type 0} (xs : List X) (k : ℕ) → length xs ≤ k → drop k xs ≡ []
past_end [] zero h = refl
past_end [] (suc k) h = refl
past_end (x ∷ xs) zero h = absurd (omega arith)
past_end (x ∷ xs) (suc k) h = past_end xs k (omega arith)

pub lex_longer : (a b : List Factor) (k : ℕ) (d : Factor) → k < length a → length b ≤ k → lex (factors_of (drop k a)) (factors_of (drop k b)) ≡ Greater
lex_longer a b k d h j = (λ i. lex (factors_from a k d h i) (factors_of (past_end b k j i)))

pub lex_shorter : (a b : List Factor) (k : ℕ) (d : Factor) → length a ≤ k → k < length b → lex (factors_of (drop k a)) (factors_of (drop k b)) ≡ Less
lex_shorter a b k d h j = (λ i. lex (factors_of (past_end a k h i)) (factors_from b k d j i))

pub lex_both : (a b : List Factor) (k : ℕ) → length a ≤ k → length b ≤ k → lex (factors_of (drop k a)) (factors_of (drop k b)) ≡ Equal
lex_both a b k h j = (λ i. lex (factors_of (past_end a k h i)) (factors_of (past_end b k j i)))
