-- The first number that passes a test.
use Rattle.std.proofs.Common.{◌≡◌, ℕ, zero, suc, ◌+◌, ◌-◌, ◌<◌, inl, inr, refl, sym, ◌∙◌, ap, arith, add-one, Bool, true, false, cond, [], ◌∷◌, ◌++◌, Option, Some, None}
use Rattle.std.specs.Prelude.{find}
use Rattle.std.specs.Option.{option_or}
use Rattle.std.proofs.lemmas.Bool.{cases_lt}
use Rattle.std.proofs.lemmas.List.Folds.{find-append}
use Rattle.tcl_goals.specs.Numbers.{numbers_below}
use Rattle.tcl_goals.proofs.Numbers.{those_none, those_yes}

-- one number more
below_more : (n : ℕ) → numbers_below (suc n) ≡ numbers_below n ++ n ∷ []
below_more n = those_yes (λ k. true) n refl

find_more : (test : ℕ → Bool) (n : ℕ) → find test (numbers_below (suc n)) ≡ option_or (find test (numbers_below n)) (find test (n ∷ []))
find_more test n = ap (find test) (below_more n) ∙ find-append test (numbers_below n) (n ∷ [])

one_no : (test : ℕ → Bool) (n : ℕ) → test n ≡ false → find test (n ∷ []) ≡ None
one_no test n e = ap (λ b. cond b (Some n) None) e

one_yes : (test : ℕ → Bool) (n : ℕ) → test n ≡ true → find test (n ∷ []) ≡ Some n
one_yes test n e = ap (λ b. cond b (Some n) None) e

pub found_none : (test : ℕ → Bool) → find test (numbers_below 0) ≡ None
found_none test = ap (find test) (those_none (λ k. true))

pub next_none : (test : ℕ → Bool) (n : ℕ) → find test (numbers_below n) ≡ None → test n ≡ false → find test (numbers_below (n + 1)) ≡ None
next_none test n e f =
    ap (λ k. find test (numbers_below k)) (add-one n) ∙ find_more test n ∙ ap (λ o. option_or o (find test (n ∷ []))) e ∙ one_no test n f

next_found : (test : ℕ → Bool) (n : ℕ) → find test (numbers_below n) ≡ None → test n ≡ true → find test (numbers_below (suc n)) ≡ Some n
next_found test n e f = find_more test n ∙ ap (λ o. option_or o (find test (n ∷ []))) e ∙ one_yes test n f

stays : (test : ℕ → Bool) (x n d : ℕ) → find test (numbers_below n) ≡ Some x → find test (numbers_below (n + d)) ≡ Some x
stays test x n zero e = let same : n + 0 ≡ n = omega arith in ap (λ k. find test (numbers_below k)) same ∙ e
stays test x n (suc d) e =
    let same : n + suc d ≡ suc (n + d) = omega arith in
    ap (λ k. find test (numbers_below k)) same ∙ find_more test (n + d) ∙ ap (λ o. option_or o (find test ((n + d) ∷ []))) (stays test x n d e)

-- the first that passes
pub found_first : (test : ℕ → Bool) (n count : ℕ) → n < count → find test (numbers_below n) ≡ None → test n ≡ true → find test (numbers_below count) ≡ Some n
found_first test n count h e f =
    let same : suc n + (count - suc n) ≡ count = omega arith in
    ap (λ k. find test (numbers_below k)) (sym same) ∙ stays test n (suc n) (count - suc n) (next_found test n e f)

-- where none is found none passes
both_none : (o p : Option ℕ) → option_or o p ≡ None → (o ≡ None) × (p ≡ None)
both_none None p e = (refl, e)
both_none (Some x) p e = absurd (cc)

one_none : (test : ℕ → Bool) (n : ℕ) → find test (n ∷ []) ≡ None → test n ≡ false
one_none test n e = at (test n) e
  where
    at : (b : Bool) → cond b (Some n) None ≡ None → b ≡ false
    at true f = absurd (cc)
    at false f = refl

pub none_passes : (test : ℕ → Bool) (count n : ℕ) → find test (numbers_below count) ≡ None → n < count → test n ≡ false
none_passes test zero n e h = absurd (omega arith)
none_passes test (suc m) n e h =
    let both = both_none (find test (numbers_below m)) (find test (m ∷ [])) (sym (find_more test m) ∙ e) in
    elim (cases_lt n m) [
      | inl less ↦ none_passes test m n both.0 less
      | inr least ↦ let same : n ≡ m = omega (arith, least, h) in ap test same ∙ one_none test m both.1
    ]

-- what is found passes
one_some : (test : ℕ → Bool) (m n : ℕ) → find test (m ∷ []) ≡ Some n → (m ≡ n) × (test m ≡ true)
one_some test m n e = at (test m) e
  where
    same : (a b : ℕ) → Some a ≡ Some b → a ≡ b
    same a b f = cc

    at : (b : Bool) → cond b (Some m) None ≡ Some n → (m ≡ n) × (b ≡ true)
    at true f = (same m n f, refl)
    at false f = absurd (cc)

pub found_passes : (test : ℕ → Bool) (count n : ℕ) → find test (numbers_below count) ≡ Some n → (n < count) × (test n ≡ true)
found_passes test zero n e = absurd (clash (find test (numbers_below 0)) (found_none test) e)
  where
    clash : (o : Option ℕ) → o ≡ None → o ≡ Some n → ⊥
    clash o p q = cc
found_passes test (suc m) n e = at (find test (numbers_below m)) refl (sym (find_more test m) ∙ e) (λ f. found_passes test m n f)
  where
    at : (o : Option ℕ) → find test (numbers_below m) ≡ o → option_or o (find test (m ∷ [])) ≡ Some n → (find test (numbers_below m) ≡ Some n → (n < m) × (test n ≡ true)) → (n < suc m) × (test n ≡ true)
    at None g f rest = let one = one_some test m n f in (omega (arith, one.0), ap test (sym one.0) ∙ one.1)
    at (Some x) g f rest = let found = rest (g ∙ f) in (omega (arith, found.0), found.1)
