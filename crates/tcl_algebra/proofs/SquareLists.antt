-- The squares of those variables of a fact that are words of one bit.
use Rattle.std.proofs.Common.{◌≡◌, ℕ, zero, suc, refl, ◌∙◌, ap, Bool, true, false, ◌&&◌, if◌then◌else◌, List, [], ◌∷◌, ◌++◌, map, filter, length, Option}
use Rattle.std.specs.List.{slice_get}
use Rattle.tcl_lang.specs.Program.{VersionedProgram}
use Rattle.tcl_lang.specs.Defined.{is_among}
use Rattle.tcl_goals.specs.declared.fact.Fact.{Fact}
use Rattle.tcl_goals.specs.declared.lemma.Numbered.{Numbered}
use Rattle.tcl_goals.specs.Numbers.{those_below}
use Rattle.tcl_goals.specs.Free.{fact_variables}
use Rattle.tcl_algebra.specs.Equations.{is_bit_variable, square_at, squares_of}

put_front : (b : Bool) (x : ℕ) (xs ys : List ℕ) → (if b then x ∷ (xs ++ ys) else xs ++ ys) ≡ (if b then x ∷ xs else xs) ++ ys
put_front true x xs ys = refl
put_front false x xs ys = refl

filter_append : (f : ℕ → Bool) (xs ys : List ℕ) → filter f (xs ++ ys) ≡ filter f xs ++ filter f ys
filter_append f [] ys = refl
filter_append f (x ∷ xs) ys =
    ap (λ zs. if f x then x ∷ zs else zs) (filter_append f xs ys) ∙ put_front (f x) x (filter f xs) (filter f ys)

append_none : (xs : List ℕ) → xs ++ [] ≡ xs
append_none [] = refl
append_none (x ∷ xs) = ap (λ ys. x ∷ ys) (append_none xs)

-- one number more
filter_last : (f : ℕ → Bool) (n : ℕ) (b c : Bool) (xs ys : List ℕ) → f n ≡ b → filter f xs ≡ ys → filter f (if c then xs ++ n ∷ [] else xs) ≡ (if b && c then ys ++ n ∷ [] else ys)
filter_last f n true true xs ys e h = filter_append f xs (n ∷ []) ∙ (λ i. h i ++ (if e i then n ∷ [] else []))
filter_last f n true false xs ys e h = h
filter_last f n false true xs ys e h = filter_append f xs (n ∷ []) ∙ (λ i. h i ++ (if e i then n ∷ [] else [])) ∙ append_none ys
filter_last f n false false xs ys e h = h

filter_those : (f g : ℕ → Bool) (n : ℕ) → filter f (those_below g n) ≡ those_below (λ v. f v && g v) n
unfolding those_below
filter_those f g zero = refl
filter_those f g (suc n) = filter_last f n (f n) (g n) (those_below g n) (those_below (λ v. f v && g v) n) refl (filter_those f g n)

pub squares_are : (m : Option ℕ) (p : VersionedProgram) (lemmas : List Numbered) (fact : Fact) (named : List ℕ) → named ≡ those_below (is_among (fact_variables p.lines lemmas fact)) (length p.variables) → map (square_at m p) (filter (λ v. is_bit_variable (slice_get p.variables v)) named) ≡ squares_of m p lemmas fact
squares_are m p lemmas fact named e =
    let bit : ℕ → Bool = λ v. is_bit_variable (slice_get p.variables v) in
    let among : ℕ → Bool = is_among (fact_variables p.lines lemmas fact) in
    ap (λ vs. map (square_at m p) (filter bit vs)) e ∙ ap (map (square_at m p)) (filter_those bit among (length p.variables))
