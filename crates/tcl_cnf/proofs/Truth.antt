-- Which literals and clauses are true under values of the variables.
use Rattle.std.proofs.Common.{◌≡◌, ℕ, ◌/◌, ◌%◌, Bool, true, false, not, ◌&&◌, eqb, List, [], ◌∷◌, ◌++◌, Some, slice_get, refl, sym, ◌∙◌, ap, subst, arith, ◌⊎◌, inl, inr, zero, suc}
use Rattle.std.specs.List.{list_any}
use Rattle.std.specs.Option.{option_to_list}
use Rattle.std.proofs.lemmas.Bool.{or_cases, and_parts, and_from, cases_Bool, not_from_false}
use Rattle.std.proofs.lemmas.Option.{same_Some, none-some}
use Rattle.tcl_cnf.specs.Literal.{neg, literal_true}
use Rattle.tcl_cnf.specs.Clause.{has, union, clashes_within, clause_of, clause_true, all_true, Satisfies}
use Rattle.tcl_cnf.proofs.Bools.{true-false, same_bool, and-true}
use Rattle.tcl_cnf.proofs.Members.{neg-half, has-union}
use Rattle.tcl_cnf.proofs.Ordered.{has-first, has-rest}
use Rattle.tcl_cnf.proofs.Clauses.{any_from_has}

even_or_odd : (l : ℕ) → ((l % 2 ≡ 0) × (neg l % 2 ≡ 1)) ⊎ ((l % 2 ≡ 1) × (neg l % 2 ≡ 0))
unfolding neg
even_or_odd l = grind arith

-- the negation of a literal is true where the literal is false
pub neg_true : (v : ℕ → Bool) (l : ℕ) → literal_true v (neg l) ≡ not (literal_true v l)
unfolding literal_true
neg_true v l = elim (even_or_odd l) [
  | inl p ↦ rw (ap (λ t. eqb t 0) p.0, ap (λ t. eqb t 0) p.1) (ap (λ t. not (v t)) (neg-half l))
  | inr p ↦ rw (ap (λ t. eqb t 0) p.0, ap (λ t. eqb t 0) p.1) (ap v (neg-half l) ∙ twice (v (l / 2)))
] where
  twice : (b : Bool) → b ≡ not (not b)
  twice true = refl
  twice false = refl

-- a test that a list passes somewhere has a member that passes it
pub any_has : (p : ℕ → Bool) (xs : List ℕ) → list_any p xs ≡ true → (x : ℕ) × (has x xs ≡ true) × (p x ≡ true)
any_has p [] h = absurd (true-false false h refl)
any_has p (x ∷ xs) h = elim (or_cases (p x) (list_any p xs) h) [
  | inl e ↦ (x, has-first x xs, e)
  | inr e ↦ let r = any_has p xs e in (r.0, has-rest x r.0 xs r.1, r.2)
]

-- a clause with a true literal is true
pub true_from : (v : ℕ → Bool) (l : ℕ) (c : List ℕ) → has l c ≡ true → literal_true v l ≡ true → clause_true v c ≡ true
true_from v l c h t = any_from_has (literal_true v) l c h t

-- where all clauses are true, each is
pub true_each : (v : ℕ → Bool) (clauses : List (List ℕ)) (k : ℕ) (c : List ℕ) → Satisfies v clauses → slice_get clauses k ≡ Some c → clause_true v c ≡ true
true_each v [] k c s e = absurd (none-some c e)
true_each v (d ∷ ds) zero c s e = subst (λ t. clause_true v t ≡ true) (same_Some d c e) (and_parts (clause_true v d) (all_true v ds) s).0
true_each v (d ∷ ds) (suc k) c s e = true_each v ds k c (and_parts (clause_true v d) (all_true v ds) s).1 e

-- where each clause is true, all are
pub each_true : (v : ℕ → Bool) (clauses : List (List ℕ)) → ((k : ℕ) (c : List ℕ) → slice_get clauses k ≡ Some c → clause_true v c ≡ true) → Satisfies v clauses
each_true v [] f = refl
each_true v (d ∷ ds) f = and_from (clause_true v d) (all_true v ds) (f zero d refl) (each_true v ds (λ k c e. f (suc k) c e))

-- both lists of clauses are true where the joined one is
pub satisfies-append : (v : ℕ → Bool) (cs ds : List (List ℕ)) → all_true v (cs ++ ds) ≡ (all_true v cs && all_true v ds)
satisfies-append v [] ds = refl
satisfies-append v (c ∷ cs) ds = ap (λ t. clause_true v c && t) (satisfies-append v cs ds) ∙ and_assoc (clause_true v c) (all_true v cs) (all_true v ds) where
  and_assoc : (a b d : Bool) → (a && (b && d)) ≡ ((a && b) && d)
  and_assoc true b d = refl
  and_assoc false b d = refl

-- a test of lists with the same members
pub any_same : (p : ℕ → Bool) (xs ys : List ℕ) → ((x : ℕ) → has x xs ≡ has x ys) → list_any p xs ≡ list_any p ys
any_same p xs ys h =
    same_bool (list_any p xs) (list_any p ys)
    (λ e. let w = any_has p xs e in any_from_has p w.0 ys (sym (h w.0) ∙ w.1) w.2)
    (λ e. let w = any_has p ys e in any_from_has p w.0 xs (h w.0 ∙ w.1) w.2)

-- literals with a literal and its negation among them are always true
pub clash_true : (v : ℕ → Bool) (ls : List ℕ) → clashes_within ls ≡ true → clause_true v ls ≡ true
clash_true v ls h =
    let w = any_has (λ l. has (neg l) ls) ls h in
    elim (cases_Bool (literal_true v w.0)) [
      | inl e ↦ true_from v w.0 ls w.1 e
      | inr e ↦ true_from v (neg w.0) ls w.2 (neg_true v w.0 ∙ not_from_false (literal_true v w.0) e)
    ]

-- the clauses that are made of some literals: one, or none where they are always true
abbrev pub kept : List ℕ → List (List ℕ)
kept ls = option_to_list (clause_of ls)

-- the clause of some literals is true where they are
pub kept_true : (v : ℕ → Bool) (ls : List ℕ) → all_true v (kept ls) ≡ clause_true v ls
unfolding clause_of
kept_true v ls = elim (cases_Bool (clashes_within ls)) [
  | inl e ↦ rw e (sym (clash_true v ls e))
  | inr e ↦ rw e (and-true (clause_true v (union [] ls)) ∙ any_same (literal_true v) (union [] ls) ls (λ x. has-union x [] ls))
]
