-- Fresh clauses, and what unit propagation gives where a set of literals is closed under it.
use Rattle.std.proofs.Common.{◌≡◌, ℕ, Bool, true, false, not, eqb, List, [], ◌∷◌, refl, sym, ◌∙◌, subst, inl, inr}
use Rattle.std.proofs.lemmas.Bool.{eqb-true, eq-eqb, ne_eqb, cases_eq, or_cases, and_parts, and_from, not_from_false, not-true}
use Rattle.tcl_cnf.specs.Literal.{neg, literal_true}
use Rattle.tcl_cnf.specs.Clause.{has, without, Satisfies}
use Rattle.tcl_cnf.specs.Propagation.{IsGiven, MeetsFalse, ConflictsAtOnce, NegatedBut, IsFresh, is_false, IsClosed}
use Rattle.tcl_cnf.specs.Propagation.IsGiven.{given, unit}
use Rattle.tcl_cnf.proofs.Bools.{true-false}
use Rattle.tcl_cnf.proofs.Members.{has-without}
use Rattle.tcl_cnf.proofs.Ordered.{has-first, has-rest}
use Rattle.tcl_cnf.proofs.Truth.{neg_true, true_each, any_has}

-- each literal of a false clause has its negation among the true ones
pub false_each : (trues c : List ℕ) (m : ℕ) → is_false trues c ≡ true → has m c ≡ true → has (neg m) trues ≡ true
false_each trues [] m f h = absurd (true-false false h refl)
false_each trues (l ∷ c) m f h = elim (or_cases (eqb l m) (has m c) h) [
  | inl e ↦ subst (λ t. has (neg t) trues ≡ true) (eqb-true l m e) (and_parts (has (neg l) trues) (is_false trues c) f).0
  | inr e ↦ false_each trues c m (and_parts (has (neg l) trues) (is_false trues c) f).1 e
]

-- a clause is false where each of its literals has its negation among the true ones
pub each_false : (trues c : List ℕ) → ((m : ℕ) → has m c ≡ true → has (neg m) trues ≡ true) → is_false trues c ≡ true
each_false trues [] f = refl
each_false trues (l ∷ c) f = and_from (has (neg l) trues) (is_false trues c) (f l (has-first l c)) (each_false trues c (λ m h. f m (has-rest l m c h)))

-- another literal of a clause is in the clause without this one
pub in_without : (l m : ℕ) (c : List ℕ) → has m c ≡ true → (m ≡ l → ⊥) → has m (without l c) ≡ true
in_without l m c h d = has-without m l c ∙ and_from (not (eqb m l)) (has m c) (not_from_false (eqb m l) (ne_eqb m l d)) h

-- a literal of the clause without this one is in the clause, and another
pub from_without : (l m : ℕ) (c : List ℕ) → has m (without l c) ≡ true → (has m c ≡ true) × (m ≡ l → ⊥)
from_without l m c h =
    let p = and_parts (not (eqb m l)) (has m c) (sym (has-without m l c) ∙ h) in
    (p.1, λ e. true-false (eqb m l) (eq-eqb m l e) (not-true (eqb m l) p.0))

-- a closed set that holds the start holds all that is given
pub stays : (clauses : List (List ℕ)) (trues : List ℕ) (start : ℕ → Type 0) → IsClosed clauses trues → ((l : ℕ) → start l → has l trues ≡ true)
    → (l : ℕ) → IsGiven clauses start l → has l trues ≡ true
stays clauses trues start closed held l (given s) = held l s
stays clauses trues start closed held l (unit k c e h f) =
    (closed k c e).1 l h (each_false trues (without l c) (λ m i. let p = from_without l m c i in stays clauses trues start closed held (neg m) (f m p.0 p.1)))

-- in a closed set that holds the start no clause is false
pub none_false : (clauses : List (List ℕ)) (trues : List ℕ) (start : ℕ → Type 0) → IsClosed clauses trues → ((l : ℕ) → start l → has l trues ≡ true)
    → MeetsFalse clauses start → ⊥
none_false clauses trues start closed held m =
    true-false (is_false trues m.clause) (each_false trues m.clause (λ l h. stays clauses trues start closed held (neg l) (m.false_there l h))) (closed m.number m.clause m.there).0

-- a clause is fresh where, in a closed set, all its literals but one are false and that one is not true
pub fresh_from : (clauses : List (List ℕ)) (trues c : List ℕ) (u : ℕ) → IsClosed clauses trues → has u c ≡ true → has u trues ≡ false
    → is_false trues (without u c) ≡ true → IsFresh clauses c
fresh_from clauses trues c u closed inside out others =
    let held : (l : ℕ) → NegatedBut u c l → has l trues ≡ true =
    λ l n. subst (λ t. has t trues ≡ true) (sym n.3) (false_each trues (without u c) n.0 others (in_without u n.0 c n.1 n.2)) in
    record {
      literal = u;
      in_it = inside;
      no_false = none_false clauses trues (NegatedBut u c) closed held;
      not_given = λ g. true-false (has u trues) (stays clauses trues (NegatedBut u c) closed held u g) out;
    }

-- what is given from nothing is given from any start
given_more : (clauses : List (List ℕ)) (start : ℕ → Type 0) (l : ℕ) → IsGiven clauses (λ _. ⊥) l → IsGiven clauses start l
given_more clauses start l (given s) = absurd s
given_more clauses start l (unit k c e h f) = unit k c e h (λ m i d. given_more clauses start (neg m) (f m i d))

-- where unit propagation alone meets a false clause, no clause is fresh
pub no_conflict : (clauses : List (List ℕ)) (c : List ℕ) → IsFresh clauses c → ConflictsAtOnce clauses → ⊥
no_conflict clauses c fresh m =
    fresh.no_false (record { number = m.number; clause = m.clause; there = m.there; false_there = λ l h. given_more clauses (NegatedBut fresh.literal c) (neg l) (m.false_there l h) })

-- what unit propagation gives from nothing is true where all clauses are
given_true : (clauses : List (List ℕ)) (v : ℕ → Bool) → Satisfies v clauses → (l : ℕ) → IsGiven clauses (λ _. ⊥) l → literal_true v l ≡ true
given_true clauses v s l (given g) = absurd g
given_true clauses v s l (unit k c e h f) =
    let w = any_has (literal_true v) c (true_each v clauses k c s e) in
    elim (cases_eq w.0 l) [
      | inl same ↦ subst (λ t. literal_true v t ≡ true) same w.2
      | inr other ↦ absurd (true-false (literal_true v w.0) w.2 (not-true (literal_true v w.0) (sym (neg_true v w.0) ∙ given_true clauses v s (neg w.0) (f w.0 w.1 other))))
    ]

-- where some values make every clause true, unit propagation alone meets no false clause
pub met_no_conflict : (clauses : List (List ℕ)) (v : ℕ → Bool) → Satisfies v clauses → ConflictsAtOnce clauses → ⊥
met_no_conflict clauses v s m =
    let w = any_has (literal_true v) m.clause (true_each v clauses m.number m.clause s m.there) in
    true-false (literal_true v w.0) w.2 (not-true (literal_true v w.0) (sym (neg_true v w.0) ∙ given_true clauses v s (neg w.0) (m.false_there w.0 w.1)))
