-- Resolvents: what they hold, that they are clauses, and that they follow.
use Rattle.std.proofs.Common.{◌≡◌, ℕ, Bool, true, false, not, ◌&&◌, ◌||◌, eqb, List, [], ◌∷◌, Option, Some, None, refl, sym, ◌∙◌, ap, subst, ◌⊎◌, inl, inr}
use Rattle.std.proofs.lemmas.Bool.{eqb-true, cases_eq, or_cases, and_from, false_from_ne_true, not-true}
use Rattle.std.proofs.lemmas.Option.{same_Some, none-some}
use Rattle.tcl_cnf.specs.Literal.{neg, literal_true}
use Rattle.tcl_cnf.specs.Clause.{has, without, union, IsIncreasing, IsClause, clause_true}
use Rattle.tcl_cnf.specs.Resolution.{clashes, join_at, join}
use Rattle.tcl_cnf.proofs.Bools.{true-false, eqb-sym, or-false}
use Rattle.tcl_cnf.proofs.Members.{neg-neg, has-filter, has-union, eqb-neg}
use Rattle.tcl_cnf.proofs.Ordered.{increasing-filter, increasing-union, same_increasing}
use Rattle.tcl_cnf.proofs.Freshness.{in_without, from_without}
use Rattle.tcl_cnf.proofs.Truth.{neg_true, true_from, any_has}

-- the one clash of two clauses, and their resolvent there
pub record IsJoin (c d e : List ℕ) : Type 0 where
  pub pivot : ℕ
  pub clash : clashes c d ≡ pivot ∷ []
  pub resolvent : e ≡ union (without pivot c) (without (neg pivot) d)

at_some : (ls c d e : List ℕ) → ls ≡ clashes c d → join_at ls c d ≡ Some e → IsJoin c d e
at_some [] c d e i h = absurd (none-some e h)
at_some (l ∷ []) c d e i h = record { pivot = l; clash = sym i; resolvent = sym (same_Some _ _ h) }
at_some (l ∷ m ∷ ls) c d e i h = absurd (none-some e h)

-- a resolvent is at one clash
pub joined : (c d e : List ℕ) → join c d ≡ Some e → IsJoin c d e
unfolding join
joined c d e h = at_some (clashes c d) c d e refl h

-- where two clauses clash at one literal alone, there is a resolvent
pub join_is : (c d : List ℕ) (l : ℕ) → clashes c d ≡ l ∷ [] → join c d ≡ Some (union (without l c) (without (neg l) d))
unfolding join
join_is c d l h = ap (λ ls. join_at ls c d) h

-- the literals of the first clause at which it clashes
pub has-clashes : (x : ℕ) (c d : List ℕ) → has x (clashes c d) ≡ (has (neg x) d && has x c)
has-clashes x c d = has-filter (λ l. has (neg l) d) x c

-- a literal that clashes is the pivot
pub clash_is : (c d e : List ℕ) (j : IsJoin c d e) (x : ℕ) → has x c ≡ true → has (neg x) d ≡ true → x ≡ j.pivot
clash_is c d e j x h g =
    let i : has x (j.pivot ∷ []) ≡ true = subst (λ t. has x t ≡ true) j.clash (has-clashes x c d ∙ and_from (has (neg x) d) (has x c) g h) in
    sym (eqb-true j.pivot x (sym (or-false (eqb j.pivot x)) ∙ i))

-- a literal of the resolvent comes from one of the two clauses, and is no side of the pivot there
pub from_join : (c d e : List ℕ) (j : IsJoin c d e) (x : ℕ) → has x e ≡ true → (has x c ≡ true) × (x ≡ j.pivot → ⊥) ⊎ ((has x d ≡ true) × (x ≡ neg j.pivot → ⊥))
from_join c d e j x h =
    elim (or_cases (has x (without j.pivot c)) (has x (without (neg j.pivot) d)) (sym (has-union x (without j.pivot c) (without (neg j.pivot) d)) ∙ subst (λ t. has x t ≡ true) j.resolvent h)) [
      | inl i ↦ inl (from_without j.pivot x c i)
      | inr i ↦ inr (from_without (neg j.pivot) x d i)
    ]

-- any other literal of the first clause is in the resolvent
pub in_join_left : (c d e : List ℕ) (j : IsJoin c d e) (x : ℕ) → has x c ≡ true → (x ≡ j.pivot → ⊥) → has x e ≡ true
in_join_left c d e j x h n =
    subst (λ t. has x t ≡ true) (sym j.resolvent) (has-union x (without j.pivot c) (without (neg j.pivot) d) ∙ ap (λ b. b || has x (without (neg j.pivot) d)) (in_without j.pivot x c h n))

-- any other literal of the second clause is in the resolvent
pub in_join_right : (c d e : List ℕ) (j : IsJoin c d e) (x : ℕ) → has x d ≡ true → (x ≡ neg j.pivot → ⊥) → has x e ≡ true
in_join_right c d e j x h n =
    subst (λ t. has x t ≡ true) (sym j.resolvent) (has-union x (without j.pivot c) (without (neg j.pivot) d) ∙ or_at (has x (without j.pivot c)) (in_without (neg j.pivot) x d h n)) where
      or_at : (a : Bool) {b : Bool} → b ≡ true → (a || b) ≡ true
      or_at true e = refl
      or_at false e = e

both_signs : (c d e : List ℕ) → IsClause c → IsClause d → IsJoin c d e → (l : ℕ) → has l e ≡ true → has (neg l) e ≡ true → ⊥
both_signs c d e p q j l h g =
    elim (from_join c d e j l h) [
      | inl a ↦ elim (from_join c d e j (neg l) g) [
        | inl b ↦ true-false (has (neg l) c) b.0 (p.one_sign l a.0)
        | inr b ↦ a.1 (clash_is c d e j l a.0 b.0)
      ]
      | inr a ↦ elim (from_join c d e j (neg l) g) [
        | inl b ↦ b.1 (clash_is c d e j (neg l) b.0 (subst (λ t. has t d ≡ true) (sym (neg-neg l)) a.0))
        | inr b ↦ true-false (has (neg l) d) b.0 (q.one_sign l a.0)
      ]
    ]

-- a resolvent of clauses is a clause
pub join_clause : (c d e : List ℕ) → IsClause c → IsClause d → join c d ≡ Some e → IsClause e
join_clause c d e p q h =
    let j = joined c d e h in
    record {
      increasing = subst IsIncreasing (sym j.resolvent) (increasing-union (without j.pivot c) (without (neg j.pivot) d) (increasing-filter (λ m. not (eqb m j.pivot)) c p.increasing));
      one_sign = λ l i. false_from_ne_true (has (neg l) e) (both_signs c d e p q j l i);
    }

-- a resolvent is true where both clauses are
pub join_sound : (v : ℕ → Bool) (c d e : List ℕ) → join c d ≡ Some e → clause_true v c ≡ true → clause_true v d ≡ true → clause_true v e ≡ true
join_sound v c d e h s t =
    let j = joined c d e h in
    let x = any_has (literal_true v) c s in
    let y = any_has (literal_true v) d t in
    elim (cases_eq x.0 j.pivot) [
      | inr other ↦ true_from v x.0 e (in_join_left c d e j x.0 x.1 other) x.2
      | inl same ↦ true_from v y.0 e (in_join_right c d e j y.0 y.1
          (λ same'. true-false (literal_true v j.pivot) (subst (λ l. literal_true v l ≡ true) same x.2)
          (not-true (literal_true v j.pivot) (sym (neg_true v j.pivot) ∙ subst (λ l. literal_true v l ≡ true) same' y.2)))) y.2
    ]

-- the clashes seen from the second clause
singleton : (x l : ℕ) → has x (l ∷ []) ≡ eqb l x
singleton x l = or-false (eqb l x)

and-swap : (a b : Bool) → (a && b) ≡ (b && a)
and-swap true true = refl
and-swap true false = refl
and-swap false true = refl
and-swap false false = refl

-- the clashes of two clauses are the negations of those of the second and the first
pub has-clashes_other : (x : ℕ) (c d : List ℕ) → has x (clashes c d) ≡ has (neg x) (clashes d c)
has-clashes_other x c d =
    has-clashes x c d ∙ and-swap (has (neg x) d) (has x c) ∙ ap (λ t. has t c && has (neg x) d) (sym (neg-neg x)) ∙ sym (has-clashes (neg x) d c)

-- one clash seen from the second clause is one seen from the first
pub clashes_swap : (c d : List ℕ) (l : ℕ) → IsIncreasing c → clashes d c ≡ l ∷ [] → clashes c d ≡ neg l ∷ []
clashes_swap c d l i h =
    same_increasing (clashes c d) (neg l ∷ []) (increasing-filter (λ m. has (neg m) d) c i) ((λ m e. absurd (true-false false e refl)), tt)
    (λ x. has-clashes_other x c d ∙ ap (has (neg x)) h ∙ singleton (neg x) l ∙ eqb-sym l (neg x) ∙ eqb-neg x l ∙ eqb-sym x (neg l) ∙ sym (singleton x (neg l)))

-- with one clash seen from the second clause, this is the resolvent
pub join_from_second : (c d : List ℕ) (l : ℕ) → IsIncreasing c → clashes d c ≡ l ∷ [] → join c d ≡ Some (union (without (neg l) c) (without l d))
join_from_second c d l i h = join_is c d (neg l) (clashes_swap c d l i h) ∙ ap (λ t. Some (union (without (neg l) c) (without t d))) (neg-neg l)

-- with no single clash seen from the second clause there is no resolvent
pub no_join_from_second : (c d : List ℕ) → IsIncreasing d → ((l : ℕ) → clashes d c ≡ l ∷ [] → ⊥) → join c d ≡ None
no_join_from_second c d i h = no_join (join c d) refl where
  no_join : (o : Option (List ℕ)) → join c d ≡ o → join c d ≡ None
  no_join None e = e
  no_join (Some x) e = let j = joined c d x e in absurd (h (neg j.pivot) (clashes_swap d c j.pivot i j.clash))
