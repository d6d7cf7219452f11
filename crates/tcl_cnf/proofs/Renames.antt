-- Unit propagation over clauses under a renaming of variables that keeps signs.
use Rattle.std.proofs.Common.{◌≡◌, ℕ, ◌+◌, ◌*◌, ◌/◌, ◌%◌, true, false, cond, List, [], ◌∷◌, map, Some, None, slice_get, refl, sym, ◌∙◌, ap, subst, arith, ◌⊎◌, inl, inr}
use Rattle.std.proofs.lemmas.Bool.{cases_Bool, cases_eq}
use Rattle.tcl_cnf.specs.Literal.{neg}
use Rattle.tcl_cnf.specs.Clause.{has, union, clashes_within, clause_of}
use Rattle.tcl_cnf.specs.Propagation.{IsGiven, MeetsFalse, ConflictsAtOnce}
use Rattle.tcl_cnf.specs.Propagation.IsGiven.{given, unit}
use Rattle.tcl_cnf.specs.Renaming.{renamed, HasRenamed}
use Rattle.tcl_cnf.proofs.Bools.{true-false}
use Rattle.tcl_cnf.proofs.Members.{neg-neg, neg-half, neg-other, has-union}
use Rattle.tcl_cnf.proofs.Ordered.{has-first, has-rest, first_or_rest}
use Rattle.tcl_cnf.proofs.Truth.{any_has}

negated_name : (x l : ℕ) → 2 * x + neg l % 2 ≡ neg (2 * x + l % 2)
unfolding neg
negated_name x l = omega arith

-- a negated literal is renamed to the negation
renamed-neg : (name : ℕ → ℕ) (l : ℕ) → renamed name (neg l) ≡ neg (renamed name l)
unfolding renamed
renamed-neg name l = ap (λ v. 2 * name v + neg l % 2) (neg-half l) ∙ negated_name (name (l / 2)) l

-- a member is mapped to a member
map-has : (f : ℕ → ℕ) (xs : List ℕ) (l : ℕ) → has l xs ≡ true → has (f l) (map f xs) ≡ true
map-has f [] l h = absurd (true-false false h refl)
map-has f (x ∷ xs) l h = elim (first_or_rest x l xs h) [
  | inl e ↦ subst (λ t. has (f t) (f x ∷ map f xs) ≡ true) e (has-first (f x) (map f xs))
  | inr e ↦ has-rest (f x) (f l) (map f xs) (map-has f xs l e)
]

-- a member of what was mapped comes from a member
has-map : (f : ℕ → ℕ) (xs : List ℕ) (m : ℕ) → has m (map f xs) ≡ true → (l : ℕ) × (has l xs ≡ true) × (f l ≡ m)
has-map f [] m h = absurd (true-false false h refl)
has-map f (x ∷ xs) m h = elim (first_or_rest (f x) m (map f xs) h) [
  | inl e ↦ (x, has-first x xs, e)
  | inr e ↦ let r = has-map f xs m e in (r.0, has-rest x r.0 xs r.1, r.2)
]

-- what holds of each member, or something else, holds of all members, or that does
all_or : (P : ℕ → Type 0) (Q : Type 0) (xs : List ℕ) → ((m : ℕ) → has m xs ≡ true → P m ⊎ Q) → ((m : ℕ) → has m xs ≡ true → P m) ⊎ Q
all_or P Q [] f = inl (λ m h. absurd (true-false false h refl))
all_or P Q (x ∷ xs) f = elim (f x (has-first x xs)) [
  | inr q ↦ inr q
  | inl p ↦ elim (all_or P Q xs (λ m h. f m (has-rest x m xs h))) [
    | inr q ↦ inr q
    | inl all ↦ inl (λ m h. elim (first_or_rest x m xs h) [ inl e ↦ subst P e p | inr e ↦ all m e ])
  ]
]

-- nothing is assumed
abbrev pub Nothing : ℕ → Type 0
Nothing l = ⊥

-- where a literal and its negation are given, a clause is false
both_given : (clauses : List (List ℕ)) (l : ℕ) → IsGiven clauses Nothing l → IsGiven clauses Nothing (neg l) → MeetsFalse clauses Nothing
both_given clauses l (given s) g = absurd s
both_given clauses l (unit k c e h f) g = record {
  number = k;
  clause = c;
  there = e;
  false_there = λ m i. elim (cases_eq m l) [ inl same ↦ subst (λ t. IsGiven clauses Nothing (neg t)) (sym same) g | inr other ↦ f m i other ];
}

-- the clause of literals has them alone
clause_has : (ls : List ℕ) (m : ℕ) → has m (union [] ls) ≡ has m ls
clause_has ls m = has-union m [] ls

no_clash : (ls : List ℕ) → clashes_within ls ≡ false → clause_of ls ≡ Some (union [] ls)
unfolding clause_of
no_clash ls e = ap (λ b. cond b None (Some (union [] ls))) e

-- the literals of the clause but this one have given negations, under the renaming
abbrev pub AreDenied : (ℕ → ℕ) → List (List ℕ) → ℕ → List ℕ → Type 0
AreDenied name others l c = (m : ℕ) → has m c ≡ true → (m ≡ l → ⊥) → IsGiven others Nothing (neg (renamed name m))

-- a clause that is unit is so under the renaming
unit_renamed : (name : ℕ → ℕ) (clauses others : List (List ℕ)) → HasRenamed name clauses others → (k l : ℕ) (c : List ℕ) → slice_get clauses k ≡ Some c → has l c ≡ true → AreDenied name others l c
    → clashes_within (map (renamed name) c) ≡ false → IsGiven others Nothing (renamed name l)
unit_renamed name clauses others has_all k l c e h denied clear =
    let at = has_all.each k c (union [] (map (renamed name) c)) e (no_clash (map (renamed name) c) clear) in
    unit at.0 (union [] (map (renamed name) c)) at.1 (clause_has (map (renamed name) c) (renamed name l) ∙ map-has (renamed name) c l h)
    (λ m i d.
    let w = has-map (renamed name) c m (sym (clause_has (map (renamed name) c) m) ∙ i) in
    subst (λ t. IsGiven others Nothing (neg t)) w.2 (denied w.0 w.1 (λ same. d (sym w.2 ∙ ap (renamed name) same))))

-- a clause that is always true under the renaming gives what it gave, or there is a false clause
true_renamed : (name : ℕ → ℕ) (others : List (List ℕ)) (l : ℕ) (c : List ℕ) → AreDenied name others l c → clashes_within (map (renamed name) c) ≡ true
    → IsGiven others Nothing (renamed name l) ⊎ MeetsFalse others Nothing
true_renamed name others l c denied clash =
    let w = any_has (λ x. has (neg x) (map (renamed name) c)) (map (renamed name) c) clash in
    let a = has-map (renamed name) c w.0 w.1 in
    let b = has-map (renamed name) c (neg w.0) w.2 in
    elim (cases_eq a.0 l) [
      | inl same ↦
          let apart : b.0 ≡ l → ⊥ = λ e. neg-other w.0 (sym b.2 ∙ ap (renamed name) (e ∙ sym same) ∙ a.2) in
          inl (subst (IsGiven others Nothing) (ap neg b.2 ∙ neg-neg w.0 ∙ sym a.2 ∙ ap (renamed name) same) (denied b.0 b.1 apart))
      | inr first ↦ elim (cases_eq b.0 l) [
        | inl same ↦ inl (subst (IsGiven others Nothing) (ap neg a.2 ∙ sym b.2 ∙ ap (renamed name) same) (denied a.0 a.1 first))
        | inr second ↦ inr (both_given others (neg w.0) (subst (λ t. IsGiven others Nothing (neg t)) a.2 (denied a.0 a.1 first)) (subst (λ t. IsGiven others Nothing (neg t)) b.2 (denied b.0 b.1 second)))
      ]
    ]

-- what is given is given under the renaming, or there is a false clause
given_renamed : (name : ℕ → ℕ) (clauses others : List (List ℕ)) → HasRenamed name clauses others → (l : ℕ) → IsGiven clauses Nothing l
    → IsGiven others Nothing (renamed name l) ⊎ MeetsFalse others Nothing
given_renamed name clauses others has_all l (given s) = absurd s
given_renamed name clauses others has_all l (unit k c e h f) =
    elim (all_or (λ m. (m ≡ l → ⊥) → IsGiven others Nothing (neg (renamed name m))) (MeetsFalse others Nothing) c
    (λ m i. elim (cases_eq m l) [
      | inl same ↦ inl (λ d. absurd (d same))
      | inr other ↦ elim (given_renamed name clauses others has_all (neg m) (f m i other)) [
        | inl g ↦ inl (λ d. subst (IsGiven others Nothing) (renamed-neg name m) g)
        | inr q ↦ inr q
      ]
    ])) [
      | inr q ↦ inr q
      | inl denied ↦ elim (cases_Bool (clashes_within (map (renamed name) c))) [
        | inl clash ↦ true_renamed name others l c denied clash
        | inr clear ↦ inl (unit_renamed name clauses others has_all k l c e h denied clear)
      ]
    ]

-- a false clause is false under the renaming, or another one is
false_renamed : (name : ℕ → ℕ) (clauses others : List (List ℕ)) → HasRenamed name clauses others → (k : ℕ) (c : List ℕ) → slice_get clauses k ≡ Some c
    → ((m : ℕ) → has m c ≡ true → IsGiven others Nothing (neg (renamed name m))) → MeetsFalse others Nothing
false_renamed name clauses others has_all k c e denied = elim (cases_Bool (clashes_within (map (renamed name) c))) [
  | inl clash ↦
      let w = any_has (λ x. has (neg x) (map (renamed name) c)) (map (renamed name) c) clash in
      let a = has-map (renamed name) c w.0 w.1 in
      let b = has-map (renamed name) c (neg w.0) w.2 in
      both_given others (neg w.0) (subst (λ t. IsGiven others Nothing (neg t)) a.2 (denied a.0 a.1)) (subst (λ t. IsGiven others Nothing (neg t)) b.2 (denied b.0 b.1))
  | inr clear ↦
      let at = has_all.each k c (union [] (map (renamed name) c)) e (no_clash (map (renamed name) c) clear) in
      record {
        number = at.0;
        clause = union [] (map (renamed name) c);
        there = at.1;
        false_there = λ m i.
            let w = has-map (renamed name) c m (sym (clause_has (map (renamed name) c) m) ∙ i) in
            subst (λ t. IsGiven others Nothing (neg t)) w.2 (denied w.0 w.1);
      }
]

-- where unit propagation alone meets a false clause, it does so under the renaming
pub conflict_renamed : (name : ℕ → ℕ) (clauses others : List (List ℕ)) → HasRenamed name clauses others → ConflictsAtOnce clauses → ConflictsAtOnce others
conflict_renamed name clauses others has_all met =
    elim (all_or (λ m. IsGiven others Nothing (neg (renamed name m))) (MeetsFalse others Nothing) met.clause
    (λ m i. elim (given_renamed name clauses others has_all (neg m) (met.false_there m i)) [
      | inl g ↦ inl (subst (IsGiven others Nothing) (renamed-neg name m) g)
      | inr q ↦ inr q
    ])) [
      | inr q ↦ q
      | inl denied ↦ false_renamed name clauses others has_all met.number met.clause met.there denied
    ]
