-- Resolution by a table of marks, in the words of the code.
use Rattle.std.proofs.Common.{◌≡◌, ℕ, ◌+◌, ◌<◌, ◌≤◌, suc, Bool, true, false, not, cond, eqb, List, [], ◌∷◌, ◌++◌, length, take, drop, get_or, filter, Option, Some, None, slice_get, refl, sym, ◌∙◌, ap, arith, inl, inr, drop-cons}
use Rattle.std.specs.Option.{option_to_list, is_some}
use Rattle.std.proofs.lemmas.Bool.{cases_Bool}
use Rattle.std.proofs.lemmas.List.Elements.{filter-append}
use Rattle.std.proofs.lemmas.List.{take_more, take_all, take-append-drop, append-nil}
use Rattle.tcl_cnf.specs.Literal.{neg}
use Rattle.tcl_cnf.specs.Clause.{has, without, put, union, IsIncreasing}
use Rattle.tcl_cnf.specs.Resolution.{clashes, join, join_step, chain_from, chain_of}
use Rattle.tcl_cnf.proofs.Bools.{true-false}
use Rattle.tcl_cnf.proofs.Members.{has-union}
use Rattle.tcl_cnf.proofs.Ordered.{same_increasing, increasing-union}
use Rattle.tcl_cnf.proofs.Clauses.{union-push}
use Rattle.tcl_cnf.proofs.Joins.{join_from_second}
use Rattle.tcl_cnf.proofs.Chains.{chain_from-none}

-- an increasing list put into the empty one is the list
pub union_increasing : (c : List ℕ) → IsIncreasing c → union [] c ≡ c
union_increasing c i = same_increasing (union [] c) c (increasing-union [] c tt) i (λ x. has-union x [] c)

-- all literals of the first clause are in
pub started : (lits marks : List ℕ) (i : ℕ) → marks ≡ union [] (take i lits) → length lits ≤ i → IsIncreasing lits → marks ≡ lits
started lits marks i e h inc = e ∙ ap (union []) (take_all i lits h) ∙ union_increasing lits inc

-- the union with one literal more, which is left out if it is the pivot
pub others_more : (c xs : List ℕ) (i x p : ℕ) → i < length xs → x ≡ get_or xs i x
    → union c (without p (take (i + 1) xs)) ≡ cond (eqb x p) (union c (without p (take i xs))) (put x (union c (without p (take i xs))))
others_more c xs i x p h e =
    ap (λ t. union c (without p t)) (take_more xs i x h ∙ ap (λ t. take i xs ++ t ∷ []) (sym e))
    ∙ ap (union c) (filter-append (λ m. not (eqb m p)) (take i xs) (x ∷ []))
    ∙ elim (cases_Bool (eqb x p)) [
      | inl f ↦ rw f (ap (union c) (append-nil (without p (take i xs))))
      | inr f ↦ rw f (union-push c (without p (take i xs)) x)
    ]

-- a second clash
pub two_clashes : (lits marks : List ℕ) (i x : ℕ) (found : Option ℕ) → clashes (take i lits) marks ≡ option_to_list found → is_some found ≡ true
    → i < length lits → x ≡ get_or lits i x → has (neg x) marks ≡ true → (l : ℕ) → clashes lits marks ≡ l ∷ [] → ⊥
two_clashes lits marks i x None c s h e t l f = true-false false s refl
two_clashes lits marks i x (Some y) c s h e t l f =
    let p : ℕ → Bool = λ m. has (neg m) marks in
    let split : clashes lits marks ≡ clashes (take i lits) marks ++ clashes (drop i lits) marks =
    ap (filter p) (sym (take-append-drop i lits)) ∙ filter-append p (take i lits) (drop i lits) in
    let here : drop i lits ≡ x ∷ drop (suc i) lits = drop-cons lits i x h ∙ ap (λ t. t ∷ drop (suc i) lits) (sym e) in
    let second : clashes (drop i lits) marks ≡ x ∷ clashes (drop (suc i) lits) marks = ap (filter p) here ∙ ap (λ b. cond b (x ∷ clashes (drop (suc i) lits) marks) (clashes (drop (suc i) lits) marks)) t in
    let all : l ∷ [] ≡ y ∷ (x ∷ clashes (drop (suc i) lits) marks) = sym f ∙ split ∙ ap (λ t. t ++ clashes (drop i lits) marks) c ∙ ap (λ t. y ∷ t) second in
    two_not_one l y x (clashes (drop (suc i) lits) marks) all where
      two_not_one : (l y x : ℕ) (zs : List ℕ) → l ∷ [] ≡ y ∷ (x ∷ zs) → ⊥
      two_not_one l y x zs e = cc

-- the resolvent that the code makes
pub resolved : (marks lits removed after : List ℕ) (pivot negated : ℕ) → IsIncreasing marks → clashes lits marks ≡ pivot ∷ [] → negated ≡ neg pivot
    → removed ≡ without negated marks → after ≡ union removed (without pivot lits) → join marks lits ≡ Some after
resolved marks lits removed after pivot negated i c n r a =
    join_from_second marks lits pivot i c
    ∙ sym (ap Some (a ∙ ap (λ t. union t (without pivot lits)) (r ∙ ap (λ t. without t marks) n)))

-- an empty list is no chain
pub chain_of-nil : (clauses : List (List ℕ)) → chain_of clauses [] ≡ None
unfolding chain_of
chain_of-nil clauses = refl

pub chain_of-cons : (clauses : List (List ℕ)) (k : ℕ) (ks : List ℕ) → chain_of clauses (k ∷ ks) ≡ chain_from clauses (slice_get clauses k) ks
unfolding chain_of
chain_of-cons clauses k ks = refl

-- a first number without a clause
pub chain_of-unknown : (clauses : List (List ℕ)) (k : ℕ) (ks chain : List ℕ) → chain ≡ k ∷ ks → None ≡ slice_get clauses k → chain_of clauses chain ≡ None
chain_of-unknown clauses k ks chain e n = ap (chain_of clauses) e ∙ chain_of-cons clauses k ks ∙ ap (λ o. chain_from clauses o ks) (sym n) ∙ chain_from-none clauses ks

-- the chain's first clause
pub chain_of-first : (clauses : List (List ℕ)) (k : ℕ) (ks chain c d : List ℕ) → chain ≡ k ∷ ks → Some c ≡ slice_get clauses k → d ≡ c → chain_from clauses (Some d) ks ≡ chain_of clauses chain
chain_of-first clauses k ks chain c d e n s = sym (ap (chain_of clauses) e ∙ chain_of-cons clauses k ks ∙ ap (λ o. chain_from clauses o ks) (sym n ∙ ap Some (sym s)))

-- one number more
pub chain_from-more : (clauses : List (List ℕ)) (o : Option (List ℕ)) (ks : List ℕ) (i : ℕ) → i < length ks
    → chain_from clauses o (drop i ks) ≡ chain_from clauses (join_step o (slice_get clauses (get_or ks i 0))) (drop (i + 1) ks)
chain_from-more clauses o ks i h =
    let next : suc i ≡ i + 1 = omega arith in
    ap (chain_from clauses o) (drop-cons ks i 0 h) ∙ ap (λ n. chain_from clauses (join_step o (slice_get clauses (get_or ks i 0))) (drop n ks)) next

-- a step that fails
pub chain_from-stopped : (clauses : List (List ℕ)) (o all : Option (List ℕ)) (ks : List ℕ) (i : ℕ) → i < length ks
    → chain_from clauses o (drop i ks) ≡ all → join_step o (slice_get clauses (get_or ks i 0)) ≡ None → all ≡ None
chain_from-stopped clauses o all ks i h s n = sym s ∙ chain_from-more clauses o ks i h ∙ ap (λ t. chain_from clauses t (drop (i + 1) ks)) n ∙ chain_from-none clauses (drop (i + 1) ks)

-- a list with no number is no chain
pub chain_of-short : (clauses : List (List ℕ)) (chain : List ℕ) → length chain ≡ 0 → chain_of clauses chain ≡ None
chain_of-short clauses [] e = chain_of-nil clauses
chain_of-short clauses (k ∷ ks) e = absurd (omega (arith, e))
