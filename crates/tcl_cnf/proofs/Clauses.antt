-- Clauses, and lists of them.
use Rattle.std.proofs.Common.{◌≡◌, ℕ, ◌<◌, ◌≤◌, ◌+◌, Bool, true, false, ◌||◌, eqb, List, [], ◌∷◌, ◌++◌, take, length, get_or, refl, sym, ◌∙◌, ap, subst, inl, inr}
use Rattle.std.specs.List.{list_any}
use Rattle.std.proofs.lemmas.Bool.{eqb-true, cases_Bool, or_cases, false_from_ne_true}
use Rattle.std.proofs.lemmas.List.{take_more, take_all}
use Rattle.tcl_cnf.specs.Literal.{neg}
use Rattle.tcl_cnf.specs.Clause.{has, put, union, IsClause, AreClauses, clashes_within}
use Rattle.tcl_cnf.proofs.Bools.{true-false}
use Rattle.tcl_cnf.proofs.Members.{has-union}
use Rattle.tcl_cnf.proofs.Ordered.{increasing-union}
use Rattle.tcl_cnf.proofs.Entries.{get-last, get-either}

-- no list of clauses holds only clauses
pub are_clauses_none : AreClauses []
are_clauses_none = record { each = λ k c e. cc }

-- one clause more
pub are_clauses_push : (clauses : List (List ℕ)) (c : List ℕ) → AreClauses clauses → IsClause c → AreClauses (clauses ++ c ∷ [])
are_clauses_push clauses c all one = record { each = λ k d e. elim (get-last clauses c k d e) [ inl f ↦ all.each k d f | inr p ↦ subst IsClause (sym p.1) one ] }

-- more clauses behind
pub are_clauses_append : (clauses more : List (List ℕ)) → AreClauses clauses → AreClauses more → AreClauses (clauses ++ more)
are_clauses_append clauses more all others = record {
  each = λ k c e. elim (get-either clauses more k c e) [ inl f ↦ all.each k c f | inr p ↦ others.each p.0 c p.1 ];
}

-- where some member passes the test, the list does
pub any_from_has : (p : ℕ → Bool) (x : ℕ) (xs : List ℕ) → has x xs ≡ true → p x ≡ true → list_any p xs ≡ true
any_from_has p x [] h t = absurd (true-false false h refl)
any_from_has p x (y ∷ xs) h t = elim (or_cases (eqb y x) (has x xs) h) [
  | inl e ↦ ap (λ b. b || list_any p xs) (ap p (eqb-true y x e) ∙ t)
  | inr e ↦ rw (any_from_has p x xs e t) (elim (cases_Bool (p y)) [ inl f ↦ rw f refl | inr f ↦ rw f refl ])
]

-- the literals put together are a clause where no literal and its negation are among them
pub union_clause : (ls : List ℕ) → clashes_within ls ≡ false → IsClause (union [] ls)
union_clause ls h = record {
  increasing = increasing-union [] ls tt;
  one_sign = λ l e. has-union (neg l) [] ls ∙ false_from_ne_true (has (neg l) ls) (λ f. true-false (clashes_within ls) (any_from_has (λ m. has (neg m) ls) l ls (sym (has-union l [] ls) ∙ e) f) h);
}

pub union-push : (c xs : List ℕ) (x : ℕ) → union c (xs ++ x ∷ []) ≡ put x (union c xs)
union-push c [] x = refl
union-push c (y ∷ xs) x = union-push (put y c) xs x

-- one literal more is put into the union
pub union_more : (c xs : List ℕ) (i x : ℕ) → i < length xs → x ≡ get_or xs i x → union c (take (i + 1) xs) ≡ put x (union c (take i xs))
union_more c xs i x h e = ap (union c) (take_more xs i x h) ∙ union-push c (take i xs) (get_or xs i x) ∙ ap (λ t. put t (union c (take i xs))) (sym e)
