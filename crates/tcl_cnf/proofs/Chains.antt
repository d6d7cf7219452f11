-- Chains of resolutions: they keep clauses, follow, and derive the same where clauses are appended.
use Rattle.std.proofs.Common.{◌≡◌, ℕ, Bool, true, List, [], ◌∷◌, ◌++◌, Option, Some, None, slice_get, refl}
use Rattle.std.proofs.lemmas.Option.{none-some}
use Rattle.tcl_cnf.specs.Clause.{IsClause, AreClauses, clause_true, Satisfies, Follows}
use Rattle.tcl_cnf.specs.Resolution.{join_step, chain_from, chain_of}
use Rattle.tcl_cnf.proofs.Joins.{join_clause, join_sound}
use Rattle.tcl_cnf.proofs.Truth.{true_each}
use Rattle.tcl_cnf.proofs.Entries.{get-kept}

-- a fact of the clause, if there is one
abbrev pub ForClause : (List ℕ → Type 0) → Option (List ℕ) → Type 0
ForClause P o = (c : List ℕ) → o ≡ Some c → P c

-- a chain that has failed goes on failing
pub chain_from-none : (clauses : List (List ℕ)) (ks : List ℕ) → chain_from clauses None ks ≡ None
chain_from-none clauses [] = refl
chain_from-none clauses (k ∷ ks) = chain_from-none clauses ks

-- one step more
pub chain_from-push : (clauses : List (List ℕ)) (o : Option (List ℕ)) (ks : List ℕ) (k : ℕ) → chain_from clauses o (ks ++ k ∷ []) ≡ join_step (chain_from clauses o ks) (slice_get clauses k)
chain_from-push clauses o [] k = refl
chain_from-push clauses o (j ∷ ks) k = chain_from-push clauses (join_step o (slice_get clauses j)) ks k

step_clause : (o p : Option (List ℕ)) → ForClause IsClause o → ForClause IsClause p → ForClause IsClause (join_step o p)
step_clause None p f g e h = absurd (none-some e h)
step_clause (Some c) None f g e h = absurd (none-some e h)
step_clause (Some c) (Some d) f g e h = join_clause c d e (f c refl) (g d refl) h

from_clause : (clauses : List (List ℕ)) → AreClauses clauses → (o : Option (List ℕ)) (ks : List ℕ) → ForClause IsClause o → ForClause IsClause (chain_from clauses o ks)
from_clause clauses all o [] f = f
from_clause clauses all o (k ∷ ks) f = from_clause clauses all (join_step o (slice_get clauses k)) ks (step_clause o (slice_get clauses k) f (all.each k))

-- what a chain of clauses derives is a clause
pub chain_clause : (clauses : List (List ℕ)) (ks c : List ℕ) → AreClauses clauses → chain_of clauses ks ≡ Some c → IsClause c
unfolding chain_of
chain_clause clauses [] c all h = absurd (none-some c h)
chain_clause clauses (k ∷ ks) c all h = from_clause clauses all (slice_get clauses k) ks (all.each k) c h

step_true : (v : ℕ → Bool) (o p : Option (List ℕ)) → ForClause (λ c. clause_true v c ≡ true) o → ForClause (λ c. clause_true v c ≡ true) p → ForClause (λ c. clause_true v c ≡ true) (join_step o p)
step_true v None p f g e h = absurd (none-some e h)
step_true v (Some c) None f g e h = absurd (none-some e h)
step_true v (Some c) (Some d) f g e h = join_sound v c d e h (f c refl) (g d refl)

from_true : (v : ℕ → Bool) (clauses : List (List ℕ)) → Satisfies v clauses → (o : Option (List ℕ)) (ks : List ℕ) → ForClause (λ c. clause_true v c ≡ true) o → ForClause (λ c. clause_true v c ≡ true) (chain_from clauses o ks)
from_true v clauses s o [] f = f
from_true v clauses s o (k ∷ ks) f = from_true v clauses s (join_step o (slice_get clauses k)) ks (step_true v o (slice_get clauses k) f (λ c e. true_each v clauses k c s e))

-- what a chain derives follows
pub chain_follows : (clauses : List (List ℕ)) (ks c : List ℕ) → chain_of clauses ks ≡ Some c → Follows clauses c
unfolding chain_of
chain_follows clauses [] c h v s = absurd (none-some c h)
chain_follows clauses (k ∷ ks) c h v s = from_true v clauses s (slice_get clauses k) ks (λ d e. true_each v clauses k d s e) c h

-- the option that holds more
abbrev pub Extends : Option (List ℕ) → Option (List ℕ) → Type 0
Extends o p = (c : List ℕ) → o ≡ Some c → p ≡ Some c

step_extends : (o p o' p' : Option (List ℕ)) → Extends o o' → Extends p p' → Extends (join_step o p) (join_step o' p')
step_extends None p o' p' f g e h = absurd (none-some e h)
step_extends (Some c) None o' p' f g e h = absurd (none-some e h)
step_extends (Some c) (Some d) o' p' f g e h = rw (f c refl, g d refl) h

from_extends : (clauses more : List (List ℕ)) (o o' : Option (List ℕ)) (ks : List ℕ) → Extends o o' → Extends (chain_from clauses o ks) (chain_from (clauses ++ more) o' ks)
from_extends clauses more o o' [] f = f
from_extends clauses more o o' (k ∷ ks) f =
    from_extends clauses more (join_step o (slice_get clauses k)) (join_step o' (slice_get (clauses ++ more) k)) ks
    (step_extends o (slice_get clauses k) o' (slice_get (clauses ++ more) k) f (λ c e. get-kept clauses more k c e))

-- a chain derives the same where clauses are appended
pub chain_kept : (clauses more : List (List ℕ)) (ks c : List ℕ) → chain_of clauses ks ≡ Some c → chain_of (clauses ++ more) ks ≡ Some c
unfolding chain_of
chain_kept clauses more [] c h = absurd (none-some c h)
chain_kept clauses more (k ∷ ks) c h = from_extends clauses more (slice_get clauses k) (slice_get (clauses ++ more) k) ks (λ d e. get-kept clauses more k d e) c h
