-- Resolution (Robinson, J. ACM 12, 1965), and chains of it: trivial resolution derivations (Beame, Kautz, Sabharwal,
-- JAIR 2004), as in the proof format LRAT (Cruz-Filipe, Heule, Hunt, Kaufmann, Schneider-Kamp, CADE 2017).
use Rattle.std.specs.Prelude.{ℕ, Option, Some, None, List, [], ◌∷◌, filter, slice_get}
use Rattle.tcl_cnf.specs.Literal.{neg}
use Rattle.tcl_cnf.specs.Clause.{has, without, union}

-- the literals of the first clause whose negation is in the second
abbrev pub clashes : List ℕ → List ℕ → List ℕ
clashes c d = filter (λ l. has (neg l) d) c

-- the two clauses without the one literal at which they clash, joined
abbrev pub join_at : List ℕ → List ℕ → List ℕ → Option (List ℕ)
join_at (l ∷ []) c d = Some (union (without l c) (without (neg l) d))
join_at _ c d = None

-- the resolvent of two clauses that clash at exactly one literal
unfoldable pub join : List ℕ → List ℕ → Option (List ℕ)
join c d = join_at (clashes c d) c d

-- the resolvent, where both clauses are there
abbrev pub join_step : Option (List ℕ) → Option (List ℕ) → Option (List ℕ)
join_step (Some c) (Some d) = join c d
join_step (Some c) None = None
join_step None d = None

-- resolved with the clauses of these numbers, one after another
abbrev pub chain_from : List (List ℕ) → Option (List ℕ) → List ℕ → Option (List ℕ)
chain_from clauses o [] = o
chain_from clauses o (k ∷ ks) = chain_from clauses (join_step o (slice_get clauses k)) ks

-- the clause that a chain derives: from the clause of its first number, resolved with the others in order. None where
-- the list is empty, a number has no clause, or a clause does not clash at exactly one literal.
unfoldable pub chain_of : List (List ℕ) → List ℕ → Option (List ℕ)
chain_of clauses [] = None
chain_of clauses (k ∷ ks) = chain_from clauses (slice_get clauses k) ks
