-- The free variables of a fact as the first gates of its circuit: variables by number, and of each the lowest bit first. So
-- bit k of them, counted from 0, is variable k + 1 of the clauses.
use Rattle.std.specs.Prelude.{ℕ, zero, suc, ◌+◌, ◌*◌, List, [], ◌∷◌, ◌++◌, length, replicate, fold, slice_get, slice_set}
use Rattle.tcl_gates.specs.declared.gate.Gate.TheVariants.{Free}
use Rattle.tcl_lang.specs.declared.variable.Variable.{Variable}
use Rattle.tcl_lang.specs.Program.{VersionedProgram}
use Rattle.tcl_goals.specs.declared.fact.Fact.{Fact}
use Rattle.tcl_goals.specs.declared.lemma.Numbered.{Numbered}
use Rattle.tcl_goals.specs.Free.{free_variables, width_in}
use Rattle.tcl_blast.specs.declared.blasted.Begun.{Begun}

-- the literals of so many variables of the clauses, the first of number n
unfoldable pub lits_from : ℕ → ℕ → List ℕ
lits_from n zero = []
lits_from n (suc w) = 2 * n ∷ lits_from (n + 1) w

-- one more free variable of w bits
abbrev pub free_word : Begun → ℕ → ℕ → Begun
free_word s v w =
    record { gates = s.gates ++ replicate w Free; words = slice_set s.words v (lits_from (length s.gates + 1) w) }

abbrev pub free_step : List Variable → Begun → ℕ → Begun
free_step variables s v = free_word s v (width_in (slice_get variables v))

abbrev pub begun_with : List Variable → List ℕ → Begun
begun_with variables frees = fold (free_step variables) (record { gates = []; words = replicate (length variables) [] }) frees

-- the free bits of a fact
unfoldable pub begun : VersionedProgram → List Numbered → Fact → Begun
begun p lemmas fact = begun_with p.variables (free_variables p lemmas fact)
