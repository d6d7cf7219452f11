-- What the walk through all assignments of the free bits of a fact ends with.
use Rattle.std.specs.Prelude.{ℕ, ℤ, Bool, not, ◌&&◌, if◌then◌else◌, List, find, Option, Some, None, ◌≡◌}
use Rattle.std.specs.List.{list_all}
use Rattle.tcl_lang.specs.Program.{VersionedProgram}
use Rattle.tcl_goals.specs.declared.fact.Fact.{Fact}
use Rattle.tcl_goals.specs.declared.lemma.Numbered.{Numbered}
use Rattle.tcl_goals.specs.Numbers.{numbers_below}
use Rattle.tcl_goals.specs.Assignments.{hyp_of, cube_of, claim_of}
use Rattle.tcl_enum.specs.declared.ended.Ended.{Ended}
use Rattle.tcl_enum.specs.declared.ended.Ended.TheVariants.{All, Fails, Wide, Memory}
use Rattle.tcl_enum.specs.NarrowFact.{is_narrow_fact}
use Rattle.tcl_enum.specs.Patterns.{assignment, assignment_count, free_values}

-- these values deny the fact: its hypotheses and its cube hold, and its claim does not
abbrev pub is_denied : VersionedProgram → List Numbered → Fact → List ℤ → Bool
is_denied p lemmas fact values =
    list_all (hyp_of p lemmas values) fact.hyps && cube_of p values fact.cube && not (claim_of p values fact.claim)

-- assignment n denies it
abbrev pub is_denied_at : VersionedProgram → List Numbered → Fact → ℕ → Bool
is_denied_at p lemmas fact n = is_denied p lemmas fact (assignment p lemmas fact n)

-- the number of the first assignment that denies it
unfoldable pub first_denial : VersionedProgram → List Numbered → Fact → Option ℕ
first_denial p lemmas fact = find (is_denied_at p lemmas fact) (numbers_below (assignment_count p lemmas fact))

-- what the walk ends with: `Wide` where an equation is, else `All` or the first assignment that denies the fact
abbrev pub ended_by : VersionedProgram → List Numbered → Fact → Option ℕ → Ended
ended_by p lemmas fact None = All
ended_by p lemmas fact (Some n) = Fails (free_values p lemmas fact n)

unfoldable pub ended_of : VersionedProgram → List Numbered → Fact → Ended
ended_of p lemmas fact =
    if is_narrow_fact p fact then ended_by p lemmas fact (first_denial p lemmas fact) else Wide

-- the end is this one, unless memory ran out
abbrev pub IsEnd : Ended → Ended → Type 0
IsEnd told Memory = Unit {0}
IsEnd told ended = ended ≡ told
