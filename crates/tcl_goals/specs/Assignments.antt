-- Assignments of a fact: any values of the variables at which its used instructions are executed. What holds of every
-- assignment holds of every run.
use Rattle.std.specs.Prelude.{◌≡◌, ℕ, ℤ, Bool, true, List, slice_get, Some}
use Rattle.std.specs.List.{list_all}
use Rattle.tcl_lang.specs.Program.{VersionedProgram}
use Rattle.tcl_lang.specs.Executed.{IsExecutedAt}
use Rattle.tcl_lang.specs.Values.{AreValues, words_of, truth_of}
use Rattle.tcl_goals.specs.declared.fact.Hyp.{Hyp}
use Rattle.tcl_goals.specs.declared.fact.Hyp.TheVariants as hyp
use Rattle.tcl_goals.specs.declared.fact.BitLit.{BitLit}
use Rattle.tcl_goals.specs.declared.fact.Claim.{Claim}
use Rattle.tcl_goals.specs.declared.fact.Claim.TheVariants as claim
use Rattle.tcl_goals.specs.declared.fact.Fact.{Fact}
use Rattle.tcl_goals.specs.declared.lemma.Numbered.{Numbered}
use Rattle.tcl_goals.specs.Places.{goal_place}
use Rattle.tcl_goals.specs.LemmaList.{lemma_of}
use Rattle.tcl_goals.specs.Holds.{cube_holds, clause_holds, lemma_holds}

-- the values are an assignment of the fact: one of its type for each variable, by number, and each instruction that the fact
-- uses has the results that it computes; that of a `nondet` is free
pub record Assigns (p : VersionedProgram) (fact : Fact) (values : List ℤ) : Type 0 where
  pub typed : AreValues p.variables values
  pub executed : (n k : ℕ) → slice_get fact.uses n ≡ Some k → IsExecutedAt (words_of p.variables values) (slice_get p.lines k)

-- a hypothesis, a cube and a claim hold at these values
abbrev pub hyp_of : VersionedProgram → List Numbered → List ℤ → Hyp → Bool
hyp_of p lemmas values (hyp.Line k) = truth_of p values k
hyp_of p lemmas values (hyp.Lemma n) = lemma_holds (words_of p.variables values) (lemma_of lemmas n)

abbrev pub cube_of : VersionedProgram → List ℤ → List BitLit → Bool
cube_of p values cube = cube_holds (words_of p.variables values) cube

abbrev pub claim_of : VersionedProgram → List ℤ → Claim → Bool
claim_of p values (claim.Goal i) = truth_of p values (goal_place p.lines i)
claim_of p values (claim.Lemma m) = clause_holds (words_of p.variables values) m.clause

-- the claim holds in every assignment in which the hypotheses and the cube hold
unfoldable pub HoldsOfAll : VersionedProgram → List Numbered → Fact → Type 0
HoldsOfAll p lemmas fact =
    (values : List ℤ) → Assigns p fact values → list_all (hyp_of p lemmas values) fact.hyps ≡ true →
    cube_of p values fact.cube ≡ true → claim_of p values fact.claim ≡ true
