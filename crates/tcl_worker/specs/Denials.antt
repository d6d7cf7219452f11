-- Values that deny candidates. No public clause cites this module.
use Rattle.std.specs.Prelude.{◌≡◌, ℤ, Bool, true, not, List, []}
use Rattle.std.specs.List.{list_all}
use Rattle.tcl_lang.specs.declared.variable.Variable.{Variable}
use Rattle.tcl_lang.specs.Program.{VersionedProgram}
use Rattle.tcl_lang.specs.Values.{words_of}
use Rattle.tcl_goals.specs.declared.fact.BitLit.{BitLit}
use Rattle.tcl_goals.specs.declared.fact.Fact.{Fact}
use Rattle.tcl_goals.specs.Holds.{bit_holds}
use Rattle.tcl_goals.specs.Assignments.{Assigns, hyp_of}

-- the values are an assignment of the fact in which its hypotheses hold
pub record MeetsHyps (p : VersionedProgram) (fact : Fact) (values : List ℤ) : Type 0 where
  pub assigns : Assigns p fact values
  pub hyps : list_all (hyp_of p [] values) fact.hyps ≡ true

-- the bit has another value than stated
abbrev pub denies : List Variable → BitLit → List ℤ → Bool
denies variables b values = not (bit_holds (words_of variables values) b)
