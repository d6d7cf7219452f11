-- What the end of the walk says of a fact in order: the walk decides whether the claim holds in every assignment.
use Rattle.std.specs.Prelude.{◌≡◌, ◌↔◌, ℕ, ℤ, true, false, List, slice_get, Some}
use Rattle.tcl_lang.specs.Program.{VersionedProgram}
use Rattle.tcl_lang.specs.Form.{IsWellFormed}
use Rattle.tcl_lang.specs.Values.{value_at}
use Rattle.tcl_goals.specs.declared.fact.Fact.{Fact}
use Rattle.tcl_goals.specs.declared.lemma.Numbered.{Numbered}
use Rattle.tcl_goals.specs.Order.{InOrder}
use Rattle.tcl_goals.specs.Assignments.{Assigns, HoldsOfAll}
use Rattle.tcl_enum.specs.declared.ended.FreeValue.{FreeValue}
use Rattle.tcl_enum.specs.declared.ended.Ended.TheVariants.{All, Fails, Wide}
use Rattle.tcl_enum.specs.NarrowFact.{is_narrow_fact}
use Rattle.tcl_enum.specs.Enumeration.{is_denied, ended_of}

-- some assignment has these values of free variables, meets the hypotheses and the cube, and denies the claim
pub record IsRefuted (p : VersionedProgram) (lemmas : List Numbered) (fact : Fact) (free : List FreeValue) : Type 0 where
  pub values : List ℤ
  pub assigns : Assigns p fact values
  pub given : (n : ℕ) (f : FreeValue) → slice_get free n ≡ Some f → value_at values f.var ≡ f.value
  pub denied : is_denied p lemmas fact values ≡ true

-- `All` exactly where the fact is narrow and its claim holds in every assignment in which hypotheses and cube hold
abbrev pub AllDecides : Type 0
AllDecides =
    (p : VersionedProgram) (lemmas : List Numbered) (fact : Fact) → IsWellFormed p → InOrder p lemmas fact →
    (ended_of p lemmas fact ≡ All) ↔ ((is_narrow_fact p fact ≡ true) × HoldsOfAll p lemmas fact)

-- `Fails` gives the free variables of an assignment that refutes the fact
abbrev pub FailsRefutes : Type 0
FailsRefutes =
    (p : VersionedProgram) (lemmas : List Numbered) (fact : Fact) (free : List FreeValue) → IsWellFormed p →
    InOrder p lemmas fact → ended_of p lemmas fact ≡ Fails free → IsRefuted p lemmas fact free

-- `Wide` exactly where the fact is not narrow
abbrev pub WideDecides : Type 0
WideDecides =
    (p : VersionedProgram) (lemmas : List Numbered) (fact : Fact) →
    (ended_of p lemmas fact ≡ Wide) ↔ (is_narrow_fact p fact ≡ false)
