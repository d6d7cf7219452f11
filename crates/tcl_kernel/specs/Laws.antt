-- What checks give: certificates are sound, and so are checked inputs.
use Rattle.std.specs.Prelude.{◌≡◌, ◌↔◌, ◌≤◌, ◌+◌, ℕ, ℤ, All, List, length, None}
use Rattle.tcl_lang.specs.Program.{VersionedProgram}
use Rattle.tcl_lang.specs.Form.{IsWellFormed}
use Rattle.tcl_lang.specs.Correct.{IsCounterexample}
use Rattle.tcl_goals.specs.declared.fact.Fact.{Fact}
use Rattle.tcl_goals.specs.declared.fact.Hyp.{Hyp}
use Rattle.tcl_goals.specs.declared.lemma.Numbered.{Numbered}
use Rattle.tcl_goals.specs.declared.piece.Shown.{Shown}
use Rattle.tcl_goals.specs.LemmaList.{next_number, Extends}
use Rattle.tcl_goals.specs.Order.{InOrder}
use Rattle.tcl_goals.specs.Holds.{FactHolds}
use Rattle.tcl_kernel.specs.declared.certificate.Cert.{Cert}
use Rattle.tcl_kernel.specs.Shown.{Stands}
use Rattle.tcl_kernel.specs.Earlier.{Earlier}
use Rattle.tcl_kernel.specs.Evidence.{next_fact, with_shown}
use Rattle.tcl_kernel.specs.Cited.{cited_lemmas}
use Rattle.tcl_kernel.specs.Entry.{entry_reason}
use Rattle.tcl_kernel.specs.BoundsCertificate.{BoundsCheck}
use Rattle.tcl_kernel.specs.EnumerationCertificate.{EnumerationChecks}
use Rattle.tcl_kernel.specs.LogCertificate.{LogCheck}
use Rattle.tcl_remainder.specs.declared.lines.CofactorLine.{CofactorLine}
use Rattle.tcl_kernel.specs.CofactorCertificate.{CofactorCheck}
use Rattle.tcl_kernel.specs.CasesCertificate.{CasesCheck}
use Rattle.tcl_kernel.specs.Certificates.{Checks, first_reason}
use Rattle.tcl_kernel.specs.Counterexample.{BreakChecks}

-- no reason stands against a fact by itself exactly where it is in order
abbrev pub EntriesAreInOrder : Type 0
EntriesAreInOrder =
    (p : VersionedProgram) (lemmas : List Numbered) (fact : Fact) →
    (entry_reason p lemmas fact ≡ None) ↔ InOrder p lemmas fact

-- there is no reason exactly where the fact is in order and its certificate shows it
abbrev pub ReasonsAreExact : Type 0
ReasonsAreExact =
    (p : VersionedProgram) (earlier : Earlier) (fact : Fact) (c : Cert) → IsWellFormed p →
    (first_reason p earlier fact c ≡ None) ↔ Checks p earlier fact c

-- each kind of certificate is sound
abbrev pub BoundsAreSound : Type 0
BoundsAreSound =
    (p : VersionedProgram) (lemmas : List Numbered) (fact : Fact) → IsWellFormed p → BoundsCheck p fact →
    FactHolds p lemmas fact

abbrev pub EnumerationIsSound : Type 0
EnumerationIsSound =
    (p : VersionedProgram) (lemmas : List Numbered) (fact : Fact) → IsWellFormed p → EnumerationChecks p lemmas fact →
    FactHolds p lemmas fact

abbrev pub LogsAreSound : Type 0
LogsAreSound =
    (p : VersionedProgram) (lemmas : List Numbered) (fact : Fact) (lines : List (List ℕ)) → IsWellFormed p →
    InOrder p lemmas fact → LogCheck p lemmas fact lines → FactHolds p lemmas fact

abbrev pub CofactorsAreSound : Type 0
CofactorsAreSound =
    (p : VersionedProgram) (lemmas : List Numbered) (fact : Fact) (lines : List CofactorLine) → IsWellFormed p →
    CofactorCheck p lemmas fact lines → FactHolds p lemmas fact

-- the earlier facts stand under the earlier lemmas
abbrev pub AreStanding : VersionedProgram → Earlier → Type 0
AreStanding p earlier = All (λ n. Stands p earlier.lemmas n.fact) earlier.facts

abbrev pub CasesAreSound : Type 0
CasesAreSound =
    (p : VersionedProgram) (earlier : Earlier) (fact : Fact) (items : List ℕ) → AreStanding p earlier →
    CasesCheck earlier.facts fact items → FactHolds p earlier.lemmas fact

-- so a fact that checks after facts that stand stands under the lemmas, and under those that it cites
abbrev pub ChecksAreSound : Type 0
ChecksAreSound =
    (p : VersionedProgram) (earlier : Earlier) (fact : Fact) (c : Cert) → IsWellFormed p → AreStanding p earlier →
    Checks p earlier fact c → Stands p earlier.lemmas fact

abbrev pub CitedAreEnough : Type 0
CitedAreEnough =
    (p : VersionedProgram) (lemmas : List Numbered) (fact : Fact) → Stands p lemmas fact →
    Stands p (cited_lemmas fact.hyps lemmas) fact

-- a proof keeps only lemmas of the list, and what a fact adds is below the next number
abbrev pub CitedAreAmong : Type 0
CitedAreAmong = (hyps : List Hyp) (lemmas : List Numbered) → Extends (cited_lemmas hyps lemmas) lemmas

abbrev pub AddedAreBelow : Type 0
AddedAreBelow =
    (earlier : Earlier) (n : ℕ) (sh : Shown) → next_number earlier.lemmas ≤ n → next_fact earlier.facts ≤ n →
    (next_number (with_shown earlier n sh).lemmas ≤ n + 1) × (next_fact (with_shown earlier n sh).facts ≤ n + 1)

-- an input that checks refutes the goal
abbrev pub BreaksRefute : Type 0
BreaksRefute =
    (p : VersionedProgram) (goal : ℕ) (input : List ℤ) → IsWellFormed p → BreakChecks p goal input →
    IsCounterexample (length p.variables) p.lines input goal
