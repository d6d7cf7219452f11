-- The trace of a run is an assignment of each fact.
use Rattle.std.proofs.Common.{◌≡◌, sym, ◌∙◌, ap, subst, ℤ, true, List}
use Rattle.std.specs.List.{slice_get}
use Rattle.tcl_list.proofs.Booleans.{all_by_two}
use Rattle.tcl_lang.specs.declared.ty.Word.{Word}
use Rattle.tcl_lang.specs.Program.{VersionedProgram}
use Rattle.tcl_lang.specs.Run.{Fits, taken_types}
use Rattle.tcl_lang.specs.Executed.{IsExecutedAt}
use Rattle.tcl_lang.specs.Values.{trace_of}
use Rattle.tcl_lang.specs.Form.{IsWellFormed}
use Rattle.tcl_lang.proofs.FormEnds.{end_executed}
use Rattle.tcl_lang.proofs.ValueSteps.{trace_words, trace_values, trace_truth}
use Rattle.tcl_goals.specs.declared.fact.Hyp.{Hyp}
use Rattle.tcl_goals.specs.declared.fact.Hyp.TheVariants as hyp
use Rattle.tcl_goals.specs.declared.fact.Claim.{Claim}
use Rattle.tcl_goals.specs.declared.fact.Claim.TheVariants as claim
use Rattle.tcl_goals.specs.declared.fact.Fact.{Fact}
use Rattle.tcl_goals.specs.declared.lemma.Numbered.{Numbered}
use Rattle.tcl_goals.specs.Places.{goal_place}
use Rattle.tcl_goals.specs.LemmaList.{lemma_of}
use Rattle.tcl_goals.specs.Holds.{cube_holds, clause_holds, lemma_holds, hyp_holds, claim_holds, FactHolds}
use Rattle.tcl_goals.specs.Assignments.{hyp_of, claim_of, HoldsOfAll}
use Rattle.tcl_goals.specs.Laws.{IsAssigned}

-- a run assigns
pub runs_assign : (p : VersionedProgram) (fact : Fact) (input : List ℤ) → IsWellFormed p → Fits (taken_types p.lines) input → IsAssigned p fact input
runs_assign p fact input w fits = record {
  assigns = record {
    typed = trace_values p input w fits;
    executed = λ n k at. subst (λ (store : List Word). IsExecutedAt store (slice_get p.lines k)) (sym (trace_words p input w fits)) (end_executed p input k w fits);
  };
  store = trace_words p input w fits;
  lines = λ k. trace_truth p input k w fits;
}

-- a hypothesis and a claim say of the trace what they say in the run
hyp_same : (p : VersionedProgram) (lemmas : List Numbered) (fact : Fact) (input : List ℤ) → IsAssigned p fact input → (h : Hyp) → hyp_holds p lemmas input h ≡ true → hyp_of p lemmas (trace_of p input) h ≡ true
hyp_same p lemmas fact input a (hyp.Line k) e = a.lines k ∙ e
hyp_same p lemmas fact input a (hyp.Lemma n) e = ap (λ (store : List Word). lemma_holds store (lemma_of lemmas n)) a.store ∙ e

claim_same : (p : VersionedProgram) (fact : Fact) (input : List ℤ) → IsAssigned p fact input → (c : Claim) → claim_of p (trace_of p input) c ≡ true → claim_holds p input c ≡ true
claim_same p fact input a (claim.Goal i) e = sym (a.lines (goal_place p.lines i)) ∙ e
claim_same p fact input a (claim.Lemma m) e = sym (ap (λ (store : List Word). clause_holds store m.clause) a.store) ∙ e

-- what holds of every assignment holds of every run
pub assignments_decide : (p : VersionedProgram) (lemmas : List Numbered) (fact : Fact) → IsWellFormed p → HoldsOfAll p lemmas fact → FactHolds p lemmas fact
unfolding HoldsOfAll FactHolds
assignments_decide p lemmas fact w all input fits hyps cube =
    let a = runs_assign p fact input w fits in
    claim_same p fact input a fact.claim
    (all (trace_of p input) a.assigns
    (all_by_two (hyp_holds p lemmas input) (hyp_holds p lemmas input) (hyp_of p lemmas (trace_of p input)) (λ h e f. hyp_same p lemmas fact input a h e) fact.hyps hyps hyps)
    (ap (λ (store : List Word). cube_holds store fact.cube) a.store ∙ cube))
