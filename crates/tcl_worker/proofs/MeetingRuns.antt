-- Runs in which the hypotheses of a fact hold, and which deny a candidate.
use Rattle.std.proofs.Common.{◌≡◌, ◌++◌, inl, inr, ℕ, suc, ℤ, Bool, true, false, not, ◌||◌, List, [], ◌∷◌, All, Result, Ok, Err, refl, subst, sym, ap, ◌∙◌, arith}
use Rattle.std.specs.Prelude.{OnOk}
use Rattle.std.specs.List.{list_any}
use Rattle.std.proofs.lemmas.List.Elements.{All-append, All-cons, All-nil}
use Rattle.tcl_list.proofs.Booleans.{or_cases}
use Rattle.tcl_lang.specs.Program.{VersionedProgram}
use Rattle.tcl_lang.specs.Values.{words_of}
use Rattle.tcl_lang.specs.Form.{IsWellFormed}
use Rattle.tcl_goals.specs.declared.fact.BitLit.{BitLit}
use Rattle.tcl_goals.specs.declared.fact.Fact.{Fact}
use Rattle.tcl_goals.specs.Holds.{bit_holds}
use Rattle.tcl_goals.specs.Order.{InOrder}
use Rattle.tcl_blast.specs.Clauses.{clauses_of}
use Rattle.tcl_blast.specs.Laws.{AreMet, DenialsMeetClauses}
use Rattle.tcl_worker.specs.Candidates.{candidate_fact}
use Rattle.tcl_worker.specs.Denials.{MeetsHyps, denies}

-- one item more of which it holds
pub all_pushed : {X E : Type 0} (holds : X → Type 0) (old : List X) (item : X) (new : List X) (r : Result (Unit {0}) E) → OnOk r (new ≡ old ++ item ∷ []) → All holds old → holds item → OnOk r (All holds new)
all_pushed holds old item new (Ok done) e all one =
    subst (All holds) (sym e) (All-append holds old (item ∷ []) all (All-cons holds item [] one (All-nil holds)))
all_pushed holds old item new (Err x) e all one = tt

-- values in which the hypotheses hold, and which deny a candidate, meet its clauses
denied_alone : (holds : Bool) → not holds ≡ true → (holds || false) ≡ false
denied_alone true e = absurd (cc)
denied_alone false e = refl

value_met : DenialsMeetClauses → (p : VersionedProgram) (fact : Fact) (b : BitLit) (values : List ℤ) → IsWellFormed p → InOrder p [] (candidate_fact fact b) → MeetsHyps p fact values → denies p.variables b values ≡ true → AreMet (clauses_of p [] (candidate_fact fact b))
value_met meet p fact b values w order met e =
    meet p [] (candidate_fact fact b) values w order (record { typed = met.assigns.typed; executed = met.assigns.executed }) met.hyps refl
    (denied_alone (bit_holds (words_of p.variables values) b) e)

-- so do some of these runs, where one denies it
pub denied_met : DenialsMeetClauses → (p : VersionedProgram) (fact : Fact) (b : BitLit) (runs : List (List ℤ)) → IsWellFormed p → InOrder p [] (candidate_fact fact b) → All (MeetsHyps p fact) runs → list_any (denies p.variables b) runs ≡ true → AreMet (clauses_of p [] (candidate_fact fact b))
denied_met meet p fact b [] w order met e = absurd (cc)
denied_met meet p fact b (values ∷ runs) w order met e =
    elim (or_cases (denies p.variables b values) (list_any (denies p.variables b) runs) e) [
      | inl this ↦ value_met meet p fact b values w order (met 0 values (omega arith)) this
      | inr others ↦ denied_met meet p fact b runs w order (λ k d less. met (suc k) d (omega (arith, less))) others
    ]
