-- Facts in order that hold give a correct program: by induction on the places of claims, since a fact rests on lines
-- before its claim and on lemmas, which hold where all before their goals holds.
use Rattle.std.proofs.Common.{◌≡◌, ℕ, zero, suc, ◌<◌, ◌≤◌, inl, inr, refl, sym, ◌∙◌, ap, subst, arith, ℤ, Bool, true, false, ◌||◌, List, [], length, Option, Some, None}
use Rattle.std.specs.List.{slice_get, list_all}
use Rattle.std.proofs.lemmas.Bool.{and_parts}
use Rattle.std.proofs.lemmas.Bool.Decides.{nat_tests}
use Rattle.tcl_lang.specs.declared.pred.Line.{Line}
use Rattle.tcl_lang.specs.Program.{VersionedProgram}
use Rattle.tcl_lang.specs.Line.{is_precondition, is_assumption, is_goal, is_hypothesis}
use Rattle.tcl_lang.specs.Run.{Fits, taken_types}
use Rattle.tcl_lang.specs.Goal.{passes, is_goal_at, goals_before, goal_count, MeetsPrecondition, KeepsAssumptions}
use Rattle.tcl_lang.specs.Correct.{IsCorrect, IsCounterexample}
use Rattle.tcl_lang.specs.Form.{end_store}
use Rattle.tcl_list.proofs.Booleans.{or_cases, all_by_two}
use Rattle.tcl_goals.specs.declared.fact.Key.{Key}
use Rattle.tcl_goals.specs.declared.fact.Hyp.{Hyp}
use Rattle.tcl_goals.specs.declared.fact.Hyp.TheVariants as hyp
use Rattle.tcl_goals.specs.declared.lemma.Lemma.{Lemma}
use Rattle.tcl_goals.specs.declared.fact.Claim.{Claim}
use Rattle.tcl_goals.specs.declared.fact.Claim.TheVariants as claim
use Rattle.tcl_goals.specs.declared.fact.Fact.{Fact}
use Rattle.tcl_goals.specs.declared.lemma.Numbered.{Numbered}
use Rattle.tcl_goals.specs.Places.{goal_place}
use Rattle.tcl_goals.specs.LemmaList.{lemma_of, next_number}
use Rattle.tcl_goals.specs.Keys.{key_less, hyps_rise, line_key, lemma_key, found_key, hyp_key, claim_key}
use Rattle.tcl_goals.specs.Order.{InOrder, has_hyp, is_before}
use Rattle.tcl_goals.specs.Holds.{line_holds, cube_holds, lemma_holds, hyp_holds, claim_holds, FactHolds, MeetsBefore, IsSound, AreSound, IsGoalSound}
use Rattle.tcl_goals.specs.Laws.{Shows}
use Rattle.tcl_goals.proofs.GoalPlaces.{place_of_goal, goal_number_below}

-- a smaller key has no greater place; a line below a line or a lemma has a smaller one
place_not_above : (a b : Key) → key_less a b ≡ true → a.place ≤ b.place
place_not_above a b e = grind (arith, nat_tests)

line_below_line : (j k : ℕ) → key_less (line_key j) (line_key k) ≡ true → j < k
line_below_line j k e = grind (arith, nat_tests)

line_below_lemma : (lines : List Line) (j i n : ℕ) → key_less (line_key j) (lemma_key lines i n) ≡ true → j < goal_place lines i
line_below_lemma lines j i n e = grind (arith, nat_tests)

-- a sound lemma of an earlier level, or of this one
lemma_met : (p : VersionedProgram) (lemmas : List Numbered) (input : List ℤ) (k n : ℕ) → AreSound p lemmas → MeetsBefore p input k → (o : Option Lemma) → lemma_of lemmas n ≡ o → (found_key p.lines o n).place ≤ k → lemma_holds (end_store p input) o ≡ true
unfolding IsSound
lemma_met p lemmas input k n sound meets None e h = refl
lemma_met p lemmas input k n sound meets (Some m) e h =
    sound n m e input (record {
      fits = meets.fits;
      precondition = meets.precondition;
      assumptions = λ j less a. meets.assumptions j (omega arith) a;
      goals = λ j less g. meets.goals j (omega arith) g;
    })

-- a line before place k that a fact may have as a hypothesis
line_met : (p : VersionedProgram) (input : List ℤ) (k j : ℕ) → MeetsBefore p input k → j < k → (o : Option Line) → slice_get p.lines j ≡ o → passes is_hypothesis o ≡ true → line_holds p input j ≡ true
line_met p input k j meets less None e h = absurd (cc)
line_met p input k j meets less (Some l) e h = elim (or_cases (is_precondition l || is_assumption l) (is_goal l) h) [
  | inl r ↦ elim (or_cases (is_precondition l) (is_assumption l) r) [
    | inl pre ↦ meets.precondition j (ap (passes is_precondition) e ∙ pre)
    | inr assumed ↦ meets.assumptions j less (ap (passes is_assumption) e ∙ assumed)
  ]
  | inr goal ↦ meets.goals j less (ap (passes is_goal) e ∙ goal)
]

-- a hypothesis with a smaller key than the claim
hyp_met : (p : VersionedProgram) (lemmas : List Numbered) (input : List ℤ) (key : Key) → AreSound p lemmas → MeetsBefore p input key.place → ((j : ℕ) → key_less (line_key j) key ≡ true → j < key.place) → (h : Hyp) → has_hyp p.lines lemmas h ≡ true → key_less (hyp_key p.lines lemmas h) key ≡ true → hyp_holds p lemmas input h ≡ true
hyp_met p lemmas input key sound meets earlier (hyp.Line j) exists less =
    line_met p input key.place j meets (earlier j less) (slice_get p.lines j) refl exists
hyp_met p lemmas input key sound meets earlier (hyp.Lemma n) exists less =
    lemma_met p lemmas input key.place n sound meets (lemma_of lemmas n) refl (place_not_above (found_key p.lines (lemma_of lemmas n) n) key less)

-- each hypothesis of a fact in order is smaller than its claim
smaller : (p : VersionedProgram) (lemmas : List Numbered) (fact : Fact) → InOrder p lemmas fact → list_all (is_before p.lines lemmas fact.claim) fact.hyps ≡ true
smaller p lemmas fact order =
    let parts = and_parts (hyps_rise p.lines lemmas fact.hyps) (list_all (is_before p.lines lemmas fact.claim) fact.hyps) order.order in
    parts.1

empty_cube : (p : VersionedProgram) (input : List ℤ) (fact : Fact) → fact.cube ≡ [] → cube_holds (end_store p input) fact.cube ≡ true
empty_cube p input fact e = ap (cube_holds (end_store p input)) e

-- what a fact shows, in a run that meets all before its claim
shown_holds : (p : VersionedProgram) (lemmas : List Numbered) (input : List ℤ) (c : Claim) (fact : Fact) → AreSound p lemmas → Shows p lemmas c fact → MeetsBefore p input (claim_key p.lines lemmas c).place → ((j : ℕ) → key_less (line_key j) (claim_key p.lines lemmas c) ≡ true → j < (claim_key p.lines lemmas c).place) → claim_holds p input c ≡ true
unfolding FactHolds
shown_holds p lemmas input c fact sound shows meets earlier =
    let key = claim_key p.lines lemmas c in
    let below : list_all (is_before p.lines lemmas c) fact.hyps ≡ true =
    ap (λ d. list_all (is_before p.lines lemmas d) fact.hyps) (sym shows.claim) ∙ smaller p lemmas fact shows.order in
    let met = all_by_two (has_hyp p.lines lemmas) (is_before p.lines lemmas c) (hyp_holds p lemmas input) (hyp_met p lemmas input key sound meets earlier) fact.hyps shows.order.hyps below in
    ap (claim_holds p input) (sym shows.claim) ∙ shows.holds input meets.fits met (empty_cube p input fact shows.cube)

-- a lemma that has a fact is sound
pub lemma_facts_are_sound : (p : VersionedProgram) (lemmas : List Numbered) (m : Lemma) (fact : Fact) → AreSound p lemmas → Shows p lemmas (claim.Lemma m) fact → IsSound p m
unfolding IsSound
lemma_facts_are_sound p lemmas m fact sound shows input meets =
    shown_holds p lemmas input (claim.Lemma m) fact sound shows meets
    (λ j less. line_below_lemma p.lines j m.level (next_number lemmas) less)

-- the goals below place n, in a run that keeps the assumptions before place k
goals_met : (p : VersionedProgram) (lemmas : List Numbered) (input : List ℤ) (k : ℕ) → AreSound p lemmas → ((i : ℕ) → i < goal_count p.lines → (fact : Fact) × Shows p lemmas (claim.Goal i) fact) → Fits (taken_types p.lines) input → MeetsPrecondition (length p.variables) p.lines input → KeepsAssumptions (length p.variables) p.lines input k → (n j : ℕ) → j < n → j ≤ k → is_goal_at p.lines j ≡ true → line_holds p input j ≡ true
goals_met p lemmas input k sound facts fits pre keeps zero j h within goal = absurd (omega arith)
goals_met p lemmas input k sound facts fits pre keeps (suc n) j h within goal =
    let place : goal_place p.lines (goals_before p.lines j) ≡ j = place_of_goal p.lines j goal in
    let found = facts (goals_before p.lines j) (goal_number_below p.lines j goal) in
    let meets : MeetsBefore p input (goal_place p.lines (goals_before p.lines j)) = record {
      fits = fits;
      precondition = pre;
      assumptions = λ m less a. keeps m (omega arith) a;
      goals = λ m less g. goals_met p lemmas input k sound facts fits pre keeps n m (omega arith) (omega arith) g;
    } in
    ap (line_holds p input) (sym place)
    ∙ shown_holds p lemmas input (claim.Goal (goals_before p.lines j)) found.0 sound found.1 meets
    (λ m less. line_below_line m (goal_place p.lines (goals_before p.lines j)) less)

-- where every goal has a fact the program is correct
pub facts_good : (p : VersionedProgram) (lemmas : List Numbered) → AreSound p lemmas → ((i : ℕ) → i < goal_count p.lines → (fact : Fact) × Shows p lemmas (claim.Goal i) fact) → IsCorrect (length p.variables) p.lines
unfolding IsCorrect
facts_good p lemmas sound facts input fits pre k goal keeps =
    goals_met p lemmas input k sound facts fits pre keeps (suc k) k (omega arith) (omega arith) goal

-- what a fact of a goal says, in a run that meets all before the goal and the cube
pub piece_fact_holds : (p : VersionedProgram) (lemmas : List Numbered) (i : ℕ) (fact : Fact) (input : List ℤ) → AreSound p lemmas → fact.claim ≡ claim.Goal i → InOrder p lemmas fact → FactHolds p lemmas fact → MeetsBefore p input (goal_place p.lines i) → cube_holds (end_store p input) fact.cube ≡ true → line_holds p input (goal_place p.lines i) ≡ true
unfolding FactHolds
piece_fact_holds p lemmas i fact input sound same order holds meets cube =
    let key = line_key (goal_place p.lines i) in
    let below : list_all (is_before p.lines lemmas (claim.Goal i)) fact.hyps ≡ true =
    ap (λ d. list_all (is_before p.lines lemmas d) fact.hyps) (sym same) ∙ smaller p lemmas fact order in
    let met = all_by_two (has_hyp p.lines lemmas) (is_before p.lines lemmas (claim.Goal i)) (hyp_holds p lemmas input) (hyp_met p lemmas input key sound meets (λ j less. line_below_line j (goal_place p.lines i) less)) fact.hyps order.hyps below in
    ap (claim_holds p input) (sym same) ∙ holds input meets.fits met cube

true_false : (b : Bool) → b ≡ true → b ≡ false → ⊥
true_false b e f = cc

-- no input refutes a sound goal
pub sound_goal_unbroken : (p : VersionedProgram) (i : ℕ) (input : List ℤ) → IsGoalSound p i → IsCounterexample (length p.variables) p.lines input i → ⊥
sound_goal_unbroken p i input sound broken =
    let place : goal_place p.lines i ≡ broken.place = ap (goal_place p.lines) (sym broken.at.number) ∙ place_of_goal p.lines broken.place broken.at.goal in
    let meets : MeetsBefore p input broken.place = record { fits = broken.fits; precondition = broken.precondition; assumptions = broken.assumptions; goals = broken.goals } in
    let holds = sound input (subst (MeetsBefore p input) (sym place) meets) in
    true_false (line_holds p input broken.place) (ap (line_holds p input) (sym place) ∙ holds) broken.fails
