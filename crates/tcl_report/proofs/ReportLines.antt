-- Each line of a report on a finished board is true.
use Rattle.std.proofs.Common.{◌≡◌, refl, sym, ap, ◌∙◌, subst, ◌⊎◌, inl, inr, ℕ, zero, suc, ◌<◌, arith, Bool, true, false, ℤ, List, [], ◌∷◌, length, Option, Some, None, if◌then◌else◌}
use Rattle.std.specs.Option.{is_some}
use Rattle.std.specs.List.{slice_get, list_any, list_all}
use Rattle.std.proofs.lemmas.Bool.{cases_Bool}
use Rattle.std.proofs.lemmas.Option.{slice_get_within}
use Rattle.tcl_list.proofs.Booleans.{if_yes, if_no}
use Rattle.tcl_lang.specs.declared.pred.Line.{Line}
use Rattle.tcl_lang.specs.Program.{ReadProgram}
use Rattle.tcl_lang.specs.Goal.{goal_count}
use Rattle.tcl_lang.specs.Versions.{form_of}
use Rattle.tcl_goals.specs.declared.piece.Piece.{Piece}
use Rattle.tcl_goals.specs.declared.piece.Verdict.TheVariants as verdict
use Rattle.tcl_goals.specs.Places.{goal_place}
use Rattle.tcl_board.specs.declared.event.Status.{Status}
use Rattle.tcl_board.specs.declared.event.Status.TheVariants as status
use Rattle.tcl_board.specs.declared.evidence.Seen.{Seen}
use Rattle.tcl_board.specs.declared.evidence.Seen.TheVariants as seen
use Rattle.tcl_board.specs.Shows.{Causes}
use Rattle.tcl_board.specs.Moves.{is_on, is_recorded}
use Rattle.tcl_board.specs.State.{BoardState}
use Rattle.tcl_board.specs.Truths.{Apart}
use Rattle.tcl_board.specs.Kept.{IsBoard}
use Rattle.tcl_board.specs.Told.{Answer, Proved, Refuted, Unproved, Strayed, Open, evident_in, evident_at, broken_by, break_of, input_in, last_cause, cause_in, stray_in, answer_by, answer_from, unadmitted, answer_of, verdict_of}
use Rattle.tcl_board.specs.Finished.{IsFinal, FinishedAnswers}
use Rattle.tcl_board.proofs.Knowing.{answer_holds}
use Rattle.tcl_board.proofs.Moving.{below_is}
use Rattle.tcl_report.specs.Report.{report_of}
use Rattle.tcl_report.specs.ReportSays.{is_proved, is_refuted, is_unproved, StraySays, VerdictSays, IsReport}
use Rattle.tcl_report.proofs.EventLemmas.{there, admits_is, breaks_is}

true_false : (b : Bool) → b ≡ true → b ≡ false → ⊥
true_false b e f = cc

-- what is told by a cause is neither
record IsNeither (a : Answer) : Type 0 where
  proved : is_proved a ≡ false
  refuted : is_refuted a ≡ false

in_cause : (o : Option Seen) → IsNeither (cause_in o)
in_cause None = record { proved = refl; refuted = refl }
in_cause (Some (seen.Shown sh cited)) = record { proved = refl; refuted = refl }
in_cause (Some (seen.Lemma sh cited)) = record { proved = refl; refuted = refl }
in_cause (Some (seen.Ended c)) = record { proved = refl; refuted = refl }

in_stray : (place : ℕ) (o : Option (List ℤ)) → IsNeither (stray_in place o)
in_stray place None = record { proved = refl; refuted = refl }
in_stray place (Some input) = record { proved = refl; refuted = refl }

by_status : (lines : List Line) (kept : List Seen) (x : Option Status) → IsNeither (answer_by lines kept x)
by_status lines kept None = record { proved = refl; refuted = refl }
by_status lines kept (Some status.Unclaimed) = record { proved = refl; refuted = refl }
by_status lines kept (Some (status.Held w)) = record { proved = refl; refuted = refl }
by_status lines kept (Some (status.Proved n)) = record { proved = refl; refuted = refl }
by_status lines kept (Some (status.Ended n)) = in_cause (slice_get kept n)
by_status lines kept (Some status.Broken) = record { proved = refl; refuted = refl }
by_status lines kept (Some (status.Strayed g n)) = in_stray (goal_place lines g) (input_in (evident_in (slice_get kept n)))
by_status lines kept (Some status.Cancelled) = record { proved = refl; refuted = refl }

by_piece : (s : BoardState) (o : Option ℕ) → IsNeither (answer_from s o)
by_piece s None = record { proved = refl; refuted = refl }
by_piece s (Some k) = by_status s.program.lines s.kept (slice_get s.position.statuses k)

-- an admitted goal, and one that is not
told_on : (s : BoardState) (g : ℕ) → is_on (slice_get s.position.admitted g) ≡ true → answer_of s g ≡ Proved
told_on s g on = if_yes (is_on (slice_get s.position.admitted g)) Proved (unadmitted s g (input_in (break_of s g))) on

told_off : (s : BoardState) (g : ℕ) (o : Option (List ℤ)) → is_on (slice_get s.position.admitted g) ≡ false → input_in (break_of s g) ≡ o → answer_of s g ≡ unadmitted s g o
told_off s g o off e = if_no (is_on (slice_get s.position.admitted g)) Proved (unadmitted s g (input_in (break_of s g))) off ∙ ap (unadmitted s g) e

not_proved : (s : BoardState) (g : ℕ) (o : Option (List ℤ)) → is_proved (unadmitted s g o) ≡ false
not_proved s g (Some input) = refl
not_proved s g None = (by_piece s (last_cause s g)).proved

pub proved_is : (s : BoardState) (g : ℕ) → is_proved (answer_of s g) ≡ is_on (slice_get s.position.admitted g)
proved_is s g = elim (cases_Bool (is_on (slice_get s.position.admitted g))) [
  | inl on ↦ ap is_proved (told_on s g on) ∙ sym on
  | inr off ↦ ap is_proved (told_off s g (input_in (break_of s g)) off refl) ∙ not_proved s g (input_in (break_of s g)) ∙ sym off
]

-- the input of a recorded break
kept_break : (causes : Causes) (s : BoardState) (g : ℕ) → IsBoard causes s → is_recorded (slice_get s.position.breaks g) ≡ true → (input : List ℤ) × (input_in (break_of s g) ≡ Some input)
kept_break causes s g b h = by_break (slice_get s.position.breaks g) refl h
  where
    by_break : (o : Option (Option ℕ)) → slice_get s.position.breaks g ≡ o → is_recorded o ≡ true → (input : List ℤ) × (input_in (break_of s g) ≡ Some input)
    by_break None e h = absurd (cc)
    by_break (Some None) e h = absurd (cc)
    by_break (Some (Some n)) e h =
        let t = b.breaks_true g n e in
        (t.input, ap (λ o. input_in (evident_at s.kept (broken_by o))) e ∙ ap (λ o. input_in (evident_in o)) t.at)

no_break : (s : BoardState) (g : ℕ) → is_recorded (slice_get s.position.breaks g) ≡ false → input_in (break_of s g) ≡ None
no_break s g h = by_break (slice_get s.position.breaks g) refl h
  where
    by_break : (o : Option (Option ℕ)) → slice_get s.position.breaks g ≡ o → is_recorded o ≡ false → input_in (break_of s g) ≡ None
    by_break None e h = ap (λ o. input_in (evident_at s.kept (broken_by o))) e
    by_break (Some None) e h = ap (λ o. input_in (evident_at s.kept (broken_by o))) e
    by_break (Some (Some n)) e h = absurd (cc)

pub refuted_is : (causes : Causes) (s : BoardState) (g : ℕ) → IsBoard causes s → Apart s.position.admitted s.position.breaks → is_refuted (answer_of s g) ≡ is_recorded (slice_get s.position.breaks g)
refuted_is causes s g b apart = elim (cases_Bool (is_on (slice_get s.position.admitted g))) [
  | inl on ↦ ap is_refuted (told_on s g on) ∙ sym (free on (cases_Bool (is_recorded (slice_get s.position.breaks g))))
  | inr off ↦ by_record off (cases_Bool (is_recorded (slice_get s.position.breaks g)))
]
  where
    free : is_on (slice_get s.position.admitted g) ≡ true → (is_recorded (slice_get s.position.breaks g) ≡ true) ⊎ (is_recorded (slice_get s.position.breaks g) ≡ false) → is_recorded (slice_get s.position.breaks g) ≡ false
    free on (inl h) = absurd (apart g on h)
    free on (inr h) = h

    by_record : is_on (slice_get s.position.admitted g) ≡ false → (is_recorded (slice_get s.position.breaks g) ≡ true) ⊎ (is_recorded (slice_get s.position.breaks g) ≡ false) → is_refuted (answer_of s g) ≡ is_recorded (slice_get s.position.breaks g)
    by_record off (inl h) =
        let kept = kept_break causes s g b h in
        ap is_refuted (told_off s g (Some kept.0) off kept.1) ∙ sym h
    by_record off (inr h) = ap is_refuted (told_off s g None off (no_break s g h)) ∙ (by_piece s (last_cause s g)).refuted ∙ sym h

-- a stray comes with the goal that its input refutes
stray_by : (causes : Causes) (s : BoardState) (b : IsBoard causes s) → Apart s.position.admitted s.position.breaks → (k : ℕ) (q : Piece) → slice_get s.position.pieces k ≡ Some q → (x : Option Status) → slice_get s.position.statuses k ≡ x → StraySays s (answer_by s.program.lines s.kept x)
stray_by causes s b apart k q at None e = tt
stray_by causes s b apart k q at (Some status.Unclaimed) e = tt
stray_by causes s b apart k q at (Some (status.Held w)) e = tt
stray_by causes s b apart k q at (Some (status.Proved n)) e = tt
stray_by causes s b apart k q at (Some status.Broken) e = tt
stray_by causes s b apart k q at (Some status.Cancelled) e = tt
stray_by causes s b apart k q at (Some (status.Ended n)) e =
    let found = b.truths k q (status.Ended n) at e in
    subst (λ o. StraySays s (cause_in o)) (sym found.1) found.2.not_broken
stray_by causes s b apart k q at (Some (status.Strayed i n)) e =
    let found = b.truths k q (status.Strayed i n) at e in
    let goal = below_is q.goal (goal_count s.program.lines) (b.plan.each k q at).goal in
    subst (λ o. StraySays s (stray_in (goal_place s.program.lines i) (input_in (evident_in o)))) (sym found.3)
    (record { goal = i; exists = omega (arith, goal, found.6); at = refl; refutes = found.4.breaks; told = refuted_is causes s i b apart ∙ found.5 })

stray_from : (causes : Causes) (s : BoardState) (b : IsBoard causes s) → Apart s.position.admitted s.position.breaks → (o : Option ℕ) → StraySays s (answer_from s o)
stray_from causes s b apart None = tt
stray_from causes s b apart (Some k) = by_status_at (slice_get s.position.statuses k) refl
  where
    by_status_at : (x : Option Status) → slice_get s.position.statuses k ≡ x → StraySays s (answer_by s.program.lines s.kept (slice_get s.position.statuses k))
    by_status_at None e = subst (λ y. StraySays s (answer_by s.program.lines s.kept y)) (sym e) tt
    by_status_at (Some x) e =
        let within = slice_get_within s.position.statuses k x e in
        let piece = there s.position.pieces k (omega (arith, within, b.statuses)) in
        stray_by causes s b apart k piece.0 piece.1 (slice_get s.position.statuses k) refl

stray_says : (causes : Causes) (s : BoardState) (g : ℕ) (b : IsBoard causes s) → Apart s.position.admitted s.position.breaks → StraySays s (answer_of s g)
stray_says causes s g b apart = elim (cases_Bool (is_on (slice_get s.position.admitted g))) [
  | inl on ↦ subst (StraySays s) (sym (told_on s g on)) tt
  | inr off ↦ subst (StraySays s) (sym (told_off s g (input_in (break_of s g)) off refl)) (by_input (input_in (break_of s g)))
]
  where
    by_input : (o : Option (List ℤ)) → StraySays s (unadmitted s g o)
    by_input None = stray_from causes s b apart (last_cause s g)
    by_input (Some input) = tt

-- the last line
some_recorded : (bs : List (Option ℕ)) → list_any is_some bs ≡ true → (g : ℕ) × (g < length bs) × (is_recorded (slice_get bs g) ≡ true)
some_recorded [] e = absurd (cc)
some_recorded (Some n ∷ bs) e = (0, omega arith, refl)
some_recorded (None ∷ bs) e =
    let found = some_recorded bs e in
    (suc found.0, omega (arith, found.1), found.2)

none_recorded : (bs : List (Option ℕ)) (g : ℕ) → list_any is_some bs ≡ false → is_recorded (slice_get bs g) ≡ false
none_recorded [] g e = refl
none_recorded (Some n ∷ bs) g e = absurd (cc)
none_recorded (None ∷ bs) zero e = refl
none_recorded (None ∷ bs) (suc g) e = none_recorded bs g e

each_on : (marks : List Bool) (g : ℕ) → list_all (λ b. b) marks ≡ true → g < length marks → is_on (slice_get marks g) ≡ true
each_on [] g e h = absurd (omega arith)
each_on (false ∷ marks) g e h = absurd (cc)
each_on (true ∷ marks) zero e h = refl
each_on (true ∷ marks) (suc g) e h = each_on marks g e (omega (arith, h))

some_off : (marks : List Bool) → list_all (λ b. b) marks ≡ false → (g : ℕ) × (g < length marks) × (is_on (slice_get marks g) ≡ false)
some_off [] e = absurd (cc)
some_off (false ∷ marks) e = (0, omega arith, refl)
some_off (true ∷ marks) e =
    let found = some_off marks e in
    (suc found.0, omega (arith, found.1), found.2)

unproved_is : (a : Answer) → is_proved a ≡ false → is_refuted a ≡ false → IsFinal a → is_unproved a ≡ true
unproved_is Proved e f h = absurd (cc)
unproved_is (Refuted input) e f h = absurd (cc)
unproved_is (Unproved c) e f h = refl
unproved_is (Strayed place input) e f h = refl
unproved_is Open e f h = absurd h

verdict_says : (causes : Causes) (s : BoardState) (b : IsBoard causes s) → Apart s.position.admitted s.position.breaks → FinishedAnswers s → VerdictSays s (verdict_of s)
verdict_says causes s b apart final = elim (cases_Bool (list_any is_some s.position.breaks)) [
  | inl broken ↦
      let found = some_recorded s.position.breaks broken in
      subst (VerdictSays s) (sym (if_yes (list_any is_some s.position.breaks) verdict.Refuted (if list_all (λ b. b) s.position.admitted then verdict.Verified else verdict.Unproved) broken))
      (record { goal = found.0; exists = omega (arith, found.1, b.breaks); passes = refuted_is causes s found.0 b apart ∙ found.2 })
  | inr unbroken ↦
      subst (VerdictSays s) (sym (if_no (list_any is_some s.position.breaks) verdict.Refuted (if list_all (λ b. b) s.position.admitted then verdict.Verified else verdict.Unproved) unbroken))
      (by_marks unbroken (cases_Bool (list_all (λ b. b) s.position.admitted)))
]
  where
    by_marks : list_any is_some s.position.breaks ≡ false → (list_all (λ b. b) s.position.admitted ≡ true) ⊎ (list_all (λ b. b) s.position.admitted ≡ false) → VerdictSays s (if list_all (λ b. b) s.position.admitted then verdict.Verified else verdict.Unproved)
    by_marks unbroken (inl on) =
        subst (VerdictSays s) (sym (if_yes (list_all (λ b. b) s.position.admitted) verdict.Verified verdict.Unproved on))
        (λ g h. proved_is s g ∙ each_on s.position.admitted g on (omega (arith, h, b.admitted)))
    by_marks unbroken (inr off) =
        let found = some_off s.position.admitted off in
        subst (VerdictSays s) (sym (if_no (list_all (λ b. b) s.position.admitted) verdict.Verified verdict.Unproved off)) (
          λ g h. refuted_is causes s g b apart ∙ none_recorded s.position.breaks g unbroken,
          record {
            goal = found.0;
            exists = omega (arith, found.1, b.admitted);
            passes = unproved_is (answer_of s found.0) (proved_is s found.0 ∙ found.2) (refuted_is causes s found.0 b apart ∙ none_recorded s.position.breaks found.0 unbroken) (final found.0 found.1);
          },
        )

-- the whole report
pub is_report : (causes : Causes) (p : ReadProgram) (s : BoardState) (text : List ℕ) → IsBoard causes s → Apart s.position.admitted s.position.breaks → FinishedAnswers s → s.program ≡ form_of p.program → text ≡ report_of p s → IsReport causes p s text
is_report causes p s text b apart final form e =
    record {
      text_is = e;
      form = form;
      lines = λ g h. record {
        holds = answer_holds causes s g b;
        proved = proved_is s g ∙ sym (admits_is causes s g b);
        refuted = refuted_is causes s g b apart ∙ sym (breaks_is causes s g b);
        final = final g (omega (arith, h, b.admitted));
        stray = stray_says causes s g b apart;
      };
      verdict = verdict_says causes s b apart final;
    }
