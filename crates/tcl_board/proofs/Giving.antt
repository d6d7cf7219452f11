-- A submission that is taken keeps what every board keeps.
use Rattle.std.proofs.Common.{◌≡◌, refl, sym, ap, ◌∙◌, subst, ℕ, zero, suc, ◌+◌, ◌<◌, ◌≤◌, arith, nat_le, ◌==◌, Bool, true, false, ◌&&◌, if◌then◌else◌, List, [], ◌∷◌, ◌++◌, length, map, Option, Some, None}
use Rattle.std.specs.List.{slice_get, All}
use Rattle.std.proofs.lemmas.Bool.{and_from, eqb-true}
use Rattle.std.proofs.lemmas.Bool.Decides.{nat_tests}
use Rattle.std.proofs.lemmas.List.{length-append, map-append}
use Rattle.std.proofs.lemmas.List.Elements.{All-append}
use Rattle.std.proofs.lemmas.Option.{slice_get_within}
use Rattle.tcl_list.proofs.Booleans.{if_no}
use Rattle.tcl_lang.specs.Program.{VersionedProgram}
use Rattle.tcl_lang.specs.Goal.{goal_count}
use Rattle.tcl_goals.specs.declared.lemma.Numbered.{Numbered}
use Rattle.tcl_goals.specs.declared.fact.Claim.TheVariants as claim
use Rattle.tcl_goals.specs.declared.piece.Shown.TheVariants as shown
use Rattle.tcl_goals.specs.declared.piece.Piece.{Piece}
use Rattle.tcl_goals.specs.LemmaList.{Extends}
use Rattle.tcl_board.specs.declared.event.Event.TheVariants as event
use Rattle.tcl_board.specs.declared.event.LemmaMark.{LemmaMark}
use Rattle.tcl_board.specs.declared.event.Status.TheVariants as status
use Rattle.tcl_board.specs.declared.event.Word.{Word}
use Rattle.tcl_board.specs.declared.event.Word.TheVariants as word
use Rattle.tcl_board.specs.declared.evidence.Seen.{Seen}
use Rattle.tcl_board.specs.declared.evidence.Seen.TheVariants as seen
use Rattle.tcl_board.specs.FactLaws.{FactLaws}
use Rattle.tcl_board.specs.Shows.{Causes}
use Rattle.tcl_board.specs.Moves.{Position, allows, moved, is_number, held_of, fits_word, is_recorded, is_settled, breaks_own, breaks_again, drops, broken_by, record_break, breaks_after, status_after, lemmas_after}
use Rattle.tcl_board.specs.State.{BoardState, given}
use Rattle.tcl_board.specs.Own.{lemmas_of, lemmas_from}
use Rattle.tcl_board.specs.Steps.{IsTrueGift}
use Rattle.tcl_board.specs.Rooms.{event_room, kept_room}
use Rattle.tcl_board.specs.Truths.{StatusTrue, Truths, LemmaTrue, LemmasTrue, CitesOwn, AllCiteOwn, BreakTrue, BreaksTrue}
use Rattle.tcl_board.specs.Kept.{IsBoard}
use Rattle.tcl_board.specs.Judging.{GoalIn, RoomFor, IsTaken}
use Rattle.tcl_board.proofs.OwnLemmas.{get_more, MoreMarks, more_extends, same_more, kept_more, mark_more}
use Rattle.tcl_board.proofs.Truthful.{IsMore, proves_stays, shows_stays, truths_stay, truths_set, get_end, break_stays, break_settled, break_recorded, lemmas_stay, lemmas_more, lemmas_sound, all_cite_stay, all_cite_more, breaks_stay, breaks_more}
use Rattle.tcl_board.proofs.Moving.{held_status, few_lemmas, below_is, move_is}
use Rattle.tcl_board.proofs.Keeping.{AreTrue, keeps, number_from}

-- what is kept after a submission that is dropped or not
abbrev after : Bool → List Seen → Seen → List Seen
after dropped kept gift = if dropped then kept else kept ++ gift ∷ []

after_get : (dropped : Bool) (kept : List Seen) (gift : Seen) (n : ℕ) (x : Seen) → slice_get kept n ≡ Some x → slice_get (after dropped kept gift) n ≡ Some x
after_get true kept gift n x e = e
after_get false kept gift n x e = get_more kept gift n x e

after_marks : (dropped : Bool) (kept : List Seen) (gift : Seen) (marks : List LemmaMark) → MoreMarks kept (after dropped kept gift) marks marks
after_marks true kept gift marks = same_more kept marks
after_marks false kept gift marks = kept_more kept gift marks

after_lemmas : FactLaws → (p : VersionedProgram) (dropped : Bool) (kept : List Seen) (gift : Seen) (marks : List LemmaMark) → LemmasTrue p kept marks → LemmasTrue p (after dropped kept gift) marks
after_lemmas law p true kept gift marks t = t
after_lemmas law p false kept gift marks t = lemmas_stay law p kept gift marks t

after_cites : (dropped : Bool) (ls ms : List Numbered) (kept : List Seen) (gift : Seen) → Extends ls ms → AllCiteOwn ls kept → CitesOwn ls gift → AllCiteOwn ms (after dropped kept gift)
after_cites true ls ms kept gift x t new = all_cite_stay ls ms kept x t
after_cites false ls ms kept gift x t new = all_cite_more ls ms kept gift x t new

after_breaks : (p : VersionedProgram) (dropped : Bool) (kept : List Seen) (gift : Seen) (breaks : List (Option ℕ)) → BreaksTrue p kept breaks → BreaksTrue p (after dropped kept gift) breaks
after_breaks p true kept gift breaks t = t
after_breaks p false kept gift breaks t = breaks_stay p kept gift breaks t

-- the lemmas after a submission
gives_more : (s : BoardState) (w q : ℕ) (what : Word) (gift : Seen) → Extends (lemmas_of s) (lemmas_of (given s w q what gift))
gives_more s w q word.Proved gift = more_extends s.kept (s.kept ++ gift ∷ []) s.position.lemmas s.position.lemmas (kept_more s.kept gift s.position.lemmas)
gives_more s w q word.Ended gift = more_extends s.kept (s.kept ++ gift ∷ []) s.position.lemmas s.position.lemmas (kept_more s.kept gift s.position.lemmas)
gives_more s w q word.Lemma gift =
    more_extends s.kept (s.kept ++ gift ∷ []) s.position.lemmas (s.position.lemmas ++ record { kept = s.position.kept; admitted = false } ∷ [])
    (mark_more s.kept gift s.position.lemmas (record { kept = s.position.kept; admitted = false }))
gives_more s w q (word.Broken g) gift =
    let dropped = drops s.position (slice_get s.position.pieces q) (word.Broken g) in
    more_extends s.kept (after dropped s.kept gift) s.position.lemmas s.position.lemmas (after_marks dropped s.kept gift s.position.lemmas)

-- more is kept and recorded after it
more_by : (s : BoardState) (w q : ℕ) (what : Word) (gift : Seen) (dropped : Bool) → (given s w q what gift).kept ≡ after dropped s.kept gift → IsMore (lemmas_of s) (lemmas_of (given s w q what gift)) s.kept (given s w q what gift).kept s.position.admitted s.position.admitted s.position.breaks (breaks_after s.position.breaks what s.position.kept)
more_by s w q what gift dropped same =
    record {
      lemmas = gives_more s w q what gift;
      kept = λ n x e. subst (λ k. slice_get k n ≡ Some x) (sym same) (after_get dropped s.kept gift n x e);
      recorded = λ g e. stays_recorded what g e;
      settled = λ g e. stays_settled what g e;
    }
  where
    stays_recorded : (what : Word) (g : ℕ) → is_recorded (slice_get s.position.breaks g) ≡ true → is_recorded (slice_get (breaks_after s.position.breaks what s.position.kept) g) ≡ true
    stays_recorded word.Proved g e = e
    stays_recorded word.Ended g e = e
    stays_recorded word.Lemma g e = e
    stays_recorded (word.Broken h) g e = break_stays s.position.breaks h s.position.kept g e

    stays_settled : (what : Word) (g : ℕ) → is_settled s.position.admitted s.position.breaks g ≡ true → is_settled s.position.admitted (breaks_after s.position.breaks what s.position.kept) g ≡ true
    stays_settled word.Proved g e = e
    stays_settled word.Ended g e = e
    stays_settled word.Lemma g e = e
    stays_settled (word.Broken h) g e = break_settled s.position.admitted s.position.breaks h s.position.kept g e

-- what is true of the piece after it
proved_true : FactLaws → (causes : Causes) (s : BoardState) (ms : List Numbered) (q : Piece) (gift : Seen) (new : List Seen) (a : List Bool) (b : List (Option ℕ)) (n : ℕ) → IsTrueGift causes s (Some q) word.Proved gift → slice_get new n ≡ Some gift → Extends (lemmas_of s) ms → StatusTrue causes s.program s.budget ms new a b q (status.Proved n)
proved_true law causes s ms q (seen.Shown (shown.Fact fact) cited) new a b n t e x = (fact, cited, e, proves_stays law s.program (lemmas_of s) ms q fact x t)
proved_true law causes s ms q (seen.Shown (shown.Breaks g input) cited) new a b n t e x = absurd t
proved_true law causes s ms q (seen.Lemma sh cited) new a b n t e x = absurd t
proved_true law causes s ms q (seen.Ended c) new a b n t e x = absurd t

ended_true : (causes : Causes) (s : BoardState) (ms : List Numbered) (q : Piece) (gift : Seen) (new : List Seen) (a : List Bool) (b : List (Option ℕ)) (n : ℕ) → IsTrueGift causes s (Some q) word.Ended gift → slice_get new n ≡ Some gift → StatusTrue causes s.program s.budget ms new a b q (status.Ended n)
ended_true causes s ms q (seen.Ended c) new a b n t e = (c, e, t)
ended_true causes s ms q (seen.Shown sh cited) new a b n t e = absurd t
ended_true causes s ms q (seen.Lemma sh cited) new a b n t e = absurd t

not_above : (a b : ℕ) → nat_le a b ≡ true → a ≤ b
not_above a b e = grind (arith, nat_tests)

below_other : (a b : ℕ) → a ≤ b → (b == a) ≡ false → a < b
below_other a b h f = grind (arith, nat_tests)

strayed_true : (causes : Causes) (s : BoardState) (ms : List Numbered) (q : Piece) (g : ℕ) (gift : Seen) (new : List Seen) (a : List Bool) (b : List (Option ℕ)) (n : ℕ) → IsTrueGift causes s (Some q) (word.Broken g) gift → slice_get new n ≡ Some gift → is_recorded (slice_get b g) ≡ true → g < q.goal → StatusTrue causes s.program s.budget ms new a b q (status.Strayed g n)
strayed_true causes s ms q g (seen.Shown (shown.Breaks h input) cited) new a b n t e r less = (h, input, cited, e, t, r, less)
strayed_true causes s ms q g (seen.Shown (shown.Fact fact) cited) new a b n t e r less = absurd t
strayed_true causes s ms q g (seen.Lemma sh cited) new a b n t e r less = absurd t
strayed_true causes s ms q g (seen.Ended c) new a b n t e r less = absurd t

broken_true : (causes : Causes) (s : BoardState) (ms : List Numbered) (q : Piece) (g : ℕ) (gift : Seen) (a : List Bool) (b : List (Option ℕ)) (n : ℕ) → IsTrueGift causes s (Some q) (word.Broken g) gift → length s.kept ≡ n → is_recorded (slice_get b g) ≡ true → nat_le g q.goal ≡ true → (own : Bool) → (q.goal == g) ≡ own → StatusTrue causes s.program s.budget ms (after (own && is_recorded (slice_get s.position.breaks g)) s.kept gift) a b q (broken_by own g n)
broken_true causes s ms q g gift a b n t e r above true own = subst (λ h. is_recorded (slice_get b h) ≡ true) (sym (eqb-true q.goal g own)) r
broken_true causes s ms q g gift a b n t e r above false other =
    strayed_true causes s ms q g gift (s.kept ++ gift ∷ []) a b n t (get_end s.kept gift n e) r (below_other g q.goal (not_above g q.goal above) other)

-- the piece that is meant
at_piece : (causes : Causes) (s : BoardState) (q : ℕ) (what : Word) (gift : Seen) (piece : Piece) → IsTaken causes s (slice_get s.position.pieces q) what gift → slice_get s.position.pieces q ≡ Some piece → IsTaken causes s (Some piece) what gift
at_piece causes s q what gift piece t e = subst (λ o. IsTaken causes s o what gift) e t

gives_truths : FactLaws → (causes : Causes) (s : BoardState) (w q : ℕ) (what : Word) (gift : Seen) → IsBoard causes s → IsTaken causes s (slice_get s.position.pieces q) what gift → GoalIn what (length s.position.breaks) → Truths causes s.program s.budget (lemmas_of (given s w q what gift)) (given s w q what gift).kept s.position.admitted (given s w q what gift).position.breaks (given s w q what gift).position.pieces (given s w q what gift).position.statuses
gives_truths law causes s w q word.Lemma gift b t within =
    let ms = lemmas_of (given s w q word.Lemma gift) in
    truths_stay law causes s.program s.budget (lemmas_of s) ms s.kept (s.kept ++ gift ∷ []) s.position.admitted s.position.admitted s.position.breaks s.position.breaks s.position.pieces s.position.statuses
    (more_by s w q word.Lemma gift false refl) b.truths
gives_truths law causes s w q word.Proved gift b t within =
    let ms = lemmas_of (given s w q word.Proved gift) in
    let n = s.position.kept in
    truths_set causes s.program s.budget ms (s.kept ++ gift ∷ []) s.position.admitted s.position.breaks s.position.pieces s.position.statuses q (status.Proved n)
    (truths_stay law causes s.program s.budget (lemmas_of s) ms s.kept (s.kept ++ gift ∷ []) s.position.admitted s.position.admitted s.position.breaks s.position.breaks s.position.pieces s.position.statuses
    (more_by s w q word.Proved gift false refl) b.truths)
    (λ piece e. proved_true law causes s ms piece gift (s.kept ++ gift ∷ []) s.position.admitted s.position.breaks n (at_piece causes s q word.Proved gift piece t e).truth (get_end s.kept gift n b.kept) (gives_more s w q word.Proved gift))
gives_truths law causes s w q word.Ended gift b t within =
    let ms = lemmas_of (given s w q word.Ended gift) in
    let n = s.position.kept in
    truths_set causes s.program s.budget ms (s.kept ++ gift ∷ []) s.position.admitted s.position.breaks s.position.pieces s.position.statuses q (status.Ended n)
    (truths_stay law causes s.program s.budget (lemmas_of s) ms s.kept (s.kept ++ gift ∷ []) s.position.admitted s.position.admitted s.position.breaks s.position.breaks s.position.pieces s.position.statuses
    (more_by s w q word.Ended gift false refl) b.truths)
    (λ piece e. ended_true causes s ms piece gift (s.kept ++ gift ∷ []) s.position.admitted s.position.breaks n (at_piece causes s q word.Ended gift piece t e).truth (get_end s.kept gift n b.kept))
gives_truths law causes s w q (word.Broken g) gift b t within =
    let ms = lemmas_of (given s w q (word.Broken g) gift) in
    let n = s.position.kept in
    let o = slice_get s.position.pieces q in
    let dropped = drops s.position o (word.Broken g) in
    let breaks = record_break s.position.breaks g n in
    truths_set causes s.program s.budget ms (after dropped s.kept gift) s.position.admitted breaks s.position.pieces s.position.statuses q (broken_by (breaks_own o (word.Broken g)) g n)
    (truths_stay law causes s.program s.budget (lemmas_of s) ms s.kept (after dropped s.kept gift) s.position.admitted s.position.admitted s.position.breaks breaks s.position.pieces s.position.statuses
    (more_by s w q (word.Broken g) gift dropped refl) b.truths)
    (λ piece e.
    let at = at_piece causes s q (word.Broken g) gift piece t e in
    subst (λ r. StatusTrue causes s.program s.budget ms (after (drops s.position r (word.Broken g)) s.kept gift) s.position.admitted breaks piece (broken_by (breaks_own r (word.Broken g)) g n)) (sym e)
    (broken_true causes s ms piece g gift s.position.admitted breaks n at.truth b.kept (break_recorded s.position.breaks g n within) at.fits (piece.goal == g) refl))

lemma_true : FactLaws → (causes : Causes) (s : BoardState) (q : Option Piece) (gift : Seen) → IsBoard causes s → IsTrueGift causes s q word.Lemma gift → (before : List LemmaMark) → MoreMarks s.kept (s.kept ++ gift ∷ []) s.position.lemmas before → LemmaTrue s.program (s.kept ++ gift ∷ []) before (record { kept = s.position.kept; admitted = false })
lemma_true law causes s (Some q) (seen.Lemma (shown.Fact fact) cited) b t before more =
    record {
      fact = fact;
      lemma = t.0;
      cited = cited;
      at = get_end s.kept (seen.Lemma (shown.Fact fact) cited) s.position.kept b.kept;
      shows = shows_stays law s.program (lemmas_of s) (lemmas_from 0 (s.kept ++ seen.Lemma (shown.Fact fact) cited ∷ []) before) (claim.Lemma t.0) fact (more_extends s.kept (s.kept ++ seen.Lemma (shown.Fact fact) cited ∷ []) s.position.lemmas before more) t.1;
      sound = law.sound s.program (lemmas_of s) t.0 fact (lemmas_sound s.program s.kept s.position.lemmas b.lemmas_true) t.1;
    }
lemma_true law causes s (Some q) (seen.Lemma (shown.Breaks g input) cited) b t before more = absurd t
lemma_true law causes s (Some q) (seen.Shown sh cited) b t before more = absurd t
lemma_true law causes s (Some q) (seen.Ended c) b t before more = absurd t
lemma_true law causes s None gift b t before more = absurd t

gives_lemmas : FactLaws → (causes : Causes) (s : BoardState) (w q : ℕ) (what : Word) (gift : Seen) → IsBoard causes s → IsTaken causes s (slice_get s.position.pieces q) what gift → LemmasTrue s.program (given s w q what gift).kept (lemmas_after s.position.lemmas what s.position.kept)
gives_lemmas law causes s w q word.Proved gift b t = lemmas_stay law s.program s.kept gift s.position.lemmas b.lemmas_true
gives_lemmas law causes s w q word.Ended gift b t = lemmas_stay law s.program s.kept gift s.position.lemmas b.lemmas_true
gives_lemmas law causes s w q (word.Broken g) gift b t = after_lemmas law s.program (drops s.position (slice_get s.position.pieces q) (word.Broken g)) s.kept gift s.position.lemmas b.lemmas_true
gives_lemmas law causes s w q word.Lemma gift b t =
    lemmas_more law s.program s.kept gift s.position.lemmas (record { kept = s.position.kept; admitted = false }) b.lemmas_true
    (lemma_true law causes s (slice_get s.position.pieces q) gift b t.truth)

gives_cites : (causes : Causes) (s : BoardState) (w q : ℕ) (what : Word) (gift : Seen) → IsBoard causes s → IsTaken causes s (slice_get s.position.pieces q) what gift → AllCiteOwn (lemmas_of (given s w q what gift)) (given s w q what gift).kept
gives_cites causes s w q what gift b t =
    after_cites (drops s.position (slice_get s.position.pieces q) what) (lemmas_of s) (lemmas_of (given s w q what gift)) s.kept gift (gives_more s w q what gift) b.cite_own t.cites

-- a new break is kept
kept_new : (own old : Bool) (kept : List Seen) (gift : Seen) (n : ℕ) → old ≡ false → length kept ≡ n → slice_get (after (own && old) kept gift) n ≡ Some gift
kept_new true true kept gift n f e = absurd (cc)
kept_new false true kept gift n f e = get_end kept gift n e
kept_new true false kept gift n f e = get_end kept gift n e
kept_new false false kept gift n f e = get_end kept gift n e

new_break : (causes : Causes) (s : BoardState) (o : Option Piece) (g : ℕ) (gift : Seen) (new : List Seen) → IsTrueGift causes s o (word.Broken g) gift → slice_get new s.position.kept ≡ Some gift → BreakTrue s.program new g s.position.kept
new_break causes s (Some q) g (seen.Shown (shown.Breaks h input) cited) new t e =
    record { input = input; cited = cited; at = subst (λ i. slice_get new s.position.kept ≡ Some (seen.Shown (shown.Breaks i input) cited)) t.goal e; breaks = t.breaks }
new_break causes s (Some q) g (seen.Shown (shown.Fact fact) cited) new t e = absurd t
new_break causes s (Some q) g (seen.Lemma sh cited) new t e = absurd t
new_break causes s (Some q) g (seen.Ended c) new t e = absurd t
new_break causes s None g gift new t e = absurd t

gives_breaks : (causes : Causes) (s : BoardState) (w q : ℕ) (what : Word) (gift : Seen) → IsBoard causes s → IsTaken causes s (slice_get s.position.pieces q) what gift → BreaksTrue s.program (given s w q what gift).kept (breaks_after s.position.breaks what s.position.kept)
gives_breaks causes s w q word.Proved gift b t = breaks_stay s.program s.kept gift s.position.breaks b.breaks_true
gives_breaks causes s w q word.Ended gift b t = breaks_stay s.program s.kept gift s.position.breaks b.breaks_true
gives_breaks causes s w q word.Lemma gift b t = breaks_stay s.program s.kept gift s.position.breaks b.breaks_true
gives_breaks causes s w q (word.Broken g) gift b t =
    let o = slice_get s.position.pieces q in
    let old = is_recorded (slice_get s.position.breaks g) in
    let new = after (breaks_own o (word.Broken g) && old) s.kept gift in
    breaks_more s.program new s.position.breaks g s.position.kept (after_breaks s.program (breaks_own o (word.Broken g) && old) s.kept gift s.position.breaks b.breaks_true)
    (λ free. new_break causes s o g gift new t.truth (kept_new (breaks_own o (word.Broken g)) old s.kept gift s.position.kept free b.kept))

gives_true : FactLaws → (causes : Causes) (s : BoardState) (w q : ℕ) (what : Word) (gift : Seen) → IsBoard causes s → IsTaken causes s (slice_get s.position.pieces q) what gift → GoalIn what (length s.position.breaks) → AreTrue causes (given s w q what gift)
gives_true law causes s w q what gift b t within =
    record {
      truths = gives_truths law causes s w q what gift b t within;
      lemmas_true = gives_lemmas law causes s w q what gift b t;
      cite_own = gives_cites causes s w q what gift b t;
      breaks_true = gives_breaks causes s w q what gift b t;
      goals_true = b.goals_true;
    }

-- the step, and what it needs
pub submit_allowed : (p : Position) (w q : ℕ) (what : Word) → held_of p.statuses w ≡ Some q → fits_word p (slice_get p.pieces q) what ≡ true → allows p (event.Submit w q what) ≡ true
unfolding allows
submit_allowed p w q what held fits = and_from (is_number (held_of p.statuses w) q) (fits_word p (slice_get p.pieces q) what) (number_from (held_of p.statuses w) q held) fits

kept_length : (dropped : Bool) (kept : List Seen) (gift : Seen) (n : ℕ) → length kept ≡ n → length (after dropped kept gift) ≡ (if dropped then n else n + 1)
kept_length true kept gift n e = e
kept_length false kept gift n e = length-append kept (gift ∷ []) ∙ ap (λ k. k + 1) e

pub submit_keeps : FactLaws → (causes : Causes) (s : BoardState) (w q : ℕ) (what : Word) (gift : Seen) → IsBoard causes s → held_of s.position.statuses w ≡ Some q → IsTaken causes s (slice_get s.position.pieces q) what gift → GoalIn what (length s.position.breaks) → IsBoard causes (given s w q what gift)
submit_keeps law causes s w q what gift b held t within =
    let dropped = drops s.position (slice_get s.position.pieces q) what in
    keeps causes s (event.Submit w q what) (after dropped s.kept gift) b
    (record { allowed = submit_allowed s.position w q what held t.fits; earned = (gift, t.truth, refl) })
    (kept_length dropped s.kept gift s.position.kept b.kept) (gives_true law causes s w q what gift b t within)

pub record MaySubmit (s : BoardState) (q : ℕ) (what : Word) : Type 0 where
  pub piece : q < length s.position.statuses
  pub goal : GoalIn what (length s.position.breaks)
  pub lemma : RoomFor what (length s.position.lemmas) 512
  pub events : length s.events < event_room (length s.plan) (goal_count s.program.lines)
  pub kept : drops s.position (slice_get s.position.pieces q) what ≡ false → s.position.kept < kept_room (length s.plan)

none_past : {X : Type 0} (xs : List X) (k : ℕ) → slice_get xs k ≡ None → k < length xs → ⊥
none_past [] k e h = omega arith
none_past (x ∷ xs) zero e h = absurd (cc)
none_past (x ∷ xs) (suc k) e h = none_past xs k e (omega arith)

goal_in : (causes : Causes) (s : BoardState) (q : ℕ) (o : Option Piece) (what : Word) → IsBoard causes s → slice_get s.position.pieces q ≡ o → q < length s.position.pieces → fits_word s.position o what ≡ true → GoalIn what (length s.position.breaks)
goal_in causes s q (Some piece) (word.Broken g) b e h fits =
    omega (arith, not_above g piece.goal fits, below_is piece.goal (goal_count s.program.lines) (b.plan.each q piece e).goal, b.breaks)
goal_in causes s q None what b e h fits = absurd (none_past s.position.pieces q e h)
goal_in causes s q (Some piece) word.Proved b e h fits = tt
goal_in causes s q (Some piece) word.Ended b e h fits = tt
goal_in causes s q (Some piece) word.Lemma b e h fits = tt

room_for : (p : Position) (o : Option Piece) (what : Word) → fits_word p o what ≡ true → RoomFor what (length p.lemmas) 512
room_for p o word.Lemma fits = few_lemmas p o fits
room_for p o word.Proved fits = tt
room_for p o (word.Broken g) fits = tt
room_for p o word.Ended fits = tt

-- what is kept is counted
counted_kept : (p : Position) (w q : ℕ) (what : Word) → drops p (slice_get p.pieces q) what ≡ false → (moved p (event.Submit w q what)).kept ≡ p.kept + 1
counted_kept p w q what e = if_no (drops p (slice_get p.pieces q) what) p.kept (p.kept + 1) e

pub submit_may : (causes : Causes) (s : BoardState) (w q : ℕ) (what : Word) → IsBoard causes s → held_of s.position.statuses w ≡ Some q → fits_word s.position (slice_get s.position.pieces q) what ≡ true → MaySubmit s q what
submit_may causes s w q what b held fits =
    let m = move_is s.position (event.Submit w q what) (submit_allowed s.position w q what held fits) in
    let within = slice_get_within s.position.statuses q (status.Held w) (held_status s.position.statuses w q held) in
    record {
      piece = within;
      goal = goal_in causes s q (slice_get s.position.pieces q) what b refl (omega (arith, within, b.statuses)) fits;
      lemma = room_for s.position (slice_get s.position.pieces q) what fits;
      events = omega (arith, b.events, m.events);
      kept = λ e. omega (arith, b.room, m.kept, counted_kept s.position w q what e);
    }

-- all that a submission needs
pub record Submits (causes : Causes) (s : BoardState) (w q : ℕ) (what : Word) (gift : Seen) : Type 0 where
  pub may : MaySubmit s q what
  pub keeps : IsBoard causes (given s w q what gift)

pub submits : FactLaws → (causes : Causes) (s : BoardState) (w q : ℕ) (what : Word) (gift : Seen) → IsBoard causes s → held_of s.position.statuses w ≡ Some q → IsTaken causes s (slice_get s.position.pieces q) what gift → Submits causes s w q what gift
submits law causes s w q what gift b held t =
    let may = submit_may causes s w q what b held t.fits in
    record { may = may; keeps = submit_keeps law causes s w q what gift b held t may.goal }

pub held_within : (causes : Causes) (s : BoardState) (w q : ℕ) → IsBoard causes s → held_of s.position.statuses w ≡ Some q → q < length s.position.pieces
held_within causes s w q b e = omega (arith, slice_get_within s.position.statuses q (status.Held w) (held_status s.position.statuses w q e), b.statuses)

-- the state as the code makes it: `own` tells a break of the piece's own goal, `dropped` that the outcome is dropped
abbrev pub given_as : BoardState → ℕ → ℕ → Bool → Word → Seen → Bool → BoardState
given_as s w q own what gift dropped =
    record s {
      events = s.events ++ event.Submit w q what ∷ [];
      position = record s.position {
        statuses = status_after s.position.statuses q own what s.position.kept;
        breaks = breaks_after s.position.breaks what s.position.kept;
        lemmas = lemmas_after s.position.lemmas what s.position.kept;
        kept = if dropped then s.position.kept else s.position.kept + 1;
      };
      kept = after dropped s.kept gift;
    }

pub record Records (causes : Causes) (s : BoardState) (w q : ℕ) (own : Bool) (what : Word) (gift : Seen) (dropped : Bool) : Type 0 where
  pub piece : q < length s.position.statuses
  pub goal : GoalIn what (length s.position.breaks)
  pub lemma : RoomFor what (length s.position.lemmas) 512
  pub events : length s.events < event_room (length s.plan) (goal_count s.program.lines)
  pub kept : dropped ≡ false → s.position.kept < kept_room (length s.plan)
  pub keeps : IsBoard causes (given_as s w q own what gift dropped)

pub records : FactLaws → (causes : Causes) (s t : BoardState) (w q : ℕ) (own : Bool) (what : Word) (gift : Seen) (dropped d : Bool) (piece : Piece) → s ≡ t → IsBoard causes s → held_of t.position.statuses w ≡ Some q → IsTaken causes t (slice_get t.position.pieces q) what gift → slice_get s.position.pieces q ≡ Some piece → own ≡ breaks_own (Some piece) what → dropped ≡ (breaks_own (Some piece) what && breaks_again s.position.breaks what) → dropped ≡ d → Records causes s w q own what gift d
records law causes s t w q own what gift dropped d piece same b held taken at mine drop is =
    let o = slice_get s.position.pieces q in
    let own_is : breaks_own o what ≡ own = ap (λ x. breaks_own x what) at ∙ sym mine in
    let drop_is : drops s.position o what ≡ d = ap (λ x. breaks_own x what && breaks_again s.position.breaks what) at ∙ (sym drop ∙ is) in
    let all =
    submits law causes s w q what gift b (subst (λ x. held_of x.position.statuses w ≡ Some q) (sym same) held)
    (subst (λ x. IsTaken causes x (slice_get x.position.pieces q) what gift) (sym same) taken) in
    record {
      piece = all.may.piece;
      goal = all.may.goal;
      lemma = all.may.lemma;
      events = all.may.events;
      kept = λ e. all.may.kept (drop_is ∙ e);
      keeps = subst (λ x. IsBoard causes (given_as s w q own what gift x)) drop_is (subst (λ x. IsBoard causes (given_as s w q x what gift (drops s.position o what))) own_is all.keeps);
    }

-- the piece that is held is there
pub held_here : (causes : Causes) (s t : BoardState) (w q : ℕ) (r : Option ℕ) → s ≡ t → IsBoard causes s → r ≡ held_of t.position.statuses w → r ≡ Some q → q < length t.position.pieces
held_here causes s t w q r same b e f = held_within causes t w q (subst (IsBoard causes) same b) (sym e ∙ f)

pub held_inside : (causes : Causes) (s t : BoardState) (w q : ℕ) (r : Option ℕ) → s ≡ t → IsBoard causes s → r ≡ held_of t.position.statuses w → r ≡ Some q → q < length s.position.pieces
held_inside causes s t w q r same b e f = subst (λ x. q < length x.position.pieces) (sym same) (held_here causes s t w q r same b e f)

pub length_next : {X : Type 0} (xs : List X) (x : X) → length (xs ++ x ∷ []) ≡ length xs + 1
length_next xs x = length-append xs (x ∷ [])

pub map_next : {X Y : Type 0} (f : X → Y) (xs : List X) (x : X) → map f (xs ++ x ∷ []) ≡ map f xs ++ f x ∷ []
map_next f xs x = map-append f xs (x ∷ [])

-- a fact of all items stays one
one_all : {X : Type 0} (P : X → Type 0) (x : X) → P x → All P (x ∷ [])
one_all P x t zero d h = t
one_all P x t (suc k) d h = absurd (omega (arith, h))

pub all_next : {X : Type 0} (P : X → Type 0) (xs : List X) (x : X) → All P xs → P x → All P (xs ++ x ∷ [])
all_next P xs x t new = All-append P xs (x ∷ []) t (one_all P x new)
