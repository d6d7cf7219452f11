-- What is taken is what its word says.
use Rattle.std.proofs.Common.{◌≡◌, refl, sym, ap, ◌∙◌, subst, ℕ, arith, nat_lt, nat_le, ◌==◌, Bool, true, false, ◌&&◌, if◌then◌else◌, ℤ, List, [], ◌∷◌, length, Option, Some, None}
use Rattle.std.specs.List.{slice_get, list_all}
use Rattle.std.proofs.lemmas.Bool.{and_parts, eqb-true}
use Rattle.tcl_lang.specs.declared.pred.Line.{Line}
use Rattle.tcl_lang.specs.Program.{VersionedProgram}
use Rattle.tcl_goals.specs.declared.lemma.Lemma.{Lemma}
use Rattle.tcl_goals.specs.declared.lemma.Numbered.{Numbered}
use Rattle.tcl_goals.specs.declared.fact.Claim.{Claim}
use Rattle.tcl_goals.specs.declared.fact.Claim.TheVariants as claim
use Rattle.tcl_goals.specs.declared.piece.Shown.{Shown}
use Rattle.tcl_goals.specs.declared.piece.Shown.TheVariants as shown
use Rattle.tcl_goals.specs.declared.piece.Piece.{Piece}
use Rattle.tcl_goals.specs.LemmaList.{Extends}
use Rattle.tcl_board.specs.declared.event.Word.{Word}
use Rattle.tcl_board.specs.declared.event.Word.TheVariants as word
use Rattle.tcl_board.specs.declared.event.Judged.{Judged}
use Rattle.tcl_board.specs.declared.event.Judged.TheVariants as judged
use Rattle.tcl_board.specs.declared.event.Submitted.{Submitted}
use Rattle.tcl_board.specs.declared.event.Submitted.TheVariants as submitted
use Rattle.tcl_board.specs.declared.evidence.Outcome.{Outcome}
use Rattle.tcl_board.specs.declared.evidence.Outcome.TheVariants as outcome
use Rattle.tcl_board.specs.declared.evidence.Seen.{Seen}
use Rattle.tcl_board.specs.declared.evidence.Seen.TheVariants as seen
use Rattle.tcl_board.specs.FactLaws.{FactLaws}
use Rattle.tcl_board.specs.Shows.{Causes, AreCited}
use Rattle.tcl_board.specs.Moves.{held_of}
use Rattle.tcl_board.specs.State.{BoardState}
use Rattle.tcl_board.specs.Answers.{piece_at, held_piece}
use Rattle.tcl_board.specs.Own.{lemmas_of, same_bits, cites_own}
use Rattle.tcl_board.specs.Sight.{seen_of}
use Rattle.tcl_board.specs.Judging.{is_goal_claim, is_lemma_claim, is_hyp_upto, last_goal_place, proves_piece, shows_lemma, judge_lemma, judge_for, judge_as_lemma, judge, MayGive, Speaks, IsShown, OutcomeSpeaks, OutcomeHolds, IsTaken}
use Rattle.tcl_board.proofs.OwnLemmas.{bits_are, cited_extends}
use Rattle.tcl_board.proofs.Truthful.{proves_stays}

-- what evidence shows holds of the board's program
abbrev SeenHolds : VersionedProgram → Seen → Type 0
SeenHolds p (seen.Shown sh cited) = IsShown p cited sh
SeenHolds p (seen.Lemma sh cited) = IsShown p cited sh
SeenHolds p (seen.Ended c) = Unit {0}

speaks_of : (p q : VersionedProgram) (b : Bool) (cited : List Numbered) (sh : Shown) → Speaks p q b → IsShown q cited sh → IsShown p cited sh
speaks_of p q b cited sh speaks h = subst (λ t. IsShown t cited sh) speaks.program h

seen_holds : {E : Type 0} (p : VersionedProgram) (program : E → VersionedProgram) (cited : E → List Numbered) (alone : E → Bool) (shows : E → Shown) (o : Outcome E) → OutcomeSpeaks p program alone o → OutcomeHolds program cited shows o → SeenHolds p (seen_of shows cited o)
seen_holds p program cited alone shows (outcome.Shown e) speaks holds = speaks_of p (program e) (alone e) (cited e) (shows e) speaks holds
seen_holds p program cited alone shows (outcome.Lemma e) speaks holds = speaks_of p (program e) (alone e) (cited e) (shows e) speaks holds
seen_holds p program cited alone shows (outcome.Ended c) speaks holds = tt

-- what a test gives
gives_is : (b : Bool) (v : Submitted) (w what : Word) → (if b then judged.Gives w else judged.Refused v) ≡ judged.Gives what → (b ≡ true) × (w ≡ what)
gives_is true v w what e = (refl, word_is w what e)
  where
    word_is : (w what : Word) → judged.Gives w ≡ judged.Gives what → w ≡ what
    word_is w what e = cc
gives_is false v w what e = absurd (cc)

lemma_given : (a b : Bool) (what : Word) → judge_lemma a b ≡ judged.Gives what → (a ≡ true) × (b ≡ true) × (word.Lemma ≡ what)
lemma_given true true what e = (refl, refl, word_is what e)
  where
    word_is : (what : Word) → judged.Gives word.Lemma ≡ judged.Gives what → word.Lemma ≡ what
    word_is what e = cc
lemma_given true false what e = absurd (cc)
lemma_given false b what e = absurd (cc)

goal_claim : (c : Claim) (g : ℕ) → is_goal_claim c g ≡ true → c ≡ claim.Goal g
goal_claim (claim.Goal i) g e = ap claim.Goal (eqb-true i g e)
goal_claim (claim.Lemma m) g e = absurd (cc)

lemma_claim : (lines : List Line) (c : Claim) → is_lemma_claim lines c ≡ true → (m : Lemma) × (c ≡ claim.Lemma m)
lemma_claim lines (claim.Goal i) e = absurd (cc)
lemma_claim lines (claim.Lemma m) e = (m, refl)

empty_is : {X : Type 0} (xs : List X) → length xs ≡ 0 → xs ≡ []
empty_is [] e = refl
empty_is (x ∷ xs) e = absurd (omega (arith, e))

-- a break cites no lemma
break_cites : (cited ls : List Numbered) (g : ℕ) (input : List ℤ) → AreCited cited (shown.Breaks g input) → Extends cited ls
break_cites cited ls g input c n m e = absurd (false_true (c n m e))
  where
    false_true : false ≡ true → ⊥
    false_true f = cc

shown_taken : FactLaws → (causes : Causes) (s : BoardState) (q : Piece) (what : Word) (sh : Shown) (cited : List Numbered) → IsShown s.program cited sh → MayGive causes s (Some q) (seen.Shown sh cited) → judge_for q s.kept s.position.lemmas sh cited ≡ judged.Gives what → IsTaken causes s (Some q) what (seen.Shown sh cited)
shown_taken law causes s q what (shown.Fact fact) cited holds may e =
    let given = gives_is (proves_piece q fact && cites_own cited s.kept s.position.lemmas fact.hyps) submitted.Foreign word.Proved what e in
    let parts = and_parts (proves_piece q fact) (cites_own cited s.kept s.position.lemmas fact.hyps) given.0 in
    let claims = and_parts (is_goal_claim fact.claim q.goal) (same_bits fact.cube q.cube) parts.0 in
    let own = cited_extends cited s.kept s.position.lemmas fact holds.cites parts.1 in
    subst (λ v. IsTaken causes s (Some q) v (seen.Shown (shown.Fact fact) cited)) given.1 (record {
      truth = proves_stays law s.program cited (lemmas_of s) q fact own (record {
        claim = goal_claim fact.claim q.goal claims.0;
        cube = bits_are fact.cube q.cube claims.1;
        order = holds.holds.0;
        holds = holds.holds.1;
      });
      fits = refl;
      cites = own;
    })
shown_taken law causes s q what (shown.Breaks g input) cited holds may e =
    let given = gives_is (nat_le g q.goal) submitted.Foreign (word.Broken g) what e in
    subst (λ v. IsTaken causes s (Some q) v (seen.Shown (shown.Breaks g input) cited)) given.1 (record {
      truth = record { goal = refl; breaks = holds.holds; stray = may };
      fits = given.0;
      cites = break_cites cited (lemmas_of s) g input holds.cites;
    })

lemma_taken : FactLaws → (causes : Causes) (s : BoardState) (q : Piece) (what : Word) (sh : Shown) (cited : List Numbered) → IsShown s.program cited sh → judge_as_lemma s.program.lines s.kept s.position.lemmas sh cited ≡ judged.Gives what → IsTaken causes s (Some q) what (seen.Lemma sh cited)
lemma_taken law causes s q what (shown.Fact fact) cited holds e =
    let shows = shows_lemma s.program.lines fact in
    let cites = cites_own cited s.kept s.position.lemmas fact.hyps in
    let given = lemma_given (shows && cites) (nat_lt (length s.position.lemmas) 512) what e in
    let parts = and_parts shows cites given.0 in
    let within = list_all (is_hyp_upto (last_goal_place s.program.lines)) fact.hyps in
    let claims = and_parts (is_lemma_claim s.program.lines fact.claim) (length fact.cube == 0 && within) parts.0 in
    let empty = (and_parts (length fact.cube == 0) within claims.1).0 in
    let found = lemma_claim s.program.lines fact.claim claims.0 in
    let own = cited_extends cited s.kept s.position.lemmas fact holds.cites parts.1 in
    subst (λ v. IsTaken causes s (Some q) v (seen.Lemma (shown.Fact fact) cited)) given.2 (record {
      truth = (
        found.0,
        record {
          claim = found.1;
          cube = empty_is fact.cube (eqb-true (length fact.cube) 0 empty);
          order = law.order s.program cited (lemmas_of s) fact own holds.holds.0;
          holds = law.truth s.program cited (lemmas_of s) fact own holds.holds.0 holds.holds.1;
        },
      );
      fits = given.1;
      cites = own;
    })
lemma_taken law causes s q what (shown.Breaks g input) cited holds e = absurd (cc)

cause_taken : (what : Word) → judged.Gives word.Ended ≡ judged.Gives what → word.Ended ≡ what
cause_taken what e = cc

gift_taken : FactLaws → (causes : Causes) (s : BoardState) (o : Option Piece) (what : Word) (gift : Seen) → SeenHolds s.program gift → MayGive causes s o gift → judge s o gift ≡ judged.Gives what → IsTaken causes s o what gift
gift_taken law causes s None what gift holds may e = absurd (cc)
gift_taken law causes s (Some q) what (seen.Shown sh cited) holds may e = shown_taken law causes s q what sh cited holds may e
gift_taken law causes s (Some q) what (seen.Lemma sh cited) holds may e = lemma_taken law causes s q what sh cited holds e
gift_taken law causes s (Some q) what (seen.Ended c) holds may e =
    subst (λ v. IsTaken causes s (Some q) v (seen.Ended c)) (cause_taken what e) (record { truth = may; fits = refl; cites = tt })

-- what a worker gives for the piece that it holds
pub outcome_taken : FactLaws → {E : Type 0} (causes : Causes) (s : BoardState) (o : Option Piece) (what : Word) (program : E → VersionedProgram) (cited : E → List Numbered) (alone : E → Bool) (shows : E → Shown) (given : Outcome E) → OutcomeSpeaks s.program program alone given → OutcomeHolds program cited shows given → MayGive causes s o (seen_of shows cited given) → judge s o (seen_of shows cited given) ≡ judged.Gives what → IsTaken causes s o what (seen_of shows cited given)
outcome_taken law causes s o what program cited alone shows given speaks holds may e =
    gift_taken law causes s o what (seen_of shows cited given) (seen_holds s.program program cited alone shows given speaks holds) may e

pub outcome_given : FactLaws → {E : Type 0} (causes : Causes) (s : BoardState) (w q : ℕ) (what : Word) (program : E → VersionedProgram) (cited : E → List Numbered) (alone : E → Bool) (shows : E → Shown) (given : Outcome E) (r : Option ℕ) (j : Judged) → r ≡ held_of s.position.statuses w → r ≡ Some q → OutcomeSpeaks s.program program alone given → OutcomeHolds program cited shows given → MayGive causes s (held_piece s.position w) (seen_of shows cited given) → j ≡ judge s (slice_get s.position.pieces q) (seen_of shows cited given) → j ≡ judged.Gives what → IsTaken causes s (slice_get s.position.pieces q) what (seen_of shows cited given)
outcome_given law causes s w q what program cited alone shows given r j e f speaks holds may g h =
    outcome_taken law causes s (slice_get s.position.pieces q) what program cited alone shows given speaks holds
    (subst (λ o. MayGive causes s (piece_at s.position.pieces o) (seen_of shows cited given)) (sym e ∙ f) may) (sym g ∙ h)
