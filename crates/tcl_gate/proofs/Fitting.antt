-- What fits a piece is taken.
use Rattle.std.proofs.Common.{◌≡◌, refl, sym, ap, ◌∙◌, subst, inl, inr, ℕ, zero, suc, ◌+◌, ◌<◌, ◌≤◌, arith, nat_le, nat_lt, ◌==◌, Bool, true, false, ◌&&◌, ◌||◌, if◌then◌else◌, List, [], ◌∷◌, length, Option, Some, None}
use Rattle.std.specs.List.{slice_get, list_all, list_any}
use Rattle.std.proofs.lemmas.Bool.{and_from, cases_Bool}
use Rattle.std.proofs.lemmas.Bool.Decides.{nat_tests}
use Rattle.tcl_list.proofs.Booleans.{if_yes, if_no}
use Rattle.tcl_goals.specs.declared.fact.BitLit.{BitLit}
use Rattle.tcl_goals.specs.declared.fact.Fact.{Fact}
use Rattle.tcl_goals.specs.declared.fact.Hyp.{Hyp}
use Rattle.tcl_goals.specs.declared.fact.Hyp.TheVariants as hyp
use Rattle.tcl_goals.specs.declared.lemma.Lemma.{Lemma}
use Rattle.tcl_goals.specs.declared.lemma.Numbered.{Numbered}
use Rattle.tcl_goals.specs.declared.piece.Piece.{Piece}
use Rattle.tcl_goals.specs.declared.piece.Shown.TheVariants as shown
use Rattle.tcl_goals.specs.LemmaList.{lemma_of}
use Rattle.tcl_board.specs.declared.event.Judged.{Judged}
use Rattle.tcl_board.specs.declared.event.Judged.TheVariants as judged
use Rattle.tcl_board.specs.declared.event.LemmaMark.{LemmaMark}
use Rattle.tcl_board.specs.declared.event.Submitted.TheVariants as submitted
use Rattle.tcl_board.specs.declared.event.Word.{Word}
use Rattle.tcl_board.specs.declared.event.Word.TheVariants as word
use Rattle.tcl_board.specs.declared.evidence.Seen.{Seen}
use Rattle.tcl_board.specs.declared.evidence.Seen.TheVariants as seen
use Rattle.tcl_board.specs.Shows.{Causes, is_lemma as is_lemma_hyp}
use Rattle.tcl_board.specs.Moves.{is_recorded}
use Rattle.tcl_board.specs.State.{BoardState}
use Rattle.tcl_board.specs.Own.{marked_lemma, with_number, fitting, fitting_from, same_value, same_lit, same_bits, same_lemma, is_cited_own, cites_own}
use Rattle.tcl_board.specs.Answers.{piece_at}
use Rattle.tcl_board.specs.Judging.{proves_piece, shows_lemma, judge_lemma, judge, answer_in, answer_held, MayGive}
use Rattle.tcl_board.specs.Told.{goal_in, lemmas_for}
use Rattle.tcl_board.proofs.OwnLemmas.{none_some, listed_here, listed_other}
use Rattle.tcl_gate.specs.Fits.{HaveSame, CitesGiven}
use Rattle.tcl_gate.specs.Taken.{IsStepped, FitsPieceAt, FitsHeld, MaySubmit, FittingIsTaken}
use Rattle.tcl_gate.specs.Alone.{is_lemma}

-- a lemma is the same as itself
same_of : (b : Bool) → same_value b b ≡ true
same_of true = refl
same_of false = refl

same_number : (n : ℕ) → (n == n) ≡ true
same_number n = grind (arith, nat_tests)

lit_same : (a : BitLit) → same_lit a a ≡ true
lit_same a = and_from (a.var == a.var) (a.bit == a.bit && same_value a.value a.value) (same_number a.var) (and_from (a.bit == a.bit) (same_value a.value a.value) (same_number a.bit) (same_of a.value))

bits_same : (a : List BitLit) → same_bits a a ≡ true
bits_same [] = refl
bits_same (a ∷ bits) = and_from (same_lit a a) (same_bits bits bits) (lit_same a) (bits_same bits)

lemma_same : (m : Lemma) → same_lemma (Some m) (Some m) ≡ true
lemma_same m = and_from (m.level == m.level) (same_bits m.clause m.clause) (same_number m.level) (bits_same m.clause)

-- the lemmas for a piece are the board's
fitting_below : (g i j : ℕ) (kept : List Seen) (marks : List LemmaMark) → j < i → lemma_of (fitting_from g i kept marks) j ≡ None
unfolding fitting_from lemma_of
fitting_below g i j kept [] h = refl
fitting_below g i j kept (m ∷ marks) h =
    listed_other i j (fitting g (marked_lemma kept (Some m))) (fitting_from g (i + 1) kept marks) (λ e. omega (arith, e, h))
    ∙ fitting_below g (i + 1) j kept marks (omega (arith, h))

fitting_at : (g i j n : ℕ) (kept : List Seen) (marks : List LemmaMark) → j ≡ i + n → lemma_of (fitting_from g i kept marks) j ≡ fitting g (marked_lemma kept (slice_get marks n))
unfolding fitting_from lemma_of
fitting_at g i j n kept [] e = refl
fitting_at g i j zero kept (m ∷ marks) e =
    let same : i ≡ j = omega (arith, e) in
    subst (λ t. lemma_of (with_number i (fitting g (marked_lemma kept (Some m))) (fitting_from g (i + 1) kept marks)) t ≡ fitting g (marked_lemma kept (Some m))) same
    (listed_here i (fitting g (marked_lemma kept (Some m))) (fitting_from g (i + 1) kept marks) (fitting_below g (i + 1) i kept marks (omega arith)))
fitting_at g i j (suc n) kept (m ∷ marks) e =
    listed_other i j (fitting g (marked_lemma kept (Some m))) (fitting_from g (i + 1) kept marks) (λ f. omega (arith, e, f))
    ∙ fitting_at g (i + 1) j n kept marks (omega (arith, e))

fitting_is : (g : ℕ) (o : Option Lemma) (m : Lemma) → fitting g o ≡ Some m → o ≡ Some m
fitting_is g None m e = absurd (none_some m e)
fitting_is g (Some l) m e = elim (cases_Bool (nat_le l.level g)) [
  | inl few ↦ sym (if_yes (nat_le l.level g) (Some l) None few) ∙ e
  | inr above ↦ absurd (none_some m (sym (if_no (nat_le l.level g) (Some l) None above) ∙ e))
]

given_is : (g n : ℕ) (kept : List Seen) (marks : List LemmaMark) (m : Lemma) → lemma_of (fitting_from g 0 kept marks) n ≡ Some m → marked_lemma kept (slice_get marks n) ≡ Some m
given_is g n kept marks m e = fitting_is g (marked_lemma kept (slice_get marks n)) m (sym (fitting_at g 0 n n kept marks (omega arith)) ∙ e)

-- what cites given lemmas cites the board's
all_own : (f : Hyp → Bool) (hyps : List Hyp) → ((k : ℕ) → f (hyp.Line k) ≡ true) → ((n : ℕ) → list_any (is_lemma_hyp n) hyps ≡ true → f (hyp.Lemma n) ≡ true) → list_all f hyps ≡ true
all_own f [] line other = refl
all_own f (hyp.Line k ∷ hyps) line other = and_from (f (hyp.Line k)) (list_all f hyps) (line k) (all_own f hyps line (λ n e. other n (more k n e)))
  where
    more : (k n : ℕ) → list_any (is_lemma_hyp n) hyps ≡ true → list_any (is_lemma_hyp n) (hyp.Line k ∷ hyps) ≡ true
    more k n e = e
all_own f (hyp.Lemma m ∷ hyps) line other =
    and_from (f (hyp.Lemma m)) (list_all f hyps) (other m (here m)) (all_own f hyps line (λ n e. other n (more n e)))
  where
    or_left : (a b : Bool) → a ≡ true → (a || b) ≡ true
    or_left a b e = rw e refl

    or_right : (a b : Bool) → b ≡ true → (a || b) ≡ true
    or_right true b e = refl
    or_right false b e = e

    here : (m : ℕ) → list_any (is_lemma_hyp m) (hyp.Lemma m ∷ hyps) ≡ true
    here m = or_left (m == m) (list_any (is_lemma_hyp m) hyps) (same_number m)

    more : (n : ℕ) → list_any (is_lemma_hyp n) hyps ≡ true → list_any (is_lemma_hyp n) (hyp.Lemma m ∷ hyps) ≡ true
    more n e = or_right (m == n) (list_any (is_lemma_hyp n) hyps) e

cited_given : (g : ℕ) (kept : List Seen) (marks : List LemmaMark) (cited : List Numbered) (n : ℕ) → HaveSame (fitting_from g 0 kept marks) cited n → is_cited_own cited kept marks (hyp.Lemma n) ≡ true
cited_given g kept marks cited n h =
    ap (λ o. same_lemma o (marked_lemma kept (slice_get marks n))) h.in_cited
    ∙ (ap (same_lemma (Some h.lemma)) (given_is g n kept marks h.lemma h.in_given) ∙ lemma_same h.lemma)

cites_all : (g : ℕ) (kept : List Seen) (marks : List LemmaMark) (cited : List Numbered) (fact : Fact) → CitesGiven (fitting_from g 0 kept marks) cited fact → cites_own cited kept marks fact.hyps ≡ true
cites_all g kept marks cited fact h =
    all_own (is_cited_own cited kept marks) fact.hyps (λ k. refl) (λ n e. cited_given g kept marks cited n (h n e))

-- what is made of what fits
abbrev pub is_lemma_word : Word → Bool
is_lemma_word word.Lemma = true
is_lemma_word _ = false

pub record Fitting (causes : Causes) (s : BoardState) (q : Piece) (gift : Seen) : Type 0 where
  pub what : Word
  pub is : judge s (Some q) gift ≡ judged.Gives what
  pub lemma : is_lemma_word what ≡ is_lemma gift
  pub truthful : MayGive causes s (Some q) gift

yes_and : (a b : Bool) (x y : Judged) → a ≡ true → b ≡ true → (if a && b then x else y) ≡ x
yes_and a b x y e f = rw (e, f) refl

lemma_given : (lines : Bool) (few : Bool) → lines ≡ true → few ≡ true → judge_lemma lines few ≡ judged.Gives word.Lemma
lemma_given a b e f = rw (e, f) refl

yes_here : (a : Bool) (x y : Judged) → a ≡ true → (if a then x else y) ≡ x
yes_here a x y e = rw e refl

is_below : (a b : ℕ) → a ≤ b → nat_le a b ≡ true
is_below a b h = grind (arith, nat_tests)

pub fitting_judged : (causes : Causes) (s : BoardState) (k : ℕ) (q : Piece) (gift : Seen) → slice_get s.position.pieces k ≡ Some q → FitsHeld causes s k gift → Fitting causes s q gift
fitting_judged causes s k q gift at fits = by_gift gift (subst (λ o. FitsPieceAt causes s k o gift) at fits)
  where
    own : (fact : Fact) (cited : List Numbered) → CitesGiven (lemmas_for s k).items cited fact → cites_own cited s.kept s.position.lemmas fact.hyps ≡ true
    own fact cited f = cites_all (goal_in (slice_get s.position.pieces k)) s.kept s.position.lemmas cited fact f

    by_gift : (gift : Seen) → FitsPieceAt causes s k (Some q) gift → Fitting causes s q gift
    by_gift (seen.Shown (shown.Fact fact) cited) f =
        record {
          what = word.Proved;
          is = yes_and (proves_piece q fact) (cites_own cited s.kept s.position.lemmas fact.hyps) (judged.Gives word.Proved) (judged.Refused submitted.Foreign) f.proves (own fact cited f.cites);
          lemma = refl;
          truthful = tt;
        }
    by_gift (seen.Shown (shown.Breaks g input) cited) f =
        record { what = word.Broken g; is = yes_here (nat_le g q.goal) (judged.Gives (word.Broken g)) (judged.Refused submitted.Foreign) (is_below g q.goal f.goal); lemma = refl; truthful = f.stray }
    by_gift (seen.Lemma (shown.Fact fact) cited) f =
        record {
          what = word.Lemma;
          is = lemma_given (shows_lemma s.program.lines fact && cites_own cited s.kept s.position.lemmas fact.hyps) (nat_lt (length s.position.lemmas) 512)
              (and_from (shows_lemma s.program.lines fact) (cites_own cited s.kept s.position.lemmas fact.hyps) f.shows (own fact cited f.cites)) f.wanted;
          lemma = refl;
          truthful = tt;
        }
    by_gift (seen.Lemma (shown.Breaks g input) cited) f = absurd f
    by_gift (seen.Ended c) f = record { what = word.Ended; is = refl; lemma = refl; truthful = f }

-- so it may be submitted
stepped_word : (breaks : List (Option ℕ)) (what : Word) → IsStepped (answer_in breaks (judged.Gives what))
stepped_word breaks word.Proved = tt
stepped_word breaks (word.Broken g) = either (is_recorded (slice_get breaks g))
  where
    either : (b : Bool) → IsStepped (if b then submitted.Settled else submitted.Taken)
    either true = tt
    either false = tt
stepped_word breaks word.Ended = tt
stepped_word breaks word.Lemma = tt

pub fitting_taken : (causes : Causes) → FittingIsTaken causes
fitting_taken causes s w k gift held fits = by_piece (slice_get s.position.pieces k) refl
  where
    by_piece : (o : Option Piece) → slice_get s.position.pieces k ≡ o → MaySubmit causes s w gift
    by_piece None at = absurd (subst (λ o. FitsPieceAt causes s k o gift) at fits)
    by_piece (Some q) at =
        let f = fitting_judged causes s k q gift at fits in
        record {
          truthful = subst (λ o. MayGive causes s (piece_at s.position.pieces o) gift) (sym held) (subst (λ o. MayGive causes s o gift) (sym at) f.truthful);
          answer =
              subst (λ o. IsStepped (answer_held s o gift)) (sym held)
              (subst (λ j. IsStepped (answer_in s.position.breaks j)) (sym (ap (λ o. judge s o gift) at ∙ f.is)) (stepped_word s.position.breaks f.what));
        }
