-- What a board tells holds.
use Rattle.std.proofs.Common.{◌≡◌, refl, sym, ap, ◌∙◌, subst, inl, inr, ℕ, zero, suc, ◌+◌, ◌<◌, ◌≤◌, arith, nat_le, Bool, true, false, ◌&&◌, ◌==◌, ℤ, List, [], ◌∷◌, ◌++◌, length, drop, take, Option, Some, None}
use Rattle.std.specs.List.{slice_get}
use Rattle.std.proofs.lemmas.Bool.{and_parts, eqb-true, cases_Bool, cases_eq}
use Rattle.std.proofs.lemmas.Bool.Decides.{nat_tests}
use Rattle.std.proofs.lemmas.Option.{slice_get_within, slice_get-get_or}
use Rattle.std.proofs.lemmas.List.{drop_all}
use Rattle.std.proofs.Math.Seq.{drop-cons}
use Rattle.std.proofs.Common.{get_or}
use Rattle.tcl_list.proofs.Booleans.{if_yes, if_no}
use Rattle.tcl_lang.specs.Program.{VersionedProgram}
use Rattle.tcl_lang.specs.Correct.{IsCounterexample}
use Rattle.tcl_goals.specs.declared.lemma.Lemma.{Lemma}
use Rattle.tcl_goals.specs.declared.lemma.Numbered.{Numbered}
use Rattle.tcl_goals.specs.declared.fact.Claim.TheVariants as claim
use Rattle.tcl_goals.specs.declared.piece.Piece.{Piece}
use Rattle.tcl_goals.specs.LemmaList.{lemma_of, next_number}
use Rattle.tcl_goals.specs.Order.{has_claim}
use Rattle.tcl_goals.specs.Places.{goal_place}
use Rattle.tcl_goals.specs.Plans.{IsPiece}
use Rattle.tcl_goals.specs.Holds.{IsSound}
use Rattle.tcl_board.specs.declared.event.Status.{Status}
use Rattle.tcl_board.specs.declared.event.Status.TheVariants as status
use Rattle.tcl_board.specs.declared.event.LemmaMark.{LemmaMark}
use Rattle.tcl_board.specs.declared.evidence.Seen.{Seen}
use Rattle.tcl_board.specs.Shows.{Causes}
use Rattle.tcl_board.specs.Moves.{is_on, is_recorded, is_settled}
use Rattle.tcl_board.specs.State.{BoardState}
use Rattle.tcl_board.specs.Own.{lemmas_of, marked_lemma, with_number, fitting, fitting_from, IsGiven, AreGiven}
use Rattle.tcl_board.specs.Truths.{StatusTrue, LemmasTrue}
use Rattle.tcl_board.specs.Kept.{IsBoard}
use Rattle.tcl_board.specs.Told.{goal_in, Proved, evident_in, evident_at, broken_by, break_of, input_in, has_cause, is_of_goal, ends_with_cause, last_below, last_cause, cause_in, stray_in, answer_by, answer_from, unadmitted, answer_of, AnswerHolds}
use Rattle.tcl_board.proofs.OwnLemmas.{some_is, none_some, listed_here, listed_other}
use Rattle.tcl_board.proofs.Truthful.{marked_is}

-- the last number that passes
pub record IsLast (test : ℕ → Bool) (n k : ℕ) : Type 0 where
  pub below : k < n
  pub passes : test k ≡ true
  pub above : (j : ℕ) → k < j → j < n → test j ≡ false

last_is : (test : ℕ → Bool) (n k : ℕ) → last_below test n ≡ Some k → IsLast test n k
unfolding last_below
last_is test zero k e = absurd (none_some k e)
last_is test (suc n) k e = elim (cases_Bool (test n)) [
  | inl yes_here ↦
      let same : n ≡ k = some_is n k (sym (if_yes (test n) (Some n) (last_below test n) yes_here) ∙ e) in
      record { below = omega (arith, same); passes = subst (λ t. test t ≡ true) same yes_here; above = λ j h less. absurd (omega (arith, h, less, same)) }
  | inr not_here ↦
      let before = last_is test n k (sym (if_no (test n) (Some n) (last_below test n) not_here) ∙ e) in
      record { below = omega (arith, before.below); passes = before.passes; above = λ j h less. above_last test n k j not_here before h less }
]
  where
    above_last : (test : ℕ → Bool) (n k j : ℕ) → test n ≡ false → IsLast test n k → k < j → j < suc n → test j ≡ false
    above_last test n k j f before h less = elim (cases_eq j n) [
      | inl same ↦ ap test same ∙ f
      | inr other ↦ before.above j h (omega (arith, less, other))
    ]

none_last : (test : ℕ → Bool) (n k : ℕ) → last_below test n ≡ None → k < n → test k ≡ false
unfolding last_below
none_last test zero k e h = absurd (omega arith)
none_last test (suc n) k e h = elim (cases_Bool (test n)) [
  | inl yes_here ↦ absurd (none_some n (sym e ∙ if_yes (test n) (Some n) (last_below test n) yes_here))
  | inr not_here ↦ elim (cases_eq k n) [
    | inl same ↦ ap test same ∙ not_here
    | inr other ↦ none_last test n k (sym (if_no (test n) (Some n) (last_below test n) not_here) ∙ e) (omega (arith, h, other))
  ]
]

-- as the code goes down
next_is : (k : ℕ) → suc k ≡ k + 1
next_is k = omega arith

last_above : (test : ℕ → Bool) (k : ℕ) → test k ≡ true → last_below test (suc k) ≡ Some k
unfolding last_below
last_above test k e = if_yes (test k) (Some k) (last_below test k) e

pub last_here : (test : ℕ → Bool) (k : ℕ) → test k ≡ true → last_below test (k + 1) ≡ Some k
last_here test k e = subst (λ n. last_below test n ≡ Some k) (next_is k) (last_above test k e)

pub last_under : (test : ℕ → Bool) (k : ℕ) → test k ≡ false → last_below test (suc k) ≡ last_below test k
unfolding last_below
last_under test k e = if_no (test k) (Some k) (last_below test k) e

pub last_lower : (test : ℕ → Bool) (k : ℕ) → test k ≡ false → last_below test (k + 1) ≡ last_below test k
last_lower test k e = subst (λ n. last_below test n ≡ last_below test k) (next_is k) (last_under test k e)

-- a piece with a cause
record Ends (g : ℕ) (o : Option Piece) (x : Option Status) : Type 0 where
  piece : Piece
  at : o ≡ Some piece
  goal : piece.goal ≡ g
  cause : has_cause x ≡ true

ends_is : (g : ℕ) (o : Option Piece) (x : Option Status) → (is_of_goal o g && has_cause x) ≡ true → Ends g o x
ends_is g None x e = absurd (cc)
ends_is g (Some q) x e =
    let parts = and_parts (q.goal == g) (has_cause x) e in
    record { piece = q; at = refl; goal = eqb-true q.goal g parts.0; cause = parts.1 }

last_of : (causes : Causes) (s : BoardState) (g k : ℕ) → IsLast (ends_with_cause s.position.pieces s.position.statuses g) (length s.position.pieces) k → (j : ℕ) → k < j → ends_with_cause s.position.pieces s.position.statuses g j ≡ false
last_of causes s g k l j h = past (slice_get s.position.pieces j) refl
  where
    past : (o : Option Piece) → slice_get s.position.pieces j ≡ o → ends_with_cause s.position.pieces s.position.statuses g j ≡ false
    past None e = ap (λ o. is_of_goal o g && has_cause (slice_get s.position.statuses j)) e
    past (Some q) e = l.above j h (slice_get_within s.position.pieces j q e)

cause_holds : (causes : Causes) (s : BoardState) (g k : ℕ) → is_settled s.position.admitted s.position.breaks g ≡ false → IsLast (ends_with_cause s.position.pieces s.position.statuses g) (length s.position.pieces) k → (q : Piece) → slice_get s.position.pieces k ≡ Some q → q.goal ≡ g → (x : Option Status) → has_cause x ≡ true → ((y : Status) → x ≡ Some y → StatusTrue causes s.program s.budget (lemmas_of s) s.kept s.position.admitted s.position.breaks q y) → AnswerHolds causes s g (answer_by s.program.lines s.kept x)
cause_holds causes s g k free l q at goal None e t = absurd (cc)
cause_holds causes s g k free l q at goal (Some status.Unclaimed) e t = absurd (cc)
cause_holds causes s g k free l q at goal (Some (status.Held w)) e t = absurd (cc)
cause_holds causes s g k free l q at goal (Some (status.Proved n)) e t = absurd (cc)
cause_holds causes s g k free l q at goal (Some status.Broken) e t = absurd (cc)
cause_holds causes s g k free l q at goal (Some status.Cancelled) e t = absurd (cc)
cause_holds causes s g k free l q at goal (Some (status.Ended n)) e t =
    let found = t (status.Ended n) refl in
    subst (λ o. AnswerHolds causes s g (cause_in o)) (sym found.1)
    (record { number = k; piece = q; at = at; goal = goal; unsettled = free; true_of = found.2.true_of; last = last_of causes s g k l })
cause_holds causes s g k free l q at goal (Some (status.Strayed i n)) e t =
    let found = t (status.Strayed i n) refl in
    subst (λ o. AnswerHolds causes s g (stray_in (goal_place s.program.lines i) (input_in (evident_in o)))) (sym found.3)
    (record { number = k; piece = q; at = at; goal = goal; unsettled = free; true_of = found.4.stray found.6; last = last_of causes s g k l })

true_false : (b : Bool) → b ≡ true → b ≡ false → ⊥
true_false b e f = cc

-- a goal whose break is not kept has none
unbroken : (causes : Causes) (s : BoardState) (g : ℕ) → IsBoard causes s → input_in (break_of s g) ≡ None → is_recorded (slice_get s.position.breaks g) ≡ false
unbroken causes s g b e = by_break (slice_get s.position.breaks g) refl
  where
    by_break : (o : Option (Option ℕ)) → slice_get s.position.breaks g ≡ o → is_recorded o ≡ false
    by_break None f = refl
    by_break (Some None) f = refl
    by_break (Some (Some n)) f =
        let t = b.breaks_true g n f in
        absurd (none_some t.input (sym e ∙ (ap (λ o. input_in (evident_at s.kept (broken_by o))) f ∙ ap (λ o. input_in (evident_in o)) t.at)))

-- the recorded break of a goal
break_holds : (causes : Causes) (s : BoardState) (g : ℕ) (input : List ℤ) → IsBoard causes s → input_in (break_of s g) ≡ Some input → IsCounterexample (length s.program.variables) s.program.lines input g
break_holds causes s g input b e = by_break (slice_get s.position.breaks g) refl
  where
    none_here : {X : Type 0} → None ≡ Some input → X
    none_here f = absurd (none_some input f)

    by_break : (o : Option (Option ℕ)) → slice_get s.position.breaks g ≡ o → IsCounterexample (length s.program.variables) s.program.lines input g
    by_break None f = none_here (sym (ap (λ o. input_in (evident_at s.kept (broken_by o))) f) ∙ e)
    by_break (Some None) f = none_here (sym (ap (λ o. input_in (evident_at s.kept (broken_by o))) f) ∙ e)
    by_break (Some (Some n)) f =
        let t = b.breaks_true g n f in
        let same : t.input ≡ input = some_is t.input input (sym (ap (λ o. input_in (evident_at s.kept (broken_by o))) f ∙ ap (λ o. input_in (evident_in o)) t.at) ∙ e) in
        subst (λ i. IsCounterexample (length s.program.variables) s.program.lines i g) same t.breaks

pub answer_holds : (causes : Causes) (s : BoardState) (g : ℕ) → IsBoard causes s → AnswerHolds causes s g (answer_of s g)
answer_holds causes s g b = elim (cases_Bool (is_on (slice_get s.position.admitted g))) [
  | inl on ↦ subst (AnswerHolds causes s g) (sym (if_yes (is_on (slice_get s.position.admitted g)) Proved (unadmitted s g (input_in (break_of s g))) on)) (b.goals_true g on)
  | inr off ↦ subst (AnswerHolds causes s g) (sym (if_no (is_on (slice_get s.position.admitted g)) Proved (unadmitted s g (input_in (break_of s g))) off)) (by_input off (input_in (break_of s g)) refl)
]
  where
    by_cause : is_on (slice_get s.position.admitted g) ≡ false → is_recorded (slice_get s.position.breaks g) ≡ false → (o : Option ℕ) → last_cause s g ≡ o → AnswerHolds causes s g (answer_from s o)
    by_cause off free None e = (rw (off, free) refl, λ k. no_cause k (slice_get s.position.pieces k) refl e)
      where
        no_cause : (k : ℕ) (o : Option Piece) → slice_get s.position.pieces k ≡ o → last_cause s g ≡ None → ends_with_cause s.position.pieces s.position.statuses g k ≡ false
        no_cause k None f e = ap (λ o. is_of_goal o g && has_cause (slice_get s.position.statuses k)) f
        no_cause k (Some q) f e = none_last (ends_with_cause s.position.pieces s.position.statuses g) (length s.position.pieces) k e (slice_get_within s.position.pieces k q f)
    by_cause off free (Some k) e =
        let l = last_is (ends_with_cause s.position.pieces s.position.statuses g) (length s.position.pieces) k e in
        let ends = ends_is g (slice_get s.position.pieces k) (slice_get s.position.statuses k) l.passes in
        cause_holds causes s g k (rw (off, free) refl) l ends.piece ends.at ends.goal (slice_get s.position.statuses k) ends.cause (λ y f. b.truths k ends.piece y ends.at f)

    by_input : is_on (slice_get s.position.admitted g) ≡ false → (o : Option (List ℤ)) → input_in (break_of s g) ≡ o → AnswerHolds causes s g (unadmitted s g o)
    by_input off None e = by_cause off (unbroken causes s g b e) (last_cause s g) refl
    by_input off (Some input) e = break_holds causes s g input b e

-- the lemmas for a piece
fitting_below : (g i j : ℕ) (kept : List Seen) (marks : List LemmaMark) → j < i → lemma_of (fitting_from g i kept marks) j ≡ None
unfolding fitting_from lemma_of
fitting_below g i j kept [] h = refl
fitting_below g i j kept (m ∷ marks) h =
    listed_other i j (fitting g (marked_lemma kept (Some m))) (fitting_from g (i + 1) kept marks) (λ e. omega (arith, e, h))
    ∙ fitting_below g (i + 1) j kept marks (omega (arith, h))

fitting_at : (g i j n : ℕ) (kept : List Seen) (marks : List LemmaMark) → j ≡ i + n → lemma_of (fitting_from g i kept marks) j ≡ fitting g (marked_lemma kept (slice_get marks n))
unfolding fitting_from lemma_of
fitting_at g i j n kept [] e = refl
fitting_at g i j zero kept (m ∷ marks) e =
    let same : i ≡ j = omega (arith, e) in
    subst (λ t. lemma_of (with_number i (fitting g (marked_lemma kept (Some m))) (fitting_from g (i + 1) kept marks)) t ≡ fitting g (marked_lemma kept (Some m))) same
    (listed_here i (fitting g (marked_lemma kept (Some m))) (fitting_from g (i + 1) kept marks) (fitting_below g (i + 1) i kept marks (omega arith)))
fitting_at g i j (suc n) kept (m ∷ marks) e =
    listed_other i j (fitting g (marked_lemma kept (Some m))) (fitting_from g (i + 1) kept marks) (λ f. omega (arith, e, f))
    ∙ fitting_at g (i + 1) j n kept marks (omega (arith, e))

fitting_is : (g : ℕ) (o : Option Lemma) (m : Lemma) → fitting g o ≡ Some m → (o ≡ Some m) × (m.level ≤ g)
fitting_is g None m e = absurd (none_some m e)
fitting_is g (Some l) m e = elim (cases_Bool (nat_le l.level g)) [
  | inl few ↦
      let same : l ≡ m = some_is l m (sym (if_yes (nat_le l.level g) (Some l) None few) ∙ e) in
      (ap Some same, subst (λ k. k.level ≤ g) same (not_above l.level g few))
  | inr above ↦ absurd (none_some m (sym (if_no (nat_le l.level g) (Some l) None above) ∙ e))
]
  where
    not_above : (a b : ℕ) → nat_le a b ≡ true → a ≤ b
    not_above a b e = grind (arith, nat_tests)

given_at : (p : VersionedProgram) (g n : ℕ) (kept : List Seen) (marks : List LemmaMark) (m : Lemma) → LemmasTrue p kept marks → m.level ≤ g → (o : Option LemmaMark) → slice_get marks n ≡ o → marked_lemma kept o ≡ Some m → IsGiven p g m
given_at p g n kept marks m t level None e f = absurd (none_some m f)
given_at p g n kept marks m t level (Some mark) e f =
    let true_of = t n mark e in
    let same = marked_is p kept (take n marks) mark m true_of f in
    record {
      sound = subst (IsSound p) same true_of.sound;
      claim = subst (λ l. has_claim p (claim.Lemma l) ≡ true) same (subst (λ c. has_claim p c ≡ true) true_of.shows.claim true_of.shows.order.claim);
      level = level;
    }

pub are_given : (p : VersionedProgram) (g : ℕ) (kept : List Seen) (marks : List LemmaMark) → LemmasTrue p kept marks → AreGiven p g (fitting_from g 0 kept marks)
are_given p g kept marks t n m e =
    let found = fitting_is g (marked_lemma kept (slice_get marks n)) m (sym (fitting_at g 0 n n kept marks (omega arith)) ∙ e) in
    given_at p g n kept marks m t found.1 (slice_get marks n) refl found.0

-- one turn of the loop
with_more : (n : ℕ) (o : Option Lemma) (others : List Numbered) → with_number n o others ≡ with_number n o [] ++ others
with_more n None others = refl
with_more n (Some m) others = refl

fitting_cons : (g n : ℕ) (kept : List Seen) (mark : LemmaMark) (marks : List LemmaMark) → fitting_from g n kept (mark ∷ marks) ≡ with_number n (fitting g (marked_lemma kept (Some mark))) [] ++ fitting_from g (n + 1) kept marks
unfolding fitting_from
fitting_cons g n kept mark marks = with_more n (fitting g (marked_lemma kept (Some mark))) (fitting_from g (n + 1) kept marks)

fitting_nil : (g n : ℕ) (kept : List Seen) → fitting_from g n kept [] ≡ []
unfolding fitting_from
fitting_nil g n kept = refl

fitting_step : (g n : ℕ) (kept : List Seen) (marks : List LemmaMark) → n < length marks → fitting_from g n kept (drop n marks) ≡ with_number n (fitting g (marked_lemma kept (slice_get marks n))) [] ++ fitting_from g (n + 1) kept (drop (n + 1) marks)
fitting_step g n kept marks h =
    let none : LemmaMark = record { kept = 0; admitted = false } in
    let mark = get_or marks n none in
    let found : slice_get marks n ≡ Some mark = slice_get-get_or marks n none h in
    let cut : drop n marks ≡ mark ∷ drop (suc n) marks = drop-cons marks n none h in
    ap (fitting_from g n kept) cut
    ∙ (fitting_cons g n kept mark (drop (suc n) marks)
    ∙ (ap (λ o. with_number n (fitting g (marked_lemma kept o)) [] ++ fitting_from g (n + 1) kept (drop (suc n) marks)) (sym found)
    ∙ ap (λ k. with_number n (fitting g (marked_lemma kept (slice_get marks n))) [] ++ fitting_from g (n + 1) kept (drop k marks)) (next_is n)))

append_assoc : (xs ys zs : List Numbered) → (xs ++ ys) ++ zs ≡ xs ++ (ys ++ zs)
append_assoc [] ys zs = refl
append_assoc (x ∷ xs) ys zs = ap (λ l. x ∷ l) (append_assoc xs ys zs)

pub fitting_turn : (g n : ℕ) (kept : List Seen) (marks : List LemmaMark) (items new : List Numbered) (o : Option Lemma) → n < length marks → o ≡ fitting g (marked_lemma kept (slice_get marks n)) → new ≡ items ++ with_number n o [] → new ++ fitting_from g (n + 1) kept (drop (n + 1) marks) ≡ items ++ fitting_from g n kept (drop n marks)
fitting_turn g n kept marks items new o h e f =
    ap (λ l. l ++ fitting_from g (n + 1) kept (drop (n + 1) marks)) (f ∙ ap (λ x. items ++ with_number n x []) e)
    ∙ (append_assoc items (with_number n (fitting g (marked_lemma kept (slice_get marks n))) []) (fitting_from g (n + 1) kept (drop (n + 1) marks))
    ∙ ap (λ l. items ++ l) (sym (fitting_step g n kept marks h)))

append_nil : (xs : List Numbered) → xs ++ [] ≡ xs
append_nil [] = refl
append_nil (x ∷ xs) = ap (λ ys. x ∷ ys) (append_nil xs)

pub fitting_all : (g : ℕ) (kept : List Seen) (marks : List LemmaMark) (items : List Numbered) (n : ℕ) → length marks ≤ n → items ++ fitting_from g n kept (drop n marks) ≡ items
fitting_all g kept marks items n h = ap (λ xs. items ++ fitting_from g n kept xs) (drop_all n marks h) ∙ (ap (λ xs. items ++ xs) (fitting_nil g n kept) ∙ append_nil items)

pub next_more : (items : List Numbered) (n : ℕ) (m : Lemma) → next_number items ≤ n → next_number (items ++ record { number = n; lemma = m } ∷ []) ≤ n + 1
unfolding next_number
next_more [] n m h = omega (arith, h)
next_more (a ∷ items) n m h = omega (arith, h, next_more items n m (omega (arith, h)))

pub board_answers : (causes : Causes) (s t : BoardState) (g : ℕ) → s ≡ t → IsBoard causes s → AnswerHolds causes t g (answer_of t g)
board_answers causes s t g same b = answer_holds causes t g (subst (IsBoard causes) same b)

pub none_next : next_number [] ≤ 0
unfolding next_number
none_next = omega arith

pub given_for : (causes : Causes) (s t : BoardState) (k : ℕ) (q : Piece) (items : List Numbered) → s ≡ t → IsBoard causes s → slice_get s.position.pieces k ≡ Some q → items ≡ fitting_from q.goal 0 s.kept s.position.lemmas → AreGiven t.program (goal_in (slice_get t.position.pieces k)) items
given_for causes s t k q items same b at e =
    subst (λ x. AreGiven x.program (goal_in (slice_get x.position.pieces k)) items) same
    (subst (λ o. AreGiven s.program (goal_in o) items) (sym at) (subst (AreGiven s.program q.goal) (sym e) (are_given s.program q.goal s.kept s.position.lemmas b.lemmas_true)))

pub last_none : (test : ℕ → Bool) (k : ℕ) → k ≤ 0 → last_below test k ≡ None
unfolding last_below
last_none test zero h = refl
last_none test (suc k) h = absurd (omega (arith, h))

-- the piece that is held is one
pub piece_is : (causes : Causes) (s t : BoardState) (k : ℕ) (q : Piece) → s ≡ t → IsBoard causes s → slice_get s.position.pieces k ≡ Some q → IsPiece t.program q
piece_is causes s t k q same b at = subst (λ x. IsPiece x.program q) same (b.plan.each k q at)
