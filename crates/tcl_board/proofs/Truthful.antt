-- What is true of what is kept stays true.
use Rattle.std.proofs.Common.{◌≡◌, refl, sym, ap, ◌∙◌, subst, ◌⊎◌, inl, inr, ℕ, zero, suc, ◌<◌, arith, Bool, true, false, List, [], ◌∷◌, ◌++◌, length, take, Option, Some, None}
use Rattle.std.specs.List.{slice_get, slice_set}
use Rattle.std.proofs.lemmas.Bool.{cases_Bool, or_cases, or_left, or_right}
use Rattle.std.proofs.lemmas.Option.{slice_get_within}
use Rattle.tcl_list.proofs.Booleans.{if_yes, if_no}
use Rattle.tcl_lang.specs.Program.{VersionedProgram}
use Rattle.tcl_goals.specs.declared.piece.Piece.{Piece}
use Rattle.tcl_goals.specs.declared.lemma.Lemma.{Lemma}
use Rattle.tcl_goals.specs.declared.lemma.Numbered.{Numbered}
use Rattle.tcl_goals.specs.declared.fact.Fact.{Fact}
use Rattle.tcl_goals.specs.declared.fact.Claim.{Claim}
use Rattle.tcl_goals.specs.declared.fact.Claim.TheVariants as claim
use Rattle.tcl_goals.specs.LemmaList.{Extends}
use Rattle.tcl_goals.specs.Holds.{IsSound, AreSound, IsGoalSound}
use Rattle.tcl_goals.specs.Laws.{Shows}
use Rattle.tcl_board.specs.FactLaws.{FactLaws}
use Rattle.tcl_board.specs.declared.event.LemmaMark.{LemmaMark}
use Rattle.tcl_board.specs.declared.event.Status.{Status}
use Rattle.tcl_board.specs.declared.event.Status.TheVariants as status
use Rattle.tcl_board.specs.declared.evidence.Seen.{Seen}
use Rattle.tcl_board.specs.declared.evidence.Seen.TheVariants as seen
use Rattle.tcl_board.specs.Shows.{Causes}
use Rattle.tcl_board.specs.Moves.{is_on, is_recorded, is_settled, record_break, admit_mark}
use Rattle.tcl_board.specs.Own.{lemmas_from, claimed_lemma, lemma_seen, marked_lemma}
use Rattle.tcl_board.specs.Steps.{Proves}
use Rattle.tcl_board.specs.Truths.{StatusTrue, Truths, LemmaTrue, LemmasTrue, CitesOwn, AllCiteOwn, BreakTrue, BreaksTrue, GoalsTrue}
use Rattle.tcl_board.proofs.OwnLemmas.{some_is, none_some, get_more, own_at, MoreMarks, more_extends, more_take, kept_more, mark_more, admit_more, get_take}

get_set : {X : Type 0} (xs : List X) (i k : ℕ) (y x : X) → slice_get (slice_set xs i y) k ≡ Some x → ((k ≡ i) × (y ≡ x)) ⊎ (slice_get xs k ≡ Some x)
get_set [] i k y x e = inr e
get_set (a ∷ xs) zero zero y x e = inl (refl, some_is y x e)
get_set (a ∷ xs) zero (suc k) y x e = inr e
get_set (a ∷ xs) (suc i) zero y x e = inr e
get_set (a ∷ xs) (suc i) (suc k) y x e = elim (get_set xs i k y x e) [ inl h ↦ inl (ap suc h.0, h.1) | inr h ↦ inr h ]

get_last : {X : Type 0} (xs : List X) (y : X) → slice_get (xs ++ y ∷ []) (length xs) ≡ Some y
get_last [] y = refl
get_last (a ∷ xs) y = get_last xs y

pub get_end : {X : Type 0} (xs : List X) (y : X) (n : ℕ) → length xs ≡ n → slice_get (xs ++ y ∷ []) n ≡ Some y
get_end xs y n e = subst (λ t. slice_get (xs ++ y ∷ []) t ≡ Some y) e (get_last xs y)

on_set : (a : List Bool) (h g : ℕ) → is_on (slice_get a g) ≡ true → is_on (slice_get (slice_set a h true) g) ≡ true
on_set [] h g e = e
on_set (x ∷ a) zero zero e = refl
on_set (x ∷ a) zero (suc g) e = e
on_set (x ∷ a) (suc h) zero e = e
on_set (x ∷ a) (suc h) (suc g) e = on_set a h g e

recorded_set : (b : List (Option ℕ)) (h g n : ℕ) → is_recorded (slice_get b g) ≡ true → is_recorded (slice_get (slice_set b h (Some n)) g) ≡ true
recorded_set [] h g n e = e
recorded_set (x ∷ b) zero zero n e = refl
recorded_set (x ∷ b) zero (suc g) n e = e
recorded_set (x ∷ b) (suc h) zero n e = e
recorded_set (x ∷ b) (suc h) (suc g) n e = recorded_set b h g n e

recorded_here : (b : List (Option ℕ)) (g n : ℕ) → g < length b → is_recorded (slice_get (slice_set b g (Some n)) g) ≡ true
recorded_here [] g n e = absurd (omega arith)
recorded_here (x ∷ b) zero n e = refl
recorded_here (x ∷ b) (suc g) n e = recorded_here b g n (omega arith)

pub break_stays : (b : List (Option ℕ)) (h n g : ℕ) → is_recorded (slice_get b g) ≡ true → is_recorded (slice_get (record_break b h n) g) ≡ true
break_stays b h n g e = elim (cases_Bool (is_recorded (slice_get b h))) [ inl here ↦ rw here e | inr free ↦ rw free (recorded_set b h g n e) ]

pub break_recorded : (b : List (Option ℕ)) (g n : ℕ) → g < length b → is_recorded (slice_get (record_break b g n) g) ≡ true
break_recorded b g n h = elim (cases_Bool (is_recorded (slice_get b g))) [
  | inl here ↦ rw (at_true b g n here) here
  | inr free ↦ rw (at_false b g n free) (recorded_here b g n h)
]
  where
    at_true : (b : List (Option ℕ)) (g n : ℕ) → is_recorded (slice_get b g) ≡ true → record_break b g n ≡ b
    at_true b g n e = rw e refl

    at_false : (b : List (Option ℕ)) (g n : ℕ) → is_recorded (slice_get b g) ≡ false → record_break b g n ≡ slice_set b g (Some n)
    at_false b g n e = rw e refl

pub admit_settled : (a : List Bool) (b : List (Option ℕ)) (h g : ℕ) → is_settled a b g ≡ true → is_settled (slice_set a h true) b g ≡ true
admit_settled a b h g e = elim (or_cases (is_on (slice_get a g)) (is_recorded (slice_get b g)) e) [
  | inl x ↦ or_left (is_on (slice_get (slice_set a h true) g)) (is_recorded (slice_get b g)) (on_set a h g x)
  | inr x ↦ or_right (is_on (slice_get (slice_set a h true) g)) (is_recorded (slice_get b g)) x
]

pub break_settled : (a : List Bool) (b : List (Option ℕ)) (h n g : ℕ) → is_settled a b g ≡ true → is_settled a (record_break b h n) g ≡ true
break_settled a b h n g e = elim (or_cases (is_on (slice_get a g)) (is_recorded (slice_get b g)) e) [
  | inl x ↦ or_left (is_on (slice_get a g)) (is_recorded (slice_get (record_break b h n) g)) x
  | inr x ↦ or_right (is_on (slice_get a g)) (is_recorded (slice_get (record_break b h n) g)) (break_stays b h n g x)
]

-- more is kept, more is settled, more lemmas are admitted
pub record IsMore (ls ms : List Numbered) (old new : List Seen) (a c : List Bool) (b d : List (Option ℕ)) : Type 0 where
  pub lemmas : Extends ls ms
  pub kept : (n : ℕ) (x : Seen) → slice_get old n ≡ Some x → slice_get new n ≡ Some x
  pub recorded : (g : ℕ) → is_recorded (slice_get b g) ≡ true → is_recorded (slice_get d g) ≡ true
  pub settled : (g : ℕ) → is_settled a b g ≡ true → is_settled c d g ≡ true

pub proves_stays : FactLaws → (p : VersionedProgram) (ls ms : List Numbered) (q : Piece) (fact : Fact) → Extends ls ms → Proves p ls q fact → Proves p ms q fact
proves_stays law p ls ms q fact x t =
    record { claim = t.claim; cube = t.cube; order = law.order p ls ms fact x t.order; holds = law.truth p ls ms fact x t.order t.holds }

status_stays : FactLaws → (causes : Causes) (p : VersionedProgram) (budget : ℕ) (ls ms : List Numbered) (old new : List Seen) (a c : List Bool) (b d : List (Option ℕ)) (q : Piece) (x : Status) → IsMore ls ms old new a c b d → StatusTrue causes p budget ls old a b q x → StatusTrue causes p budget ms new c d q x
status_stays law causes p budget ls ms old new a c b d q status.Unclaimed m t = t
status_stays law causes p budget ls ms old new a c b d q (status.Held w) m t = t
status_stays law causes p budget ls ms old new a c b d q (status.Proved n) m t = (t.0, t.1, m.kept n _ t.2, proves_stays law p ls ms q t.0 m.lemmas t.3)
status_stays law causes p budget ls ms old new a c b d q (status.Ended n) m t = (t.0, m.kept n _ t.1, t.2)
status_stays law causes p budget ls ms old new a c b d q status.Broken m t = m.recorded q.goal t
status_stays law causes p budget ls ms old new a c b d q (status.Strayed g n) m t = (t.0, t.1, t.2, m.kept n _ t.3, t.4, m.recorded g t.5, t.6)
status_stays law causes p budget ls ms old new a c b d q status.Cancelled m t = m.settled q.goal t

pub truths_stay : FactLaws → (causes : Causes) (p : VersionedProgram) (budget : ℕ) (ls ms : List Numbered) (old new : List Seen) (a c : List Bool) (b d : List (Option ℕ)) (pieces : List Piece) (statuses : List Status) → IsMore ls ms old new a c b d → Truths causes p budget ls old a b pieces statuses → Truths causes p budget ms new c d pieces statuses
truths_stay law causes p budget ls ms old new a c b d pieces statuses m t k q x e f = status_stays law causes p budget ls ms old new a c b d q x m (t k q x e f)

-- one piece gets another status
pub truths_set : (causes : Causes) (p : VersionedProgram) (budget : ℕ) (ls : List Numbered) (kept : List Seen) (a : List Bool) (b : List (Option ℕ)) (pieces : List Piece) (statuses : List Status) (i : ℕ) (y : Status) → Truths causes p budget ls kept a b pieces statuses → ((q : Piece) → slice_get pieces i ≡ Some q → StatusTrue causes p budget ls kept a b q y) → Truths causes p budget ls kept a b pieces (slice_set statuses i y)
truths_set causes p budget ls kept a b pieces statuses i y t new k q x e f = elim (get_set statuses i k y x f) [
  | inl h ↦ subst (λ z. StatusTrue causes p budget ls kept a b q z) h.1 (new q (subst (λ j. slice_get pieces j ≡ Some q) h.0 e))
  | inr h ↦ t k q x e h
]

-- lemmas stay true
pub shows_stays : FactLaws → (p : VersionedProgram) (ls ms : List Numbered) (c : Claim) (fact : Fact) → Extends ls ms → Shows p ls c fact → Shows p ms c fact
shows_stays law p ls ms c fact x t =
    record { claim = t.claim; cube = t.cube; order = law.order p ls ms fact x t.order; holds = law.truth p ls ms fact x t.order t.holds }

lemma_stays : FactLaws → (p : VersionedProgram) (kept new : List Seen) (before more : List LemmaMark) (mark : LemmaMark) → ((n : ℕ) (x : Seen) → slice_get kept n ≡ Some x → slice_get new n ≡ Some x) → MoreMarks kept new before more → LemmaTrue p kept before mark → LemmaTrue p new more mark
lemma_stays law p kept new before more mark stay m t =
    record {
      fact = t.fact;
      lemma = t.lemma;
      cited = t.cited;
      at = stay mark.kept _ t.at;
      shows = shows_stays law p (lemmas_from 0 kept before) (lemmas_from 0 new more) (claim.Lemma t.lemma) t.fact (more_extends kept new before more m) t.shows;
      sound = t.sound;
    }

pub lemmas_stay : FactLaws → (p : VersionedProgram) (kept : List Seen) (gift : Seen) (marks : List LemmaMark) → LemmasTrue p kept marks → LemmasTrue p (kept ++ gift ∷ []) marks
lemmas_stay law p kept gift marks t n mark e =
    lemma_stays law p kept (kept ++ gift ∷ []) (take n marks) (take n marks) mark (get_more kept gift) (more_take kept (kept ++ gift ∷ []) marks marks n (kept_more kept gift marks)) (t n mark e)

get_back : {X : Type 0} (xs : List X) (y : X) (n : ℕ) (x : X) → slice_get (xs ++ y ∷ []) n ≡ Some x → (slice_get xs n ≡ Some x) ⊎ ((n ≡ length xs) × (y ≡ x))
get_back [] y zero x e = inr (refl, some_is y x e)
get_back [] y (suc n) x e = absurd (none_some x e)
get_back (a ∷ xs) y zero x e = inl e
get_back (a ∷ xs) y (suc n) x e = elim (get_back xs y n x e) [ inl old ↦ inl old | inr new ↦ inr (ap suc new.0, new.1) ]

-- the marks before a new one are all that there were
before_last : (kept : List Seen) (gift : Seen) (marks : List LemmaMark) (new : LemmaMark) (n : ℕ) → n ≡ length marks → MoreMarks kept (kept ++ gift ∷ []) marks (take n (marks ++ new ∷ []))
before_last kept gift marks new n same j mark e m f =
    let within : j < n = omega (arith, same, slice_get_within marks j mark e) in
    ap (marked_lemma (kept ++ gift ∷ [])) (get_take n j (marks ++ new ∷ []) within) ∙ mark_more kept gift marks new j mark e m f

pub lemmas_more : FactLaws → (p : VersionedProgram) (kept : List Seen) (gift : Seen) (marks : List LemmaMark) (mark : LemmaMark) → LemmasTrue p kept marks → ((before : List LemmaMark) → MoreMarks kept (kept ++ gift ∷ []) marks before → LemmaTrue p (kept ++ gift ∷ []) before mark) → LemmasTrue p (kept ++ gift ∷ []) (marks ++ mark ∷ [])
lemmas_more law p kept gift marks mark t new n x e = elim (get_back marks mark n x e) [
  | inl old ↦
      lemma_stays law p kept (kept ++ gift ∷ []) (take n marks) (take n (marks ++ mark ∷ [])) x (get_more kept gift)
      (more_take kept (kept ++ gift ∷ []) marks (marks ++ mark ∷ []) n (mark_more kept gift marks mark)) (t n x old)
  | inr last ↦ subst (LemmaTrue p (kept ++ gift ∷ []) (take n (marks ++ mark ∷ []))) last.1 (new (take n (marks ++ mark ∷ [])) (before_last kept gift marks mark n last.0))
]

-- a lemma keeps what is true of it when it is admitted
now_admitted : (p : VersionedProgram) (kept : List Seen) (before : List LemmaMark) (mark : LemmaMark) → LemmaTrue p kept before mark → LemmaTrue p kept before (record { kept = mark.kept; admitted = true })
now_admitted p kept before mark t =
    record { fact = t.fact; lemma = t.lemma; cited = t.cited; at = t.at; shows = t.shows; sound = t.sound }

admitted_at : (p : VersionedProgram) (kept : List Seen) (marks : List LemmaMark) (i : ℕ) (o : Option LemmaMark) → slice_get marks i ≡ o → LemmasTrue p kept marks → (n : ℕ) (x : LemmaMark) → slice_get (admit_mark marks i o) n ≡ Some x → LemmaTrue p kept (take n marks) x
admitted_at p kept marks i None h t n x e = t n x e
admitted_at p kept marks i (Some m) h t n x e = elim (get_set marks i n (record { kept = m.kept; admitted = true }) x e) [
  | inl new ↦
      subst (LemmaTrue p kept (take n marks)) new.1
      (subst (λ j. LemmaTrue p kept (take j marks) (record { kept = m.kept; admitted = true })) (sym new.0) (now_admitted p kept (take i marks) m (t i m h)))
  | inr old ↦ t n x old
]

pub lemmas_admit : FactLaws → (p : VersionedProgram) (kept : List Seen) (marks : List LemmaMark) (i : ℕ) (o : Option LemmaMark) → slice_get marks i ≡ o → LemmasTrue p kept marks → LemmasTrue p kept (admit_mark marks i o)
lemmas_admit law p kept marks i o h t n x e =
    lemma_stays law p kept kept (take n marks) (take n (admit_mark marks i o)) x (λ k y f. f)
    (more_take kept kept marks (admit_mark marks i o) n (admit_more kept marks i o h)) (admitted_at p kept marks i o h t n x e)

-- admitted lemmas are sound
claimed_is : (c : Claim) (m l : Lemma) → c ≡ claim.Lemma m → claimed_lemma c ≡ Some l → m ≡ l
claimed_is c m l e f = some_is m l (sym (ap claimed_lemma e) ∙ f)

-- the lemma of a mark is the one that is true
pub marked_is : (p : VersionedProgram) (kept : List Seen) (before : List LemmaMark) (mark : LemmaMark) (m : Lemma) (t : LemmaTrue p kept before mark) → marked_lemma kept (Some mark) ≡ Some m → t.lemma ≡ m
marked_is p kept before mark m t e = elim (cases_Bool mark.admitted) [
  | inl on ↦ claimed_is t.fact.claim t.lemma m t.shows.claim (sym (ap lemma_seen t.at) ∙ (sym (if_yes mark.admitted (lemma_seen (slice_get kept mark.kept)) None on) ∙ e))
  | inr off ↦ absurd (none_some m (sym (if_no mark.admitted (lemma_seen (slice_get kept mark.kept)) None off) ∙ e))
]

pub lemmas_sound : (p : VersionedProgram) (kept : List Seen) (marks : List LemmaMark) → LemmasTrue p kept marks → AreSound p (lemmas_from 0 kept marks)
lemmas_sound p kept marks t n m e = sound_at (slice_get marks n) refl (sym (own_at kept marks n) ∙ e)
  where
    sound_at : (o : Option LemmaMark) → slice_get marks n ≡ o → marked_lemma kept o ≡ Some m → IsSound p m
    sound_at None f g = absurd (none_some m g)
    sound_at (Some mark) f g = subst (IsSound p) (marked_is p kept (take n marks) mark m (t n mark f) g) (t n mark f).sound

-- what is kept cites the board's own lemmas
cites_stays : (ls ms : List Numbered) (gift : Seen) → Extends ls ms → CitesOwn ls gift → CitesOwn ms gift
cites_stays ls ms (seen.Shown sh cited) x t = λ n m e. x n m (t n m e)
cites_stays ls ms (seen.Lemma sh cited) x t = λ n m e. x n m (t n m e)
cites_stays ls ms (seen.Ended c) x t = t

pub all_cite_stay : (ls ms : List Numbered) (kept : List Seen) → Extends ls ms → AllCiteOwn ls kept → AllCiteOwn ms kept
all_cite_stay ls ms kept x t n gift e = cites_stays ls ms gift x (t n gift e)

pub all_cite_more : (ls ms : List Numbered) (kept : List Seen) (gift : Seen) → Extends ls ms → AllCiteOwn ls kept → CitesOwn ls gift → AllCiteOwn ms (kept ++ gift ∷ [])
all_cite_more ls ms kept gift x t new n y e = elim (get_back kept gift n y e) [
  | inl old ↦ cites_stays ls ms y x (t n y old)
  | inr last ↦ cites_stays ls ms y x (subst (CitesOwn ls) last.1 new)
]

-- recorded breaks stay, and a new one is kept
pub breaks_stay : (p : VersionedProgram) (kept : List Seen) (gift : Seen) (breaks : List (Option ℕ)) → BreaksTrue p kept breaks → BreaksTrue p (kept ++ gift ∷ []) breaks
breaks_stay p kept gift breaks t g n e =
    let l = t g n e in
    record { input = l.input; cited = l.cited; at = get_more kept gift n _ l.at; breaks = l.breaks }

pub breaks_more : (p : VersionedProgram) (kept : List Seen) (breaks : List (Option ℕ)) (g n : ℕ) → BreaksTrue p kept breaks → (is_recorded (slice_get breaks g) ≡ false → BreakTrue p kept g n) → BreaksTrue p kept (record_break breaks g n)
breaks_more p kept breaks g n t new = elim (cases_Bool (is_recorded (slice_get breaks g))) [
  | inl here ↦ subst (BreaksTrue p kept) (sym (at_true breaks g n here)) t
  | inr free ↦ subst (BreaksTrue p kept) (sym (at_false breaks g n free)) (λ h m e. elim (get_set breaks g h (Some n) (Some m) e) [
    | inl same ↦ subst (BreakTrue p kept h) (some_is n m same.1) (subst (λ j. BreakTrue p kept j n) (sym same.0) (new free))
    | inr old ↦ t h m old
  ])
]
  where
    at_true : (b : List (Option ℕ)) (g n : ℕ) → is_recorded (slice_get b g) ≡ true → record_break b g n ≡ b
    at_true b g n e = rw e refl

    at_false : (b : List (Option ℕ)) (g n : ℕ) → is_recorded (slice_get b g) ≡ false → record_break b g n ≡ slice_set b g (Some n)
    at_false b g n e = rw e refl

on_back : (a : List Bool) (h g : ℕ) → is_on (slice_get (slice_set a h true) g) ≡ true → (g ≡ h) ⊎ (is_on (slice_get a g) ≡ true)
on_back [] h g e = inr e
on_back (x ∷ a) zero zero e = inl refl
on_back (x ∷ a) zero (suc g) e = inr e
on_back (x ∷ a) (suc h) zero e = inr e
on_back (x ∷ a) (suc h) (suc g) e = elim (on_back a h g e) [ inl same ↦ inl (ap suc same) | inr old ↦ inr old ]

pub goals_more : (p : VersionedProgram) (a : List Bool) (g : ℕ) → GoalsTrue p a → IsGoalSound p g → GoalsTrue p (slice_set a g true)
goals_more p a g t new h e = elim (on_back a g h e) [
  | inl same ↦ subst (IsGoalSound p) (sym same) new
  | inr old ↦ t h old
]

pub recorded_is : (o : Option (Option ℕ)) → is_recorded o ≡ true → (n : ℕ) × (o ≡ Some (Some n))
recorded_is (Some (Some n)) e = (n, refl)
recorded_is (Some None) e = absurd (cc)
recorded_is None e = absurd (cc)
