-- What is held, where one worker alone claims and submits.
use Rattle.std.proofs.Common.{◌≡◌, refl, sym, ap, ◌∙◌, subst, inl, inr, ◌⊎◌, ℕ, ◌<◌, arith, nat_lt, Bool, true, false, ◌&&◌, List, [], ◌∷◌, ◌++◌, length, Option, Some, None}
use Rattle.std.specs.List.{slice_get, slice_set}
use Rattle.std.specs.Prelude.{MatchOption}
use Rattle.std.specs.Option.{is_none}
use Rattle.std.proofs.lemmas.Bool.{and_from, cases_eq, eqb-true}
use Rattle.std.proofs.lemmas.Bool.Decides.{nat_tests}
use Rattle.std.proofs.lemmas.Option.{slice_get_within}
use Rattle.tcl_goals.specs.declared.piece.Piece.{Piece}
use Rattle.tcl_board.specs.declared.event.Event.TheVariants as event
use Rattle.tcl_board.specs.declared.event.Word.{Word}
use Rattle.tcl_board.specs.declared.event.Word.TheVariants as word
use Rattle.tcl_board.specs.declared.event.Status.{Status}
use Rattle.tcl_board.specs.declared.event.Status.TheVariants as status
use Rattle.tcl_board.specs.Moves.{Position, allows, moved, submitted, is_number, held_of, held_by, is_held_by, next_piece, broken_by, breaks_own}
use Rattle.tcl_board.specs.Answers.{held_piece, piece_at}
use Rattle.tcl_board.specs.Shows.{Causes}
use Rattle.tcl_board.specs.State.{BoardState, stepped}
use Rattle.tcl_board.proofs.Firsts.{first_only, none_found}
use Rattle.tcl_board.proofs.Moving.{held_status, next_status}
use Rattle.tcl_board.proofs.OwnLemmas.{some_is, get_set_here, get_set_other}
use Rattle.tcl_gate.specs.Alone.{NoneHeld, HeldAlone, Claimed, HeldOn}
use Rattle.tcl_gate.proofs.Runs.{extends_step}
use Rattle.tcl_gate.proofs.Fitting.{is_lemma_word}

true_false : (b : Bool) → b ≡ true → b ≡ false → ⊥
true_false b e f = cc

-- what a list gives after one item was set
pub get_set : {X : Type 0} (xs : List X) (i k : ℕ) (a y x : X) → slice_get xs i ≡ Some a → slice_get (slice_set xs i y) k ≡ Some x → ((i ≡ k) × (y ≡ x)) ⊎ (slice_get xs k ≡ Some x)
get_set xs i k a y x at e = elim (cases_eq i k) [
  | inl same ↦ inl (same, some_is y x (sym (get_set_here xs i y a at) ∙ (ap (slice_get (slice_set xs i y)) same ∙ e)))
  | inr other ↦ inr (sym (get_set_other xs i k y other) ∙ e)
]

held_is : (w : ℕ) (o : Option Status) → is_held_by w o ≡ true → o ≡ Some (status.Held w)
held_is w (Some (status.Held v)) e = ap (λ u. Some (status.Held u)) (eqb-true v w e)
held_is w (Some status.Unclaimed) e = absurd (cc)
held_is w (Some (status.Proved n)) e = absurd (cc)
held_is w (Some (status.Ended n)) e = absurd (cc)
held_is w (Some status.Broken) e = absurd (cc)
held_is w (Some (status.Strayed g n)) e = absurd (cc)
held_is w (Some status.Cancelled) e = absurd (cc)
held_is w None e = absurd (cc)

-- a worker that holds nothing
pub free_of : (p : Position) (w : ℕ) → NoneHeld p → held_of p.statuses w ≡ None
free_of p w none = none_found (held_by p.statuses w) (length p.statuses) (λ k h. not_held k (held_by p.statuses w k) refl)
  where
    not_held : (k : ℕ) (b : Bool) → held_by p.statuses w k ≡ b → b ≡ false
    not_held k false e = refl
    not_held k true e = absurd (none k w (held_is w (slice_get p.statuses k) e))

same_held : (w : ℕ) → is_held_by w (Some (status.Held w)) ≡ true
same_held w = grind (arith, nat_tests)

-- after a claim the piece alone is held
pub claimed_alone : (p : Position) (k : ℕ) → NoneHeld p → slice_get p.statuses k ≡ Some status.Unclaimed → HeldAlone (moved p (event.Claim 0 k)) k
claimed_alone p k none at =
    let new = slice_set p.statuses k (status.Held 0) in
    let here : slice_get new k ≡ Some (status.Held 0) = get_set_here p.statuses k (status.Held 0) status.Unclaimed at in
    let one : (j w : ℕ) → slice_get new j ≡ Some (status.Held w) → j ≡ k = λ j w e. elim (get_set p.statuses k j status.Unclaimed (status.Held 0) (status.Held w) at e) [
      | inl set ↦ sym set.0
      | inr old ↦ absurd (none j w old)
    ] in
    record {
      held = first_only (held_by new 0) (length new) k (slice_get_within new k (status.Held 0) here) (ap (is_held_by 0) here ∙ same_held 0) (λ j e. one j 0 (held_is 0 (slice_get new j) e));
      alone = one;
    }

less_is : (a b : ℕ) → a < b → nat_lt a b ≡ true
less_is a b e = grind (arith, nat_tests)

same_number : (o : Option ℕ) (k : ℕ) → o ≡ Some k → is_number o k ≡ true
same_number o k e = ap (λ t. is_number t k) e ∙ number_here k
  where
    number_here : (k : ℕ) → is_number (Some k) k ≡ true
    number_here k = grind (arith, nat_tests)

claim_allowed : (p : Position) (k : ℕ) → NoneHeld p → next_piece p ≡ Some k → allows p (event.Claim 0 k) ≡ true
unfolding allows
claim_allowed p k none next =
    and_from (nat_lt 0 64) (is_none (held_of p.statuses 0) && is_number (next_piece p) k) (less_is 0 64 (omega arith))
    (and_from (is_none (held_of p.statuses 0)) (is_number (next_piece p) k) (ap is_none (free_of p 0 none)) (same_number (next_piece p) k next))

length_more : {X : Type 0} (xs : List X) (x : X) → length xs < length (xs ++ x ∷ [])
length_more [] x = omega arith
length_more (a ∷ xs) x = omega (arith, length_more xs x)

pub claim_is : (causes : Causes) (old new : BoardState) (k : ℕ) → NoneHeld old.position → next_piece old.position ≡ Some k → new ≡ stepped old (event.Claim 0 k) → Claimed causes old new (Some k)
claim_is causes old new k none next e =
    subst (λ x. Claimed causes old x (Some k)) (sym e) (
      record {
        extends = extends_step causes old (event.Claim 0 k) (stepped old (event.Claim 0 k)) (record { allowed = claim_allowed old.position k none next; earned = refl });
        more = length_more old.events (event.Claim 0 k);
      },
      claimed_alone old.position k none (next_status old.position k next),
    )

pub claim_found : (causes : Causes) (old new : BoardState) (o : Option ℕ) → NoneHeld old.position → o ≡ next_piece old.position → MatchOption o (new ≡ old) (λ k. new ≡ stepped old (event.Claim 0 k)) → Claimed causes old new o
claim_found causes old new None none next step = (step, sym next)
claim_found causes old new (Some k) none next step = claim_is causes old new k none (sym next) step

-- the piece that is held
pub piece_held : (p : Position) (k : ℕ) (q : Piece) → HeldAlone p k → Some q ≡ held_piece p 0 → slice_get p.pieces k ≡ Some q
piece_held p k q h e = sym (e ∙ ap (piece_at p.pieces) h.held)

-- after a submission that ends the piece nothing is held
set_none : (statuses : List Status) (k : ℕ) (x y : Status) → slice_get statuses k ≡ Some x → ((w : ℕ) → y ≡ status.Held w → ⊥) → ((j w : ℕ) → slice_get statuses j ≡ Some (status.Held w) → j ≡ k) → (j w : ℕ) → slice_get (slice_set statuses k y) j ≡ Some (status.Held w) → ⊥
set_none statuses k x y at free one j w e = elim (cases_eq k j) [
  | inl same ↦ free w (some_is y (status.Held w) (sym (get_set_here statuses k y x at) ∙ (ap (slice_get (slice_set statuses k y)) same ∙ e)))
  | inr other ↦ other (sym (one j w (sym (get_set_other statuses k j y other) ∙ e)))
]

broken_free : (b : Bool) (g n w : ℕ) → broken_by b g n ≡ status.Held w → ⊥
broken_free true g n w e = absurd (cc)
broken_free false g n w e = absurd (cc)

pub submitted_held : (p : Position) (k : ℕ) (o : Option Piece) (what : Word) → HeldAlone p k → HeldOn (submitted p k o what) k (is_lemma_word what)
submitted_held p k o word.Proved h = set_none p.statuses k (status.Held 0) (status.Proved p.kept) (held_status p.statuses 0 k h.held) (λ w e. absurd (cc)) h.alone
submitted_held p k o (word.Broken g) h =
    set_none p.statuses k (status.Held 0) (broken_by (is_own_break g) g p.kept) (held_status p.statuses 0 k h.held) (λ w e. broken_free (is_own_break g) g p.kept w e) h.alone
  where
    is_own_break : ℕ → Bool
    is_own_break g = breaks_own o (word.Broken g)
submitted_held p k o word.Ended h = set_none p.statuses k (status.Held 0) (status.Ended p.kept) (held_status p.statuses 0 k h.held) (λ w e. absurd (cc)) h.alone
submitted_held p k o word.Lemma h = record { held = h.held; alone = h.alone }
