-- One worker alone at a board.
use Rattle.std.specs.Prelude.{◌≡◌, ◌<◌, ℕ, Bool, true, false, length, slice_get, Option, Some, None}
use Rattle.tcl_goals.specs.declared.piece.Piece.{Piece}
use Rattle.tcl_board.specs.declared.event.Status.TheVariants as status
use Rattle.tcl_board.specs.declared.evidence.Seen.{Seen}
use Rattle.tcl_board.specs.declared.evidence.Seen.TheVariants as seen
use Rattle.tcl_board.specs.Shows.{Causes}
use Rattle.tcl_board.specs.Moves.{Position, held_of, is_settled, next_piece, may_admit}
use Rattle.tcl_board.specs.State.{BoardState}
use Rattle.tcl_board.specs.Finished.{has_ended}
use Rattle.tcl_gate.specs.Extends.{Extends}

-- no piece is held
abbrev pub NoneHeld : Position → Type 0
NoneHeld p = (k w : ℕ) → slice_get p.statuses k ≡ Some (status.Held w) → ⊥

-- worker 0 holds the piece of this number, and no other is held
pub record HeldAlone (p : Position) (k : ℕ) : Type 0 where
  pub held : held_of p.statuses 0 ≡ Some k
  pub alone : (j w : ℕ) → slice_get p.statuses j ≡ Some (status.Held w) → j ≡ k

-- the events of the new board extend those of the old one, and are more
pub record GoesOn (causes : Causes) (old new : BoardState) : Type 0 where
  pub extends : Extends causes old new
  pub more : length old.events < length new.events

-- a claim: nothing changes where no piece is left, or worker 0 holds one from then on
abbrev pub Claimed : Causes → BoardState → BoardState → Option ℕ → Type 0
Claimed causes old new None = (new ≡ old) × (next_piece old.position ≡ None)
Claimed causes old new (Some k) = GoesOn causes old new × HeldAlone new.position k

-- what is seen of an outcome is of a lemma
abbrev pub is_lemma : Seen → Bool
is_lemma (seen.Lemma sh cited) = true
is_lemma _ = false

-- the piece of this number is held on, or no piece is
abbrev pub HeldOn : Position → ℕ → Bool → Type 0
HeldOn p k true = HeldAlone p k
HeldOn p k false = NoneHeld p

-- a turn of the work on a piece
pub record IsTurn (causes : Causes) (old new : BoardState) (k : ℕ) (on : Bool) : Type 0 where
  pub goes_on : GoesOn causes old new
  pub pieces : new.position.pieces ≡ old.position.pieces
  pub held : HeldOn new.position k on

-- an admission: pieces, their statuses and breaks stay
pub record Admits (causes : Causes) (old new : BoardState) : Type 0 where
  pub extends : Extends causes old new
  pub pieces : new.position.pieces ≡ old.position.pieces
  pub statuses : new.position.statuses ≡ old.position.statuses
  pub breaks : new.position.breaks ≡ old.position.breaks
  pub goals : length new.position.admitted ≡ length old.position.admitted
  pub settled : (g : ℕ) → is_settled old.position.admitted old.position.breaks g ≡ true →
      is_settled new.position.admitted new.position.breaks g ≡ true

-- no goal below n may be admitted
abbrev pub NoneBelow : Position → ℕ → Type 0
NoneBelow p n = (g : ℕ) → g < n → may_admit p g ≡ false

-- no piece is held, and each piece of an unsettled goal has ended
pub record IsWorked (p : Position) : Type 0 where
  pub held : NoneHeld p
  pub ended : (k : ℕ) (q : Piece) → slice_get p.pieces k ≡ Some q → is_settled p.admitted p.breaks q.goal ≡ false →
      has_ended (slice_get p.statuses k) ≡ true
