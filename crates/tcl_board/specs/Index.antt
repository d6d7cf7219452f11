-- What a board keeps beside its state, so that its calls need not look at all pieces. No public clause cites this module.
use Rattle.std.specs.Prelude.{◌≡◌, ◌<◌, ◌≤◌, ℕ, ◌+◌, ◌==◌, false, if◌then◌else◌, List, length, slice_get, slice_set, Option, Some, None}
use Rattle.tcl_goals.specs.declared.piece.Piece.{Piece}
use Rattle.tcl_board.specs.declared.event.Word.{Word}
use Rattle.tcl_board.specs.declared.event.Word.TheVariants as word
use Rattle.tcl_board.specs.declared.span.Span.{Span}
use Rattle.tcl_board.specs.Moves.{Position, may_claim, held_of}

-- the pieces of the goal among the first n lie from `first` on, below `end`
pub record HasSpan (pieces : List Piece) (n g : ℕ) (span : Span) : Type 0 where
  pub first : (k : ℕ) (q : Piece) → k < n → slice_get pieces k ≡ Some q → q.goal ≡ g → span.first ≤ k
  pub end : (k : ℕ) (q : Piece) → k < n → slice_get pieces k ≡ Some q → q.goal ≡ g → k < span.end
  pub order : span.first ≤ span.end
  pub within : span.end ≤ n

abbrev pub HaveSpans : List Piece → ℕ → List Span → Type 0
HaveSpans pieces n spans = (g : ℕ) (span : Span) → slice_get spans g ≡ Some span → HasSpan pieces n g span

-- the span of a goal after piece k of it was seen
abbrev pub extended : Span → ℕ → Span
extended span k = record { first = if span.end == 0 then k else span.first; end = k + 1 }

abbrev pub extend_in : List Span → ℕ → ℕ → Option Span → List Span
extend_in spans g k (Some span) = slice_set spans g (extended span k)
extend_in spans g k None = spans

-- Each goal has the span of its pieces; no piece before `next` may be claimed; the table of workers has for each the piece that
-- it holds.
pub record IsIndex (p : Position) (spans : List Span) (next : ℕ) (holders : List (Option ℕ)) : Type 0 where
  pub goals : length spans ≡ length p.admitted
  pub each : HaveSpans p.pieces (length p.pieces) spans
  pub claimed : (k : ℕ) → k < next → may_claim p.pieces p.statuses p.admitted p.breaks k ≡ false
  pub few : next ≤ length p.pieces
  pub workers : length holders ≡ 64
  pub held : (w : ℕ) → w < 64 → slice_get holders w ≡ Some (held_of p.statuses w)

-- the table after a submission: a lemma leaves the worker at its piece
abbrev pub holders_after : List (Option ℕ) → ℕ → Word → List (Option ℕ)
holders_after holders w word.Lemma = holders
holders_after holders w word.Proved = slice_set holders w None
holders_after holders w (word.Broken g) = slice_set holders w None
holders_after holders w word.Ended = slice_set holders w None

-- the entry of a table
abbrev pub flat : Option (Option ℕ) → Option ℕ
flat (Some o) = o
flat None = None
