-- What contracts see of an outcome, and of the fields of a board.
use Rattle.std.specs.Prelude.{ℕ, Bool, List, Option}
use Rattle.tcl_lang.specs.Program.{VersionedProgram}
use Rattle.tcl_goals.specs.declared.lemma.Numbered.{Numbered}
use Rattle.tcl_goals.specs.declared.piece.Shown.{Shown}
use Rattle.tcl_goals.specs.declared.piece.Piece.{Piece}
use Rattle.tcl_board.specs.declared.event.Event.{Event}
use Rattle.tcl_board.specs.declared.event.Status.{Status}
use Rattle.tcl_board.specs.declared.event.LemmaMark.{LemmaMark}
use Rattle.tcl_board.specs.declared.evidence.Outcome.{Outcome}
use Rattle.tcl_board.specs.declared.evidence.Outcome.TheVariants as outcome
use Rattle.tcl_board.specs.declared.evidence.Seen.{Seen}
use Rattle.tcl_board.specs.declared.evidence.Seen.TheVariants as seen
use Rattle.tcl_board.specs.State.{BoardState}

abbrev pub seen_of : {E : Type 0} → (E → Shown) → (E → List Numbered) → Outcome E → Seen
seen_of shows cited (outcome.Shown e) = seen.Shown (shows e) (cited e)
seen_of shows cited (outcome.Lemma e) = seen.Lemma (shows e) (cited e)
seen_of shows cited (outcome.Ended c) = seen.Ended c

abbrev pub state_of :
    VersionedProgram → List Piece → ℕ → List Event → List Piece → List Status → List Bool → List (Option ℕ) →
    List LemmaMark → ℕ → List Seen → BoardState
state_of p plan budget events pieces statuses admitted breaks lemmas count kept =
    record {
      program = p;
      plan = plan;
      budget = budget;
      events = events;
      position = record {
        pieces = pieces;
        statuses = statuses;
        admitted = admitted;
        breaks = breaks;
        lemmas = lemmas;
        kept = count;
      };
      kept = kept;
    }
