-- What the events of a board say of a goal.
use Rattle.std.specs.Prelude.{ℕ, ◌==◌, Bool, false, List}
use Rattle.std.specs.List.{list_any}
use Rattle.tcl_board.specs.declared.event.Admitted.TheVariants as admitted
use Rattle.tcl_board.specs.declared.event.Event.{Event}
use Rattle.tcl_board.specs.declared.event.Event.TheVariants as event
use Rattle.tcl_board.specs.declared.event.Word.TheVariants as word

-- the event admits goal g
abbrev pub is_admission : ℕ → Event → Bool
is_admission g (event.Admit (admitted.Goal h)) = h == g
is_admission g _ = false

-- the event submits a break of goal g
abbrev pub is_break : ℕ → Event → Bool
is_break g (event.Submit w q (word.Broken h)) = h == g
is_break g _ = false

-- an event admits goal g, an event submits a break of it
abbrev pub admits : ℕ → List Event → Bool
admits g events = list_any (is_admission g) events

abbrev pub breaks : ℕ → List Event → Bool
breaks g events = list_any (is_break g) events
