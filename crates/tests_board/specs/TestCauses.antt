-- Which causes are true in the tests: the spent budget, and a stray at a line of the program whose input fits.
use Rattle.std.specs.Prelude.{◌≡◌, ℕ, ℤ, nat_lt, Bool, true, List, length}
use Rattle.tcl_lang.specs.declared.pred.Line.{Line}
use Rattle.tcl_lang.specs.Program.{VersionedProgram}
use Rattle.tcl_lang.specs.Run.{Fits, taken_types}
use Rattle.tcl_goals.specs.declared.cause.Cause.TheVariants as cause
use Rattle.tcl_goals.specs.declared.piece.Shown.{Shown}
use Rattle.tcl_goals.specs.declared.piece.Shown.TheVariants as shown
use Rattle.tcl_goals.specs.Places.{goal_place}
use Rattle.tcl_board.specs.Shows.{Causes, NoModel, NamesOwn, StraysFit}

-- a line of the program, and an input that fits it
pub record IsStray (p : VersionedProgram) (k : ℕ) (input : List ℤ) : Type 0 where
  pub line : nat_lt k (length p.lines) ≡ true
  pub fits : Fits (taken_types p.lines) input

-- the causes of the tests
abbrev pub test_causes : Causes
test_causes p budget q (cause.Steps n) = n ≡ budget
test_causes p budget q (cause.Stray k truth input) = IsStray p k input
test_causes p budget q _ = ⊥

-- a fact is shown, or the break of a goal whose place is a line
abbrev pub is_placed : List Line → Shown → Bool
is_placed lines (shown.Fact fact) = true
is_placed lines (shown.Breaks g input) = nat_lt (goal_place lines g) (length lines)

pub no_model : NoModel test_causes
no_model p budget q exists whole c = c

pub names_own : NamesOwn test_causes
names_own p budget q (cause.Steps n) exists c = λ i. true
names_own p budget q (cause.Stray k truth input) exists c = c.line
names_own p budget q cause.Model exists c = absurd c
names_own p budget q (cause.Width at) exists c = absurd c
names_own p budget q (cause.Size what n) exists c = absurd c
names_own p budget q (cause.Rest f _) exists c = absurd c
names_own p budget q cause.Later exists c = absurd c

pub strays_fit : StraysFit test_causes
strays_fit p budget q k truth input exists c = c.fits
