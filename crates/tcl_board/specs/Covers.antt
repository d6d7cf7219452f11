-- The cubes of a route cover all.
use Rattle.std.specs.Prelude.{◌≡◌, ℕ, true, List, slice_get, Some}
use Rattle.tcl_lang.specs.declared.ty.Word.{Word}
use Rattle.tcl_goals.specs.declared.piece.Piece.{Piece}
use Rattle.tcl_goals.specs.declared.piece.Route.{Route}
use Rattle.tcl_goals.specs.Holds.{cube_holds}

-- a piece of the route whose cube holds in the store
pub record Covering (pieces : List Piece) (g : ℕ) (r : Route) (store : List Word) : Type 0 where
  pub number : ℕ
  pub piece : Piece
  pub at : slice_get pieces number ≡ Some piece
  pub goal : piece.goal ≡ g
  pub route : piece.route ≡ r
  pub holds : cube_holds store piece.cube ≡ true

abbrev pub Covers : List Piece → ℕ → Route → Type 0
Covers pieces g r = (store : List Word) → Covering pieces g r store
