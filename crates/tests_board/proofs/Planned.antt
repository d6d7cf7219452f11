-- A plan without a split.
use Rattle.std.proofs.Common.{◌≡◌, ◌≤◌, List, arith}
use Rattle.tcl_lang.specs.Program.{VersionedProgram}
use Rattle.tcl_goals.specs.declared.piece.Piece.{Piece}
use Rattle.tcl_goals.specs.Plans.{plan_of}
use Rattle.tcl_board.specs.Kept.{IsPlan}

-- the plan without a split is a plan of the program
pub is_plan : (p : VersionedProgram) (plan : List Piece) → plan ≡ plan_of p 0 → IsPlan p plan
is_plan p plan is = let small : 0 ≤ 6 = omega arith in record { split = 0; small = small; is = is }
