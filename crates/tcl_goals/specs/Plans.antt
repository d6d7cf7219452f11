-- Pieces of goals, and the plan of a program.
use Rattle.std.specs.Prelude.{◌≡◌, ℕ, ◌+◌, ◌/◌, ◌%◌, ◌^◌, ◌==◌, Bool, true, if◌then◌else◌, List, [], ◌∷◌, ◌++◌, length, map, take, flat_map, slice_get}
use Rattle.tcl_lang.specs.declared.pred.Line.{Line}
use Rattle.tcl_lang.specs.Program.{VersionedProgram}
use Rattle.tcl_lang.specs.Line.{is_algebraic}
use Rattle.tcl_lang.specs.Goal.{goal_count, passes}
use Rattle.tcl_goals.specs.declared.fact.Bit.{Bit}
use Rattle.tcl_goals.specs.declared.fact.BitLit.{BitLit}
use Rattle.tcl_goals.specs.declared.fact.Fact.{Fact}
use Rattle.tcl_goals.specs.declared.piece.Route.{Route}
use Rattle.tcl_goals.specs.declared.piece.Route.TheVariants as route
use Rattle.tcl_goals.specs.declared.piece.Piece.{Piece}
use Rattle.tcl_goals.specs.Numbers.{numbers_below}
use Rattle.tcl_goals.specs.Places.{goal_place, has_goal}
use Rattle.tcl_goals.specs.Slices.{route_fact}
use Rattle.tcl_goals.specs.Free.{free_bits}

-- cube n over bits, the first bit as the most significant
abbrev pub nth_cube : List Bit → ℕ → List BitLit
nth_cube [] n = []
nth_cube (b ∷ bits) n = record { var = b.var; bit = b.bit; value = n / 2 ^ length bits % 2 == 1 } ∷ nth_cube bits n

-- the bits over which a route of goal i is split: the first free bits of its fact, none for an algebraic goal
abbrev pub is_algebraic_goal : List Line → ℕ → Bool
is_algebraic_goal lines i = passes is_algebraic (slice_get lines (goal_place lines i))

abbrev pub split_bits : VersionedProgram → ℕ → ℕ → Route → List Bit
split_bits p split i r =
    if is_algebraic_goal p.lines i then [] else take split (free_bits p [] (route_fact p i r))

-- the pieces of a route and of a goal, without their numbers
abbrev pub cube_pieces : ℕ → Route → List Bit → List Piece
cube_pieces i r bits =
    map (λ n. record { number = 0; goal = i; route = r; cube = nth_cube bits n }) (numbers_below (2 ^ length bits))

abbrev pub goal_pieces : VersionedProgram → ℕ → ℕ → List Piece
goal_pieces p split i =
    cube_pieces i route.Cut (split_bits p split i route.Cut) ++ cube_pieces i route.Whole (split_bits p split i route.Whole)

-- numbered from n on
abbrev pub number_from : ℕ → List Piece → List Piece
number_from n [] = []
number_from n (q ∷ pieces) = record q { number = n } ∷ number_from (n + 1) pieces

-- the plan of a program: pieces by goal, route and cube, numbered from 0
unfoldable pub plan_of : VersionedProgram → ℕ → List Piece
plan_of p split = number_from 0 (flat_map (goal_pieces p split) (numbers_below (goal_count p.lines)))

-- the fact of a piece: that of its route, with its cube
unfoldable pub piece_fact : VersionedProgram → Piece → Fact
piece_fact p q = record (route_fact p q.goal q.route) { cube = q.cube }

-- the bit of a literal
abbrev pub bit_at : BitLit → Bit
bit_at b = record { var = b.var; bit = b.bit }

-- the goal of the piece exists, and its cube gives values to the first free bits of its fact
pub record IsPiece (p : VersionedProgram) (q : Piece) : Type 0 where
  pub goal : has_goal p.lines q.goal ≡ true
  pub cube : map bit_at q.cube ≡ take (length q.cube) (free_bits p [] (route_fact p q.goal q.route))
