-- The split decides covering.
use Rattle.std.specs.Prelude.{◌≡◌, ◌↔◌, ◌≤◌, ℕ, true, List}
use Rattle.tcl_goals.specs.declared.fact.BitLit.{BitLit}
use Rattle.tcl_goals.specs.Order.{bits_differ}
use Rattle.tcl_cubes.specs.Covering.{Covers, are_covering, count_bits}

-- as many splits as the cubes name bits are enough to decide whether they cover the assignments of a cube in which no bit
-- stands twice
abbrev pub SplitsDecide : Type 0
SplitsDecide =
    (n : ℕ) (cube : List BitLit) (cubes : List (List BitLit)) → bits_differ cube ≡ true → count_bits cubes ≤ n →
    (are_covering n cube cubes ≡ true) ↔ Covers cube cubes
