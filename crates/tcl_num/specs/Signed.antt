-- An integer from its sign and its magnitude. No public clause cites this module.
use Rattle.std.specs.Prelude.{ℕ, Bool, true, false, ℤ, pos, neg_ℤ}

-- the integer of that magnitude, negative or not
abbrev pub signed : Bool → ℕ → ℤ
signed false n = pos n
signed true n = neg_ℤ (pos n)
