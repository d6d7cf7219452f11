-- Residues of a modulus, or of 2 ^ 128 where there is none. No public clause cites this module.
use Rattle.std.specs.Prelude.{ℕ, ◌^◌, Option, Some, None}

-- how many residues there are
abbrev pub residue_count : Option ℕ → ℕ
residue_count None = 2 ^ 128
residue_count (Some m) = m

-- the modulus; 0 where there is none
abbrev pub modulus_in : Option ℕ → ℕ
modulus_in None = 0
modulus_in (Some m) = m
