-- Divisibility and congruence of integers, as facts and as tests.
use Rattle.std.specs.Prelude.{◌≡◌, ℤ, ◌+ℤ◌, ◌*ℤ◌, ◌-ℤ◌, ◌%◌, ◌==◌, Bool, unsigned_abs}

-- n is d times an integer
abbrev pub Divides : ℤ → ℤ → Type 0
Divides d n = (k : ℤ) × (n ≡ d *ℤ k)

-- a and b differ by a multiple of m, which may be zero or negative
abbrev pub Congruent : ℤ → ℤ → ℤ → Type 0
Congruent m a b = (k : ℤ) × (a ≡ b +ℤ m *ℤ k)

-- whether d divides n; zero divides zero alone
unfoldable pub is_multiple : ℤ → ℤ → Bool
is_multiple d n = unsigned_abs n % unsigned_abs d == 0

-- whether a and b are congruent modulo m
unfoldable pub is_congruent : ℤ → ℤ → ℤ → Bool
is_congruent m a b = is_multiple m (a -ℤ b)
