-- A ring of integers as a reduction: what each integer is in the ring. A modulus of none is the ring of all integers.
use Rattle.std.specs.Prelude.{◌≡◌, ℕ, ◌<◌, ◌≤◌, ◌^◌, ◌*◌, ◌%◌, nat_le, Bool, true, false, Option, Some, None, Result, MatchResult, MatchOption, ℤ, pos, ◌+ℤ◌, ◌*ℤ◌, unsigned_abs}
use Rattle.std.specs.Int.{int_rem_euclid}

-- the number that stands for n: n itself, or its residue from 0 up
abbrev pub reduced_by : Option ℕ → ℤ → ℤ
reduced_by None n = n
reduced_by (Some m) n = int_rem_euclid n (pos m)

-- whether a magnitude is too great for the ring; residues have no limit
abbrev pub is_wide : Option ℕ → ℕ → Bool
is_wide None n = nat_le (2 ^ 127) n
is_wide (Some m) n = false

-- the moduli that are allowed
abbrev pub IsModulus : Option ℕ → Type 0
IsModulus None = Unit {0}
IsModulus (Some m) = (0 < m) × (m ≤ 2 ^ 126)

-- the value represents the integer n
abbrev pub Represents : Option ℕ → ℤ → ℤ → Type 0
Represents m value n = value ≡ reduced_by m n

-- the value is that of an element: it represents itself, and is not too great
abbrev pub IsElement : Option ℕ → ℤ → Type 0
IsElement m value = (reduced_by m value ≡ value) × (is_wide m (unsigned_abs value) ≡ false)

-- an element that represents n, or an error exactly where the magnitude of n is too great
abbrev pub IsResult : {E W : Type 0} → Option ℕ → (E → ℤ) → ℤ → Result E W → Type 0
IsResult m value n result = MatchResult result (λ e. Represents m (value e) n × (is_wide m (unsigned_abs n) ≡ false)) (λ _. is_wide m (unsigned_abs n) ≡ true)

-- an element whose product with a represents 1, or nothing exactly where no integer's product with a does
abbrev pub IsInverse : {E : Type 0} → Option ℕ → (E → ℤ) → ℤ → Option E → Type 0
IsInverse m value a result =
    MatchOption result
    ((n : ℤ) → reduced_by m (a *ℤ n) ≡ reduced_by m (pos 1) → ⊥)
    (λ e. IsElement m (value e) × (reduced_by m (a *ℤ value e) ≡ reduced_by m (pos 1)))

-- the same for residues as natural numbers
abbrev pub IsResidueInverse : ℕ → ℕ → Option ℕ → Type 0
IsResidueInverse m a result =
    MatchOption result
    ((n : ℤ) → int_rem_euclid (pos a *ℤ n) (pos m) ≡ pos (1 % m) → ⊥)
    (λ s. (s < m) × ((s * a) % m ≡ 1 % m))

-- what the laws of polynomials need of a reduction: sums and products of equal residues are equal
pub record IsReduction (reduced : ℤ → ℤ) : Type 0 where
  pub null : reduced (pos 0) ≡ pos 0
  pub sums : (a b c : ℤ) → reduced a ≡ reduced b → reduced (a +ℤ c) ≡ reduced (b +ℤ c)
  pub products : (a b c : ℤ) → reduced a ≡ reduced b → reduced (c *ℤ a) ≡ reduced (c *ℤ b)
  pub twice : (a : ℤ) → reduced (reduced a) ≡ reduced a
