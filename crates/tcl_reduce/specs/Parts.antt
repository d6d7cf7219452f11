-- A polynomial by the powers of one unknown: f is the sum of its parts times these powers.
use Rattle.std.specs.Prelude.{◌≡◌, ℕ, zero, suc, max, ◌==◌, List, [], ◌∷◌, length, slice_index_or, if◌then◌else◌}
use Rattle.tcl_poly.specs.Monomial.{Monomial, exponent}

-- the monomial without the unknown u
abbrev pub without : ℕ → Monomial → Monomial
without u [] = []
without u (f ∷ m) = if f.0 == u then without u m else f ∷ without u m

-- the coefficient of the k-th power of u: the terms in which u has the exponent k, without it
abbrev pub part : {E : Type 0} → ℕ → ℕ → List (Monomial × E) → List (Monomial × E)
part u k [] = []
part u k (t ∷ p) = if exponent t.0 u == k then (without u t.0, t.1) ∷ part u k p else part u k p

-- the coefficients of f as a polynomial in u, by the powers
abbrev pub coefficients : {E : Type 0} → ℕ → List (Monomial × E) → ℕ → List (Monomial × E)
coefficients u f k = part u k f

-- the greatest exponent of u, 0 where it does not occur
abbrev pub top : {E : Type 0} → ℕ → List (Monomial × E) → ℕ
top u [] = 0
top u (t ∷ p) = max (exponent t.0 u) (top u p)

-- the coefficients from a list of them
abbrev pub by_power : {E : Type 0} → List (List (Monomial × E)) → ℕ → List (Monomial × E)
by_power fs k = slice_index_or fs k []

-- the same where the first is given apart
abbrev pub joined_by : {E : Type 0} → List (Monomial × E) → List (List (Monomial × E)) → ℕ → List (Monomial × E)
joined_by first fs zero = first
joined_by first fs (suc k) = by_power fs (suc k)

-- the list holds the coefficients of f up to the greatest power of u
abbrev pub AreParts : {E : Type 0} → ℕ → List (Monomial × E) → List (List (Monomial × E)) → Type 0
AreParts u f fs = (length fs ≡ suc (top u f)) × ((k : ℕ) → by_power fs k ≡ part u k f)
