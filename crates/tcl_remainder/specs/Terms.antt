-- Polynomials of plain data in a ring, and the plain data of a polynomial.
use Rattle.std.specs.Prelude.{ℕ, ◌^◌, nat_lt, ℤ, unsigned_abs, Bool, ◌&&◌, List, [], ◌∷◌, map}
use Rattle.std.specs.List.{list_all}
use Rattle.tcl_goals.specs.declared.remainder.Power.{Power}
use Rattle.tcl_goals.specs.declared.remainder.Summand.{Summand}
use Rattle.tcl_poly.specs.Monomial.{Monomial}
use Rattle.tcl_poly.specs.Polynomial.{Polynomial, Term, front}
use Rattle.tcl_remainder.specs.Names.{monomial_key, name_of, has_name}

abbrev pub factor_of : Power → ℕ × ℕ
factor_of a = (monomial_key a.name, a.exponent)

abbrev pub monomial_of : List Power → Monomial
monomial_of powers = map factor_of powers

-- the polynomial in the ring of a reduction r: each coefficient reduced, and a summand left out where that is 0
abbrev pub polynomial_of : (ℤ → ℤ) → List Summand → Polynomial
polynomial_of r [] = []
polynomial_of r (s ∷ summands) = front (monomial_of s.powers) (r s.coefficient) (polynomial_of r summands)

abbrev pub power_of : ℕ × ℕ → Power
power_of f = record { name = name_of f.0; exponent = f.1 }

abbrev pub powers_of : Monomial → List Power
powers_of m = map power_of m

abbrev pub summand_of : Term → Summand
summand_of t = record { coefficient = t.1; powers = powers_of t.0 }

-- the plain data of a polynomial
abbrev pub summands_of : Polynomial → List Summand
summands_of p = map summand_of p

-- each unknown has a name
abbrev pub has_names : Monomial → Bool
has_names m = list_all (λ f. has_name f.0) m

abbrev pub is_plain_term : Term → Bool
is_plain_term t = nat_lt (unsigned_abs t.1) (2 ^ 127) && has_names t.0

-- plain data has every unknown of the polynomial, and every coefficient
abbrev pub is_plain : Polynomial → Bool
is_plain p = list_all is_plain_term p
