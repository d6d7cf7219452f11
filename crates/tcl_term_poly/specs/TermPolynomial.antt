-- The polynomial of an algebraic term over the ring of the reduction r.
use Rattle.std.specs.Prelude.{ℕ, ◌^◌, ℤ, negsuc, nat_lt, Bool, [], ◌+◌}
use Rattle.std.specs.List.{list_all}
use Rattle.tcl_lang.specs.declared.term.Term.{Term, Term-F, fold-Term}
use Rattle.tcl_lang.specs.declared.term.Term.TheOpen as layer
use Rattle.tcl_lang.specs.Names.{term_names}
use Rattle.tcl_poly.specs.Unknown.{variable_key}
use Rattle.tcl_poly.specs.Polynomial.{Polynomial, sum_of, scaled, product_of, number_of, power_of, raised_by}

-- the difference
abbrev pub difference_of : (ℤ → ℤ) → Polynomial → Polynomial → Polynomial
difference_of r p q = sum_of r p (scaled r ([], negsuc 0) q)

-- the unknown of a variable
abbrev pub variable_of : (ℤ → ℤ) → ℕ → Polynomial
variable_of r v = power_of r (variable_key v) 1

-- the polynomial of a term from those of its parts
abbrev pub polynomial_step : (ℤ → ℤ) → Term-F Polynomial → Polynomial
polynomial_step r (layer.Var name) = variable_of r name
polynomial_step r (layer.Num n) = number_of r n
polynomial_step r (layer.Neg p) = scaled r ([], negsuc 0) p
polynomial_step r (layer.Add p q) = sum_of r p q
polynomial_step r (layer.Sub p q) = difference_of r p q
polynomial_step r (layer.Mul p q) = product_of r p q
polynomial_step r (layer.Pow p k) = raised_by r p k

abbrev pub polynomial_of : (ℤ → ℤ) → Term → Polynomial
polynomial_of r t = fold-Term Polynomial (polynomial_step r) t

-- the key of the unknown of the line of a place, and a polynomial less a multiple of it
abbrev pub quotient_key : ℕ → ℕ
quotient_key place = variable_key (2 ^ 32 + place)

abbrev pub less_multiple : (ℤ → ℤ) → Polynomial → ℤ → ℕ → Polynomial
less_multiple r p m place = difference_of r p (scaled r ([], r m) (power_of r (quotient_key place) 1))

-- the variables of a term have numbers that a word of 32 bits holds
abbrev pub are_narrow : Term → Bool
are_narrow t = list_all (λ v. nat_lt v (2 ^ 32)) (term_names t)
