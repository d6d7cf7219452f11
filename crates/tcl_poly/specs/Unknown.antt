-- The key of an unknown, by which all monomials are ordered, and the factors that a monomial is made of.
use Rattle.std.specs.Prelude.{ℕ, ◌+◌, ◌^◌, List, map}
use Rattle.tcl_poly.specs.declared.factor.Unknown.{Unknown}
use Rattle.tcl_poly.specs.declared.factor.Unknown.TheVariants.{Var, Quot}
use Rattle.tcl_poly.specs.declared.factor.Factor.{Factor}
use Rattle.tcl_poly.specs.Monomial.{Monomial}

-- the key of a variable by its number; 0 is left free for a further unknown before all variables
abbrev pub variable_key : ℕ → ℕ
variable_key v = v + 1

-- variables by number come before the unknowns of lines by place
abbrev pub key_of : Unknown → ℕ
key_of (Var v) = variable_key v
key_of (Quot p) = variable_key (2 ^ 32 + p)

-- the unknown's key with its exponent
abbrev pub factor_of : Factor → ℕ × ℕ
factor_of f = (key_of f.unknown, f.exponent)

abbrev pub factors_of : List Factor → Monomial
factors_of fs = map factor_of fs
