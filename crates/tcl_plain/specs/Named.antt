-- Polynomials whose unknowns all have names in plain data. No public clause cites this module.
use Rattle.std.specs.Prelude.{◌≡◌, ℕ, false, true, List, [], ◌∷◌, Option}
use Rattle.tcl_ring.specs.Reduction.{is_wide}
use Rattle.tcl_poly.specs.Monomial.{Monomial}
use Rattle.tcl_poly.specs.Polynomial.{Polynomial, norm_of}
use Rattle.tcl_reduce.specs.Reduction.{Definition}
use Rattle.tcl_remainder.specs.Names.{has_name}

-- each unknown of a monomial, of a polynomial
abbrev pub HasNames : Monomial → Type 0
HasNames [] = Unit {0}
HasNames (f ∷ m) = (has_name f.0 ≡ true) × HasNames m

abbrev pub AreNamed : Polynomial → Type 0
AreNamed [] = Unit {0}
AreNamed (t ∷ p) = HasNames t.0 × AreNamed p

-- the variable and each unknown of the polynomial, of each definition
abbrev pub DefinitionsNamed : List Definition → Type 0
DefinitionsNamed [] = Unit {0}
DefinitionsNamed (x ∷ xs) = (has_name x.1 ≡ true) × AreNamed x.2 × DefinitionsNamed xs

-- what a reduction starts from, so that plain data has all that it makes
pub record IsReadable (m : Option ℕ) (defs : List Definition) (f : Polynomial) : Type 0 where
  pub definitions : DefinitionsNamed defs
  pub named : AreNamed f
  pub narrow : is_wide m (norm_of f) ≡ false
