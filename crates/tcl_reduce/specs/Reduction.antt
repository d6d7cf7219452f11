-- Plain reduction: the definitions are substituted from the last place to the first.
use Rattle.std.specs.Prelude.{ℕ, zero, suc, min, ◌+◌, ◌^◌, Bool, true, false, nat_le, List, [], ◌∷◌, length, slice_index_or, ℤ, negsuc, Option}
use Rattle.tcl_port.specs.declared.limit.At.{At}
use Rattle.tcl_port.specs.declared.limit.At.TheVariants.{Line}
use Rattle.tcl_port.specs.declared.limit.What.{What}
use Rattle.tcl_port.specs.declared.limit.What.TheVariants.{Degree, Terms}
use Rattle.tcl_ring.specs.Reduction.{reduced_by, is_wide}
use Rattle.tcl_poly.specs.Polynomial.{Polynomial, sum_of, scaled, power_of, norm_of}
use Rattle.tcl_reduce.specs.Parts.{top, coefficients}
use Rattle.tcl_reduce.specs.Substitution.{substituted, cofactor_by, bound_of, degree_by, terms_by}

-- a definition: its place, the key of its variable, and the polynomial that the variable equals
abbrev pub Definition : Type 0
Definition = ℕ × ℕ × Polynomial

-- the definition with that number
abbrev pub definition_at : List Definition → ℕ → Definition
definition_at defs k = slice_index_or defs k (0, 0, [])

-- its equation: the variable less the polynomial
abbrev pub equation_of : (ℤ → ℤ) → Definition → Polynomial
equation_of r x = sum_of r (power_of r x.1 1) (scaled r ([], negsuc 0) x.2)

-- how a reduction ends: with what is left, the cofactors by the numbers of their definitions, and the bound that was spent,
-- which stays at 2^127; or wide at a line, or large
pub data Reduced : Type 0 where
  Done : Polynomial → List (ℕ × Polynomial) → ℕ → Reduced
  TooWide : At → Reduced
  TooLarge : What → ℕ → Reduced

-- the first of three faults: width at that place, then degree, then terms; a count stays at 2^32 - 1 where it is greater
abbrev pub first_fault : Bool → Bool → Bool → ℕ → ℕ → ℕ → Reduced → Reduced
first_fault true deep long place degree terms further = TooWide (Line place)
first_fault false true long place degree terms further = TooLarge Degree (min degree 4294967295)
first_fault false false true place degree terms further = TooLarge Terms (min terms 4294967295)
first_fault false false false place degree terms further = further

-- one definition, where its variable has that greatest exponent in f: nothing is done where the variable does not occur
abbrev pub reduced_at : Option ℕ → Definition → Polynomial → ℕ → ℕ → Reduced → Reduced → Reduced
reduced_at m x f spent zero same further = same
reduced_at m x f spent (suc k) same further =
    first_fault (is_wide m (spent + bound_of x.2 (coefficients x.1 f) (suc k)))
    (nat_le 1025 (degree_by x.2 (coefficients x.1 f) (suc (suc k))))
    (nat_le 65537 (terms_by x.2 (coefficients x.1 f) (suc (suc k))))
    x.0 (degree_by x.2 (coefficients x.1 f) (suc (suc k))) (terms_by x.2 (coefficients x.1 f) (suc (suc k))) further

-- f after one definition, and its cofactor
abbrev pub rest_at : Option ℕ → Definition → Polynomial → Polynomial
rest_at m x f = substituted (reduced_by m) x.2 (coefficients x.1 f) (suc (top x.1 f))

abbrev pub cofactor_at : Option ℕ → Definition → Polynomial → Polynomial
cofactor_at m x f = cofactor_by (reduced_by m) x.1 x.2 (coefficients x.1 f) (suc (top x.1 f))

-- the reduction by the first n definitions, from the last of them on, after that bound was spent and with the cofactors of later ones
abbrev pub reduced_from : Option ℕ → List Definition → ℕ → Polynomial → ℕ → List (ℕ × Polynomial) → Reduced
reduced_from m defs zero f spent cofactors = Done f cofactors (min spent (2 ^ 127))
reduced_from m defs (suc k) f spent cofactors =
    let x = definition_at defs k in
    reduced_at m x f spent (top x.1 f)
    (reduced_from m defs k f spent cofactors)
    (reduced_from m defs k (rest_at m x f) (spent + bound_of x.2 (coefficients x.1 f) (top x.1 f)) ((k, cofactor_at m x f) ∷ cofactors))

-- plain reduction
abbrev pub reduced_of : Option ℕ → List Definition → Polynomial → Reduced
reduced_of m defs f = reduced_from m defs (length defs) f (norm_of f) []
