-- The polynomial of a definition and its equation fit where the bound of the equation does.
use Rattle.std.proofs.Common.{◌≡◌, ℕ, ◌+◌, ◌^◌, ◌≤◌, refl, ap, arith, ℤ, pos, unsigned_abs, to_z, of_z, Bool, true, false, if◌then◌else◌, List, Option, Some, None}
use Rattle.std.specs.Int.{w128}
use Rattle.std.proofs.lemmas.Int.{to_z-of_z, fits_signed_from_abs}
use Rattle.std.proofs.Math.Nat.{pow-le-pow_right}
use Rattle.tcl_ring.specs.Reduction.{reduced_by, is_wide}
use Rattle.tcl_poly.specs.Polynomial.{Polynomial, norm_of}
use Rattle.tcl_poly.proofs.Norms.{narrower}
use Rattle.tcl_lang.specs.declared.instr.Instr.{Instr}
use Rattle.tcl_lang.specs.declared.term.Term.{Term}
use Rattle.tcl_lang.specs.declared.variable.Variable.{Variable}
use Rattle.tcl_lang.specs.Bound as bound
use Rattle.tcl_term_poly.specs.TermPolynomial.{polynomial_of, less_multiple}
use Rattle.tcl_term_poly.proofs.TermBounds.{term_norm, less_multiple_norm}
use Rattle.tcl_algebra.specs.Row.{has_quotient}
use Rattle.tcl_algebra.specs.Equations.{definition_polynomial, definition_norm}

with_quotient : (variables : List Variable) (i : Instr) (t : Term) → has_quotient variables i ≡ true → bound.norm_of t + 2 ^ i.ty.width ≤ definition_norm variables i t
with_quotient variables i t e = at (has_quotient variables i) e
  where
    at : (b : Bool) → b ≡ true → bound.norm_of t + 2 ^ i.ty.width ≤ 1 + bound.norm_of t + (if b then 2 ^ i.ty.width else 0)
    at true e = omega arith
    at false e = absurd (cc)

pub quotient_fits : (m : Option ℕ) (variables : List Variable) (i : Instr) (t : Term) (p : Polynomial) (n : ℤ) → p ≡ polynomial_of (reduced_by m) t → n ≡ pos (2 ^ i.ty.width) → has_quotient variables i ≡ true → is_wide m (definition_norm variables i t) ≡ false → is_wide m (norm_of p + unsigned_abs n) ≡ false
quotient_fits None variables i t p n e f has fits =
    narrower None (definition_norm variables i t) (norm_of p + unsigned_abs n) fits
    (omega (arith, ap norm_of e, ap unsigned_abs f, term_norm t, with_quotient variables i t has))
quotient_fits (Some m) variables i t p n e f has fits = refl

value_norm : (variables : List Variable) (place : ℕ) (i : Instr) (t : Term) → 1 + norm_of (definition_polynomial (reduced_by None) variables place i t) ≤ definition_norm variables i t
value_norm variables place i t = at (has_quotient variables i)
  where
    at : (b : Bool) → 1 + norm_of (if b then less_multiple (reduced_by None) (polynomial_of (reduced_by None) t) (pos (2 ^ i.ty.width)) place else polynomial_of (reduced_by None) t) ≤ 1 + bound.norm_of t + (if b then 2 ^ i.ty.width else 0)
    at true = omega (arith, less_multiple_norm (polynomial_of (reduced_by None) t) (pos (2 ^ i.ty.width)) place, term_norm t)
    at false = omega (arith, term_norm t)

pub equation_fits : (m : Option ℕ) (variables : List Variable) (place : ℕ) (i : Instr) (t : Term) (p : Polynomial) → p ≡ definition_polynomial (reduced_by m) variables place i t → is_wide m (definition_norm variables i t) ≡ false → is_wide m (1 + norm_of p) ≡ false
equation_fits None variables place i t p e fits = narrower None (definition_norm variables i t) (1 + norm_of p) fits (omega (arith, ap norm_of e, value_norm variables place i t))
equation_fits (Some m) variables place i t p e fits = refl

-- a factor as the machine has it
pub factor_cast : (w : ℕ) (n : ℤ) → w ≤ 64 → n ≡ pos (2 ^ w) → to_z w128 (of_z w128 n) ≡ n
factor_cast w n h e =
    let small : 2 ^ w ≤ 2 ^ 64 = pow-le-pow_right {n = 2} (omega arith) {i = w} {j = 64} h in
    to_z-of_z w128 n (fits_signed_from_abs w128 n (omega (arith, ap unsigned_abs e, small)))
