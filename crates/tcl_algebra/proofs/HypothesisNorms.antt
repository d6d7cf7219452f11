-- The polynomials of hypotheses fit where their bounds do.
use Rattle.std.proofs.Common.{◌≡◌, ℕ, ◌+◌, ◌^◌, ◌≤◌, refl, sym, ◌∙◌, ap, arith, ℤ, negsuc, unsigned_abs, true, false, not, ◌&&◌, nat_le, [], List, Option, Some, None}
use Rattle.std.proofs.lemmas.Bool.{and_parts, not-true}
use Rattle.std.proofs.lemmas.Bool.Decides.{nat_tests}
use Rattle.tcl_ring.specs.Reduction.{reduced_by, is_wide}
use Rattle.tcl_poly.specs.Polynomial.{Polynomial, norm_of, scaled}
use Rattle.tcl_poly.proofs.Norms.{narrower, norm_sum}
use Rattle.tcl_lang.specs.declared.instr.Atom.{Atom}
use Rattle.tcl_lang.specs.declared.instr.Atom.TheVariants as atom
use Rattle.tcl_lang.specs.declared.term.Term as plain_term
use Rattle.tcl_lang.specs.declared.term.Term.TheOpen as layer
use Rattle.tcl_lang.specs.declared.term.Term.TheVariants as rolled
use Rattle.tcl_lang.specs.declared.term.Term.TheFolds.{fold-roll-Term}
use Rattle.tcl_lang.specs.declared.term.Part.{Part}
use Rattle.tcl_lang.specs.declared.term.AlgPred.{AlgPred}
use Rattle.tcl_lang.specs.Modulus.{modulus_value}
use Rattle.tcl_lang.specs.Bound as bound
use Rattle.tcl_term_poly.specs.TermPolynomial.{polynomial_of}
use Rattle.tcl_term_poly.proofs.Negations.{negation_norm}
use Rattle.tcl_term_poly.proofs.TermBounds.{term_norm}
use Rattle.tcl_algebra.specs.Row.{term_of}
use Rattle.tcl_algebra.specs.Equations.{has_wide_modulus, modulus_norm, is_great, is_deep, is_long, is_counted, claim_polynomial}
use Rattle.tcl_algebra.specs.Sound.{is_small}

-- operands are words
norm_of_var : (v : ℕ) → bound.norm_of (plain_term.Var v) ≡ 1
norm_of_var v = ap bound.norm_of (sym (rolled.rolls-Var v)) ∙ fold-roll-Term ℕ bound.norm_step (layer.Var v)

norm_of_num : (n : ℤ) → bound.norm_of (plain_term.Num n) ≡ unsigned_abs n
norm_of_num n = ap bound.norm_of (sym (rolled.rolls-Num n)) ∙ fold-roll-Term ℕ bound.norm_step (layer.Num n)

from_test : (a b : ℕ) → nat_le a b ≡ true → a ≤ b
from_test a b e = grind (arith, nat_tests)

pub operand_norm : (a : Atom) → is_small a ≡ true → bound.norm_of (term_of a) ≤ 2 ^ 64
operand_norm (atom.Var v) e = omega (arith, norm_of_var v)
operand_norm (atom.Lit T n) e = omega (arith, norm_of_num n, from_test (unsigned_abs n) (2 ^ 64) e)

below_end : (m : Option ℕ) (n : ℕ) → n ≤ 2 ^ 65 → is_wide m n ≡ false
below_end None n h = grind (arith, nat_tests)
below_end (Some m) n h = refl

pub operand_fits : (m : Option ℕ) (a : Atom) → is_small a ≡ true → is_wide m (bound.norm_of (term_of a)) ≡ false
operand_fits m a e = below_end m (bound.norm_of (term_of a)) (omega (arith, operand_norm a e))

pub operands_fit : (m : Option ℕ) (a b : Atom) → is_small a ≡ true → is_small b ≡ true → is_wide m (bound.norm_of (term_of a) + bound.norm_of (term_of b)) ≡ false
operands_fit m a b e f = below_end m (bound.norm_of (term_of a) + bound.norm_of (term_of b)) (omega (arith, operand_norm a e, operand_norm b f))

-- equations that are counted
pub counted_narrow : (m : Option ℕ) (f : AlgPred) → is_counted m f ≡ true → is_wide m (bound.norm_of f.left + bound.norm_of f.right + modulus_norm f.modulus) ≡ false
counted_narrow m f e =
    let a = and_parts (not (has_wide_modulus f.modulus) && not (is_great m f) && not (is_deep f)) (not (is_long f)) e in
    let b = and_parts (not (has_wide_modulus f.modulus) && not (is_great m f)) (not (is_deep f)) a.0 in
    let c = and_parts (not (has_wide_modulus f.modulus)) (not (is_great m f)) b.0 in
    not-true (is_great m f) c.1

sides_norm : (f : AlgPred) → norm_of (claim_polynomial (reduced_by None) f) ≤ bound.norm_of f.left + bound.norm_of f.right
sides_norm f =
    let p = polynomial_of (reduced_by None) f.left in
    let q = polynomial_of (reduced_by None) f.right in
    omega (arith, norm_sum p (scaled (reduced_by None) ([], negsuc 0) q), negation_norm q, term_norm f.left, term_norm f.right)

pub congruence_fits : (m : Option ℕ) (f : AlgPred) (parts : List Part) (p : Polynomial) (n : ℤ) → f.modulus ≡ Some parts → n ≡ modulus_value parts → p ≡ claim_polynomial (reduced_by m) f → is_counted m f ≡ true → is_wide m (norm_of p + unsigned_abs n) ≡ false
congruence_fits None f parts p n is value e counted =
    narrower None (bound.norm_of f.left + bound.norm_of f.right + modulus_norm f.modulus) (norm_of p + unsigned_abs n) (counted_narrow None f counted)
    (omega (arith, ap norm_of e, sides_norm f, ap unsigned_abs value, ap modulus_norm is))
congruence_fits (Some m) f parts p n is value e counted = refl
