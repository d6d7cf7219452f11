-- A negation fits where what is negated does.
use Rattle.std.proofs.Common.{◌≡◌, ◌+◌, ◌≤◌, refl, ap, arith, false, [], negsuc, Option, Some, None}
use Rattle.std.specs.Prelude.{ℕ}
use Rattle.std.proofs.lemmas.Int.{ints}
use Rattle.tcl_ring.specs.Reduction.{reduced_by, is_wide}
use Rattle.tcl_poly.specs.Polynomial.{Polynomial, scaled, norm_of}
use Rattle.tcl_poly.proofs.Norms.{narrower, norm_scaled}

pub negation_norm : (p : Polynomial) → norm_of (scaled (reduced_by None) ([], negsuc 0) p) ≤ norm_of p
negation_norm p = omega (arith, ints, norm_scaled ([], negsuc 0) p)

pub negation_fits : (m : Option ℕ) (a b n : Polynomial) → n ≡ scaled (reduced_by m) ([], negsuc 0) b → is_wide m (norm_of a + norm_of b) ≡ false → is_wide m (norm_of a + norm_of n) ≡ false
negation_fits None a b n e fits =
    narrower None (norm_of a + norm_of b) (norm_of a + norm_of n) fits (omega (arith, ap norm_of e, negation_norm b))
negation_fits (Some m) a b n e fits = refl
