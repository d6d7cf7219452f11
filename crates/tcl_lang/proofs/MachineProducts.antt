-- Products of the values of words fit 128 bits.
use Rattle.std.proofs.Common.{◌≡◌, ℕ, ◌-◌, ◌^◌, ◌≤◌, ◌∙◌, ap, arith, ℤ, pos, ◌*ℤ◌, unsigned_abs, FitsSigned, to_z, of_z}
use Rattle.std.specs.Int.{w128}
use Rattle.std.proofs.lemmas.Int.{ints, to_z-of_z, fits_signed_mul}
use Rattle.std.proofs.Math.Nat.{pow-le-pow_right}
use Rattle.tcl_lang.specs.Operands.{IsWordValue}

pub product_fits : (a b : ℤ) → unsigned_abs a ≤ 2 ^ 63 → unsigned_abs b ≤ 2 ^ 63 → FitsSigned w128 (a *ℤ b)
product_fits a b p q = fits_signed_mul w128 a b (2 ^ 63) (2 ^ 63) p q (omega arith)

pub shift_fits : (n : ℤ) (k : ℕ) → IsWordValue n → k ≤ 63 → FitsSigned w128 (n *ℤ pos (2 ^ k))
shift_fits n k w h =
    let power : 2 ^ k ≤ 2 ^ 63 = pow-le-pow_right {n = 2} (omega arith) {i = k} {j = 63} h in
    let magnitude : unsigned_abs n ≤ 2 ^ 64 - 1 = omega (arith, ints, w.least, w.below) in
    fits_signed_mul w128 n (pos (2 ^ k)) (2 ^ 64 - 1) (2 ^ 63) magnitude power (omega arith)

-- what the machine makes of a product that fits
pub machine_product : (a b x y : ℤ) → x ≡ a → y ≡ b → FitsSigned w128 (a *ℤ b) → to_z w128 (of_z w128 (x *ℤ y)) ≡ a *ℤ b
machine_product a b x y p q f = ap (λ z. to_z w128 (of_z w128 (z *ℤ y))) p ∙ ap (λ z. to_z w128 (of_z w128 (a *ℤ z))) q ∙ to_z-of_z w128 (a *ℤ b) f
