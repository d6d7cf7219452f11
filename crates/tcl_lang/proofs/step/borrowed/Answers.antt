-- The negated floor of a small number fits.
use Rattle.std.proofs.Common.{rules, ◌≡◌, ◌^◌, ℤ, pos, neg_ℤ, ◌-ℤ◌, sym, ap, ◌∙◌, subst, arith, FitsSigned, to_z, of_z, List, [], ◌∷◌}
use Rattle.std.specs.Int.{w128, int_div_euclid, int_rem_euclid}
use Rattle.std.proofs.lemmas.Int.{ints, to_z-of_z}
use Rattle.tcl_lang.proofs.MachineSteps.{floor_fits}
use Rattle.tcl_lang.proofs.step.borrowed.Goals as goal

turned : (x y : ℤ) → x ≡ y → pos 0 -ℤ x ≡ neg_ℤ y
turned x y e = omega (arith, ints, e)

two_same : (x y u v : ℤ) → x ≡ u → y ≡ v → ◌≡◌ {A = List ℤ} (x ∷ y ∷ []) (u ∷ v ∷ [])
two_same x y u v p q = cc

pub overflow_sub-result : goal.overflow_sub-result
overflow_sub-result c =
    let floor : to_z w128 (of_z w128 c.high_part.result) ≡ int_div_euclid c.args.n (pos (2 ^ c.args.k)) = search rules in
    subst (λ z. FitsSigned w128 z) (sym (turned _ _ floor)) (floor_fits c.args.n c.args.k c.requires.small)

pub returns : goal.returns
returns c =
    let floor : to_z w128 (of_z w128 c.high_part.result) ≡ int_div_euclid c.args.n (pos (2 ^ c.args.k)) = search rules in
    let low : to_z w128 (of_z w128 c.lowest_bits.result) ≡ int_rem_euclid c.args.n (pos (2 ^ c.args.k)) = search rules in
    two_same _ _ _ _
    (ap (λ z. to_z w128 (of_z w128 z)) (turned _ _ floor) ∙ to_z-of_z w128 (neg_ℤ (int_div_euclid c.args.n (pos (2 ^ c.args.k)))) (floor_fits c.args.n c.args.k c.requires.small))
    low
