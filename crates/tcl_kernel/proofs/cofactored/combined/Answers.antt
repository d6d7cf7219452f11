-- The comparison of the claim with the sum of the products is the reason of the lines.
use Rattle.std.proofs.Common.{◌≡◌, ◌∙◌, ℕ, ℤ, Bool, true, List, Option, sym, map}
use Rattle.tcl_poly.specs.Combination.{Terms}
use Rattle.tcl_remainder.specs.declared.lines.CofactorLine.{CofactorLine}
use Rattle.tcl_ring.specs.Reduction.{reduced_by}
use Rattle.tcl_remainder.specs.Lines.{valued, cofactors_of, are_fitting}
use Rattle.tcl_kernel.proofs.CofactorValues.{AreMade, equal_reason, differs_reason, wide_sum_reason}
use Rattle.tcl_kernel.proofs.cofactored.combined.Goals as goal

made : {E : Type 0} (m : Option ℕ) (value : E → ℤ) (es : List (Terms E)) (pairs : List (ℕ × Terms E)) (lines : List CofactorLine) (b : Bool) → b ≡ are_fitting (reduced_by m) es lines → b ≡ true → valued value pairs ≡ cofactors_of (reduced_by m) lines → AreMade m value es pairs lines
made m value es pairs lines b is e same = record { fits = sym is ∙ e; cofactors = same }

pub returns-in-Equal : goal.returns-in-Equal
returns-in-Equal g c =
    let m = g.R.Ring.modulus_of c.args.ring.now in
    let value = g.R.Ring.amount c.args.ring.now in
    let pairs = map (λ x. (x.equation, x.poly)) c.in_ok-cofactors.cofactors in
    let known = made m value c.args.equations.now pairs c.args.lines.now c.are_fitting.result c.are_fitting.ensures.fitting c.if-not-are_fitting.false c.in_ok-cofactors.ensures.cofactors in
    λ f same is. equal_reason m value c.args.equations.now pairs c.args.claim.now c.args.lines.now f known c.in-Equal.ensures.comparison.0 c.in-Equal.ensures.comparison.1 same is

pub returns-in-Differs : goal.returns-in-Differs
returns-in-Differs g c =
    let m = g.R.Ring.modulus_of c.args.ring.now in
    let value = g.R.Ring.amount c.args.ring.now in
    let pairs = map (λ x. (x.equation, x.poly)) c.in_ok-cofactors.cofactors in
    let known = made m value c.args.equations.now pairs c.args.lines.now c.are_fitting.result c.are_fitting.ensures.fitting c.if-not-are_fitting.false c.in_ok-cofactors.ensures.cofactors in
    λ f same is. differs_reason m value c.args.equations.now pairs c.args.claim.now c.args.lines.now f c.in-Differs.field-0 known c.in-Differs.ensures.comparison.0 c.in-Differs.ensures.comparison.1.0 same is

pub returns-in-Wide : goal.returns-in-Wide
returns-in-Wide g c =
    let m = g.R.Ring.modulus_of c.args.ring.now in
    let value = g.R.Ring.amount c.args.ring.now in
    let pairs = map (λ x. (x.equation, x.poly)) c.in_ok-cofactors.cofactors in
    let known = made m value c.args.equations.now pairs c.args.lines.now c.are_fitting.result c.are_fitting.ensures.fitting c.if-not-are_fitting.false c.in_ok-cofactors.ensures.cofactors in
    λ f same is. wide_sum_reason m value c.args.equations.now pairs c.args.claim.now c.args.lines.now f known c.in-Wide.ensures.comparison same is
