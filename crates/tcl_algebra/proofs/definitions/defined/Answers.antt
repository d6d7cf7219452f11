-- The equation fits where its bound does.
use Rattle.std.proofs.Common.{◌≡◌, ◌∙◌, sym, ap, false}
use Rattle.tcl_ring.specs.Reduction.{is_wide}
use Rattle.tcl_poly.specs.Polynomial as p
use Rattle.tcl_poly.proofs.Norms.{wide_saturated}
use Rattle.tcl_algebra.specs.Equations.{definition_norm}
use Rattle.tcl_algebra.proofs.DefinitionNorms.{equation_fits}
use Rattle.tcl_algebra.proofs.definitions.defined.Goals as goal

pub equation-requires-clause-fits : goal.equation-requires-clause-fits
equation-requires-clause-fits g c =
    let m = g.R.Ring.modulus_of c.args.ring.now in
    let value = g.R.Ring.amount c.args.ring.now in
    let variables = c.args.variables.now in
    let i = c.args.instr.now in
    let t = c.args.term.now in
    let n = definition_norm variables i t in
    let fits : is_wide m n ≡ false = sym (wide_saturated m n) ∙ ap (is_wide m) (sym c.definition_norm.ensures) ∙ sym c.is_wide.ensures ∙ c.if-is_wide.false in
    equation_fits m variables c.args.place i t (p.terms_of value c.in_ok-poly.poly) c.in_ok-poly.ensures.value fits
