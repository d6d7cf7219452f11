-- Without a modulus each is looked at.
use Rattle.std.proofs.Common.{◌∙◌, sym, subst}
use Rattle.tcl_pivots.specs.CofactorLists.{equations_of}
use Rattle.tcl_member.specs.Fit.{AreSome}
use Rattle.tcl_member.proofs.fit.are_some.Goals as goal

pub returns-in-None : goal.returns-in-None
returns-in-None g c =
    let value = g.R.Ring.amount c.args.ring.now in
    let es = equations_of value c.args.equations.now in
    let none = sym c.in-None.is ∙ c.modulus.ensures in
    let all = c.are_nonzero.ensures value in (
      λ h. subst (λ z. AreSome z es c.args.definitions) none (all.0 h),
      λ h. all.1 (subst (λ z. AreSome z es c.args.definitions) (sym none) h),
    )
