-- The equation is over the ring and not too deep.
use Rattle.std.proofs.Common.{sym, subst, arith}
use Rattle.tests_member.specs.Begun.{AreBegun}
use Rattle.tests_member.proofs.Beginnings.{equation_pushed}
use Rattle.tests_member.proofs.making.push_equation.Goals as goal

pub returns : goal.returns
returns g c =
    let m = g.R.Ring.modulus_of c.args.ring.now in let value = g.R.Ring.amount c.args.ring.now in
    subst (AreBegun m value c.args.defs.now) (sym c.in_ok-push.ensures.pushed)
    (equation_pushed m value c.args.defs.now c.args.list.now c.args.equation c.requires.begun c.requires.over (omega (arith, c.degree.ensures, c.if-degree-gt1024.false)))
