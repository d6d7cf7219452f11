-- The place comes after the others, and the polynomial is over the ring.
use Rattle.std.proofs.Common.{rules, sym, subst, List}
use Rattle.tcl_ring.specs.Reduction as r
use Rattle.tcl_reduce.specs.Answer.{definitions_of}
use Rattle.tcl_reduce.specs.Definitions.{Defined}
use Rattle.tcl_reduce.specs.Remainder.{AreDefinitions}
use Rattle.tcl_reduce.proofs.DefinitionLists.{definitions_pushed}
use Rattle.tests_rings.proofs.reduction.define.Goals as goal

pub push-requires : goal.push-requires
push-requires g c = c.is_later.ensures (search rules) c.args.variable c.args.poly

pub returns : goal.returns
returns g c =
    let m = g.R.Ring.modulus_of c.args.ring.now in let value = g.R.Ring.amount c.args.ring.now in
    let P : List (Defined _) → Type 0 = λ z. AreDefinitions (r.reduced_by m) (definitions_of value z) in
    subst P (sym c.in_ok-push.ensures.pushed) (definitions_pushed m value c.args.defs.now (c.args.place, c.args.variable, c.args.poly) c.requires.definitions c.requires.over)
