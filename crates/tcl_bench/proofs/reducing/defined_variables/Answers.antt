-- The places rise by one, and each polynomial is over the ring.
use Rattle.std.proofs.Common.{rules, arith, sym, subst, List, [], ◌∷◌, ◌++◌}
use Rattle.tcl_ring.specs.Reduction as r
use Rattle.tcl_reduce.specs.Answer.{definitions_of}
use Rattle.tcl_reduce.specs.Definitions.{Defined, AreRising}
use Rattle.tcl_reduce.specs.Remainder.{AreDefinitions}
use Rattle.tcl_reduce.proofs.DefinitionLists.{definitions_pushed}
use Rattle.tcl_bench.proofs.Rising.{next_rises}
use Rattle.tcl_bench.proofs.reducing.defined_variables.Goals as goal

pub loop-place-init : goal.loop-place-init
loop-place-init g c = (
  search rules,
  λ x h. subst (λ (z : List (Defined _)). AreRising (z ++ x ∷ [])) (sym c.new-defs.ensures) (h, tt),
)

pub push-requires : goal.push-requires
push-requires g c = c.loop-place.invariant.1 (c.loop-place.place, c.saturating_add.result, c.in_ok-poly.poly) (omega arith)

pub loop-place-preserved : goal.loop-place-preserved
loop-place-preserved g c =
    let m = g.R.Ring.modulus_of c.args.ring.now in let value = g.R.Ring.amount c.args.ring.now in let list = c.loop-place.defs in
    let y : Defined _ = (c.loop-place.place, c.saturating_add.result, c.in_ok-poly.poly) in
    let P : List (Defined _) → Type 0 = λ z. AreDefinitions (r.reduced_by m) (definitions_of value z) in (
      subst P (sym c.in_ok-push.ensures.pushed) (definitions_pushed m value list y c.loop-place.invariant.0 c.in_ok-poly.ensures),
      λ x h.
          subst (λ (z : List (Defined _)). AreRising (z ++ x ∷ [])) (sym c.in_ok-push.ensures.pushed) (next_rises 0 list y x (c.loop-place.invariant.1 y (omega arith)) (omega arith)),
    )
