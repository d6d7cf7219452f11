-- What the type of equations keeps follows from what they are.
use Rattle.std.proofs.Common.{◌∙◌, ap}
use Rattle.std.specs.List.{list_all}
use Rattle.std.proofs.lemmas.Bool.{and_parts}
use Rattle.tcl_reduce.specs.Answer.{definitions_of}
use Rattle.tcl_goals.specs.Numbers.{numbers_rise}
use Rattle.tcl_goals.specs.Keys.{claim_place}
use Rattle.tcl_goals.specs.Order.{is_step_before}
use Rattle.tcl_algebra.specs.Equations as equations
use Rattle.tcl_algebra.proofs.EquationsFit.{equations_fit}
use Rattle.tcl_algebra.proofs.DefinitionLists.{definitions_rise}
use Rattle.tcl_algebra.proofs.EquationLists.{list_over, list_shallow, list_begins, definitions_over, claim_shallow}
use Rattle.tcl_algebra.proofs.of_fact.of_claim.Goals as goal

pub of-defs-requires : goal.of-defs-requires
of-defs-requires g c =
    let m = g.R.Ring.modulus_of c.args.ring.now in
    let value = g.R.Ring.amount c.args.ring.now in
    let p = c.args.ssa.now in
    let fact = c.args.fact.now in
    let rise = and_parts (numbers_rise fact.uses) (list_all (is_step_before p.lines (claim_place p.lines fact.claim)) fact.uses) c.requires.uses in
    definitions_rise m value p fact.hyps fact.uses c.in_ok-definitions.field-0.definitions c.in_ok-definitions.ensures.definitions rise.0

pub of-requires-clause-shallow : goal.of-requires-clause-shallow
of-requires-clause-shallow g c =
    let m = g.R.Ring.modulus_of c.args.ring.now in
    let value = g.R.Ring.amount c.args.ring.now in
    let p = c.args.ssa.now in
    let fact = c.args.fact.now in
    list_shallow m value c.in_ok-definitions.field-0.rows.list (equations.equations_of m p c.args.lemmas.now.items fact)
    (equations_fit m (g.met.R.Ring.is_modulus c.args.ring.now) p c.args.lemmas.now.items fact) c.in_ok-definitions.ensures.rows.list

pub of-requires-clause-over : goal.of-requires-clause-over
of-requires-clause-over g c =
    let m = g.R.Ring.modulus_of c.args.ring.now in
    let value = g.R.Ring.amount c.args.ring.now in
    let p = c.args.ssa.now in
    let fact = c.args.fact.now in
    list_over m value c.in_ok-definitions.field-0.rows.list (equations.equations_of m p c.args.lemmas.now.items fact)
    (equations_fit m (g.met.R.Ring.is_modulus c.args.ring.now) p c.args.lemmas.now.items fact) c.in_ok-definitions.ensures.rows.list

pub of-requires-clause-definitions : goal.of-requires-clause-definitions
of-requires-clause-definitions g c =
    let m = g.R.Ring.modulus_of c.args.ring.now in
    let value = g.R.Ring.amount c.args.ring.now in
    definitions_over m (g.met.R.Ring.is_modulus c.args.ring.now) c.args.ssa.now c.args.fact.now (definitions_of value c.of-defs.result)
    (ap (definitions_of value) c.of-defs.ensures ∙ c.in_ok-definitions.ensures.definitions)

pub of-requires-clause-begins : goal.of-requires-clause-begins
of-requires-clause-begins g c =
    let m = g.R.Ring.modulus_of c.args.ring.now in
    let value = g.R.Ring.amount c.args.ring.now in
    list_begins m value c.args.ssa.now c.args.lemmas.now.items c.args.fact.now (definitions_of value c.of-defs.result) c.in_ok-definitions.field-0.rows.list
    (ap (definitions_of value) c.of-defs.ensures ∙ c.in_ok-definitions.ensures.definitions) c.in_ok-definitions.ensures.rows.list

pub of-requires-clause-claim_shallow : goal.of-requires-clause-claim_shallow
of-requires-clause-claim_shallow g c =
    claim_shallow (g.R.Ring.modulus_of c.args.ring.now) (g.met.R.Ring.is_modulus c.args.ring.now) (g.R.Ring.amount c.args.ring.now)
    c.in_ok-polynomial.polynomial c.args.claim.now c.requires.degree c.in_ok-polynomial.ensures.polynomial
