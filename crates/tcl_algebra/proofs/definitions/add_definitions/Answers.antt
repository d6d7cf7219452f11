-- The definition of one use more.
use Rattle.std.proofs.Common.{◌<◌, length, arith}
use Rattle.tcl_algebra.specs.Equations.{definition_at}
use Rattle.tcl_algebra.proofs.DefinitionLists.{definitions_more, equations_more}
use Rattle.tcl_algebra.proofs.definitions.add_definitions.Goals as goal

pub loop-k-preserved : goal.loop-k-preserved
loop-k-preserved g c =
    let m = g.R.Ring.modulus_of c.args.ring.now in
    let value = g.R.Ring.amount c.args.ring.now in
    let uses = c.as_slice-uses.result.now in
    let k = c.loop-k.k in
    let f = definition_at m c.args.ssa.now c.as_slice-hyps.result.now in
    let old = c.args.rows.now in
    let new = c.add_definition.new.rows in
    let within : k < length uses = omega arith in record {
      found = definitions_more value f uses k 0 c.loop-k.definitions c.add_definition.new.definitions within c.loop-k.invariant.found c.in_ok-add_definition.ensures.definitions;
      added =
          equations_more m value f uses k 0 old.list c.loop-k.rows.list new.list old.places c.loop-k.rows.places new.places within
          c.loop-k.invariant.added c.in_ok-add_definition.ensures.rows;
    }
