-- The definitions of the uses before this one are found, and their equations added.
use Rattle.std.proofs.Common.{◌≡◌, filter_map, take}
use Rattle.tcl_reduce.specs.Answer.{definitions_of}
use Rattle.tcl_algebra.specs.Equations.{definition_at, definition_equations}
use Rattle.tcl_algebra.specs.Defined.{triples_of}
use Rattle.tcl_algebra.specs.Held.{IsAdded}
use Rattle.tcl_algebra.proofs.definitions.add_definitions.Given as goal

abbrev pub invariant-loop-k : goal.invariant-loop-k
invariant-loop-k g l = record {
  found : definitions_of (g.R.Ring.amount l.ring) (triples_of l.definitions) ≡ filter_map (definition_at (g.R.Ring.modulus_of l.ring) l.ssa l.hyps) (take l.k l.uses);
  added : IsAdded (g.R.Ring.amount l.ring) l.fn.rows.list l.rows.list l.fn.rows.places l.rows.places (definition_equations (g.R.Ring.modulus_of l.ring) (filter_map (definition_at (g.R.Ring.modulus_of l.ring) l.ssa l.hyps) (take l.k l.uses)));
}
