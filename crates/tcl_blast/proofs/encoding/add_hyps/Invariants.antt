-- The hypotheses so far have their gates and clauses.
use Rattle.std.proofs.Common.{◌≡◌, fold, take}
use Rattle.tcl_blast.specs.Clauses.{with_hyp, used_of}
use Rattle.tcl_blast.proofs.encoding.add_hyps.Given as goal

abbrev pub invariant-loop-k : goal.invariant-loop-k
invariant-loop-k g l =
    l.blasted
    ≡ fold (with_hyp l.ssa (g.L.LineCircuits.handler l.circuits l.ssa) l.lemmas.items) (used_of l.ssa l.lemmas.items l.fact) (take l.k l.fact.hyps)
