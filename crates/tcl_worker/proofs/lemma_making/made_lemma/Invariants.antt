-- The candidates before this one are passed over, and the port did not cancel.
use Rattle.std.proofs.Common.{◌≡◌}
use Rattle.tcl_worker.specs.Lemmas.{ArePassedOver}
use Rattle.tcl_worker.specs.SearchEnds.{NeverFell}
use Rattle.tcl_worker.proofs.lemma_making.made_lemma.Given as goal

abbrev pub invariant-loop-k : goal.invariant-loop-k
invariant-loop-k g l = record {
  over : ArePassedOver l.ssa l.budget l.lemmas.items l.fact l.k;
  cancels : g.P.Port.cancels l.port ≡ g.P.Port.cancels l.fn.port;
  polls : NeverFell (g.P.Port.polls l.fn.port) (g.P.Port.polls l.port);
}
