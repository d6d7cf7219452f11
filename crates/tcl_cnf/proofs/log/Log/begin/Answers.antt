use Rattle.tcl_cnf.proofs.LogLemmas.{log_begun}
use Rattle.tcl_cnf.proofs.log.Log.begin.Goals as goal

pub invariant_of-result : goal.invariant_of-result
invariant_of-result c = (
  log_begun c.args.cnf c.into_clauses-clauses.result.items c.as_slice-given.result.now c.new.result c.known.ensures c.into_clauses-clauses.ensures c.as_slice-given.ensures.value c.new.ensures,
  c.new-2.ensures,
)
