-- Each law is a lemma.
use Rattle.tcl_lang.proofs.ValueWalks.{operands_read, size_static, narrow_values, step_executed, recomputed_typed, recomputed_executed}
use Rattle.tcl_lang.proofs.laws.values_walk.Goals as goal

pub returns-clause-operands : goal.returns-clause-operands
returns-clause-operands c = operands_read

pub returns-clause-sizes : goal.returns-clause-sizes
returns-clause-sizes c = size_static

pub returns-clause-narrow : goal.returns-clause-narrow
returns-clause-narrow c = narrow_values

pub returns-clause-executed : goal.returns-clause-executed
returns-clause-executed c = step_executed

pub returns-clause-typed : goal.returns-clause-typed
returns-clause-typed c = recomputed_typed

pub returns-clause-anew : goal.returns-clause-anew
returns-clause-anew c = recomputed_executed
