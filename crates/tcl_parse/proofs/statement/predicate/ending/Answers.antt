use Rattle.tcl_parse.proofs.StatementPredicates.{nothing_there}
use Rattle.tcl_parse.proofs.statement.predicate.ending.Goals as goal

pub returns-in_default : goal.returns-in_default
returns-in_default c = record { exact = nothing_there c.in_default.ensures }
