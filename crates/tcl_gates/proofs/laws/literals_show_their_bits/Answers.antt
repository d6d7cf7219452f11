use Rattle.std.proofs.Common.{sym}
use Rattle.tcl_gates.proofs.Shown.{shows_own, shows_bits, shows_within}
use Rattle.tcl_gates.proofs.laws.literals_show_their_bits.Goals as goal

pub returns-clause-own : goal.returns-clause-own
returns-clause-own c = shows_own

pub returns-clause-only : goal.returns-clause-only
returns-clause-only c = λ gates free ls bits s. sym (shows_bits s)

pub returns-clause-within : goal.returns-clause-within
returns-clause-within c = λ gates free ls bits s. shows_within s
