-- Each law is a lemma.
use Rattle.tcl_enum.proofs.Decisions.{all_decides, fails_refutes, wide_decides}
use Rattle.tcl_enum.proofs.laws.walks_decide.Goals as goal

pub returns-clause-all : goal.returns-clause-all
returns-clause-all c = all_decides

pub returns-clause-fails : goal.returns-clause-fails
returns-clause-fails c = fails_refutes

pub returns-clause-wide : goal.returns-clause-wide
returns-clause-wide c = wide_decides
