-- Each law is a lemma.
use Rattle.tcl_goals.proofs.LongerLists.{order_extends, holds_extends, appended_extends}
use Rattle.tcl_goals.proofs.laws.longer_lists_keep_facts.Goals as goal

pub returns-clause-order : goal.returns-clause-order
returns-clause-order c = order_extends

pub returns-clause-truth : goal.returns-clause-truth
returns-clause-truth c = holds_extends

pub returns-clause-appended : goal.returns-clause-appended
returns-clause-appended c = appended_extends
