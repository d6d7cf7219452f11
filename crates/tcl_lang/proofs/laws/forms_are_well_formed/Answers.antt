-- Each law is a lemma.
use Rattle.tcl_lang.proofs.FormFacts.{well_formed}
use Rattle.tcl_lang.proofs.FormEnds.{defined_at, reads_before}
use Rattle.tcl_lang.proofs.laws.forms_are_well_formed.Goals as goal

pub returns-clause-formed : goal.returns-clause-formed
returns-clause-formed c = well_formed

pub returns-clause-defined : goal.returns-clause-defined
returns-clause-defined c = defined_at

pub returns-clause-reads : goal.returns-clause-reads
returns-clause-reads c = reads_before
