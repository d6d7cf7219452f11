-- The laws are lemmas.
use Rattle.tcl_kernel.proofs.Soundness.{bounds_sound, enumeration_sound, log_sound, checks_sound}
use Rattle.tcl_kernel.proofs.Cofactors.{cofactors_sound}
use Rattle.tcl_kernel.proofs.CaseLists.{cases_sound}
use Rattle.tcl_kernel.proofs.CitedLists.{stands_cited}
use Rattle.tcl_kernel.proofs.laws.certificates_are_sound.Goals as goal

pub returns-clause-bounds : goal.returns-clause-bounds
returns-clause-bounds c = bounds_sound

pub returns-clause-enumeration : goal.returns-clause-enumeration
returns-clause-enumeration c = enumeration_sound

pub returns-clause-logs : goal.returns-clause-logs
returns-clause-logs c = log_sound

pub returns-clause-cofactors : goal.returns-clause-cofactors
returns-clause-cofactors c = cofactors_sound

pub returns-clause-cases : goal.returns-clause-cases
returns-clause-cases c = λ p earlier fact items. cases_sound p earlier.lemmas earlier.facts fact items

pub returns-clause-checks : goal.returns-clause-checks
returns-clause-checks c = checks_sound

pub returns-clause-cited : goal.returns-clause-cited
returns-clause-cited c = stands_cited
