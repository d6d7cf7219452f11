-- Each law is a lemma.
use Rattle.tcl_kernel.proofs.ModelStrays.{whole_is, piece_is, models_stray}
use Rattle.tcl_kernel.proofs.laws.models_stray.Goals as goal

pub returns-clause-whole : goal.returns-clause-whole
returns-clause-whole c = whole_is

pub returns-clause-pieces : goal.returns-clause-pieces
returns-clause-pieces c = piece_is

pub returns-clause-stray : goal.returns-clause-stray
returns-clause-stray c = models_stray
