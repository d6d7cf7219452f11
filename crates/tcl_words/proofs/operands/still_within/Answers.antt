use Rattle.tcl_words.proofs.Parts.{all_within_grown}
use Rattle.tcl_words.proofs.operands.still_within.Goals as goal

pub returns : goal.returns
returns c = all_within_grown _ _ c.args.words.now c.requires.fewer c.requires.within
