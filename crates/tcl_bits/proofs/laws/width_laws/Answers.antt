use Rattle.tcl_bits.proofs.Signs.{extension_law}
use Rattle.tcl_bits.proofs.Widths.{extended_word, take_word, split_word, join_word, shifted_word}
use Rattle.tcl_bits.proofs.Cuts.{unsigned-take, unsigned-drop}
use Rattle.tcl_bits.proofs.ExactResults.{shift_full}
use Rattle.tcl_bits.proofs.laws.width_laws.Goals as goal

pub returns-clause-extended : goal.returns-clause-extended
returns-clause-extended c = extension_law

pub returns-clause-at_another_width : goal.returns-clause-at_another_width
returns-clause-at_another_width c = extended_word

pub returns-clause-low_bits : goal.returns-clause-low_bits
returns-clause-low_bits c = take_word

pub returns-clause-cut_low : goal.returns-clause-cut_low
returns-clause-cut_low c = unsigned-take

pub returns-clause-cut_high : goal.returns-clause-cut_high
returns-clause-cut_high c = unsigned-drop

pub returns-clause-split : goal.returns-clause-split
returns-clause-split c = split_word

pub returns-clause-join : goal.returns-clause-join
returns-clause-join c = join_word

pub returns-clause-shifted : goal.returns-clause-shifted
returns-clause-shifted c = shifted_word

pub returns-clause-fully_shifted : goal.returns-clause-fully_shifted
returns-clause-fully_shifted c = shift_full
