use Rattle.tcl_bits.proofs.Values.{unsigned_below}
use Rattle.tcl_bits.proofs.Words.{word_in_range, pattern_law, word_wraps}
use Rattle.tcl_bits.proofs.Ranges.{same_word}
use Rattle.tcl_bits.proofs.Cuts.{unsigned-number_bits}
use Rattle.tcl_bits.proofs.Widths.{number_bits_of, constant_word}
use Rattle.tcl_bits.proofs.laws.value_laws.Goals as goal

pub returns-clause-unsigned_range : goal.returns-clause-unsigned_range
returns-clause-unsigned_range c = unsigned_below

pub returns-clause-word_range : goal.returns-clause-word_range
returns-clause-word_range c = word_in_range

pub returns-clause-pattern : goal.returns-clause-pattern
returns-clause-pattern c = pattern_law

pub returns-clause-same_bits : goal.returns-clause-same_bits
returns-clause-same_bits c = same_word

pub returns-clause-lowest_bits : goal.returns-clause-lowest_bits
returns-clause-lowest_bits c = unsigned-number_bits

pub returns-clause-own_bits : goal.returns-clause-own_bits
returns-clause-own_bits c = number_bits_of

pub returns-clause-constant : goal.returns-clause-constant
returns-clause-constant c = constant_word

pub returns-clause-wrapped_bits : goal.returns-clause-wrapped_bits
returns-clause-wrapped_bits c = word_wraps
