use Rattle.tcl_bits.proofs.Sums.{adder_law, difference_law, negation_law}
use Rattle.tcl_bits.proofs.Values.{unsigned-flipped}
use Rattle.tcl_bits.proofs.Words.{sum_word, difference_word, negation_word, flipped_word}
use Rattle.tcl_bits.proofs.laws.sum_laws.Goals as goal

pub returns-clause-sum : goal.returns-clause-sum
returns-clause-sum c = adder_law

pub returns-clause-difference : goal.returns-clause-difference
returns-clause-difference c = difference_law

pub returns-clause-negation : goal.returns-clause-negation
returns-clause-negation c = negation_law

pub returns-clause-flipped : goal.returns-clause-flipped
returns-clause-flipped c = unsigned-flipped

pub returns-clause-sum_of_words : goal.returns-clause-sum_of_words
returns-clause-sum_of_words c = sum_word

pub returns-clause-difference_of_words : goal.returns-clause-difference_of_words
returns-clause-difference_of_words c = difference_word

pub returns-clause-negated_word : goal.returns-clause-negated_word
returns-clause-negated_word c = negation_word

pub returns-clause-flipped_word : goal.returns-clause-flipped_word
returns-clause-flipped_word c = flipped_word
