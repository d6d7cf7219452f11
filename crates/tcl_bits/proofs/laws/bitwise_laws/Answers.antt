use Rattle.tcl_bits.proofs.Bitwise.{and_law, or_law, xor_law, choice_law}
use Rattle.tcl_bits.proofs.Words.{and_word, or_word, xor_word}
use Rattle.tcl_bits.proofs.laws.bitwise_laws.Goals as goal

pub returns-clause-and : goal.returns-clause-and
returns-clause-and c = and_law

pub returns-clause-or : goal.returns-clause-or
returns-clause-or c = or_law

pub returns-clause-xor : goal.returns-clause-xor
returns-clause-xor c = xor_law

pub returns-clause-and_of_words : goal.returns-clause-and_of_words
returns-clause-and_of_words c = and_word

pub returns-clause-or_of_words : goal.returns-clause-or_of_words
returns-clause-or_of_words c = or_word

pub returns-clause-xor_of_words : goal.returns-clause-xor_of_words
returns-clause-xor_of_words c = xor_word

pub returns-clause-choice : goal.returns-clause-choice
returns-clause-choice c = choice_law
