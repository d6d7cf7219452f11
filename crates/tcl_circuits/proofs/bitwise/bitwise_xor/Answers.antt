use Rattle.tcl_circuits.specs.Circuits.{bitwise_xor}
use Rattle.tcl_circuits.proofs.Values.{xor_word}
use Rattle.tcl_circuits.proofs.bitwise.bitwise_xor.Goals as goal

pub returns-clause-value : goal.returns-clause-value
unfolding bitwise_xor
returns-clause-value c = xor_word c.args.gates.now c.meet.new.gates c.args.a.now c.args.b.now c.in_ok-word.word c.requires.first c.requires.second c.in_ok-word.ensures.made c.in_ok-word.ensures.word
