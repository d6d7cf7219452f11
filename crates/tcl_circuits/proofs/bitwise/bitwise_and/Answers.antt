use Rattle.tcl_circuits.specs.Circuits.{bitwise_and}
use Rattle.tcl_circuits.proofs.Values.{and_word}
use Rattle.tcl_circuits.proofs.bitwise.bitwise_and.Goals as goal

pub returns-clause-value : goal.returns-clause-value
unfolding bitwise_and
returns-clause-value c = and_word c.args.gates.now c.meet.new.gates c.args.a.now c.args.b.now c.in_ok-word.word c.requires.first c.requires.second c.in_ok-word.ensures.made c.in_ok-word.ensures.word
