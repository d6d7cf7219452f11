use Rattle.tcl_circuits.specs.Circuits.{choose}
use Rattle.tcl_circuits.proofs.Values.{chosen_word}
use Rattle.tcl_circuits.proofs.bitwise.choose.Goals as goal

pub returns-clause-value : goal.returns-clause-value
unfolding choose
returns-clause-value c =
    chosen_word c.args.gates.now c.meet.new.gates c.args.c c.args.a.now c.args.b.now c.in_ok-word.word c.requires.chosen c.requires.first c.requires.second c.in_ok-word.ensures.made c.in_ok-word.ensures.word
