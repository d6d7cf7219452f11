-- One more gate, and its literal.
use Rattle.std.proofs.Common.{◌+◌, length, sym, ◌∙◌}
use Rattle.std.proofs.lemmas.List.{append-nil}
use Rattle.tcl_blast.proofs.Loops.{lits_none, gates_more, lit_more}
use Rattle.tcl_blast.proofs.begin.free_lits.Goals as goal

pub loop-bit-init : goal.loop-bit-init
loop-bit-init c = (sym (append-nil c.args.gates.now), c.new-lits.ensures ∙ sym (lits_none (length c.args.gates.now + 1)))

pub loop-bit-preserved : goal.loop-bit-preserved
loop-bit-preserved c = (
  gates_more c.args.gates.now c.loop-bit.gates c.push.new.self c.loop-bit.bit c.loop-bit.invariant.0 c.in_ok-lit.ensures.pushed,
  lit_more c.args.gates.now c.loop-bit.gates c.loop-bit.lits c.push-in-loop-bit.new.self c.in_ok-lit.lit c.loop-bit.bit c.loop-bit.invariant.0 c.loop-bit.invariant.1 c.in_ok-lit.ensures.literal c.in_ok-push.ensures.pushed,
)
