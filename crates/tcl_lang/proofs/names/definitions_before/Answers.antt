-- One line more, whose definitions are within all.
use Rattle.std.proofs.Common.{arith}
use Rattle.tcl_lang.proofs.Definitions.{definitions_more, definitions_within}
use Rattle.tcl_lang.proofs.names.definitions_before.Goals as goal

pub overflow_add-count : goal.overflow_add-count
overflow_add-count c =
    omega (arith, c.requires.few, definitions_within c.args.lines.now c.loop-k.k c.loop-k.count c.defined_count.result c.index-lines-k.result c.index-lines-k.result (omega (arith, c.loop-k-test.true, c.requires.within)) c.loop-k.invariant c.index-lines-k.is c.defined_count.ensures)

pub loop-k-preserved : goal.loop-k-preserved
loop-k-preserved c =
    definitions_more c.args.lines.now c.loop-k.k c.loop-k.count c.defined_count.result c.index-lines-k.result c.index-lines-k.result (omega (arith, c.loop-k-test.true, c.requires.within)) c.loop-k.invariant c.index-lines-k.is c.defined_count.ensures
