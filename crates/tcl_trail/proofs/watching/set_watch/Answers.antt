use Rattle.std.proofs.Common.{refl, arith, ◌<◌, length, slice_set}
use Rattle.tcl_trail.proofs.Reblocking.{reblocked_set}
use Rattle.tcl_trail.proofs.watching.set_watch.Goals as goal

pub returns-then-l-len : goal.returns-then-l-len
returns-then-l-len c =
    let old = c.args.lists.now in
    reblocked_set old.items (slice_set old.items c.args.l c.put.new.self) c.args.l c.args.i c.index_mut-list.result.now c.put.new.self c.args.watch c.requires (omega (arith, c.len.ensures, old.ok.0, c.if-l-len.true))
    c.index_mut-list.ensures.value c.put.ensures refl
