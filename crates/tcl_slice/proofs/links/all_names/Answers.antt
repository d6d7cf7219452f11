-- One line more.
use Rattle.std.proofs.Common.{◌∙◌, ◌+◌, ◌++◌, ◌∷◌, [], ap, map, drop}
use Rattle.tcl_lang.specs.Names.{used_names}
use Rattle.tcl_slice.proofs.Joining.{names_more}
use Rattle.tcl_slice.proofs.links.all_names.Goals as goal

pub loop-k-preserved : goal.loop-k-preserved
loop-k-preserved c =
    let lines = c.args.lines.now in
    let k = c.loop-k.k in
    ap (λ ns. ns ++ map used_names (drop (k + 1) lines)) (c.in_ok-push.ensures.pushed ∙ ap (λ n. c.loop-k.names ++ n ∷ []) c.in_ok-names_of.ensures)
    ∙ names_more lines k c.at.result.now c.loop-k.names (map used_names lines) c.at.ensures c.loop-k.invariant
