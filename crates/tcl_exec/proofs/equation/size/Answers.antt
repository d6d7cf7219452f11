-- The size over words of values is the size over the types of their variables.
use Rattle.std.proofs.Common.{◌+◌, sym, ◌∙◌, ap, [], min}
use Rattle.tcl_lang.specs.Program.{VersionedProgram}
use Rattle.tcl_lang.specs.Bound.{size_in, size_of, size_end}
use Rattle.tcl_lang.specs.Values.{types_of, words_of}
use Rattle.tcl_lang.proofs.ValueWalks.{size_static}
use Rattle.tcl_exec.proofs.equation.size.Goals as goal

pub returns : goal.returns
returns c =
    let f : VersionedProgram = record { variables = c.args.variables.now; lines = [] } in
    let S = words_of c.args.variables.now c.args.values.now in
    let Ts = types_of c.args.variables.now in
    let left = c.args.pred.now.left in
    let right = c.args.pred.now.right in
    c.equation_size.ensures
    ∙ ap (λ n. min (n + size_of Ts right) size_end) (sym (size_static f c.args.values.now left c.requires))
    ∙ ap (λ n. min (size_in S left + n) size_end) (sym (size_static f c.args.values.now right c.requires))
