-- Operands are read from the values as from their words.
use Rattle.std.proofs.Common.{◌∙◌, sym, ap, ℤ, List, []}
use Rattle.tcl_lang.specs.Program.{VersionedProgram}
use Rattle.tcl_lang.specs.Exactness.{is_exact}
use Rattle.tcl_lang.proofs.ValueWalks.{operands_read}
use Rattle.tcl_exec.proofs.truth.instruction_truth.Goals as goal

pub returns : goal.returns
returns c =
    let f : VersionedProgram = record { variables = c.args.variables.now; lines = [] } in
    let i = c.args.instr.now in
    c.is_exact.ensures ∙ ap (λ (ns : List ℤ). is_exact i.op i.ty i.amount ns) (sym (operands_read f c.args.values.now i.args c.requires.values))
