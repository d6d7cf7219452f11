-- The operands that are read are those that can be executed.
use Rattle.std.proofs.Common.{rules, ◌≡◌, ℤ, List, to_z, of_z, subst}
use Rattle.std.specs.Int.{w128}
use Rattle.tcl_lang.specs.declared.instr.Op.{Op}
use Rattle.tcl_lang.specs.Instruction.{nth}
use Rattle.tcl_lang.specs.Operands.{IsExecutable}
use Rattle.tcl_lang.specs.Run.{operands_of}
use Rattle.tcl_lang.specs.Values.{operand_values}
use Rattle.tcl_lang.proofs.MachineRuns.{has_operands, operands_same}
use Rattle.tcl_exec.proofs.steps.execute_as.Goals as goal

pub results-computed-requires : goal.results-computed-requires
results-computed-requires c =
    let i = c.args.instr.now in
    let op = c.args.op in
    let read : List ℤ = operand_values c.args.values.now i.args in
    let operands : List ℤ = operands_of op read c.args.choice in
    let executable : IsExecutable op i.ty i.amount operands =
    subst (λ (o : Op). IsExecutable o i.ty i.amount (operands_of o read c.args.choice)) c.requires.operation c.requires.executable in
    let first : to_z w128 (of_z w128 c.operand-first.result) ≡ nth operands 0 = search rules in
    let second : to_z w128 (of_z w128 c.operand-second.result) ≡ nth operands 1 = search rules in
    let third : to_z w128 (of_z w128 c.operand-third.result) ≡ nth operands 2 = search rules in
    operands_same op i.ty i.amount (nth operands 0) (nth operands 1) (nth operands 2) _ _ _ first second third
    (has_operands op i.ty i.amount operands executable)
