-- The operands that are read are those that can be executed.
use Rattle.std.proofs.Common.{rules, ◌≡◌, to_z, of_z}
use Rattle.std.specs.Int.{w128}
use Rattle.tcl_lang.specs.Instruction.{nth}
use Rattle.tcl_lang.proofs.MachineRuns.{has_operands, operands_same}
use Rattle.tcl_lang.proofs.exactness.is_exact.Goals as goal

pub is_exact_at-requires : goal.is_exact_at-requires
is_exact_at-requires c =
    let operands = c.args.operands.now in
    let first : to_z w128 (of_z w128 c.value_at.result) ≡ nth operands 0 = search rules in
    let second : to_z w128 (of_z w128 c.value_at-2.result) ≡ nth operands 1 = search rules in
    let third : to_z w128 (of_z w128 c.value_at-3.result) ≡ nth operands 2 = search rules in
    operands_same c.args.op c.args.ty c.args.amount (nth operands 0) (nth operands 1) (nth operands 2) _ _ _ first second third
    (has_operands c.args.op c.args.ty c.args.amount operands c.requires)
