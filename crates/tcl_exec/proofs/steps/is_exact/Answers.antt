-- The operands that are read are those that can be executed, and exactness does not look at the choice.
use Rattle.std.proofs.Common.{rules, ◌≡◌, ◌∙◌, ap, ℤ, pos, List, to_z, of_z}
use Rattle.std.specs.Int.{w128}
use Rattle.tcl_lang.specs.Instruction.{nth}
use Rattle.tcl_lang.specs.Exactness.{is_exact_at}
use Rattle.tcl_lang.specs.Run.{operands_of}
use Rattle.tcl_lang.specs.Values.{operand_values}
use Rattle.tcl_lang.proofs.MachineRuns.{has_operands, operands_same}
use Rattle.tcl_exec.proofs.Stepping.{exact_choice}
use Rattle.tcl_exec.proofs.steps.is_exact.Goals as goal

pub is_exact_at-requires : goal.is_exact_at-requires
is_exact_at-requires c =
    let i = c.args.instr.now in
    let operands : List ℤ = operands_of i.op (operand_values c.args.values.now i.args) (pos 0) in
    let first : to_z w128 (of_z w128 c.operands-operands.result.first) ≡ nth operands 0 = search rules in
    let second : to_z w128 (of_z w128 c.operands-operands.result.second) ≡ nth operands 1 = search rules in
    let third : to_z w128 (of_z w128 c.operands-operands.result.third) ≡ nth operands 2 = search rules in
    operands_same i.op i.ty i.amount (nth operands 0) (nth operands 1) (nth operands 2) _ _ _ first second third
    (has_operands i.op i.ty i.amount operands c.requires)

pub returns : goal.returns
returns c =
    let i = c.args.instr.now in
    let operands : List ℤ = operands_of i.op (operand_values c.args.values.now i.args) (pos 0) in
    let first : to_z w128 (of_z w128 c.operands-operands.result.first) ≡ nth operands 0 = search rules in
    let second : to_z w128 (of_z w128 c.operands-operands.result.second) ≡ nth operands 1 = search rules in
    let third : to_z w128 (of_z w128 c.operands-operands.result.third) ≡ nth operands 2 = search rules in
    c.is_exact_at.ensures
    ∙ ap (λ x. is_exact_at i.op i.ty i.amount x (to_z w128 (of_z w128 c.operands-operands.result.second)) (to_z w128 (of_z w128 c.operands-operands.result.third))) first
    ∙ ap (λ x. is_exact_at i.op i.ty i.amount (nth operands 0) x (to_z w128 (of_z w128 c.operands-operands.result.third))) second
    ∙ ap (λ x. is_exact_at i.op i.ty i.amount (nth operands 0) (nth operands 1) x) third
    ∙ exact_choice i.op i.ty i.amount (operand_values c.args.values.now i.args) (pos 0)
