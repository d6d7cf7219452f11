use Rattle.std.proofs.Common.{rules}
use Rattle.tcl_types.specs.Fault.{IsTyped, IsIll}
use Rattle.tcl_types.proofs.Places.{one_fault, no_fault}
use Rattle.tcl_types.proofs.program.check.Goals as goal

pub returns-in-Ok-None-clause-refuses : goal.returns-in-Ok-None-clause-refuses
returns-in-Ok-None-clause-refuses c =
    let typed : IsTyped c.args.parsed = search rules in
    λ n reason ill. no_fault c.args.parsed n reason ill typed

pub returns-in-Ok-Some-clause-accepts : goal.returns-in-Ok-Some-clause-accepts
returns-in-Ok-Some-clause-accepts c =
    let mine : IsIll c.args.parsed c.at.result.now c.in-Ok-Some.line.reason = search rules in
    λ typed. absurd (no_fault c.args.parsed c.at.result.now c.in-Ok-Some.line.reason mine typed)

pub returns-in-Ok-Some-clause-refuses : goal.returns-in-Ok-Some-clause-refuses
returns-in-Ok-Some-clause-refuses c =
    let mine : IsIll c.args.parsed c.at.result.now c.in-Ok-Some.line.reason = search rules in
    λ n reason ill. one_fault c.args.parsed c.at.result.now n c.in-Ok-Some.line.reason reason mine ill
