use Rattle.tcl_text.specs.Reading.{FirstFault, program_of}
use Rattle.tcl_parse.specs.TextProgress.{progress_of, IsWhole}
use Rattle.tcl_parse.proofs.TextAnswers.{program_text, faulty_text}
use Rattle.tcl_parse.proofs.text.parser.parse.Goals as goal

pub returns-in-Ok-Ok-clause-accepts : goal.returns-in-Ok-Ok-clause-accepts
returns-in-Ok-Ok-clause-accepts c =
    let whole : IsWhole c.args.bytes.now c.read.new.progress = rw c.in-Ok-Ok.field-0-is at c.in-Ok-Ok.ensures in
    (program_text c.args.bytes.now (program_of (progress_of c.read.new.progress)) c.program_of_text-answer.result whole.reads c.program_of_text-answer.ensures).accepts

pub returns-in-Ok-Ok-clause-refuses : goal.returns-in-Ok-Ok-clause-refuses
returns-in-Ok-Ok-clause-refuses c =
    let whole : IsWhole c.args.bytes.now c.read.new.progress = rw c.in-Ok-Ok.field-0-is at c.in-Ok-Ok.ensures in
    (program_text c.args.bytes.now (program_of (progress_of c.read.new.progress)) c.program_of_text-answer.result whole.reads c.program_of_text-answer.ensures).refuses

pub returns-in-Ok-Err-clause-fault : goal.returns-in-Ok-Err-clause-fault
returns-in-Ok-Err-clause-fault c =
    let first : FirstFault c.args.bytes.now c.in-Ok-Err.fault = rw c.in-Ok-Err.field-0-is at c.in-Ok-Err.ensures in
    rw c.refusal_of.ensures (faulty_text c.args.bytes.now c.in-Ok-Err.fault first).fault

pub returns-in-Ok-Err-clause-accepts : goal.returns-in-Ok-Err-clause-accepts
returns-in-Ok-Err-clause-accepts c =
    let first : FirstFault c.args.bytes.now c.in-Ok-Err.fault = rw c.in-Ok-Err.field-0-is at c.in-Ok-Err.ensures in
    rw c.refusal_of.ensures (faulty_text c.args.bytes.now c.in-Ok-Err.fault first).accepts

pub returns-in-Ok-Err-clause-refuses : goal.returns-in-Ok-Err-clause-refuses
returns-in-Ok-Err-clause-refuses c =
    let first : FirstFault c.args.bytes.now c.in-Ok-Err.fault = rw c.in-Ok-Err.field-0-is at c.in-Ok-Err.ensures in
    rw c.refusal_of.ensures (faulty_text c.args.bytes.now c.in-Ok-Err.fault first).refuses
