-- Programs, their lines and their forms go to other threads and may be shared by them.
use denote.Enum.Declared.{shape}
use denote.Param.Send.{IsSend, IsSync, sendable, recorded_send, recorded_sync, enum_send, enum_sync}
use Rattle.std.proofs.Crossing as std
use Rattle.tcl_lang.proofs.term.Term.TheLaws.TheKnot as term
use Rattle.tcl_lang.proofs.range.RngTerm.TheLaws.TheKnot as word
use Rattle.tcl_lang.proofs.range.RngPred.TheLaws.TheKnot as range
use Rattle.tcl_lang.specs.contracts.pred.Line as Line
use Rattle.tcl_lang.specs.contracts.pred.Pred as Pred
use Rattle.tcl_lang.specs.contracts.term.Part as Part
use Rattle.tcl_lang.specs.contracts.instr.Instr as Instr
use Rattle.tcl_lang.specs.contracts.program.Program as Program
use Rattle.tcl_lang.specs.contracts.program.Parsed as Parsed
use Rattle.tcl_lang.specs.contracts.program.Typed as Typed
use Rattle.tcl_lang.specs.contracts.program.Ssa as Ssa
use Rattle.tcl_lang.specs.contracts.variable.Variable as Variable

pub variable-send : IsSend Variable.the_row
variable-send = search (sendable, std.crosses) depth 40

pub instr-send : IsSend (Instr.the_field).row
instr-send = search (sendable, std.crosses) depth 40

pub part-send : IsSend Part.the_row
part-send = search (sendable, std.crosses) depth 40

pub pred-send : IsSend (Pred.the_field).row
pred-send = search (sendable, std.crosses, part-send, term.crosses, range.crosses, word.crosses) depth 60 fits 50000

pub line-send : IsSend Line.the_row
line-send =
    let p = pred-send in
    recorded_send _ _ _ (Line.the_type).to_one (enum_send (shape Line.the_type)
    ((search sendable, (search sendable, tt)), ((p, tt), ((instr-send, tt), ((p, tt), ((p, tt), ((p, tt), ((p, tt), tt))))))))

pub program-send : IsSend Program.the_row
program-send = search (sendable, std.crosses, line-send) depth 40

pub parsed-send : IsSend Parsed.the_row
parsed-send = search (sendable, std.crosses, program-send) depth 40

pub typed-send : IsSend Typed.the_row
typed-send = search (sendable, std.crosses, parsed-send) depth 40

pub form-send : IsSend Ssa.the_row
form-send = search (sendable, std.crosses, variable-send, line-send) depth 40

pub variable-sync : IsSync Variable.the_row
variable-sync = search (sendable, std.crosses) depth 40

pub instr-sync : IsSync (Instr.the_field).row
instr-sync = search (sendable, std.crosses) depth 40

pub part-sync : IsSync Part.the_row
part-sync = search (sendable, std.crosses) depth 40

pub pred-sync : IsSync (Pred.the_field).row
pred-sync = search (sendable, std.crosses, part-sync, term.crosses, range.crosses, word.crosses) depth 60 fits 50000

pub line-sync : IsSync Line.the_row
line-sync =
    let p = pred-sync in
    recorded_sync _ _ _ (Line.the_type).to_one (enum_sync (shape Line.the_type)
    ((search sendable, (search sendable, tt)), ((p, tt), ((instr-sync, tt), ((p, tt), ((p, tt), ((p, tt), ((p, tt), tt))))))))

pub program-sync : IsSync Program.the_row
program-sync = search (sendable, std.crosses, line-sync) depth 40

pub parsed-sync : IsSync Parsed.the_row
parsed-sync = search (sendable, std.crosses, program-sync) depth 40

pub typed-sync : IsSync Typed.the_row
typed-sync = search (sendable, std.crosses, parsed-sync) depth 40

pub form-sync : IsSync Ssa.the_row
form-sync = search (sendable, std.crosses, variable-sync, line-sync) depth 40
