use Rattle.std.proofs.Common.{◌≡◌, None, subst}
use Rattle.tcl_lang.specs.Typing.{reason_of}
use Rattle.tcl_types.proofs.LineReasons.{allowed}
use Rattle.tcl_types.proofs.table.Types.define.Goals as goal

pub define_results-requires : goal.define_results-requires
define_results-requires c =
    allowed c.args.self.now c.in-Step.instr (subst (λ l. reason_of c.args.self.now l ≡ None) c.in-Step.is c.requires)
