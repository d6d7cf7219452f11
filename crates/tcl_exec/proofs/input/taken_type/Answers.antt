-- A line takes a value of a type of words.
use Rattle.std.proofs.Common.{sym, subst, Option}
use Rattle.std.specs.Option.{IfSome}
use Rattle.tcl_lang.specs.declared.ty.Ty.{Ty}
use Rattle.tcl_lang.specs.Types.{IsTy}
use Rattle.tcl_exec.proofs.Fitting.{taken_typed}
use Rattle.tcl_exec.proofs.input.taken_type.Goals as goal

pub returns-clause-of_words : goal.returns-clause-of_words
returns-clause-of_words c =
    subst (λ (o : Option Ty). IfSome o IsTy) (sym c.taken_type.ensures) (taken_typed c.args.lines.now c.args.k c.at.result.now c.requires.shapes c.at.ensures)
