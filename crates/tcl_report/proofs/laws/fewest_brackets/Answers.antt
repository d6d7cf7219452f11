use Rattle.std.proofs.Common.{refl, arith}
use Rattle.tcl_text.proofs.TokenShapes.{line_fit}
use Rattle.tcl_report.specs.Brackets.{is_bracket}
use Rattle.tcl_report.proofs.Leaner.{leaner_count}
use Rattle.tcl_report.proofs.ReadLines.{statement_found}
use Rattle.tcl_report.proofs.laws.fewest_brackets.Goals as goal

pub returns : goal.returns
returns c = λ names text raws l e p.
    let count = leaner_count is_bracket (λ m n. refl) (statement_found p (line_fit text raws names e)).0 in omega (arith, count)
