-- The verdict on a statement whose brackets and operators keep the limits.
use Rattle.std.proofs.Common.{◌≡◌, Bool, true, false, List, refl}
use Rattle.std.specs.Prelude.{if◌then◌else◌, Ok, Err}
use Rattle.tcl_text.specs.declared.fault.Limit.TheVariants.{Exponent}
use Rattle.tcl_text.specs.declared.fault.LineFault.TheVariants as fault
use Rattle.tcl_text.specs.declared.token.Token.{Token}
use Rattle.tcl_text.specs.declared.token.Statement.{Statement}
use Rattle.tcl_text.specs.Statements.{IsStatement}
use Rattle.tcl_text.specs.Scan.{nests_too_deep, has_too_many_operators, is_low_statement}
use Rattle.tcl_text.specs.Verdict as verdict
use Rattle.tcl_parse.specs.StatementReaders.{kept_statement}

by_exponents : {ts : List Token} {s : Statement} (low : Bool) → is_low_statement s ≡ low → nests_too_deep 0 ts ≡ false →
    has_too_many_operators ts ≡ false → IsStatement ts s → verdict.Judged ts (if low then Ok s else Err (fault.Limit Exponent))
by_exponents true e d m p = verdict.good d m p e
by_exponents false e d m p = verdict.too_high d m p e

pub is_kept : {ts : List Token} {s : Statement} → nests_too_deep 0 ts ≡ false → has_too_many_operators ts ≡ false →
    IsStatement ts s → verdict.Judged ts (kept_statement s)
is_kept {s = s} d m p = by_exponents (is_low_statement s) refl d m p
