-- What a line is, apart from where it stands: a statement, or a fault. Faults are looked for in a fixed order: bytes and
-- tokens that are not allowed, brackets, operators, the grammar, exponents.
use Rattle.std.specs.Prelude.{◌≡◌, true, false, List, Result, Ok, Err}
use Rattle.tcl_text.specs.declared.fault.Limit.TheVariants.{Nesting, Operators, Exponent}
use Rattle.tcl_text.specs.declared.fault.LineFault.{LineFault}
use Rattle.tcl_text.specs.declared.fault.LineFault.TheVariants as fault
use Rattle.tcl_text.specs.declared.token.Token.{Token}
use Rattle.tcl_text.specs.declared.token.Statement.{Statement}
use Rattle.tcl_text.specs.Statements.{IsStatement}
use Rattle.tcl_text.specs.Scan.{nests_too_deep, has_too_many_operators, is_low_statement}

-- the verdict on a line whose bytes and tokens are allowed
pub data Judged : List Token → Result Statement LineFault → Type 0 where
  too_deep : {ts : List Token} → nests_too_deep 0 ts ≡ true → Judged ts (Err (fault.Limit Nesting))
  too_many : {ts : List Token} →
      nests_too_deep 0 ts ≡ false → has_too_many_operators ts ≡ true → Judged ts (Err (fault.Limit Operators))
  no_line : {ts : List Token} →
      nests_too_deep 0 ts ≡ false → has_too_many_operators ts ≡ false → ((s : Statement) → IsStatement ts s → ⊥) →
      Judged ts (Err fault.Text)
  too_high : {ts : List Token} {s : Statement} →
      nests_too_deep 0 ts ≡ false → has_too_many_operators ts ≡ false → IsStatement ts s → is_low_statement s ≡ false →
      Judged ts (Err (fault.Limit Exponent))
  good : {ts : List Token} {s : Statement} →
      nests_too_deep 0 ts ≡ false → has_too_many_operators ts ≡ false → IsStatement ts s → is_low_statement s ≡ true →
      Judged ts (Ok s)
