use Rattle.tcl_parse.proofs.StatementModulus.{is_base, is_power, no_exponent}
use Rattle.tcl_parse.proofs.statement.modulus.one_part.Goals as goal

pub returns-in_default-behind_sign : goal.returns-in_default-behind_sign
returns-in_default-behind_sign c =
    record { exact = rw c.part.ensures (is_base c.args.minus c.in-Some.ensures c.in_default-behind_sign.ensures) }

pub returns-in_default-number_at : goal.returns-in_default-number_at
returns-in_default-number_at c =
    record { exact = no_exponent c.in-Some.ensures c.in-Some-behind_sign.ensures c.in_default-number_at.ensures }

pub returns-in-None : goal.returns-in-None
returns-in-None c = record {
  exact = rw (c.part-in-None.ensures, c.capped.ensures)
      (is_power c.args.minus c.in-Some.ensures c.in-Some-behind_sign.ensures c.in-Some-number_at.ensures c.in-None.ensures);
}
