use Rattle.std.proofs.Common.{◌≡◌, true, sym, ◌∙◌, arith, nat_le}
use Rattle.std.proofs.lemmas.Bool.Decides.{nat_tests}
use Rattle.tcl_types.proofs.Powers.{below_power}
use Rattle.tcl_types.proofs.number.is_below_power.Goals as goal

pub returns-then-exponent-ge127 : goal.returns-then-exponent-ge127
returns-then-exponent-ge127 c =
    let far : nat_le 127 c.args.exponent ≡ true = grind (arith, nat_tests) in
    far ∙ sym (below_power c.args.n c.args.exponent c.ranges.n c.if-exponent-ge127.true)
