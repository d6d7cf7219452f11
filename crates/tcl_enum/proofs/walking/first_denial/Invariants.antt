-- No assignment before this one denies the fact, and the values are in their types.
use Rattle.std.proofs.Common.{◌≡◌, None}
use Rattle.std.specs.Prelude.{find}
use Rattle.tcl_lang.specs.Values.{AreValues}
use Rattle.tcl_goals.specs.Numbers.{numbers_below}
use Rattle.tcl_enum.specs.Enumeration.{is_denied_at}
use Rattle.tcl_enum.proofs.walking.first_denial.Given as goal

abbrev pub invariant-loop-n : goal.invariant-loop-n
invariant-loop-n l = record {
  none : find (is_denied_at l.ssa l.lemmas.items l.fact) (numbers_below l.n) ≡ None;
  typed : AreValues l.ssa.variables l.values;
}
