-- The table is that before line k, and no line before has a reason.
use Rattle.std.proofs.Common.{◌≡◌, ℕ, ◌<◌, None}
use Rattle.tcl_lang.specs.Typing.{types_at, reason_at}
use Rattle.tcl_types.proofs.program.first_ill_typed.Given as goal

abbrev pub invariant-loop-k : goal.invariant-loop-k
invariant-loop-k l = record {
  table : l.types ≡ types_at l.names l.lines l.k;
  earlier : (j : ℕ) → j < l.k → reason_at l.names l.lines j ≡ None;
}
