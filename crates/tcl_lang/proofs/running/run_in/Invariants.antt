-- The store before the line, and how many values were taken.
use Rattle.std.proofs.Common.{◌≡◌, ◌≤◌}
use Rattle.tcl_lang.specs.Run.{store_at, taken_before}
use Rattle.tcl_lang.proofs.running.run_in.Given as goal

abbrev pub invariant-loop-k : goal.invariant-loop-k
invariant-loop-k l = record {
  store : l.store ≡ store_at l.fn.names l.lines l.input l.k;
  taken : l.taken ≡ taken_before l.lines l.k;
  few : l.taken ≤ l.k;
}
