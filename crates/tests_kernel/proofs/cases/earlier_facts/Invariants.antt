-- The numbers so far are below the next.
use Rattle.std.proofs.Common.{◌≡◌, ◌≤◌}
use Rattle.tcl_goals.specs.LemmaList.{next_number}
use Rattle.tcl_kernel.specs.Evidence.{next_fact}
use Rattle.tests_kernel.proofs.cases.earlier_facts.Given as goal

abbrev pub invariant-loop-k : goal.invariant-loop-k
invariant-loop-k l =
    (l.facts.program ≡ l.form) × (next_number l.facts.lemmas ≤ l.k) × (next_fact l.facts.facts ≤ l.k)
