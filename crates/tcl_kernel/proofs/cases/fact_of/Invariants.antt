-- The facts that are left.
use Rattle.std.proofs.Common.{◌≡◌, drop}
use Rattle.tcl_kernel.specs.CasesCertificate as words
use Rattle.tcl_kernel.proofs.cases.fact_of.Given as goal

abbrev pub invariant-loop-k : goal.invariant-loop-k
invariant-loop-k l = words.fact_of (drop l.k l.facts) l.number ≡ words.fact_of l.facts l.number
