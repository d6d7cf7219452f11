use Rattle.std.proofs.Common.{◌≡◌, Some, drop}
use Rattle.tcl_cnf.specs.Resolution.{chain_from, chain_of}
use Rattle.tcl_cnf.proofs.resolution.derive.Given as goal

-- what is left of the chain derives from the marks what the chain derives
abbrev pub invariant-loop-number : goal.invariant-loop-number
invariant-loop-number g l = chain_from (g.C.Numbered.clauses l.clauses) (Some l.marks) (drop l.number-index l.rest) ≡ chain_of (g.C.Numbered.clauses l.clauses) l.fn.chain
