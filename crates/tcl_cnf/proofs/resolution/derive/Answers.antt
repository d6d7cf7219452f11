use Rattle.std.proofs.Common.{Some}
use Rattle.std.proofs.lemmas.Bool.{MatchBool-at_false}
use Rattle.tcl_cnf.specs.Resolution.{chain_of}
use Rattle.tcl_cnf.proofs.ResolutionLemmas.{chain_of-short, chain_of-unknown, chain_of-first, chain_from-stopped}
use Rattle.tcl_cnf.proofs.resolution.derive.Goals as goal

pub returns-in_default : goal.returns-in_default
returns-in_default g c = chain_of-short (g.C.Numbered.clauses c.args.clauses.now) c.args.chain.now c.in_default.ensures.cases

pub returns-in_default-lits : goal.returns-in_default-lits
returns-in_default-lits g c =
    chain_of-unknown (g.C.Numbered.clauses c.args.clauses.now) c.in-Some.first.now c.in-Some.rest.now c.args.chain.now c.in-Some.ensures.cases.0 c.in_default-lits.ensures

pub loop-number-init : goal.loop-number-init
loop-number-init g c =
    chain_of-first (g.C.Numbered.clauses c.args.clauses.now) c.in-Some.first.now c.in-Some.rest.now c.args.chain.now c.in-Some-lits.lits.now c.start.new.marks
    c.in-Some.ensures.cases.0 c.in-Some-lits.ensures c.in_ok-start.ensures

pub returns-then-not-branch : goal.returns-then-not-branch
returns-then-not-branch g c =
    chain_from-stopped (g.C.Numbered.clauses c.args.clauses.now) (Some c.loop-number.marks) (chain_of (g.C.Numbered.clauses c.args.clauses.now) c.args.chain.now)
    c.in-Some.rest.now c.loop-number.number-index c.loop-number-test.true c.loop-number.invariant (MatchBool-at_false _ _ c.if-not-branch.true c.in_ok-step.ensures)
