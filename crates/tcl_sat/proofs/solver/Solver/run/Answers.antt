use Rattle.std.proofs.Common.{◌≡◌, arith, ◌-◌, refl}
use Rattle.tcl_sat.proofs.Rounds.{running_allowed, running_learnt, refuted_bounded, spent}
use Rattle.tcl_sat.proofs.solver.Solver.run.Goals as goal

pub returns-in-Emptied-clause-bounded : goal.returns-in-Emptied-clause-bounded
returns-in-Emptied-clause-bounded g c =
    let cnf = c.args.self.now.log.clauses in
    let at = c.loop-learnt in
    let polls = g.P.Port.polls c.args.port.now in
    let after = g.P.Port.polls c.conflicts_allowed.new.port in
    let cancels = g.P.Port.cancels c.args.port.now in
    let after' = g.P.Port.cancels c.conflicts_allowed.new.port in
    let r = running_allowed cnf at.self.log at.self.trail at.learnt at.left c.in-Some.allowed c.args.round polls (g.P.Port.polls at.port) after cancels (g.P.Port.cancels at.port) after' at.invariant c.requires.round
    c.in-Some.ensures.polls c.in-Some.ensures.go.0 c.in-Some.ensures.go.1 in
    let adds = rw c.in-Emptied.is at c.in_ok-next_conflict.ensures in
    refuted_bounded cnf at.self.log c.next_conflict.new.self.log at.self.trail at.learnt c.in-Some.allowed c.args.round polls after cancels after' r.1 r.0 adds

pub loop-learnt-preserved : goal.loop-learnt-preserved
loop-learnt-preserved g c =
    let cnf = c.args.self.now.log.clauses in
    let at = c.loop-learnt in
    let polls = g.P.Port.polls c.args.port.now in
    let after = g.P.Port.polls c.conflicts_allowed.new.port in
    let cancels = g.P.Port.cancels c.args.port.now in
    let after' = g.P.Port.cancels c.conflicts_allowed.new.port in
    let r = running_allowed cnf at.self.log at.self.trail at.learnt at.left c.in-Some.allowed c.args.round polls (g.P.Port.polls at.port) after cancels (g.P.Port.cancels at.port) after' at.invariant c.requires.round
    c.in-Some.ensures.polls c.in-Some.ensures.go.0 c.in-Some.ensures.go.1 in
    let on = rw c.in-Learnt.is at c.in_ok-next_conflict.ensures in
    running_learnt cnf at.self.log c.next_conflict.new.self.log at.self.trail c.next_conflict.new.self.trail at.learnt c.in-Some.allowed (c.in-Some.allowed - 1) c.args.round polls after cancels after' r.1 r.0 refl on

pub returns-clause-end : goal.returns-clause-end
returns-clause-end g c =
    let at = c.loop-learnt in
    let all : at.learnt ≡ c.args.budget = omega (arith, c.loop-learnt-test.false, at.auto.learnt-end) in
    spent c.args.self.now.log.clauses at.self.log at.self.trail at.learnt at.left c.args.round (g.P.Port.polls c.args.port.now) (g.P.Port.polls at.port) (g.P.Port.cancels c.args.port.now) (g.P.Port.cancels at.port) c.args.budget at.invariant all
