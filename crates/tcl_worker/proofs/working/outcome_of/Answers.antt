-- What each end of the work is for the piece, by any lemmas.
use Rattle.std.proofs.Common.{subst}
use Rattle.tcl_goals.specs.Plans.{piece_fact}
use Rattle.tcl_worker.specs.Worked.{IsWorked, KeepsRules}
use Rattle.tcl_worker.proofs.Gifts.{proof_outcome}
use Rattle.tcl_worker.proofs.Making.{lemma_obeys, lemma_outcome, own_obeys}
use Rattle.tcl_worker.proofs.working.outcome_of.Goals as goal

pub returns-in-Proved-clause-outcome : goal.returns-in-Proved-clause-outcome
returns-in-Proved-clause-outcome c =
    let p = c.args.ssa.now in
    proof_outcome p c.args.budget c.args.piece.now c.args._lemmas.now c.in-Proved.proof
    (subst (IsWorked p c.args.budget c.args._lemmas.now.items (piece_fact p c.args.piece.now)) c.in-Proved.is c.requires.worked)

pub returns-in_ok-outcome-in-Fails-clause-outcome : goal.returns-in_ok-outcome-in-Fails-clause-outcome
returns-in_ok-outcome-in-Fails-clause-outcome c = c.in_ok-outcome-in-Fails.ensures.outcome c.args._lemmas.now

pub returns-in_ok-outcome-in-Model-clause-outcome : goal.returns-in_ok-outcome-in-Model-clause-outcome
returns-in_ok-outcome-in-Model-clause-outcome c = c.in_ok-outcome-in-Model.ensures.outcome c.args._lemmas.now

pub returns-in_ok-outcome-in-Open-clause-outcome : goal.returns-in_ok-outcome-in-Open-clause-outcome
returns-in_ok-outcome-in-Open-clause-outcome c = c.in_ok-outcome-in-Open.ensures.outcome c.args._lemmas.now

pub returns-in-Lemma-clause-outcome : goal.returns-in-Lemma-clause-outcome
returns-in-Lemma-clause-outcome c =
    let p = c.args.ssa.now in
    lemma_outcome p c.args.budget c.args.piece.now c.args._lemmas.now c.in-Lemma.proof c.requires.formed c.requires.piece
    (subst (KeepsRules p c.args.budget c.args._lemmas.now (piece_fact p c.args.piece.now)) c.in-Lemma.is c.requires.rules)

pub returns-in-Lemma-clause-rules : goal.returns-in-Lemma-clause-rules
returns-in-Lemma-clause-rules c =
    let p = c.args.ssa.now in
    lemma_obeys p c.args.budget c.args.piece.now c.args._lemmas.now c.in-Lemma.proof
    (subst (KeepsRules p c.args.budget c.args._lemmas.now (piece_fact p c.args.piece.now)) c.in-Lemma.is c.requires.rules)

pub returns-in-Proved-clause-rules : goal.returns-in-Proved-clause-rules
returns-in-Proved-clause-rules c =
    let p = c.args.ssa.now in
    subst (KeepsRules p c.args.budget c.args._lemmas.now (piece_fact p c.args.piece.now)) c.in-Proved.is c.requires.rules

pub returns-in_ok-outcome-in-Fails-clause-rules : goal.returns-in_ok-outcome-in-Fails-clause-rules
returns-in_ok-outcome-in-Fails-clause-rules c =
    let p = c.args.ssa.now in
    own_obeys p c.args.budget c.args.piece.now c.args._lemmas.now c.in_ok-outcome-in-Fails.outcome
    (subst (KeepsRules p c.args.budget c.args._lemmas.now (piece_fact p c.args.piece.now)) c.in-Fails.is c.requires.rules) c.in_ok-outcome-in-Fails.ensures.outcome

pub returns-in_ok-outcome-in-Model-clause-rules : goal.returns-in_ok-outcome-in-Model-clause-rules
returns-in_ok-outcome-in-Model-clause-rules c =
    let p = c.args.ssa.now in
    own_obeys p c.args.budget c.args.piece.now c.args._lemmas.now c.in_ok-outcome-in-Model.outcome
    (subst (KeepsRules p c.args.budget c.args._lemmas.now (piece_fact p c.args.piece.now)) c.in-Model.is c.requires.rules) c.in_ok-outcome-in-Model.ensures.outcome

pub returns-in_ok-outcome-in-Open-clause-rules : goal.returns-in_ok-outcome-in-Open-clause-rules
returns-in_ok-outcome-in-Open-clause-rules c =
    let p = c.args.ssa.now in
    own_obeys p c.args.budget c.args.piece.now c.args._lemmas.now c.in_ok-outcome-in-Open.outcome
    (subst (KeepsRules p c.args.budget c.args._lemmas.now (piece_fact p c.args.piece.now)) c.in-Open.is c.requires.rules) c.in_ok-outcome-in-Open.ensures.outcome
