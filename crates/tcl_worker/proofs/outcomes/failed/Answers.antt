-- The input of the walk breaks the goal of a whole piece; a cut one ends with a model.
use Rattle.tcl_worker.proofs.Gifts.{walk_found, walk_outcome, cut_walk_outcome}
use Rattle.tcl_worker.proofs.outcomes.failed.Goals as goal

pub break_of-requires-clause-checks : goal.break_of-requires-clause-checks
break_of-requires-clause-checks c =
    (walk_found c.args.ssa.now c.args._budget c.args.piece.now c.args.input c.requires.formed c.requires.piece c.in-Whole.is c.requires.fails).0

pub returns-in-Cut-clause-outcome : goal.returns-in-Cut-clause-outcome
returns-in-Cut-clause-outcome c =
    cut_walk_outcome c.args.ssa.now c.args._budget c.args.piece.now c.args.input c.requires.formed c.requires.piece c.in-Cut.is c.requires.fails

pub returns-in_ok-proof-in-Whole-clause-outcome : goal.returns-in_ok-proof-in-Whole-clause-outcome
returns-in_ok-proof-in-Whole-clause-outcome c =
    walk_outcome c.args.ssa.now c.args._budget c.args.piece.now c.args.input c.in_ok-proof-in-Whole.proof c.requires.fails
    (walk_found c.args.ssa.now c.args._budget c.args.piece.now c.args.input c.requires.formed c.requires.piece c.in-Whole.is c.requires.fails).1
    c.in_ok-proof-in-Whole.ensures
