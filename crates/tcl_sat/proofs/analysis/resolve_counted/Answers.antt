use Rattle.std.proofs.Common.{◌∙◌, ap, sym, take}
use Rattle.tcl_cnf.specs.Literal.{neg}
use Rattle.tcl_cnf.specs.Clause.{has}
use Rattle.tcl_cnf.proofs.Members.{neg-neg}
use Rattle.tcl_trail.specs.Assignment.{lits_of}
use Rattle.tcl_sat.specs.Analysis.{DerivationState, open_count}
use Rattle.tcl_sat.proofs.OpenLiterals.{one_less}
use Rattle.tcl_sat.proofs.analysis.resolve_counted.Goals as goal

pub overflow_sub-left : goal.overflow_sub-left
overflow_sub-left c =
    let front = take c.args.floor (lits_of c.args.trail.now.entries) in
    (one_less front (neg c.args.lit) c.args.count c.args.derivation.now.clause c.known.ensures c.requires.there (ap (λ t. has t front) (neg-neg c.args.lit) ∙ c.requires.above) c.requires.count).0

pub put_others_counted-requires-clause-count : goal.put_others_counted-requires-clause-count
put_others_counted-requires-clause-count c =
    let front = take c.args.floor (lits_of c.args.trail.now.entries) in
    (one_less front (neg c.args.lit) c.args.count c.args.derivation.now.clause c.known.ensures c.requires.there (ap (λ t. has t front) (neg-neg c.args.lit) ∙ c.requires.above) c.requires.count).1
    ∙ ap (λ (d : DerivationState). open_count front d.clause) (sym c.in_ok-cancel.ensures)
