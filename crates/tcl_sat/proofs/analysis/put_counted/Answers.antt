use Rattle.std.proofs.Common.{◌∙◌, ap, sym, List, ℕ, take, arith}
use Rattle.tcl_trail.specs.Assignment.{lits_of}
use Rattle.tcl_sat.specs.Analysis.{DerivationState, open_count}
use Rattle.tcl_sat.proofs.OpenLiterals.{put_known, put_counted}
use Rattle.tcl_sat.proofs.analysis.put_counted.Goals as goal

pub returns-then-has-clause-put : goal.returns-then-has-clause-put
returns-then-has-clause-put c =
    let d = c.args.derivation.now in
    let with : List ℕ → DerivationState = λ x. record { chain = d.chain; clause = x } in
    ap with (sym (put_known c.args.lit d.clause c.known.ensures (sym c.has.ensures ∙ c.if-has.true)))

pub returns-clause-count : goal.returns-clause-count
returns-clause-count c =
    let d = c.args.derivation.now in
    let front = take c.args.floor (lits_of c.args.trail.now.entries) in
    put_counted front c.args.lit c.args.count c.in-Some.more d.clause (sym c.has.ensures ∙ c.if-has.false) c.requires.count (omega (arith, c.in-Some.ensures, c.count_of.ensures.count))
    ∙ ap (λ (x : DerivationState). open_count front x.clause) (sym c.in_ok-put.ensures)
