use Rattle.std.proofs.Common.{sym, ◌∙◌, ap, ◌++◌, ◌∷◌, [], List, ℕ}
use Rattle.tcl_cnf.specs.Log.{LogState}
use Rattle.tcl_cnf.proofs.LogLemmas.{log_added}
use Rattle.tcl_cnf.proofs.log.Log.resolve.Goals as goal

pub invariant_of-self-2 : goal.invariant_of-self-2
invariant_of-self-2 c =
    let old : LogState = record { clauses = c.self.inside.clauses.items; given = c.self.inside.given; lines = c.self.inside.lines } in (
      log_added old c.args.chain.now c.in-Some.clause c.push_reserved.new.self.items c.push.new.self c.self.invariant.0
          (sym c.in_ok-clause.ensures.clause ∙ c.in-Some.is) (c.push_reserved.ensures.items ∙ ap (λ (t : List (List ℕ)). t ++ c.in-Some.clause ∷ []) c.reserve.ensures.items) c.in_ok-push.ensures.pushed,
      c.derived_clause.ensures.emptied,
    )
