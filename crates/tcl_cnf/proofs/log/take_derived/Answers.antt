use Rattle.std.proofs.Common.{sym, ◌∙◌, ap, Some}
use Rattle.std.proofs.lemmas.Bool.{MatchBool-at_true}
use Rattle.tcl_cnf.proofs.Chains.{chain_clause}
use Rattle.tcl_cnf.proofs.log.take_derived.Goals as goal

pub of-requires : goal.of-requires
of-requires c =
    chain_clause c.args.clauses.now.items c.args.chain.now c.in_ok-lits.lits.items (record { each = c.requires.are_clauses.each })
    (MatchBool-at_true _ _ c.if-not-branch.false c.in_ok-derive.ensures ∙ ap Some (sym c.in_ok-lits.ensures.ok))
