use Rattle.std.proofs.Common.{◌∙◌, ap, length, ◌++◌, ◌∷◌, []}
use Rattle.tcl_cnf.proofs.RowLemmas.{rows_push, ends_push}
use Rattle.tcl_cnf.proofs.rows.Rows.push.Goals as goal

pub invariant_of-self-2 : goal.invariant_of-self-2
invariant_of-self-2 g c =
    ends_push c.self.inside.ends.items c.reserve.new.self.items c.push_reserved.new.self.items c.self.inside.items.items c.args.row.now
    c.extend_from_slice.new.self.items (length c.as_slice-end.result.now) c.self.invariant c.reserve.ensures.items c.push_reserved.ensures.items
    c.in_ok-extend_from_slice.ensures.items (ap length c.as_slice-end.ensures.value)

pub returns-clause-pushed : goal.returns-clause-pushed
returns-clause-pushed g c =
    rows_push c.self.inside.ends.items c.reserve.new.self.items c.push_reserved.new.self.items c.self.inside.items.items c.args.row.now
    c.extend_from_slice.new.self.items (length c.as_slice-end.result.now) c.self.invariant c.reserve.ensures.items c.push_reserved.ensures.items
    c.in_ok-extend_from_slice.ensures.items (ap length c.as_slice-end.ensures.value) ∙ ap (λ t. t ++ c.args.row.now ∷ []) c.self.view_is
