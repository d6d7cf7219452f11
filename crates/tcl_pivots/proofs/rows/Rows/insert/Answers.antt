-- The number of the row goes to its place.
use Rattle.std.proofs.Common.{rules, ◌≡◌, ◌∷◌, ◌++◌, take, drop, length}
use Rattle.tcl_pivots.proofs.AddedRows.{inserted, on_ok}
use Rattle.tcl_pivots.proofs.rows.Rows.insert.Goals as goal

pub returns-clause-order : goal.returns-clause-order
returns-clause-order g c =
    let now = c.args.self.now in let i = c.place_of-place.result in
    let kept : c.as_slice.result.now ≡ now.kept = search rules in
    let order : c.as_slice-2.result.now ≡ now.order = search rules in
    let number : c.len-number.result ≡ length now.kept = search rules in
    let after : c.insert.new.self.items ≡ take i now.order ++ c.len-number.result ∷ drop i now.order = search rules in
    let value = g.R.Ring.amount c.args.ring.now in
    on_ok c.push.result (inserted value now c.as_slice.result.now c.as_slice-2.result.now c.insert.new.self.items i c.len-number.result c.args.pivot kept order number after c.place_of-place.ensures.place)
