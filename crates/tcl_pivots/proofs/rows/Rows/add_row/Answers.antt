-- What is left of a row has none of the leading monomials, and what is held is known again.
use Rattle.std.proofs.Common.{sym, ◌∙◌, ap, Some}
use Rattle.tcl_reduce.specs.Row as s
use Rattle.tcl_pivots.specs.CofactorLists.{equations_of}
use Rattle.tcl_pivots.specs.RowState.{row_shown}
use Rattle.tcl_pivots.specs.Held.{pivots_shown, rows_shown}
use Rattle.tcl_pivots.proofs.AddedRows.{reduced_lacks, held_after, on_ok_both}
use Rattle.tcl_pivots.proofs.rows.Rows.add_row.Goals as goal

pub keep-requires-clause-lacks : goal.keep-requires-clause-lacks
keep-requires-clause-lacks g c =
    let m = g.R.Ring.modulus_of c.args.ring.now in let value = g.R.Ring.amount c.args.ring.now in
    let es = equations_of value c.args.equations.now in
    let reduced = rw c.in-Some.is at c.in_ok-left.ensures.reduced in
    reduced_lacks m (g.met.R.Ring.is_modulus c.args.ring.now) es (pivots_shown value c.args.self.now.kept) (row_shown value c.args.a) (row_shown value c.in-Some.left) c.requires.held.sound.1 c.requires.row.over reduced

pub returns-in-Some-clause-held : goal.returns-in-Some-clause-held
returns-in-Some-clause-held g c =
    let m = g.R.Ring.modulus_of c.args.ring.now in let value = g.R.Ring.amount c.args.ring.now in
    let es = equations_of value c.args.equations.now in
    let now = c.args.self.now in let rows = rows_shown value now in
    let a = row_shown value c.args.a in let left = row_shown value c.in-Some.left in
    let reduced = rw c.in-Some.is at c.in_ok-left.ensures.reduced in
    let sound = rw c.in-Some.is at c.in_ok-left.ensures.sound in
    on_ok_both c.keep.result c.keep.ensures.kept c.keep.ensures.sorted
    (λ kept sorted. held_after m es value now c.keep.new.self a (Some left) (g.met.R.Ring.is_modulus c.args.ring.now) c.requires.held c.requires.row.over reduced sound
    (kept ∙ ap (λ o. s.add_reduced m a.place o rows) (sym reduced)) sorted)
