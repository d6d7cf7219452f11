-- The row is kept, left out with a note, or dropped.
use Rattle.std.proofs.Common.{sym, ◌∙◌, ap}
use Rattle.tcl_reduce.specs.Row as s
use Rattle.tcl_pivots.specs.RowState.{row_shown}
use Rattle.tcl_pivots.specs.Held.{rows_shown}
use Rattle.tcl_pivots.proofs.AddedRows.{shown_noted, shown_pushed, keep_noted, keep_kept, new_kept, new_sorted, on_ok_from, on_ok_both}
use Rattle.tcl_pivots.proofs.rows.Rows.keep.Goals as goal

pub returns-in-Some-inverse-clause-kept : goal.returns-in-Some-inverse-clause-kept
returns-in-Some-inverse-clause-kept g c =
    let m = g.R.Ring.modulus_of c.args.ring.now in let value = g.R.Ring.amount c.args.ring.now in
    let modulus = g.met.R.Ring.is_modulus c.args.ring.now in
    let now = c.args.self.now in let a = c.args.a in
    let front = sym c.first_coefficient.ensures ∙ c.in-Some.is in
    let found = rw c.in-Some-inverse.is at c.inverse.ensures in
    on_ok_both c.insert.result c.insert.ensures.kept c.insert.ensures.notes
    (λ kept notes. shown_pushed value now c.insert.new.self (record { row = a; inverse = c.in-Some-inverse.inverse }) kept notes
    ∙ sym (keep_kept m value a.poly c.in-Some.coefficient c.in-Some-inverse.inverse (row_shown value a) (rows_shown value now) modulus front found.0 found.1))

pub returns-in-Some-inverse-clause-sorted : goal.returns-in-Some-inverse-clause-sorted
returns-in-Some-inverse-clause-sorted g c =
    let m = g.R.Ring.modulus_of c.args.ring.now in let value = g.R.Ring.amount c.args.ring.now in
    let modulus = g.met.R.Ring.is_modulus c.args.ring.now in
    let now = c.args.self.now in let a = c.args.a in
    let front = sym c.first_coefficient.ensures ∙ c.in-Some.is in
    let found = rw c.in-Some-inverse.is at c.inverse.ensures in
    let rows = new_kept m value now.kept a c.in-Some.coefficient c.in-Some-inverse.inverse front c.requires.over found.1 c.requires.kept c.requires.lacks in
    on_ok_both c.insert.result c.insert.ensures.kept c.insert.ensures.order
    (λ kept order. new_sorted m value now.kept c.insert.new.self.kept (record { row = a; inverse = c.in-Some-inverse.inverse }) now.order c.insert.new.self.order modulus rows c.requires.sorted order kept)

pub returns-in-None-inverse-clause-kept : goal.returns-in-None-inverse-clause-kept
returns-in-None-inverse-clause-kept g c =
    let m = g.R.Ring.modulus_of c.args.ring.now in let value = g.R.Ring.amount c.args.ring.now in
    let modulus = g.met.R.Ring.is_modulus c.args.ring.now in
    let now = c.args.self.now in let a = c.args.a in
    let front = sym c.first_coefficient.ensures ∙ c.in-Some.is in
    let none = rw c.in-None-inverse.is at c.inverse.ensures in
    on_ok_from c.push_note.result c.push_note.ensures
    (λ e. shown_noted value now c.push_note.new.self c.no_inverse.result e
    ∙ ap (λ z. s.with_note z (rows_shown value now)) c.no_inverse.ensures
    ∙ sym (keep_noted m value a.poly c.in-Some.coefficient (row_shown value a) (rows_shown value now) modulus front none))
