-- Of the variables of a fact those of one bit.
use Rattle.std.proofs.Common.{◌∙◌, subst, List}
use Rattle.std.specs.Result.{OnOk}
use Rattle.tcl_algebra.specs.Equations.{Placed}
use Rattle.tcl_algebra.specs.Held.{IsAdded}
use Rattle.tcl_algebra.proofs.SquareLists.{squares_are}
use Rattle.tcl_algebra.proofs.squares.add_squares.Goals as goal

pub returns : goal.returns
returns g c =
    let m = g.R.Ring.modulus_of c.args.ring.now in
    let value = g.R.Ring.amount c.args.ring.now in
    let old = c.args.rows.now in
    let new = c.add_bits.new.rows in
    let are = squares_are m c.args.ssa.now c.args.lemmas.now.items c.args.fact.now c.as_slice.result.now (c.as_slice.ensures ∙ c.in_ok-named.ensures) in
    subst (λ (es : List Placed). OnOk c.add_bits.result (IsAdded value old.list new.list old.places new.places es)) are c.add_bits.ensures
