-- A number from 0 and below the modulus is its own residue.
use Rattle.std.proofs.Common.{rules, ◌≡◌, ◌<◌, ℤ, pos, sym, subst, unsigned_abs, arith, to_z, of_z}
use Rattle.std.specs.Int.{w128, int_rem_euclid}
use Rattle.std.proofs.lemmas.Int.{ints}
use Rattle.tcl_ring.proofs.Inverses.{own_residue}
use Rattle.tcl_ring.proofs.euclid.rest.Goals as goal

pub returns-then-n-m-clause-value : goal.returns-then-n-m-clause-value
returns-then-n-m-clause-value c =
    let n = c.args.n.now in
    let back : to_z w128 (of_z w128 n) ≡ n = search rules in
    let P : ℤ → Type 0 = λ z. int_rem_euclid n (pos c.args.m) ≡ pos (unsigned_abs z) in
    let B : ℤ → Type 0 = λ z. unsigned_abs z < c.args.m in
    subst P (sym back) (own_residue n c.args.m (omega (arith, ints, c.if-n-ge0.true)) (subst B back c.if-n-m.true))
