-- Each turn takes the cofactor with the least number of what is left.
use Rattle.std.proofs.Common.{rules, ◌≡◌, ◌+◌, [], drop, refl, ap, arith, true}
use Rattle.tcl_ring.specs.Reduction as r
use Rattle.tcl_ring.proofs.Reductions.{is_reduction}
use Rattle.tcl_poly.specs.Polynomial as p
use Rattle.tcl_pivots.proofs.CofactorSums.{left_of}
use Rattle.tcl_pivots.proofs.CofactorTurns.{valued, turn_first, turn_second, turn_both, read_over, pushed_turn, wide_turn}
use Rattle.tcl_pivots.proofs.cofactor_sum.merge_multiples.Goals as goal

pub returns-in_err-push_sum-in-Less-clause-wide : goal.returns-in_err-push_sum-in-Less-clause-wide
returns-in_err-push_sum-in-Less-clause-wide g c e =
    let a = c.args.a.now in let b = c.args.b.now in let i = c.loop-i.i in let j = c.loop-i.j in
    let m = g.R.Ring.modulus_of c.args.ring.now in let value = g.R.Ring.amount c.args.ring.now in
    let ring = is_reduction m (g.met.R.Ring.is_modulus c.args.ring.now) in
    let k = value c.args.c.now in
    let done = valued value c.loop-i.sum.items in
    let whole = left_of (r.reduced_by m) k (valued value (drop i a)) (valued value (drop j b)) in
    let x = c.index-a-i.result in
    let rest = left_of (r.reduced_by m) k (valued value (drop (i + 1) a)) (valued value (drop j b)) in
    let next = turn_first (r.reduced_by m) ring value k a b i j x c.index-a-i.is (c.in-Less.ensures.first refl) c.requires.first c.requires.second c.in-Less.ensures.side in
    let wide : p.has_wide m (p.sum_of (r.reduced_by m) (p.terms_of value x.poly) (p.scaled (r.reduced_by m) ([], k) (p.terms_of value c.args.none.now))) ≡ true = search rules in
    wide_turn m done x.equation _ (p.sum_of (r.reduced_by m) (p.terms_of value x.poly) (p.scaled (r.reduced_by m) ([], k) [])) rest whole _ (ap (λ z. p.sum_of (r.reduced_by m) (p.terms_of value x.poly) (p.scaled (r.reduced_by m) ([], k) (p.terms_of value z))) c.requires.none) wide next c.loop-i.invariant.2

pub loop-i-preserved-in-Less : goal.loop-i-preserved-in-Less
loop-i-preserved-in-Less g c =
    let a = c.args.a.now in let b = c.args.b.now in let i = c.loop-i.i in let j = c.loop-i.j in
    let m = g.R.Ring.modulus_of c.args.ring.now in let value = g.R.Ring.amount c.args.ring.now in
    let ring = is_reduction m (g.met.R.Ring.is_modulus c.args.ring.now) in
    let k = value c.args.c.now in
    let done = valued value c.loop-i.sum.items in
    let whole = left_of (r.reduced_by m) k (valued value (drop i a)) (valued value (drop j b)) in
    let x = c.index-a-i.result in
    let rest = left_of (r.reduced_by m) k (valued value (drop (i + 1) a)) (valued value (drop j b)) in
    let next = turn_first (r.reduced_by m) ring value k a b i j x c.index-a-i.is (c.in-Less.ensures.first refl) c.requires.first c.requires.second c.in-Less.ensures.side in
    let pushed = c.in_ok-push_sum-in-Less.ensures in
    let both = pushed_turn m done _ x.equation (p.sum_of (r.reduced_by m) (p.terms_of value x.poly) (p.scaled (r.reduced_by m) ([], k) (p.terms_of value c.args.none.now))) (p.sum_of (r.reduced_by m) (p.terms_of value x.poly) (p.scaled (r.reduced_by m) ([], k) [])) rest whole _ (ap (λ z. p.sum_of (r.reduced_by m) (p.terms_of value x.poly) (p.scaled (r.reduced_by m) ([], k) (p.terms_of value z))) c.requires.none) pushed.pushed pushed.not_wide next c.loop-i.invariant.3 c.loop-i.invariant.2 in
    (omega (arith, c.in-Less.ensures.first refl), c.loop-i.invariant.1, both.0, both.1)

pub returns-in_err-push_sum-in-Greater-clause-wide : goal.returns-in_err-push_sum-in-Greater-clause-wide
returns-in_err-push_sum-in-Greater-clause-wide g c e =
    let a = c.args.a.now in let b = c.args.b.now in let i = c.loop-i.i in let j = c.loop-i.j in
    let m = g.R.Ring.modulus_of c.args.ring.now in let value = g.R.Ring.amount c.args.ring.now in
    let ring = is_reduction m (g.met.R.Ring.is_modulus c.args.ring.now) in
    let k = value c.args.c.now in
    let done = valued value c.loop-i.sum.items in
    let whole = left_of (r.reduced_by m) k (valued value (drop i a)) (valued value (drop j b)) in
    let y = c.index-b-j.result in
    let rest = left_of (r.reduced_by m) k (valued value (drop i a)) (valued value (drop (j + 1) b)) in
    let next = turn_second (r.reduced_by m) value k a b i j y c.index-b-j.is (c.in-Greater.ensures.second refl) c.requires.first c.in-Greater.ensures.side in
    let wide : p.has_wide m (p.sum_of (r.reduced_by m) (p.terms_of value c.args.none.now) (p.scaled (r.reduced_by m) ([], k) (p.terms_of value y.poly))) ≡ true = search rules in
    wide_turn m done y.equation _ (p.sum_of (r.reduced_by m) [] (p.scaled (r.reduced_by m) ([], k) (p.terms_of value y.poly))) rest whole _ (ap (λ z. p.sum_of (r.reduced_by m) (p.terms_of value z) (p.scaled (r.reduced_by m) ([], k) (p.terms_of value y.poly))) c.requires.none) wide next c.loop-i.invariant.2

pub loop-i-preserved-in-Greater : goal.loop-i-preserved-in-Greater
loop-i-preserved-in-Greater g c =
    let a = c.args.a.now in let b = c.args.b.now in let i = c.loop-i.i in let j = c.loop-i.j in
    let m = g.R.Ring.modulus_of c.args.ring.now in let value = g.R.Ring.amount c.args.ring.now in
    let ring = is_reduction m (g.met.R.Ring.is_modulus c.args.ring.now) in
    let k = value c.args.c.now in
    let done = valued value c.loop-i.sum.items in
    let whole = left_of (r.reduced_by m) k (valued value (drop i a)) (valued value (drop j b)) in
    let y = c.index-b-j.result in
    let rest = left_of (r.reduced_by m) k (valued value (drop i a)) (valued value (drop (j + 1) b)) in
    let next = turn_second (r.reduced_by m) value k a b i j y c.index-b-j.is (c.in-Greater.ensures.second refl) c.requires.first c.in-Greater.ensures.side in
    let pushed = c.in_ok-push_sum-in-Greater.ensures in
    let both = pushed_turn m done _ y.equation (p.sum_of (r.reduced_by m) (p.terms_of value c.args.none.now) (p.scaled (r.reduced_by m) ([], k) (p.terms_of value y.poly))) (p.sum_of (r.reduced_by m) [] (p.scaled (r.reduced_by m) ([], k) (p.terms_of value y.poly))) rest whole _ (ap (λ z. p.sum_of (r.reduced_by m) (p.terms_of value z) (p.scaled (r.reduced_by m) ([], k) (p.terms_of value y.poly))) c.requires.none) pushed.pushed pushed.not_wide next c.loop-i.invariant.3 c.loop-i.invariant.2 in
    (c.loop-i.invariant.0, omega (arith, c.in-Greater.ensures.second refl), both.0, both.1)

pub returns-in_err-push_sum-in-Equal-clause-wide : goal.returns-in_err-push_sum-in-Equal-clause-wide
returns-in_err-push_sum-in-Equal-clause-wide g c e =
    let a = c.args.a.now in let b = c.args.b.now in let i = c.loop-i.i in let j = c.loop-i.j in
    let m = g.R.Ring.modulus_of c.args.ring.now in let value = g.R.Ring.amount c.args.ring.now in
    let ring = is_reduction m (g.met.R.Ring.is_modulus c.args.ring.now) in
    let k = value c.args.c.now in
    let done = valued value c.loop-i.sum.items in
    let whole = left_of (r.reduced_by m) k (valued value (drop i a)) (valued value (drop j b)) in
    let x = c.index-a-i-in-Equal.result in let y = c.index-b-j-in-Equal.result in
    let rest = left_of (r.reduced_by m) k (valued value (drop (i + 1) a)) (valued value (drop (j + 1) b)) in
    let next = turn_both (r.reduced_by m) ring value k a b i j x y c.index-a-i-in-Equal.is c.index-b-j-in-Equal.is (c.in-Equal.ensures.both_first refl) (c.in-Equal.ensures.both_second refl) c.requires.first c.requires.second c.in-Equal.ensures.side in
    let wide : p.has_wide m (p.sum_of (r.reduced_by m) (p.terms_of value x.poly) (p.scaled (r.reduced_by m) ([], k) (p.terms_of value y.poly))) ≡ true = search rules in
    wide_turn m done y.equation _ (p.sum_of (r.reduced_by m) (p.terms_of value x.poly) (p.scaled (r.reduced_by m) ([], k) (p.terms_of value y.poly))) rest whole _ (refl) wide next c.loop-i.invariant.2

pub loop-i-preserved : goal.loop-i-preserved
loop-i-preserved g c =
    let a = c.args.a.now in let b = c.args.b.now in let i = c.loop-i.i in let j = c.loop-i.j in
    let m = g.R.Ring.modulus_of c.args.ring.now in let value = g.R.Ring.amount c.args.ring.now in
    let ring = is_reduction m (g.met.R.Ring.is_modulus c.args.ring.now) in
    let k = value c.args.c.now in
    let done = valued value c.loop-i.sum.items in
    let whole = left_of (r.reduced_by m) k (valued value (drop i a)) (valued value (drop j b)) in
    let x = c.index-a-i-in-Equal.result in let y = c.index-b-j-in-Equal.result in
    let rest = left_of (r.reduced_by m) k (valued value (drop (i + 1) a)) (valued value (drop (j + 1) b)) in
    let next = turn_both (r.reduced_by m) ring value k a b i j x y c.index-a-i-in-Equal.is c.index-b-j-in-Equal.is (c.in-Equal.ensures.both_first refl) (c.in-Equal.ensures.both_second refl) c.requires.first c.requires.second c.in-Equal.ensures.side in
    let pushed = c.in_ok-push_sum-in-Equal.ensures in
    let both = pushed_turn m done _ y.equation (p.sum_of (r.reduced_by m) (p.terms_of value x.poly) (p.scaled (r.reduced_by m) ([], k) (p.terms_of value y.poly))) (p.sum_of (r.reduced_by m) (p.terms_of value x.poly) (p.scaled (r.reduced_by m) ([], k) (p.terms_of value y.poly))) rest whole _ (refl) pushed.pushed pushed.not_wide next c.loop-i.invariant.3 c.loop-i.invariant.2 in
    (omega (arith, c.in-Equal.ensures.both_first refl), omega (arith, c.in-Equal.ensures.both_second refl), both.0, both.1)

pub push_sum-requires-clause-first : goal.push_sum-requires-clause-first
push_sum-requires-clause-first g c =
    let m = g.R.Ring.modulus_of c.args.ring.now in let value = g.R.Ring.amount c.args.ring.now in
    read_over (r.reduced_by m) value c.args.a.now c.loop-i.i c.index-a-i.result c.index-a-i.is (omega (arith, c.in-Less.ensures.first refl)) c.requires.first

pub push_sum-requires-in-Greater-clause-second : goal.push_sum-requires-in-Greater-clause-second
push_sum-requires-in-Greater-clause-second g c =
    let m = g.R.Ring.modulus_of c.args.ring.now in let value = g.R.Ring.amount c.args.ring.now in
    read_over (r.reduced_by m) value c.args.b.now c.loop-i.j c.index-b-j.result c.index-b-j.is (omega (arith, c.in-Greater.ensures.second refl)) c.requires.second

pub push_sum-requires-in-Equal-clause-first : goal.push_sum-requires-in-Equal-clause-first
push_sum-requires-in-Equal-clause-first g c =
    let m = g.R.Ring.modulus_of c.args.ring.now in let value = g.R.Ring.amount c.args.ring.now in
    read_over (r.reduced_by m) value c.args.a.now c.loop-i.i c.index-a-i-in-Equal.result c.index-a-i-in-Equal.is (omega (arith, c.in-Equal.ensures.both_first refl)) c.requires.first

pub push_sum-requires-in-Equal-clause-second : goal.push_sum-requires-in-Equal-clause-second
push_sum-requires-in-Equal-clause-second g c =
    let m = g.R.Ring.modulus_of c.args.ring.now in let value = g.R.Ring.amount c.args.ring.now in
    read_over (r.reduced_by m) value c.args.b.now c.loop-i.j c.index-b-j-in-Equal.result c.index-b-j-in-Equal.is (omega (arith, c.in-Equal.ensures.both_second refl)) c.requires.second
