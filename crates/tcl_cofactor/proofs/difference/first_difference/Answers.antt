-- Each return names the monomial at which the lists of terms part.
use Rattle.std.proofs.Common.{rules, ◌≡◌, ℕ, ◌+◌, ◌<◌, ◌≤◌, length, drop, refl, sym, ◌∙◌, ap, subst, arith}
use Rattle.tcl_ring.specs.Reduction as r
use Rattle.tcl_poly.specs.Monomial.{Monomial}
use Rattle.tcl_poly.specs.Polynomial as p
use Rattle.tcl_cofactor.proofs.Differences.{moved, found_greater, found_less, found_coefficient, found_longer, found_further, same_further, differs_turned}
use Rattle.tcl_cofactor.proofs.difference.first_difference.Goals as goal
use Rattle.tcl_cofactor.proofs.difference.first_difference.Goals.{then-loop-k-test+else-k-b, else-loop-k-test}

pub returns-in-Greater : goal.returns-in-Greater
returns-in-Greater g c =
    let m = g.R.Ring.modulus_of c.args.ring.now in let value = g.R.Ring.amount c.args.ring.now in
    let reduced = r.reduced_by m in
    let a = c.terms-a.result.now in let b = c.terms-b.result.now in let k = c.loop-k.k in
    let left = ap (p.terms_of value) c.terms-a.ensures in let right = ap (p.terms_of value) c.terms-b.ensures in
    let P : p.Polynomial → Type 0 = λ z. p.IsPolynomial reduced z in
    let first : p.IsPolynomial reduced (p.terms_of value a) = subst P (sym left) c.requires.first in
    let second : p.IsPolynomial reduced (p.terms_of value b) = subst P (sym right) c.requires.second in
    let s = c.index-a-k.result in let t = c.index-b-k.result in
    moved (p.terms_of value a) (p.terms_of value c.args.f.now) (p.terms_of value b) (p.terms_of value c.args.g.now) c.in_ok-copy-in-Greater.field-0 s.0 left right c.in_ok-copy-in-Greater.ensures (c.loop-k.invariant.3 s.0 (found_greater reduced value a b k s t c.index-a-k.is c.index-b-k.is (omega arith) (omega arith) first second c.in-Greater.ensures))

pub returns-in-Less : goal.returns-in-Less
returns-in-Less g c =
    let m = g.R.Ring.modulus_of c.args.ring.now in let value = g.R.Ring.amount c.args.ring.now in
    let reduced = r.reduced_by m in
    let a = c.terms-a.result.now in let b = c.terms-b.result.now in let k = c.loop-k.k in
    let left = ap (p.terms_of value) c.terms-a.ensures in let right = ap (p.terms_of value) c.terms-b.ensures in
    let P : p.Polynomial → Type 0 = λ z. p.IsPolynomial reduced z in
    let first : p.IsPolynomial reduced (p.terms_of value a) = subst P (sym left) c.requires.first in
    let second : p.IsPolynomial reduced (p.terms_of value b) = subst P (sym right) c.requires.second in
    let s = c.index-a-k.result in let t = c.index-b-k.result in
    moved (p.terms_of value a) (p.terms_of value c.args.f.now) (p.terms_of value b) (p.terms_of value c.args.g.now) c.in_ok-copy-in-Less.field-0 t.0 left right c.in_ok-copy-in-Less.ensures (c.loop-k.invariant.3 t.0 (found_less reduced value a b k s t c.index-a-k.is c.index-b-k.is (omega arith) (omega arith) first second c.in-Less.ensures))

pub returns-else-same_value : goal.returns-else-same_value
returns-else-same_value g c =
    let m = g.R.Ring.modulus_of c.args.ring.now in let value = g.R.Ring.amount c.args.ring.now in
    let reduced = r.reduced_by m in
    let a = c.terms-a.result.now in let b = c.terms-b.result.now in let k = c.loop-k.k in
    let left = ap (p.terms_of value) c.terms-a.ensures in let right = ap (p.terms_of value) c.terms-b.ensures in
    let P : p.Polynomial → Type 0 = λ z. p.IsPolynomial reduced z in
    let first : p.IsPolynomial reduced (p.terms_of value a) = subst P (sym left) c.requires.first in
    let second : p.IsPolynomial reduced (p.terms_of value b) = subst P (sym right) c.requires.second in
    let s = c.index-a-k.result in let t = c.index-b-k.result in
    moved (p.terms_of value a) (p.terms_of value c.args.f.now) (p.terms_of value b) (p.terms_of value c.args.g.now) c.in_ok-copy-in-Equal.field-0 s.0 left right c.in_ok-copy-in-Equal.ensures (c.loop-k.invariant.3 s.0 (found_coefficient reduced value a b k s t c.index-a-k.is c.index-b-k.is (omega arith) (omega arith) first second c.in-Equal.ensures c.if-same_value.ensures))

pub loop-k-preserved : goal.loop-k-preserved
loop-k-preserved g c =
    let m = g.R.Ring.modulus_of c.args.ring.now in let value = g.R.Ring.amount c.args.ring.now in
    let reduced = r.reduced_by m in
    let a = c.terms-a.result.now in let b = c.terms-b.result.now in let k = c.loop-k.k in
    let left = ap (p.terms_of value) c.terms-a.ensures in let right = ap (p.terms_of value) c.terms-b.ensures in
    let P : p.Polynomial → Type 0 = λ z. p.IsPolynomial reduced z in
    let first : p.IsPolynomial reduced (p.terms_of value a) = subst P (sym left) c.requires.first in
    let second : p.IsPolynomial reduced (p.terms_of value b) = subst P (sym right) c.requires.second in
    let s = c.index-a-k.result in let t = c.index-b-k.result in (
      omega arith,
      omega arith,
      (λ rest. c.loop-k.invariant.2 (same_further value a b k s t c.index-a-k.is c.index-b-k.is (omega arith) (omega arith) c.in-Equal.ensures c.if-same_value.ensures rest)),
      (λ n d. c.loop-k.invariant.3 n (found_further value a b k s t n c.index-a-k.is c.index-b-k.is (omega arith) (omega arith) c.in-Equal.ensures c.if-same_value.ensures d)),
    )

pub returns-then-k-a : goal.returns-then-k-a
returns-then-k-a g c =
    let m = g.R.Ring.modulus_of c.args.ring.now in let value = g.R.Ring.amount c.args.ring.now in
    let reduced = r.reduced_by m in
    let a = c.terms-a.result.now in let b = c.terms-b.result.now in let k = c.loop-k.k in
    let left = ap (p.terms_of value) c.terms-a.ensures in let right = ap (p.terms_of value) c.terms-b.ensures in
    let P : p.Polynomial → Type 0 = λ z. p.IsPolynomial reduced z in
    let first : p.IsPolynomial reduced (p.terms_of value a) = subst P (sym left) c.requires.first in
    let second : p.IsPolynomial reduced (p.terms_of value b) = subst P (sym right) c.requires.second in
    let ended : length b ≤ k = elim c.loop-k-test.branch [
      | then-loop-k-test+else-k-b w ↦ omega arith
      | else-loop-k-test w ↦ absurd (omega arith)
    ] in
    let s = c.index-a-k-then-k-a.result in
    moved (p.terms_of value a) (p.terms_of value c.args.f.now) (p.terms_of value b) (p.terms_of value c.args.g.now) c.in_ok-copy.field-0 s.0 left right c.in_ok-copy.ensures (c.loop-k.invariant.3 s.0 (found_longer reduced value a b k s c.index-a-k-then-k-a.is (omega arith) ended first))

pub returns-then-k-b-2 : goal.returns-then-k-b-2
returns-then-k-b-2 g c =
    let m = g.R.Ring.modulus_of c.args.ring.now in let value = g.R.Ring.amount c.args.ring.now in
    let reduced = r.reduced_by m in
    let a = c.terms-a.result.now in let b = c.terms-b.result.now in let k = c.loop-k.k in
    let left = ap (p.terms_of value) c.terms-a.ensures in let right = ap (p.terms_of value) c.terms-b.ensures in
    let P : p.Polynomial → Type 0 = λ z. p.IsPolynomial reduced z in
    let first : p.IsPolynomial reduced (p.terms_of value a) = subst P (sym left) c.requires.first in
    let second : p.IsPolynomial reduced (p.terms_of value b) = subst P (sym right) c.requires.second in
    let t = c.index-b-k-then-k-b-2.result in
    moved (p.terms_of value a) (p.terms_of value c.args.f.now) (p.terms_of value b) (p.terms_of value c.args.g.now) c.in_ok-copy-2.field-0 t.0 left right c.in_ok-copy-2.ensures (c.loop-k.invariant.3 t.0 (differs_turned (p.terms_of value (drop k b)) (p.terms_of value (drop k a)) t.0 (found_longer reduced value b a k t c.index-b-k-then-k-b-2.is (omega arith) (omega arith) second)))
