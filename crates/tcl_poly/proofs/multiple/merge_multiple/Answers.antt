-- Each turn takes the first term of what is left.
use Rattle.std.proofs.Common.{rules, ◌≡◌, ◌+◌, ◌≤◌, ◌<◌, [], ◌∷◌, ◌++◌, length, drop, refl, sym, ◌∙◌, ap, arith, true, false, ◌+ℤ◌, ◌*ℤ◌, unsigned_abs, Less, Equal, Greater}
use Rattle.tcl_ring.specs.Reduction as r
use Rattle.tcl_ring.proofs.Reductions.{is_reduction}
use Rattle.tcl_poly.specs.Polynomial as p
use Rattle.tcl_poly.proofs.Cancelling.{left_of, whole_first, whole_second, whole_both, joined_front, joined_copy, wide_next, wide_copy, narrow_next, narrow_copy, left_nothing}
use Rattle.tcl_poly.proofs.TermLists.{terms_append}
use Rattle.tcl_poly.proofs.multiple.merge_multiple.Goals as goal

pub returns-in_err-push_first-in-Greater-clause-wide : goal.returns-in_err-push_first-in-Greater-clause-wide
returns-in_err-push_first-in-Greater-clause-wide g c e =
    let a = c.args.a.now in let b = c.args.b.now in let i = c.loop-i.i in let j = c.loop-i.j in
    let m = g.R.Ring.modulus_of c.args.ring.now in let value = g.R.Ring.amount c.args.ring.now in
    let ring = is_reduction m (g.met.R.Ring.is_modulus c.args.ring.now) in
    let k = value c.args.c.now in
    let done = p.terms_of value c.loop-i.sum.items in
    let whole = left_of (r.reduced_by m) value k (drop i a) (drop j b) in
    let s = c.index-a-i.result in
    let rest = left_of (r.reduced_by m) value k (drop (i + 1) a) (drop j b) in
    let next = whole_first (r.reduced_by m) ring value k a b i j s c.index-a-i.is (c.in-Greater.ensures.first refl) c.requires.first c.requires.second c.in-Greater.ensures.side in
    let wide : r.is_wide m (unsigned_abs (value s.1)) ≡ true = search rules in
    ap (p.has_wide m) (sym c.loop-i.invariant.2) ∙ wide_copy m done whole rest (s.0, value s.1) wide next

pub loop-i-preserved-in-Greater : goal.loop-i-preserved-in-Greater
loop-i-preserved-in-Greater g c =
    let a = c.args.a.now in let b = c.args.b.now in let i = c.loop-i.i in let j = c.loop-i.j in
    let m = g.R.Ring.modulus_of c.args.ring.now in let value = g.R.Ring.amount c.args.ring.now in
    let ring = is_reduction m (g.met.R.Ring.is_modulus c.args.ring.now) in
    let k = value c.args.c.now in
    let done = p.terms_of value c.loop-i.sum.items in
    let whole = left_of (r.reduced_by m) value k (drop i a) (drop j b) in
    let s = c.index-a-i.result in
    let rest = left_of (r.reduced_by m) value k (drop (i + 1) a) (drop j b) in
    let next = whole_first (r.reduced_by m) ring value k a b i j s c.index-a-i.is (c.in-Greater.ensures.first refl) c.requires.first c.requires.second c.in-Greater.ensures.side in
    let pushed = c.in_ok-push_first-in-Greater.ensures.pushed in
    let after = ap (p.terms_of value) pushed ∙ terms_append value c.loop-i.sum.items (s ∷ []) in (
      omega (arith, c.in-Greater.ensures.first refl),
      c.loop-i.invariant.1,
      ap (λ x. p.terms_of value x ++ rest) pushed ∙ joined_copy value c.loop-i.sum.items s rest whole next ∙ c.loop-i.invariant.2,
      narrow_copy m done (p.terms_of value c.push_first.new.sum.items) (s.0, value s.1) c.in_ok-push_first-in-Greater.ensures.not_wide after c.loop-i.invariant.3,
    )

pub returns-in_err-push_second-in-Less-clause-wide : goal.returns-in_err-push_second-in-Less-clause-wide
returns-in_err-push_second-in-Less-clause-wide g c e =
    let a = c.args.a.now in let b = c.args.b.now in let i = c.loop-i.i in let j = c.loop-i.j in
    let m = g.R.Ring.modulus_of c.args.ring.now in let value = g.R.Ring.amount c.args.ring.now in
    let ring = is_reduction m (g.met.R.Ring.is_modulus c.args.ring.now) in
    let k = value c.args.c.now in
    let done = p.terms_of value c.loop-i.sum.items in
    let whole = left_of (r.reduced_by m) value k (drop i a) (drop j b) in
    let u = c.index-b-j.result in
    let n = k *ℤ value u.1 in
    let rest = left_of (r.reduced_by m) value k (drop i a) (drop (j + 1) b) in
    let next = whole_second (r.reduced_by m) ring value k a b i j u c.index-b-j.is (c.in-Less.ensures.second refl) c.requires.first c.requires.second c.in-Less.ensures.side in
    let wide : r.is_wide m (unsigned_abs n) ≡ true = search rules in
    ap (p.has_wide m) (sym c.loop-i.invariant.2) ∙ wide_next m done whole rest u.0 n wide next

pub loop-i-preserved-in-Less : goal.loop-i-preserved-in-Less
loop-i-preserved-in-Less g c =
    let a = c.args.a.now in let b = c.args.b.now in let i = c.loop-i.i in let j = c.loop-i.j in
    let m = g.R.Ring.modulus_of c.args.ring.now in let value = g.R.Ring.amount c.args.ring.now in
    let ring = is_reduction m (g.met.R.Ring.is_modulus c.args.ring.now) in
    let k = value c.args.c.now in
    let done = p.terms_of value c.loop-i.sum.items in
    let whole = left_of (r.reduced_by m) value k (drop i a) (drop j b) in
    let u = c.index-b-j.result in
    let n = k *ℤ value u.1 in
    let rest = left_of (r.reduced_by m) value k (drop i a) (drop (j + 1) b) in
    let next = whole_second (r.reduced_by m) ring value k a b i j u c.index-b-j.is (c.in-Less.ensures.second refl) c.requires.first c.requires.second c.in-Less.ensures.side in
    let pushed = c.in_ok-push_second-in-Less.ensures.pushed in (
      c.loop-i.invariant.0,
      omega (arith, c.in-Less.ensures.second refl),
      joined_front (r.reduced_by m) value c.loop-i.sum.items c.push_second.new.sum.items u.0 (r.reduced_by m n) rest whole pushed next ∙ c.loop-i.invariant.2,
      narrow_next m done (p.terms_of value c.push_second.new.sum.items) u.0 n c.in_ok-push_second-in-Less.ensures.not_wide pushed c.loop-i.invariant.3,
    )

pub returns-in_err-push_both-in-Equal-clause-wide : goal.returns-in_err-push_both-in-Equal-clause-wide
returns-in_err-push_both-in-Equal-clause-wide g c e =
    let a = c.args.a.now in let b = c.args.b.now in let i = c.loop-i.i in let j = c.loop-i.j in
    let m = g.R.Ring.modulus_of c.args.ring.now in let value = g.R.Ring.amount c.args.ring.now in
    let ring = is_reduction m (g.met.R.Ring.is_modulus c.args.ring.now) in
    let k = value c.args.c.now in
    let done = p.terms_of value c.loop-i.sum.items in
    let whole = left_of (r.reduced_by m) value k (drop i a) (drop j b) in
    let s = c.index-a-i-in-Equal.result in let u = c.index-b-j-in-Equal.result in
    let n = value s.1 +ℤ k *ℤ value u.1 in
    let rest = left_of (r.reduced_by m) value k (drop (i + 1) a) (drop (j + 1) b) in
    let next = whole_both (r.reduced_by m) ring value k a b i j s u c.index-a-i-in-Equal.is c.index-b-j-in-Equal.is (c.in-Equal.ensures.both_first refl) (c.in-Equal.ensures.both_second refl) c.requires.first c.requires.second c.in-Equal.ensures.side in
    let wide : r.is_wide m (unsigned_abs n) ≡ true = search rules in
    ap (p.has_wide m) (sym c.loop-i.invariant.2) ∙ wide_next m done whole rest u.0 n wide next

pub loop-i-preserved : goal.loop-i-preserved
loop-i-preserved g c =
    let a = c.args.a.now in let b = c.args.b.now in let i = c.loop-i.i in let j = c.loop-i.j in
    let m = g.R.Ring.modulus_of c.args.ring.now in let value = g.R.Ring.amount c.args.ring.now in
    let ring = is_reduction m (g.met.R.Ring.is_modulus c.args.ring.now) in
    let k = value c.args.c.now in
    let done = p.terms_of value c.loop-i.sum.items in
    let whole = left_of (r.reduced_by m) value k (drop i a) (drop j b) in
    let s = c.index-a-i-in-Equal.result in let u = c.index-b-j-in-Equal.result in
    let n = value s.1 +ℤ k *ℤ value u.1 in
    let rest = left_of (r.reduced_by m) value k (drop (i + 1) a) (drop (j + 1) b) in
    let next = whole_both (r.reduced_by m) ring value k a b i j s u c.index-a-i-in-Equal.is c.index-b-j-in-Equal.is (c.in-Equal.ensures.both_first refl) (c.in-Equal.ensures.both_second refl) c.requires.first c.requires.second c.in-Equal.ensures.side in
    let pushed = c.in_ok-push_both-in-Equal.ensures.pushed in (
      omega (arith, c.in-Equal.ensures.both_first refl),
      omega (arith, c.in-Equal.ensures.both_second refl),
      joined_front (r.reduced_by m) value c.loop-i.sum.items c.push_both.new.sum.items u.0 (r.reduced_by m n) rest whole pushed next ∙ c.loop-i.invariant.2,
      narrow_next m done (p.terms_of value c.push_both.new.sum.items) u.0 n c.in_ok-push_both-in-Equal.ensures.not_wide pushed c.loop-i.invariant.3,
    )
