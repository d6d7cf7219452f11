-- Each return is the case that its counts say.
use Rattle.std.proofs.Common.{◌≡◌, suc, ◌<◌, ◌≤◌, refl, ◌∙◌, sym, ap, subst, arith}
use Rattle.tcl_ring.specs.Reduction.{reduced_by}
use Rattle.tcl_ring.proofs.Reductions.{is_reduction}
use Rattle.tcl_poly.specs.Unknown.{variable_key}
use Rattle.tcl_poly.specs.Polynomial as p
use Rattle.tcl_poly.proofs.TermLists.{degree_of_values}
use Rattle.tcl_reduce.specs.Parts.{top, by_power, joined_by, AreParts}
use Rattle.tcl_reduce.specs.Reduction.{Definition}
use Rattle.tcl_reduce.proofs.Stepping.{steps_fit}
use Rattle.tcl_reduce.proofs.StepCases.{total_is, degree_is, terms_is, greatest_is, goes_same, goes_wide, goes_deep, goes_long, goes_further, substituted_facts, rows_read, made_is, parts_joined}
use Rattle.tcl_reduce.proofs.ValueLists.{top_values}
use Rattle.tcl_reduce.proofs.PartLists.{top_degree}
use Rattle.tcl_reduce.proofs.step.reduce_by.Goals as goal

pub returns-then-not-occurs-clause-continues : goal.returns-then-not-occurs-clause-continues
returns-then-not-occurs-clause-continues g c =
    let m = g.R.Ring.modulus_of c.args.ring.now in let value = g.R.Ring.amount c.args.ring.now in
    let u = variable_key c.args.definition.now.variable in let d = c.args.definition.now.poly in let f = c.args.f in
    let x : Definition = (c.args.definition.now.place, u, p.terms_of value d) in let q = p.terms_of value f in
    let none : top u f ≡ 0 = subst (λ z. top z f ≡ 0) c.variable_key-key.ensures c.if-not-occurs.ensures in
    λ same further. goes_same m x q c.args.spent 0 same further (top_values value u f ∙ none) refl

pub greatest-top-requires-clause-narrow : goal.greatest-top-requires-clause-narrow
greatest-top-requires-clause-narrow g c =
    let m = g.R.Ring.modulus_of c.args.ring.now in let value = g.R.Ring.amount c.args.ring.now in
    let u = c.variable_key-key.result in let f = c.args.f in
    let fs = c.as_slice-list.result.now in
    let parts : AreParts u f fs = subst (λ z. AreParts u f z) (sym c.as_slice-list.ensures.value) c.in_ok-parts.ensures in
    omega (arith, parts.0, c.requires.degree, top_degree (reduced_by m) value u f c.requires.polynomial)

pub returns-then-is_wide-clause-continues : goal.returns-then-is_wide-clause-continues
returns-then-is_wide-clause-continues g c =
    let m = g.R.Ring.modulus_of c.args.ring.now in let value = g.R.Ring.amount c.args.ring.now in
    let u = variable_key c.args.definition.now.variable in let d = c.args.definition.now.poly in let f = c.args.f in
    let x : Definition = (c.args.definition.now.place, u, p.terms_of value d) in let q = p.terms_of value f in
    let spent = c.args.spent in let n = c.greatest-top.result in
    let fs = c.as_slice-list.result.now in
    let parts : AreParts u f fs = subst (λ z. AreParts z f fs) c.variable_key-key.ensures (subst (λ z. AreParts c.variable_key-key.result f z) (sym c.as_slice-list.ensures.value) c.in_ok-parts.ensures) in
    let last : n ≡ top u f = omega (arith, parts.0, c.greatest-top.ensures) in
    let t = greatest_is value u n f last in
    let occurs : 0 < n = omega (arith, last, subst (λ z. 0 < top z f) c.variable_key-key.ensures c.if-not-occurs.ensures) in
    let total = c.saturating_sum-spent.result in
    let e = total_is value u n x.2 f fs spent c.bound.result total parts c.bound.ensures c.saturating_sum-spent.ensures in
    λ same further. goes_wide m x q spent n total same further t occurs e (sym c.if-is_wide.ensures)

pub returns-then-degree-gt-DEGREE-clause-continues : goal.returns-then-degree-gt-DEGREE-clause-continues
returns-then-degree-gt-DEGREE-clause-continues g c =
    let m = g.R.Ring.modulus_of c.args.ring.now in let value = g.R.Ring.amount c.args.ring.now in
    let u = variable_key c.args.definition.now.variable in let d = c.args.definition.now.poly in let f = c.args.f in
    let x : Definition = (c.args.definition.now.place, u, p.terms_of value d) in let q = p.terms_of value f in
    let spent = c.args.spent in let n = c.greatest-top.result in
    let fs = c.as_slice-list.result.now in
    let parts : AreParts u f fs = subst (λ z. AreParts z f fs) c.variable_key-key.ensures (subst (λ z. AreParts c.variable_key-key.result f z) (sym c.as_slice-list.ensures.value) c.in_ok-parts.ensures) in
    let last : n ≡ top u f = omega (arith, parts.0, c.greatest-top.ensures) in
    let t = greatest_is value u n f last in
    let occurs : 0 < n = omega (arith, last, subst (λ z. 0 < top z f) c.variable_key-key.ensures c.if-not-occurs.ensures) in
    let total = c.saturating_sum-spent.result in
    let e = total_is value u n x.2 f fs spent c.bound.result total parts c.bound.ensures c.saturating_sum-spent.ensures in
    let deepest = c.deepest-degree.result in
    let degree = degree_is value u n d f fs deepest parts last c.deepest-degree.ensures in
    λ same further. goes_deep m x q spent n total deepest same further t occurs e (sym c.if-is_wide.ensures) degree (omega (arith, c.if-degree-gt-DEGREE.true))

pub returns-then-terms-gt-TERMS-clause-continues : goal.returns-then-terms-gt-TERMS-clause-continues
returns-then-terms-gt-TERMS-clause-continues g c =
    let m = g.R.Ring.modulus_of c.args.ring.now in let value = g.R.Ring.amount c.args.ring.now in
    let u = variable_key c.args.definition.now.variable in let d = c.args.definition.now.poly in let f = c.args.f in
    let x : Definition = (c.args.definition.now.place, u, p.terms_of value d) in let q = p.terms_of value f in
    let spent = c.args.spent in let n = c.greatest-top.result in
    let fs = c.as_slice-list.result.now in
    let parts : AreParts u f fs = subst (λ z. AreParts z f fs) c.variable_key-key.ensures (subst (λ z. AreParts c.variable_key-key.result f z) (sym c.as_slice-list.ensures.value) c.in_ok-parts.ensures) in
    let last : n ≡ top u f = omega (arith, parts.0, c.greatest-top.ensures) in
    let t = greatest_is value u n f last in
    let occurs : 0 < n = omega (arith, last, subst (λ z. 0 < top z f) c.variable_key-key.ensures c.if-not-occurs.ensures) in
    let total = c.saturating_sum-spent.result in
    let e = total_is value u n x.2 f fs spent c.bound.result total parts c.bound.ensures c.saturating_sum-spent.ensures in
    let deepest = c.deepest-degree.result in
    let degree = degree_is value u n d f fs deepest parts last c.deepest-degree.ensures in
    let shallow : deepest ≤ 1024 = omega (arith, c.if-degree-gt-DEGREE.false) in
    let counted = c.count-terms.result in
    let terms = terms_is value u n d f fs counted parts last c.count-terms.ensures in
    λ same further. goes_long m x q spent n total deepest counted same further t occurs e (sym c.if-is_wide.ensures) degree shallow terms (omega (arith, c.if-terms-gt-TERMS.true))

pub substitute-requires-clause-first : goal.substitute-requires-clause-first
substitute-requires-clause-first g c =
    let m = g.R.Ring.modulus_of c.args.ring.now in let value = g.R.Ring.amount c.args.ring.now in
    let u = variable_key c.args.definition.now.variable in let d = c.args.definition.now.poly in let f = c.args.f in
    let x : Definition = (c.args.definition.now.place, u, p.terms_of value d) in let q = p.terms_of value f in
    let spent = c.args.spent in let n = c.greatest-top.result in
    let fs = c.as_slice-list.result.now in
    let parts : AreParts u f fs = subst (λ z. AreParts z f fs) c.variable_key-key.ensures (subst (λ z. AreParts c.variable_key-key.result f z) (sym c.as_slice-list.ensures.value) c.in_ok-parts.ensures) in
    let last : n ≡ top u f = omega (arith, parts.0, c.greatest-top.ensures) in
    let t = greatest_is value u n f last in
    let occurs : 0 < n = omega (arith, last, subst (λ z. 0 < top z f) c.variable_key-key.ensures c.if-not-occurs.ensures) in
    let total = c.saturating_sum-spent.result in
    let e = total_is value u n x.2 f fs spent c.bound.result total parts c.bound.ensures c.saturating_sum-spent.ensures in
    let deepest = c.deepest-degree.result in
    let degree = degree_is value u n d f fs deepest parts last c.deepest-degree.ensures in
    let shallow : deepest ≤ 1024 = omega (arith, c.if-degree-gt-DEGREE.false) in
    let all = substituted_facts m x q spent n total deepest c.requires.definition c.requires.polynomial (omega (arith, c.requires.degree, degree_of_values value f)) c.requires.covered t occurs e (sym c.if-is_wide.ensures) degree shallow in
    let all_parts = c.in_ok-parts.parts.items in let others = c.as_slice.result.now in
    let joined = parts_joined u f c.take_first-first.result all_parts others (subst (λ z. AreParts z f all_parts) c.variable_key-key.ensures c.in_ok-parts.ensures) c.take_first-first.ensures.first
    (λ k. ap (λ z. by_power z (suc k)) c.as_slice.ensures.value ∙ c.take_first-first.ensures.others k) in
    (rows_read m value x f (joined_by c.take_first-first.result c.as_slice.result.now) spent n 0 joined all (omega arith)).over

pub substitute-requires-clause-rows : goal.substitute-requires-clause-rows
substitute-requires-clause-rows g c =
    let m = g.R.Ring.modulus_of c.args.ring.now in let value = g.R.Ring.amount c.args.ring.now in
    let u = variable_key c.args.definition.now.variable in let d = c.args.definition.now.poly in let f = c.args.f in
    let x : Definition = (c.args.definition.now.place, u, p.terms_of value d) in let q = p.terms_of value f in
    let spent = c.args.spent in let n = c.greatest-top.result in
    let fs = c.as_slice-list.result.now in
    let parts : AreParts u f fs = subst (λ z. AreParts z f fs) c.variable_key-key.ensures (subst (λ z. AreParts c.variable_key-key.result f z) (sym c.as_slice-list.ensures.value) c.in_ok-parts.ensures) in
    let last : n ≡ top u f = omega (arith, parts.0, c.greatest-top.ensures) in
    let t = greatest_is value u n f last in
    let occurs : 0 < n = omega (arith, last, subst (λ z. 0 < top z f) c.variable_key-key.ensures c.if-not-occurs.ensures) in
    let total = c.saturating_sum-spent.result in
    let e = total_is value u n x.2 f fs spent c.bound.result total parts c.bound.ensures c.saturating_sum-spent.ensures in
    let deepest = c.deepest-degree.result in
    let degree = degree_is value u n d f fs deepest parts last c.deepest-degree.ensures in
    let shallow : deepest ≤ 1024 = omega (arith, c.if-degree-gt-DEGREE.false) in
    let all = substituted_facts m x q spent n total deepest c.requires.definition c.requires.polynomial (omega (arith, c.requires.degree, degree_of_values value f)) c.requires.covered t occurs e (sym c.if-is_wide.ensures) degree shallow in
    let all_parts = c.in_ok-parts.parts.items in let others = c.as_slice.result.now in
    let joined = parts_joined u f c.take_first-first.result all_parts others (subst (λ z. AreParts z f all_parts) c.variable_key-key.ensures c.in_ok-parts.ensures) c.take_first-first.ensures.first
    (λ k. ap (λ z. by_power z (suc k)) c.as_slice.ensures.value ∙ c.take_first-first.ensures.others k) in
    λ j l. rows_read m value x f (joined_by c.take_first-first.result c.as_slice.result.now) spent n (suc j) joined all (omega (arith, l))

pub substitute-requires-clause-steps : goal.substitute-requires-clause-steps
substitute-requires-clause-steps g c =
    let m = g.R.Ring.modulus_of c.args.ring.now in let value = g.R.Ring.amount c.args.ring.now in
    let u = variable_key c.args.definition.now.variable in let d = c.args.definition.now.poly in let f = c.args.f in
    let x : Definition = (c.args.definition.now.place, u, p.terms_of value d) in let q = p.terms_of value f in
    let spent = c.args.spent in let n = c.greatest-top.result in
    let fs = c.as_slice-list.result.now in
    let parts : AreParts u f fs = subst (λ z. AreParts z f fs) c.variable_key-key.ensures (subst (λ z. AreParts c.variable_key-key.result f z) (sym c.as_slice-list.ensures.value) c.in_ok-parts.ensures) in
    let last : n ≡ top u f = omega (arith, parts.0, c.greatest-top.ensures) in
    let t = greatest_is value u n f last in
    let occurs : 0 < n = omega (arith, last, subst (λ z. 0 < top z f) c.variable_key-key.ensures c.if-not-occurs.ensures) in
    let total = c.saturating_sum-spent.result in
    let e = total_is value u n x.2 f fs spent c.bound.result total parts c.bound.ensures c.saturating_sum-spent.ensures in
    let deepest = c.deepest-degree.result in
    let degree = degree_is value u n d f fs deepest parts last c.deepest-degree.ensures in
    let shallow : deepest ≤ 1024 = omega (arith, c.if-degree-gt-DEGREE.false) in
    let all = substituted_facts m x q spent n total deepest c.requires.definition c.requires.polynomial (omega (arith, c.requires.degree, degree_of_values value f)) c.requires.covered t occurs e (sym c.if-is_wide.ensures) degree shallow in
    λ j l. steps_fit m x q spent n j all l

pub returns-clause-continues : goal.returns-clause-continues
returns-clause-continues g c =
    let m = g.R.Ring.modulus_of c.args.ring.now in let value = g.R.Ring.amount c.args.ring.now in
    let u = variable_key c.args.definition.now.variable in let d = c.args.definition.now.poly in let f = c.args.f in
    let x : Definition = (c.args.definition.now.place, u, p.terms_of value d) in let q = p.terms_of value f in
    let spent = c.args.spent in let n = c.greatest-top.result in
    let fs = c.as_slice-list.result.now in
    let parts : AreParts u f fs = subst (λ z. AreParts z f fs) c.variable_key-key.ensures (subst (λ z. AreParts c.variable_key-key.result f z) (sym c.as_slice-list.ensures.value) c.in_ok-parts.ensures) in
    let last : n ≡ top u f = omega (arith, parts.0, c.greatest-top.ensures) in
    let t = greatest_is value u n f last in
    let occurs : 0 < n = omega (arith, last, subst (λ z. 0 < top z f) c.variable_key-key.ensures c.if-not-occurs.ensures) in
    let total = c.saturating_sum-spent.result in
    let e = total_is value u n x.2 f fs spent c.bound.result total parts c.bound.ensures c.saturating_sum-spent.ensures in
    let deepest = c.deepest-degree.result in
    let degree = degree_is value u n d f fs deepest parts last c.deepest-degree.ensures in
    let shallow : deepest ≤ 1024 = omega (arith, c.if-degree-gt-DEGREE.false) in
    let counted = c.count-terms.result in
    let terms = terms_is value u n d f fs counted parts last c.count-terms.ensures in
    let short : counted ≤ 65536 = omega (arith, c.if-terms-gt-TERMS.false) in
    λ same further. goes_further m x q spent n total deepest counted same further t occurs e (sym c.if-is_wide.ensures) degree shallow terms short

pub returns-clause-made : goal.returns-clause-made
returns-clause-made g c =
    let m = g.R.Ring.modulus_of c.args.ring.now in let value = g.R.Ring.amount c.args.ring.now in
    let u = variable_key c.args.definition.now.variable in let d = c.args.definition.now.poly in let f = c.args.f in
    let x : Definition = (c.args.definition.now.place, u, p.terms_of value d) in let q = p.terms_of value f in
    let spent = c.args.spent in let n = c.greatest-top.result in
    let fs = c.as_slice-list.result.now in
    let parts : AreParts u f fs = subst (λ z. AreParts z f fs) c.variable_key-key.ensures (subst (λ z. AreParts c.variable_key-key.result f z) (sym c.as_slice-list.ensures.value) c.in_ok-parts.ensures) in
    let last : n ≡ top u f = omega (arith, parts.0, c.greatest-top.ensures) in
    let t = greatest_is value u n f last in
    let occurs : 0 < n = omega (arith, last, subst (λ z. 0 < top z f) c.variable_key-key.ensures c.if-not-occurs.ensures) in
    let total = c.saturating_sum-spent.result in
    let e = total_is value u n x.2 f fs spent c.bound.result total parts c.bound.ensures c.saturating_sum-spent.ensures in
    let deepest = c.deepest-degree.result in
    let degree = degree_is value u n d f fs deepest parts last c.deepest-degree.ensures in
    let shallow : deepest ≤ 1024 = omega (arith, c.if-degree-gt-DEGREE.false) in
    let all = substituted_facts m x q spent n total deepest c.requires.definition c.requires.polynomial (omega (arith, c.requires.degree, degree_of_values value f)) c.requires.covered t occurs e (sym c.if-is_wide.ensures) degree shallow in
    let all_parts = c.in_ok-parts.parts.items in let others = c.as_slice.result.now in
    let joined = parts_joined u f c.take_first-first.result all_parts others (subst (λ z. AreParts z f all_parts) c.variable_key-key.ensures c.in_ok-parts.ensures) c.take_first-first.ensures.first
    (λ k. ap (λ z. by_power z (suc k)) c.as_slice.ensures.value ∙ c.take_first-first.ensures.others k) in
    made_is m (is_reduction m (g.met.R.Ring.is_modulus c.args.ring.now)) value x f (joined_by c.take_first-first.result c.as_slice.result.now) spent n total (p.terms_of value c.in_ok-made.made.rest) (p.terms_of value c.in_ok-made.made.cofactor) joined all e c.in_ok-made.ensures.rest c.in_ok-made.ensures.cofactor
