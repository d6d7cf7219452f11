-- Each turn takes one definition, and the reduction's end is that of the whole.
use Rattle.std.proofs.Common.{rules, ◌≡◌, suc, ◌-◌, reverse, min, ◌^◌, sym, ◌∙◌, ap, subst, arith}
use Rattle.tcl_ring.specs.Reduction as r
use Rattle.tcl_poly.specs.Unknown.{variable_key}
use Rattle.tcl_poly.specs.Polynomial as p
use Rattle.tcl_poly.proofs.TermLists.{degree_of_values}
use Rattle.tcl_reduce.specs.Answer.{definitions_of, numbered}
use Rattle.tcl_reduce.specs.Reduction.{Definition, reduced_from, reduced_of}
use Rattle.tcl_reduce.specs.Reduction.Reduced.{Done, TooWide, TooLarge}
use Rattle.tcl_port.specs.declared.limit.At.TheVariants.{Line}
use Rattle.tcl_reduce.specs.Remainder.{pairs_of}
use Rattle.tcl_reduce.specs.Step.{IsCovered, IsNext, continued}
use Rattle.tcl_reduce.proofs.PlainTurns.{definition_read, read_over, go_same, go_end, go_next, first_covered, go_first, cofactor_pushed, plain_ends, plain_shown}
use Rattle.tcl_reduce.proofs.reduction.plain.Goals as goal

pub loop-k-init : goal.loop-k-init
loop-k-init g c =
    let m = g.R.Ring.modulus_of c.args.ring.now in let value = g.R.Ring.amount c.args.ring.now in
    let xs = c.args.defs.now in let defs = definitions_of value xs in let f = p.terms_of value c.args.f.now in
    let whole = reduced_of m defs f in
    let copied : c.in-Ok.rest ≡ c.args.f.now = search rules in
    let spent : c.norm_of_terms-spent.result ≡ min (p.norm_of f) (2 ^ 127) = search rules in
    let same = ap (p.terms_of value) copied in
    let P : p.Polynomial → Type 0 = λ q. p.IsPolynomial (r.reduced_by m) q in (
      omega (arith, c.len-k.ensures.len),
      subst P (sym same) c.requires.polynomial,
      omega (arith, c.requires.degree, ap p.degree_of copied),
      first_covered m (p.norm_of (p.terms_of value c.in-Ok.rest)) c.norm_of_terms-spent.result (spent ∙ ap (λ q. min (p.norm_of q) (2 ^ 127)) (sym same)),
      omega (arith, spent),
      ap (λ z. reduced_from m defs c.len-k.result (p.terms_of value c.in-Ok.rest) c.norm_of_terms-spent.result (pairs_of value (reverse (numbered z)))) c.new-cofactors.ensures.items
          ∙ go_first m value xs c.len-k.result c.norm_of_terms-spent.result f (p.terms_of value c.in-Ok.rest) c.len-k.ensures.len same spent,
    )

pub reduce_by-requires-clause-definition : goal.reduce_by-requires-clause-definition
reduce_by-requires-clause-definition g c =
    let m = g.R.Ring.modulus_of c.args.ring.now in let value = g.R.Ring.amount c.args.ring.now in
    let xs = c.args.defs.now in let defs = definitions_of value xs in let f = p.terms_of value c.args.f.now in
    let whole = reduced_of m defs f in
    let x = c.at-definition.result.now in
    read_over m value xs (c.loop-k.k - 1) (x.place, x.variable, x.poly) c.at-definition.ensures.definition c.requires.definitions

pub loop-k-preserved-in-Ok-Same : goal.loop-k-preserved-in-Ok-Same
loop-k-preserved-in-Ok-Same g c =
    let m = g.R.Ring.modulus_of c.args.ring.now in let value = g.R.Ring.amount c.args.ring.now in
    let xs = c.args.defs.now in let defs = definitions_of value xs in let f = p.terms_of value c.args.f.now in
    let whole = reduced_of m defs f in
    let k = c.loop-k.k in let j = k - 1 in
    let place : k ≡ suc j = omega (arith, c.loop-k-test.true) in
    let x = c.at-definition.result.now in
    let y : Definition = (x.place, variable_key x.variable, p.terms_of value x.poly) in
    let read = definition_read value xs j (x.place, x.variable, x.poly) c.at-definition.ensures.definition in
    let rest = p.terms_of value c.loop-k.rest in let spent = c.loop-k.spent in
    let cs = pairs_of value (reverse (numbered c.loop-k.cofactors.items)) in
    let so_far = c.loop-k.invariant.5 in
    let same = c.in-Ok-Same.same in
    let kept : p.terms_of value same ≡ rest = subst (λ z. IsNext m value y rest spent z) c.in-Ok-Same.field-0-is c.in-Ok-Same.ensures.made in
    let P : p.Polynomial → Type 0 = λ z. p.IsPolynomial (r.reduced_by m) z in
    let C : p.Polynomial → Type 0 = λ z. IsCovered m (p.norm_of z) spent in
    let inv = c.loop-k.invariant in (
      omega (arith, inv.0),
      subst P (sym kept) inv.1,
      omega (arith, inv.2, ap p.degree_of kept, degree_of_values value same, degree_of_values value c.loop-k.rest),
      subst C (sym kept) inv.3,
      inv.4,
      ap (λ z. reduced_from m defs j z spent cs) kept
          ∙ go_same m defs j k rest spent cs y whole place read (λ same further. c.in-Ok-Same.ensures.continues same further ∙ ap (continued x.place same further) c.in-Ok-Same.field-0-is) so_far,
    )

pub push-requires : goal.push-requires
push-requires g c =
    omega (arith, c.at-definition.ensures.narrow)

pub loop-k-preserved : goal.loop-k-preserved
loop-k-preserved g c =
    let m = g.R.Ring.modulus_of c.args.ring.now in let value = g.R.Ring.amount c.args.ring.now in
    let xs = c.args.defs.now in let defs = definitions_of value xs in let f = p.terms_of value c.args.f.now in
    let whole = reduced_of m defs f in
    let k = c.loop-k.k in let j = k - 1 in
    let place : k ≡ suc j = omega (arith, c.loop-k-test.true) in
    let x = c.at-definition.result.now in
    let y : Definition = (x.place, variable_key x.variable, p.terms_of value x.poly) in
    let read = definition_read value xs j (x.place, x.variable, x.poly) c.at-definition.ensures.definition in
    let rest = p.terms_of value c.loop-k.rest in let spent = c.loop-k.spent in
    let cs = pairs_of value (reverse (numbered c.loop-k.cofactors.items)) in
    let so_far = c.loop-k.invariant.5 in
    let made = c.in-Ok-Next.made in
    let facts = subst (λ z. IsNext m value y rest spent z) c.in-Ok-Next.field-0-is c.in-Ok-Next.ensures.made in
    let after = cofactor_pushed value (numbered c.loop-k.cofactors.items) (numbered c.push.new.cofactors.items) j made.cofactor (search rules) in (
      omega (arith, c.loop-k.invariant.0),
      facts.over,
      omega (arith, facts.degree, degree_of_values value made.rest),
      facts.covered,
      omega (arith, facts.total),
      go_next m defs j k rest spent cs (pairs_of value (reverse (numbered c.push.new.cofactors.items))) y whole (p.terms_of value made.rest) (p.terms_of value made.cofactor) c.in-Ok-Next.total place read (λ same further. c.in-Ok-Next.ensures.continues same further ∙ ap (continued x.place same further) c.in-Ok-Next.field-0-is) facts after so_far,
    )

pub returns-in-Ok-Wide : goal.returns-in-Ok-Wide
returns-in-Ok-Wide g c =
    let m = g.R.Ring.modulus_of c.args.ring.now in let value = g.R.Ring.amount c.args.ring.now in
    let xs = c.args.defs.now in let defs = definitions_of value xs in let f = p.terms_of value c.args.f.now in
    let whole = reduced_of m defs f in
    let k = c.loop-k.k in let j = k - 1 in
    let place : k ≡ suc j = omega (arith, c.loop-k-test.true) in
    let x = c.at-definition.result.now in
    let y : Definition = (x.place, variable_key x.variable, p.terms_of value x.poly) in
    let read = definition_read value xs j (x.place, x.variable, x.poly) c.at-definition.ensures.definition in
    let rest = p.terms_of value c.loop-k.rest in let spent = c.loop-k.spent in
    let cs = pairs_of value (reverse (numbered c.loop-k.cofactors.items)) in
    let so_far = c.loop-k.invariant.5 in
    record { plain = go_end m defs j k rest spent cs y whole (TooWide (Line x.place)) place read (λ same further. c.in-Ok-Wide.ensures.continues same further ∙ ap (continued x.place same further) c.in-Ok-Wide.field-0-is) so_far; shown = λ equations begins. tt }

pub returns-in-Ok-Large : goal.returns-in-Ok-Large
returns-in-Ok-Large g c =
    let m = g.R.Ring.modulus_of c.args.ring.now in let value = g.R.Ring.amount c.args.ring.now in
    let xs = c.args.defs.now in let defs = definitions_of value xs in let f = p.terms_of value c.args.f.now in
    let whole = reduced_of m defs f in
    let k = c.loop-k.k in let j = k - 1 in
    let place : k ≡ suc j = omega (arith, c.loop-k-test.true) in
    let x = c.at-definition.result.now in
    let y : Definition = (x.place, variable_key x.variable, p.terms_of value x.poly) in
    let read = definition_read value xs j (x.place, x.variable, x.poly) c.at-definition.ensures.definition in
    let rest = p.terms_of value c.loop-k.rest in let spent = c.loop-k.spent in
    let cs = pairs_of value (reverse (numbered c.loop-k.cofactors.items)) in
    let so_far = c.loop-k.invariant.5 in
    record { plain = go_end m defs j k rest spent cs y whole (TooLarge c.in-Ok-Large.what c.in-Ok-Large.n) place read (λ same further. c.in-Ok-Large.ensures.continues same further ∙ ap (continued x.place same further) c.in-Ok-Large.field-0-is) so_far; shown = λ equations begins. tt }

pub returns : goal.returns
returns g c =
    let m = g.R.Ring.modulus_of c.args.ring.now in let value = g.R.Ring.amount c.args.ring.now in
    let xs = c.args.defs.now in let defs = definitions_of value xs in let f = p.terms_of value c.args.f.now in
    let whole = reduced_of m defs f in
    let rest = p.terms_of value c.loop-k.rest in let spent = c.loop-k.spent in
    let cs = pairs_of value (reverse (numbered c.loop-k.cofactors.items)) in
    let first : c.loop-k.k ≡ 0 = omega (arith, c.loop-k-test.false) in
    let stays : spent ≡ min spent (2 ^ 127) = omega (arith, c.loop-k.invariant.4) in
    let end : Done rest cs spent ≡ whole = ap (Done rest cs) stays ∙ sym (ap (λ n. reduced_from m defs n rest spent cs) first) ∙ c.loop-k.invariant.5 in
    let plain = plain_ends value (Done rest cs spent) whole c.finish.result end (c.finish.ensures value) in
    record { plain = plain; shown = λ equations begins. plain_shown m (g.met.R.Ring.is_modulus c.args.ring.now) value defs f equations c.finish.result c.requires.definitions c.requires.polynomial (omega (arith, c.requires.degree, degree_of_values value c.args.f.now)) begins plain }
