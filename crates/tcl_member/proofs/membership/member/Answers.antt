-- The equations are known, and so is what plain reduction leaves of the claim.
use Rattle.std.proofs.Common.{◌≡◌, length, sym, ap, subst, arith}
use Rattle.tcl_poly.specs.Polynomial as p
use Rattle.tcl_poly.proofs.TermLists.{degree_of_values}
use Rattle.tcl_reduce.specs.Answer.{definitions_of, numbered}
use Rattle.tcl_reduce.specs.Remainder.{pairs_of}
use Rattle.tcl_reduce.specs.Reduction.{reduced_of}
use Rattle.tcl_reduce.specs.Reduction.Reduced.{Done}
use Rattle.tcl_pivots.specs.CofactorLists.{equations_of}
use Rattle.tcl_member.specs.Fit.{AreFit}
use Rattle.tcl_member.proofs.Beginnings.{known_of, aimed_first, rest_shallow}
use Rattle.tcl_member.proofs.membership.member.Goals as goal

pub plain-requires-clause-polynomial : goal.plain-requires-clause-polynomial
plain-requires-clause-polynomial g c =
    let modulus = g.R.Ring.modulus_of in let amount = g.R.Ring.amount in let q = c.args.equations.now in
    subst (λ z. p.IsOver (modulus z) (amount z) c.args.f.now) (sym c.requires.ring)
    (subst (λ z. p.IsOver (modulus q.ring) (amount q.ring) z) (sym c.requires.claim) c.list-list.ensures.equations.claim_over)

pub plain-requires-clause-degree : goal.plain-requires-clause-degree
plain-requires-clause-degree g c = omega (arith, c.list-list.ensures.equations.claim_shallow, ap (λ z. p.degree_of z) c.requires.claim)

pub search-requires-clause-known : goal.search-requires-clause-known
search-requires-clause-known g c =
    let modulus = g.R.Ring.modulus_of in let amount = g.R.Ring.amount in let q = c.args.equations.now in
    known_of (modulus q.ring) (amount q.ring) q c.list-list.ensures.equations (subst (λ z. AreFit (modulus z) (equations_of (amount z) q.list) (length q.defs)) c.requires.ring c.requires.fit)

pub search-requires-clause-aimed : goal.search-requires-clause-aimed
search-requires-clause-aimed g c =
    let modulus = g.R.Ring.modulus_of in let amount = g.R.Ring.amount in let q = c.args.equations.now in
    let known = known_of (modulus q.ring) (amount q.ring) q c.list-list.ensures.equations (subst (λ z. AreFit (modulus z) (equations_of (amount z) q.list) (length q.defs)) c.requires.ring c.requires.fit) in
    let rest = c.in-Rest.rest in let cs = c.in-Rest.cofactors in let spent = c.in-Rest.field-2 in
    let own = subst (λ z. reduced_of (modulus c.args.ring.now) (definitions_of (amount c.args.ring.now) z) (p.terms_of (amount c.args.ring.now) c.args.f.now) ≡ Done (p.terms_of (amount c.args.ring.now) rest) (pairs_of (amount c.args.ring.now) (numbered cs)) spent) c.defs.ensures.defs c.in-Rest.ensures.plain.1 in
    let claimed = subst (λ z. reduced_of (modulus c.args.ring.now) (definitions_of (amount c.args.ring.now) q.defs) (p.terms_of (amount c.args.ring.now) z) ≡ Done (p.terms_of (amount c.args.ring.now) rest) (pairs_of (amount c.args.ring.now) (numbered cs)) spent) c.requires.claim own in
    let end = subst (λ z. reduced_of (modulus z) (definitions_of (amount z) q.defs) (p.terms_of (amount z) q.claim) ≡ Done (p.terms_of (amount z) rest) (pairs_of (amount z) (numbered cs)) spent) c.requires.ring claimed in
    aimed_first (modulus q.ring) (g.met.R.Ring.is_modulus q.ring) (amount q.ring) q.defs q.list (p.terms_of (amount q.ring) q.claim) (p.terms_of (amount q.ring) rest) (pairs_of (amount q.ring) (numbered cs)) spent known c.list-list.ensures.equations.claim_over
    (omega (arith, c.list-list.ensures.equations.claim_shallow, degree_of_values (amount q.ring) q.claim)) end

pub search-requires-clause-shallow : goal.search-requires-clause-shallow
search-requires-clause-shallow g c =
    let modulus = g.R.Ring.modulus_of in let amount = g.R.Ring.amount in let q = c.args.equations.now in
    let known = known_of (modulus q.ring) (amount q.ring) q c.list-list.ensures.equations (subst (λ z. AreFit (modulus z) (equations_of (amount z) q.list) (length q.defs)) c.requires.ring c.requires.fit) in
    let rest = c.in-Rest.rest in let cs = c.in-Rest.cofactors in let spent = c.in-Rest.field-2 in
    let own = subst (λ z. reduced_of (modulus c.args.ring.now) (definitions_of (amount c.args.ring.now) z) (p.terms_of (amount c.args.ring.now) c.args.f.now) ≡ Done (p.terms_of (amount c.args.ring.now) rest) (pairs_of (amount c.args.ring.now) (numbered cs)) spent) c.defs.ensures.defs c.in-Rest.ensures.plain.1 in
    let claimed = subst (λ z. reduced_of (modulus c.args.ring.now) (definitions_of (amount c.args.ring.now) q.defs) (p.terms_of (amount c.args.ring.now) z) ≡ Done (p.terms_of (amount c.args.ring.now) rest) (pairs_of (amount c.args.ring.now) (numbered cs)) spent) c.requires.claim own in
    let end = subst (λ z. reduced_of (modulus z) (definitions_of (amount z) q.defs) (p.terms_of (amount z) q.claim) ≡ Done (p.terms_of (amount z) rest) (pairs_of (amount z) (numbered cs)) spent) c.requires.ring claimed in
    let shallow = rest_shallow (modulus q.ring) (g.met.R.Ring.is_modulus q.ring) (amount q.ring) q.defs q.list (p.terms_of (amount q.ring) q.claim) (p.terms_of (amount q.ring) rest) (pairs_of (amount q.ring) (numbered cs)) spent known c.list-list.ensures.equations.claim_over
    (omega (arith, c.list-list.ensures.equations.claim_shallow, degree_of_values (amount q.ring) q.claim)) end in
    omega (arith, shallow, degree_of_values (amount q.ring) rest)
