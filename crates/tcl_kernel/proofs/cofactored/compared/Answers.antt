-- How the equations begin decides, and then the lines.
use Rattle.std.proofs.Common.{◌≡◌, ◌∙◌, ℕ, List, Option, Result, Err, map, sym, ap, subst}
use Rattle.tcl_ring.specs.Reduction.{reduced_by, IsModulus}
use Rattle.tcl_poly.specs.Polynomial.{Polynomial, terms_of}
use Rattle.tcl_port.specs.declared.limit.What.{What}
use Rattle.tcl_algebra.specs.declared.ended.AlgebraEnd.{AlgebraEnd}
use Rattle.tcl_algebra.specs.declared.ended.AlgebraEnd.TheVariants as algebra_end
use Rattle.tcl_algebra.specs.Ends.{IsBegun}
use Rattle.tcl_algebra.specs.Equations.{Begins, polynomials_of, equations_of, claim_polynomial, claim_begins}
use Rattle.tcl_algebra.specs.Equations.Begins.{TooWide, TooLarge, Ready}
use Rattle.tcl_kernel.specs.CofactorCertificate.{line_reason}
use Rattle.tcl_kernel.proofs.Cofactors.{begun_reason}
use Rattle.tcl_kernel.proofs.cofactored.compared.Goals as goal

wide_begun : {X : Type 0} (r : Result X AlgebraEnd) (e : AlgebraEnd) (b : Begins) → r ≡ Err e → e ≡ algebra_end.Wide → IsBegun r b → TooWide ≡ b
wide_begun r e b is same begun = sym (subst (λ x. IsBegun x b) (is ∙ ap Err same) begun)

large_begun : {X : Type 0} (r : Result X AlgebraEnd) (e : AlgebraEnd) (b : Begins) (what : What) (n : ℕ) → r ≡ Err e → e ≡ algebra_end.Large what n → IsBegun r b → TooLarge what n ≡ b
large_begun r e b what n is same begun = sym (subst (λ x. IsBegun x b) (is ∙ ap Err same) begun)

pub returns-in-Err-Wide : goal.returns-in-Err-Wide
returns-in-Err-Wide g c =
    let f = c.args.claim.now in
    let ring = subst IsModulus c.requires.ring (g.met.R.Ring.is_modulus c.args.ring.now) in
    begun_reason c.args.ssa.now c.args.lemmas.now.items c.args.fact.now c.args.lines.now f TooWide c.requires.claim ring
    (wide_begun c.equations.result c.in-Err-Wide.field-0 (claim_begins f) c.in-Err-Wide.is c.in-Err-Wide.field-0-is (c.equations.ensures.begins f c.requires.claim))

pub returns-in-Err-Large : goal.returns-in-Err-Large
returns-in-Err-Large g c =
    let f = c.args.claim.now in
    let ring = subst IsModulus c.requires.ring (g.met.R.Ring.is_modulus c.args.ring.now) in
    begun_reason c.args.ssa.now c.args.lemmas.now.items c.args.fact.now c.args.lines.now f (TooLarge c.in-Err-Large.field-0-0 c.in-Err-Large.field-0-1) c.requires.claim ring
    (large_begun c.equations.result c.in-Err-Large.field-0 (claim_begins f) c.in-Err-Large.field-0-0 c.in-Err-Large.field-0-1 c.in-Err-Large.is c.in-Err-Large.field-0-is (c.equations.ensures.begins f c.requires.claim))

pub returns-in_ok-reason-in-Ok : goal.returns-in_ok-reason-in-Ok
returns-in_ok-reason-in-Ok g c =
    let p = c.args.ssa.now in
    let lemmas = c.args.lemmas.now.items in
    let fact = c.args.fact.now in
    let f = c.args.claim.now in
    let value = g.R.Ring.amount c.args.ring.now in
    let ring = subst IsModulus c.requires.ring (g.met.R.Ring.is_modulus c.args.ring.now) in
    let made = c.in-Ok.ensures.equations f c.requires.claim in
    let claim = ap (terms_of value) c.claim.ensures.claim ∙ made.claim ∙ ap (λ (m : Option ℕ). claim_polynomial (reduced_by m) f) c.requires.ring in
    let list = ap (map (terms_of value)) c.list.ensures.list ∙ made.list ∙ ap (λ (m : Option ℕ). polynomials_of (equations_of m p lemmas fact)) c.requires.ring in
    c.in_ok-reason-in-Ok.ensures f c.requires.ring claim
    ∙ ap (λ (es : List Polynomial). line_reason f es c.args.lines.now) list
    ∙ begun_reason p lemmas fact c.args.lines.now f Ready c.requires.claim ring (sym (c.in-Ok.ensures.begins f c.requires.claim))
