-- The residue of the whole from the residues of the parts.
use Rattle.std.proofs.Common.{◌≡◌, ◌∙◌, ap, sym, pos, neg_ℤ}
use Rattle.std.specs.Int.{int_rem_euclid}
use Rattle.tcl_lang.specs.declared.term.Term.{Term}
use Rattle.tcl_lang.specs.Term.{term_value}
use Rattle.tcl_lang.specs.Values.{words_of}
use Rattle.tcl_exec.specs.Residue.{residue_count}
use Rattle.tcl_exec.proofs.ResidueSums.{sum_residue, negation_residue, product_residue, power_residue}
use Rattle.tcl_exec.proofs.TermValues.{value_negative, value_sum, value_difference, value_product, value_power}
use Rattle.tcl_exec.proofs.residues.Residues.+term.Goals as goal

pub returns-in-Neg-clause-value : goal.returns-in-Neg-clause-value
returns-in-Neg-clause-value t c =
    let S = words_of c.args.variables.now c.args.values.now in
    let m = residue_count c.args.self.modulus in
    let inner : pos c.term.result ≡ int_rem_euclid (term_value S c.in-Neg.inner) (pos m) = c.term.ensures.value ∙ ap (λ (z : Term). int_rem_euclid (term_value S z) (pos m)) c.get.ensures in
    negation_residue (term_value S c.in-Neg.inner) m c.term.result c.negation.result c.args.self.positive c.term.ensures.below inner c.negation.ensures.value
    ∙ ap (λ x. int_rem_euclid x (pos m)) (sym (value_negative S c.args.term.now c.in-Neg.inner c.in-Neg.is))

pub returns-in-Add-clause-value : goal.returns-in-Add-clause-value
returns-in-Add-clause-value t c =
    let S = words_of c.args.variables.now c.args.values.now in
    let m = residue_count c.args.self.modulus in
    let left : pos c.term-left.result ≡ int_rem_euclid (term_value S c.in-Add.left) (pos m) = c.term-left.ensures.value ∙ ap (λ (z : Term). int_rem_euclid (term_value S z) (pos m)) c.get-in-Add.ensures in
    let right : pos c.term-in-Add.result ≡ int_rem_euclid (term_value S c.in-Add.right) (pos m) = c.term-in-Add.ensures.value ∙ ap (λ (z : Term). int_rem_euclid (term_value S z) (pos m)) c.get-in-Add-2.ensures in
    sum_residue (term_value S c.in-Add.left) (term_value S c.in-Add.right) m c.term-left.result c.term-in-Add.result c.sum.result c.args.self.positive left right c.sum.ensures.value
    ∙ ap (λ x. int_rem_euclid x (pos m)) (sym (value_sum S c.args.term.now c.in-Add.left c.in-Add.right c.in-Add.is))

pub returns-in-Sub-clause-value : goal.returns-in-Sub-clause-value
returns-in-Sub-clause-value t c =
    let S = words_of c.args.variables.now c.args.values.now in
    let m = residue_count c.args.self.modulus in
    let left : pos c.term-left-in-Sub.result ≡ int_rem_euclid (term_value S c.in-Sub.left) (pos m) = c.term-left-in-Sub.ensures.value ∙ ap (λ (z : Term). int_rem_euclid (term_value S z) (pos m)) c.get-in-Sub.ensures in
    let right : pos c.term-right.result ≡ int_rem_euclid (term_value S c.in-Sub.right) (pos m) = c.term-right.ensures.value ∙ ap (λ (z : Term). int_rem_euclid (term_value S z) (pos m)) c.get-in-Sub-2.ensures in
    let turned = negation_residue (term_value S c.in-Sub.right) m c.term-right.result c.negation-in-Sub.result c.args.self.positive c.term-right.ensures.below right c.negation-in-Sub.ensures.value in
    sum_residue (term_value S c.in-Sub.left) (neg_ℤ (term_value S c.in-Sub.right)) m c.term-left-in-Sub.result c.negation-in-Sub.result c.sum-in-Sub.result c.args.self.positive left turned c.sum-in-Sub.ensures.value
    ∙ ap (λ x. int_rem_euclid x (pos m)) (sym (value_difference S c.args.term.now c.in-Sub.left c.in-Sub.right c.in-Sub.is))

pub returns-in-Mul-clause-value : goal.returns-in-Mul-clause-value
returns-in-Mul-clause-value t c =
    let S = words_of c.args.variables.now c.args.values.now in
    let m = residue_count c.args.self.modulus in
    let left : pos c.term-left-in-Mul.result ≡ int_rem_euclid (term_value S c.in-Mul.left) (pos m) = c.term-left-in-Mul.ensures.value ∙ ap (λ (z : Term). int_rem_euclid (term_value S z) (pos m)) c.get-in-Mul.ensures in
    let right : pos c.term-in-Mul.result ≡ int_rem_euclid (term_value S c.in-Mul.right) (pos m) = c.term-in-Mul.ensures.value ∙ ap (λ (z : Term). int_rem_euclid (term_value S z) (pos m)) c.get-in-Mul-2.ensures in
    product_residue (term_value S c.in-Mul.left) (term_value S c.in-Mul.right) m c.term-left-in-Mul.result c.term-in-Mul.result c.product.result c.args.self.positive left right c.product.ensures.value
    ∙ ap (λ x. int_rem_euclid x (pos m)) (sym (value_product S c.args.term.now c.in-Mul.left c.in-Mul.right c.in-Mul.is))

pub returns-in-Pow-clause-value : goal.returns-in-Pow-clause-value
returns-in-Pow-clause-value t c =
    let S = words_of c.args.variables.now c.args.values.now in
    let m = residue_count c.args.self.modulus in
    let base : pos c.term-in-Pow.result ≡ int_rem_euclid (term_value S c.in-Pow.base) (pos m) = c.term-in-Pow.ensures.value ∙ ap (λ (z : Term). int_rem_euclid (term_value S z) (pos m)) c.get-in-Pow.ensures in
    power_residue (term_value S c.in-Pow.base) m c.term-in-Pow.result c.in-Pow.exponent c.power.result c.args.self.positive base c.power.ensures.value
    ∙ ap (λ x. int_rem_euclid x (pos m)) (sym (value_power S c.args.term.now c.in-Pow.base c.in-Pow.exponent c.in-Pow.is))
