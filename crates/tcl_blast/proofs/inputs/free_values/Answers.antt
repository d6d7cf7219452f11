-- The free variables are given their values over zeros.
use Rattle.std.proofs.Common.{◌≡◌, ◌∙◌, ap, arith, length, replicate, pos, List}
use Rattle.tcl_lang.specs.declared.variable.Variable.{Variable}
use Rattle.tcl_blast.specs.FreeBits.{given_from}
use Rattle.tcl_blast.proofs.ModelBits.{free_few, given_free}
use Rattle.tcl_blast.proofs.inputs.free_values.Goals as goal

pub give-requires-clause-few : goal.give-requires-clause-few
give-requires-clause-few c =
    omega (arith, ap length c.as_slice-2.ensures, ap length c.in_ok-free.ensures, free_few c.args.ssa.now c.args.lemmas.now.items c.args.fact.now, c.variables.ensures.well_formed.few_variables)

pub returns : goal.returns
returns c =
    let p = c.args.ssa.now in
    let bits = c.args.bits.now in
    let frees = c.as_slice-2.result.now in
    let old = c.in_ok-values.values in
    let zeros : old ≡ replicate (length p.variables) (pos 0) =
    c.in_ok-values.ensures ∙ ap (λ n. replicate n (pos 0)) (c.len.ensures ∙ ap length c.variables.ensures.variables) in
    c.give.ensures
    ∙ ap (λ (vs : List Variable). given_from vs bits 1 frees old) (c.as_slice.ensures ∙ c.variables-2.ensures.variables)
    ∙ ap (λ ns. given_from p.variables bits 1 frees ns) zeros
    ∙ given_free p c.args.lemmas.now.items c.args.fact.now bits frees c.variables.ensures.well_formed.words (c.as_slice-2.ensures ∙ c.in_ok-free.ensures)
