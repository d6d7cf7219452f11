-- Each clause is a law of the wrapped value, which the result equals.
use Rattle.std.proofs.Common.{rules, ◌≡◌, ℤ, ◌^◌, pos, sym, ◌∙◌, subst, to_z, of_z}
use Rattle.std.specs.Int.{w128}
use Rattle.tcl_num.specs.Congruence.{Congruent}
use Rattle.tcl_num.specs.Range as r
use Rattle.tcl_num.proofs.WrappedValues.{wrapped_in_range, wrapped_congruent, wrapped_only}
use Rattle.tcl_num.proofs.range.wrap_to.Goals as goal

pub returns-clause-in_range : goal.returns-clause-in_range
returns-clause-in_range c =
    let value : to_z w128 (of_z w128 c.residue_value.result) ≡ r.wrapped c.args.signed c.args.width c.args.n = search rules in
    let P : ℤ → Type 0 = λ v. r.InRange c.args.signed c.args.width v in
    subst P (sym value) (wrapped_in_range c.args.signed c.args.width c.args.n c.requires.positive)

pub returns-clause-congruent : goal.returns-clause-congruent
returns-clause-congruent c =
    let value : to_z w128 (of_z w128 c.residue_value.result) ≡ r.wrapped c.args.signed c.args.width c.args.n = search rules in
    let P : ℤ → Type 0 = λ v. Congruent (pos (2 ^ c.args.width)) c.args.n v in
    subst P (sym value) (wrapped_congruent c.args.signed c.args.width c.args.n)

pub returns-clause-only : goal.returns-clause-only
returns-clause-only c v within congruent =
    let value : to_z w128 (of_z w128 c.residue_value.result) ≡ r.wrapped c.args.signed c.args.width c.args.n = search rules in
    wrapped_only c.args.signed c.args.width c.args.n v c.requires.positive within congruent ∙ sym value
