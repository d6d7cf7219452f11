-- Both clauses are laws of the wrapped value, which the result equals.
use Rattle.std.proofs.Common.{rules, ◌≡◌, ℤ, sym, ◌∙◌, subst, to_z, of_z}
use Rattle.std.specs.Int.{w128}
use Rattle.tcl_lang.specs.Types.{IsWrap, wrap_of}
use Rattle.tcl_lang.proofs.WrappedWords.{wrap_is_wrap, wrap_only}
use Rattle.tcl_lang.proofs.wrapping.wrap.Goals as goal

pub returns-clause-wrapped : goal.returns-clause-wrapped
returns-clause-wrapped c =
    let value : to_z w128 (of_z w128 c.wrap_to.result) ≡ wrap_of c.args.ty c.args.n = search rules in
    let P : ℤ → Type 0 = λ v. IsWrap c.args.ty c.args.n v in
    subst P (sym value) (wrap_is_wrap c.args.ty c.args.n c.requires)

pub returns-clause-only : goal.returns-clause-only
returns-clause-only c v w =
    let value : to_z w128 (of_z w128 c.wrap_to.result) ≡ wrap_of c.args.ty c.args.n = search rules in
    wrap_only c.args.ty c.args.n v c.requires w ∙ sym value
