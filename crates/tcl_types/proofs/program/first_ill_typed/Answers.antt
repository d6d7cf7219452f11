use Rattle.std.proofs.Common.{◌≡◌, Some, None, slice_get, refl, sym, ◌∙◌, ap, arith, below_more}
use Rattle.std.proofs.lemmas.Option.{slice_get_read}
use Rattle.tcl_lang.specs.Typing.{types_after, IsWellTyped}
use Rattle.tcl_types.proofs.Places.{types_at-zero, types_at-more, reason_from}
use Rattle.tcl_types.proofs.program.first_ill_typed.Goals as goal

pub loop-k-init : goal.loop-k-init
loop-k-init c = record {
  table = c.in_ok-types.ensures ∙ sym (types_at-zero c.args.names c.args.lines.now);
  earlier = λ j h. absurd (omega arith);
}

pub returns-in-Some : goal.returns-in-Some
returns-in-Some c =
    let line = c.index-lines-k.result in
    let there : slice_get c.args.lines.now c.loop-k.k ≡ Some line = slice_get_read _ _ _ line refl c.loop-k-test.true c.index-lines-k.is in
    record {
      within = c.loop-k-test.true;
      reason_is = reason_from _ _ _ line c.loop-k.types _ there c.loop-k.invariant.table c.in-Some.ensures;
      earlier = c.loop-k.invariant.earlier;
    }

pub loop-k-preserved : goal.loop-k-preserved
loop-k-preserved c =
    let line = c.index-lines-k.result in
    let there : slice_get c.args.lines.now c.loop-k.k ≡ Some line = slice_get_read _ _ _ line refl c.loop-k-test.true c.index-lines-k.is in
    record {
      table = c.define.ensures ∙ (ap (λ t. types_after t (Some line)) c.loop-k.invariant.table ∙ sym (types_at-more _ _ _ line there));
      earlier = below_more _ _ c.loop-k.invariant.earlier (reason_from _ _ _ line c.loop-k.types None there c.loop-k.invariant.table c.in-None.ensures);
    }

pub returns : goal.returns
unfolding IsWellTyped
returns c = λ j h. c.loop-k.invariant.earlier j (omega arith)
