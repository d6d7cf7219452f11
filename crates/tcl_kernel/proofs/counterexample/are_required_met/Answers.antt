-- A line that has to hold and is not computed as `Yes` ends the search; past the end there is none.
use Rattle.std.proofs.Common.{rules, ◌≡◌, ◌∙◌, sym, ap, arith, below_more, length, true, Some}
use Rattle.std.specs.Bool.{IsTrue}
use Rattle.std.specs.List.{slice_get}
use Rattle.std.proofs.lemmas.Option.{slice_get_read}
use Rattle.tcl_lang.specs.Values.{computed_of}
use Rattle.tcl_kernel.proofs.Refutations.{required_all, required_next, yes_is}
use Rattle.tcl_kernel.proofs.counterexample.are_required_met.Goals as goal
use Rattle.tcl_kernel.proofs.counterexample.are_required_met.Goals.{else-is_required-via-then-is_required+else-not-is_yes, else-is_required-via-else-is_required}

pub loop-k-preserved : goal.loop-k-preserved
loop-k-preserved c =
    let p = c.args.ssa.now in
    let k = c.loop-k.k in
    let same : c.as_slice-lines.result.now ≡ p.lines = c.as_slice-lines.ensures ∙ c.lines.ensures.lines in
    let at : slice_get p.lines k ≡ Some c.index-lines-k.result =
    ap (λ (ls : _). slice_get ls k) (sym same) ∙ slice_get_read c.as_slice-lines.result.now (length c.as_slice-lines.result.now) k c.index-lines-k.result (omega arith) c.loop-k-test.true c.index-lines-k.is in
    below_more _ _ c.loop-k.invariant
    (required_next p c.args.place c.args.values.now k c.index-lines-k.result at
    (λ required. elim c.else-is_required.branch [
      | else-is_required-via-then-is_required+else-not-is_yes w ↦
          yes_is (computed_of p c.args.values.now k) (cc (w.holds.ensures, w.is_yes.ensures, w.if-not-is_yes.false))
      | else-is_required-via-else-is_required w ↦ absurd (cc (c.is_required.ensures, w.if-is_required.false, required))
    ]))

pub returns : goal.returns
returns c =
    let p = c.args.ssa.now in
    let same : c.as_slice-lines.result.now ≡ p.lines = c.as_slice-lines.ensures ∙ c.lines.ensures.lines in
    let ends : length c.as_slice-lines.result.now ≡ length p.lines = ap length same in
    let yes : IsTrue true = search rules in
    (λ e. required_all p c.args.place c.args.values.now (λ k less. c.loop-k.invariant k (omega (arith, less, ends, c.loop-k-test.false))), λ m. yes)
