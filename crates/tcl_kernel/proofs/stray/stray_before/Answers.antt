-- The first hypothesis that strays ends the search; past the end there is none.
use Rattle.std.proofs.Common.{◌≡◌, ◌∙◌, sym, ap, arith, length, Some, None}
use Rattle.std.specs.List.{slice_get}
use Rattle.std.proofs.lemmas.Option.{slice_get_read}
use Rattle.tcl_kernel.specs.ValueStrays.{stray_of}
use Rattle.tcl_kernel.proofs.Strays.{none_begins, none_further, found_stays}
use Rattle.tcl_kernel.proofs.stray.stray_before.Goals as goal

pub loop-k-init : goal.loop-k-init
loop-k-init c = none_begins c.args.ssa.now c.args.values.now

pub stray_of-requires-clause-at : goal.stray_of-requires-clause-at
stray_of-requires-clause-at c =
    let same : c.as_slice-lines.result.now ≡ c.args.ssa.now.lines = c.as_slice-lines.ensures ∙ c.lines.ensures.lines in
    let ends : length c.as_slice-lines.result.now ≡ length c.args.ssa.now.lines = ap length same in
    ap (λ (ls : _). slice_get ls c.loop-k.k) (sym same)
    ∙ slice_get_read c.as_slice-lines.result.now (length c.as_slice-lines.result.now) c.loop-k.k c.index-lines-k.result (omega arith)
    (omega (arith, c.loop-k-test.true, c.requires.within, ends)) c.index-lines-k.is

pub returns-in-Some : goal.returns-in-Some
returns-in-Some c =
    let here : stray_of c.args.ssa.now c.args.values.now c.loop-k.k ≡ Some c.in-Some.stray = sym c.stray_of.ensures ∙ c.in-Some.is in
    sym (found_stays c.args.ssa.now c.args.values.now c.loop-k.k c.args.place c.in-Some.stray c.loop-k.invariant here c.loop-k-test.true)

pub loop-k-preserved : goal.loop-k-preserved
loop-k-preserved c =
    let none : c.stray_of.result ≡ None = c.in_default.is in
    let here : stray_of c.args.ssa.now c.args.values.now c.loop-k.k ≡ None = sym c.stray_of.ensures ∙ none in
    none_further c.args.ssa.now c.args.values.now c.loop-k.k c.loop-k.invariant here
