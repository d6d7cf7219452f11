-- The values of the run refute the goal exactly where the input checks.
use Rattle.std.proofs.Common.{◌≡◌, ◌∙◌, sym, ap, true, List}
use Rattle.tcl_lang.specs.declared.pred.Line.{Line}
use Rattle.tcl_lang.specs.Run.{Fits, taken_types}
use Rattle.tcl_lang.specs.Values.{trace_of}
use Rattle.tcl_goals.specs.Places.{has_goal}
use Rattle.tcl_kernel.specs.Refuting.{Refutes}
use Rattle.tcl_kernel.specs.Counterexample.{BreakChecks}
use Rattle.tcl_kernel.proofs.Refutations.{broken, unbroken, breaks_refute}
use Rattle.tcl_kernel.proofs.counterexample.break_reason.Goals as goal

pub returns-then-refutes : goal.returns-then-refutes
returns-then-refutes c =
    let p = c.args.ssa.now in
    let w = c.lines.ensures.well_formed in
    let same : c.as_slice.result.now ≡ p.lines = c.as_slice.ensures ∙ c.lines.ensures.lines in
    let there : has_goal p.lines c.args.goal ≡ true = sym (ap (λ (ls : List Line). has_goal ls c.args.goal) same) ∙ (sym c.has_goal.ensures ∙ c.if-not-has_goal.false) in
    let fits : Fits (taken_types p.lines) c.args.input.now = c.fits.ensures.0 c.if-not-fits.false in
    let are : c.as_slice-2.result.now ≡ trace_of p c.args.input.now = c.as_slice-2.ensures ∙ c.in_ok-values.ensures.trace in
    let r : Refutes p c.args.goal c.as_slice-2.result.now = c.refutes.ensures.0 c.if-refutes.true in
    let checks : BreakChecks p c.args.goal c.args.input.now = broken p c.args.goal c.args.input.now c.as_slice-2.result.now w fits there are r in
    record { reason = checks; refutes = λ e. breaks_refute p c.args.goal c.args.input.now w checks }

pub returns-clause-reason : goal.returns-clause-reason
returns-clause-reason c =
    let p = c.args.ssa.now in
    let w = c.lines.ensures.well_formed in
    let same : c.as_slice.result.now ≡ p.lines = c.as_slice.ensures ∙ c.lines.ensures.lines in
    let there : has_goal p.lines c.args.goal ≡ true = sym (ap (λ (ls : List Line). has_goal ls c.args.goal) same) ∙ (sym c.has_goal.ensures ∙ c.if-not-has_goal.false) in
    let fits : Fits (taken_types p.lines) c.args.input.now = c.fits.ensures.0 c.if-not-fits.false in
    let are : c.as_slice-2.result.now ≡ trace_of p c.args.input.now = c.as_slice-2.ensures ∙ c.in_ok-values.ensures.trace in (
      there,
      unbroken p c.args.goal c.args.input.now c.as_slice-2.result.now w fits there are
          (λ r. absurd (cc (c.refutes.ensures.1 r, c.if-refutes.false))),
    )
