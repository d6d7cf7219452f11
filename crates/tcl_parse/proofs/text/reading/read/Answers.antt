use Rattle.std.proofs.Common.{◌≡◌, refl, sym, ap, subst, arith}
use Rattle.tcl_text.proofs.ReadShapes.{Kept, kept_start, has_shape}
use Rattle.tcl_parse.specs.TextProgress.{progress_of}
use Rattle.tcl_parse.proofs.TextStepping.{begins, goes_on, goes_nowhere, goes_to_end, goes_on_for_ever, keeps, at_end}
use Rattle.tcl_parse.proofs.text.reading.read.Goals as goal

pub loop-line-init : goal.loop-line-init
loop-line-init c =
    let one : c.args.progress.now.number ≡ 1 = ap (λ s. s.number) c.requires in
    record {
      goes = begins c.args.bytes.now (progress_of c.args.progress.now) c.requires;
      kept = subst Kept (sym c.requires) kept_start;
      few = omega (arith, one);
    }

pub returns-in-Err : goal.returns-in-Err
returns-in-Err c =
    goes_nowhere c.args.bytes.now c.loop-line.rest.now c.in-Some.line.now c.in-Some.behind.now (progress_of c.loop-line.progress) c.in-Err.fault
    c.loop-line.invariant.goes c.in-Some.ensures.pieces (rw c.in-Err.is at c.in_ok-fault.ensures.verdict)

pub loop-line-preserved : goal.loop-line-preserved
loop-line-preserved c =
    let step = rw c.in_default-2.is at c.in_ok-fault.ensures.verdict in
    record {
      goes = goes_on c.args.bytes.now c.loop-line.rest.now c.in-Some.line.now c.in-Some.behind.now (progress_of c.loop-line.progress)
          (progress_of c.step.new.self) c.loop-line.invariant.goes c.in-Some.ensures.pieces step;
      kept = keeps step c.loop-line.invariant.kept;
      few = (rw c.in_default-2.is at c.in_ok-fault.ensures.few) refl;
    }

pub returns-then-is_open : goal.returns-then-is_open
returns-then-is_open c =
    goes_on_for_ever c.args.bytes.now c.loop-line.rest.now (progress_of c.loop-line.progress) c.loop-line.invariant.goes
    c.in_default.ensures.pieces (sym c.if-is_open.ensures)

pub returns : goal.returns
returns c = record {
  reads = goes_to_end c.args.bytes.now c.loop-line.rest.now (progress_of c.loop-line.progress) c.loop-line.invariant.goes
      c.in_default.ensures.pieces (at_end c.loop-line.progress.stage c.loop-line.invariant.kept.stage (sym c.if-is_open.ensures));
  shape = has_shape (progress_of c.loop-line.progress) c.loop-line.invariant.kept c.loop-line.invariant.few;
  numbers = c.loop-line.invariant.kept.places;
}
