-- Past a value that is not there or not of its type nothing fits; else one line and one value further.
use Rattle.std.proofs.Common.{rules, ◌≡◌, ◌+◌, ◌<◌, ◌≤◌, pos, true, false, sym, ap, ◌∙◌, arith, length, drop, get_or, Some, None}
use Rattle.std.specs.List.{slice_get}
use Rattle.tcl_lang.specs.Types.{is_in_type}
use Rattle.tcl_lang.specs.Run.{taken_types}
use Rattle.tcl_exec.specs.Fitting.{is_fitting, taken_in}
use Rattle.tcl_exec.proofs.Fitting.{goes_none, goes_some, goes_past, first_out, first_in, fitting_end}
use Rattle.tcl_exec.proofs.input.is_fitting.Goals as goal
use Rattle.tcl_exec.proofs.input.is_fitting.Goals.{then-input-at-via-then-input-at, then-input-at-via-else-input-at+then-not-in_type, in-Some+else-input-at+else-not-in_type, in_default}

pub returns-then-input-at : goal.returns-then-input-at
returns-then-input-at c =
    let lines = c.args.lines.now in
    let input = c.args.input.now in
    let k = c.loop-k.k in
    let within : k < length lines = search rules in
    let some : taken_in (slice_get lines k) ≡ Some c.in-Some.ty = sym c.taken_type.ensures.ty ∙ c.in-Some.is in
    elim c.then-input-at.branch [
      | then-input-at-via-then-input-at w ↦ sym (c.loop-k.invariant.left ∙ goes_past lines k c.in-Some.ty input c.loop-k.at within some (omega (arith, w.if-input-at.true)))
      | then-input-at-via-else-input-at+then-not-in_type w ↦
          let no : is_in_type c.in-Some.ty (get_or input c.loop-k.at (pos 0)) ≡ false = search rules in
          sym (c.loop-k.invariant.left ∙ goes_some lines k c.in-Some.ty input c.loop-k.at (pos 0) within some (omega (arith, w.if-input-at.false)) ∙ first_out _ _ no)
    ]

pub loop-k-preserved : goal.loop-k-preserved
loop-k-preserved c =
    let lines = c.args.lines.now in
    let input = c.args.input.now in
    let k = c.loop-k.k in
    let within : k < length lines = search rules in
    elim c.match-taken_type.branch [
      | in-Some+else-input-at+else-not-in_type w ↦
          let some : taken_in (slice_get lines k) ≡ Some w.in-Some.ty = sym c.taken_type.ensures.ty ∙ w.in-Some.is in
          let yes : is_in_type w.in-Some.ty (get_or input c.loop-k.at (pos 0)) ≡ true = search rules in
          record {
            left = c.loop-k.invariant.left ∙ goes_some lines k w.in-Some.ty input c.loop-k.at (pos 0) within some (omega (arith, w.if-input-at.false)) ∙ first_in _ _ yes
                ∙ ap (λ at. is_fitting (taken_types (drop (k + 1) lines)) (drop at input)) (sym w.at-is);
            within = omega (arith, w.at-is, w.if-input-at.false);
          }
      | in_default w ↦
          let none : taken_in (slice_get lines k) ≡ None = search rules in
          record {
            left = c.loop-k.invariant.left ∙ goes_none lines k (drop c.loop-k.at input) within none
                ∙ ap (λ at. is_fitting (taken_types (drop (k + 1) lines)) (drop at input)) (sym w.at-is);
            within = omega (arith, w.at-is, c.loop-k.invariant.within);
          }
    ]

pub returns : goal.returns
returns c =
    let past : length c.args.lines.now ≤ c.loop-k.k = search rules in
    sym (c.loop-k.invariant.left ∙ fitting_end c.args.lines.now c.loop-k.k c.args.input.now c.loop-k.at past c.loop-k.invariant.within)
