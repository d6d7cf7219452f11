-- One line further: the next values and the number of values taken.
use Rattle.std.proofs.Common.{rules, ◌≡◌, ℕ, ◌+◌, sym, ap, ◌∙◌, subst, arith, ℤ, pos, Bool, true, false, length, get_or, Some, to_z, of_z}
use Rattle.std.specs.Int.{w128}
use Rattle.std.specs.Option.{is_some}
use Rattle.std.specs.List.{slice_get}
use Rattle.tcl_lang.specs.Line.{taken_type}
use Rattle.tcl_lang.specs.Run.{taken_before}
use Rattle.tcl_lang.specs.Values.{values_before, values_after}
use Rattle.tcl_lang.proofs.Runs.{one_if, taken_begins, taken_goes}
use Rattle.tcl_lang.proofs.ValueRuns.{values_begin, values_goes}
use Rattle.tcl_exec.specs.Passing.{CanBePassed}
use Rattle.tcl_exec.proofs.Stepping.{run_passes, trace_ends}
use Rattle.tcl_exec.proofs.running.run_in.Goals as goal
use Rattle.tcl_exec.proofs.running.run_in.Goals.{then-is_some, else-is_some}

taken_one : (b : Bool) (next taken before after : ℕ) → next ≡ taken + 1 → taken ≡ before → after ≡ before + one_if b → b ≡ true → next ≡ after
taken_one true next taken before after p q r e = omega (arith, p, q, r)
taken_one false next taken before after p q r e = absurd (cc)

taken_none : (b : Bool) (next taken before after : ℕ) → next ≡ taken → taken ≡ before → after ≡ before + one_if b → b ≡ false → next ≡ after
taken_none true next taken before after p q r e = absurd (cc)
taken_none false next taken before after p q r e = omega (arith, p, q, r)

pub loop-k-init : goal.loop-k-init
loop-k-init c = record {
  values = c.requires.begins ∙ sym (values_begin (length c.args.ssa.now.variables) c.args.ssa.now.lines c.args.input.now);
  taken = sym (taken_begins c.args.ssa.now.lines);
  few = omega arith;
}

pub pass-requires : goal.pass-requires
pass-requires c =
    let f = c.args.ssa.now in
    let line = c.at-line.result.now in
    let input = c.args.input.now in
    let k = c.loop-k.k in
    let at : slice_get f.lines k ≡ Some line = search rules in
    let read : to_z w128 (of_z w128 c.next_value.result) ≡ get_or input c.loop-k.taken (pos 0) = search rules in
    let value : to_z w128 (of_z w128 c.next_value.result) ≡ get_or input (taken_before f.lines k) (pos 0) = read ∙ ap (λ t. get_or input t (pos 0)) c.loop-k.invariant.taken in
    let passes = run_passes f input k line c.lines-lines.ensures.well_formed c.requires.fits at in
    let there : CanBePassed (values_before (length f.variables) f.lines input k) line (to_z w128 (of_z w128 c.next_value.result)) =
    subst (λ (v : ℤ). CanBePassed (values_before (length f.variables) f.lines input k) line v) (sym value) passes in
    subst (λ ns. CanBePassed ns line (to_z w128 (of_z w128 c.next_value.result))) (sym c.loop-k.invariant.values) there

pub loop-k-preserved : goal.loop-k-preserved
loop-k-preserved c =
    let f = c.args.ssa.now in
    let line = c.at-line.result.now in
    let input = c.args.input.now in
    let k = c.loop-k.k in
    let at : slice_get f.lines k ≡ Some line = search rules in
    let read : to_z w128 (of_z w128 c.next_value.result) ≡ get_or input c.loop-k.taken (pos 0) = search rules in
    let value : to_z w128 (of_z w128 c.next_value.result) ≡ get_or input (taken_before f.lines k) (pos 0) = read ∙ ap (λ t. get_or input t (pos 0)) c.loop-k.invariant.taken in
    let step = taken_goes f.lines k line at in
    record {
      values = c.pass.ensures
          ∙ ap (λ (v : ℤ). values_after (Some line) v c.loop-k.values) value
          ∙ ap (λ ns. values_after (Some line) (get_or input (taken_before f.lines k) (pos 0)) ns) c.loop-k.invariant.values
          ∙ sym (values_goes (length f.variables) f.lines input k line at);
      taken = elim c.if-is_some.branch [
        | then-is_some w ↦
            let yes : is_some (taken_type line) ≡ true = cc (c.taken_type.ensures, c.is_some.ensures, w.if-is_some.true) in
            taken_one (is_some (taken_type line)) c.if-is_some.taken c.loop-k.taken (taken_before f.lines k) (taken_before f.lines (k + 1)) w.taken-is c.loop-k.invariant.taken step yes
        | else-is_some w ↦
            let no : is_some (taken_type line) ≡ false = cc (c.taken_type.ensures, c.is_some.ensures, w.if-is_some.false) in
            taken_none (is_some (taken_type line)) c.if-is_some.taken c.loop-k.taken (taken_before f.lines k) (taken_before f.lines (k + 1)) w.taken-is c.loop-k.invariant.taken step no
      ];
      few = elim c.if-is_some.branch [
        | then-is_some w ↦ omega (arith, w.taken-is, c.loop-k.invariant.few)
        | else-is_some w ↦ omega (arith, w.taken-is, c.loop-k.invariant.few)
      ];
    }

pub returns : goal.returns
returns c =
    let f = c.args.ssa.now in
    let last : c.loop-k.k ≡ length f.lines = search rules in
    c.loop-k.invariant.values ∙ ap (λ k. values_before (length f.variables) f.lines c.args.input.now k) last ∙ sym (trace_ends f c.args.input.now)
