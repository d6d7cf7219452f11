-- One line further: the next store and the number of values taken.
use Rattle.std.proofs.Common.{rules, ◌≡◌, ℕ, ◌+◌, refl, sym, ap, ◌∙◌, subst, arith, ℤ, pos, Bool, true, false, length, get_or, Some, to_z, of_z}
use Rattle.std.specs.Int.{w128}
use Rattle.std.specs.Option.{is_some}
use Rattle.std.specs.List.{slice_get}
use Rattle.std.proofs.lemmas.Option.{slice_get_read}
use Rattle.tcl_lang.specs.Line.{taken_type}
use Rattle.tcl_lang.specs.Run.{store_at, store_after, taken_before}
use Rattle.tcl_lang.specs.Execution.{CanPass}
use Rattle.tcl_lang.proofs.Runs.{one_if, store_begins, store_goes, taken_begins, taken_goes}
use Rattle.tcl_lang.proofs.TypedRuns.{run_passes}
use Rattle.tcl_lang.proofs.running.run_in.Goals as goal
use Rattle.tcl_lang.proofs.running.run_in.Goals.{then-is_some, else-is_some}

taken_one : (b : Bool) (next taken before after : ℕ) → next ≡ taken + 1 → taken ≡ before → after ≡ before + one_if b → b ≡ true → next ≡ after
taken_one true next taken before after p q r e = omega (arith, p, q, r)
taken_one false next taken before after p q r e = absurd (cc)

taken_none : (b : Bool) (next taken before after : ℕ) → next ≡ taken → taken ≡ before → after ≡ before + one_if b → b ≡ false → next ≡ after
taken_none true next taken before after p q r e = absurd (cc)
taken_none false next taken before after p q r e = omega (arith, p, q, r)

pub loop-k-init : goal.loop-k-init
loop-k-init c = record {
  store = c.requires.begins ∙ sym (store_begins c.args.names c.args.lines.now c.args.input.now);
  taken = sym (taken_begins c.args.lines.now);
  few = omega arith;
}

pub pass-requires : goal.pass-requires
pass-requires c =
    let lines = c.args.lines.now in
    let line = c.index-lines-k.result in
    let input = c.args.input.now in
    let at : slice_get lines c.loop-k.k ≡ Some line = slice_get_read lines (length lines) c.loop-k.k line refl (omega arith) c.index-lines-k.is in
    let read : to_z w128 (of_z w128 c.next_value.result) ≡ get_or input c.loop-k.taken (pos 0) = search rules in
    let value : to_z w128 (of_z w128 c.next_value.result) ≡ get_or input (taken_before lines c.loop-k.k) (pos 0) = read ∙ ap (λ t. get_or input t (pos 0)) c.loop-k.invariant.taken in
    let passes = run_passes c.args.names lines input c.loop-k.k line c.requires.runnable c.requires.fits at in
    let there : CanPass (store_at c.args.names lines input c.loop-k.k) line (to_z w128 (of_z w128 c.next_value.result)) =
    subst (λ (v : ℤ). CanPass (store_at c.args.names lines input c.loop-k.k) line v) (sym value) passes in
    subst (λ s. CanPass s line (to_z w128 (of_z w128 c.next_value.result))) (sym c.loop-k.invariant.store) there

pub loop-k-preserved : goal.loop-k-preserved
loop-k-preserved c =
    let lines = c.args.lines.now in
    let line = c.index-lines-k.result in
    let input = c.args.input.now in
    let k = c.loop-k.k in
    let at : slice_get lines k ≡ Some line = slice_get_read lines (length lines) k line refl (omega arith) c.index-lines-k.is in
    let read : to_z w128 (of_z w128 c.next_value.result) ≡ get_or input c.loop-k.taken (pos 0) = search rules in
    let value : to_z w128 (of_z w128 c.next_value.result) ≡ get_or input (taken_before lines k) (pos 0) = read ∙ ap (λ t. get_or input t (pos 0)) c.loop-k.invariant.taken in
    let step = taken_goes lines k line at in
    record {
      store = c.pass.ensures
          ∙ ap (λ (v : ℤ). store_after (Some line) v c.loop-k.store) value
          ∙ ap (λ s. store_after (Some line) (get_or input (taken_before lines k) (pos 0)) s) c.loop-k.invariant.store
          ∙ sym (store_goes c.args.names lines input k line at);
      taken = elim c.if-is_some.branch [
        | then-is_some w ↦
            let yes : is_some (taken_type line) ≡ true = cc (c.taken_type.ensures, c.is_some.ensures, w.if-is_some.true) in
            taken_one (is_some (taken_type line)) c.if-is_some.taken c.loop-k.taken (taken_before lines k) (taken_before lines (k + 1)) w.taken-is c.loop-k.invariant.taken step yes
        | else-is_some w ↦
            let no : is_some (taken_type line) ≡ false = cc (c.taken_type.ensures, c.is_some.ensures, w.if-is_some.false) in
            taken_none (is_some (taken_type line)) c.if-is_some.taken c.loop-k.taken (taken_before lines k) (taken_before lines (k + 1)) w.taken-is c.loop-k.invariant.taken step no
      ];
      few = elim c.if-is_some.branch [
        | then-is_some w ↦ omega (arith, w.taken-is, c.loop-k.invariant.few)
        | else-is_some w ↦ omega (arith, w.taken-is, c.loop-k.invariant.few)
      ];
    }
