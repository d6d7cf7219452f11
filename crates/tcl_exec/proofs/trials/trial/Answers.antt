-- One line further, and inputs that are tried fit.
use Rattle.std.proofs.Common.{rules, ◌≡◌, ℕ, ◌+◌, ◌<◌, ◌≤◌, ℤ, List, [], ◌∷◌, ◌++◌, sym, ap, ◌∙◌, subst, length, drop, Some, None}
use Rattle.std.specs.List.{slice_get}
use Rattle.std.proofs.lemmas.List.{append_assoc, append-nil}
use Rattle.tcl_lang.specs.Run.{Fits, taken_types}
use Rattle.tcl_exec.specs.Fitting.{taken_in}
use Rattle.tcl_exec.specs.Trial.{next_state, trial_value, trial_from, trial_of}
use Rattle.tcl_exec.proofs.TrialValues.{trial_none, trial_some, trial_end, trial_fits}
use Rattle.tcl_exec.proofs.trials.trial.Goals as goal
use Rattle.tcl_exec.proofs.trials.trial.Goals.{in-Some+in_ok-push, in_default}

pub loop-place-preserved : goal.loop-place-preserved
loop-place-preserved c =
    let lines = c.lines-lines.result.now in
    let place = c.loop-place.place in
    let within : place < length lines = search rules in
    let left : List ℤ → ℕ → List ℤ = λ input state. input ++ trial_from c.args.k state (taken_types (drop (place + 1) lines)) in
    elim c.match-taken_type.branch [
      | in-Some+in_ok-push w ↦
          let some : taken_in (slice_get lines place) ≡ Some w.in-Some.ty = sym c.taken_type.ensures.ty ∙ w.in-Some.is in
          let input : c.match-taken_type.input ≡ c.loop-place.input ++ trial_value c.args.k (next_state c.loop-place.state) w.in-Some.ty ∷ [] = search rules in
          let state : c.match-taken_type.state ≡ next_state c.loop-place.state = search rules in
          record {
            all = ap (λ (x : List ℤ). left x c.match-taken_type.state) input
                ∙ ap (λ s. left (c.loop-place.input ++ trial_value c.args.k (next_state c.loop-place.state) w.in-Some.ty ∷ []) s) state
                ∙ append_assoc c.loop-place.input (trial_value c.args.k (next_state c.loop-place.state) w.in-Some.ty ∷ []) (trial_from c.args.k (next_state c.loop-place.state) (taken_types (drop (place + 1) lines)))
                ∙ ap (λ (x : List ℤ). c.loop-place.input ++ x) (sym (trial_some c.args.k c.loop-place.state lines place w.in-Some.ty within some))
                ∙ c.loop-place.invariant.all;
          }
      | in_default w ↦
          let none : taken_in (slice_get lines place) ≡ None = search rules in
          record {
            all = ap (λ (x : List ℤ). left x c.match-taken_type.state) w.input-is
                ∙ ap (λ s. left c.loop-place.input s) w.state-is
                ∙ ap (λ (x : List ℤ). c.loop-place.input ++ x) (sym (trial_none c.args.k c.loop-place.state lines place within none))
                ∙ c.loop-place.invariant.all;
          }
    ]

pub returns-clause-fits : goal.returns-clause-fits
returns-clause-fits c =
    let lines = c.lines-lines.result.now in
    let past : length lines ≤ c.loop-place.place = search rules in
    let none : c.loop-place.input ≡ trial_of c.args.k (taken_types lines) =
    sym (append-nil c.loop-place.input) ∙ ap (λ (x : List ℤ). c.loop-place.input ++ x) (sym (trial_end c.args.k c.loop-place.state lines c.loop-place.place past)) ∙ c.loop-place.invariant.all in
    let all : c.loop-place.input ≡ trial_of c.args.k (taken_types c.args.ssa.now.lines) =
    none ∙ ap (λ ls. trial_of c.args.k (taken_types ls)) c.lines-lines.ensures.lines in
    subst (λ (x : List ℤ). Fits (taken_types c.args.ssa.now.lines) x) (sym all) (trial_fits c.args.k c.args.ssa.now.lines c.lines-lines.ensures.well_formed.runnable.shapes c.args.k)
