-- The input of free values, one line on.
use Rattle.std.proofs.Common.{◌≡◌, ◌≤◌, ◌+◌, ◌++◌, ℕ, ℤ, List, length, drop, map, refl, ap, sym, ◌∙◌, Option, Some, None}
use Rattle.std.specs.List.{slice_get, cons_option}
use Rattle.std.proofs.lemmas.List.{drop_all, append-nil}
use mathlib.Core.List.{append_assoc}
use Rattle.tcl_lang.specs.declared.pred.Line.{Line}
use Rattle.tcl_lang.specs.Line.{taken_name}
use Rattle.tcl_slice.specs.Runs.{taken_names}
use Rattle.tcl_enum.specs.declared.ended.FreeValue.{FreeValue}
use Rattle.tcl_worker.proofs.Entries.{drop_item}
use Rattle.tcl_worker.specs.Inputs.{looked_up, value_of, input_of}

one_value : (free : List FreeValue) (o : Option ℕ) (vs : List ℕ) → map (looked_up free) (cons_option o vs) ≡ value_of free o ++ map (looked_up free) vs
one_value free None vs = refl
one_value free (Some v) vs = refl

pub input_more : (free : List FreeValue) (lines : List Line) (k : ℕ) (l : Line) (done whole : List ℤ) → slice_get lines k ≡ Some l →
    done ++ input_of free (drop k lines) ≡ whole →
    (done ++ value_of free (taken_name l)) ++ input_of free (drop (k + 1) lines) ≡ whole
unfolding input_of
input_more free lines k l done whole at e =
    append_assoc done (value_of free (taken_name l)) (map (looked_up free) (taken_names (drop (k + 1) lines)))
    ∙ ap (λ vs. done ++ vs) (sym (one_value free (taken_name l) (taken_names (drop (k + 1) lines))))
    ∙ ap (λ ls. done ++ map (looked_up free) (taken_names ls)) (sym (drop_item lines k l at))
    ∙ e

pub input_done : (free : List FreeValue) (lines : List Line) (k : ℕ) (done whole : List ℤ) → length lines ≤ k → done ++ input_of free (drop k lines) ≡ whole → done ≡ whole
unfolding input_of
input_done free lines k done whole h e =
    sym (append-nil done) ∙ ap (λ ls. done ++ map (looked_up free) (taken_names ls)) (sym (drop_all k lines h)) ∙ e
