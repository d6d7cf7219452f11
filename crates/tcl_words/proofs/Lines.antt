-- A line by its place: what it makes is what its place makes, and where there is no line nothing is made.
use Rattle.std.proofs.Common.{◌≡◌, ℕ, ◌≤◌, List, length, Some, slice_get, sym, ◌∙◌, ap, subst}
use Rattle.std.proofs.lemmas.Option.{slice_get_past}
use Rattle.tcl_gates.specs.declared.gate.Gate.{Gate}
use Rattle.tcl_gates.specs.Meaning.{IsPart}
use Rattle.tcl_lang.specs.declared.pred.Line.{Line}
use Rattle.tcl_lang.specs.declared.variable.Variable.{Variable}
use Rattle.tcl_words.specs.Steps.{step_gates, step_words, step_condition}

pub gates_at : (gates now : List Gate) (words : List (List ℕ)) (variables : List Variable) (lines : List Line) (k : ℕ) (l : Line) → slice_get lines k ≡ Some l → now ≡ step_gates gates words variables (Some l) → now ≡ step_gates gates words variables (slice_get lines k)
gates_at gates now words variables lines k l e f = f ∙ ap (step_gates gates words variables) (sym e)

pub words_at : (gates : List Gate) (words now : List (List ℕ)) (variables : List Variable) (lines : List Line) (k : ℕ) (l : Line) → slice_get lines k ≡ Some l → now ≡ step_words gates words variables (Some l) → now ≡ step_words gates words variables (slice_get lines k)
words_at gates words now variables lines k l e f = f ∙ ap (step_words gates words variables) (sym e)

pub part_at : (gates now : List Gate) (words : List (List ℕ)) (variables : List Variable) (lines : List Line) (k : ℕ) (l : Line) → slice_get lines k ≡ Some l → IsPart gates now (step_gates gates words variables (Some l)) → IsPart gates now (step_gates gates words variables (slice_get lines k))
part_at gates now words variables lines k l e p = subst (λ o. IsPart gates now (step_gates gates words variables o)) (sym e) p

pub gates_past : (gates now : List Gate) (words : List (List ℕ)) (variables : List Variable) (lines : List Line) (k : ℕ) → length lines ≤ k → now ≡ gates → now ≡ step_gates gates words variables (slice_get lines k)
gates_past gates now words variables lines k h f = f ∙ ap (step_gates gates words variables) (sym (slice_get_past lines k h))

pub words_past : (gates : List Gate) (words now : List (List ℕ)) (variables : List Variable) (lines : List Line) (k : ℕ) → length lines ≤ k → now ≡ words → now ≡ step_words gates words variables (slice_get lines k)
words_past gates words now variables lines k h f = f ∙ ap (step_words gates words variables) (sym (slice_get_past lines k h))

pub condition_gates_at : (gates now : List Gate) (words : List (List ℕ)) (variables : List Variable) (lines : List Line) (k : ℕ) (l : Line) → slice_get lines k ≡ Some l → now ≡ (step_condition gates words variables (Some l)).gates
    → now ≡ (step_condition gates words variables (slice_get lines k)).gates
condition_gates_at gates now words variables lines k l e f = f ∙ ap (λ o. (step_condition gates words variables o).gates) (sym e)

pub condition_lit_at : (gates : List Gate) (words : List (List ℕ)) (variables : List Variable) (lines : List Line) (k lit : ℕ) (l : Line) → slice_get lines k ≡ Some l → lit ≡ (step_condition gates words variables (Some l)).lit
    → lit ≡ (step_condition gates words variables (slice_get lines k)).lit
condition_lit_at gates words variables lines k lit l e f = f ∙ ap (λ o. (step_condition gates words variables o).lit) (sym e)

pub condition_part_at : (gates now : List Gate) (words : List (List ℕ)) (variables : List Variable) (lines : List Line) (k : ℕ) (l : Line) → slice_get lines k ≡ Some l → IsPart gates now (step_condition gates words variables (Some l)).gates
    → IsPart gates now (step_condition gates words variables (slice_get lines k)).gates
condition_part_at gates now words variables lines k l e p = subst (λ o. IsPart gates now (step_condition gates words variables o).gates) (sym e) p

pub condition_gates_past : (gates now : List Gate) (words : List (List ℕ)) (variables : List Variable) (lines : List Line) (k : ℕ) → length lines ≤ k → now ≡ gates → now ≡ (step_condition gates words variables (slice_get lines k)).gates
condition_gates_past gates now words variables lines k h f = f ∙ ap (λ o. (step_condition gates words variables o).gates) (sym (slice_get_past lines k h))

pub condition_lit_past : (gates : List Gate) (words : List (List ℕ)) (variables : List Variable) (lines : List Line) (k lit : ℕ) → length lines ≤ k → lit ≡ 0 → lit ≡ (step_condition gates words variables (slice_get lines k)).lit
condition_lit_past gates words variables lines k lit h f = f ∙ ap (λ o. (step_condition gates words variables o).lit) (sym (slice_get_past lines k h))
