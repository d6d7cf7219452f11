-- The laws of versioned forms, at this one.
use Rattle.std.proofs.Common.{◌≡◌, ◌↔◌, ℕ, ℤ, List, sym, ◌∙◌, ap, subst, length}
use Rattle.std.specs.Prelude.{Result, Ok, Err, IfOk}
use Rattle.tcl_lang.specs.Program.{NamedProgram, VersionedProgram}
use Rattle.tcl_lang.specs.Typing.{IsWellTyped}
use Rattle.tcl_lang.specs.Correct.{IsCorrect, IsCounterexample}
use Rattle.tcl_lang.specs.Versions.{form_of}
use Rattle.tcl_lang.proofs.FormRuns.{correct_by_form, form_correct, refutes_by_form, form_refutes}
use Rattle.tcl_ssa.proofs.form.ssa.Goals as goal

if_ok : {A E : Type 0} (P Q : A → Type 0) → ((a : A) → P a → Q a) → (r : Result A E) → IfOk r P → IfOk r Q
if_ok P Q f (Ok a) h = f a h
if_ok P Q f (Err e) h = tt

abbrev SameCorrect : NamedProgram → VersionedProgram → Type 0
SameCorrect p form = IsCorrect (length form.variables) form.lines ↔ IsCorrect (length p.names) p.lines

abbrev SameRefuted : NamedProgram → VersionedProgram → Type 0
SameRefuted p form =
    (input : List ℤ) (goal : ℕ) → IsCounterexample (length form.variables) form.lines input goal ↔ IsCounterexample (length p.names) p.lines input goal

pub returns-clause-correct : goal.returns-clause-correct
returns-clause-correct c =
    let p = c.program.result.now in
    let typed : IsWellTyped (length p.names) p.lines = subst (λ (q : NamedProgram). IsWellTyped (length q.names) q.lines) (sym c.program.ensures.program) c.program.ensures.typed in
    subst (λ (q : NamedProgram). IfOk c.form_of.result (SameCorrect q)) c.program.ensures.program
    (if_ok (λ form. form ≡ form_of p) (SameCorrect p) (λ form e. subst (SameCorrect p) (sym e) (correct_by_form p typed, form_correct p typed)) c.form_of.result c.form_of.ensures.form)

pub returns-clause-refuted : goal.returns-clause-refuted
returns-clause-refuted c =
    let p = c.program.result.now in
    let typed : IsWellTyped (length p.names) p.lines = subst (λ (q : NamedProgram). IsWellTyped (length q.names) q.lines) (sym c.program.ensures.program) c.program.ensures.typed in
    subst (λ (q : NamedProgram). IfOk c.form_of.result (SameRefuted q)) c.program.ensures.program
    (if_ok (λ form. form ≡ form_of p) (SameRefuted p) (λ form e. subst (SameRefuted p) (sym e) (λ input goal. (refutes_by_form p input goal typed, form_refutes p input goal typed))) c.form_of.result c.form_of.ensures.form)
