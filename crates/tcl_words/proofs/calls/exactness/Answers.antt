use Rattle.std.proofs.Common.{◌≡◌, ◌≤◌, ap, ap₂, sym, subst, ◌∙◌, refl, arith, length, slice_get, Some}
use Rattle.tcl_words.specs.Steps.{step_condition}
use Rattle.tcl_words.proofs.Forms.{line_narrow, line_small, line_amount, condition_law}
use Rattle.tcl_words.proofs.Lines.{condition_gates_past, condition_lit_past}
use Rattle.tcl_words.proofs.calls.exactness.Goals as goal

pub line_condition-requires-clause-narrow : goal.line_condition-requires-clause-narrow
line_condition-requires-clause-narrow c =
    let at = subst (λ ls. slice_get ls c.args.place ≡ Some c.at-line.result.now) c.lines-lines.ensures.lines c.at-line.ensures in
    line_narrow c.args.ssa.now c.args.place c.at-line.result.now c.args.words.now c.lines-lines.ensures.form at c.requires.widths

pub line_condition-requires-clause-small : goal.line_condition-requires-clause-small
line_condition-requires-clause-small c =
    let at = subst (λ ls. slice_get ls c.args.place ≡ Some c.at-line.result.now) c.lines-lines.ensures.lines c.at-line.ensures in
    line_small c.args.ssa.now c.args.place c.at-line.result.now c.lines-lines.ensures.form at

pub line_condition-requires-clause-shift : goal.line_condition-requires-clause-shift
line_condition-requires-clause-shift c =
    let at = subst (λ ls. slice_get ls c.args.place ≡ Some c.at-line.result.now) c.lines-lines.ensures.lines c.at-line.ensures in
    line_amount c.args.ssa.now c.args.place c.at-line.result.now c.lines-lines.ensures.form at

pub returns-in_ok-lit-clause-value : goal.returns-in_ok-lit-clause-value
returns-in_ok-lit-clause-value c =
    let at = subst (λ ls. slice_get ls c.args.place ≡ Some c.at-line.result.now) c.lines-lines.ensures.lines c.at-line.ensures in
    let g = c.args.gates.now in
    let w = c.args.words.now in
    condition_law c.args.ssa.now c.args.place g c.line_condition.new.gates w c.in_ok-lit.lit c.lines-lines.ensures.form
    (c.in_ok-lit.ensures.made ∙ ap₂ (λ vs o. (step_condition g w vs o).gates) c.variables.ensures.variables (sym at))
    (c.in_ok-lit.ensures.lit ∙ ap₂ (λ vs o. (step_condition g w vs o).lit) c.variables.ensures.variables (sym at))

pub returns-else-place-len-clause-value : goal.returns-else-place-len-clause-value
returns-else-place-len-clause-value c =
    let f = c.args.ssa.now in
    let past : length f.lines ≤ c.args.place = omega (arith, c.if-place-len.false, c.len.ensures, ap length c.lines-lines.ensures.lines) in
    condition_law f c.args.place c.args.gates.now c.args.gates.now c.args.words.now c.of.result c.lines-lines.ensures.form
    (condition_gates_past c.args.gates.now c.args.gates.now c.args.words.now f.variables f.lines c.args.place past refl)
    (condition_lit_past c.args.gates.now c.args.words.now f.variables f.lines c.args.place c.of.result past c.of.ensures)
