use Rattle.std.proofs.Common.{◌≡◌, ◌≤◌, ap, ap₂, sym, subst, ◌∙◌, refl, arith, length, slice_get, Some}
use Rattle.tcl_words.specs.Steps.{step_gates, step_words}
use Rattle.tcl_words.proofs.Forms.{line_narrow, step_law}
use Rattle.tcl_words.proofs.Lines.{gates_past, words_past}
use Rattle.tcl_words.proofs.calls.instruction.Goals as goal

pub line_words-requires-clause-narrow : goal.line_words-requires-clause-narrow
line_words-requires-clause-narrow c =
    let at = subst (λ ls. slice_get ls c.args.place ≡ Some c.at-line.result.now) c.lines-lines.ensures.lines c.at-line.ensures in
    line_narrow c.args.ssa.now c.args.place c.at-line.result.now c.args.words.now c.lines-lines.ensures.form at c.requires.widths

pub returns-in_ok-line_words-clause-value : goal.returns-in_ok-line_words-clause-value
returns-in_ok-line_words-clause-value c =
    let at = subst (λ ls. slice_get ls c.args.place ≡ Some c.at-line.result.now) c.lines-lines.ensures.lines c.at-line.ensures in
    let g = c.args.gates.now in
    let w = c.args.words.now in
    step_law c.args.ssa.now c.args.place g c.line_words.new.gates w c.line_words.new.words c.lines-lines.ensures.form c.requires.words
    (c.in_ok-line_words.ensures.made ∙ ap₂ (λ vs o. step_gates g w vs o) c.variables.ensures.variables (sym at))
    (c.in_ok-line_words.ensures.set ∙ ap₂ (λ vs o. step_words g w vs o) c.variables.ensures.variables (sym at))

pub returns-else-place-len-clause-value : goal.returns-else-place-len-clause-value
returns-else-place-len-clause-value c =
    let f = c.args.ssa.now in
    let past : length f.lines ≤ c.args.place = omega (arith, c.if-place-len.false, c.len.ensures, ap length c.lines-lines.ensures.lines) in
    step_law f c.args.place c.args.gates.now c.args.gates.now c.args.words.now c.args.words.now c.lines-lines.ensures.form c.requires.words
    (gates_past c.args.gates.now c.args.gates.now c.args.words.now f.variables f.lines c.args.place past refl)
    (words_past c.args.gates.now c.args.words.now c.args.words.now f.variables f.lines c.args.place past refl)
