-- The set is that of the variables that the fact names.
use Rattle.std.proofs.Common.{◌≡◌, ◌∙◌, ℕ, List, false, replicate, length, ap, subst}
use Rattle.std.specs.Prelude.{IfOk}
use Rattle.tcl_lang.specs.Defined.{is_among}
use Rattle.tcl_lang.specs.declared.pred.Line.{Line}
use Rattle.tcl_lang.specs.declared.variable.Variable.{Variable}
use Rattle.tcl_goals.specs.declared.lemma.Numbered.{Numbered}
use Rattle.tcl_goals.specs.Numbers.{those_below}
use Rattle.tcl_goals.specs.Closure.{mark_all}
use Rattle.tcl_goals.specs.Free.{fact_variables}
use Rattle.tcl_goals.proofs.Marking.{variables_are}
use Rattle.tcl_goals.proofs.variables.fact_variables.Goals as goal

pub returns : goal.returns
returns c =
    let p = c.args.ssa.now in
    let fact = c.args.fact.now in
    let count = c.len-count.result in
    let none = replicate count false in
    let lines = c.as_slice.result.now in
    let lemmas = c.as_slice-2.result.now in
    let same_lines = c.as_slice.ensures ∙ c.lines.ensures.lines in
    let same_lemmas = c.as_slice-2.ensures ∙ c.items.ensures.items in
    let size = c.len-count.ensures ∙ ap (λ (vs : List Variable). length vs) c.variables.ensures.variables in
    let named =
    c.add_fact.ensures
    ∙ ap (λ m. mark_all m (fact_variables lines lemmas fact)) c.in_ok-named.ensures
    ∙ ap (λ (ls : List Line). mark_all none (fact_variables ls lemmas fact)) same_lines
    ∙ ap (λ (ms : List Numbered). mark_all none (fact_variables p.lines ms fact)) same_lemmas in
    let is =
    variables_are p.lines c.args.lemmas.now.items fact c.add_fact.new.marks.marks count named
    ∙ ap (those_below (is_among (fact_variables p.lines c.args.lemmas.now.items fact))) size in
    subst (λ (vs : List ℕ). IfOk c.marked.result (λ found. found ≡ vs)) is c.marked.ensures
