-- The values stay in their types.
use Rattle.std.proofs.Common.{rules, sym, ap, ◌∙◌, subst, set, List, ℤ}
use Rattle.tcl_lang.specs.Values.{AreValues}
use Rattle.tcl_bench.proofs.Setting.{one_given}
use Rattle.tcl_bench.proofs.walking.give.Goals as goal

pub returns : goal.returns
returns c =
    let variables = c.args.variables.now in
    let values = c.args.values.now in
    let given = one_given variables values c.args.variable c.args.n c.requires.types c.requires.typed in
    let typed : List ℤ → Type 0 = λ found. AreValues variables found in
    subst typed (sym (c.set.ensures ∙ ap (set values c.args.variable) (search (rules, c.value_with-value.ensures)))) given
