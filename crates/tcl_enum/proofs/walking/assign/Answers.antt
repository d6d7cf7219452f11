-- The values that are given are in their types.
use Rattle.std.proofs.Common.{◌∙◌, sym, ap, subst, ℤ, List}
use Rattle.tcl_lang.specs.declared.variable.Variable.{Variable}
use Rattle.tcl_lang.specs.Values.{AreValues}
use Rattle.tcl_enum.specs.Patterns.{given, values_numbered}
use Rattle.tcl_enum.proofs.Walks.{given_typed}
use Rattle.tcl_enum.proofs.walking.assign.Goals as goal

pub recompute-requires : goal.recompute-requires
recompute-requires c =
    let f = c.args.ssa.now in
    let same = c.as_slice.ensures ∙ c.variables.ensures.variables in
    let is = c.give.ensures ∙ ap (λ (vs : List Variable). given (values_numbered vs c.args.free.now c.args.n) c.args.values.now) same in
    subst (λ (ns : List ℤ). AreValues f.variables ns) (sym is)
    (given_typed f.variables c.args.free.now c.args.n c.args.values.now c.variables.ensures.well_formed.words c.requires.values)
