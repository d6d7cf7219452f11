-- Zeros are values of all types.
use Rattle.std.proofs.Common.{sym, subst, ℤ, List}
use Rattle.tcl_lang.specs.Values.{AreValues}
use Rattle.tcl_enum.proofs.Denials.{zeros_typed}
use Rattle.tcl_enum.proofs.walking.denial_from_zeros.Goals as goal

pub first_denial-requires-clause-values : goal.first_denial-requires-clause-values
first_denial-requires-clause-values c =
    let variables = c.args.ssa.now.variables in
    subst (λ (ns : List ℤ). AreValues variables ns) (sym c.requires.begins) (zeros_typed variables)
