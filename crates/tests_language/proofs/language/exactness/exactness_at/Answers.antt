-- The tests of operands say that they are operands.
use Rattle.std.specs.Int.{w128}
use Rattle.std.proofs.lemmas.Int.{to_z-of_z}
use Rattle.tcl_lang.proofs.TypedStores.{has_operands_sound}
use Rattle.tcl_lang.proofs.MachineRuns.{operands_same}
use Rattle.tests_language.proofs.language.exactness.exactness_at.Goals as goal

pub is_exact_at-requires : goal.is_exact_at-requires
is_exact_at-requires g =
    operands_same g.args.op g.args.ty g.args.amount g.args.a g.args.b g.args.c _ _ _ (to_z-of_z w128 g.args.a g.ranges.a)
    (to_z-of_z w128 g.args.b g.ranges.b) (to_z-of_z w128 g.args.c g.ranges.c)
    (has_operands_sound g.args.op g.args.ty g.args.amount g.args.a g.args.b g.args.c g.requires)
