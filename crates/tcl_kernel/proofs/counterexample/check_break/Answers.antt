-- An input that checks is a counterexample.
use Rattle.tcl_kernel.proofs.counterexample.check_break.Goals as goal

pub of_break-requires : goal.of_break-requires
of_break-requires c = c.in-Ok-None.ensures.refutes c.in-Ok-None.field-0-is
