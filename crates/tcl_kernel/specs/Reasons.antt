-- Reasons in their order.
use Rattle.std.specs.Prelude.{Bool, if◌then◌else◌, Option, Some, None}
use Rattle.tcl_kernel.specs.declared.reason.Reason.{Reason}

-- the reason against what fails a test
abbrev pub unless : Bool → Reason → Option Reason
unless b reason = if b then None else Some reason

-- the first of two: the second counts only where there is no first
abbrev pub first_of : Option Reason → Option Reason → Option Reason
first_of None second = second
first_of (Some reason) second = Some reason
