-- The type goes to other threads and may be shared by them.
use denote.Param.Send.{sendable}
use Rattle.tests_goals.proofs.Crosses.{typed-send, typed-sync}
use Rattle.tests_goals.proofs.sharing.shared_typed.Goals as goal

pub shared-requires-send-T : goal.shared-requires-send-T
shared-requires-send-T c κs = search (sendable, typed-send)

pub shared-requires-sync-T : goal.shared-requires-sync-T
shared-requires-sync-T c κs = search (sendable, typed-sync)
