-- The type goes to other threads and may be shared by them.
use denote.Param.Send.{sendable}
use Rattle.tests_goals.proofs.Crosses.{parsed-send, parsed-sync}
use Rattle.tests_goals.proofs.sharing.shared_parsed.Goals as goal

pub shared-requires-send-T : goal.shared-requires-send-T
shared-requires-send-T c κs = search (sendable, parsed-send)

pub shared-requires-sync-T : goal.shared-requires-sync-T
shared-requires-sync-T c κs = search (sendable, parsed-sync)
