-- Whether something is left decides, and then the count.
use Rattle.tcl_member.proofs.Booleans.{never}
use Rattle.tcl_member.proofs.Courses.{turn_ends, turn_goes}
use Rattle.tcl_member.proofs.search.Search.turn.Goals as goal

pub returns-then-self-budget : goal.returns-then-self-budget
returns-then-self-budget g c value = turn_ends value c.args.self.now.target.poly c.args.self.now.tried c.args.budget (λ e. never (c.if-is_zero.ensures.1 e)) c.if-self-budget.true

pub returns-else-self-budget : goal.returns-else-self-budget
returns-else-self-budget g c value = turn_goes value c.args.self.now.target.poly c.args.self.now.tried c.args.budget (λ e. never (c.if-is_zero.ensures.1 e)) c.if-self-budget.false
