-- Each word is as wide as its variable.
use Rattle.tests_words.proofs.WordLists.{have_widths}
use Rattle.tests_words.proofs.instructions.condition_gates.Goals as goal

pub exactness-requires-clause-widths : goal.exactness-requires-clause-widths
exactness-requires-clause-widths c = have_widths c.in_ok-words.words c.args.form.now.variables _ c.in_ok-words.ensures.widths
