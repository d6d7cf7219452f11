-- Each law is a lemma.
use Rattle.tcl_lang.proofs.FormRuns.{words_same, truth_same, computed_at_same, correct_by_form, form_correct, refutes_by_form, form_refutes}
use Rattle.tcl_lang.proofs.laws.forms_agree.Goals as goal

pub returns-clause-words : goal.returns-clause-words
returns-clause-words c = words_same

pub returns-clause-truth : goal.returns-clause-truth
returns-clause-truth c = truth_same

pub returns-clause-computed : goal.returns-clause-computed
returns-clause-computed c = computed_at_same

pub returns-clause-correct : goal.returns-clause-correct
returns-clause-correct c p typed = (correct_by_form p typed, form_correct p typed)

pub returns-clause-refuted : goal.returns-clause-refuted
returns-clause-refuted c p input i typed = (refutes_by_form p input i typed, form_refutes p input i typed)
