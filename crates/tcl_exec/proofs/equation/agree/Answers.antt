-- The sides agree exactly where they have one residue.
use Rattle.tcl_lang.specs.Term.{term_value}
use Rattle.tcl_lang.specs.Values.{words_of}
use Rattle.tcl_exec.specs.Residue.{residue_count}
use Rattle.tcl_exec.proofs.ResidueSums.{multiple_is}
use Rattle.tcl_exec.proofs.equation.agree.Goals as goal

pub returns : goal.returns
returns c =
    let S = words_of c.args.variables.now c.args.values.now in
    multiple_is (term_value S c.args.pred.now.left) (term_value S c.args.pred.now.right) (residue_count c.args.residues.modulus)
    c.term-left.result c.term.result c.args.residues.positive c.term-left.ensures.value c.term.ensures.value
