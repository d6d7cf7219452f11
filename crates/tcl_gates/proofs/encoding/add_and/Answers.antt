use Rattle.tcl_gates.proofs.Rows.{and_rows}
use Rattle.tcl_gates.proofs.encoding.add_and.Goals as goal

pub returns : goal.returns
returns c =
    and_rows c.args.cnf.now c.add_clause.new.cnf c.add_clause-2.new.cnf c.add_clause-3.new.cnf c.args.g c.args.a c.args.b c.negation-not_g.result c.negation-not_a.result c.negation-not_b.result
    c.negation-not_g.ensures c.negation-not_a.ensures c.negation-not_b.ensures
    c.in_ok-add_clause.ensures c.in_ok-add_clause-2.ensures c.in_ok-add_clause-3.ensures
