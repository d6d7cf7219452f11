use Rattle.tcl_gates.proofs.Rows.{clauses_made}
use Rattle.tcl_gates.proofs.Circuit.{met_at}
use Rattle.tcl_gates.proofs.encoding.clauses_of_gates.Goals as goal

pub returns-clause-clauses : goal.returns-clause-clauses
returns-clause-clauses c =
    clauses_made c.new-cnf.result c.add_clause.new.cnf c.add_gates.new.cnf c.of.result c.args.gates.now c.new-cnf.ensures c.of.ensures c.in_ok-add_clause.ensures c.in_ok-add_gates.ensures

pub returns-clause-met : goal.returns-clause-met
returns-clause-met c =
    λ v. met_at v c.args.gates.now c.add_gates.new.cnf (record { each = c.known.ensures.gates.each })
    (clauses_made c.new-cnf.result c.add_clause.new.cnf c.add_gates.new.cnf c.of.result c.args.gates.now c.new-cnf.ensures c.of.ensures c.in_ok-add_clause.ensures c.in_ok-add_gates.ensures)
