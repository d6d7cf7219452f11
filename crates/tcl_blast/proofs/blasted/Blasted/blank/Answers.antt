-- The clause of variable 0 stands alone.
use Rattle.std.proofs.Common.{ℕ, List, ap}
use Rattle.tcl_blast.proofs.Loops.{first_clauses}
use Rattle.tcl_blast.proofs.blasted.Blasted.blank.Goals as goal

pub returns : goal.returns
returns c =
    ap (λ (cs : List (List ℕ)). record { gates = c.args.begun.gates; words = c.args.begun.words; clauses = cs })
    (first_clauses c.new-clauses.result c.append_clause.new.clauses c.of.result c.new-clauses.ensures c.of.ensures c.in_ok-append_clause.ensures)
