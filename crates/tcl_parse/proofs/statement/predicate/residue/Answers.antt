use Rattle.tcl_parse.specs.StatementReaders as reader
use Rattle.tcl_parse.proofs.statement.predicate.residue.Goals as goal

pub returns-in-Some : goal.returns-in-Some
returns-in-Some c =
    let m = rw c.in-Some.is at c.in_ok-parts.ensures.exact in record { exact = reader.modulus m }
