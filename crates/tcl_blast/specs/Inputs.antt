-- The input of which the bits of a model tell: each line that takes a value takes that of its variable, the number that the
-- free bits of the variable have, and 0 where the variable is not free in the fact. A bit that is not listed is false.
use Rattle.std.specs.Prelude.{ℤ, Bool, List}
use Rattle.tcl_cnf.specs.Literal.{value_at}
use Rattle.tcl_lang.specs.Program.{VersionedProgram}
use Rattle.tcl_goals.specs.declared.fact.Fact.{Fact}
use Rattle.tcl_goals.specs.declared.lemma.Numbered.{Numbered}
use Rattle.tcl_slice.specs.Runs.{input_from}
use Rattle.tcl_blast.specs.Begin.{begun}
use Rattle.tcl_blast.specs.Models.{literals_values}

-- the values of the variables by their free bits
unfoldable pub free_values : VersionedProgram → List Numbered → Fact → List Bool → List ℤ
free_values p lemmas fact bits = literals_values (value_at bits) p.variables (begun p lemmas fact).words

-- the input
unfoldable pub input_of : VersionedProgram → List Numbered → Fact → List Bool → List ℤ
input_of p lemmas fact bits = input_from p.lines (free_values p lemmas fact bits)
