-- What is made while the parts of a fact become clauses: gates, the literals of the variables, and the clauses so far. The
-- clauses of gates stand where the gates were made, with the clauses of single literals between them.
use Rattle.std.specs.Prelude.{ℕ, List, [], ◌∷◌, ◌++◌, length, fold, slice_index_or, if◌then◌else◌}
use Rattle.std.specs.Option.{option_to_list}
use Rattle.tcl_cnf.specs.Literal.{neg}
use Rattle.tcl_cnf.specs.Clause.{clause_of}
use Rattle.tcl_gates.specs.declared.gate.Gate.{Gate}
use Rattle.tcl_gates.specs.Gates.{clauses_behind}
use Rattle.tcl_circuits.specs.Wires.{Wire}
use Rattle.tcl_goals.specs.declared.fact.BitLit.{BitLit}
use Rattle.tcl_blast.specs.declared.blasted.Begun.{Begun}
use Rattle.tcl_blast.specs.declared.blasted.Blasted.{Blasted}

-- the free bits have no clause; clause 0 says that variable 0 is true
abbrev pub blank : Begun → Blasted
blank s = record { gates = s.gates; words = s.words; clauses = (0 ∷ []) ∷ [] }

-- the gates have become these, and words these
abbrev pub grown : Blasted → List Gate → List (List ℕ) → Blasted
grown s gates words = record { gates = gates; words = words; clauses = s.clauses ++ clauses_behind (length s.gates) gates }

-- one more clause of these literals; none where a literal and its negation are among them
abbrev pub with_clause : Blasted → List ℕ → Blasted
with_clause s ls = record { gates = s.gates; words = s.words; clauses = s.clauses ++ option_to_list (clause_of ls) }

abbrev pub with_unit : Blasted → ℕ → Blasted
with_unit s l = with_clause s (l ∷ [])

-- a literal that a circuit gave is true; is false
abbrev pub stated : Blasted → Wire → Blasted
stated s w = with_unit (grown s w.gates s.words) w.lit

abbrev pub denied : Blasted → Wire → Blasted
denied s w = with_unit (grown s w.gates s.words) (neg w.lit)

-- the literal of a bit of a variable that it has its value; false where the variable has no such bit
abbrev pub bit_lit : List (List ℕ) → BitLit → ℕ
bit_lit words b =
    if b.value then slice_index_or (slice_index_or words b.var []) b.bit 1
    else neg (slice_index_or (slice_index_or words b.var []) b.bit 1)

-- a bit has its value; has not
abbrev pub with_bit : Blasted → BitLit → Blasted
with_bit s b = with_unit s (bit_lit s.words b)

abbrev pub without_bit : Blasted → BitLit → Blasted
without_bit s b = with_unit s (neg (bit_lit s.words b))

-- each of these bits has its value; none has
abbrev pub with_bits : Blasted → List BitLit → Blasted
with_bits s bits = fold with_bit s bits

abbrev pub without_bits : Blasted → List BitLit → Blasted
without_bits s bits = fold without_bit s bits
