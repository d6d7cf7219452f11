-- The clauses of a fact: clause 0; the used instructions by place; the hypotheses in order; the cube; the denied claim. A
-- range or exactness hypothesis gives the clauses of its gates and the unit clause of its literal, a lemma its clause, an
-- algebraic hypothesis the unit clauses of the bits that it fixes, a cube one unit clause for each bit. A denied claim gives
-- the clauses of its gates and the negated unit clause, a denied lemma the negated unit clause of each literal.
use Rattle.std.specs.Prelude.{ℕ, List, [], map, fold, slice_get, Option, Some, None}
use Rattle.tcl_circuits.specs.Wires.{Wire}
use Rattle.tcl_words.specs.Ranges.{pred_lit}
use Rattle.tcl_words.specs.Steps.{step_gates, step_words, step_condition, atoms_of}
use Rattle.tcl_lang.specs.declared.instr.Atom.{Atom}
use Rattle.tcl_lang.specs.declared.range.RngPred.{RngPred}
use Rattle.tcl_lang.specs.declared.term.AlgPred.{AlgPred}
use Rattle.tcl_lang.specs.declared.pred.Pred.{Pred}
use Rattle.tcl_lang.specs.declared.pred.Pred.TheVariants.{Alg, Rng}
use Rattle.tcl_lang.specs.declared.pred.Line.{Line}
use Rattle.tcl_lang.specs.declared.variable.Variable.{Variable}
use Rattle.tcl_lang.specs.Program.{VersionedProgram}
use Rattle.tcl_lang.specs.Line.{predicate_of}
use Rattle.tcl_lang.specs.Values.{types_of}
use Rattle.tcl_goals.specs.declared.fact.Hyp.{Hyp}
use Rattle.tcl_goals.specs.declared.fact.Hyp.TheVariants as hyp
use Rattle.tcl_goals.specs.declared.fact.Claim.{Claim}
use Rattle.tcl_goals.specs.declared.fact.Claim.TheVariants as claim
use Rattle.tcl_goals.specs.declared.fact.Fact.{Fact}
use Rattle.tcl_goals.specs.declared.lemma.Lemma.{Lemma}
use Rattle.tcl_goals.specs.declared.lemma.Numbered.{Numbered}
use Rattle.tcl_goals.specs.LemmaList.{lemma_of}
use Rattle.tcl_goals.specs.Places.{goal_place}
use Rattle.tcl_blast.specs.Lifted.{fixed_bits_of}
use Rattle.tcl_blast.specs.Begin.{begun}
use Rattle.tcl_blast.specs.declared.blasted.Blasted.{Blasted}
use Rattle.tcl_blast.specs.Blasted.{blank, grown, with_clause, stated, denied, bit_lit, with_bits, without_bits}

-- what is made of an algebraic line: of one that is a hypothesis, and of one that is the denied claim
pub record Handler : Type 0 where
  pub stating : Blasted → AlgPred → Blasted
  pub denying : Blasted → AlgPred → Blasted

-- the bits that a hypothesis fixes
abbrev pub with_fixed_bits : List Variable → Blasted → AlgPred → Blasted
with_fixed_bits variables s p = with_bits s (fixed_bits_of variables p)

-- a hypothesis gives the bits that it fixes, a denied claim nothing
abbrev pub by_fixed_bits : List Variable → Handler
by_fixed_bits variables = record { stating = with_fixed_bits variables; denying = λ s pred. s }

-- a used instruction
abbrev pub with_use : VersionedProgram → Blasted → ℕ → Blasted
with_use p s k =
    grown s (step_gates s.gates s.words p.variables (slice_get p.lines k)) (step_words s.gates s.words p.variables (slice_get p.lines k))

-- the circuit of a range predicate, and of the exactness condition of an instruction
abbrev pub range_wire : VersionedProgram → Blasted → RngPred → Wire
range_wire p s pred = pred_lit s.words (types_of p.variables) pred s.gates

abbrev pub exactness_wire : VersionedProgram → Blasted → Option Line → Wire
exactness_wire p s line = step_condition s.gates s.words p.variables line

-- a line that is a hypothesis: by its predicate, or its exactness condition where it states none
abbrev pub stated_line : VersionedProgram → Handler → Blasted → Option Line → Option Pred → Blasted
stated_line p handler s line (Some (Rng pred)) = stated s (range_wire p s pred)
stated_line p handler s line (Some (Alg pred)) = handler.stating s pred
stated_line p handler s line None = stated s (exactness_wire p s line)

abbrev pub predicate_in : Option Line → Option Pred
predicate_in None = None
predicate_in (Some l) = predicate_of l

-- a lemma that is a hypothesis; one that is not there says nothing
abbrev pub with_lemma : Blasted → Option Lemma → Blasted
with_lemma s None = s
with_lemma s (Some m) = with_clause s (map (bit_lit s.words) m.clause)

abbrev pub with_hyp : VersionedProgram → Handler → List Numbered → Blasted → Hyp → Blasted
with_hyp p handler lemmas s (hyp.Line k) = stated_line p handler s (slice_get p.lines k) (predicate_in (slice_get p.lines k))
with_hyp p handler lemmas s (hyp.Lemma n) = with_lemma s (lemma_of lemmas n)

-- a denied goal
abbrev pub denied_line : VersionedProgram → Handler → Blasted → Option Line → Option Pred → Blasted
denied_line p handler s line (Some (Rng pred)) = denied s (range_wire p s pred)
denied_line p handler s line (Some (Alg pred)) = handler.denying s pred
denied_line p handler s line None = denied s (exactness_wire p s line)

abbrev pub denied_claim : VersionedProgram → Handler → Blasted → Claim → Blasted
denied_claim p handler s (claim.Goal i) =
    denied_line p handler s (slice_get p.lines (goal_place p.lines i)) (predicate_in (slice_get p.lines (goal_place p.lines i)))
denied_claim p handler s (claim.Lemma m) = without_bits s m.clause

-- the parts of a fact in their order, with what is made of algebraic lines
abbrev pub used_of : VersionedProgram → List Numbered → Fact → Blasted
used_of p lemmas fact = fold (with_use p) (blank (begun p lemmas fact)) fact.uses

abbrev pub assumed_of : VersionedProgram → Handler → List Numbered → Fact → Blasted
assumed_of p handler lemmas fact = with_bits (fold (with_hyp p handler lemmas) (used_of p lemmas fact) fact.hyps) fact.cube

abbrev pub blasted_by : VersionedProgram → Handler → List Numbered → Fact → Blasted
blasted_by p handler lemmas fact = denied_claim p handler (assumed_of p handler lemmas fact) fact.claim

abbrev pub blasted_of : VersionedProgram → List Numbered → Fact → Blasted
blasted_of p lemmas fact = blasted_by p (by_fixed_bits p.variables) lemmas fact

-- the clauses of a fact
unfoldable pub clauses_of : VersionedProgram → List Numbered → Fact → List (List ℕ)
clauses_of p lemmas fact = (blasted_of p lemmas fact).clauses

-- as many clauses as a fact may have; a count above stays at the next number
abbrev pub clause_limit : ℕ
clause_limit = 4194304

-- the operands of the line that is a hypothesis; a lemma has none
abbrev pub hyp_atoms : List Line → Hyp → List Atom
hyp_atoms lines (hyp.Line k) = atoms_of (slice_get lines k)
hyp_atoms lines (hyp.Lemma n) = []

-- the operands of the goal that is claimed; a lemma has none
abbrev pub claim_atoms : List Line → Claim → List Atom
claim_atoms lines (claim.Goal i) = atoms_of (slice_get lines (goal_place lines i))
claim_atoms lines (claim.Lemma m) = []
