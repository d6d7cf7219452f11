-- A model of the clauses of a fact that uses all instructions before its goal is a run: that from the input of its bits.
use Rattle.std.specs.Prelude.{◌≡◌, ◌≤◌, ◌<◌, ℕ, ℤ, pos, Bool, true, false, List, slice_get, slice_index_or, Some}
use Rattle.tcl_cnf.specs.Literal.{value_at as bit_at}
use Rattle.tcl_cnf.specs.Clause.{Satisfies}
use Rattle.tcl_lang.specs.declared.term.AlgPred.{AlgPred}
use Rattle.tcl_lang.specs.declared.pred.Pred.TheVariants.{Alg}
use Rattle.tcl_lang.specs.declared.pred.Line.{Line}
use Rattle.tcl_lang.specs.Program.{VersionedProgram}
use Rattle.tcl_lang.specs.Line.{is_algebraic, taken_name}
use Rattle.tcl_lang.specs.Run.{Fits, taken_types, taken_before}
use Rattle.tcl_lang.specs.Goal.{passes}
use Rattle.tcl_lang.specs.Limit.{definitions_before}
use Rattle.tcl_lang.specs.Defined.{is_among}
use Rattle.tcl_lang.specs.Values.{value_at, trace_of}
use Rattle.tcl_lang.specs.Form.{IsWellFormed, end_store}
use Rattle.tcl_goals.specs.declared.fact.Hyp.TheVariants as hyp
use Rattle.tcl_goals.specs.declared.fact.Claim.TheVariants as claim
use Rattle.tcl_goals.specs.declared.fact.Fact.{Fact}
use Rattle.tcl_goals.specs.declared.lemma.Lemma.{Lemma}
use Rattle.tcl_goals.specs.declared.lemma.Numbered.{Numbered}
use Rattle.tcl_goals.specs.Places.{goal_place}
use Rattle.tcl_goals.specs.Keys.{claim_place}
use Rattle.tcl_goals.specs.LemmaList.{lemma_of}
use Rattle.tcl_goals.specs.Holds.{line_holds, cube_holds, lemma_holds}
use Rattle.tcl_goals.specs.Order.{InOrder, has_claim}
use Rattle.tcl_goals.specs.Slices.{whole_fact}
use Rattle.tcl_goals.specs.Free.{fact_variables}
use Rattle.tcl_blast.specs.Lifted.{fixed_bits_of}
use Rattle.tcl_blast.specs.Clauses.{predicate_in, clauses_of}
use Rattle.tcl_blast.specs.Models.{is_algebraic_claim, assignment_of}
use Rattle.tcl_blast.specs.Inputs.{input_of}

-- each lemma of the list names bits of variables that are defined before its goal
abbrev pub AreLemmas : VersionedProgram → List Numbered → Type 0
AreLemmas p lemmas = (n : ℕ) (m : Lemma) → lemma_of lemmas n ≡ Some m → has_claim p (claim.Lemma m) ≡ true

-- the fact claims goal i and uses all instructions before it, as that of a piece of the whole route
pub record UsesAll (p : VersionedProgram) (fact : Fact) (i : ℕ) : Type 0 where
  pub claim : fact.claim ≡ claim.Goal i
  pub uses : fact.uses ≡ (whole_fact p i).uses

-- The run from this input: each variable that is defined before goal i has the bits of its literals, the range and exactness
-- hypotheses are true, the bits that algebraic hypotheses fix have their values, the lemmas and the cube hold, and the goal is
-- false.
pub record IsModelRun (p : VersionedProgram) (lemmas : List Numbered) (fact : Fact) (i : ℕ) (bits : List Bool) (input : List ℤ) : Type 0 where
  pub fits : Fits (taken_types p.lines) input
  pub literals : (v : ℕ) → v < definitions_before p.lines (goal_place p.lines i) →
      value_at (trace_of p input) v ≡ value_at (assignment_of p lemmas fact (bit_at bits)) v
  pub hyps : (n k : ℕ) → slice_get fact.hyps n ≡ Some (hyp.Line k) → passes is_algebraic (slice_get p.lines k) ≡ false →
      line_holds p input k ≡ true
  pub lifted : (n k : ℕ) (pred : AlgPred) → slice_get fact.hyps n ≡ Some (hyp.Line k) →
      predicate_in (slice_get p.lines k) ≡ Some (Alg pred) →
      cube_holds (end_store p input) (fixed_bits_of p.variables pred) ≡ true
  pub cited : (n j : ℕ) → slice_get fact.hyps n ≡ Some (hyp.Lemma j) → lemma_holds (end_store p input) (lemma_of lemmas j) ≡ true
  pub cube : cube_holds (end_store p input) fact.cube ≡ true
  pub denied : line_holds p input (goal_place p.lines i) ≡ false

-- the input of bits that meet the clauses gives such a run
abbrev pub ModelsRun : Type 0
ModelsRun =
    (p : VersionedProgram) (lemmas : List Numbered) (fact : Fact) (i : ℕ) (bits : List Bool) → IsWellFormed p →
    InOrder p lemmas fact → AreLemmas p lemmas → UsesAll p fact i → is_algebraic_claim p fact.claim ≡ false →
    Satisfies (bit_at bits) (clauses_of p lemmas fact) → IsModelRun p lemmas fact i bits (input_of p lemmas fact bits)

-- a value that a line takes for a variable that the fact does not name is 0
abbrev pub UnnamedAreZero : Type 0
UnnamedAreZero =
    (p : VersionedProgram) (lemmas : List Numbered) (fact : Fact) (bits : List Bool) (k v : ℕ) (l : Line) → IsWellFormed p →
    slice_get p.lines k ≡ Some l → taken_name l ≡ Some v → is_among (fact_variables p.lines lemmas fact) v ≡ false →
    slice_index_or (input_of p lemmas fact bits) (taken_before p.lines k) (pos 0) ≡ pos 0

-- so is one that a line at or after the place of the claim takes
abbrev pub LaterAreZero : Type 0
LaterAreZero =
    (p : VersionedProgram) (lemmas : List Numbered) (fact : Fact) (bits : List Bool) (k v : ℕ) (l : Line) → IsWellFormed p →
    InOrder p lemmas fact → AreLemmas p lemmas → slice_get p.lines k ≡ Some l → taken_name l ≡ Some v →
    claim_place p.lines fact.claim ≤ k →
    slice_index_or (input_of p lemmas fact bits) (taken_before p.lines k) (pos 0) ≡ pos 0
