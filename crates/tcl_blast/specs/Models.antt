-- The assignment that values of the variables of the clauses give, and what it meets.
use Rattle.std.specs.Prelude.{◌≡◌, ℕ, ℤ, Bool, true, false, List, [], ◌∷◌, map, slice_get, Option, Some, None}
use Rattle.std.specs.List.{list_all}
use Rattle.tcl_cnf.specs.Literal.{literal_true}
use Rattle.tcl_cnf.specs.Clause.{Satisfies}
use Rattle.tcl_bits.specs.Value.{word_value}
use Rattle.tcl_lang.specs.declared.ty.Word.{Word}
use Rattle.tcl_lang.specs.declared.pred.Pred.{Pred}
use Rattle.tcl_lang.specs.declared.pred.Pred.TheVariants.{Alg, Rng}
use Rattle.tcl_lang.specs.declared.pred.Line.{Line}
use Rattle.tcl_lang.specs.declared.variable.Variable.{Variable}
use Rattle.tcl_lang.specs.Program.{VersionedProgram}
use Rattle.tcl_lang.specs.Line.{is_algebraic}
use Rattle.tcl_lang.specs.Goal.{passes, truth_in}
use Rattle.tcl_lang.specs.Values.{words_of}
use Rattle.tcl_lang.specs.Form.{IsWellFormed}
use Rattle.tcl_goals.specs.declared.fact.Fact.{Fact}
use Rattle.tcl_goals.specs.declared.fact.Hyp.{Hyp}
use Rattle.tcl_goals.specs.declared.fact.Hyp.TheVariants as hyp
use Rattle.tcl_goals.specs.declared.fact.Claim.{Claim}
use Rattle.tcl_goals.specs.declared.fact.Claim.TheVariants as claim
use Rattle.tcl_goals.specs.declared.lemma.Numbered.{Numbered}
use Rattle.tcl_goals.specs.Places.{goal_place}
use Rattle.tcl_goals.specs.LemmaList.{lemma_of}
use Rattle.tcl_goals.specs.Holds.{cube_holds, lemma_holds}
use Rattle.tcl_goals.specs.Order.{InOrder}
use Rattle.tcl_goals.specs.Assignments.{Assigns, cube_of, claim_of}
use Rattle.tcl_blast.specs.Lifted.{fixed_bits_of}
use Rattle.tcl_blast.specs.Clauses.{predicate_in, blasted_of, clauses_of}
use Rattle.tcl_blast.specs.Laws.{AreMet}

-- the number that the literals of a variable have, 0 where it has none
abbrev pub literals_value : (ℕ → Bool) → Variable → List ℕ → ℤ
literals_value v x ls = word_value x.ty.signed (map (literal_true v) ls)

abbrev pub literals_values : (ℕ → Bool) → List Variable → List (List ℕ) → List ℤ
literals_values v (x ∷ variables) (ls ∷ words) = literals_value v x ls ∷ literals_values v variables words
literals_values v _ _ = []

-- the values of the program's variables, where those of the clauses have these values
unfoldable pub assignment_of : VersionedProgram → List Numbered → Fact → (ℕ → Bool) → List ℤ
assignment_of p lemmas fact v = literals_values v p.variables (blasted_of p lemmas fact).words

-- what the clauses say of a hypothesis: of an algebraic line that the bits that it fixes have their values, else that it holds
abbrev pub line_in_clauses : VersionedProgram → List Word → Option Line → Option Pred → Bool
line_in_clauses p store line (Some (Alg pred)) = cube_holds store (fixed_bits_of p.variables pred)
line_in_clauses p store line (Some (Rng pred)) = truth_in store line
line_in_clauses p store line None = truth_in store line

abbrev pub hyp_in_clauses : VersionedProgram → List Numbered → List ℤ → Hyp → Bool
hyp_in_clauses p lemmas values (hyp.Line k) =
    line_in_clauses p (words_of p.variables values) (slice_get p.lines k) (predicate_in (slice_get p.lines k))
hyp_in_clauses p lemmas values (hyp.Lemma n) = lemma_holds (words_of p.variables values) (lemma_of lemmas n)

-- the claim is an algebraic goal
abbrev pub is_algebraic_claim : VersionedProgram → Claim → Bool
is_algebraic_claim p (claim.Goal i) = passes is_algebraic (slice_get p.lines (goal_place p.lines i))
is_algebraic_claim p (claim.Lemma m) = false

-- the values are an assignment of the fact that meets what its clauses say
pub record Models (p : VersionedProgram) (lemmas : List Numbered) (fact : Fact) (values : List ℤ) : Type 0 where
  pub assigns : Assigns p fact values
  pub hyps : list_all (hyp_in_clauses p lemmas values) fact.hyps ≡ true
  pub cube : cube_of p values fact.cube ≡ true
  pub denied : claim_of p values fact.claim ≡ false

-- values that meet the clauses of a fact in order whose claim is no algebraic goal give such an assignment
abbrev pub ModelsAreAssignments : Type 0
ModelsAreAssignments =
    (p : VersionedProgram) (lemmas : List Numbered) (fact : Fact) (v : ℕ → Bool) → IsWellFormed p →
    InOrder p lemmas fact → is_algebraic_claim p fact.claim ≡ false → Satisfies v (clauses_of p lemmas fact) →
    Models p lemmas fact (assignment_of p lemmas fact v)

-- and such an assignment of a fact in order meets its clauses, by some values of their variables
abbrev pub ModelsMeetClauses : Type 0
ModelsMeetClauses =
    (p : VersionedProgram) (lemmas : List Numbered) (fact : Fact) (values : List ℤ) → IsWellFormed p →
    InOrder p lemmas fact → Models p lemmas fact values → AreMet (clauses_of p lemmas fact)
