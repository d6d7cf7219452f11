-- The free variables of a fact and their bits.
use Rattle.std.specs.Prelude.{ℕ, zero, suc, Bool, not, ◌&&◌, List, [], ◌∷◌, ◌++◌, length, map, flat_map, slice_get, Option, Some, None}
use Rattle.tcl_lang.specs.declared.instr.Op.{Op}
use Rattle.tcl_lang.specs.declared.instr.Op.TheVariants as op
use Rattle.tcl_lang.specs.declared.pred.Line.{Line}
use Rattle.tcl_lang.specs.declared.pred.Line.TheVariants as line
use Rattle.tcl_lang.specs.declared.variable.Variable.{Variable}
use Rattle.tcl_lang.specs.Program.{VersionedProgram}
use Rattle.tcl_lang.specs.Defined.{is_among}
use Rattle.tcl_goals.specs.declared.fact.Hyp.{Hyp}
use Rattle.tcl_goals.specs.declared.fact.Hyp.TheVariants as hyp
use Rattle.tcl_goals.specs.declared.fact.Bit.{Bit}
use Rattle.tcl_goals.specs.declared.fact.BitLit.{BitLit}
use Rattle.tcl_goals.specs.declared.fact.Claim.{Claim}
use Rattle.tcl_goals.specs.declared.fact.Claim.TheVariants as claim
use Rattle.tcl_goals.specs.declared.fact.Fact.{Fact}
use Rattle.tcl_goals.specs.declared.lemma.Lemma.{Lemma}
use Rattle.tcl_goals.specs.declared.marks.Marks.{Marks}
use Rattle.tcl_goals.specs.Closure.{mark_one}
use Rattle.tcl_goals.specs.declared.lemma.Numbered.{Numbered}
use Rattle.tcl_goals.specs.Numbers.{those_below}
use Rattle.tcl_goals.specs.Places.{goal_place}
use Rattle.tcl_goals.specs.LemmaList.{lemma_of}
use Rattle.tcl_goals.specs.Slices.{read_in, named_in}

-- a set with one more variable
abbrev pub marked : Marks → ℕ → Marks
marked m v = record { marks = mark_one m.marks v }

-- the variables of bits
abbrev pub bit_variables : List BitLit → List ℕ
bit_variables bits = map (λ b. b.var) bits

-- the variables that a lemma, a hypothesis and a claim name
abbrev pub lemma_variables : Option Lemma → List ℕ
lemma_variables None = []
lemma_variables (Some m) = bit_variables m.clause

abbrev pub hyp_variables : List Line → List Numbered → Hyp → List ℕ
hyp_variables lines lemmas (hyp.Line k) = read_in (slice_get lines k)
hyp_variables lines lemmas (hyp.Lemma n) = lemma_variables (lemma_of lemmas n)

abbrev pub claim_variables : List Line → Claim → List ℕ
claim_variables lines (claim.Goal i) = read_in (slice_get lines (goal_place lines i))
claim_variables lines (claim.Lemma m) = bit_variables m.clause

-- the variables that the uses, the hypotheses, the cube or the claim of a fact name
abbrev pub fact_variables : List Line → List Numbered → Fact → List ℕ
fact_variables lines lemmas fact =
    flat_map (λ k. named_in (slice_get lines k)) fact.uses ++ flat_map (hyp_variables lines lemmas) fact.hyps
    ++ bit_variables fact.cube ++ claim_variables lines fact.claim

-- the results of an instruction other than `nondet`
abbrev pub computed_results : Op → List ℕ → List ℕ
computed_results op.Nondet outs = []
computed_results _ outs = outs

abbrev pub computed_in : Option Line → List ℕ
computed_in (Some (line.Step i)) = computed_results i.op i.outs
computed_in _ = []

abbrev pub computed_variables : List Line → List ℕ → List ℕ
computed_variables lines uses = flat_map (λ k. computed_in (slice_get lines k)) uses

-- a variable that the fact names and that no used instruction computes
abbrev pub is_free : VersionedProgram → List Numbered → Fact → ℕ → Bool
is_free p lemmas fact v =
    is_among (fact_variables p.lines lemmas fact) v && not (is_among (computed_variables p.lines fact.uses) v)

-- the free variables, by number
unfoldable pub free_variables : VersionedProgram → List Numbered → Fact → List ℕ
free_variables p lemmas fact = those_below (is_free p lemmas fact) (length p.variables)

-- their bits: variables by number, bits from the highest
abbrev pub width_in : Option Variable → ℕ
width_in None = 0
width_in (Some v) = v.ty.width

unfoldable pub bits_down : ℕ → ℕ → List Bit
bits_down v zero = []
bits_down v (suc w) = record { var = v; bit = w } ∷ bits_down v w

abbrev pub bits_of : List Variable → ℕ → List Bit
bits_of variables v = bits_down v (width_in (slice_get variables v))

unfoldable pub free_bits : VersionedProgram → List Numbered → Fact → List Bit
free_bits p lemmas fact = flat_map (bits_of p.variables) (free_variables p lemmas fact)
