-- Facts in order: a fact rests on what stands before its claim.
use Rattle.std.specs.Prelude.{◌≡◌, ℕ, nat_lt, ◌==◌, Bool, true, false, not, ◌&&◌, List, [], ◌∷◌, slice_get, Option, Some, None, is_some}
use Rattle.std.specs.List.{list_all, list_any}
use Rattle.tcl_lang.specs.declared.pred.Line.{Line}
use Rattle.tcl_lang.specs.declared.variable.Variable.{Variable}
use Rattle.tcl_lang.specs.Program.{VersionedProgram}
use Rattle.tcl_lang.specs.Line.{is_hypothesis}
use Rattle.tcl_lang.specs.Goal.{passes}
use Rattle.tcl_lang.specs.Defined.{is_defined_before}
use Rattle.tcl_goals.specs.declared.fact.Hyp.{Hyp}
use Rattle.tcl_goals.specs.declared.fact.Hyp.TheVariants as hyp
use Rattle.tcl_goals.specs.declared.fact.BitLit.{BitLit}
use Rattle.tcl_goals.specs.declared.fact.Claim.{Claim}
use Rattle.tcl_goals.specs.declared.fact.Claim.TheVariants as claim
use Rattle.tcl_goals.specs.declared.fact.Fact.{Fact}
use Rattle.tcl_goals.specs.declared.lemma.Numbered.{Numbered}
use Rattle.tcl_goals.specs.Numbers.{numbers_rise}
use Rattle.tcl_goals.specs.LemmaList.{lemma_of}
use Rattle.tcl_goals.specs.Places.{goal_place, has_goal, is_step}
use Rattle.tcl_goals.specs.Keys.{key_less, hyps_rise, hyp_key, claim_key, claim_place}

-- the variable has a bit of this number
abbrev pub has_bit : Option Variable → ℕ → Bool
has_bit None bit = false
has_bit (Some v) bit = nat_lt bit v.ty.width

-- a bit of one of the first variables, and a bit of a variable that is defined before the place; in a well formed program
-- the variables defined before a place are the first
abbrev pub is_first_bit : List Variable → ℕ → BitLit → Bool
is_first_bit variables count b = nat_lt b.var count && has_bit (slice_get variables b.var) b.bit

abbrev pub is_bit_before : VersionedProgram → ℕ → BitLit → Bool
is_bit_before p place b = is_defined_before p.lines place b.var && has_bit (slice_get p.variables b.var) b.bit

-- the goal exists, and the bits of a clause are of variables defined before it
abbrev pub has_claim : VersionedProgram → Claim → Bool
has_claim p (claim.Goal i) = has_goal p.lines i
has_claim p (claim.Lemma m) =
    has_goal p.lines m.level && list_all (is_bit_before p (goal_place p.lines m.level)) m.clause

-- a hypothesis is a part of the precondition, an assumption, a goal, or one of the lemmas
abbrev pub has_hyp : List Line → List Numbered → Hyp → Bool
has_hyp lines lemmas (hyp.Line place) = passes is_hypothesis (slice_get lines place)
has_hyp lines lemmas (hyp.Lemma n) = is_some (lemma_of lemmas n)

abbrev pub has_hyps : List Line → List Numbered → List Hyp → Bool
has_hyps lines lemmas hyps = list_all (has_hyp lines lemmas) hyps

-- the hypotheses increase by their keys, and each is smaller than the claim
abbrev pub is_before : List Line → List Numbered → Claim → Hyp → Bool
is_before lines lemmas c h = key_less (hyp_key lines lemmas h) (claim_key lines lemmas c)

abbrev pub are_ordered : List Line → List Numbered → Claim → List Hyp → Bool
are_ordered lines lemmas c hyps =
    hyps_rise lines lemmas hyps && list_all (is_before lines lemmas c) hyps

-- the uses increase, and each is an instruction before the place
abbrev pub is_step_before : List Line → ℕ → ℕ → Bool
is_step_before lines place k = passes is_step (slice_get lines k) && nat_lt k place

abbrev pub are_uses : List Line → ℕ → List ℕ → Bool
are_uses lines place uses = numbers_rise uses && list_all (is_step_before lines place) uses

-- the same bit of the same variable
abbrev pub same_bit : BitLit → BitLit → Bool
same_bit a b = a.var == b.var && a.bit == b.bit

-- no bit stands twice
abbrev pub bits_differ : List BitLit → Bool
bits_differ [] = true
bits_differ (b ∷ bits) = not (list_any (same_bit b) bits) && bits_differ bits

-- no bit stands twice in the cube, and each is of a variable defined before the place
abbrev pub is_cube : VersionedProgram → ℕ → List BitLit → Bool
is_cube p place cube = bits_differ cube && list_all (is_bit_before p place) cube

-- the fact is in order for these lemmas
pub record InOrder (p : VersionedProgram) (lemmas : List Numbered) (fact : Fact) : Type 0 where
  pub claim : has_claim p fact.claim ≡ true
  pub hyps : has_hyps p.lines lemmas fact.hyps ≡ true
  pub order : are_ordered p.lines lemmas fact.claim fact.hyps ≡ true
  pub uses : are_uses p.lines (claim_place p.lines fact.claim) fact.uses ≡ true
  pub cube : is_cube p (claim_place p.lines fact.claim) fact.cube ≡ true
