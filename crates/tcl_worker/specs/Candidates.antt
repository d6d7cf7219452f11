-- The candidates for lemmas: each says that the highest bit of a variable of a claim has a value.
use Rattle.std.specs.Prelude.{ℕ, ◌-◌, Bool, true, false, List, [], ◌∷◌, length, flat_map, slice_get, Option, Some, None}
use Rattle.std.specs.List.{list_any}
use Rattle.tcl_lang.specs.Defined.{is_among}
use Rattle.tcl_lang.specs.Program.{VersionedProgram}
use Rattle.tcl_lang.specs.declared.variable.Variable.{Variable}
use Rattle.tcl_goals.specs.declared.fact.BitLit.{BitLit}
use Rattle.tcl_goals.specs.declared.fact.Claim.{Claim}
use Rattle.tcl_goals.specs.declared.fact.Claim.TheVariants as claim
use Rattle.tcl_goals.specs.declared.fact.Fact.{Fact}
use Rattle.tcl_goals.specs.declared.lemma.Numbered.{Numbered}
use Rattle.tcl_goals.specs.Numbers.{those_below}
use Rattle.tcl_goals.specs.Free.{claim_variables}
pub use Rattle.tcl_board.specs.Own.{same_lit}

-- the variables of a claim, by number
unfoldable pub claimed_variables : VersionedProgram → Claim → List ℕ
claimed_variables p c = those_below (is_among (claim_variables p.lines c)) (length p.variables)

-- the highest bit of a variable, first with the value 0, then with the value 1
abbrev pub highest_bits : ℕ → Option Variable → List BitLit
highest_bits v None = []
highest_bits v (Some x) =
    record { var = v; bit = x.ty.width - 1; value = false } ∷ record { var = v; bit = x.ty.width - 1; value = true } ∷ []

-- the bits that are tried for a claim, in order
unfoldable pub bits_of_all : List Variable → List ℕ → List BitLit
bits_of_all variables vs = flat_map (λ v. highest_bits v (slice_get variables v)) vs

unfoldable pub candidate_bits : VersionedProgram → Claim → List BitLit
candidate_bits p c = bits_of_all p.variables (claimed_variables p c)

-- a lemma of the list has this one bit as its clause
abbrev pub is_unit : BitLit → List BitLit → Bool
is_unit b (x ∷ []) = same_lit x b
is_unit b _ = false

abbrev pub is_known : List Numbered → BitLit → Bool
is_known lemmas b = list_any (λ m. is_unit b m.lemma.clause) lemmas

-- the level of a lemma that is made for a claim: its goal
abbrev pub level_of : Claim → ℕ
level_of (claim.Goal i) = i
level_of (claim.Lemma m) = m.level

-- the fact of a candidate: the hypotheses and uses of the fact, which hold no lemma, and an empty cube
abbrev pub candidate_fact : Fact → BitLit → Fact
candidate_fact fact b =
    record {
      claim = claim.Lemma (record { level = level_of fact.claim; clause = b ∷ [] });
      hyps = fact.hyps;
      cube = [];
      uses = fact.uses;
    }
