-- Keys: what a fact may rest on has a smaller key than its claim.
use Rattle.std.specs.Prelude.{ℕ, nat_lt, ◌==◌, Bool, true, ◌&&◌, ◌||◌, List, [], ◌∷◌, Option, Some, None}
use Rattle.tcl_lang.specs.declared.pred.Line.{Line}
use Rattle.tcl_goals.specs.declared.fact.Hyp.{Hyp}
use Rattle.tcl_goals.specs.declared.fact.Hyp.TheVariants as hyp
use Rattle.tcl_goals.specs.declared.fact.Claim.{Claim}
use Rattle.tcl_goals.specs.declared.fact.Claim.TheVariants as claim
use Rattle.tcl_goals.specs.declared.fact.Key.{Key}
use Rattle.tcl_goals.specs.declared.lemma.Lemma.{Lemma}
use Rattle.tcl_goals.specs.declared.lemma.Numbered.{Numbered}
use Rattle.tcl_goals.specs.Places.{goal_place}
use Rattle.tcl_goals.specs.LemmaList.{lemma_of, next_number}

-- keys are compared from left to right
abbrev pub key_less : Key → Key → Bool
key_less a b =
    nat_lt a.place b.place
    || a.place == b.place && (nat_lt a.kind b.kind || a.kind == b.kind && nat_lt a.number b.number)

-- the key of a line, and of lemma n of a level
abbrev pub line_key : ℕ → Key
line_key place = record { place = place; kind = 1; number = 0 }

abbrev pub lemma_key : List Line → ℕ → ℕ → Key
lemma_key lines level n = record { place = goal_place lines level; kind = 0; number = n }

-- the key of the lemma of a number; one that is not there counts as of level 0
abbrev pub found_key : List Line → Option Lemma → ℕ → Key
found_key lines None n = lemma_key lines 0 n
found_key lines (Some m) n = lemma_key lines m.level n

-- the key of a hypothesis
abbrev pub hyp_key : List Line → List Numbered → Hyp → Key
hyp_key lines lemmas (hyp.Line place) = line_key place
hyp_key lines lemmas (hyp.Lemma n) = found_key lines (lemma_of lemmas n) n

-- hypotheses increase by their keys: each is greater than the one before it
abbrev pub is_key_above : Option Key → Key → Bool
is_key_above None key = true
is_key_above (Some last) key = key_less last key

abbrev pub hyps_after : List Line → List Numbered → Option Key → List Hyp → Bool
hyps_after lines lemmas last [] = true
hyps_after lines lemmas last (h ∷ hyps) =
    is_key_above last (hyp_key lines lemmas h) && hyps_after lines lemmas (Some (hyp_key lines lemmas h)) hyps

abbrev pub hyps_rise : List Line → List Numbered → List Hyp → Bool
hyps_rise lines lemmas hyps = hyps_after lines lemmas None hyps

-- the place of a claim: that of its goal, or of the goal of its level
abbrev pub claim_place : List Line → Claim → ℕ
claim_place lines (claim.Goal i) = goal_place lines i
claim_place lines (claim.Lemma m) = goal_place lines m.level

-- the key of a claim; a lemma that has no number yet stands above all lemmas
abbrev pub claim_key : List Line → List Numbered → Claim → Key
claim_key lines lemmas (claim.Goal i) = line_key (goal_place lines i)
claim_key lines lemmas (claim.Lemma m) = lemma_key lines m.level (next_number lemmas)
