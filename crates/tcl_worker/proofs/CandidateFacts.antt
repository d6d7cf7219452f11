-- The fact of a candidate is in order, and is one of a lemma.
use Rattle.std.proofs.Common.{◌≡◌, ◌<◌, ◌≤◌, ◌-◌, ℕ, nat_lt, nat_le, ltb-true, Bool, true, false, List, [], ◌∷◌, refl, subst, arith, Some}
use Rattle.std.specs.List.{slice_get, list_all}
use Rattle.std.proofs.lemmas.Bool.{and_parts, and_from, lt-ltb}
use Rattle.std.proofs.lemmas.Bool.Decides.{nat_tests}
use Rattle.tcl_list.proofs.Booleans.{or_left, all_by_two}
use Rattle.tcl_lang.specs.declared.pred.Line.{Line}
use Rattle.tcl_lang.specs.Program.{VersionedProgram}
use Rattle.tcl_lang.specs.Goal.{goal_count}
use Rattle.tcl_lang.specs.Form.{IsWellFormed}
use Rattle.tcl_goals.specs.declared.fact.BitLit.{BitLit}
use Rattle.tcl_goals.specs.declared.fact.Claim.{Claim}
use Rattle.tcl_goals.specs.declared.fact.Claim.TheVariants as claim
use Rattle.tcl_goals.specs.declared.fact.Fact.{Fact}
use Rattle.tcl_goals.specs.declared.fact.Hyp.{Hyp}
use Rattle.tcl_goals.specs.declared.fact.Hyp.TheVariants as hyp
use Rattle.tcl_goals.specs.LemmaList.{lemma_of, next_number}
use Rattle.tcl_goals.specs.Places.{goal_place, has_goal}
use Rattle.tcl_goals.specs.Keys.{claim_place, claim_key, key_less, line_key, lemma_key, hyps_rise}
use Rattle.tcl_goals.specs.Order.{InOrder, has_claim, has_hyp, are_uses, is_before, is_bit_before}
use Rattle.tcl_board.specs.Judging.{last_goal_place, is_hyp_upto, shows_lemma}
use Rattle.tcl_worker.specs.Candidates.{candidate_bits, candidate_fact, level_of}
use Rattle.tcl_worker.proofs.GoalNumbers.{earlier_goal}
use Rattle.tcl_worker.proofs.HighestBits.{all_at, bits_before}

-- the goal of a candidate's lemma, and its place
level_there : (p : VersionedProgram) (c : Claim) → has_claim p c ≡ true → has_goal p.lines (level_of c) ≡ true
level_there p (claim.Goal i) e = e
level_there p (claim.Lemma m) e = (and_parts (has_goal p.lines m.level) (list_all (is_bit_before p (goal_place p.lines m.level)) m.clause) e).0

level_place : (p : VersionedProgram) (c : Claim) → claim_place p.lines c ≡ goal_place p.lines (level_of c)
level_place p (claim.Goal i) = refl
level_place p (claim.Lemma m) = refl

-- a line below the key of a claim stands before its place
below_line : (j k : ℕ) → key_less (line_key j) (line_key k) ≡ true → j < k
below_line j k e = grind (arith, nat_tests)

below_lemma : (lines : List Line) (j i n : ℕ) → key_less (line_key j) (lemma_key lines i n) ≡ true → j < goal_place lines i
below_lemma lines j i n e = grind (arith, nat_tests)

line_below : (lines : List Line) (c : Claim) (k : ℕ) → key_less (line_key k) (claim_key lines [] c) ≡ true → k < claim_place lines c
line_below lines (claim.Goal i) k e = below_line k (goal_place lines i) e
line_below lines (claim.Lemma m) k e = below_lemma lines k m.level (next_number []) e

-- so do the hypotheses of a fact without lemmas
abbrev is_line_below : ℕ → Hyp → Bool
is_line_below place (hyp.Line k) = nat_lt k place
is_line_below place (hyp.Lemma n) = false

hyp_below : (lines : List Line) (c : Claim) (h : Hyp) → has_hyp lines [] h ≡ true → is_before lines [] c h ≡ true → is_line_below (claim_place lines c) h ≡ true
unfolding lemma_of
hyp_below lines c (hyp.Line k) has before = lt-ltb k (claim_place lines c) (line_below lines c k before)
hyp_below lines c (hyp.Lemma n) has before = absurd (cc)

hyps_below : (p : VersionedProgram) (fact : Fact) → InOrder p [] fact → list_all (is_line_below (claim_place p.lines fact.claim)) fact.hyps ≡ true
hyps_below p fact order =
    let parts = and_parts (hyps_rise p.lines [] fact.hyps) (list_all (is_before p.lines [] fact.claim) fact.hyps) order.order in
    all_by_two (has_hyp p.lines []) (is_before p.lines [] fact.claim) (is_line_below (claim_place p.lines fact.claim))
    (hyp_below p.lines fact.claim) fact.hyps order.hyps parts.1

-- such hypotheses are below a lemma of this place, and not above the goals
below_level : (lines : List Line) (level : ℕ) (bits : List BitLit) (h : Hyp) → is_line_below (goal_place lines level) h ≡ true → is_before lines [] (claim.Lemma (record { level = level; clause = bits })) h ≡ true
below_level lines level bits (hyp.Line k) e = or_left (nat_lt k (goal_place lines level)) _ e
below_level lines level bits (hyp.Lemma n) e = absurd (cc)

last_place : (lines : List Line) (i : ℕ) → has_goal lines i ≡ true → goal_place lines i ≤ last_goal_place lines
last_place lines i has = at (nat_lt (last_goal_place lines) (goal_place lines i)) refl
  where
    within : i < goal_count lines
    within = ltb-true i (goal_count lines) has

    there : has_goal lines (goal_count lines - 1) ≡ true
    there = lt-ltb (goal_count lines - 1) (goal_count lines) (omega (arith, within))

    at : (b : Bool) → nat_lt (last_goal_place lines) (goal_place lines i) ≡ b → goal_place lines i ≤ last_goal_place lines
    at true e =
        let less = earlier_goal lines (goal_count lines - 1) i there has (ltb-true (last_goal_place lines) (goal_place lines i) e) in
        absurd (omega (arith, less, within))
    at false e = grind (arith, nat_tests)

upto_last : (lines : List Line) (i : ℕ) → has_goal lines i ≡ true → (h : Hyp) → is_line_below (goal_place lines i) h ≡ true → is_hyp_upto (last_goal_place lines) h ≡ true
upto_last lines i has (hyp.Line k) e =
    let less = ltb-true k (goal_place lines i) e in
    let last = last_place lines i has in
    up k (last_goal_place lines) (omega (arith, less, last))
  where
    up : (j n : ℕ) → j ≤ n → nat_le j n ≡ true
    up j n h = grind (arith, nat_tests)
upto_last lines i has (hyp.Lemma n) e = absurd (cc)

all_from : {X : Type 0} (q r : X → Bool) → ((x : X) → q x ≡ true → r x ≡ true) → (xs : List X) → list_all q xs ≡ true → list_all r xs ≡ true
all_from q r h xs e = all_by_two q q r (λ x a b. h x a) xs e e

level_below : (p : VersionedProgram) (fact : Fact) → InOrder p [] fact → list_all (is_line_below (goal_place p.lines (level_of fact.claim))) fact.hyps ≡ true
level_below p fact order =
    subst (λ k. list_all (is_line_below k) fact.hyps ≡ true) (level_place p fact.claim) (hyps_below p fact order)

-- the fact of a candidate of a fact in order
pub candidate_in_order : (p : VersionedProgram) (fact : Fact) (k : ℕ) (b : BitLit) → IsWellFormed p → InOrder p [] fact → slice_get (candidate_bits p fact.claim) k ≡ Some b → InOrder p [] (candidate_fact fact b)
candidate_in_order p fact k b w order at =
    let level = level_of fact.claim in
    let place = goal_place p.lines level in
    let parts = and_parts (hyps_rise p.lines [] fact.hyps) (list_all (is_before p.lines [] fact.claim) fact.hyps) order.order in
    let bits = subst (λ n. list_all (is_bit_before p n) (candidate_bits p fact.claim) ≡ true) (level_place p fact.claim) (bits_before p fact.claim w order.claim) in
    let bit = all_at (is_bit_before p place) (candidate_bits p fact.claim) k b at bits in
    record {
      claim = and_from (has_goal p.lines level) (list_all (is_bit_before p place) (b ∷ [])) (level_there p fact.claim order.claim) (and_from (is_bit_before p place b) true bit refl);
      hyps = order.hyps;
      order = and_from (hyps_rise p.lines [] fact.hyps) (list_all (is_before p.lines [] (claim.Lemma (record { level = level; clause = b ∷ [] }))) fact.hyps) parts.0
          (all_from (is_line_below place) (is_before p.lines [] (claim.Lemma (record { level = level; clause = b ∷ [] }))) (below_level p.lines level (b ∷ [])) fact.hyps (level_below p fact order));
      uses = subst (λ n. are_uses p.lines n fact.uses ≡ true) (level_place p fact.claim) order.uses;
      cube = refl;
    }

pub candidate_shows : (p : VersionedProgram) (fact : Fact) (b : BitLit) → InOrder p [] fact → shows_lemma p.lines (candidate_fact fact b) ≡ true
candidate_shows p fact b order =
    let level = level_of fact.claim in
    let there = level_there p fact.claim order.claim in
    and_from (has_goal p.lines level) _ there
    (all_from (is_line_below (goal_place p.lines level)) (is_hyp_upto (last_goal_place p.lines)) (upto_last p.lines level there) fact.hyps (level_below p fact order))
