-- The candidates for lemmas: how they are listed, and that each is a bit of a variable that is defined before the goal.
use Rattle.std.proofs.Common.{◌≡◌, ◌<◌, ◌≤◌, ◌+◌, ◌-◌, ◌++◌, inl, inr, ℕ, zero, suc, nat_eq, eqb-true, Bool, true, false, if◌then◌else◌, List, [], ◌∷◌, length, drop, flat_map, refl, ap, sym, ◌∙◌, subst, arith, Option, Some, None, Result, Ok, Err}
use Rattle.std.specs.Prelude.{IfOk}
use Rattle.std.specs.List.{slice_get, list_all}
use Rattle.std.proofs.lemmas.Bool.{and_parts, and_from, lt-ltb}
use Rattle.std.proofs.lemmas.Option.{slice_get_within, get_or_from_slice_get}
use Rattle.std.proofs.lemmas.List.Folds.{list_all-append}
use mathlib.Core.List.{append_assoc}
use Rattle.tcl_list.proofs.Booleans.{or_cases, cond_cases}
use Rattle.tcl_lang.specs.declared.pred.Line.{Line}
use Rattle.tcl_lang.specs.declared.variable.Variable.{Variable}
use Rattle.tcl_lang.specs.declared.ty.Ty.{Ty}
use Rattle.tcl_lang.specs.Types.{IsTy}
use Rattle.tcl_lang.specs.Program.{VersionedProgram}
use Rattle.tcl_lang.specs.Defined.{is_among, is_defined_before}
use Rattle.tcl_lang.specs.Form.{IsWellFormed}
use Rattle.tcl_lang.proofs.FormEnds.{reads_before}
use Rattle.tcl_goals.specs.declared.fact.BitLit.{BitLit}
use Rattle.tcl_goals.specs.declared.fact.Claim.{Claim}
use Rattle.tcl_goals.specs.declared.fact.Claim.TheVariants as claim
use Rattle.tcl_goals.specs.declared.fact.Hyp.{Hyp}
use Rattle.tcl_goals.specs.declared.lemma.Numbered.{Numbered}
use Rattle.tcl_goals.specs.Numbers.{those_below}
use Rattle.tcl_goals.specs.Places.{goal_place, has_goal}
use Rattle.tcl_goals.specs.Slices.{read_in}
use Rattle.tcl_goals.specs.Free.{bit_variables, claim_variables, fact_variables}
use Rattle.tcl_goals.specs.Keys.{claim_place}
use Rattle.tcl_goals.specs.Order.{has_bit, has_claim, is_bit_before}
use Rattle.tcl_worker.specs.Candidates.{claimed_variables, highest_bits, bits_of_all, candidate_bits}
use Rattle.tcl_worker.proofs.Entries.{drop_item}

-- one variable more
pub bits_more : (variables : List Variable) (chosen : List ℕ) (k v : ℕ) (done whole : List BitLit) → slice_get chosen k ≡ Some v → done ++ bits_of_all variables (drop k chosen) ≡ whole → (done ++ highest_bits v (slice_get variables v)) ++ bits_of_all variables (drop (k + 1) chosen) ≡ whole
unfolding bits_of_all
bits_more variables chosen k v done whole at e =
    append_assoc done (highest_bits v (slice_get variables v)) (bits_of_all variables (drop (k + 1) chosen))
    ∙ ap (λ vs. done ++ bits_of_all variables vs) (sym (drop_item chosen k v at)) ∙ e

-- the variables of a claim are those of the fact that has it alone
pub claim_told : {E : Type 0} (p : VersionedProgram) (c copy : Claim) (lemmas : List Numbered) (hyps : List Hyp) (cube : List BitLit) (uses : List ℕ) (r : Result (List ℕ) E) → copy ≡ c → hyps ≡ [] → cube ≡ [] → uses ≡ [] → IfOk r (λ vs. vs ≡ those_below (is_among (fact_variables p.lines lemmas (record { claim = copy; hyps = hyps; cube = cube; uses = uses }))) (length p.variables)) → IfOk r (λ vs. vs ≡ claimed_variables p c)
unfolding claimed_variables
claim_told p c copy lemmas hyps cube uses (Ok vs) same no_hyps no_cube no_uses e =
    e ∙ ap (λ xs. those_below (is_among (fact_variables p.lines lemmas (record { claim = copy; hyps = hyps; cube = cube; uses = xs }))) (length p.variables)) no_uses
    ∙ ap (λ xs. those_below (is_among (fact_variables p.lines lemmas (record { claim = copy; hyps = hyps; cube = xs; uses = [] }))) (length p.variables)) no_cube
    ∙ ap (λ xs. those_below (is_among (fact_variables p.lines lemmas (record { claim = copy; hyps = xs; cube = []; uses = [] }))) (length p.variables)) no_hyps
    ∙ ap (λ x. those_below (is_among (claim_variables p.lines x)) (length p.variables)) same
claim_told p c copy lemmas hyps cube uses (Err x) same no_hyps no_cube no_uses e = tt

-- what holds of all of two lists, of all that are listed, of one that is in a list
all_both : {X : Type 0} (q : X → Bool) (xs ys : List X) → list_all q xs ≡ true → list_all q ys ≡ true → list_all q (xs ++ ys) ≡ true
all_both q xs ys e f = list_all-append q xs ys ∙ and_from (list_all q xs) (list_all q ys) e f

all_flat : {X Y : Type 0} (q : Y → Bool) (f : X → List Y) (r : X → Bool) → ((x : X) → r x ≡ true → list_all q (f x) ≡ true) → (xs : List X) → list_all r xs ≡ true → list_all q (flat_map f xs) ≡ true
all_flat q f r h [] e = refl
all_flat q f r h (x ∷ xs) e =
    let parts = and_parts (r x) (list_all r xs) e in
    all_both q (f x) (flat_map f xs) (h x parts.0) (all_flat q f r h xs parts.1)

all_those : (test q : ℕ → Bool) → ((k : ℕ) → test k ≡ true → q k ≡ true) → (n : ℕ) → list_all q (those_below test n) ≡ true
unfolding those_below
all_those test q h zero = refl
all_those test q h (suc n) =
    cond_cases (λ (xs : List ℕ). list_all q xs ≡ true) (test n) (those_below test n ++ n ∷ []) (those_below test n)
    (λ e. all_both q (those_below test n) (n ∷ []) (all_those test q h n) (and_from (q n) true (h n e) refl))
    (λ e. all_those test q h n)

pub all_at : {X : Type 0} (q : X → Bool) (xs : List X) (k : ℕ) (x : X) → slice_get xs k ≡ Some x → list_all q xs ≡ true → q x ≡ true
all_at q [] k x at e = absurd (none at)
  where
    none : {X : Type 0} {x : X} → None ≡ Some x → ⊥
    none f = cc
all_at q (y ∷ xs) zero x at e = ap q (same at) ∙ (and_parts (q y) (list_all q xs) e).0
  where
    same : Some y ≡ Some x → x ≡ y
    same f = cc
all_at q (y ∷ xs) (suc k) x at e = all_at q xs k x at (and_parts (q y) (list_all q xs) e).1

among_all : (q : ℕ → Bool) (vs : List ℕ) → list_all q vs ≡ true → (v : ℕ) → is_among vs v ≡ true → q v ≡ true
among_all q [] e v h = absurd (cc)
among_all q (u ∷ vs) e v h =
    let parts = and_parts (q u) (list_all q vs) e in
    elim (or_cases (nat_eq u v) (is_among vs v) h) [
      | inl same ↦ subst (λ w. q w ≡ true) (eqb-true u v same) parts.0
      | inr others ↦ among_all q vs parts.1 v others
    ]

-- the variables of a claim in order are defined before its place
line_reads : (p : VersionedProgram) (k : ℕ) → IsWellFormed p → (o : Option Line) → slice_get p.lines k ≡ o → list_all (is_defined_before p.lines k) (read_in o) ≡ true
line_reads p k w None at = refl
line_reads p k w (Some l) at = reads_before p k l w at

bits_defined : (p : VersionedProgram) (place : ℕ) (bits : List BitLit) → list_all (is_bit_before p place) bits ≡ true → list_all (is_defined_before p.lines place) (bit_variables bits) ≡ true
bits_defined p place [] e = refl
bits_defined p place (b ∷ bits) e =
    let parts = and_parts (is_bit_before p place b) (list_all (is_bit_before p place) bits) e in
    and_from (is_defined_before p.lines place b.var) (list_all (is_defined_before p.lines place) (bit_variables bits))
    (and_parts (is_defined_before p.lines place b.var) (has_bit (slice_get p.variables b.var) b.bit) parts.0).0
    (bits_defined p place bits parts.1)

claim_defined : (p : VersionedProgram) (c : Claim) → IsWellFormed p → has_claim p c ≡ true → list_all (is_defined_before p.lines (claim_place p.lines c)) (claim_variables p.lines c) ≡ true
claim_defined p (claim.Goal i) w e = line_reads p (goal_place p.lines i) w (slice_get p.lines (goal_place p.lines i)) refl
claim_defined p (claim.Lemma m) w e =
    bits_defined p (goal_place p.lines m.level) m.clause
    (and_parts (has_goal p.lines m.level) (list_all (is_bit_before p (goal_place p.lines m.level)) m.clause) e).1

-- a type of words has a highest bit
wide_enough : (T : Ty) → IsTy T → 0 < T.width
wide_enough T is = at T.signed T.width is.0
  where
    at : (b : Bool) (n : ℕ) → (if b then 2 else 1) ≤ n → 0 < n
    at true n h = omega (arith, h)
    at false n h = omega (arith, h)

highest_before : (p : VersionedProgram) (place v : ℕ) (o : Option Variable) → IsWellFormed p → slice_get p.variables v ≡ o → is_defined_before p.lines place v ≡ true → list_all (is_bit_before p place) (highest_bits v o) ≡ true
highest_before p place v None w at e = refl
highest_before p place v (Some x) w at e =
    let typed : IsTy x.ty = subst (λ (y : Variable). IsTy y.ty) (get_or_from_slice_get p.variables v x x at) (w.words v x (slice_get_within p.variables v x at)) in
    let less : x.ty.width - 1 < x.ty.width = omega (arith, wide_enough x.ty typed) in
    let has : has_bit (slice_get p.variables v) (x.ty.width - 1) ≡ true = ap (λ o. has_bit o (x.ty.width - 1)) at ∙ lt-ltb (x.ty.width - 1) x.ty.width less in
    let one = and_from (is_defined_before p.lines place v) (has_bit (slice_get p.variables v) (x.ty.width - 1)) e has in
    and_from _ _ one (and_from _ _ one refl)

pub bits_before : (p : VersionedProgram) (c : Claim) → IsWellFormed p → has_claim p c ≡ true → list_all (is_bit_before p (claim_place p.lines c)) (candidate_bits p c) ≡ true
unfolding candidate_bits bits_of_all claimed_variables
bits_before p c w e =
    let place = claim_place p.lines c in
    all_flat (is_bit_before p place) (λ v. highest_bits v (slice_get p.variables v)) (is_defined_before p.lines place)
    (λ v d. highest_before p place v (slice_get p.variables v) w refl d) (claimed_variables p c)
    (all_those (is_among (claim_variables p.lines c)) (is_defined_before p.lines place)
    (among_all (is_defined_before p.lines place) (claim_variables p.lines c) (claim_defined p c w e)) (length p.variables))
