-- Which facts are walked, and what the end of a walk says.
use Rattle.std.proofs.Common.{◌≡◌, inl, inr, ◌≤◌, ◌^◌, ℕ, Bool, true, false, ◌&&◌, List, [], length, refl, sym, ap, arith, Option, Some, None, if◌then◌else◌, ℤ, ◌∙◌, Result, Ok, Err}
use Rattle.std.specs.Prelude.{nat_le, not, IfOk}
use Rattle.std.specs.List.{list_all}
use Rattle.std.proofs.lemmas.Bool.{and_parts}
use Rattle.std.proofs.lemmas.Bool.Decides.{nat_tests}
use Rattle.tcl_lang.specs.declared.pred.Line.{Line}
use Rattle.tcl_lang.specs.Program.{VersionedProgram}
use Rattle.tcl_lang.specs.Form.{IsWellFormed}
use Rattle.tcl_goals.specs.declared.fact.Fact.{Fact}
use Rattle.tcl_goals.specs.declared.fact.Bit.{Bit}
use Rattle.tcl_goals.specs.declared.lemma.Numbered.{Numbered}
use Rattle.tcl_goals.specs.Free.{free_bits}
use Rattle.tcl_goals.specs.Order.{InOrder}
use Rattle.tcl_goals.specs.Assignments.{hyp_of, cube_of, claim_of, HoldsOfAll}
use Rattle.tcl_enum.specs.declared.ended.Ended.{Ended}
use Rattle.tcl_enum.specs.declared.ended.Ended.TheVariants as ended
use Rattle.tcl_enum.specs.declared.ended.FreeValue.{FreeValue}
use Rattle.tcl_enum.specs.NarrowFact.{is_narrow_fact, is_narrow_hyp, is_narrow_claim}
use Rattle.tcl_enum.specs.Patterns.{assignment}
use Rattle.tcl_enum.specs.Enumeration.{IsEnd, first_denial, ended_by, ended_of}
use Rattle.tcl_blast.specs.Clauses.{clauses_of}
use Rattle.tcl_blast.proofs.Countermodels.{refuted_prove}
use Rattle.tcl_kernel.specs.BoundsCertificate.{is_bounded}
use Rattle.tcl_kernel.specs.Causes.{is_walked_by}
use Rattle.tcl_kernel.specs.EnumerationCertificate.{is_all, is_enumerated}
use Rattle.tcl_worker.specs.Inputs.{input_of}
use Rattle.tcl_worker.specs.Worked.{IsFailing}
use Rattle.tcl_worker.specs.Reduced.{is_reduced}
use Rattle.tcl_worker.specs.Searched.{IsDecidedByUnits}
use Rattle.tcl_worker.specs.Settled.{IsSettledBy}
use Rattle.tcl_worker.proofs.Conflicts.{solution_no_conflict}
use Rattle.tcl_worker.proofs.FirstInputs.{numbered_assigns, first_denies, fails_first}
use Rattle.tcl_worker.proofs.Reductions.{KnowsRing, reduced_holds}

pub clash : (b : Bool) → b ≡ true → b ≡ false → ⊥
clash b s t = cc

-- whether the assignments of so many bits are walked, as far as their count goes
abbrev pub are_few : ℕ → ℕ → Bool
are_few n budget = nat_le n 20 && nat_le (2 ^ n) budget

both_true : (a b : Bool) → a ≡ true → b ≡ true → (a && b) ≡ true
both_true true b e f = f
both_true false b e f = absurd (cc)

no_first : (a b : Bool) → a ≡ false → (a && b) ≡ false
no_first true b e = absurd (cc)
no_first false b e = refl

no_second : (a b : Bool) → b ≡ false → (a && b) ≡ false
no_second true b e = e
no_second false b e = refl

pub few_walked : (p : VersionedProgram) (budget : ℕ) (fact : Fact) → are_few (length (free_bits p [] fact)) budget ≡ true → is_narrow_fact p fact ≡ true → is_walked_by p budget fact ≡ true
few_walked p budget fact few narrow = both_true (are_few (length (free_bits p [] fact)) budget) (is_narrow_fact p fact) few narrow

pub many_unwalked : (p : VersionedProgram) (budget : ℕ) (fact : Fact) → are_few (length (free_bits p [] fact)) budget ≡ false → is_walked_by p budget fact ≡ false
many_unwalked p budget fact many = no_first (are_few (length (free_bits p [] fact)) budget) (is_narrow_fact p fact) many

-- the same as the code counts them
pub told_unwalked : (p : VersionedProgram) (budget : ℕ) (fact : Fact) (lemmas : List Numbered) (bits : List Bit) (n : ℕ) (few : Bool) → lemmas ≡ [] → bits ≡ free_bits p lemmas fact → n ≡ length bits → few ≡ are_few n budget → few ≡ false → is_walked_by p budget fact ≡ false
told_unwalked p budget fact lemmas bits n few none is count told many =
    let same : bits ≡ free_bits p [] fact = is ∙ ap (λ ls. free_bits p ls fact) none in
    many_unwalked p budget fact
    (ap (λ bs. are_few (length bs) budget) (sym same) ∙ ap (λ m. are_few m budget) (sym count) ∙ sym told ∙ many)

pub told_few : (p : VersionedProgram) (budget : ℕ) (fact : Fact) (lemmas : List Numbered) (bits : List Bit) (n : ℕ) (few : Bool) → lemmas ≡ [] → bits ≡ free_bits p lemmas fact → n ≡ length bits → few ≡ are_few n budget → few ≡ true → are_few (length (free_bits p [] fact)) budget ≡ true
told_few p budget fact lemmas bits n few none is count told many =
    let same : bits ≡ free_bits p [] fact = is ∙ ap (λ ls. free_bits p ls fact) none in
    ap (λ bs. are_few (length bs) budget) (sym same) ∙ ap (λ m. are_few m budget) (sym count) ∙ sym told ∙ many

ended_wide : (p : VersionedProgram) (fact : Fact) → ended_of p [] fact ≡ ended.Wide → is_narrow_fact p fact ≡ false
unfolding ended_of
ended_wide p fact e = at (is_narrow_fact p fact) (first_denial p [] fact) e
  where
    at : (b : Bool) (o : Option ℕ) → (if b then ended_by p [] fact o else ended.Wide) ≡ ended.Wide → b ≡ false
    at true None e = absurd (cc)
    at true (Some n) e = absurd (cc)
    at false o e = refl

pub wide_unwalked : (p : VersionedProgram) (budget : ℕ) (fact : Fact) → ended_of p [] fact ≡ ended.Wide → is_walked_by p budget fact ≡ false
wide_unwalked p budget fact e = no_second (are_few (length (free_bits p [] fact)) budget) (is_narrow_fact p fact) (ended_wide p fact e)

pub ended_fails : (p : VersionedProgram) (fact : Fact) (free : List FreeValue) → ended_of p [] fact ≡ ended.Fails free → is_narrow_fact p fact ≡ true
unfolding ended_of
ended_fails p fact free e = at (is_narrow_fact p fact) (first_denial p [] fact) e
  where
    at : (b : Bool) (o : Option ℕ) → (if b then ended_by p [] fact o else ended.Wide) ≡ ended.Fails free → b ≡ true
    at true o e = refl
    at false o e = absurd (cc)

pub ended_all : (p : VersionedProgram) (fact : Fact) → ended_of p [] fact ≡ ended.All → is_narrow_fact p fact ≡ true
unfolding ended_of
ended_all p fact e = at (is_narrow_fact p fact) (first_denial p [] fact) e
  where
    at : (b : Bool) (o : Option ℕ) → (if b then ended_by p [] fact o else ended.Wide) ≡ ended.All → b ≡ true
    at true o e = refl
    at false o e = absurd (cc)

-- the end that is told, where it is not that memory has run out
pub end_all : (told e : Ended) → IsEnd told e → e ≡ ended.All → told ≡ ended.All
end_all told ended.All h same = sym h
end_all told ended.Wide h same = absurd (cc)
end_all told (ended.Fails free) h same = absurd (cc)
end_all told ended.Memory h same = absurd (cc)

pub end_wide : (told e : Ended) → IsEnd told e → e ≡ ended.Wide → told ≡ ended.Wide
end_wide told ended.Wide h same = sym h
end_wide told ended.All h same = absurd (cc)
end_wide told (ended.Fails free) h same = absurd (cc)
end_wide told ended.Memory h same = absurd (cc)

-- the kernel takes what the walk found
pub walk_is_taken : (p : VersionedProgram) (fact : Fact) → length (free_bits p [] fact) ≤ 20 → ended_of p [] fact ≡ ended.All → is_enumerated p [] fact ≡ true
walk_is_taken p fact small all = both_true (nat_le (length (free_bits p [] fact)) 20) (is_all (ended_of p [] fact)) (within (length (free_bits p [] fact)) small) (ap is_all all)
  where
    within : (n : ℕ) → n ≤ 20 → nat_le n 20 ≡ true
    within n h = grind (arith, nat_tests)

-- what settles a fact, and what does not
pub unsettled : (p : VersionedProgram) (fact : Fact) → is_bounded p fact ≡ false → (IsDecidedByUnits p fact → ⊥) → is_reduced p fact ≡ false → IsSettledBy p fact → ⊥
unsettled p fact b d r s = elim s [
  | inl e ↦ clash (is_bounded p fact) e b
  | inr (inl u) ↦ d u
  | inr (inr e) ↦ clash (is_reduced p fact) e r
]

-- a fact that an assignment denies is not settled
turned : (b : Bool) → not b ≡ true → b ≡ false
turned true e = absurd (cc)
turned false e = refl

denied_not_held : (p : VersionedProgram) (fact : Fact) (free : List FreeValue) → IsWellFormed p → InOrder p [] fact → ended_of p [] fact ≡ ended.Fails free → HoldsOfAll p [] fact → ⊥
unfolding HoldsOfAll
denied_not_held p fact free w order fails holds =
    let first = fails_first p fact free fails in
    let values = assignment p [] fact first.0 in
    let denied = first_denies p fact first.0 first.1 in
    let parts = and_parts (list_all (hyp_of p [] values) fact.hyps && cube_of p values fact.cube) (not (claim_of p values fact.claim)) denied in
    let met = and_parts (list_all (hyp_of p [] values) fact.hyps) (cube_of p values fact.cube) parts.0 in
    clash (claim_of p values fact.claim) (holds values (numbered_assigns p fact first.0 w order) met.0 met.1) (turned (claim_of p values fact.claim) parts.1)

pub failing_unsettled : (p : VersionedProgram) (fact : Fact) (free : List FreeValue) → IsWellFormed p → InOrder p [] fact → KnowsRing p fact → is_bounded p fact ≡ false → ended_of p [] fact ≡ ended.Fails free → IsSettledBy p fact → ⊥
failing_unsettled p fact free w order ring unbounded fails s = elim s [
  | inl e ↦ clash (is_bounded p fact) e unbounded
  | inr (inl u) ↦
      denied_not_held p fact free w order fails (refuted_prove p [] fact w order (λ v met. solution_no_conflict (clauses_of p [] fact) v met u.conflict))
  | inr (inr e) ↦
      let narrow = and_parts (is_narrow_claim p fact.claim) (list_all (is_narrow_hyp p) fact.hyps) (ended_fails p fact free fails) in
      denied_not_held p fact free w order fails (reduced_holds p fact w ring narrow.0 e)
]

-- the input that the code makes of it
pub told_failing : {E : Type 0} (p : VersionedProgram) (budget : ℕ) (fact : Fact) (free values : List FreeValue) (lines : List Line) (r : Result (List ℤ) E) → is_bounded p fact ≡ false → is_walked_by p budget fact ≡ true → ended_of p [] fact ≡ ended.Fails free → (IsSettledBy p fact → ⊥) → values ≡ free → lines ≡ p.lines → IfOk r (λ input. input ≡ input_of values lines) → IfOk r (λ input. IsFailing p budget fact input)
told_failing p budget fact free values lines (Ok input) unbounded walked fails unsettled same of e = record {
  unbounded = unbounded;
  walked = walked;
  free = free;
  fails = fails;
  input_is = e ∙ ap (λ fs. input_of fs lines) same ∙ ap (input_of free) of;
  unsettled = unsettled;
}
told_failing p budget fact free values lines (Err x) unbounded walked fails unsettled same of e = tt
