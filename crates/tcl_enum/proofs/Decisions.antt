-- The walk decides whether the claim of a fact holds in every assignment in which its hypotheses and its cube hold.
use Rattle.std.proofs.Common.{◌≡◌, ℕ, zero, suc, ◌+◌, ◌*◌, ◌^◌, ◌<◌, inl, inr, refl, sym, ◌∙◌, ap, subst, arith, ℤ, pos, Bool, true, false, ◌&&◌, not, List, length, replicate, Option, Some, None}
use Rattle.std.specs.List.{slice_get, list_all}
use Rattle.std.proofs.lemmas.Bool.{cases_lt}
use Rattle.std.proofs.lemmas.List.{get_or_past}
use Rattle.tcl_lang.specs.Program.{VersionedProgram}
use Rattle.tcl_lang.specs.Values.{value_at, AreValues}
use Rattle.tcl_lang.specs.Defined.{is_among}
use Rattle.tcl_lang.specs.Form.{IsWellFormed}
use Rattle.tcl_goals.specs.declared.fact.Fact.{Fact}
use Rattle.tcl_goals.specs.declared.lemma.Numbered.{Numbered}
use Rattle.tcl_goals.specs.Order.{InOrder}
use Rattle.tcl_goals.specs.Free.{free_variables}
use Rattle.tcl_goals.specs.Assignments.{Assigns, hyp_of, cube_of, claim_of, HoldsOfAll}
use Rattle.tcl_enum.specs.declared.ended.Ended.{Ended}
use Rattle.tcl_enum.specs.declared.ended.Ended.TheVariants.{All, Fails, Wide}
use Rattle.tcl_enum.specs.declared.ended.FreeValue.{FreeValue}
use Rattle.tcl_enum.specs.NarrowFact.{is_narrow_fact}
use Rattle.tcl_enum.specs.Patterns.{bit_count, values_numbered, given, assignment, assignment_count, free_values}
use Rattle.tcl_enum.specs.Enumeration.{is_denied, is_denied_at, first_denial, ended_by, ended_of}
use Rattle.tcl_enum.specs.Laws.{AllDecides, FailsRefutes, WideDecides}
use Rattle.tcl_enum.proofs.FirstDenial.{none_passes, found_passes}
use Rattle.tcl_enum.proofs.FreeBits.{free_count}
use Rattle.tcl_enum.proofs.Walks.{given_count}
use Rattle.tcl_enum.proofs.Agreement.{denied_same}
use Rattle.tcl_enum.proofs.Executions.{assignments_agree}
use Rattle.tcl_enum.proofs.Denials.{free_listed, values_count, zeros_typed, free_kept, walk_over, walk_typed, assignment_is}
use Rattle.tcl_enum.proofs.Endings.{first_is, ends_wide, ends_by}
use Rattle.tcl_enum.proofs.AssignmentNumbers.{number_of, number_less, number_gives, numbered_var, given_own, free_apart, free_within}

-- an assignment is denied exactly where that of its number is
abbrev number_in : VersionedProgram → List Numbered → Fact → List ℤ → ℕ
number_in p lemmas fact values = number_of p.variables (free_variables p lemmas fact) values

number_within : (p : VersionedProgram) (lemmas : List Numbered) (fact : Fact) (values : List ℤ) → number_in p lemmas fact values < assignment_count p lemmas fact
number_within p lemmas fact values =
    subst (λ k. number_in p lemmas fact values < 2 ^ k) (sym (free_count p lemmas fact)) (number_less p.variables (free_variables p lemmas fact) values)

zeros_count : (n : ℕ) → length (replicate n (pos 0)) ≡ n
zeros_count zero = refl
zeros_count (suc n) = ap suc (zeros_count n)

number_makes : (p : VersionedProgram) (lemmas : List Numbered) (fact : Fact) (values : List ℤ) (v : ℕ) → IsWellFormed p → AreValues p.variables values → is_among (free_variables p lemmas fact) v ≡ true → value_at (given (values_numbered p.variables (free_variables p lemmas fact) (number_in p lemmas fact values)) (replicate (length p.variables) (pos 0))) v ≡ value_at values v
number_makes p lemmas fact values v w a m =
    let free = free_variables p lemmas fact in
    let none : number_in p lemmas fact values ≡ 0 * 2 ^ bit_count p.variables free + number_in p lemmas fact values = omega arith in
    ap (λ n. value_at (given (values_numbered p.variables free n) (replicate (length p.variables) (pos 0))) v) none
    ∙ number_gives p.variables free values (replicate (length p.variables) (pos 0)) 0 v w.words a (zeros_count (length p.variables)) m

numbered_denied : (p : VersionedProgram) (lemmas : List Numbered) (fact : Fact) (values : List ℤ) → IsWellFormed p → InOrder p lemmas fact → Assigns p fact values → is_denied p lemmas fact values ≡ is_denied_at p lemmas fact (number_in p lemmas fact values)
numbered_denied p lemmas fact values w order a =
    let free = free_variables p lemmas fact in
    let n = number_in p lemmas fact values in
    let zeros = replicate (length p.variables) (pos 0) in
    let walk = walk_typed p lemmas fact n zeros w order (zeros_typed p.variables) in
    denied_same p lemmas fact values (walk_over p lemmas fact n zeros) a.typed walk.typed
    (assignments_agree p lemmas fact values (walk_over p lemmas fact n zeros) w a walk
    (λ v e. sym (free_kept p lemmas fact (given (values_numbered p.variables free n) zeros) v e
    ∙ elim (cases_lt v (length p.variables)) [
      | inl less ↦ number_makes p lemmas fact values v w a.typed (free_listed p lemmas fact v less e)
      | inr past ↦
          get_or_past (given (values_numbered p.variables free n) zeros) v (pos 0) (omega (arith, past, given_count p.variables free n zeros, zeros_count (length p.variables)))
          ∙ sym (get_or_past values v (pos 0) (omega (arith, past, values_count p.variables values a.typed)))
    ])))
    ∙ ap (λ (ns : List ℤ). is_denied p lemmas fact ns) (sym (assignment_is p lemmas fact n))

-- what is denied, in parts
undenied : (a b c : Bool) → (a && b && not c) ≡ false → a ≡ true → b ≡ true → c ≡ true
undenied true true true h e f = refl
undenied true true false h e f = absurd (cc)
undenied true false c h e f = absurd (cc)
undenied false b c h e f = absurd (cc)

denied_parts : (a b c : Bool) → (a && b && not c) ≡ true → (a ≡ true) × (b ≡ true) × (c ≡ false)
denied_parts true true true h = absurd (cc)
denied_parts true true false h = (refl, refl, refl)
denied_parts true false c h = absurd (cc)
denied_parts false b c h = absurd (cc)

clash : (b : Bool) → b ≡ true → b ≡ false → ⊥
clash b e f = cc

-- where no assignment is denied the claim holds in all, and the other way round
none_holds : (p : VersionedProgram) (lemmas : List Numbered) (fact : Fact) → IsWellFormed p → InOrder p lemmas fact → first_denial p lemmas fact ≡ None → HoldsOfAll p lemmas fact
unfolding HoldsOfAll
none_holds p lemmas fact w order none values a hyps cube =
    let undone : is_denied_at p lemmas fact (number_in p lemmas fact values) ≡ false =
    none_passes (is_denied_at p lemmas fact) (assignment_count p lemmas fact) (number_in p lemmas fact values) (sym (first_is p lemmas fact) ∙ none) (number_within p lemmas fact values) in
    undenied (list_all (hyp_of p lemmas values) fact.hyps) (cube_of p values fact.cube) (claim_of p values fact.claim) (numbered_denied p lemmas fact values w order a ∙ undone) hyps cube

found_denied : (p : VersionedProgram) (lemmas : List Numbered) (fact : Fact) (n : ℕ) → first_denial p lemmas fact ≡ Some n → is_denied_at p lemmas fact n ≡ true
found_denied p lemmas fact n e = (found_passes (is_denied_at p lemmas fact) (assignment_count p lemmas fact) n (sym (first_is p lemmas fact) ∙ e)).1

assigned : (p : VersionedProgram) (lemmas : List Numbered) (fact : Fact) (n : ℕ) → IsWellFormed p → InOrder p lemmas fact → Assigns p fact (assignment p lemmas fact n)
assigned p lemmas fact n w order =
    subst (λ (ns : List ℤ). Assigns p fact ns) (sym (assignment_is p lemmas fact n))
    (walk_typed p lemmas fact n (replicate (length p.variables) (pos 0)) w order (zeros_typed p.variables))

holds_none : (p : VersionedProgram) (lemmas : List Numbered) (fact : Fact) → IsWellFormed p → InOrder p lemmas fact → HoldsOfAll p lemmas fact → (o : Option ℕ) → first_denial p lemmas fact ≡ o → first_denial p lemmas fact ≡ None
unfolding HoldsOfAll
holds_none p lemmas fact w order all None e = e
holds_none p lemmas fact w order all (Some n) e =
    let values = assignment p lemmas fact n in
    let parts = denied_parts (list_all (hyp_of p lemmas values) fact.hyps) (cube_of p values fact.cube) (claim_of p values fact.claim) (found_denied p lemmas fact n e) in
    absurd (clash (claim_of p values fact.claim) (all values (assigned p lemmas fact n w order) parts.0 parts.1) parts.2)

-- ends
by_none : (p : VersionedProgram) (lemmas : List Numbered) (fact : Fact) (o : Option ℕ) → ended_by p lemmas fact o ≡ All → o ≡ None
by_none p lemmas fact None e = refl
by_none p lemmas fact (Some n) e = absurd (cc)

by_some : (p : VersionedProgram) (lemmas : List Numbered) (fact : Fact) (o : Option ℕ) (free : List FreeValue) → ended_by p lemmas fact o ≡ Fails free → (n : ℕ) × (o ≡ Some n) × (free_values p lemmas fact n ≡ free)
by_some p lemmas fact None free e = absurd (cc)
by_some p lemmas fact (Some n) free e = (n, refl, same (free_values p lemmas fact n) free e)
  where
    same : (a b : List FreeValue) → Fails a ≡ Fails b → a ≡ b
    same a b f = cc

by_not_wide : (p : VersionedProgram) (lemmas : List Numbered) (fact : Fact) (o : Option ℕ) → ended_by p lemmas fact o ≡ Wide → ⊥
by_not_wide p lemmas fact None e = absurd (cc)
by_not_wide p lemmas fact (Some n) e = absurd (cc)

-- a fact is narrow or its end is `Wide`
narrow_or_wide : (p : VersionedProgram) (lemmas : List Numbered) (fact : Fact) (told : Ended) → (Wide ≡ told → ⊥) → ended_of p lemmas fact ≡ told → is_narrow_fact p fact ≡ true
narrow_or_wide p lemmas fact told other e = at (is_narrow_fact p fact) refl
  where
    at : (b : Bool) → is_narrow_fact p fact ≡ b → is_narrow_fact p fact ≡ true
    at true f = f
    at false f = absurd (other (ends_wide p lemmas fact f ∙ e))

wide_not_all : Wide ≡ All → ⊥
wide_not_all e = absurd (cc)

wide_not_fails : (free : List FreeValue) → Wide ≡ Fails free → ⊥
wide_not_fails free e = absurd (cc)

pub all_decides : AllDecides
all_decides p lemmas fact w order = (there, back)
  where
    there : ended_of p lemmas fact ≡ All → (is_narrow_fact p fact ≡ true) × HoldsOfAll p lemmas fact
    there e =
        let narrow = narrow_or_wide p lemmas fact All wide_not_all e in
        (narrow, none_holds p lemmas fact w order (by_none p lemmas fact (first_denial p lemmas fact) (ends_by p lemmas fact narrow ∙ e)))

    back : (is_narrow_fact p fact ≡ true) × HoldsOfAll p lemmas fact → ended_of p lemmas fact ≡ All
    back h =
        sym (ends_by p lemmas fact h.0)
        ∙ ap (λ o. ended_by p lemmas fact o) (holds_none p lemmas fact w order h.1 (first_denial p lemmas fact) refl)

pub wide_decides : WideDecides
wide_decides p lemmas fact = (there, λ e. sym (ends_wide p lemmas fact e))
  where
    there : ended_of p lemmas fact ≡ Wide → is_narrow_fact p fact ≡ false
    there e = at (is_narrow_fact p fact) refl
      where
        at : (b : Bool) → is_narrow_fact p fact ≡ b → is_narrow_fact p fact ≡ false
        at true f = absurd (by_not_wide p lemmas fact (first_denial p lemmas fact) (ends_by p lemmas fact f ∙ e))
        at false f = f

pub fails_refutes : FailsRefutes
fails_refutes p lemmas fact free w order e =
    let narrow = narrow_or_wide p lemmas fact (Fails free) (wide_not_fails free) e in
    let found = by_some p lemmas fact (first_denial p lemmas fact) free (ends_by p lemmas fact narrow ∙ e) in
    let n = found.0 in
    let vs = free_variables p lemmas fact in
    let zeros = replicate (length p.variables) (pos 0) in
    record {
      values = assignment p lemmas fact n;
      assigns = assigned p lemmas fact n w order;
      given = λ k f at.
          let listed : slice_get (values_numbered p.variables vs n) k ≡ Some f = ap (λ (fs : List FreeValue). slice_get fs k) found.2 ∙ at in
          let named = free_within p lemmas fact f.var (numbered_var p.variables vs n k f listed) in
          ap (λ (ns : List ℤ). value_at ns f.var) (assignment_is p lemmas fact n)
          ∙ free_kept p lemmas fact (given (values_numbered p.variables vs n) zeros) f.var named.1
          ∙ given_own p.variables vs n zeros k f (free_apart p lemmas fact)
          (λ v m. let within = free_within p lemmas fact v m in omega (arith, within.0, zeros_count (length p.variables))) listed;
      denied = found_denied p lemmas fact n found.1;
    }
