-- A fact in order for a list of lemmas that holds is so for every longer list with the same members.
use Rattle.std.proofs.Common.{◌≡◌, ℕ, ◌<◌, ◌≤◌, nat_eq, eqb-true, ◌++◌, refl, sym, ◌∙◌, ap, arith, Bool, true, false, ◌&&◌, List, [], ◌∷◌, Option, Some, None}
use Rattle.std.specs.Option.{is_some}
use Rattle.std.specs.List.{list_all}
use Rattle.std.proofs.lemmas.Bool.{and_parts, and_from}
use Rattle.std.proofs.lemmas.Bool.Decides.{nat_tests}
use Rattle.tcl_lang.specs.declared.pred.Line.{Line}
use Rattle.tcl_lang.specs.Program.{VersionedProgram}
use Rattle.tcl_goals.specs.declared.fact.Key.{Key}
use Rattle.tcl_goals.specs.declared.fact.Hyp.{Hyp}
use Rattle.tcl_goals.specs.declared.fact.Hyp.TheVariants as hyp
use Rattle.tcl_goals.specs.declared.lemma.Lemma.{Lemma}
use Rattle.tcl_goals.specs.declared.fact.Claim.{Claim}
use Rattle.tcl_goals.specs.declared.fact.Claim.TheVariants as claim
use Rattle.tcl_goals.specs.declared.fact.Fact.{Fact}
use Rattle.tcl_goals.specs.declared.lemma.Numbered.{Numbered}
use Rattle.tcl_goals.specs.Places.{goal_place}
use Rattle.tcl_goals.specs.LemmaList.{lemma_of, next_number, Extends}
use Rattle.tcl_goals.specs.Keys.{key_less, found_key, hyp_key, is_key_above, hyps_after, hyps_rise, claim_key}
use Rattle.tcl_goals.specs.Order.{InOrder, has_hyp, is_before}
use Rattle.tcl_lang.specs.Form.{end_store}
use Rattle.tcl_goals.specs.Holds.{lemma_holds, hyp_holds, FactHolds}
use Rattle.tcl_list.proofs.Booleans.{all_by_two, if_yes, if_no}

-- a lemma that is there has a number below the next
found_at : (a : Numbered) (lemmas : List Numbered) (n : ℕ) (m : Lemma) → (lemma_of lemmas n ≡ Some m → n < next_number lemmas) → (b : Bool) → nat_eq a.number n ≡ b → lemma_of (a ∷ lemmas) n ≡ Some m → n < next_number (a ∷ lemmas)
unfolding lemma_of next_number
found_at a lemmas n m rest true q e = let same : a.number ≡ n = eqb-true a.number n q in omega arith
found_at a lemmas n m rest false q e =
    let further : lemma_of lemmas n ≡ Some m = sym (if_no (nat_eq a.number n) (Some a.lemma) (lemma_of lemmas n) q) ∙ e in
    omega (arith, rest further)

none_found : (n : ℕ) (m : Lemma) → lemma_of [] n ≡ Some m → ⊥
unfolding lemma_of
none_found n m e = none_some e
  where
    none_some : None ≡ Some m → ⊥
    none_some f = cc

found_below : (lemmas : List Numbered) (n : ℕ) (m : Lemma) → lemma_of lemmas n ≡ Some m → n < next_number lemmas
found_below [] n m e = absurd (none_found n m e)
found_below (a ∷ lemmas) n m e = found_at a lemmas n m (λ r. found_below lemmas n m r) (nat_eq a.number n) refl e

-- the next number is at most one that is above all that are there
first_found : (a : Numbered) (lemmas : List Numbered) (n : ℕ) → nat_eq a.number n ≡ true → lemma_of (a ∷ lemmas) n ≡ Some a.lemma
unfolding lemma_of
first_found a lemmas n q = if_yes (nat_eq a.number n) (Some a.lemma) (lemma_of lemmas n) q

others_found : (a : Numbered) (lemmas : List Numbered) (n : ℕ) → nat_eq a.number n ≡ false → lemma_of (a ∷ lemmas) n ≡ lemma_of lemmas n
unfolding lemma_of
others_found a lemmas n q = if_no (nat_eq a.number n) (Some a.lemma) (lemma_of lemmas n) q

later_least : (a : Numbered) (lemmas : List Numbered) (most n : ℕ) (m : Lemma) → ((k : ℕ) (l : Lemma) → lemma_of (a ∷ lemmas) k ≡ Some l → k < most) → (b : Bool) → nat_eq a.number n ≡ b → lemma_of lemmas n ≡ Some m → n < most
later_least a lemmas most n m h true q e = h n a.lemma (first_found a lemmas n q)
later_least a lemmas most n m h false q e = h n m (others_found a lemmas n q ∙ e)

same_number : (n : ℕ) → nat_eq n n ≡ true
same_number n = grind arith

next_least : (lemmas : List Numbered) (most : ℕ) → ((n : ℕ) (m : Lemma) → lemma_of lemmas n ≡ Some m → n < most) → next_number lemmas ≤ most
unfolding next_number
next_least [] most h = omega arith
next_least (a ∷ lemmas) most h =
    let first : a.number < most = h a.number a.lemma (first_found a lemmas a.number (same_number a.number)) in
    omega (arith, first, next_least lemmas most (λ n m e. later_least a lemmas most n m h (nat_eq a.number n) refl e))

-- so the longer list has no smaller next number
next_grows : (old new : List Numbered) → Extends old new → next_number old ≤ next_number new
next_grows old new x = next_least old (next_number new) (λ n m e. found_below new n m (x n m e))

-- lemmas that were appended hide none
appended_at : (a : Numbered) (old more : List Numbered) (n : ℕ) (m : Lemma) → (lemma_of old n ≡ Some m → lemma_of (old ++ more) n ≡ Some m) → (b : Bool) → nat_eq a.number n ≡ b → lemma_of (a ∷ old) n ≡ Some m → lemma_of (a ∷ (old ++ more)) n ≡ Some m
appended_at a old more n m rest true q e = first_found a (old ++ more) n q ∙ sym (first_found a old n q) ∙ e
appended_at a old more n m rest false q e = others_found a (old ++ more) n q ∙ rest (sym (others_found a old n q) ∙ e)

pub appended_extends : (old more : List Numbered) → Extends old (old ++ more)
appended_extends [] more n m e = absurd (none_found n m e)
appended_extends (a ∷ old) more n m e = appended_at a old more n m (λ r. appended_extends old more n m r) (nat_eq a.number n) refl e

found : (old new : List Numbered) → Extends old new → (n : ℕ) → is_some (lemma_of old n) ≡ true → lemma_of new n ≡ lemma_of old n
found old new x n e = at (lemma_of old n) refl e
  where
    at : (o : Option Lemma) → lemma_of old n ≡ o → is_some o ≡ true → lemma_of new n ≡ o
    at None q h = absurd (cc)
    at (Some m) q h = x n m q

exists_more : (lines : List Line) (old new : List Numbered) → Extends old new → (h : Hyp) → has_hyp lines old h ≡ true → has_hyp lines new h ≡ true
exists_more lines old new x (hyp.Line k) e = e
exists_more lines old new x (hyp.Lemma n) e = ap is_some (found old new x n e) ∙ e

key_same : (lines : List Line) (old new : List Numbered) → Extends old new → (h : Hyp) → has_hyp lines old h ≡ true → hyp_key lines new h ≡ hyp_key lines old h
key_same lines old new x (hyp.Line k) e = refl
key_same lines old new x (hyp.Lemma n) e = ap (λ o. found_key lines o n) (found old new x n e)

rise_same : (lines : List Line) (old new : List Numbered) → Extends old new → (last : Option Key) (hyps : List Hyp) → list_all (has_hyp lines old) hyps ≡ true → hyps_after lines new last hyps ≡ hyps_after lines old last hyps
rise_same lines old new x last [] e = refl
rise_same lines old new x last (h ∷ hyps) e =
    let p = and_parts (has_hyp lines old h) (list_all (has_hyp lines old) hyps) e in
    ap (λ (k : Key). is_key_above last k && hyps_after lines new (Some k) hyps) (key_same lines old new x h p.0)
    ∙ ap (λ b. is_key_above last (hyp_key lines old h) && b) (rise_same lines old new x (Some (hyp_key lines old h)) hyps p.1)

number_more : (k : Key) (place kind n m : ℕ) → n ≤ m → key_less k (record { place = place; kind = kind; number = n }) ≡ true → key_less k (record { place = place; kind = kind; number = m }) ≡ true
number_more k place kind n m h e = grind (arith, nat_tests)

below_more : (lines : List Line) (old new : List Numbered) → Extends old new → (c : Claim) (k : Key) → key_less k (claim_key lines old c) ≡ true → key_less k (claim_key lines new c) ≡ true
below_more lines old new x (claim.Goal i) k e = e
below_more lines old new x (claim.Lemma m) k e = number_more k (goal_place lines m.level) 0 (next_number old) (next_number new) (next_grows old new x) e

pub order_extends : (p : VersionedProgram) (old new : List Numbered) (fact : Fact) → Extends old new → InOrder p old fact → InOrder p new fact
order_extends p old new fact x o =
    let parts = and_parts (hyps_rise p.lines old fact.hyps) (list_all (is_before p.lines old fact.claim) fact.hyps) o.order in
    let rising : hyps_rise p.lines new fact.hyps ≡ true = rise_same p.lines old new x None fact.hyps o.hyps ∙ parts.0 in
    let below : list_all (is_before p.lines new fact.claim) fact.hyps ≡ true =
    all_by_two (has_hyp p.lines old) (is_before p.lines old fact.claim) (is_before p.lines new fact.claim)
    (λ h e f. ap (λ (k : Key). key_less k (claim_key p.lines new fact.claim)) (key_same p.lines old new x h e) ∙ below_more p.lines old new x fact.claim (hyp_key p.lines old h) f) fact.hyps o.hyps parts.1 in
    record {
      claim = o.claim;
      hyps = all_by_two (has_hyp p.lines old) (has_hyp p.lines old) (has_hyp p.lines new) (λ h e f. exists_more p.lines old new x h e) fact.hyps o.hyps o.hyps;
      order = and_from _ _ rising below;
      uses = o.uses;
      cube = o.cube;
    }

pub holds_extends : (p : VersionedProgram) (old new : List Numbered) (fact : Fact) → Extends old new → InOrder p old fact → FactHolds p old fact → FactHolds p new fact
unfolding FactHolds
holds_extends p old new fact x o holds input fits hyps cube =
    holds input fits (all_by_two (has_hyp p.lines old) (hyp_holds p new input) (hyp_holds p old input) back fact.hyps o.hyps hyps) cube
  where
    back : (h : Hyp) → has_hyp p.lines old h ≡ true → hyp_holds p new input h ≡ true → hyp_holds p old input h ≡ true
    back (hyp.Line k) e f = f
    back (hyp.Lemma n) e f = ap (lemma_holds (end_store p input)) (sym (found old new x n e)) ∙ f
