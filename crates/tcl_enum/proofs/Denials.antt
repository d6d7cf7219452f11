-- Whether an assignment denies a fact depends on its number alone, and not on the values that it was made over.
use Rattle.std.proofs.Common.{◌≡◌, ℕ, zero, suc, ◌/◌, ◌^◌, ◌<◌, inl, inr, refl, sym, ◌∙◌, ap, subst, arith, ℤ, pos, Bool, true, false, not, nat_eq, List, [], ◌∷◌, length, set, replicate}
use Rattle.std.specs.List.{slice_get}
use Rattle.std.proofs.lemmas.Bool.{cases_lt, and_parts, not-true, eqb-true}
use Rattle.std.proofs.lemmas.List.{get_or_past}
use Rattle.tcl_list.proofs.Booleans.{or_cases}
use Rattle.tcl_lang.specs.declared.variable.Variable.{Variable}
use Rattle.tcl_lang.specs.Program.{VersionedProgram}
use Rattle.tcl_lang.specs.Values.{value_at, AreValues}
use Rattle.tcl_lang.specs.Defined.{is_among}
use Rattle.tcl_lang.specs.Form.{IsWellFormed}
use Rattle.tcl_lang.proofs.FormFacts.{zero_in}
use Rattle.tcl_goals.specs.declared.fact.Fact.{Fact}
use Rattle.tcl_goals.specs.declared.lemma.Numbered.{Numbered}
use Rattle.tcl_goals.specs.Numbers.{those_below}
use Rattle.tcl_goals.specs.Order.{InOrder}
use Rattle.tcl_goals.specs.Free.{fact_variables, computed_variables, is_free, free_variables}
use Rattle.tcl_goals.specs.Assignments.{Assigns}
use Rattle.tcl_goals.proofs.Numbers.{those_yes, those_no}
use Rattle.tcl_enum.specs.Patterns.{bit_count, value_with, values_numbered, given, recomputed_all, assignment}
use Rattle.tcl_enum.specs.Enumeration.{is_denied, is_denied_at}
use Rattle.tcl_enum.proofs.Walks.{given_typed, given_count, all_kept}
use Rattle.tcl_enum.proofs.Agreement.{among_left, among_right, denied_same}
use Rattle.tcl_enum.proofs.Executions.{at_among, FreeAgree, assignments_agree}
use Rattle.tcl_enum.proofs.Recomputing.{walk_assigns}

-- the same value, given over two lists
set_same : (a b : List ℤ) (v : ℕ) (m : ℤ) → length a ≡ length b → value_at (set a v m) v ≡ value_at (set b v m) v
set_same [] [] v m h = refl
set_same [] (y ∷ b) v m h = absurd (omega (arith, h))
set_same (x ∷ a) [] v m h = absurd (omega (arith, h))
set_same (x ∷ a) (y ∷ b) zero m h = refl
set_same (x ∷ a) (y ∷ b) (suc v) m h = set_same a b v m (omega (arith, h))

set_agree : (a b : List ℤ) (u v : ℕ) (m : ℤ) → length a ≡ length b → value_at a v ≡ value_at b v → value_at (set a u m) v ≡ value_at (set b u m) v
set_agree [] [] u v m h e = refl
set_agree [] (y ∷ b) u v m h e = absurd (omega (arith, h))
set_agree (x ∷ a) [] u v m h e = absurd (omega (arith, h))
set_agree (x ∷ a) (y ∷ b) zero zero m h e = refl
set_agree (x ∷ a) (y ∷ b) zero (suc v) m h e = e
set_agree (x ∷ a) (y ∷ b) (suc u) zero m h e = e
set_agree (x ∷ a) (y ∷ b) (suc u) (suc v) m h e = set_agree a b u v m (omega (arith, h)) e

given_agree : (vs : List Variable) (xs : List ℕ) (n : ℕ) (a b : List ℤ) (v : ℕ) → length a ≡ length b → is_among xs v ≡ true → value_at (given (values_numbered vs xs n) a) v ≡ value_at (given (values_numbered vs xs n) b) v
unfolding values_numbered
given_agree vs [] n a b v h e = absurd (cc)
given_agree vs (x ∷ xs) n a b v h e =
    let A = given (values_numbered vs xs n) a in
    let B = given (values_numbered vs xs n) b in
    let m : ℤ = value_with (slice_get vs x) (n / 2 ^ bit_count vs xs) in
    let counts : length A ≡ length B = given_count vs xs n a ∙ h ∙ sym (given_count vs xs n b) in
    elim (or_cases (nat_eq x v) (is_among xs v) e) [
      | inl here ↦ subst (λ u. value_at (set A x m) u ≡ value_at (set B x m) u) (eqb-true x v here) (set_same A B x m counts)
      | inr rest ↦ set_agree A B x v m counts (given_agree vs xs n a b v h rest)
    ]

-- the numbers that pass a test are listed
pub those_listed : (test : ℕ → Bool) (count v : ℕ) → v < count → test v ≡ true → is_among (those_below test count) v ≡ true
those_listed test zero v h e = absurd (omega (arith, h))
those_listed test (suc n) v h e = at (test n) refl (λ less. those_listed test n v less e)
  where
    at : (b : Bool) → test n ≡ b → (v < n → is_among (those_below test n) v ≡ true) → is_among (those_below test (suc n)) v ≡ true
    at true f rest =
        ap (λ ns. is_among ns v) (those_yes test n f)
        ∙ elim (cases_lt v n) [
          | inl less ↦ among_left (those_below test n) (n ∷ []) v (rest less)
          | inr least ↦
              let same : n ≡ v = omega (arith, least, h) in
              among_right (those_below test n) (n ∷ []) v (subst (λ u. is_among (n ∷ []) u ≡ true) same (at_among (n ∷ []) 0 n refl))
        ]
    at false f rest =
        ap (λ ns. is_among ns v) (those_no test n f)
        ∙ elim (cases_lt v n) [
          | inl less ↦ rest less
          | inr least ↦ let same : n ≡ v = omega (arith, least, h) in absurd (clash (test v) e (ap test (sym same) ∙ f))
        ]
      where
        clash : (b : Bool) → b ≡ true → b ≡ false → ⊥
        clash b p q = cc

pub free_listed : (f : VersionedProgram) (lemmas : List Numbered) (fact : Fact) (v : ℕ) → v < length f.variables → is_free f lemmas fact v ≡ true → is_among (free_variables f lemmas fact) v ≡ true
unfolding free_variables
free_listed f lemmas fact v h e = those_listed (is_free f lemmas fact) (length f.variables) v h e

pub values_count : (vs : List Variable) (values : List ℤ) → AreValues vs values → length values ≡ length vs
values_count [] [] a = refl
values_count [] (m ∷ values) a = absurd a
values_count (x ∷ vs) [] a = absurd a
values_count (x ∷ vs) (m ∷ values) a = ap suc (values_count vs values a.1)

pub zeros_typed : (vs : List Variable) → AreValues vs (replicate (length vs) (pos 0))
zeros_typed [] = tt
zeros_typed (v ∷ vs) = (zero_in v.ty.signed v.ty.width, zeros_typed vs)

-- a free variable is as it was given
pub free_kept : (f : VersionedProgram) (lemmas : List Numbered) (fact : Fact) (values : List ℤ) (v : ℕ) → is_free f lemmas fact v ≡ true → value_at (recomputed_all f.lines fact.uses values) v ≡ value_at values v
free_kept f lemmas fact values v e =
    let parts = and_parts (is_among (fact_variables f.lines lemmas fact) v) (not (is_among (computed_variables f.lines fact.uses) v)) e in
    all_kept f.lines fact.uses values v (not-true (is_among (computed_variables f.lines fact.uses) v) parts.1)

-- over two lists of values in their types
abbrev pub walk_over : VersionedProgram → List Numbered → Fact → ℕ → List ℤ → List ℤ
walk_over f lemmas fact n values = recomputed_all f.lines fact.uses (given (values_numbered f.variables (free_variables f lemmas fact) n) values)

walks_agree : (f : VersionedProgram) (lemmas : List Numbered) (fact : Fact) (n : ℕ) (a b : List ℤ) → AreValues f.variables a → AreValues f.variables b → FreeAgree f lemmas fact (walk_over f lemmas fact n a) (walk_over f lemmas fact n b)
walks_agree f lemmas fact n a b p q v e =
    let free = free_variables f lemmas fact in
    let A = given (values_numbered f.variables free n) a in
    let B = given (values_numbered f.variables free n) b in
    let counts : length a ≡ length b = values_count f.variables a p ∙ sym (values_count f.variables b q) in
    free_kept f lemmas fact A v e
    ∙ elim (cases_lt v (length f.variables)) [
      | inl less ↦ given_agree f.variables free n a b v counts (free_listed f lemmas fact v less e)
      | inr past ↦
          get_or_past A v (pos 0) (omega (arith, past, given_count f.variables free n a, values_count f.variables a p))
          ∙ sym (get_or_past B v (pos 0) (omega (arith, past, given_count f.variables free n b, values_count f.variables b q)))
    ]
    ∙ sym (free_kept f lemmas fact B v e)

pub walk_typed : (f : VersionedProgram) (lemmas : List Numbered) (fact : Fact) (n : ℕ) (values : List ℤ) → IsWellFormed f → InOrder f lemmas fact → AreValues f.variables values → Assigns f fact (walk_over f lemmas fact n values)
walk_typed f lemmas fact n values w order a =
    walk_assigns f lemmas fact (given (values_numbered f.variables (free_variables f lemmas fact) n) values) w order
    (given_typed f.variables (free_variables f lemmas fact) n values w.words a)

pub assignment_is : (f : VersionedProgram) (lemmas : List Numbered) (fact : Fact) (n : ℕ) → assignment f lemmas fact n ≡ walk_over f lemmas fact n (replicate (length f.variables) (pos 0))
unfolding assignment
assignment_is f lemmas fact n = refl

pub denied_at : (f : VersionedProgram) (lemmas : List Numbered) (fact : Fact) (n : ℕ) (values : List ℤ) → IsWellFormed f → InOrder f lemmas fact → AreValues f.variables values → is_denied f lemmas fact (walk_over f lemmas fact n values) ≡ is_denied_at f lemmas fact n
denied_at f lemmas fact n values w order a =
    let zeros = replicate (length f.variables) (pos 0) in
    let ours = walk_typed f lemmas fact n values w order a in
    let theirs = walk_typed f lemmas fact n zeros w order (zeros_typed f.variables) in
    denied_same f lemmas fact (walk_over f lemmas fact n values) (walk_over f lemmas fact n zeros) ours.typed theirs.typed
    (assignments_agree f lemmas fact (walk_over f lemmas fact n values) (walk_over f lemmas fact n zeros) w ours theirs
    (walks_agree f lemmas fact n values zeros a (zeros_typed f.variables)))
    ∙ ap (λ (ns : List ℤ). is_denied f lemmas fact ns) (sym (assignment_is f lemmas fact n))
