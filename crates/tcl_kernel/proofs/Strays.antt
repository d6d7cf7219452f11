-- What a first stray says of the hypotheses before it, and that none says it of all.
use Rattle.std.proofs.Common.{◌≡◌, ◌<◌, ◌+◌, ◌⊎◌, inl, inr, ℕ, zero, suc, ℤ, Bool, true, false, refl, ◌∙◌, ap, subst, arith, add-one, List, length, if◌then◌else◌, Option, Some, None}
use Rattle.std.proofs.lemmas.Bool.{cases_lt}
use Rattle.tcl_lang.specs.declared.outcome.Truth.{Truth}
use Rattle.tcl_lang.specs.declared.outcome.Truth.TheVariants.{Yes, No, Wide}
use Rattle.tcl_lang.specs.Program.{VersionedProgram}
use Rattle.tcl_lang.specs.Run.{Fits, taken_types}
use Rattle.tcl_lang.specs.Checked.{computed_at}
use Rattle.tcl_lang.specs.Values.{trace_of}
use Rattle.tcl_lang.specs.Form.{IsWellFormed}
use Rattle.tcl_lang.proofs.ValueSteps.{trace_computed}
use Rattle.tcl_goals.specs.Slices.{is_hypothesis_at}
use Rattle.tcl_kernel.specs.declared.stray.Stray.{Stray}
use Rattle.tcl_kernel.specs.Strays.{unless_yes, stray_at, first_of_strays, stray_before}
use Rattle.tcl_kernel.specs.ValueStrays.{stray_of, first_of_values}

-- the values of the run tell the strays of the input
pub values_tell : (p : VersionedProgram) (input : List ℤ) (n : ℕ) → IsWellFormed p → Fits (taken_types p.lines) input → first_of_values p (trace_of p input) n ≡ stray_before p input n
unfolding first_of_values stray_before
values_tell p input zero w fits = refl
values_tell p input (suc n) w fits =
    ap (λ a. first_of_strays a (stray_of p (trace_of p input) n)) (values_tell p input n w fits)
    ∙ ap (λ t. first_of_strays (stray_before p input n) (if is_hypothesis_at p.lines n then unless_yes n t else None)) (trace_computed p input n w fits)

-- none before the first place, none before the next, and one that is found first
pub none_begins : (p : VersionedProgram) (values : List ℤ) → first_of_values p values 0 ≡ None
unfolding first_of_values
none_begins p values = refl

pub none_further : (p : VersionedProgram) (values : List ℤ) (k : ℕ) → first_of_values p values k ≡ None → stray_of p values k ≡ None → first_of_values p values (k + 1) ≡ None
unfolding first_of_values
none_further p values k none here =
    ap (first_of_values p values) (add-one k) ∙ (ap (λ a. first_of_strays a (stray_of p values k)) none ∙ here)

pub found_stays : (p : VersionedProgram) (values : List ℤ) (k n : ℕ) (s : Stray) → first_of_values p values k ≡ None → stray_of p values k ≡ Some s → k < n → first_of_values p values n ≡ Some s
unfolding first_of_values
found_stays p values k zero s none here less = absurd (omega (arith, less))
found_stays p values k (suc n) s none here less = elim (cases_lt k n) [
  | inl h ↦ ap (λ a. first_of_strays a (stray_of p values n)) (found_stays p values k n s none here h)
  | inr h ↦
      let same : k ≡ n = omega (arith, h, less) in
      subst (λ m. first_of_strays (first_of_values p values m) (stray_of p values m) ≡ Some s) same
      (ap (λ a. first_of_strays a (stray_of p values k)) none ∙ here)
]

-- the parts of a step
both_none : (a b : Option Stray) → first_of_strays a b ≡ None → (a ≡ None) × (b ≡ None)
both_none None b e = (refl, e)
both_none (Some s) b e = absurd (cc)

one_of : (a b : Option Stray) (s : Stray) → first_of_strays a b ≡ Some s → (a ≡ Some s) ⊎ ((a ≡ None) × (b ≡ Some s))
one_of None b s e = inr (refl, e)
one_of (Some r) b s e = inl e

-- a hypothesis that does not stray is computed as `Yes`
none_yes : (k : ℕ) (b : Bool) (t : Truth) → (if b then unless_yes k t else None) ≡ None → b ≡ true → t ≡ Yes
none_yes k true Yes e h = refl
none_yes k true No e h = absurd (cc)
none_yes k true Wide e h = absurd (cc)
none_yes k false t e h = absurd (cc)

-- one that does is not
pub record StraysAt (k : ℕ) (b : Bool) (t : Truth) (s : Stray) : Type 0 where
  pub place : k ≡ s.place
  pub hypothesis : b ≡ true
  pub truth : t ≡ s.truth
  pub not_yes : t ≡ Yes → ⊥

told : (k : ℕ) (t : Truth) (s : Stray) → (t ≡ Yes → ⊥) → Some (record { place = k; truth = t }) ≡ Some s → StraysAt k true t s
told k t s not e =
    let same : record { place = k; truth = t } ≡ s = cc in
    record { place = ap (λ (x : Stray). x.place) same; hypothesis = refl; truth = ap (λ (x : Stray). x.truth) same; not_yes = not }

some_strays : (k : ℕ) (b : Bool) (t : Truth) (s : Stray) → (if b then unless_yes k t else None) ≡ Some s → StraysAt k b t s
some_strays k true Yes s e = absurd (cc)
some_strays k true No s e = told k No s (λ (h : No ≡ Yes). cc) e
some_strays k true Wide s e = told k Wide s (λ (h : Wide ≡ Yes). cc) e
some_strays k false t s e = absurd (cc)

-- the hypotheses before place n are computed as `Yes`
abbrev pub AllYes : VersionedProgram → List ℤ → ℕ → Type 0
AllYes p input n = (j : ℕ) → j < n → is_hypothesis_at p.lines j ≡ true → computed_at (length p.variables) p.lines input j ≡ Yes

pub none_all : (p : VersionedProgram) (input : List ℤ) (n : ℕ) → stray_before p input n ≡ None → AllYes p input n
unfolding stray_before
none_all p input zero e j less h = absurd (omega (arith, less))
none_all p input (suc n) e j less h =
    let parts = both_none (stray_before p input n) (stray_at p input n) e in
    elim (cases_lt j n) [
      | inl below ↦ none_all p input n parts.0 j below h
      | inr above ↦
          let same : n ≡ j = omega (arith, above, less) in
          subst (λ m. is_hypothesis_at p.lines m ≡ true → computed_at (length p.variables) p.lines input m ≡ Yes) same
          (none_yes n (is_hypothesis_at p.lines n) (computed_at (length p.variables) p.lines input n) parts.1) h
    ]

-- what a first stray says
pub record IsFoundStray (p : VersionedProgram) (input : List ℤ) (n : ℕ) (s : Stray) : Type 0 where
  pub before : s.place < n
  pub hypothesis : is_hypothesis_at p.lines s.place ≡ true
  pub computed : computed_at (length p.variables) p.lines input s.place ≡ s.truth
  pub not_yes : s.truth ≡ Yes → ⊥
  pub earlier : AllYes p input s.place

found_at : (p : VersionedProgram) (input : List ℤ) (n : ℕ) (s : Stray) → AllYes p input n → StraysAt n (is_hypothesis_at p.lines n) (computed_at (length p.variables) p.lines input n) s → IsFoundStray p input (suc n) s
found_at p input n s all at = record {
  before = omega (arith, at.place);
  hypothesis = subst (λ m. is_hypothesis_at p.lines m ≡ true) at.place at.hypothesis;
  computed = subst (λ m. computed_at (length p.variables) p.lines input m ≡ s.truth) at.place at.truth;
  not_yes = λ e. at.not_yes (at.truth ∙ e);
  earlier = subst (λ m. AllYes p input m) at.place all;
}

pub some_found : (p : VersionedProgram) (input : List ℤ) (n : ℕ) (s : Stray) → stray_before p input n ≡ Some s → IsFoundStray p input n s
unfolding stray_before
some_found p input zero s e = absurd (cc)
some_found p input (suc n) s e = elim (one_of (stray_before p input n) (stray_at p input n) s e) [
  | inl h ↦
      let f = some_found p input n s h in
      record { before = omega (arith, f.before); hypothesis = f.hypothesis; computed = f.computed; not_yes = f.not_yes; earlier = f.earlier }
  | inr h ↦
      found_at p input n s (none_all p input n h.0)
      (some_strays n (is_hypothesis_at p.lines n) (computed_at (length p.variables) p.lines input n) s h.1)
]
