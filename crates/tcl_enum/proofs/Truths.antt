-- The computed truth of a line that keeps the static bounds is its truth.
use Rattle.std.proofs.Common.{◌≡◌, ◌≢◌, ℕ, refl, ◌∙◌, ap, ℤ, true, false, List, Option, Some, None}
use Rattle.std.specs.List.{slice_get}
use Rattle.tcl_lang.specs.declared.outcome.Truth.TheVariants.{Yes, No, Wide}
use Rattle.tcl_lang.specs.declared.pred.Line.{Line}
use Rattle.tcl_lang.specs.Program.{VersionedProgram}
use Rattle.tcl_lang.specs.Goal.{truth_in}
use Rattle.tcl_lang.specs.Checked.{computed_in}
use Rattle.tcl_lang.specs.Values.{AreValues, types_of, words_of, truth_of, computed_of}
use Rattle.tcl_lang.proofs.TruthLaw.{line_yes, line_no}
use Rattle.tcl_lang.proofs.ValueSteps.{values_hold}
use Rattle.tcl_lang.proofs.ValueWalks.{narrow_values}
use Rattle.tcl_enum.specs.NarrowFact.{is_narrow_in}

pub never_wide : (f : VersionedProgram) (values : List ℤ) (k : ℕ) → AreValues f.variables values → is_narrow_in (types_of f.variables) (slice_get f.lines k) ≡ true → computed_of f values k ≢ Wide
unfolding computed_of
never_wide f values k a n e = at (slice_get f.lines k) refl n e
  where
    at : (o : Option Line) → slice_get f.lines k ≡ o → is_narrow_in (types_of f.variables) o ≡ true → computed_in (words_of f.variables values) o ≡ Wide → ⊥
    at None g m w = absurd (cc)
    at (Some l) g m w = narrow_values f values k l a g m (ap (computed_in (words_of f.variables values)) g ∙ w)

pub yes_is_true : (f : VersionedProgram) (values : List ℤ) (k : ℕ) → AreValues f.variables values → computed_of f values k ≡ Yes → truth_of f values k ≡ true
unfolding computed_of truth_of
yes_is_true f values k a e = at (slice_get f.lines k) e
  where
    at : (o : Option Line) → computed_in (words_of f.variables values) o ≡ Yes → truth_in (words_of f.variables values) o ≡ true
    at None g = refl
    at (Some l) g = line_yes (words_of f.variables values) l (values_hold f values a) g

pub no_is_false : (f : VersionedProgram) (values : List ℤ) (k : ℕ) → computed_of f values k ≡ No → truth_of f values k ≡ false
unfolding computed_of truth_of
no_is_false f values k e = at (slice_get f.lines k) e
  where
    at : (o : Option Line) → computed_in (words_of f.variables values) o ≡ No → truth_in (words_of f.variables values) o ≡ false
    at None g = absurd (cc)
    at (Some l) g = line_no (words_of f.variables values) l g
