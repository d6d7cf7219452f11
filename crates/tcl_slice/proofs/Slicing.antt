-- One line further among those of a slice.
use Rattle.std.proofs.Common.{◌≡◌, ℕ, ◌+◌, ◌∙◌, sym, ap, Bool, true, false, ◌&&◌, cond, List, [], ◌∷◌, ◌++◌, Option, Some}
use Rattle.std.specs.List.{slice_get, list_any}
use Rattle.tcl_lang.specs.declared.pred.Line.{Line}
use Rattle.tcl_lang.specs.Names.{used_names, defined_names}
use Rattle.tcl_lang.specs.Goal.{passes}
use Rattle.tcl_lang.specs.Program.{VersionedProgram}
use Rattle.tcl_goals.specs.declared.cuts.Starts.{Starts}
use Rattle.tcl_goals.specs.declared.fact.Hyp.{Hyp}
use Rattle.tcl_goals.specs.declared.fact.Hyp.TheVariants as hyp
use Rattle.tcl_goals.specs.declared.fact.Claim.TheVariants as claim
use Rattle.tcl_goals.specs.declared.fact.Fact.{Fact}
use Rattle.tcl_goals.specs.Numbers.{those_below}
use Rattle.tcl_goals.specs.Places.{goal_place, is_step}
use Rattle.tcl_goals.specs.Closure.{is_marked}
use Rattle.tcl_goals.specs.Defaults.{is_default, first_start, starts_at, line_hyps}
use Rattle.tcl_goals.specs.Slices.{read_in, defined_in, is_sliced_hyp, is_sliced_step, slice_marks, cut_fact}
use Rattle.tcl_goals.proofs.Numbers.{those_none, next_yes, next_no}
use Rattle.tcl_slice.proofs.Before.{appended}
use Rattle.std.specs.Prelude.{nat_le}

pub hyps_none : (lines : List Line) (starts : Starts) (marks : List Bool) → line_hyps (those_below (is_sliced_hyp lines starts marks) 0) ≡ []
hyps_none lines starts marks = ap line_hyps (those_none (is_sliced_hyp lines starts marks))

pub hyps_next : (lines : List Line) (starts : Starts) (marks : List Bool) (k : ℕ) (l : Line) (b : Bool) → slice_get lines k ≡ Some l → b ≡ (is_default starts k l && list_any (is_marked marks) (used_names l))
    → line_hyps (those_below (is_sliced_hyp lines starts marks) (k + 1)) ≡ cond b (line_hyps (those_below (is_sliced_hyp lines starts marks) k) ++ hyp.Line k ∷ []) (line_hyps (those_below (is_sliced_hyp lines starts marks) k))
hyps_next lines starts marks k l b at e = by b (ap (λ (o : Option Line). passes (is_default starts k) o && list_any (is_marked marks) (read_in o)) at ∙ sym e)
  where
    by : (c : Bool) → is_sliced_hyp lines starts marks k ≡ c
        → line_hyps (those_below (is_sliced_hyp lines starts marks) (k + 1)) ≡ cond c (line_hyps (those_below (is_sliced_hyp lines starts marks) k) ++ hyp.Line k ∷ []) (line_hyps (those_below (is_sliced_hyp lines starts marks) k))
    by true t = ap line_hyps (next_yes (is_sliced_hyp lines starts marks) k t) ∙ appended (those_below (is_sliced_hyp lines starts marks) k) k
    by false t = ap line_hyps (next_no (is_sliced_hyp lines starts marks) k t)

pub uses_none : (lines : List Line) (starts : Starts) (marks : List Bool) → those_below (is_sliced_step lines starts marks) 0 ≡ []
uses_none lines starts marks = those_none (is_sliced_step lines starts marks)

pub uses_next : (lines : List Line) (starts : Starts) (marks : List Bool) (k : ℕ) (l : Line) (b : Bool) → slice_get lines k ≡ Some l → b ≡ ((is_step l && nat_le (first_start starts) k) && list_any (is_marked marks) (defined_names l))
    → those_below (is_sliced_step lines starts marks) (k + 1) ≡ cond b (those_below (is_sliced_step lines starts marks) k ++ k ∷ []) (those_below (is_sliced_step lines starts marks) k)
uses_next lines starts marks k l b at e = by b (ap (λ (o : Option Line). (passes is_step o && nat_le (first_start starts) k) && list_any (is_marked marks) (defined_in o)) at ∙ sym e)
  where
    by : (c : Bool) → is_sliced_step lines starts marks k ≡ c
        → those_below (is_sliced_step lines starts marks) (k + 1) ≡ cond c (those_below (is_sliced_step lines starts marks) k ++ k ∷ []) (those_below (is_sliced_step lines starts marks) k)
    by true t = next_yes (is_sliced_step lines starts marks) k t
    by false t = next_no (is_sliced_step lines starts marks) k t

-- the fact from its parts
pub cut_is : (p : VersionedProgram) (lines : List Line) (i place : ℕ) (starts : Starts) (marks : List Bool) (hyps : List Hyp) (uses : List ℕ) → lines ≡ p.lines → place ≡ goal_place lines i → starts ≡ starts_at lines place → marks ≡ slice_marks p (goal_place p.lines i)
    → hyps ≡ line_hyps (those_below (is_sliced_hyp lines starts marks) place) → uses ≡ those_below (is_sliced_step lines starts marks) place → record { claim = claim.Goal i; hyps = hyps; cube = []; uses = uses } ≡ cut_fact p i
unfolding cut_fact
cut_is p lines i place starts marks hyps uses same at from set hyps_are uses_are =
    ap (λ (hs : List Hyp). record { claim = claim.Goal i; hyps = hs; cube = []; uses = uses }) hyps_are
    ∙ ap (λ us. record { claim = claim.Goal i; hyps = line_hyps (those_below (is_sliced_hyp lines starts marks) place); cube = []; uses = us }) uses_are
    ∙ ap (λ m. fact_of lines starts m place) set
    ∙ ap (λ (s : Starts). fact_of lines s (slice_marks p (goal_place p.lines i)) place) from
    ∙ ap (λ k. fact_of lines (starts_at lines k) (slice_marks p (goal_place p.lines i)) k) at
    ∙ ap (λ (ls : List Line). fact_of ls (starts_at ls (goal_place ls i)) (slice_marks p (goal_place p.lines i)) (goal_place ls i)) same
  where
    fact_of : List Line → Starts → List Bool → ℕ → Fact
    fact_of ls s m k = record {
      claim = claim.Goal i;
      hyps = line_hyps (those_below (is_sliced_hyp ls s m) k);
      cube = [];
      uses = those_below (is_sliced_step ls s m) k;
    }
