-- One number further among those that pass a test.
use Rattle.std.proofs.Common.{◌≡◌, ℕ, suc, ◌+◌, ◌∙◌, refl, ap, add-one, Bool, true, false, List, [], ◌∷◌, ◌++◌, Some}
use Rattle.std.specs.List.{slice_get}
use Rattle.tcl_list.proofs.Booleans.{if_yes, if_no}
use Rattle.tcl_lang.specs.declared.pred.Line.{Line}
use Rattle.tcl_lang.specs.Goal.{passes}
use Rattle.tcl_goals.specs.declared.fact.Hyp.TheVariants as hyp
use Rattle.tcl_goals.specs.declared.cuts.Starts.{Starts}
use Rattle.tcl_goals.specs.Numbers.{those_below}
use Rattle.tcl_goals.specs.Places.{goal_place}
use Rattle.tcl_goals.specs.Defaults.{is_default, is_default_at, line_hyps, hyps_before, starts_at, default_hyps_of}

-- no number, one more that passes, one more that does not
pub those_none : (test : ℕ → Bool) → those_below test 0 ≡ []
unfolding those_below
those_none test = refl

pub those_yes : (test : ℕ → Bool) (n : ℕ) → test n ≡ true → those_below test (suc n) ≡ those_below test n ++ n ∷ []
unfolding those_below
those_yes test n e = if_yes (test n) (those_below test n ++ n ∷ []) (those_below test n) e

pub those_no : (test : ℕ → Bool) (n : ℕ) → test n ≡ false → those_below test (suc n) ≡ those_below test n
unfolding those_below
those_no test n e = if_no (test n) (those_below test n ++ n ∷ []) (those_below test n) e

-- the same where one is added to the end
pub next_yes : (test : ℕ → Bool) (n : ℕ) → test n ≡ true → those_below test (n + 1) ≡ those_below test n ++ n ∷ []
next_yes test n e = ap (those_below test) (add-one n) ∙ those_yes test n e

pub next_no : (test : ℕ → Bool) (n : ℕ) → test n ≡ false → those_below test (n + 1) ≡ those_below test n
next_no test n e = ap (those_below test) (add-one n) ∙ those_no test n e

-- the same for lines as hypotheses
line_hyps_append : (ns : List ℕ) (n : ℕ) → line_hyps (ns ++ n ∷ []) ≡ line_hyps ns ++ hyp.Line n ∷ []
line_hyps_append [] n = refl
line_hyps_append (m ∷ ns) n = ap (λ hs. hyp.Line m ∷ hs) (line_hyps_append ns n)

pub hyps_none : (lines : List Line) (s : Starts) → hyps_before lines s 0 ≡ []
unfolding hyps_before
hyps_none lines s = ap line_hyps (those_none (is_default_at lines s))

pub hyps_yes : (lines : List Line) (s : Starts) (k : ℕ) (l : Line) → slice_get lines k ≡ Some l → is_default s k l ≡ true → hyps_before lines s (k + 1) ≡ hyps_before lines s k ++ hyp.Line k ∷ []
unfolding hyps_before
hyps_yes lines s k l at e =
    ap (hyps_before lines s) (add-one k)
    ∙ ap line_hyps (those_yes (is_default_at lines s) k (ap (passes (is_default s k)) at ∙ e)) ∙ line_hyps_append (those_below (is_default_at lines s) k) k

pub hyps_no : (lines : List Line) (s : Starts) (k : ℕ) (l : Line) → slice_get lines k ≡ Some l → is_default s k l ≡ false → hyps_before lines s (k + 1) ≡ hyps_before lines s k
unfolding hyps_before
hyps_no lines s k l at e =
    ap (hyps_before lines s) (add-one k) ∙ ap line_hyps (those_no (is_default_at lines s) k (ap (passes (is_default s k)) at ∙ e))

-- the default hypotheses from the place of the goal and the starts there
pub defaults_are : (lines others : List Line) (i place : ℕ) (s : Starts) → others ≡ lines → place ≡ goal_place others i → s ≡ starts_at others place → hyps_before others s place ≡ default_hyps_of lines i
unfolding default_hyps_of
defaults_are lines others i place s same at from =
    ap (λ (t : Starts). hyps_before others t place) from
    ∙ ap (λ k. hyps_before others (starts_at others k) k) at
    ∙ ap (λ (ls : List Line). hyps_before ls (starts_at ls (goal_place ls i)) (goal_place ls i)) same
