-- The versioned form of a program has as many goals as the program.
use Rattle.std.proofs.Common.{◌≡◌, ℕ, ◌+◌, cond, Bool, true, false, List, [], ◌∷◌, length, refl, sym, ◌∙◌, ap, arith, if◌then◌else◌}
use Rattle.std.proofs.lemmas.List.Sums.{sum_by-cons}
use Rattle.tcl_lang.specs.declared.pred.Line.{Line}
use Rattle.tcl_lang.specs.Line.{is_goal}
use Rattle.tcl_lang.specs.Goal.{goal_count}
use Rattle.tcl_lang.specs.Program.{NamedProgram}
use Rattle.tcl_lang.specs.Versions.{form_of}
use Rattle.tcl_goals.specs.declared.goal.Goal.{Goal}
use Rattle.tcl_goals.specs.Places.{kind_of, goals_from, goals_of}
use Rattle.tcl_report.proofs.GoalLemmas.{form_goals}

counted : (b : Bool) (g : Goal) (more same : List Goal) (n m : ℕ) → m ≡ cond b 1 0 + n → length more ≡ n → length same ≡ n → length (if b then g ∷ more else same) ≡ m
counted true g more same n m e p q = omega (arith, e, p)
counted false g more same n m e p q = omega (arith, e, q)

from_count : (k i : ℕ) (lines : List Line) → length (goals_from k i lines) ≡ goal_count lines
from_count k i [] = refl
from_count k i (l ∷ lines) =
    counted (is_goal l) (record { number = i; place = k; kind = kind_of l }) (goals_from (k + 1) (i + 1) lines) (goals_from (k + 1) i lines) (goal_count lines) (goal_count (l ∷ lines))
    (sum_by-cons (λ x. cond (is_goal x) 1 0) l lines)
    (from_count (k + 1) (i + 1) lines) (from_count (k + 1) i lines)

goals_count : (lines : List Line) → length (goals_of lines) ≡ goal_count lines
unfolding goals_of
goals_count lines = from_count 0 0 lines

pub form_goal_count : (p : NamedProgram) → goal_count (form_of p).lines ≡ goal_count p.lines
form_goal_count p = sym (goals_count (form_of p).lines) ∙ ap length (form_goals p) ∙ goals_count p.lines
