-- The goals of a versioned form are those of its program, and each goal of the list is one of the lines.
use Rattle.std.proofs.Common.{◌≡◌, ℕ, zero, suc, ◌+◌, cond, Bool, Some, true, false, List, [], ◌∷◌, length, refl, sym, ◌∙◌, ap, arith, if◌then◌else◌}
use Rattle.std.specs.List.{slice_get}
use Rattle.std.proofs.lemmas.Bool.{lt-ltb}
use Rattle.std.proofs.lemmas.Option.{slice_get_within}
use Rattle.std.proofs.lemmas.List.Sums.{sum_by-cons}
use Rattle.tcl_lang.specs.declared.pred.Line.{Line}
use Rattle.tcl_lang.specs.declared.pred.Line.TheVariants.{Input, Pre, Step, Assert, Assume, Cut, Post}
use Rattle.tcl_lang.specs.Line.{is_goal}
use Rattle.tcl_lang.specs.Goal.{goal_count}
use Rattle.tcl_lang.specs.Program.{NamedProgram}
use Rattle.tcl_lang.specs.Versions.{Versions, version_line, version_lines, versions_after, no_versions, form_of}
use Rattle.tcl_goals.specs.declared.goal.Goal.{Goal}
use Rattle.tcl_goals.specs.Places.{kind_of, goals_from, goals_of, has_goal}

same_kind : (v : Versions) (l : Line) → (is_goal (version_line v l) ≡ is_goal l) × (kind_of (version_line v l) ≡ kind_of l)
same_kind v (Input T x) = (refl, refl)
same_kind v (Pre p) = (refl, refl)
same_kind v (Step i) = (refl, refl)
same_kind v (Assert p) = (refl, refl)
same_kind v (Assume p) = (refl, refl)
same_kind v (Cut p) = (refl, refl)
same_kind v (Post p) = (refl, refl)

same_from : (names : List (List ℕ)) (v : Versions) (k i : ℕ) (lines : List Line) → goals_from k i (version_lines names v lines) ≡ goals_from k i lines
same_from names v k i [] = refl
same_from names v k i (l ∷ lines) =
    let kinds = same_kind v l in
    let next = versions_after names v l in
    ap (λ b. if b then record { number = i; place = k; kind = kind_of (version_line v l) } ∷ goals_from (k + 1) (i + 1) (version_lines names next lines) else goals_from (k + 1) i (version_lines names next lines)) kinds.0
    ∙ ap (λ c. if is_goal l then record { number = i; place = k; kind = c } ∷ goals_from (k + 1) (i + 1) (version_lines names next lines) else goals_from (k + 1) i (version_lines names next lines)) kinds.1
    ∙ ap (λ gs. if is_goal l then record { number = i; place = k; kind = kind_of l } ∷ gs else goals_from (k + 1) i (version_lines names next lines)) (same_from names next (k + 1) (i + 1) lines)
    ∙ ap (λ gs. if is_goal l then record { number = i; place = k; kind = kind_of l } ∷ goals_from (k + 1) (i + 1) lines else gs) (same_from names next (k + 1) i lines)

pub form_goals : (p : NamedProgram) → goals_of (form_of p).lines ≡ goals_of p.lines
unfolding goals_of form_of
form_goals p = same_from p.names (no_versions (length p.names)) 0 0 p.lines

-- as many goals
counted : (b : Bool) (g : Goal) (more same : List Goal) (n m : ℕ) → m ≡ cond b 1 0 + n → length more ≡ n → length same ≡ n → length (if b then g ∷ more else same) ≡ m
counted true g more same n m e p q = omega (arith, e, p)
counted false g more same n m e p q = omega (arith, e, q)

from_count : (k i : ℕ) (lines : List Line) → length (goals_from k i lines) ≡ goal_count lines
from_count k i [] = refl
from_count k i (l ∷ lines) =
    counted (is_goal l) (record { number = i; place = k; kind = kind_of l }) (goals_from (k + 1) (i + 1) lines) (goals_from (k + 1) i lines) (goal_count lines) (goal_count (l ∷ lines))
    (sum_by-cons (λ x. cond (is_goal x) 1 0) l lines)
    (from_count (k + 1) (i + 1) lines) (from_count (k + 1) i lines)

goals_count : (lines : List Line) → length (goals_of lines) ≡ goal_count lines
unfolding goals_of
goals_count lines = from_count 0 0 lines

-- the goal at a place of the list has this number
numbered_if : (b : Bool) (first g : Goal) (more same : List Goal) (n i : ℕ) → slice_get (if b then first ∷ more else same) n ≡ Some g → first.number ≡ i → ((m : ℕ) → slice_get more m ≡ Some g → g.number ≡ i + 1 + m) → ((m : ℕ) → slice_get same m ≡ Some g → g.number ≡ i + m) → g.number ≡ i + n
numbered_if true first g more same zero i at here later others =
    let equal : first ≡ g = cc in
    let number : g.number ≡ i = ap (λ (x : Goal). x.number) (sym equal) ∙ here in
    omega (arith, number)
numbered_if true first g more same (suc n) i at here later others = omega (arith, later n at)
numbered_if false first g more same n i at here later others = others n at

number_from : (k i : ℕ) (lines : List Line) (n : ℕ) (g : Goal) → slice_get (goals_from k i lines) n ≡ Some g → g.number ≡ i + n
number_from k i [] n g at = absurd (cc)
number_from k i (l ∷ lines) n g at =
    numbered_if (is_goal l) (record { number = i; place = k; kind = kind_of l }) g (goals_from (k + 1) (i + 1) lines) (goals_from (k + 1) i lines) n i at refl
    (λ m h. number_from (k + 1) (i + 1) lines m g h) (λ m h. number_from (k + 1) i lines m g h)

goal_number : (lines : List Line) (n : ℕ) (g : Goal) → slice_get (goals_of lines) n ≡ Some g → g.number ≡ n
unfolding goals_of
goal_number lines n g at = omega (arith, number_from 0 0 lines n g at)

pub goal_there : (lines : List Line) (n : ℕ) (g : Goal) → slice_get (goals_of lines) n ≡ Some g → has_goal lines g.number ≡ true
goal_there lines n g at =
    lt-ltb g.number (goal_count lines) (omega (arith, goal_number lines n g at, goals_count lines, slice_get_within (goals_of lines) n g at))
