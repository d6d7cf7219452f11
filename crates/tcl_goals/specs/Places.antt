-- Places of goals and of instructions.
use Rattle.std.specs.Prelude.{ℕ, zero, suc, ◌+◌, Bool, true, false, if◌then◌else◌, nat_lt, List, [], ◌∷◌, is_some}
use Rattle.tcl_lang.specs.declared.pred.Line.{Line}
use Rattle.tcl_lang.specs.declared.pred.Line.TheVariants as line
use Rattle.tcl_lang.specs.Line.{is_goal, instruction_of}
use Rattle.tcl_lang.specs.Goal.{goal_count}
use Rattle.tcl_goals.specs.declared.goal.Kind.{Kind}
use Rattle.tcl_goals.specs.declared.goal.Kind.TheVariants as kind
use Rattle.tcl_goals.specs.declared.goal.Goal.{Goal}

-- the place of goal i, of lines of which the first has a goal or not
abbrev pub next_place : Bool → ℕ → (ℕ → ℕ) → ℕ
next_place true zero others = 0
next_place true (suc i) others = suc (others i)
next_place false i others = suc (others i)

-- the place of goal i; the number of lines where there is no such goal
unfoldable pub goal_place : List Line → ℕ → ℕ
goal_place [] i = 0
goal_place (l ∷ lines) i = next_place (is_goal l) i (goal_place lines)

-- goal i exists
abbrev pub has_goal : List Line → ℕ → Bool
has_goal lines i = nat_lt i (goal_count lines)

-- the kind of a line's goal
abbrev pub kind_of : Line → Kind
kind_of (line.Step i) = kind.Exact
kind_of (line.Cut p) = kind.Cut
kind_of (line.Post p) = kind.Post
kind_of _ = kind.Assert

-- the goals of these lines, which have the places from k on, numbered from i on
abbrev pub goals_from : ℕ → ℕ → List Line → List Goal
goals_from k i [] = []
goals_from k i (l ∷ lines) =
    if is_goal l
    then record { number = i; place = k; kind = kind_of l } ∷ goals_from (k + 1) (i + 1) lines
    else goals_from (k + 1) i lines

-- the goals of a program
unfoldable pub goals_of : List Line → List Goal
goals_of lines = goals_from 0 0 lines

-- the line is an instruction
abbrev pub is_step : Line → Bool
is_step l = is_some (instruction_of l)
