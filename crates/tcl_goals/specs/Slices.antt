-- The facts of the two routes of a goal: what its slice holds, and all that stands before it.
use Rattle.std.specs.Prelude.{ℕ, nat_le, Bool, false, ◌&&◌, List, [], ◌++◌, length, map, replicate, slice_get, Option, Some, None}
use Rattle.std.specs.List.{list_any}
use Rattle.tcl_lang.specs.declared.pred.Line.{Line}
use Rattle.tcl_lang.specs.Program.{VersionedProgram}
use Rattle.tcl_lang.specs.Line.{is_hypothesis}
use Rattle.tcl_lang.specs.Names.{used_names, defined_names}
use Rattle.tcl_lang.specs.Goal.{passes}
use Rattle.tcl_goals.specs.declared.fact.Claim.TheVariants as claim
use Rattle.tcl_goals.specs.declared.fact.Fact.{Fact}
use Rattle.tcl_goals.specs.declared.cuts.Starts.{Starts}
use Rattle.tcl_goals.specs.declared.piece.Route.{Route}
use Rattle.tcl_goals.specs.declared.piece.Route.TheVariants as route
use Rattle.tcl_goals.specs.Numbers.{those_below}
use Rattle.tcl_goals.specs.Places.{goal_place, is_step}
use Rattle.tcl_goals.specs.Defaults.{starts_at, first_start, is_default_at, line_hyps}
use Rattle.tcl_goals.specs.Closure.{Rule, closure, is_marked, mark_all}

-- the variables that a line reads, defines, names; none where there is no line
abbrev pub read_in : Option Line → List ℕ
read_in None = []
read_in (Some l) = used_names l

abbrev pub defined_in : Option Line → List ℕ
defined_in None = []
defined_in (Some l) = defined_names l

abbrev pub named_in : Option Line → List ℕ
named_in o = defined_in o ++ read_in o

-- the line of place j is a hypothesis; an instruction; an instruction that counts under these starts
abbrev pub is_hypothesis_at : List Line → ℕ → Bool
is_hypothesis_at lines j = passes is_hypothesis (slice_get lines j)

abbrev pub is_step_at : List Line → ℕ → Bool
is_step_at lines j = passes is_step (slice_get lines j)

abbrev pub is_default_step : List Line → Starts → ℕ → Bool
is_default_step lines s j = is_step_at lines j && nat_le (first_start s) j

-- the rules of a slice: an instruction that defines a variable of the set is taken with all its variables, a hypothesis that
-- names one with all its own
abbrev pub step_rule : List Line → ℕ → Rule
step_rule lines j = record { when = defined_in (slice_get lines j); adds = named_in (slice_get lines j) }

abbrev pub hyp_rule : List Line → ℕ → Rule
hyp_rule lines j = record { when = read_in (slice_get lines j); adds = read_in (slice_get lines j) }

abbrev pub slice_rules : List Line → Starts → ℕ → List Rule
slice_rules lines s k =
    map (step_rule lines) (those_below (is_default_step lines s) k)
    ++ map (hyp_rule lines) (those_below (is_default_at lines s) k)

-- the variables of the slice of the goal of place k: the least set that holds those that its line reads and is closed under
-- these rules
unfoldable pub slice_marks : VersionedProgram → ℕ → List Bool
slice_marks p k =
    closure (slice_rules p.lines (starts_at p.lines k) k)
    (mark_all (replicate (length p.variables) false) (read_in (slice_get p.lines k)))

-- the default hypotheses that name a variable of the set, the default instructions that define one
abbrev pub is_sliced_hyp : List Line → Starts → List Bool → ℕ → Bool
is_sliced_hyp lines s marks j = is_default_at lines s j && list_any (is_marked marks) (read_in (slice_get lines j))

abbrev pub is_sliced_step : List Line → Starts → List Bool → ℕ → Bool
is_sliced_step lines s marks j = is_default_step lines s j && list_any (is_marked marks) (defined_in (slice_get lines j))

-- the fact of the cut route of goal i, which stands at place k
abbrev pub cut_fact_at : VersionedProgram → Starts → List Bool → ℕ → ℕ → Fact
cut_fact_at p s marks i k =
    record {
      claim = claim.Goal i;
      hyps = line_hyps (those_below (is_sliced_hyp p.lines s marks) k);
      cube = [];
      uses = those_below (is_sliced_step p.lines s marks) k;
    }

unfoldable pub cut_fact : VersionedProgram → ℕ → Fact
cut_fact p i =
    cut_fact_at p (starts_at p.lines (goal_place p.lines i)) (slice_marks p (goal_place p.lines i)) i (goal_place p.lines i)

-- the fact of the whole route: all that stands before the goal
unfoldable pub whole_fact : VersionedProgram → ℕ → Fact
whole_fact p i =
    record {
      claim = claim.Goal i;
      hyps = line_hyps (those_below (is_hypothesis_at p.lines) (goal_place p.lines i));
      cube = [];
      uses = those_below (is_step_at p.lines) (goal_place p.lines i);
    }

abbrev pub route_fact : VersionedProgram → ℕ → Route → Fact
route_fact p i route.Cut = cut_fact p i
route_fact p i route.Whole = whole_fact p i
