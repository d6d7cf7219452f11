-- Cuts, and what a goal rests on by default. A line cuts the algebraic hypotheses, the others, or both.
use Rattle.std.specs.Prelude.{ℕ, zero, suc, ◌+◌, min, nat_le, Bool, false, not, ◌&&◌, if◌then◌else◌, List, map, slice_get, Option, Some, None}
use Rattle.tcl_lang.specs.declared.pred.Line.{Line}
use Rattle.tcl_lang.specs.Line.{is_algebraic, cuts_algebraic, cuts_range, is_hypothesis}
use Rattle.tcl_lang.specs.Goal.{passes}
use Rattle.tcl_goals.specs.declared.fact.Hyp.{Hyp}
use Rattle.tcl_goals.specs.declared.fact.Hyp.TheVariants as hyp
use Rattle.tcl_goals.specs.declared.cuts.Starts.{Starts}
use Rattle.tcl_goals.specs.declared.cuts.Cuts.{Cuts}
use Rattle.tcl_goals.specs.Numbers.{those_below}
use Rattle.tcl_goals.specs.Places.{goal_place}

-- equality of truth values as a test
abbrev pub same_truth : Bool → Bool → Bool
same_truth a b = if a then b else not b

-- Adjacent lines that cut the same hypotheses form one cut; lines that cut none form none. Before a place: where the lines
-- of one kind that end just before it begin, what they cut, and the starts of the last cuts that have ended, 0 where there is
-- none.
abbrev pub no_cuts : Cuts
no_cuts = record { from = 0; algebraic = false; range = false; starts = record { algebraic = 0; range = 0 } }

-- a line of another kind ends the lines before it
abbrev pub cuts_ended : ℕ → Line → Cuts → Cuts
cuts_ended k l c =
    record {
      from = k;
      algebraic = cuts_algebraic l;
      range = cuts_range l;
      starts = record {
        algebraic = if c.algebraic then c.from else c.starts.algebraic;
        range = if c.range then c.from else c.starts.range;
      };
    }

-- after the line of place k
abbrev pub cuts_after : ℕ → Line → Cuts → Cuts
cuts_after k l c =
    if same_truth c.algebraic (cuts_algebraic l) && same_truth c.range (cuts_range l) then c else cuts_ended k l c

abbrev pub cuts_past : ℕ → Option Line → Cuts → Cuts
cuts_past k None c = c
cuts_past k (Some l) c = cuts_after k l c

-- the cuts before place k
unfoldable pub cuts_at : List Line → ℕ → Cuts
cuts_at lines zero = no_cuts
cuts_at lines (suc k) = cuts_past k (slice_get lines k) (cuts_at lines k)

-- the starts of the last cuts that end before the line of place k; a cut to which this line belongs has not ended
abbrev pub starts_at : List Line → ℕ → Starts
starts_at lines k = (cuts_at lines (k + 1)).starts

-- where the hypotheses of a line's sort begin
abbrev pub start_for : Starts → Line → ℕ
start_for s l = if is_algebraic l then s.algebraic else s.range

-- the line of place j is a hypothesis at or after the start of its sort; no part of the precondition stands after a cut
abbrev pub is_default : Starts → ℕ → Line → Bool
is_default s j l = is_hypothesis l && nat_le (start_for s l) j

abbrev pub is_default_at : List Line → Starts → ℕ → Bool
is_default_at lines s j = passes (is_default s j) (slice_get lines j)

-- instructions count from the earlier of the two starts on
abbrev pub first_start : Starts → ℕ
first_start s = min s.algebraic s.range

-- lines as hypotheses
abbrev pub line_hyps : List ℕ → List Hyp
line_hyps places = map (λ k. hyp.Line k) places

-- the default hypotheses before place k under these starts
unfoldable pub hyps_before : List Line → Starts → ℕ → List Hyp
hyps_before lines s k = line_hyps (those_below (is_default_at lines s) k)

-- the default hypotheses of goal i
abbrev pub hyps_at : List Line → ℕ → List Hyp
hyps_at lines k = hyps_before lines (starts_at lines k) k

unfoldable pub default_hyps_of : List Line → ℕ → List Hyp
default_hyps_of lines i = hyps_at lines (goal_place lines i)
