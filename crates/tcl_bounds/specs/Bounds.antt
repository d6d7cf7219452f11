-- The interval of each variable of a fact. A free variable starts with its type, and the result of a used instruction with
-- the row of the instruction; then each is narrowed by the hypotheses. Uses are in the order of their places, and so of
-- the numbers of their results: when an instruction is come to, the intervals of its operands are known.
use Rattle.std.specs.Prelude.{ℕ, pos, ◌||◌, if◌then◌else◌, List, [], ◌∷◌, map, fold, slice_index_or, slice_set, slice_get, Option, Some, None}
use Rattle.tcl_lang.specs.declared.instr.Atom.{Atom}
use Rattle.tcl_lang.specs.declared.instr.Instr.{Instr}
use Rattle.tcl_lang.specs.declared.pred.Line.{Line}
use Rattle.tcl_lang.specs.declared.variable.Variable.{Variable}
use Rattle.tcl_lang.specs.Line.{instruction_of}
use Rattle.tcl_lang.specs.Program.{VersionedProgram}
use Rattle.tcl_goals.specs.declared.fact.Fact.{Fact}
use Rattle.tcl_bounds.specs.declared.interval.Interval.{Interval}
use Rattle.tcl_bounds.specs.Intervals.{point, is_empty, whole}
use Rattle.tcl_bounds.specs.Rows.{row}
use Rattle.tcl_bounds.specs.Narrowing.{interval_at, interval_of, narrow_hyp}

-- the intervals of the types
abbrev pub wholes : List Variable → List Interval
wholes variables = map (λ (v : Variable). whole v.ty) variables

-- each interval narrowed by the hypotheses, in order
abbrev pub narrowed_all : VersionedProgram → Fact → List Interval → List Interval
narrowed_all p fact bounds = fold (narrow_hyp p.lines) bounds fact.hyps

-- the interval of variable v narrowed by the hypotheses, where it starts as i
abbrev pub narrowed_from : VersionedProgram → Fact → ℕ → Interval → Interval
narrowed_from p fact v i = interval_at (narrowed_all p fact (slice_set (wholes p.variables) v i)) v

-- the interval of operand k; where there is none, that of 0
abbrev pub operand_interval : List Interval → List Atom → ℕ → Interval
operand_interval bounds args k = slice_index_or (map (interval_of bounds) args) k (point (pos 0))

-- The intervals once a result has its row, narrowed. A result whose row says no more than its type keeps the interval of
-- a free variable.
abbrev pub set_row : (ℕ → Interval → Interval) → List Interval → ℕ → Option Interval → List Interval
set_row narrow bounds v None = bounds
set_row narrow bounds v (Some i) = slice_set bounds v (narrow v i)

-- the rows of results, from left to right
abbrev pub set_rows : (ℕ → Interval → Interval) → List Interval → List ℕ → List (Option Interval) → List Interval
set_rows narrow bounds (v ∷ others) (r ∷ rows) = set_rows narrow (set_row narrow bounds v r) others rows
set_rows narrow bounds _ _ = bounds

-- the rows of an instruction; where the interval of an operand is empty, they say no more than the types
abbrev pub rows_of : Instr → Interval → Interval → Interval → List (Option Interval)
rows_of i a b c = if is_empty a || is_empty b || is_empty c then [] else row i.op i.ty i.amount a b c

-- the intervals once the results of an instruction have theirs
abbrev pub bounds_after : (ℕ → Interval → Interval) → List Interval → Instr → List Interval
bounds_after narrow bounds i =
    set_rows narrow bounds i.outs
    (rows_of i (operand_interval bounds i.args 0) (operand_interval bounds i.args 1) (operand_interval bounds i.args 2))

-- the same at a line, where only an instruction has results
abbrev pub bounds_past : (ℕ → Interval → Interval) → Option Line → List Interval → List Interval
bounds_past narrow None bounds = bounds
bounds_past narrow (Some l) bounds = of_instruction narrow (instruction_of l) bounds
  where
    of_instruction : (ℕ → Interval → Interval) → Option Instr → List Interval → List Interval
    of_instruction narrow None bounds = bounds
    of_instruction narrow (Some i) bounds = bounds_after narrow bounds i

-- the same at the line of place k
abbrev pub pass_line : (ℕ → Interval → Interval) → List Line → List Interval → ℕ → List Interval
pass_line narrow lines bounds k = bounds_past narrow (slice_get lines k) bounds

-- the free variables, then the results of the used instructions in order
unfoldable pub bounds_of : VersionedProgram → Fact → List Interval
bounds_of p fact = fold (pass_line (narrowed_from p fact) p.lines) (narrowed_all p fact (wholes p.variables)) fact.uses
