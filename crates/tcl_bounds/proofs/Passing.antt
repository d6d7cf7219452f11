-- The rows of used instructions lie in the types, so meeting them with the limits narrows them by the hypotheses.
use Rattle.std.proofs.Common.{◌≡◌, ℕ, refl, sym, ◌∙◌, ap, Bool, true, false, ◌||◌, cond, List, [], ◌∷◌, set, Option, Some, None}
use Rattle.std.specs.List.{slice_get, fold}
use Rattle.std.proofs.lemmas.Bool.{or_parts}
use Rattle.tcl_lang.specs.declared.ty.Ty.{Ty}
use Rattle.tcl_lang.specs.declared.instr.Instr.{Instr}
use Rattle.tcl_lang.specs.declared.pred.Line.{Line}
use Rattle.tcl_lang.specs.declared.pred.Line.TheVariants.{Input, Pre, Step, Assert, Assume, Cut, Post}
use Rattle.tcl_lang.specs.Results.{result_types}
use Rattle.tcl_lang.specs.Values.{types_of}
use Rattle.tcl_lang.specs.Program.{VersionedProgram}
use Rattle.tcl_lang.specs.Form.{IsWellFormed}
use Rattle.tcl_goals.specs.declared.fact.Fact.{Fact}
use Rattle.tcl_bounds.specs.declared.interval.Interval.{Interval}
use Rattle.tcl_bounds.specs.Intervals.{is_empty}
use Rattle.tcl_bounds.specs.Rows.{row}
use Rattle.tcl_bounds.specs.Conditions.{AreWithin, is_nondet}
use Rattle.tcl_bounds.specs.Bounds.{wholes, narrowed_all, narrowed_from, operand_interval, set_row, set_rows, bounds_after, bounds_past, pass_line, bounds_of}
use Rattle.tcl_bounds.specs.Limits.{met_with}
use Rattle.tcl_bounds.proofs.RowsFit.{RowFits, RowsFit, rows_fit}
use Rattle.tcl_bounds.proofs.ResultsTyped.{HaveTypes, results_typed}
use Rattle.tcl_bounds.proofs.Limited.{limited}
use Rattle.tcl_bounds.proofs.Outs.{set_none, nondet_rows}
use Rattle.tcl_bounds.proofs.Within.{narrowed_within, past_within}
use Rattle.tcl_bounds.proofs.Stepping.{can_step}

-- what the program narrows with, and what narrows
abbrev Met : VersionedProgram → Fact → ℕ → Interval → Interval
Met p fact = met_with (narrowed_all p fact (wholes p.variables))

row_same : (p : VersionedProgram) (fact : Fact) (bs : List Interval) (v : ℕ) (T : Ty) (r : Option Interval) → slice_get (types_of p.variables) v ≡ Some T → RowFits T r → set_row (Met p fact) bs v r ≡ set_row (narrowed_from p fact) bs v r
row_same p fact bs v T None at f = refl
row_same p fact bs v T (Some i) at f = ap (set bs v) (limited p fact v T i at f)

rows_same : (p : VersionedProgram) (fact : Fact) (outs : List ℕ) (Ts : List Ty) (rows : List (Option Interval)) (bs : List Interval) → HaveTypes (slice_get (types_of p.variables)) outs Ts → RowsFit Ts rows → set_rows (Met p fact) bs outs rows ≡ set_rows (narrowed_from p fact) bs outs rows
rows_same p fact [] Ts rows bs t f = refl
rows_same p fact (v ∷ outs) [] rows bs t f = absurd t
rows_same p fact (v ∷ outs) (T ∷ Ts) [] bs t f = refl
rows_same p fact (v ∷ outs) (T ∷ Ts) (r ∷ rows) bs t f =
    rows_same p fact outs Ts rows (set_row (Met p fact) bs v r) t.1 f.1
    ∙ ap (λ cs. set_rows (narrowed_from p fact) cs outs rows) (row_same p fact bs v T r t.0 f.0)

-- the rows of an instruction, where the intervals of its operands are empty or not
chosen_same : (p : VersionedProgram) (fact : Fact) (bs : List Interval) (i : Instr) (rows : List (Option Interval)) (t : Bool) → HaveTypes (slice_get (types_of p.variables)) i.outs (result_types i.op i.ty) → (t ≡ false → RowsFit (result_types i.op i.ty) rows) → set_rows (Met p fact) bs i.outs (cond t [] rows) ≡ set_rows (narrowed_from p fact) bs i.outs (cond t [] rows)
chosen_same p fact bs i rows true have f = set_none (Met p fact) bs i.outs ∙ sym (set_none (narrowed_from p fact) bs i.outs)
chosen_same p fact bs i rows false have f = rows_same p fact i.outs (result_types i.op i.ty) rows bs have (f refl)

instruction_same : (p : VersionedProgram) (fact : Fact) (bs : List Interval) (k : ℕ) (i : Instr) → IsWellFormed p → AreWithin p.variables bs → slice_get p.lines k ≡ Some (Step i) → (t : Bool) → is_nondet i.op ≡ t → bounds_after (Met p fact) bs i ≡ bounds_after (narrowed_from p fact) bs i
instruction_same p fact bs k i form w at true e = nondet_rows (Met p fact) bs i e ∙ sym (nondet_rows (narrowed_from p fact) bs i e)
instruction_same p fact bs k i form w at false e =
    let a = operand_interval bs i.args 0 in
    let b = operand_interval bs i.args 1 in
    let c = operand_interval bs i.args 2 in
    chosen_same p fact bs i (row i.op i.ty i.amount a b c) (is_empty a || is_empty b || is_empty c) (results_typed p k i form at)
    (λ full. let first = or_parts (is_empty a || is_empty b) (is_empty c) full in let both = or_parts (is_empty a) (is_empty b) first.0 in
    rows_fit i.op i.ty i.amount a b c (can_step p bs k i form w at e both.0 both.1 first.1))

past_same : (p : VersionedProgram) (fact : Fact) (bs : List Interval) (k : ℕ) (o : Option Line) → IsWellFormed p → AreWithin p.variables bs → slice_get p.lines k ≡ o → bounds_past (Met p fact) o bs ≡ bounds_past (narrowed_from p fact) o bs
past_same p fact bs k None form w at = refl
past_same p fact bs k (Some (Input T x)) form w at = refl
past_same p fact bs k (Some (Pre q)) form w at = refl
past_same p fact bs k (Some (Step i)) form w at = instruction_same p fact bs k i form w at (is_nondet i.op) refl
past_same p fact bs k (Some (Assert q)) form w at = refl
past_same p fact bs k (Some (Assume q)) form w at = refl
past_same p fact bs k (Some (Cut q)) form w at = refl
past_same p fact bs k (Some (Post q)) form w at = refl

uses_same : (p : VersionedProgram) (fact : Fact) (uses : List ℕ) (bs : List Interval) → IsWellFormed p → AreWithin p.variables bs → fold (pass_line (Met p fact) p.lines) bs uses ≡ fold (pass_line (narrowed_from p fact) p.lines) bs uses
uses_same p fact [] bs form w = refl
uses_same p fact (k ∷ uses) bs form w =
    let limits = narrowed_all p fact (wholes p.variables) in
    uses_same p fact uses (pass_line (Met p fact) p.lines bs k) form
    (past_within p.variables limits bs (slice_get p.lines k) (narrowed_within p.lines p.variables fact.hyps) w)
    ∙ ap (λ cs. fold (pass_line (narrowed_from p fact) p.lines) cs uses) (past_same p fact bs k (slice_get p.lines k) form w refl)

pub bounds_are : (p : VersionedProgram) (fact : Fact) → IsWellFormed p → fold (pass_line (met_with (narrowed_all p fact (wholes p.variables))) p.lines) (narrowed_all p fact (wholes p.variables)) fact.uses ≡ bounds_of p fact
unfolding bounds_of
bounds_are p fact form = uses_same p fact fact.uses (narrowed_all p fact (wholes p.variables)) form (narrowed_within p.lines p.variables fact.hyps)
