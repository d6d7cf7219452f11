-- Each line of a versioned program can be gone through at the values of a run, and computed anew at any values in their types.
use Rattle.std.proofs.Common.{◌≡◌, ℕ, refl, subst, ℤ, pos, List, length, get_or, Option, Some, None}
use Rattle.std.specs.List.{slice_get}
use Rattle.tcl_lang.specs.declared.ty.Ty.{Ty}
use Rattle.tcl_lang.specs.declared.instr.Op.{Op}
use Rattle.tcl_lang.specs.declared.instr.Op.TheVariants.{Mov, Add, Adds, Adc, Adcs, Sub, Subb, Sbb, Sbbs, Mul, Mull, Mulj, Shl, Split, Join, Cast, Vpc, Cmov, And, Or, Xor, Not, Nondet}
use Rattle.tcl_lang.specs.declared.instr.Instr.{Instr}
use Rattle.tcl_lang.specs.declared.pred.Line.{Line}
use Rattle.tcl_lang.specs.declared.pred.Line.TheVariants.{Input, Pre, Step, Assert, Assume, Cut, Post}
use Rattle.tcl_lang.specs.Program.{VersionedProgram}
use Rattle.tcl_lang.specs.Types.{InType}
use Rattle.tcl_lang.specs.Line.{choice_type}
use Rattle.tcl_lang.specs.Exactness.{is_exact}
use Rattle.tcl_lang.specs.Operands.{IsExecutable}
use Rattle.tcl_lang.specs.Run.{Fits, taken_types, taken_before, operands_of}
use Rattle.tcl_lang.specs.Values.{AreValues, recomputed_at, values_before, trace_of}
use Rattle.tcl_lang.specs.Form.{IsWellFormed}
use Rattle.tcl_lang.proofs.FormFacts.{zero_in}
use Rattle.tcl_lang.proofs.TypedRuns.{taken_fits}
use Rattle.tcl_lang.proofs.ValueSteps.{values_execute}
use Rattle.tcl_lang.proofs.ValueTypes.{runs_are_values}
use Rattle.tcl_lang.proofs.ValueWalks.{operands_read, recomputed_typed}
use Rattle.tcl_exec.specs.Passing.{CanBeExecuted, CanBePassed}

-- an instruction can be executed at values in their types, with a choice in its type
pub executes : (f : VersionedProgram) (values : List ℤ) (k : ℕ) (i : Instr) (choice : ℤ) → IsWellFormed f → AreValues f.variables values → slice_get f.lines k ≡ Some (Step i) → ((T : Ty) → choice_type i.op i.ty ≡ Some T → InType T choice) → CanBeExecuted values i choice
executes f values k i choice w a at c =
    subst (λ ns. IsExecutable i.op i.ty i.amount (operands_of i.op ns choice)) (operands_read f values i.args a)
    (values_execute f values k i choice w a at c).operands

-- 0 is a value of each type
pub zero_typed : (T : Ty) → InType T (pos 0)
zero_typed T = zero_in T.signed T.width

-- a line can be gone through with the value 0
pub passes_zero : (f : VersionedProgram) (values : List ℤ) (k : ℕ) (l : Line) → IsWellFormed f → AreValues f.variables values → slice_get f.lines k ≡ Some l → CanBePassed values l (pos 0)
passes_zero f values k (Input T v) w a at = tt
passes_zero f values k (Pre p) w a at = tt
passes_zero f values k (Step i) w a at = executes f values k i (pos 0) w a at (λ T e. zero_typed T)
passes_zero f values k (Assert p) w a at = tt
passes_zero f values k (Assume p) w a at = tt
passes_zero f values k (Cut p) w a at = tt
passes_zero f values k (Post p) w a at = tt

-- computed anew, values stay in their types
recomputed_line : (f : VersionedProgram) (values : List ℤ) (k : ℕ) (l : Line) → IsWellFormed f → AreValues f.variables values → slice_get f.lines k ≡ Some l → AreValues f.variables (recomputed_at values (Some l))
recomputed_line f values k (Input T v) w a at = a
recomputed_line f values k (Pre p) w a at = a
recomputed_line f values k (Step i) w a at = recomputed_typed f values k i w a at
recomputed_line f values k (Assert p) w a at = a
recomputed_line f values k (Assume p) w a at = a
recomputed_line f values k (Cut p) w a at = a
recomputed_line f values k (Post p) w a at = a

pub stays_typed : (f : VersionedProgram) (values : List ℤ) (k : ℕ) → IsWellFormed f → AreValues f.variables values → AreValues f.variables (recomputed_at values (slice_get f.lines k))
stays_typed f values k w a = at (slice_get f.lines k) refl
  where
    at : (o : Option Line) → slice_get f.lines k ≡ o → AreValues f.variables (recomputed_at values o)
    at None e = a
    at (Some l) e = recomputed_line f values k l w a e

-- in a run a line can be gone through with the value that it takes
pub run_passes : (f : VersionedProgram) (input : List ℤ) (k : ℕ) (l : Line) → IsWellFormed f → Fits (taken_types f.lines) input → slice_get f.lines k ≡ Some l → CanBePassed (values_before (length f.variables) f.lines input k) l (get_or input (taken_before f.lines k) (pos 0))
run_passes f input k (Input T v) w fits at = tt
run_passes f input k (Pre p) w fits at = tt
run_passes f input k (Step i) w fits at =
    executes f (values_before (length f.variables) f.lines input k) k i (get_or input (taken_before f.lines k) (pos 0)) w
    (runs_are_values f input k w fits) at (λ T e. taken_fits f.lines input k (Step i) T fits at e)
run_passes f input k (Assert p) w fits at = tt
run_passes f input k (Assume p) w fits at = tt
run_passes f input k (Cut p) w fits at = tt
run_passes f input k (Post p) w fits at = tt

pub trace_ends : (f : VersionedProgram) (input : List ℤ) → trace_of f input ≡ values_before (length f.variables) f.lines input (length f.lines)
unfolding trace_of
trace_ends f input = refl

-- exactness does not look at the choice
pub exact_choice : (op : Op) (T : Ty) (n : ℕ) (values : List ℤ) (choice : ℤ) → is_exact op T n (operands_of op values choice) ≡ is_exact op T n values
exact_choice Mov T n values choice = refl
exact_choice Add T n values choice = refl
exact_choice Adds T n values choice = refl
exact_choice Adc T n values choice = refl
exact_choice Adcs T n values choice = refl
exact_choice Sub T n values choice = refl
exact_choice Subb T n values choice = refl
exact_choice Sbb T n values choice = refl
exact_choice Sbbs T n values choice = refl
exact_choice Mul T n values choice = refl
exact_choice Mull T n values choice = refl
exact_choice Mulj T n values choice = refl
exact_choice Shl T n values choice = refl
exact_choice Split T n values choice = refl
exact_choice Join T n values choice = refl
exact_choice Cast T n values choice = refl
exact_choice Vpc T n values choice = refl
exact_choice Cmov T n values choice = refl
exact_choice And T n values choice = refl
exact_choice Or T n values choice = refl
exact_choice Xor T n values choice = refl
exact_choice Not T n values choice = refl
exact_choice Nondet T n values choice = refl
