-- The variables of an instruction's results have the types of the results.
use Rattle.std.proofs.Common.{◌≡◌, ℕ, zero, suc, ◌+◌, ◌<◌, ◌≤◌, refl, sym, ◌∙◌, ap, subst, arith, List, [], ◌∷◌, set, length, Option, Some}
use Rattle.std.specs.List.{slice_get}
use Rattle.std.proofs.lemmas.List.{length-set}
use Rattle.std.proofs.lemmas.Option.{slice_get_within, get_or_from_slice_get}
use Rattle.tcl_lang.specs.declared.ty.Ty.{Ty}
use Rattle.tcl_lang.specs.declared.instr.Op.{Op}
use Rattle.tcl_lang.specs.declared.instr.Op.TheVariants.{Mov, Add, Adds, Adc, Adcs, Sub, Subb, Sbb, Sbbs, Mul, Mull, Mulj, Shl, Split, Join, Cast, Vpc, Cmov, And, Or, Xor, Not, Nondet}
use Rattle.tcl_lang.specs.declared.instr.Instr.{Instr}
use Rattle.tcl_lang.specs.declared.pred.Line.TheVariants.{Step}
use Rattle.tcl_lang.specs.Instruction.{result_count}
use Rattle.tcl_lang.specs.Results.{result_types}
use Rattle.tcl_lang.specs.Typing.{type_at, types_at, types_after, define_all}
use Rattle.tcl_lang.specs.Versions.{numbers_from}
use Rattle.tcl_lang.specs.Limit.{definitions_before}
use Rattle.tcl_lang.specs.Values.{types_of}
use Rattle.tcl_lang.specs.Program.{VersionedProgram}
use Rattle.tcl_lang.specs.Form.{IsWellFormed}
use Rattle.tcl_lang.proofs.TypedRuns.{line_shape, instruction_shape}
use Rattle.tcl_lang.proofs.Definitions.{definitions_within}
use Rattle.tcl_lang.proofs.FormRuns.{types_go}
use Rattle.tcl_lang.proofs.ValueSteps.{types_count, first_types}

-- these names have these types, one each
abbrev pub HaveTypes : (ℕ → Option Ty) → List ℕ → List Ty → Type 0
HaveTypes at [] [] = Unit {0}
HaveTypes at [] (T ∷ Ts) = ⊥
HaveTypes at (v ∷ names) [] = ⊥
HaveTypes at (v ∷ names) (T ∷ Ts) = (at v ≡ Some T) × HaveTypes at names Ts

have_same : (f g : ℕ → Option Ty) (names : List ℕ) (Ts : List Ty) → ((v : ℕ) (T : Ty) → f v ≡ Some T → g v ≡ Some T) → HaveTypes f names Ts → HaveTypes g names Ts
have_same f g [] [] h p = tt
have_same f g [] (T ∷ Ts) h p = absurd p
have_same f g (v ∷ names) [] h p = absurd p
have_same f g (v ∷ names) (T ∷ Ts) h p = (h v T p.0, have_same f g names Ts h p.1)

-- a definition
set_here : (types : List (Option Ty)) (v : ℕ) (T : Ty) → v < length types → type_at (set types v (Some T)) v ≡ Some T
set_here [] v T h = absurd (omega arith)
set_here (t ∷ types) zero T h = refl
set_here (t ∷ types) (suc v) T h = set_here types v T (omega arith)

set_other : (types : List (Option Ty)) (u v : ℕ) (T : Ty) → v < u → type_at (set types u (Some T)) v ≡ type_at types v
set_other [] u v T h = refl
set_other (t ∷ types) zero v T h = absurd (omega arith)
set_other (t ∷ types) (suc u) zero T h = refl
set_other (t ∷ types) (suc u) (suc v) T h = set_other types u v T (omega arith)

-- definitions of the numbers from m on
defined_below : (types : List (Option Ty)) (m v : ℕ) (outs : List ℕ) (Ts : List Ty) → v < m → type_at (define_all types (numbers_from m outs) Ts) v ≡ type_at types v
defined_below types m v [] Ts h = refl
defined_below types m v (x ∷ outs) [] h = refl
defined_below types m v (x ∷ outs) (T ∷ Ts) h =
    defined_below (set types m (Some T)) (m + 1) v outs Ts (omega arith) ∙ set_other types m v T h

defined_types : (types : List (Option Ty)) (m : ℕ) (outs : List ℕ) (Ts : List Ty) → length outs ≡ length Ts → m + length outs ≤ length types → HaveTypes (type_at (define_all types (numbers_from m outs) Ts)) (numbers_from m outs) Ts
defined_types types m [] [] e h = tt
defined_types types m [] (T ∷ Ts) e h = absurd (omega (arith, e))
defined_types types m (x ∷ outs) [] e h = absurd (omega (arith, e))
defined_types types m (x ∷ outs) (T ∷ Ts) e h = (
  defined_below (set types m (Some T)) (m + 1) m outs Ts (omega arith) ∙ set_here types m T (omega arith),
  defined_types (set types m (Some T)) (m + 1) outs Ts (omega (arith, e)) (omega (arith, h, length-set types m (Some T))),
)

-- there are as many types as results
count_types : (op : Op) (T : Ty) → length (result_types op T) ≡ result_count op
count_types Adds T = refl
count_types Adcs T = refl
count_types Subb T = refl
count_types Sbbs T = refl
count_types Mull T = refl
count_types Mulj T = refl
count_types Split T = refl
count_types Join T = refl
count_types Mov T = refl
count_types Add T = refl
count_types Adc T = refl
count_types Sub T = refl
count_types Sbb T = refl
count_types Mul T = refl
count_types Shl T = refl
count_types Cast T = refl
count_types Vpc T = refl
count_types Cmov T = refl
count_types And T = refl
count_types Or T = refl
count_types Xor T = refl
count_types Not T = refl
count_types Nondet T = refl

pub results_typed : (p : VersionedProgram) (k : ℕ) (i : Instr) → IsWellFormed p → slice_get p.lines k ≡ Some (Step i) → HaveTypes (slice_get (types_of p.variables)) i.outs (result_types i.op i.ty)
results_typed p k i w at =
    let M = length p.variables in
    let d = definitions_before p.lines k in
    let outs : i.outs ≡ numbers_from d i.outs = w.defines k (Step i) at in
    let within : k < length p.lines = slice_get_within p.lines k (Step i) at in
    let shape = instruction_shape i (line_shape M p.lines k (Step i) w.runnable at) in
    let types = types_at M p.lines k in
    let room = definitions_within p.lines k d (length i.outs) (Step i) (Step i) within refl (sym (get_or_from_slice_get p.lines k (Step i) (Step i) at)) refl in
    let made = defined_types types d i.outs (result_types i.op i.ty) (shape.outs ∙ sym (count_types i.op i.ty)) (omega (arith, room, w.count, types_count M p.lines k)) in
    let is : types_at M p.lines (suc k) ≡ define_all types (numbers_from d i.outs) (result_types i.op i.ty) =
    types_go M p.lines k ∙ ap (types_after types) at ∙ ap (λ names. define_all types names (result_types i.op i.ty)) outs in
    subst (λ (names : List ℕ). HaveTypes (slice_get (types_of p.variables)) names (result_types i.op i.ty)) (sym outs)
    (have_same (type_at (define_all types (numbers_from d i.outs) (result_types i.op i.ty))) (slice_get (types_of p.variables)) (numbers_from d i.outs) (result_types i.op i.ty)
    (λ v T e. first_types (definitions_before p.lines (suc k)) p.variables v T (sym (w.types (suc k) v (omega (arith, within))) ∙ ap (λ (Ts : List (Option Ty)). type_at Ts v) is ∙ e))
    made)
