-- In a run over values each variable has a value of its type before every line, 0 until it is defined.
use Rattle.std.proofs.Common.{◌≡◌, ℕ, zero, suc, ◌<◌, refl, sym, ◌∙◌, ap, subst, arith, ℤ, pos, List, [], ◌∷◌, length, get_or, set, replicate, Option, Some, None}
use Rattle.std.specs.List.{slice_get}
use Rattle.std.proofs.lemmas.List.{get_or-set_same}
use Rattle.std.proofs.lemmas.Option.{slice_get_within}
use Rattle.tcl_lang.specs.declared.ty.Ty.{Ty}
use Rattle.tcl_lang.specs.declared.pred.Line.{Line}
use Rattle.tcl_lang.specs.declared.pred.Line.TheVariants.{Input, Pre, Step, Assert, Assume, Cut, Post}
use Rattle.tcl_lang.specs.declared.variable.Variable.{Variable}
use Rattle.tcl_lang.specs.Program.{VersionedProgram}
use Rattle.tcl_lang.specs.Types.{InType}
use Rattle.tcl_lang.specs.Run.{Fits, taken_types, taken_before}
use Rattle.tcl_lang.specs.Typing.{type_at, types_at, types_after}
use Rattle.tcl_lang.specs.Values.{types_of, AreValues, values_after, values_before}
use Rattle.tcl_lang.specs.Limit.{definitions_before}
use Rattle.tcl_lang.specs.Form.{IsWellFormed}
use Rattle.tcl_lang.proofs.TypedStores.{type_is}
use Rattle.tcl_lang.proofs.TypedRuns.{taken_fits}
use Rattle.tcl_lang.proofs.FormRuns.{types_go}
use Rattle.tcl_lang.proofs.FormFacts.{zero_in}
use Rattle.tcl_lang.proofs.ValueRuns.{values_begin, values_go}
use Rattle.tcl_lang.proofs.ValueSteps.{first_types, types_count, step_keeps_types}

zeros_typed : (vs : List Variable) → AreValues vs (replicate (length vs) (pos 0))
zeros_typed [] = tt
zeros_typed (v ∷ vs) = (zero_in v.ty.signed v.ty.width, zeros_typed vs)

set_typed : (vs : List Variable) (values : List ℤ) (v : ℕ) (T : Ty) (n : ℤ) → AreValues vs values → slice_get (types_of vs) v ≡ Some T → InType T n → AreValues vs (set values v n)
set_typed [] [] v T n f e i = tt
set_typed [] (m ∷ values) v T n f e i = absurd f
set_typed (x ∷ vs) [] v T n f e i = absurd f
set_typed (x ∷ vs) (m ∷ values) zero T n f e i = (subst (λ (U : Ty). InType U n) (sym (same x.ty T e)) i, f.1)
  where
    same : (a b : Ty) → Some a ≡ Some b → a ≡ b
    same a b e = cc
set_typed (x ∷ vs) (m ∷ values) (suc v) T n f e i = (f.0, set_typed vs values v T n f.1 e i)

-- the variable of an `in` line has the type that the line states
input_type : (f : VersionedProgram) (k v : ℕ) (T : Ty) → IsWellFormed f → slice_get f.lines k ≡ Some (Input T v) → slice_get (types_of f.variables) v ≡ Some T
input_type f k v T w at =
    let M = length f.variables in
    let types = types_at M f.lines k in
    let small : v < length types = omega (arith, w.runnable.named k (Input T v) at 0 0 (omega arith), types_count M f.lines k) in
    let next : types_at M f.lines (suc k) ≡ set types v (Some T) = types_go M f.lines k ∙ ap (types_after types) at in
    let here : type_at (types_at M f.lines (suc k)) v ≡ Some T =
    ap (λ (Ts : List (Option Ty)). type_at Ts v) next ∙ type_is (set types v (Some T)) v ∙ get_or-set_same types v (Some T) None small in
    first_types (definitions_before f.lines (suc k)) f.variables v T (sym (w.types (suc k) v (omega (arith, slice_get_within f.lines k (Input T v) at))) ∙ here)

after_typed : (f : VersionedProgram) (input values : List ℤ) (k : ℕ) (l : Line) → IsWellFormed f → Fits (taken_types f.lines) input → slice_get f.lines k ≡ Some l → AreValues f.variables values → AreValues f.variables (values_after (Some l) (get_or input (taken_before f.lines k) (pos 0)) values)
after_typed f input values k (Input T v) w fits at a = set_typed f.variables values v T _ a (input_type f k v T w at) (taken_fits f.lines input k (Input T v) T fits at refl)
after_typed f input values k (Pre p) w fits at a = a
after_typed f input values k (Step i) w fits at a = step_keeps_types f values k i (get_or input (taken_before f.lines k) (pos 0)) w a at (λ T e. taken_fits f.lines input k (Step i) T fits at e)
after_typed f input values k (Assert p) w fits at a = a
after_typed f input values k (Assume p) w fits at a = a
after_typed f input values k (Cut p) w fits at a = a
after_typed f input values k (Post p) w fits at a = a

pub runs_are_values : (f : VersionedProgram) (input : List ℤ) (k : ℕ) → IsWellFormed f → Fits (taken_types f.lines) input → AreValues f.variables (values_before (length f.variables) f.lines input k)
runs_are_values f input zero w fits =
    subst (λ ns. AreValues f.variables ns) (sym (values_begin (length f.variables) f.lines input)) (zeros_typed f.variables)
runs_are_values f input (suc k) w fits =
    subst (λ ns. AreValues f.variables ns) (sym (values_go (length f.variables) f.lines input k))
    (next (slice_get f.lines k) refl (runs_are_values f input k w fits))
  where
    next : (o : Option Line) → slice_get f.lines k ≡ o → AreValues f.variables (values_before (length f.variables) f.lines input k) → AreValues f.variables (values_after o (get_or input (taken_before f.lines k) (pos 0)) (values_before (length f.variables) f.lines input k))
    next None e a = a
    next (Some l) e a = after_typed f input (values_before (length f.variables) f.lines input k) k l w fits e a
