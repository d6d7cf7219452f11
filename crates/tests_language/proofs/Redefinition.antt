-- A program of two lines that defines its one name again, at another type, can be run.
use Rattle.std.proofs.Common.{◌≡◌, ℕ, zero, suc, ◌<◌, refl, sym, subst, arith, false, true, List, [], ◌∷◌, Some}
use Rattle.std.specs.List.{slice_get, All}
use Rattle.tcl_lang.specs.declared.instr.Atom.{Atom}
use Rattle.tcl_lang.specs.declared.instr.Atom.TheVariants.{Var}
use Rattle.tcl_lang.specs.declared.instr.Op.TheVariants.{Cast}
use Rattle.tcl_lang.specs.declared.pred.Line.{Line}
use Rattle.tcl_lang.specs.declared.pred.Line.TheVariants.{Input, Step}
use Rattle.tcl_lang.specs.declared.ty.Ty.{Ty}
use Rattle.tcl_lang.specs.Names.{occurrences}
use Rattle.tcl_lang.specs.Typing.{types_at, reason_of, reason_at, IsWellTyped}
use Rattle.tcl_lang.specs.Execution.{IsRunnable}

abbrev u8 : Ty
u8 = record { signed = false; width = 8 }

abbrev s8 : Ty
s8 = record { signed = true; width = 8 }

abbrev pub redefinition : List ℕ → List Atom → List Line
redefinition outs args = Input u8 0 ∷ Step (record { op = Cast; ty = s8; outs = outs; args = args; amount = 0 }) ∷ []

abbrev once : List Line
once = redefinition (0 ∷ []) (Var 0 ∷ [])

line_same : (m l : Line) → Some m ≡ Some l → m ≡ l
line_same m l e = cc

first_names : All (λ name. name < 1) (occurrences (Input u8 0))
first_names zero d h = omega arith
first_names (suc k) d h = absurd (omega arith)

second_names : All (λ name. name < 1) (occurrences (Step (record { op = Cast; ty = s8; outs = 0 ∷ []; args = Var 0 ∷ []; amount = 0 })))
second_names zero d h = omega arith
second_names (suc zero) d h = omega arith
second_names (suc (suc k)) d h = absurd (omega arith)

named : (k : ℕ) (l : Line) → slice_get once k ≡ Some l → All (λ name. name < 1) (occurrences l)
named zero l e = subst (λ x. All (λ name. name < 1) (occurrences x)) (line_same _ l e) first_names
named (suc zero) l e = subst (λ x. All (λ name. name < 1) (occurrences x)) (line_same _ l e) second_names
named (suc (suc k)) l e = absurd (cc)

typed : IsWellTyped 1 once
unfolding IsWellTyped types_at reason_of reason_at
typed zero h = refl
typed (suc zero) h = refl
typed (suc (suc k)) h = absurd (omega arith)

once_runs : IsRunnable 1 once
once_runs = record { shapes = refl; named = named; typed = typed }

pub redefinition_runs : (outs : List ℕ) (args : List Atom) → outs ≡ 0 ∷ [] → args ≡ Var 0 ∷ [] → IsRunnable 1 (redefinition outs args)
redefinition_runs outs args e f =
    let first : IsRunnable 1 (redefinition outs (Var 0 ∷ [])) = subst (λ (xs : List ℕ). IsRunnable 1 (redefinition xs (Var 0 ∷ []))) (sym e) once_runs in
    subst (λ (xs : List Atom). IsRunnable 1 (redefinition outs xs)) (sym f) first
