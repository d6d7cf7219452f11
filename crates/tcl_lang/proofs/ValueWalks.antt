-- What a walk over values rests on: operands and sizes are read from the values and the types alone, and an instruction that
-- was computed anew is executed.
use Rattle.std.proofs.Common.{◌≡◌, ◌≢◌, ℕ, zero, suc, refl, sym, ◌∙◌, ap, subst, arith, ℤ, pos, true, List, [], ◌∷◌, length, get_or, filter_map, Some, None}
use Rattle.std.specs.List.{slice_get}
use Rattle.tcl_lang.specs.declared.outcome.Truth.TheVariants.{Wide}
use Rattle.tcl_lang.specs.declared.ty.Ty.{Ty}
use Rattle.tcl_lang.specs.declared.ty.Word.{Word}
use Rattle.tcl_lang.specs.declared.instr.Atom.{Atom}
use Rattle.tcl_lang.specs.declared.instr.Op.{Op}
use Rattle.tcl_lang.specs.declared.instr.Op.TheVariants.{Mov, Add, Adds, Adc, Adcs, Sub, Subb, Sbb, Sbbs, Mul, Mull, Mulj, Shl, Split, Join, Cast, Vpc, Cmov, And, Or, Xor, Not, Nondet}
use Rattle.tcl_lang.specs.declared.instr.Instr.{Instr}
use Rattle.tcl_lang.specs.declared.term.Term.{Term}
use Rattle.tcl_lang.specs.declared.pred.Line.{Line}
use Rattle.tcl_lang.specs.declared.pred.Line.TheVariants.{Step}
use Rattle.tcl_lang.specs.declared.variable.Variable.{Variable}
use Rattle.tcl_lang.specs.Program.{VersionedProgram}
use Rattle.tcl_lang.specs.Types.{InType}
use Rattle.tcl_lang.specs.Store.{word_at}
use Rattle.tcl_lang.specs.Instruction.{result_count}
use Rattle.tcl_lang.specs.Names.{name_of, used_names}
use Rattle.tcl_lang.specs.Line.{choice_type, values_of}
use Rattle.tcl_lang.specs.Results.{results_of, result_types}
use Rattle.tcl_lang.specs.Run.{operands_of, execute}
use Rattle.tcl_lang.specs.Bound.{size_in, size_of, type_among}
use Rattle.tcl_lang.specs.Narrow.{is_narrow}
use Rattle.tcl_lang.specs.Checked.{computed_in}
use Rattle.tcl_lang.specs.Values.{types_of, words_of, AreValues, operand_values, step_values, keeps_choice, recomputed, computed_of}
use Rattle.tcl_lang.specs.Defined.{is_among}
use Rattle.tcl_lang.specs.Limit.{definitions_before}
use Rattle.tcl_lang.specs.Shape.{is_instruction}
use Rattle.tcl_lang.specs.Executed.{values_at, choice_in, IsExecuted}
use Rattle.tcl_lang.specs.Form.{IsWellFormed}
use Rattle.tcl_lang.proofs.MachineRuns.{types_length}
use Rattle.tcl_lang.proofs.TypedRuns.{line_shape, line_typed, instruction_shape}
use Rattle.tcl_lang.proofs.Versioning.{results_count}
use Rattle.tcl_lang.proofs.Locality.{size_everywhere, values_local}
use Rattle.tcl_lang.proofs.Narrowness.{narrow_told}
use Rattle.tcl_lang.proofs.RunSteps.{line_others, write_wrote}
use Rattle.tcl_lang.proofs.FormEnds.{none_before, same_choice}
use Rattle.tcl_lang.proofs.ValueRuns.{operands_are, made_of}
use Rattle.tcl_lang.proofs.ValueSteps.{values_execute, step_executes, step_keeps_types}

-- operands
pub operands_read : (f : VersionedProgram) (values : List ℤ) (atoms : List Atom) → AreValues f.variables values → values_of (words_of f.variables values) atoms ≡ operand_values values atoms
operands_read f values atoms a =
    sym (operands_are (words_of f.variables values) atoms) ∙ ap (λ ns. operand_values ns atoms) (made_of f.variables values a)

-- sizes
type_is : (vs : List Variable) (values : List ℤ) (x : ℕ) → AreValues vs values → (word_at (words_of vs values) x).ty ≡ type_among (types_of vs) x
type_is [] [] x f = refl
type_is [] (n ∷ values) x f = absurd f
type_is (v ∷ vs) [] x f = absurd f
type_is (v ∷ vs) (n ∷ values) zero f = refl
type_is (v ∷ vs) (n ∷ values) (suc x) f = type_is vs values x f.1

pub size_static : (f : VersionedProgram) (values : List ℤ) (t : Term) → AreValues f.variables values → size_in (words_of f.variables values) t ≡ size_of (types_of f.variables) t
size_static f values t a =
    size_everywhere (type_among (types_of f.variables)) (λ x. (word_at (words_of f.variables values) x).ty) (λ x. type_is f.variables values x a) t

pub narrow_values : (f : VersionedProgram) (values : List ℤ) (k : ℕ) (l : Line) → AreValues f.variables values → slice_get f.lines k ≡ Some l → is_narrow (types_of f.variables) l ≡ true → computed_of f values k ≢ Wide
unfolding computed_of
narrow_values f values k l a at n wide =
    narrow_told (types_of f.variables) (words_of f.variables values) l n (λ j d less. type_is f.variables values (get_or (used_names l) j d) a)
    (sym (ap (computed_in (words_of f.variables values)) at) ∙ wide)

-- the operands of an instruction are not among its results
args_kept : (f : VersionedProgram) (S : List Word) (k : ℕ) (i : Instr) (choice : ℤ) → IsWellFormed f → slice_get f.lines k ≡ Some (Step i) → values_of (execute S i choice) i.args ≡ values_of S i.args
args_kept f S k i choice w at =
    values_local S (execute S i choice) i.args
    (λ j d less. line_others (Step i) choice S (get_or (filter_map name_of i.args) j d)
    (ap (λ names. is_among names (get_or (filter_map name_of i.args) j d)) (w.defines k (Step i) at)
    ∙ none_before (definitions_before f.lines k) (get_or (filter_map name_of i.args) j d) i.outs (w.reads k (Step i) at j d less)))

-- after a step
pub step_executed : (f : VersionedProgram) (values : List ℤ) (k : ℕ) (i : Instr) (choice : ℤ) → IsWellFormed f → AreValues f.variables values → slice_get f.lines k ≡ Some (Step i) → ((T : Ty) → choice_type i.op i.ty ≡ Some T → InType T choice) → IsExecuted (words_of f.variables (step_values values i choice)) i
step_executed f values k i choice w a at c =
    let S = words_of f.variables values in
    let G = execute S i choice in
    let x = values_execute f values k i choice w a at c in
    let operands = operands_of i.op (values_of S i.args) choice in
    let results = results_of i.op i.ty i.amount operands in
    let shape = instruction_shape i x.shape in
    let written : values_at G i.outs ≡ results =
    (write_wrote i.outs (result_types i.op i.ty) results S (line_typed (length f.variables) f.lines k (Step i) w.runnable.typed at).once x.defines
    (shape.outs ∙ sym (types_length i.op i.ty)) (results_count i.op i.ty i.amount operands)).values in
    let executed : IsExecuted G i =
    written ∙ sym (
    ap (λ (ns : List ℤ). results_of i.op i.ty i.amount (operands_of i.op (values_of G i.args) (get_or ns 0 (pos 0)))) written
    ∙ ap (λ (vs : List ℤ). results_of i.op i.ty i.amount (operands_of i.op vs (get_or results 0 (pos 0)))) (args_kept f S k i choice w at)
    ∙ same_choice i.op i.ty i.amount (values_of S i.args) choice) in
    subst (λ (s : List Word). IsExecuted s i) (sym (step_executes f values k i choice w a at c)) executed

-- only a `nondet` takes a choice
abbrev Takes : Op → Ty → ℤ → Type 0
Takes op T choice = (U : Ty) → choice_type op T ≡ Some U → InType U choice

no_choice : (U : Ty) (n : ℤ) → None ≡ Some U → InType U n
no_choice U n e = absurd (cc)

-- a fact of values that were computed anew: of the values themselves at a `nondet`, else of those after the step
anew : (P : List ℤ → Type 0) (op : Op) (T : Ty) (old new : List ℤ) → (op ≡ Nondet → P old) → (Takes op T (pos 0) → P new) → P (keeps_choice op old new)
anew P Nondet T old new p q = p refl
anew P Mov T old new p q = q (λ U e. no_choice U (pos 0) e)
anew P Add T old new p q = q (λ U e. no_choice U (pos 0) e)
anew P Adds T old new p q = q (λ U e. no_choice U (pos 0) e)
anew P Adc T old new p q = q (λ U e. no_choice U (pos 0) e)
anew P Adcs T old new p q = q (λ U e. no_choice U (pos 0) e)
anew P Sub T old new p q = q (λ U e. no_choice U (pos 0) e)
anew P Subb T old new p q = q (λ U e. no_choice U (pos 0) e)
anew P Sbb T old new p q = q (λ U e. no_choice U (pos 0) e)
anew P Sbbs T old new p q = q (λ U e. no_choice U (pos 0) e)
anew P Mul T old new p q = q (λ U e. no_choice U (pos 0) e)
anew P Mull T old new p q = q (λ U e. no_choice U (pos 0) e)
anew P Mulj T old new p q = q (λ U e. no_choice U (pos 0) e)
anew P Shl T old new p q = q (λ U e. no_choice U (pos 0) e)
anew P Split T old new p q = q (λ U e. no_choice U (pos 0) e)
anew P Join T old new p q = q (λ U e. no_choice U (pos 0) e)
anew P Cast T old new p q = q (λ U e. no_choice U (pos 0) e)
anew P Vpc T old new p q = q (λ U e. no_choice U (pos 0) e)
anew P Cmov T old new p q = q (λ U e. no_choice U (pos 0) e)
anew P And T old new p q = q (λ U e. no_choice U (pos 0) e)
anew P Or T old new p q = q (λ U e. no_choice U (pos 0) e)
anew P Xor T old new p q = q (λ U e. no_choice U (pos 0) e)
anew P Not T old new p q = q (λ U e. no_choice U (pos 0) e)

-- a `nondet` is executed at any values
choice_is : (S : List Word) (outs : List ℕ) → length outs ≡ 1 → values_at S outs ≡ choice_in S outs ∷ []
choice_is S [] e = absurd (omega arith)
choice_is S (x ∷ []) e = refl
choice_is S (x ∷ y ∷ outs) e = absurd (omega arith)

nondet_executed : (S : List Word) (op : Op) (T : Ty) (n : ℕ) (outs : List ℕ) (args : List Atom) → op ≡ Nondet → length outs ≡ result_count op → values_at S outs ≡ results_of op T n (operands_of op (values_of S args) (choice_in S outs))
nondet_executed S op T n outs args e c =
    choice_is S outs (c ∙ ap result_count e) ∙ ap (λ o. results_of o T n (operands_of o (values_of S args) (choice_in S outs))) (sym e)

pub recomputed_typed : (f : VersionedProgram) (values : List ℤ) (k : ℕ) (i : Instr) → IsWellFormed f → AreValues f.variables values → slice_get f.lines k ≡ Some (Step i) → AreValues f.variables (recomputed values i)
recomputed_typed f values k i w a at =
    anew (λ ns. AreValues f.variables ns) i.op i.ty values (step_values values i (pos 0)) (λ e. a) (λ c. step_keeps_types f values k i (pos 0) w a at c)

pub recomputed_executed : (f : VersionedProgram) (values : List ℤ) (k : ℕ) (i : Instr) → IsWellFormed f → AreValues f.variables values → slice_get f.lines k ≡ Some (Step i) → IsExecuted (words_of f.variables (recomputed values i)) i
recomputed_executed f values k i w a at =
    anew (λ ns. IsExecuted (words_of f.variables ns) i) i.op i.ty values (step_values values i (pos 0))
    (λ e. nondet_executed (words_of f.variables values) i.op i.ty i.amount i.outs i.args e (outs_count (line_shape (length f.variables) f.lines k (Step i) w.runnable at)))
    (λ c. step_executed f values k i (pos 0) w a at c)
  where
    outs_count : is_instruction i ≡ true → length i.outs ≡ result_count i.op
    outs_count s = (instruction_shape i s).outs
