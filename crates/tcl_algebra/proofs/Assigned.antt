-- What an assignment of a fact knows of its instructions, its lines and its variables.
use Rattle.std.proofs.Common.{◌≡◌, ℕ, zero, suc, ◌++◌, ◌^◌, ◌<◌, ◌≤◌, refl, sym, ◌∙◌, subst, arith, ℤ, pos, true, false, nat_lt, List, [], ◌∷◌, length, filter_map, Option, Some, None}
use Rattle.std.specs.Prelude.{All}
use Rattle.std.specs.List.{list_all, slice_get}
use Rattle.std.proofs.lemmas.Bool.{and_parts, and_from, lt-ltb, not-false}
use Rattle.tcl_lang.specs.declared.ty.Ty.{Ty}
use Rattle.tcl_lang.specs.declared.instr.Atom.{Atom}
use Rattle.tcl_lang.specs.declared.instr.Atom.TheVariants as atom
use Rattle.tcl_lang.specs.declared.instr.Op.{Op}
use Rattle.tcl_lang.specs.declared.instr.Op.TheVariants.{Nondet}
use Rattle.tcl_lang.specs.declared.instr.Instr.{Instr}
use Rattle.tcl_lang.specs.declared.pred.Pred.{Pred}
use Rattle.tcl_lang.specs.declared.pred.Line.{Line}
use Rattle.tcl_lang.specs.declared.pred.Line.TheVariants.{Input, Pre, Step, Assert, Assume, Cut, Post}
use Rattle.tcl_lang.specs.declared.variable.Variable.{Variable}
use Rattle.tcl_lang.specs.Program.{VersionedProgram}
use Rattle.tcl_lang.specs.Types.{InType}
use Rattle.tcl_lang.specs.Store.{word_at}
use Rattle.tcl_lang.specs.Names.{name_of, predicate_names, used_names, defined_names}
use Rattle.tcl_lang.specs.Instruction.{nth}
use Rattle.tcl_lang.specs.Operands.{IsExecutable}
use Rattle.tcl_lang.specs.Line.{values_of, choice_type}
use Rattle.tcl_lang.specs.Typing.{is_sound_literal}
use Rattle.tcl_lang.specs.Executed.{IsExecutedAt}
use Rattle.tcl_lang.specs.Form.{IsWellFormed}
use Rattle.tcl_lang.specs.Values.{AreValues, words_of}
use Rattle.tcl_lang.proofs.FormFacts.{zero_in}
use Rattle.tcl_lang.proofs.TypedStores.{is_in_type_sound}
use Rattle.tcl_lang.proofs.TypedRuns.{line_typed, all_left, all_right}
use Rattle.tcl_lang.proofs.ValueSteps.{values_execute}
use Rattle.tcl_goals.specs.declared.fact.Fact.{Fact}
use Rattle.tcl_goals.specs.declared.lemma.Numbered.{Numbered}
use Rattle.tcl_goals.specs.Assignments.{Assigns, hyp_of}
use Rattle.tcl_term_poly.specs.TermPolynomial.{are_narrow}
use Rattle.tcl_algebra.specs.Row.{atom_at, term_of, type_in, type_of, is_nondet}
use Rattle.tcl_algebra.specs.Equations.{predicate_in}
use Rattle.tcl_algebra.proofs.RowNames.{narrow_var, narrow_num}
use Rattle.tcl_algebra.proofs.DefinitionsVanish.{IsStep, plain_operands}
use Rattle.tcl_algebra.proofs.Stores.{hyps_same}
use Rattle.tcl_algebra.proofs.AllEquations.{IsMet}

-- a variable has a value of its type, 0 where there is none
operand_typed : (vs : List Variable) (ns : List ℤ) (u : ℕ) → AreValues vs ns → InType (type_in (slice_get vs u)) (word_at (words_of vs ns) u).value
operand_typed [] [] u f = zero_in false 1
operand_typed [] (n ∷ ns) u f = absurd f
operand_typed (v ∷ vs) [] u f = absurd f
operand_typed (v ∷ vs) (n ∷ ns) zero f = f.0
operand_typed (v ∷ vs) (n ∷ ns) (suc u) f = operand_typed vs ns u f.1

variable_typed : (vs : List Variable) (ns : List ℤ) → AreValues vs ns → (u : ℕ) (w : Variable) → slice_get vs u ≡ Some w → InType w.ty (word_at (words_of vs ns) u).value
variable_typed vs ns f u w e = subst (λ o. InType (type_in o) (word_at (words_of vs ns) u).value) e (operand_typed vs ns u f)

-- the first operand is a value of its type
source_typed : (vs : List Variable) (values : List ℤ) (atoms : List Atom) → AreValues vs values → list_all is_sound_literal atoms ≡ true → InType (type_of vs (atom_at atoms 0)) (nth (values_of (words_of vs values) atoms) 0)
source_typed vs values [] f e = zero_in false 1
source_typed vs values (atom.Var x ∷ atoms) f e = operand_typed vs values x f
source_typed vs values (atom.Lit T n ∷ atoms) f e = is_in_type_sound T n (and_parts _ _ e).0

-- numbers below the number of variables are small
small_all : (n : ℕ) (vs : List ℕ) → n ≤ 2 ^ 32 → All (λ v. v < n) vs → list_all (λ v. nat_lt v (2 ^ 32)) vs ≡ true
small_all n [] h a = refl
small_all n (v ∷ vs) h a =
    let first : v < n = a 0 v (omega arith) in
    and_from _ _ (lt-ltb v (2 ^ 32) (omega (arith, first, h))) (small_all n vs h (λ k d less. a (suc k) d (omega arith)))

-- operands with small numbers
atom_small : (atoms : List Atom) (k : ℕ) → list_all (λ v. nat_lt v (2 ^ 32)) (filter_map name_of atoms) ≡ true → are_narrow (term_of (atom_at atoms k)) ≡ true
atom_small [] k e = narrow_num (pos 0)
atom_small (atom.Var v ∷ atoms) zero e = narrow_var v (and_parts _ _ e).0
atom_small (atom.Lit T n ∷ atoms) zero e = narrow_num n
atom_small (atom.Var v ∷ atoms) (suc k) e = atom_small atoms k (and_parts _ _ e).1
atom_small (atom.Lit T n ∷ atoms) (suc k) e = atom_small atoms k e

-- an instruction that takes no value can be executed at any values in their types
no_choice : (op : Op) (T U : Ty) → is_nondet op ≡ false → choice_type op T ≡ Some U → ⊥
no_choice Nondet T U e f = cc
no_choice _ T U e f = cc

can_execute : (p : VersionedProgram) (values : List ℤ) (k : ℕ) (i : Instr) → IsWellFormed p → AreValues p.variables values → slice_get p.lines k ≡ Some (Step i) → is_nondet i.op ≡ false → IsExecutable i.op i.ty i.amount (values_of (words_of p.variables values) i.args)
can_execute p values k i w a at e =
    subst (IsExecutable i.op i.ty i.amount) (plain_operands i.op (values_of (words_of p.variables values) i.args) (pos 0) e)
    (values_execute p values k i (pos 0) w a at (λ U f. absurd (no_choice i.op i.ty U e f))).operands

step_met : (p : VersionedProgram) (values : List ℤ) (k : ℕ) (i : Instr) → IsWellFormed p → AreValues p.variables values → slice_get p.lines k ≡ Some (Step i) → IsExecutedAt (words_of p.variables values) (Some (Step i)) → IsStep p.variables (words_of p.variables values) i
step_met p values k i w a at done =
    let named : All (λ v. v < length p.variables) (defined_names (Step i) ++ used_names (Step i)) = w.runnable.named k (Step i) at in
    let few : length p.variables ≤ 2 ^ 32 = omega (arith, w.few_variables) in
    let reads = small_all (length p.variables) (used_names (Step i)) few (all_right (λ v. v < length p.variables) (defined_names (Step i)) (used_names (Step i)) named) in
    let no = line_typed (length p.variables) p.lines k (Step i) w.runnable.typed at in
    record {
      executable = λ plain. can_execute p values k i w a at plain;
      executed = done;
      outs = small_all (length p.variables) i.outs few (all_left (λ v. v < length p.variables) (defined_names (Step i)) (used_names (Step i)) named);
      first = atom_small i.args 0 reads;
      second = atom_small i.args 1 reads;
      third = atom_small i.args 2 reads;
      source = source_typed p.variables values i.args a (not-false (list_all is_sound_literal i.args) no.literals);
    }

-- a predicate names what its line reads
stated : (p q : Pred) → Some p ≡ Some q → list_all (λ v. nat_lt v (2 ^ 32)) (predicate_names p) ≡ true → list_all (λ v. nat_lt v (2 ^ 32)) (predicate_names q) ≡ true
stated p q e h = subst (λ (g : Pred). list_all (λ v. nat_lt v (2 ^ 32)) (predicate_names g) ≡ true) (same p q e) h
  where
    same : (p q : Pred) → Some p ≡ Some q → p ≡ q
    same p q e = cc

predicate_small : (l : Line) (p : Pred) → predicate_in (Some l) ≡ Some p → list_all (λ v. nat_lt v (2 ^ 32)) (used_names l) ≡ true → list_all (λ v. nat_lt v (2 ^ 32)) (predicate_names p) ≡ true
predicate_small (Input T x) p e h = absurd (cc)
predicate_small (Pre q) p e h = stated q p e h
predicate_small (Step i) p e h = absurd (cc)
predicate_small (Assert q) p e h = stated q p e h
predicate_small (Assume q) p e h = stated q p e h
predicate_small (Cut q) p e h = stated q p e h
predicate_small (Post q) p e h = stated q p e h

line_small : (p : VersionedProgram) (k : ℕ) (o : Option Line) (q : Pred) → IsWellFormed p → slice_get p.lines k ≡ o → predicate_in o ≡ Some q → list_all (λ v. nat_lt v (2 ^ 32)) (predicate_names q) ≡ true
line_small p k None q w at e = absurd (cc)
line_small p k (Some l) q w at e =
    predicate_small l q e
    (small_all (length p.variables) (used_names l) (omega (arith, w.few_variables))
    (all_right (λ v. v < length p.variables) (defined_names l) (used_names l) (w.runnable.named k l at)))

pub assignment_met : (p : VersionedProgram) (lemmas : List Numbered) (fact : Fact) (values : List ℤ) → IsWellFormed p → Assigns p fact values → list_all (hyp_of p lemmas values) fact.hyps ≡ true → IsMet p lemmas fact (words_of p.variables values)
assignment_met p lemmas fact values w assigns hyps = record {
  few = omega (arith, w.few_variables);
  typed = λ v x e. variable_typed p.variables values assigns.typed v x e;
  steps = λ n k i used e. step_met p values k i w assigns.typed e (subst (λ (o : Option Line). IsExecutedAt (words_of p.variables values) o) e (assigns.executed n k used));
  narrow = λ k q e. line_small p k (slice_get p.lines k) q w refl e;
  hyps = sym (hyps_same p lemmas values fact.hyps) ∙ hyps;
}
