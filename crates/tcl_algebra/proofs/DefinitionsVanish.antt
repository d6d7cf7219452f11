-- The equation of each definition is 0 in an assignment that meets the hypotheses.
use Rattle.std.proofs.Common.{◌≡◌, ℕ, zero, suc, ◌-◌, ◌^◌, ◌<◌, refl, sym, ◌∙◌, ap, subst, arith, ℤ, pos, ◌-ℤ◌, ◌*ℤ◌, Bool, true, false, not, ◌&&◌, if◌then◌else◌, nat_lt, List, [], ◌∷◌, length, get_or, Option, Some, None, IfSome}
use Rattle.std.specs.List.{list_all}
use Rattle.std.proofs.lemmas.Int.{ints}
use Rattle.std.proofs.lemmas.Bool.{and_parts}
use Rattle.std.proofs.lemmas.List.{length-map}
use Rattle.tcl_num.specs.Congruence.{Congruent}
use Rattle.tcl_ring.specs.Reduction.{IsReduction, reduced_by, IsModulus, is_wide}
use Rattle.tcl_ring.proofs.Reductions.{is_reduction}
use Rattle.tcl_poly.specs.Unknown.{variable_key}
use Rattle.tcl_poly.specs.Polynomial.{value_of}
use Rattle.tcl_reduce.specs.Reduction.{Definition, equation_of}
use Rattle.tcl_lang.specs.declared.ty.Ty.{Ty}
use Rattle.tcl_lang.specs.declared.ty.Word.{Word}
use Rattle.tcl_lang.specs.declared.instr.Atom.{Atom}
use Rattle.tcl_lang.specs.declared.instr.Op.{Op}
use Rattle.tcl_lang.specs.declared.instr.Op.TheVariants.{Adds, Adcs, Subb, Sbbs, Mull, Split, Cast, Nondet}
use Rattle.tcl_lang.specs.declared.instr.Instr.{Instr}
use Rattle.tcl_lang.specs.declared.term.Term.{Term}
use Rattle.tcl_lang.specs.declared.term.Term as plain_term
use Rattle.tcl_lang.specs.declared.pred.Line.TheVariants.{Step}
use Rattle.tcl_lang.specs.declared.variable.Variable.{Variable}
use Rattle.tcl_lang.specs.Types.{InType}
use Rattle.tcl_lang.specs.Store.{word_at, word_of}
use Rattle.tcl_lang.specs.Instruction.{Executes, Relates, result_count, nth}
use Rattle.tcl_lang.specs.Results.{results_of}
use Rattle.tcl_lang.specs.Exactness.{is_exact}
use Rattle.tcl_lang.specs.Operands.{IsExecutable}
use Rattle.tcl_lang.specs.Line.{values_of}
use Rattle.tcl_lang.specs.Run.{operands_of}
use Rattle.tcl_lang.specs.Term.{term_value}
use Rattle.tcl_lang.proofs.StepLaw.{step_agrees}
use Rattle.tcl_lang.specs.Executed.{values_at, choice_in, IsExecuted}
use Rattle.tcl_term_poly.specs.Point.{point_of}
use Rattle.tcl_term_poly.specs.TermPolynomial.{difference_of, variable_of, polynomial_of, less_multiple, are_narrow}
use Rattle.tcl_algebra.specs.Row.{atom_at, term_of, row_term, instruction_term, last_of, type_of, may_lose, has_quotient, is_nondet, counts}
use Rattle.tcl_algebra.specs.Equations.{definition_polynomial, definition_norm, definition_by, definition_in}
use Rattle.tcl_term_poly.proofs.TermValues.{value_variable, value_difference, value_less_multiple, term_valued}
use Rattle.tcl_algebra.proofs.TermForms.{value_var, operand_value}
use Rattle.tcl_algebra.proofs.RowsHold.{last_value, row_holds}
use Rattle.tcl_algebra.proofs.RowNames.{narrow_var, row_narrow}
use Rattle.tcl_algebra.proofs.Quotients.{IsQuotient}

-- what an assignment knows of an instruction
pub record IsStep (variables : List Variable) (store : List Word) (i : Instr) : Type 0 where
  pub executable : is_nondet i.op ≡ false → IsExecutable i.op i.ty i.amount (values_of store i.args)
  pub executed : IsExecuted store i
  pub outs : list_all (λ v. nat_lt v (2 ^ 32)) i.outs ≡ true
  pub first : are_narrow (term_of (atom_at i.args 0)) ≡ true
  pub second : are_narrow (term_of (atom_at i.args 1)) ≡ true
  pub third : are_narrow (term_of (atom_at i.args 2)) ≡ true
  pub source : InType (type_of variables (atom_at i.args 0)) (nth (values_of store i.args) 0)

-- an operand's value
nth_value : (store : List Word) (atoms : List Atom) (k : ℕ) → term_value store (term_of (atom_at atoms k)) ≡ nth (values_of store atoms) k
nth_value store atoms k = operand_value store (atom_at atoms k) ∙ at atoms k
  where
    at : (atoms : List Atom) (k : ℕ) → (word_of store (atom_at atoms k)).value ≡ nth (values_of store atoms) k
    at [] k = refl
    at (a ∷ atoms) zero = refl
    at (a ∷ atoms) (suc k) = at atoms k

-- the value of result k
nth_result : (store : List Word) (outs : List ℕ) (k : ℕ) → k < length outs → (word_at store (get_or outs k 0)).value ≡ nth (values_at store outs) k
nth_result store [] k h = absurd (omega arith)
nth_result store (v ∷ outs) zero h = refl
nth_result store (v ∷ outs) (suc k) h = nth_result store outs k (omega arith)

nth_narrow : (outs : List ℕ) (k : ℕ) → k < length outs → list_all (λ v. nat_lt v (2 ^ 32)) outs ≡ true → nat_lt (get_or outs k 0) (2 ^ 32) ≡ true
nth_narrow [] k h e = absurd (omega arith)
nth_narrow (v ∷ outs) zero h e = (and_parts _ _ e).0
nth_narrow (v ∷ outs) (suc k) h e = nth_narrow outs k (omega arith) (and_parts _ _ e).1

-- the last of as many results as the row has
last_is : (op : Op) (results : List ℤ) → nth results (result_count op - 1) ≡ last_value op (nth results 0) (nth results 1)
last_is Adds results = refl
last_is Adcs results = refl
last_is Subb results = refl
last_is Sbbs results = refl
last_is Mull results = refl
last_is Split results = refl
last_is _ results = refl

some_result : (op : Op) → 0 < result_count op
some_result Adds = omega arith
some_result Adcs = omega arith
some_result Subb = omega arith
some_result Sbbs = omega arith
some_result Mull = omega arith
some_result Split = omega arith
some_result _ = omega arith

-- only a `nondet` takes a choice, and it has no equation
pub plain_operands : (op : Op) (values : List ℤ) (choice : ℤ) → is_nondet op ≡ false → operands_of op values choice ≡ values
plain_operands Nondet values choice e = absurd (cc)
plain_operands _ values choice e = refl

no_term : (op : Op) (T : Ty) (n : ℕ) (a b c h : Term) (P : Term → Type 0) → is_nondet op ≡ true → IfSome (row_term op T n a b c h) P
no_term Nondet T n a b c h P e = tt
no_term _ T n a b c h P e = absurd (cc)

-- only a cast may lose bits
loses : (store : List Word) (op : Op) (T U : Ty) (n : ℕ) (values : List ℤ) (a b c h : Term) (x y : ℤ) → may_lose op T U ≡ true → Relates op T n (nth values 0) (nth values 1) (nth values 2) x y → IfSome (row_term op T n a b c h) (λ t. term_value store t ≡ term_value store a) × Congruent (pos (2 ^ T.width)) (last_value op x y) (nth values 0)
loses store Cast T U n values a b c h x y e r = (refl, r.congruent)
loses store _ T U n values a b c h x y e r = absurd (cc)

loses_plain : (op : Op) (T U : Ty) → may_lose op T U ≡ true → is_nondet op ≡ false
loses_plain Cast T U e = refl
loses_plain _ T U e = absurd (cc)

weaken : {X : Type 0} (o : Option X) (P Q : X → Type 0) → ((x : X) → P x → Q x) → IfSome o P → IfSome o Q
weaken None P Q f h = tt
weaken (Some x) P Q f h = f x h

join : {X : Type 0} (o : Option X) (P Q R : X → Type 0) → ((x : X) → P x → Q x → R x) → IfSome o P → IfSome o Q → IfSome o R
join None P Q R f g h = tt
join (Some x) P Q R f g h = f x g h

-- the results of an executed instruction, and its last one
results : List Word → Instr → List ℤ
results store i = values_at store i.outs

executes : (variables : List Variable) (store : List Word) (i : Instr) → IsStep variables store i → is_nondet i.op ≡ false → Executes i.op i.ty i.amount (values_of store i.args) (values_at store i.outs)
executes variables store i s plain =
    (step_agrees i.op i.ty i.amount (values_of store i.args) (values_at store i.outs) (s.executable plain)).1
    (s.executed ∙ ap (results_of i.op i.ty i.amount) (plain_operands i.op (values_of store i.args) (choice_in store i.outs) plain))

outs_count : (variables : List Variable) (store : List Word) (i : Instr) → IsStep variables store i → is_nondet i.op ≡ false → length i.outs ≡ result_count i.op
outs_count variables store i s plain = sym (length-map i.outs (λ name. (word_at store name).value)) ∙ (executes variables store i s plain).count

last_result : (variables : List Variable) (store : List Word) (i : Instr) → IsStep variables store i → is_nondet i.op ≡ false → (word_at store (last_of i.outs)).value ≡ last_value i.op (nth (values_at store i.outs) 0) (nth (values_at store i.outs) 1)
last_result variables store i s plain =
    let count = outs_count variables store i s plain in
    nth_result store i.outs (length i.outs - 1) (omega (arith, count, some_result i.op))
    ∙ ap (λ n. nth (values_at store i.outs) (n - 1)) count
    ∙ last_is i.op (values_at store i.outs)

-- the term of a row without a quotient has the value of the last result
step_value : (variables : List Variable) (store : List Word) (i : Instr) (exact : Bool) → IsStep variables store i → is_nondet i.op ≡ false → counts i.op exact ≡ true → (exact ≡ true → is_exact i.op i.ty i.amount (values_of store i.args) ≡ true) → has_quotient variables i ≡ false → IfSome (instruction_term i) (λ t. term_value store t ≡ (word_at store (last_of i.outs)).value)
step_value variables store i exact s plain c h whole =
    let count = outs_count variables store i s plain in
    let values = values_of store i.args in
    let rs = values_at store i.outs in
    weaken (instruction_term i) (λ t. term_value store t ≡ last_value i.op (nth rs 0) (nth rs 1)) (λ t. term_value store t ≡ (word_at store (last_of i.outs)).value) (λ t e. e ∙ sym (last_result variables store i s plain))
    (row_holds store i.op i.ty i.amount values (term_of (atom_at i.args 0)) (term_of (atom_at i.args 1)) (term_of (atom_at i.args 2)) (plain_term.Var (get_or i.outs 0 0)) (nth rs 0) (nth rs 1) (type_of variables (atom_at i.args 0)) exact
    record {
      executable = s.executable plain;
      first = nth_value store i.args 0;
      second = nth_value store i.args 1;
      third = nth_value store i.args 2;
      high = value_var store (get_or i.outs 0 0) ∙ nth_result store i.outs 0 (omega (arith, count, some_result i.op));
      row = (executes variables store i s plain).row;
      counted = c;
      exactness = h;
      whole = whole;
      source = λ _. s.source;
    })

-- the term of a row with a quotient
step_quotient : (variables : List Variable) (store : List Word) (i : Instr) (q : ℤ) → IsStep variables store i → is_nondet i.op ≡ false → has_quotient variables i ≡ true → (Congruent (pos (2 ^ i.ty.width)) (word_at store (last_of i.outs)).value (nth (values_of store i.args) 0) → (word_at store (last_of i.outs)).value ≡ nth (values_of store i.args) 0 -ℤ pos (2 ^ i.ty.width) *ℤ q) → IfSome (instruction_term i) (λ t. term_value store t -ℤ pos (2 ^ i.ty.width) *ℤ q ≡ (word_at store (last_of i.outs)).value)
step_quotient variables store i q s plain lose is =
    let values = values_of store i.args in
    let rs = values_at store i.outs in
    let a = term_of (atom_at i.args 0) in
    let both = loses store i.op i.ty (type_of variables (atom_at i.args 0)) i.amount values a (term_of (atom_at i.args 1)) (term_of (atom_at i.args 2)) (plain_term.Var (get_or i.outs 0 0)) (nth rs 0) (nth rs 1) lose (executes variables store i s plain).row in
    let here = is (subst (λ x. Congruent (pos (2 ^ i.ty.width)) x (nth values 0)) (sym (last_result variables store i s plain)) both.1) in
    weaken (instruction_term i) (λ t. term_value store t ≡ term_value store a) (λ t. term_value store t -ℤ pos (2 ^ i.ty.width) *ℤ q ≡ (word_at store (last_of i.outs)).value)
    (λ t e. ap (λ n. n -ℤ pos (2 ^ i.ty.width) *ℤ q) (e ∙ nth_value store i.args 0) ∙ sym here) both.0

-- the variables of the term have small numbers
step_narrow : (variables : List Variable) (store : List Word) (i : Instr) → IsStep variables store i → is_nondet i.op ≡ false → IfSome (instruction_term i) (λ t. are_narrow t ≡ true)
step_narrow variables store i s plain =
    row_narrow i.op i.ty i.amount (term_of (atom_at i.args 0)) (term_of (atom_at i.args 1)) (term_of (atom_at i.args 2)) (plain_term.Var (get_or i.outs 0 0)) s.first s.second s.third
    (narrow_var (get_or i.outs 0 0) (nth_narrow i.outs 0 (omega (arith, outs_count variables store i s plain, some_result i.op)) s.outs))

last_narrow : (variables : List Variable) (store : List Word) (i : Instr) → IsStep variables store i → is_nondet i.op ≡ false → nat_lt (last_of i.outs) (2 ^ 32) ≡ true
last_narrow variables store i s plain = nth_narrow i.outs (length i.outs - 1) (omega (arith, outs_count variables store i s plain, some_result i.op)) s.outs

-- a polynomial of the value of an unknown, taken from the unknown, has the value 0
vanish : (r : ℤ → ℤ) → IsReduction r → (n m : ℤ) → m ≡ n → r (n -ℤ m) ≡ pos 0
vanish r ring n m e = ap r (omega (arith, ints, e)) ∙ ring.null

abbrev Vanishes : (ℤ → ℤ) → List Variable → List Word → (ℕ → ℤ) → ℕ → Instr → Term → Type 0
Vanishes r variables store quotients place i t =
    r (value_of (point_of store quotients) (difference_of r (variable_of r (last_of i.outs)) (definition_polynomial r variables place i t))) ≡ pos 0

term_vanishes : (r : ℤ → ℤ) → IsReduction r → (variables : List Variable) (store : List Word) (quotients : ℕ → ℤ) (place : ℕ) (i : Instr) (exact : Bool) → IsStep variables store i → is_nondet i.op ≡ false → counts i.op exact ≡ true → (exact ≡ true → is_exact i.op i.ty i.amount (values_of store i.args) ≡ true) → IsQuotient store (Some (Step i)) (quotients place) → IfSome (instruction_term i) (Vanishes r variables store quotients place i)
term_vanishes r ring variables store quotients place i exact s plain c h q = at (has_quotient variables i) refl
  where
    at : (b : Bool) → has_quotient variables i ≡ b → IfSome (instruction_term i) (λ t. r (value_of (point_of store quotients) (difference_of r (variable_of r (last_of i.outs)) (if b then less_multiple r (polynomial_of r t) (pos (2 ^ i.ty.width)) place else polynomial_of r t))) ≡ pos 0)
    at true e =
        join (instruction_term i) (λ t. are_narrow t ≡ true) (λ t. term_value store t -ℤ pos (2 ^ i.ty.width) *ℤ quotients place ≡ (word_at store (last_of i.outs)).value) _
        (λ t narrow is.
        let u = (word_at store (last_of i.outs)).value in
        value_difference r ring (point_of store quotients) (variable_of r (last_of i.outs)) (less_multiple r (polynomial_of r t) (pos (2 ^ i.ty.width)) place) u (term_value store t -ℤ pos (2 ^ i.ty.width) *ℤ quotients place)
        (value_variable r ring store quotients (last_of i.outs) (last_narrow variables store i s plain))
        (value_less_multiple r ring store quotients (polynomial_of r t) (term_value store t) (pos (2 ^ i.ty.width)) place (term_valued r ring store quotients t narrow))
        ∙ vanish r ring u (term_value store t -ℤ pos (2 ^ i.ty.width) *ℤ quotients place) is)
        (step_narrow variables store i s plain)
        (step_quotient variables store i (quotients place) s plain e (q.step i refl))
    at false e =
        join (instruction_term i) (λ t. are_narrow t ≡ true) (λ t. term_value store t ≡ (word_at store (last_of i.outs)).value) _
        (λ t narrow is.
        let u = (word_at store (last_of i.outs)).value in
        value_difference r ring (point_of store quotients) (variable_of r (last_of i.outs)) (polynomial_of r t) u (term_value store t)
        (value_variable r ring store quotients (last_of i.outs) (last_narrow variables store i s plain))
        (term_valued r ring store quotients t narrow)
        ∙ vanish r ring u (term_value store t) is)
        (step_narrow variables store i s plain)
        (step_value variables store i exact s plain c h e)

-- the definition of an instruction
if_counted : {X : Type 0} (b : Bool) (x : X) (P : X → Type 0) → (b ≡ true → P x) → IfSome (if b then Some x else None) P
if_counted true x P h = h refl
if_counted false x P h = tt

abbrev pub IsZeroDefinition : Option ℕ → (ℕ → ℤ) → Definition → Type 0
IsZeroDefinition m point d = reduced_by m (value_of point (equation_of (reduced_by m) d)) ≡ pos 0

by_term : (m : Option ℕ) (variables : List Variable) (store : List Word) (quotients : ℕ → ℤ) (place : ℕ) (i : Instr) (exact : Bool) (o : Option Term) → (counts i.op exact ≡ true → IfSome o (Vanishes (reduced_by m) variables store quotients place i)) → IfSome (definition_by m variables place i exact o) (IsZeroDefinition m (point_of store quotients))
by_term m variables store quotients place i exact None h = tt
by_term m variables store quotients place i exact (Some t) h =
    if_counted (counts i.op exact && not (is_wide m (definition_norm variables i t))) (place, variable_key (last_of i.outs), definition_polynomial (reduced_by m) variables place i t) (IsZeroDefinition m (point_of store quotients))
    (λ e. h (and_parts _ _ e).0)

pub step_zero : (m : Option ℕ) → IsModulus m → (variables : List Variable) (store : List Word) (quotients : ℕ → ℤ) (place : ℕ) (i : Instr) (exact : Bool) → IsStep variables store i → (exact ≡ true → is_exact i.op i.ty i.amount (values_of store i.args) ≡ true) → IsQuotient store (Some (Step i)) (quotients place) → IfSome (definition_in m variables place exact (Some i)) (IsZeroDefinition m (point_of store quotients))
step_zero m ok variables store quotients place i exact s h q = by_term m variables store quotients place i exact (instruction_term i) (λ c. at (is_nondet i.op) refl c)
  where
    at : (b : Bool) → is_nondet i.op ≡ b → counts i.op exact ≡ true → IfSome (instruction_term i) (Vanishes (reduced_by m) variables store quotients place i)
    at true e c = no_term i.op i.ty i.amount (term_of (atom_at i.args 0)) (term_of (atom_at i.args 1)) (term_of (atom_at i.args 2)) (plain_term.Var (get_or i.outs 0 0)) (Vanishes (reduced_by m) variables store quotients place i) e
    at false e c = term_vanishes (reduced_by m) (is_reduction m ok) variables store quotients place i exact s e c h q
