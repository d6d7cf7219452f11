-- The run over plain values has the values of the words of the run over stores, and a store of typed words is given by its
-- values.
use Rattle.std.proofs.Common.{◌+◌, add-one, ◌≡◌, ℕ, zero, suc, refl, sym, ◌∙◌, ap, arith, ℤ, pos, false, nat_eq, List, [], ◌∷◌, length, replicate, get_or, set, Option, Some, None}
use Rattle.std.specs.List.{slice_get}
use Rattle.std.proofs.lemmas.Bool.{or_parts}
use Rattle.std.proofs.lemmas.List.{map-set, get_or-set_other}
use Rattle.std.proofs.Math.ListN.{get_or-map}
use Rattle.tcl_lang.specs.declared.ty.Ty.{Ty}
use Rattle.tcl_lang.specs.declared.ty.Word.{Word}
use Rattle.tcl_lang.specs.declared.instr.Atom.{Atom}
use Rattle.tcl_lang.specs.declared.instr.Atom.TheVariants.{Var, Lit}
use Rattle.tcl_lang.specs.declared.instr.Instr.{Instr}
use Rattle.tcl_lang.specs.declared.pred.Line.{Line}
use Rattle.tcl_lang.specs.declared.pred.Line.TheVariants.{Input, Pre, Step, Assert, Assume, Cut, Post}
use Rattle.tcl_lang.specs.declared.variable.Variable.{Variable}
use Rattle.tcl_lang.specs.Store.{empty_word, word_at, set_word}
use Rattle.tcl_lang.specs.Line.{values_of}
use Rattle.tcl_lang.specs.Results.{results_of, result_types}
use Rattle.tcl_lang.specs.Run.{taken_before, store_at, store_after, write_all, operands_of, execute}
use Rattle.tcl_lang.specs.Form.{AreTyped}
use Rattle.tcl_lang.specs.Defined.{is_among}
use Rattle.tcl_lang.specs.Values.{value_at, words_of, values_in, AreValues, operand_values, step_results, write_values, step_values, values_after, values_before}
use Rattle.tcl_lang.proofs.FormRuns.{store_begin, store_go}
use Rattle.tcl_lang.proofs.RunSteps.{apart}
use Rattle.tcl_lang.proofs.Versioning.{results_count}

-- operands
value_is : (S : List Word) (x : ℕ) → value_at (values_in S) x ≡ (word_at S x).value
value_is S x = get_or-map (λ (w : Word). w.value) S x empty_word

pub operands_are : (S : List Word) (atoms : List Atom) → operand_values (values_in S) atoms ≡ values_of S atoms
operands_are S [] = refl
operands_are S (Var x ∷ atoms) = ap (λ n. n ∷ operand_values (values_in S) atoms) (value_is S x) ∙ ap (λ ns. (word_at S x).value ∷ ns) (operands_are S atoms)
operands_are S (Lit T n ∷ atoms) = ap (λ ns. n ∷ ns) (operands_are S atoms)

-- what is written
write_is : (outs : List ℕ) (Ts : List Ty) (ns : List ℤ) (S : List Word) → length Ts ≡ length ns → values_in (write_all S outs Ts ns) ≡ write_values (values_in S) outs ns
write_is [] Ts ns S c = refl
write_is (x ∷ outs) [] [] S c = refl
write_is (x ∷ outs) [] (n ∷ ns) S c = absurd (omega arith)
write_is (x ∷ outs) (T ∷ Ts) [] S c = absurd (omega arith)
write_is (x ∷ outs) (T ∷ Ts) (n ∷ ns) S c =
    write_is outs Ts ns (set_word S x T n) (omega arith)
    ∙ ap (λ values. write_values values outs ns) (map-set (λ (w : Word). w.value) S x (record { ty = T; value = n }))

pub execute_is : (S : List Word) (i : Instr) (choice : ℤ) → values_in (execute S i choice) ≡ step_values (values_in S) i choice
execute_is S i choice =
    write_is i.outs (result_types i.op i.ty) (results_of i.op i.ty i.amount (operands_of i.op (values_of S i.args) choice)) S
    (results_count i.op i.ty i.amount (operands_of i.op (values_of S i.args) choice))
    ∙ ap (λ vs. write_values (values_in S) i.outs (results_of i.op i.ty i.amount (operands_of i.op vs choice))) (sym (operands_are S i.args))

after_is : (o : Option Line) (taken : ℤ) (S : List Word) → values_in (store_after o taken S) ≡ values_after o taken (values_in S)
after_is None taken S = refl
after_is (Some (Input T x)) taken S = map-set (λ (w : Word). w.value) S x (record { ty = T; value = taken })
after_is (Some (Pre p)) taken S = refl
after_is (Some (Step i)) taken S = execute_is S i taken
after_is (Some (Assert p)) taken S = refl
after_is (Some (Assume p)) taken S = refl
after_is (Some (Cut p)) taken S = refl
after_is (Some (Post p)) taken S = refl

-- the values before each line
pub values_begin : (names : ℕ) (lines : List Line) (input : List ℤ) → values_before names lines input 0 ≡ replicate names (pos 0)
unfolding values_before
values_begin names lines input = refl

pub values_go : (names : ℕ) (lines : List Line) (input : List ℤ) (k : ℕ) → values_before names lines input (suc k) ≡ values_after (slice_get lines k) (get_or input (taken_before lines k) (pos 0)) (values_before names lines input k)
unfolding values_before
values_go names lines input k = refl

pub values_goes : (names : ℕ) (lines : List Line) (input : List ℤ) (k : ℕ) (l : Line) → slice_get lines k ≡ Some l → values_before names lines input (k + 1) ≡ values_after (Some l) (get_or input (taken_before lines k) (pos 0)) (values_before names lines input k)
values_goes names lines input k l e =
    ap (values_before names lines input) (add-one k) ∙ values_go names lines input k
    ∙ ap (λ o. values_after o (get_or input (taken_before lines k) (pos 0)) (values_before names lines input k)) e

none_set : (n : ℕ) → values_in (replicate n empty_word) ≡ replicate n (pos 0)
none_set zero = refl
none_set (suc n) = ap (λ ns. pos 0 ∷ ns) (none_set n)

pub values_run : (names : ℕ) (lines : List Line) (input : List ℤ) (k : ℕ) → values_in (store_at names lines input k) ≡ values_before names lines input k
values_run names lines input zero = ap values_in (store_begin names lines input) ∙ none_set names ∙ sym (values_begin names lines input)
values_run names lines input (suc k) =
    ap values_in (store_go names lines input k)
    ∙ after_is (slice_get lines k) (get_or input (taken_before lines k) (pos 0)) (store_at names lines input k)
    ∙ ap (values_after (slice_get lines k) (get_or input (taken_before lines k) (pos 0))) (values_run names lines input k)
    ∙ sym (values_go names lines input k)

-- a store of typed words is given by its values
pub record IsGiven (vs : List Variable) (E : List Word) : Type 0 where
  pub store : words_of vs (values_in E) ≡ E
  pub values : AreValues vs (values_in E)

pub given : (vs : List Variable) (E : List Word) → length E ≡ length vs → AreTyped vs E → IsGiven vs E
given [] [] c t = record { store = refl; values = tt }
given [] (w ∷ E) c t = absurd (omega arith)
given (v ∷ vs) [] c t = absurd (omega arith)
given (v ∷ vs) (w ∷ E) c t =
    let rest = given vs E (omega arith) (λ u x e. t (suc u) x e) in
    let here = t 0 v refl in
    let same : record { ty = v.ty; value = w.value } ≡ w = ap (λ (T : Ty). record { ty = T; value = w.value }) (sym here.0) in
    record {
      store = ap (λ (x : Word). x ∷ words_of vs (values_in E)) same ∙ ap (λ ws. w ∷ ws) rest.store;
      values = (here.1, rest.values);
    }

-- and the values of words that were made of values are these
pub made_of : (vs : List Variable) (values : List ℤ) → AreValues vs values → values_in (words_of vs values) ≡ values
made_of [] [] f = refl
made_of [] (n ∷ values) f = absurd f
made_of (v ∷ vs) [] f = absurd f
made_of (v ∷ vs) (n ∷ values) f = ap (λ ns. n ∷ ns) (made_of vs values f.1)

pub words_count : (vs : List Variable) (values : List ℤ) → AreValues vs values → length (words_of vs values) ≡ length vs
words_count [] [] f = refl
words_count [] (n ∷ values) f = absurd f
words_count (v ∷ vs) [] f = absurd f
words_count (v ∷ vs) (n ∷ values) f = ap suc (words_count vs values f.1)

-- a step changes no other value
written_others : (outs : List ℕ) (ns values : List ℤ) (x : ℕ) → is_among outs x ≡ false → value_at (write_values values outs ns) x ≡ value_at values x
written_others [] ns values x e = refl
written_others (y ∷ outs) [] values x e = refl
written_others (y ∷ outs) (n ∷ ns) values x e =
    let parts = or_parts (nat_eq y x) (is_among outs x) e in
    written_others outs ns (set values y n) x parts.1 ∙ get_or-set_other values y x n (pos 0) (apart x y parts.0)

pub step_others : (values : List ℤ) (i : Instr) (choice : ℤ) (v : ℕ) → is_among i.outs v ≡ false → value_at (step_values values i choice) v ≡ value_at values v
step_others values i choice v e = written_others i.outs (step_results values i choice) values v e
