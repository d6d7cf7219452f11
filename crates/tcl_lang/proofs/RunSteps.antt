-- A line of a run changes the words of the names that it defines and no others, and an instruction follows its row.
use Rattle.std.proofs.Common.{◌≡◌, ◌≢◌, ℕ, suc, ◌+◌, ◌<◌, refl, sym, ◌∙◌, ap, subst, arith, ℤ, pos, Bool, true, false, ◌||◌, nat_eq, List, [], ◌∷◌, length, map, get_or, Some}
use Rattle.std.specs.List.{slice_get, list_any, All}
use Rattle.std.proofs.lemmas.Bool.{or_parts}
use Rattle.std.proofs.lemmas.Bool.Decides.{nat_tests}
use Rattle.std.proofs.lemmas.List.{length-set, get_or-set_same, get_or-set_other}
use Rattle.tcl_lang.specs.declared.ty.Ty.{Ty}
use Rattle.tcl_lang.specs.declared.ty.Word.{Word}
use Rattle.tcl_lang.specs.declared.instr.Instr.{Instr}
use Rattle.tcl_lang.specs.declared.pred.Line.{Line}
use Rattle.tcl_lang.specs.declared.pred.Line.TheVariants.{Input, Pre, Step, Assert, Assume, Cut, Post}
use Rattle.tcl_lang.specs.Store.{empty_word, word_at, set_word}
use Rattle.tcl_lang.specs.Names.{defined_names}
use Rattle.tcl_lang.specs.Line.{values_of}
use Rattle.tcl_lang.specs.Results.{results_of, result_types}
use Rattle.tcl_lang.specs.Run.{Fits, taken_types, taken_before, store_at, store_after, write_all, operands_of}
use Rattle.tcl_lang.specs.Typing.{has_twice}
use Rattle.tcl_lang.specs.Execution.{IsRunnable}
use Rattle.tcl_lang.specs.Executed.{values_at}
use Rattle.tcl_lang.specs.Defined.{is_among}
use Rattle.tcl_lang.specs.Steps.{FollowsRow}
use Rattle.tcl_lang.proofs.StepLaw.{step_agrees}
use Rattle.tcl_lang.proofs.MachineRuns.{types_length}
use Rattle.tcl_lang.proofs.Runs.{store_goes}
use Rattle.tcl_lang.proofs.TypedRuns.{line_typed, instruction_shape, run_executes, run_passes}
use Rattle.tcl_lang.proofs.Versioning.{results_count}

pub apart : (x y : ℕ) → nat_eq y x ≡ false → x ≢ y
apart x y e q = absurd (both (nat_eq y x) (same x y q) e)
  where
    same : (x y : ℕ) → x ≡ y → nat_eq y x ≡ true
    same x y q = grind (arith, nat_tests)

    both : (b : Bool) → b ≡ true → b ≡ false → ⊥
    both b p q = cc

pub write_others : (outs : List ℕ) (Ts : List Ty) (ns : List ℤ) (S : List Word) (x : ℕ) → is_among outs x ≡ false → word_at (write_all S outs Ts ns) x ≡ word_at S x
write_others [] Ts ns S x e = refl
write_others (y ∷ outs) [] ns S x e = refl
write_others (y ∷ outs) (T ∷ Ts) [] S x e = refl
write_others (y ∷ outs) (T ∷ Ts) (n ∷ ns) S x e =
    let parts = or_parts (nat_eq y x) (is_among outs x) e in
    write_others outs Ts ns (set_word S y T n) x parts.1 ∙ get_or-set_other S y x (record { ty = T; value = n }) empty_word (apart x y parts.0)

pub line_others : (l : Line) (n : ℤ) (S : List Word) (x : ℕ) → is_among (defined_names l) x ≡ false → word_at (store_after (Some l) n S) x ≡ word_at S x
line_others (Input T y) n S x e = get_or-set_other S y x (record { ty = T; value = n }) empty_word (apart x y (or_parts (nat_eq y x) false e).0)
line_others (Pre p) n S x e = refl
line_others (Step i) n S x e = write_others i.outs (result_types i.op i.ty) _ S x e
line_others (Assert p) n S x e = refl
line_others (Assume p) n S x e = refl
line_others (Cut p) n S x e = refl
line_others (Post p) n S x e = refl

pub run_others : (names : ℕ) (lines : List Line) (input : List ℤ) (k x : ℕ) (l : Line) → slice_get lines k ≡ Some l → is_among (defined_names l) x ≡ false → word_at (store_at names lines input (k + 1)) x ≡ word_at (store_at names lines input k) x
run_others names lines input k x l at e =
    ap (λ (S : List Word). word_at S x) (store_goes names lines input k l at) ∙ line_others l (get_or input (taken_before lines k) (pos 0)) (store_at names lines input k) x e

-- what is written to names that are not equal stays there
turned : (x y : ℕ) → nat_eq x y ≡ nat_eq y x
turned x y = grind (arith, nat_tests)

not_among : (x : ℕ) (xs : List ℕ) → list_any (λ other. nat_eq x other) xs ≡ false → is_among xs x ≡ false
not_among x [] e = refl
not_among x (y ∷ xs) e =
    let parts = or_parts (nat_eq x y) (list_any (λ other. nat_eq x other) xs) e in
    ap (λ b. b || is_among xs x) (turned y x ∙ parts.0) ∙ not_among x xs parts.1

pub record Wrote (outs : List ℕ) (Ts : List Ty) (ns : List ℤ) (after : List Word) : Type 0 where
  pub values : values_at after outs ≡ ns
  pub types : map (λ name. (word_at after name).ty) outs ≡ Ts

pub write_wrote : (outs : List ℕ) (Ts : List Ty) (ns : List ℤ) (S : List Word) → has_twice outs ≡ false → All (λ name. name < length S) outs → length outs ≡ length Ts → length Ts ≡ length ns → Wrote outs Ts ns (write_all S outs Ts ns)
write_wrote [] [] [] S d w a b = record { values = refl; types = refl }
write_wrote [] [] (n ∷ ns) S d w a b = absurd (omega arith)
write_wrote [] (T ∷ Ts) ns S d w a b = absurd (omega arith)
write_wrote (x ∷ outs) [] ns S d w a b = absurd (omega arith)
write_wrote (x ∷ outs) (T ∷ Ts) [] S d w a b = absurd (omega arith)
write_wrote (x ∷ outs) (T ∷ Ts) (n ∷ ns) S d w a b =
    let parts = or_parts (list_any (λ other. nat_eq x other) outs) (has_twice outs) d in
    let G = set_word S x T n in
    let within : All (λ name. name < length G) outs = λ k e less. omega (arith, length-set S x (record { ty = T; value = n }), w (suc k) e (omega arith)) in
    let small : x < length S = w 0 x (omega arith) in
    let here : word_at (write_all G outs Ts ns) x ≡ record { ty = T; value = n } =
    write_others outs Ts ns G x (not_among x outs parts.0) ∙ get_or-set_same S x (record { ty = T; value = n }) empty_word small in
    let rest = write_wrote outs Ts ns G parts.1 within (omega arith) (omega arith) in
    record {
      values = ap (λ (v : Word). v.value ∷ values_at (write_all G outs Ts ns) outs) here ∙ ap (λ ms. n ∷ ms) rest.values;
      types = ap (λ (v : Word). v.ty ∷ map (λ name. (word_at (write_all G outs Ts ns) name).ty) outs) here ∙ ap (λ Us. T ∷ Us) rest.types;
    }

pub step_wrote : (names : ℕ) (lines : List Line) (input : List ℤ) (k : ℕ) (i : Instr) → IsRunnable names lines → Fits (taken_types lines) input → slice_get lines k ≡ Some (Step i) → Wrote i.outs (result_types i.op i.ty) (results_of i.op i.ty i.amount (operands_of i.op (values_of (store_at names lines input k) i.args) (get_or input (taken_before lines k) (pos 0)))) (store_at names lines input (k + 1))
step_wrote names lines input k i r f at =
    let S = store_at names lines input k in
    let operands = operands_of i.op (values_of S i.args) (get_or input (taken_before lines k) (pos 0)) in
    let x = run_executes names lines input k i r f at in
    let shape = instruction_shape i x.shape in
    let wrote = write_wrote i.outs (result_types i.op i.ty) (results_of i.op i.ty i.amount operands) S (line_typed names lines k (Step i) r.typed at).once x.defines
    (shape.outs ∙ sym (types_length i.op i.ty)) (results_count i.op i.ty i.amount operands) in
    subst (λ (G : List Word). Wrote i.outs (result_types i.op i.ty) (results_of i.op i.ty i.amount operands) G) (sym (store_goes names lines input k (Step i) at)) wrote

-- an instruction of a run follows its row
pub run_follows : (names : ℕ) (lines : List Line) (input : List ℤ) (k : ℕ) (i : Instr) → IsRunnable names lines → Fits (taken_types lines) input → slice_get lines k ≡ Some (Step i) → FollowsRow (store_at names lines input k) (store_at names lines input (k + 1)) i (get_or input (taken_before lines k) (pos 0))
run_follows names lines input k i r f at =
    let S = store_at names lines input k in
    let G = store_at names lines input (k + 1) in
    let operands = operands_of i.op (values_of S i.args) (get_or input (taken_before lines k) (pos 0)) in
    let wrote = step_wrote names lines input k i r f at in
    record {
      row = (step_agrees i.op i.ty i.amount operands (values_at G i.outs) (run_executes names lines input k i r f at).operands).1 wrote.values;
      types = wrote.types;
      others = λ x e. run_others names lines input k x (Step i) at e;
    }

-- an `in` line gives its name the value that it takes
pub run_takes : (names : ℕ) (lines : List Line) (input : List ℤ) (k : ℕ) (T : Ty) (x : ℕ) → IsRunnable names lines → Fits (taken_types lines) input → slice_get lines k ≡ Some (Input T x) → word_at (store_at names lines input (k + 1)) x ≡ record { ty = T; value = get_or input (taken_before lines k) (pos 0) }
run_takes names lines input k T x r f at =
    let S = store_at names lines input k in
    ap (λ (s : List Word). word_at s x) (store_goes names lines input k (Input T x) at)
    ∙ get_or-set_same S x (record { ty = T; value = get_or input (taken_before lines k) (pos 0) }) empty_word (run_passes names lines input k (Input T x) r f at)
