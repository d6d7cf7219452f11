-- The lines that are left and the values that are left.
use Rattle.std.proofs.Common.{◌≡◌, ◌↔◌, ℕ, zero, suc, ◌+◌, ◌<◌, ◌≤◌, ◌≤ℤ◌, ◌<ℤ◌, refl, sym, ◌∙◌, ap, arith, add-one, ℤ, nat_eq, Bool, true, false, ◌&&◌, List, [], ◌∷◌, length, drop, get_or, Option, Some, None}
use Rattle.std.specs.Prelude.{IsTrue, int_le, int_lt}
use Rattle.std.specs.List.{slice_get, list_all, cons_option}
use Rattle.std.specs.Option.{IfSome}
use Rattle.std.proofs.lemmas.Bool.{and_parts}
use Rattle.std.proofs.lemmas.Bool.Decides.{nat_tests}
use Rattle.std.proofs.lemmas.Int.{ints}
use Rattle.std.proofs.Math.Seq.{drop-cons}
use Rattle.tcl_num.specs.Range.{least_value, values_end}
use Rattle.tcl_lang.specs.declared.ty.Ty.{Ty}
use Rattle.tcl_lang.specs.declared.instr.Op.{Op}
use Rattle.tcl_lang.specs.declared.instr.Op.TheVariants.{Mov, Add, Adds, Adc, Adcs, Sub, Subb, Sbb, Sbbs, Mul, Mull, Mulj, Shl, Split, Join, Cast, Vpc, Cmov, And, Or, Xor, Not, Nondet}
use Rattle.tcl_lang.specs.declared.pred.Line.{Line}
use Rattle.tcl_lang.specs.declared.pred.Line.TheVariants.{Input, Pre, Step, Assert, Assume, Cut, Post}
use Rattle.tcl_lang.specs.Types.{IsTy, InType, is_in_type}
use Rattle.tcl_lang.specs.Line.{taken_type, choice_type}
use Rattle.tcl_lang.specs.Run.{Fits, taken_types}
use Rattle.tcl_lang.specs.Shape.{is_line}
use Rattle.tcl_lang.proofs.TypedStores.{is_ty_sound, is_in_type_sound}
use Rattle.tcl_lang.proofs.TypedRuns.{instruction_shape}
use Rattle.tcl_exec.specs.Fitting.{is_fitting, taken_in}

one_line : (m l : Line) → Some m ≡ Some l → m ≡ l
one_line m l e = cc

-- a line of a list of lines of that shape
line_in : (lines : List Line) (k : ℕ) (l : Line) → list_all is_line lines ≡ true → slice_get lines k ≡ Some l → is_line l ≡ true
line_in [] k l a e = absurd (cc)
line_in (m ∷ lines) zero l a e = ap is_line (sym (one_line m l e)) ∙ (and_parts (is_line m) (list_all is_line lines) a).0
line_in (m ∷ lines) (suc k) l a e = line_in lines k l (and_parts (is_line m) (list_all is_line lines) a).1 e

-- the type that a line takes is one of words
choice_words : (op : Op) (T : Ty) → IsTy T → IfSome (choice_type op T) IsTy
choice_words Nondet T h = h
choice_words Mov T h = tt
choice_words Add T h = tt
choice_words Adds T h = tt
choice_words Adc T h = tt
choice_words Adcs T h = tt
choice_words Sub T h = tt
choice_words Subb T h = tt
choice_words Sbb T h = tt
choice_words Sbbs T h = tt
choice_words Mul T h = tt
choice_words Mull T h = tt
choice_words Mulj T h = tt
choice_words Shl T h = tt
choice_words Split T h = tt
choice_words Join T h = tt
choice_words Cast T h = tt
choice_words Vpc T h = tt
choice_words Cmov T h = tt
choice_words And T h = tt
choice_words Or T h = tt
choice_words Xor T h = tt
choice_words Not T h = tt

pub taken_words : (l : Line) → is_line l ≡ true → IfSome (taken_type l) IsTy
taken_words (Input T name) e = is_ty_sound T e
taken_words (Pre p) e = tt
taken_words (Step i) e = choice_words i.op i.ty (instruction_shape i e).ty
taken_words (Assert p) e = tt
taken_words (Assume p) e = tt
taken_words (Cut p) e = tt
taken_words (Post p) e = tt

pub taken_at : (lines : List Line) (k : ℕ) (l : Line) → slice_get lines k ≡ Some l → taken_in (slice_get lines k) ≡ taken_type l
taken_at lines k l e = ap taken_in e

pub taken_typed : (lines : List Line) (k : ℕ) (l : Line) → list_all is_line lines ≡ true → slice_get lines k ≡ Some l → IfSome (taken_type l) IsTy
taken_typed lines k l a e = taken_words l (line_in lines k l a e)

-- the test and the fact
pub fitting_sound : (types : List Ty) (input : List ℤ) → is_fitting types input ≡ true → Fits types input
fitting_sound [] [] e = tt
fitting_sound [] (n ∷ input) e = absurd (cc)
fitting_sound (T ∷ types) [] e = absurd (cc)
fitting_sound (T ∷ types) (n ∷ input) e =
    let p = and_parts (is_in_type T n) (is_fitting types input) e in
    (is_in_type_sound T n p.0, fitting_sound types input p.1)

in_type_complete : (T : Ty) (n : ℤ) → InType T n → is_in_type T n ≡ true
in_type_complete T n h = at (least_value T.signed T.width) (values_end T.signed T.width) n h.0 h.1
  where
    at : (a b n : ℤ) → a ≤ℤ n → n <ℤ b → (int_le a n && int_lt n b) ≡ true
    at a b n p q = grind (arith, ints)

pub fitting_complete : (types : List Ty) (input : List ℤ) → Fits types input → is_fitting types input ≡ true
fitting_complete [] [] f = refl
fitting_complete [] (n ∷ input) f = absurd f
fitting_complete (T ∷ types) [] f = absurd f
fitting_complete (T ∷ types) (n ∷ input) f =
    ap (λ b. b && is_fitting types input) (in_type_complete T n f.0) ∙ fitting_complete types input f.1

pub fitting_is : (b : Bool) (types : List Ty) (input : List ℤ) → b ≡ is_fitting types input → IsTrue b ↔ Fits types input
fitting_is b types input e = ((λ t. fitting_sound types input (sym e ∙ t)), (λ f. e ∙ fitting_complete types input f))

-- past the last line nothing is taken
pub types_end : (lines : List Line) (k : ℕ) → length lines ≤ k → taken_types (drop k lines) ≡ []
types_end [] zero h = refl
types_end [] (suc k) h = refl
types_end (m ∷ lines) zero h = absurd (omega arith)
types_end (m ∷ lines) (suc k) h = types_end lines k (omega arith)

-- the values from a place on
pub values_end_of : (input : List ℤ) (at : ℕ) → length input ≤ at → drop at input ≡ []
values_end_of [] zero h = refl
values_end_of [] (suc at) h = refl
values_end_of (n ∷ input) zero h = absurd (omega arith)
values_end_of (n ∷ input) (suc at) h = values_end_of input at (omega arith)

pub values_from : (input : List ℤ) (at : ℕ) (d : ℤ) → at < length input → drop at input ≡ get_or input at d ∷ drop (at + 1) input
values_from input at d h = drop-cons input at d h ∙ ap (λ j. get_or input at d ∷ drop j input) (sym (add-one at))

-- one line further
pub types_at : (lines : List Line) (k : ℕ) → k < length lines → taken_types (drop k lines) ≡ cons_option (taken_in (slice_get lines k)) (taken_types (drop (k + 1) lines))
types_at lines k h = from k lines h ∙ ap (λ j. cons_option (taken_in (slice_get lines k)) (taken_types (drop j lines))) (sym (add-one k))
  where
    from : (k : ℕ) (lines : List Line) → k < length lines → taken_types (drop k lines) ≡ cons_option (taken_in (slice_get lines k)) (taken_types (drop (suc k) lines))
    from k [] h = absurd (omega arith)
    from zero (m ∷ lines) h = refl
    from (suc k) (m ∷ lines) h = from k lines (omega arith)

pub types_given : (lines : List Line) (k : ℕ) (o : Option Ty) → k < length lines → taken_in (slice_get lines k) ≡ o → taken_types (drop k lines) ≡ cons_option o (taken_types (drop (k + 1) lines))
types_given lines k o h e = types_at lines k h ∙ ap (λ (o : Option Ty). cons_option o (taken_types (drop (k + 1) lines))) e

pub goes_none : (lines : List Line) (k : ℕ) (rest : List ℤ) → k < length lines → taken_in (slice_get lines k) ≡ None → is_fitting (taken_types (drop k lines)) rest ≡ is_fitting (taken_types (drop (k + 1) lines)) rest
goes_none lines k rest h none = ap (λ ts. is_fitting ts rest) (types_given lines k None h none)

pub goes_some : (lines : List Line) (k : ℕ) (T : Ty) (input : List ℤ) (at : ℕ) (d : ℤ) → k < length lines → taken_in (slice_get lines k) ≡ Some T → at < length input → is_fitting (taken_types (drop k lines)) (drop at input) ≡ (is_in_type T (get_or input at d) && is_fitting (taken_types (drop (k + 1) lines)) (drop (at + 1) input))
goes_some lines k T input at d h some within =
    ap (λ ts. is_fitting ts (drop at input)) (types_given lines k (Some T) h some)
    ∙ ap (λ ns. is_fitting (T ∷ taken_types (drop (k + 1) lines)) ns) (values_from input at d within)

pub goes_past : (lines : List Line) (k : ℕ) (T : Ty) (input : List ℤ) (at : ℕ) → k < length lines → taken_in (slice_get lines k) ≡ Some T → length input ≤ at → is_fitting (taken_types (drop k lines)) (drop at input) ≡ false
goes_past lines k T input at h some past =
    ap (λ ts. is_fitting ts (drop at input)) (types_given lines k (Some T) h some)
    ∙ ap (λ ns. is_fitting (T ∷ taken_types (drop (k + 1) lines)) ns) (values_end_of input at past)

pub first_out : (b c : Bool) → b ≡ false → (b && c) ≡ false
first_out true c e = absurd (cc)
first_out false c e = refl

pub first_in : (b c : Bool) → b ≡ true → (b && c) ≡ c
first_in true c e = refl
first_in false c e = absurd (cc)

-- at the end of the lines all values are taken
pub fitting_end : (lines : List Line) (k : ℕ) (input : List ℤ) (at : ℕ) → length lines ≤ k → at ≤ length input → is_fitting (taken_types (drop k lines)) (drop at input) ≡ nat_eq at (length input)
fitting_end lines k input at h b = ap (λ ts. is_fitting ts (drop at input)) (types_end lines k h) ∙ none_left input at b
  where
    shifted : (a b : ℕ) → nat_eq a b ≡ nat_eq (suc a) (suc b)
    shifted a b = grind (arith, nat_tests)

    none_left : (input : List ℤ) (at : ℕ) → at ≤ length input → is_fitting [] (drop at input) ≡ nat_eq at (length input)
    none_left [] zero h = refl
    none_left [] (suc at) h = absurd (omega arith)
    none_left (n ∷ input) zero h = grind (arith, nat_tests)
    none_left (n ∷ input) (suc at) h = none_left input at (omega arith) ∙ shifted at (length input)
