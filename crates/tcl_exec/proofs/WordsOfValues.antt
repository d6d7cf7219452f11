-- The word of a variable at values, and that it is a value of its type.
use Rattle.std.proofs.Common.{◌≡◌, ℕ, zero, suc, refl, sym, ◌∙◌, ap, arith, ℤ, true, List, [], ◌∷◌, Option, Some, None}
use Rattle.std.specs.Option.{is_some}
use Rattle.std.specs.List.{slice_get, All}
use Rattle.tcl_lang.specs.declared.ty.Ty.{Ty}
use Rattle.tcl_lang.specs.declared.variable.Variable.{Variable}
use Rattle.tcl_lang.specs.Types.{IsTy}
use Rattle.tcl_lang.specs.Store.{empty_word, word_at}
use Rattle.tcl_lang.specs.Values.{AreValues, types_of, words_of}
use Rattle.tcl_exec.specs.Given.{word_given}
use Rattle.tcl_exec.specs.Sound.{IsSoundWord}

pub word_is : (vs : List Variable) (values : List ℤ) (v : ℕ) → word_given (slice_get vs v) (slice_get values v) ≡ word_at (words_of vs values) v
word_is [] [] v = refl
word_is [] (m ∷ values) v = refl
word_is (y ∷ vs) [] zero = refl
word_is (y ∷ vs) [] (suc v) = no_value (slice_get vs v)
  where
    no_value : (o : Option Variable) → word_given o None ≡ empty_word
    no_value None = refl
    no_value (Some x) = refl
word_is (y ∷ vs) (m ∷ values) zero = refl
word_is (y ∷ vs) (m ∷ values) (suc v) = word_is vs values v

-- a variable that has a type holds a value of it
pub variable_sound : (vs : List Variable) (values : List ℤ) (v : ℕ) (T : Ty) → AreValues vs values → All (λ x. IsTy x.ty) vs → slice_get (types_of vs) v ≡ Some T → IsSoundWord (word_at (words_of vs values) v) × (T ≡ (word_at (words_of vs values) v).ty)
variable_sound [] values v T a w e = absurd (cc)
variable_sound (y ∷ vs) [] v T a w e = absurd a
variable_sound (y ∷ vs) (m ∷ values) zero T a w e = (record { ty = w 0 y (omega arith); value = a.0 }, sym (same y.ty T e))
  where
    same : (a b : Ty) → Some a ≡ Some b → a ≡ b
    same a b e = cc
variable_sound (y ∷ vs) (m ∷ values) (suc v) T a w e = variable_sound vs values v T a.1 (λ k d less. w (suc k) d (omega arith)) e

-- so it is with a variable that has a type
there : (o : Option Ty) → is_some o ≡ true → (T : Ty) × (o ≡ Some T)
there None e = absurd (cc)
there (Some T) e = (T, refl)

pub variable_typed : (vs : List Variable) (values : List ℤ) (v : ℕ) → AreValues vs values → All (λ x. IsTy x.ty) vs → is_some (slice_get (types_of vs) v) ≡ true → slice_get (types_of vs) v ≡ Some (word_at (words_of vs values) v).ty
variable_typed vs values v a w e =
    let t = there (slice_get (types_of vs) v) e in
    t.1 ∙ ap (λ (T : Ty). Some T) (variable_sound vs values v t.0 a w t.1).1

pub variable_word : (vs : List Variable) (values : List ℤ) (v : ℕ) → AreValues vs values → All (λ x. IsTy x.ty) vs → is_some (slice_get (types_of vs) v) ≡ true → IsSoundWord (word_at (words_of vs values) v)
variable_word vs values v a w e =
    let t = there (slice_get (types_of vs) v) e in
    (variable_sound vs values v t.0 a w t.1).0
