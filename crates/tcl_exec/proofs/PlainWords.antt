-- Plain instructions can be executed at words of one type, and their result is the wrapped value.
use Rattle.std.proofs.Common.{◌≡◌, ℕ, ◌<◌, ◌≤◌, refl, arith, ℤ, pos, Bool, true, false, [], ◌∷◌}
use Rattle.std.proofs.lemmas.Int.{ints}
use Rattle.tcl_num.proofs.WrappedValues.{wrapped_in_range}
use Rattle.tcl_lang.specs.declared.ty.Ty.{Ty}
use Rattle.tcl_lang.specs.declared.instr.Op.{Op}
use Rattle.tcl_lang.specs.declared.instr.Op.TheVariants.{Mov, Add, Adds, Adc, Adcs, Sub, Subb, Sbb, Sbbs, Mul, Mull, Mulj, Shl, Split, Join, Cast, Vpc, Cmov, And, Or, Xor, Not, Nondet}
use Rattle.tcl_lang.specs.Types.{IsTy, InType, wrap_of, least_width}
use Rattle.tcl_lang.specs.Results.{row_results}
use Rattle.tcl_lang.specs.Range.{wrapped_word}
use Rattle.tcl_lang.specs.Operands.{IsWordValue, HasOperands}
use Rattle.tcl_lang.proofs.TypedStores.{word_value}
use Rattle.tcl_exec.specs.Plain.{is_plain, plain_value}
use Rattle.tcl_exec.specs.Sound.{IsSoundWord}

value_word : (T : Ty) (n : ℤ) → IsTy T → InType T n → IsWordValue n
value_word T n h i = word_value T.signed T.width n h.1 i

zero_word : IsWordValue (pos 0)
zero_word = record { least = omega (arith, ints); below = omega (arith, ints) }

pub has_plain : (op : Op) (T : Ty) (a b : ℤ) → is_plain op ≡ true → IsTy T → InType T a → InType T b → HasOperands op T 0 a b (pos 0)
has_plain Mov T a b e h p q = absurd (cc)
has_plain Add T a b e h p q =
    record { type_of_words = h; allowed = refl; amount = refl; words = (value_word T a h p, value_word T b h q, zero_word); first = p; second = q; third = tt }
has_plain Adds T a b e h p q = absurd (cc)
has_plain Adc T a b e h p q = absurd (cc)
has_plain Adcs T a b e h p q = absurd (cc)
has_plain Sub T a b e h p q =
    record { type_of_words = h; allowed = refl; amount = refl; words = (value_word T a h p, value_word T b h q, zero_word); first = p; second = q; third = tt }
has_plain Subb T a b e h p q = absurd (cc)
has_plain Sbb T a b e h p q = absurd (cc)
has_plain Sbbs T a b e h p q = absurd (cc)
has_plain Mul T a b e h p q =
    record { type_of_words = h; allowed = refl; amount = refl; words = (value_word T a h p, value_word T b h q, zero_word); first = p; second = q; third = tt }
has_plain Mull T a b e h p q = absurd (cc)
has_plain Mulj T a b e h p q = absurd (cc)
has_plain Shl T a b e h p q = absurd (cc)
has_plain Split T a b e h p q = absurd (cc)
has_plain Join T a b e h p q = absurd (cc)
has_plain Cast T a b e h p q = absurd (cc)
has_plain Vpc T a b e h p q = absurd (cc)
has_plain Cmov T a b e h p q = absurd (cc)
has_plain And T a b e h p q =
    record { type_of_words = h; allowed = refl; amount = refl; words = (value_word T a h p, value_word T b h q, zero_word); first = p; second = q; third = tt }
has_plain Or T a b e h p q =
    record { type_of_words = h; allowed = refl; amount = refl; words = (value_word T a h p, value_word T b h q, zero_word); first = p; second = q; third = tt }
has_plain Xor T a b e h p q =
    record { type_of_words = h; allowed = refl; amount = refl; words = (value_word T a h p, value_word T b h q, zero_word); first = p; second = q; third = tt }
has_plain Not T a b e h p q =
    record { type_of_words = h; allowed = refl; amount = refl; words = (value_word T a h p, value_word T b h q, zero_word); first = p; second = tt; third = tt }
has_plain Nondet T a b e h p q = absurd (cc)

pub plain_row : (op : Op) (T : Ty) (a b : ℤ) → is_plain op ≡ true → row_results op T 0 a b (pos 0) ≡ wrap_of T (plain_value op T a b) ∷ []
plain_row Mov T a b e = absurd (cc)
plain_row Add T a b e = refl
plain_row Adds T a b e = absurd (cc)
plain_row Adc T a b e = absurd (cc)
plain_row Adcs T a b e = absurd (cc)
plain_row Sub T a b e = refl
plain_row Subb T a b e = absurd (cc)
plain_row Sbb T a b e = absurd (cc)
plain_row Sbbs T a b e = absurd (cc)
plain_row Mul T a b e = refl
plain_row Mull T a b e = absurd (cc)
plain_row Mulj T a b e = absurd (cc)
plain_row Shl T a b e = absurd (cc)
plain_row Split T a b e = absurd (cc)
plain_row Join T a b e = absurd (cc)
plain_row Cast T a b e = absurd (cc)
plain_row Vpc T a b e = absurd (cc)
plain_row Cmov T a b e = absurd (cc)
plain_row And T a b e = refl
plain_row Or T a b e = refl
plain_row Xor T a b e = refl
plain_row Not T a b e = refl
plain_row Nondet T a b e = absurd (cc)

-- a wrapped value is a value of the type
pub wrapped_sound : (T : Ty) (n : ℤ) → IsTy T → IsSoundWord (wrapped_word T n)
wrapped_sound T n h = record { ty = h; value = wrapped_in_range T.signed T.width n (positive T.signed T.width h.0) }
  where
    positive : (s : Bool) (w : ℕ) → least_width s ≤ w → 0 < w
    positive true w p = omega (arith, p)
    positive false w p = omega (arith, p)
