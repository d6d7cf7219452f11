-- The operands of a well-typed instruction show words of the types that its row asks.
use Rattle.std.proofs.Common.{◌≡◌, ◌≢◌, ℕ, Bool, true, false, ◌&&◌, List, [], ◌∷◌, length, Option, Some, None, slice_get, refl, sym, ap, subst, arith}
use Rattle.std.specs.Option.{is_none}
use Rattle.std.proofs.lemmas.Bool.{and_parts}
use Rattle.tcl_gates.specs.declared.gate.Gate.{Gate}
use Rattle.tcl_gates.specs.Meaning.{Shows}
use Rattle.tcl_gates.specs.Meaning.Shows.{none}
use Rattle.tcl_circuits.proofs.Chains.{constant_shows}
use Rattle.tcl_lang.specs.declared.ty.Ty.{Ty}
use Rattle.tcl_lang.specs.declared.instr.Atom.{Atom}
use Rattle.tcl_lang.specs.declared.instr.Atom.TheVariants.{Var, Lit}
use Rattle.tcl_lang.specs.declared.instr.Op.{Op}
use Rattle.tcl_lang.specs.declared.instr.Op.TheVariants.{Mov, Add, Adds, Adc, Adcs, Sub, Subb, Sbb, Sbbs, Mul, Mull, Mulj, Shl, Split, Join, Cast, Vpc, Cmov, And, Or, Xor, Not, Nondet}
use Rattle.tcl_lang.specs.Types.{IsTy, is_ty, bit_type, unsigned_of}
use Rattle.tcl_lang.specs.Typing.{atom_type, type_at, suits, operands_suit, operand_types}
use Rattle.tcl_lang.specs.Store.{word_of}
use Rattle.tcl_lang.specs.Shape.{is_atom}
use Rattle.tcl_lang.specs.Line.{values_of}
use Rattle.tcl_lang.specs.Instruction.{nth, operand_count}
use Rattle.tcl_lang.proofs.TypedStores.{same_type_is, is_ty_sound, is_in_type_sound}
use Rattle.tcl_words.specs.Words.{IsWord, AreOperands}
use Rattle.tcl_words.specs.Ranges.{atom_lits, atom_ty}
use Rattle.tcl_words.specs.Steps.{operand_lits}
use Rattle.tcl_words.proofs.Rows.{width_positive}
use Rattle.tcl_words.proofs.RangeTerms.{Setting, AtomsShown, constant_bits, constant_is}

-- the literals of an operand show a word of this type
pub record AtomShown (gates : List Gate) (free : List Bool) (s : Setting) (T : Ty) (atom : Atom) : Type 0 where
  pub bits : List Bool
  pub shows : Shows gates free (atom_lits s.words atom) bits
  pub word : IsWord T bits (word_of s.store atom).value

suits_is : (T : Ty) (o : Option Ty) → suits (Some T) o ≡ true → o ≡ Some T
suits_is T None e = absurd (cc)
suits_is T (Some U) e = ap Some (sym (same_type_is T U e))

some_is : {T U : Ty} → Some T ≡ Some U → T ≡ U
some_is e = cc

pub atom_word : {gates : List Gate} {free : List Bool} {s : Setting} (T : Ty) (k : ℕ) (atom : Atom) (atoms : List Atom) → IsTy T → slice_get atoms k ≡ Some atom → suits (Some T) (atom_type s.types atom) ≡ true → AtomsShown gates free s atoms → AtomShown gates free s T atom
atom_word {s = s} T k (Var v) atoms h i e st =
    let x = st.each k v T i (suits_is T (type_at s.types v) e) in
    record { bits = x.bits; shows = x.shows; word = x.value }
atom_word {gates} {free} {s} T k (Lit U n) atoms h i e st =
    let same : U ≡ T = some_is (suits_is T (Some U) e) in
    let ok : IsTy U = subst IsTy (sym same) h in
    record {
      bits = constant_bits U.width n;
      shows = constant_shows gates free U.width n;
      word = subst (λ V. IsWord V (constant_bits U.width n) n) same (constant_is U n (width_positive U ok) (is_in_type_sound U n (st.sound k (Lit U n) i)));
    }

-- the first operand of a cast has any type
pub has_type : (o : Option Ty) → is_none o ≡ false → (T : Ty) × (o ≡ Some T)
has_type None e = absurd (cc)
has_type (Some T) e = (T, refl)

pub any_word : {gates : List Gate} {free : List Bool} {s : Setting} (k : ℕ) (atom : Atom) (atoms : List Atom) → is_atom atom ≡ true → slice_get atoms k ≡ Some atom → is_none (atom_type s.types atom) ≡ false → AtomsShown gates free s atoms
    → AtomShown gates free s (atom_ty s.variables atom) atom
any_word {gates} {free} {s} k (Var v) atoms h i e st =
    let T = has_type (type_at s.types v) e in
    let x = st.each k v T.0 i T.1 in
    record { bits = x.bits; shows = x.shows; word = subst (λ V. IsWord V x.bits (word_of s.store (Var v)).value) (sym x.ty) x.value }
any_word {gates} {free} {s} k (Lit U n) atoms h i e st =
    let ok : IsTy U = is_ty_sound U (and_parts (is_ty U) _ (and_parts (is_ty U && _) _ h).0).0 in
    record { bits = constant_bits U.width n; shows = constant_shows gates free U.width n; word = constant_is U n (width_positive U ok) (is_in_type_sound U n (st.sound k (Lit U n) i)) }

-- the literals of all operands show words that the row takes
pub record OperandsShown (gates : List Gate) (free : List Bool) (s : Setting) (op : Op) (T S : Ty) (atoms : List Atom) : Type 0 where
  pub xs : List Bool
  pub ys : List Bool
  pub zs : List Bool
  pub first : Shows gates free (operand_lits s.words atoms 0) xs
  pub second : Shows gates free (operand_lits s.words atoms 1) ys
  pub third : Shows gates free (operand_lits s.words atoms 2) zs
  pub are : AreOperands op T S xs ys zs (nth (values_of s.store atoms) 0) (nth (values_of s.store atoms) 1) (nth (values_of s.store atoms) 2)

pub record OneShown (gates : List Gate) (free : List Bool) (s : Setting) (A : Ty) (atoms : List Atom) : Type 0 where
  pub xs : List Bool
  pub first : Shows gates free (operand_lits s.words atoms 0) xs
  pub second : Shows gates free (operand_lits s.words atoms 1) []
  pub third : Shows gates free (operand_lits s.words atoms 2) []
  pub word : IsWord A xs (nth (values_of s.store atoms) 0)

one_shown : {gates : List Gate} {free : List Bool} {s : Setting} (A : Ty) (atoms : List Atom) → IsTy A → length atoms ≡ 1 → operands_suit s.types (Some A ∷ []) atoms ≡ true → AtomsShown gates free s atoms → OneShown gates free s A atoms
one_shown A [] a e f st = absurd (omega (arith, e))
one_shown A (x ∷ []) a e f st =
    let p = atom_word A 0 x (x ∷ []) a refl (and_parts _ true f).0 st in
    record { xs = p.bits; first = p.shows; second = none; third = none; word = p.word }
one_shown A (x ∷ y ∷ atoms) a e f st = absurd (omega (arith, e))

pub record TwoShown (gates : List Gate) (free : List Bool) (s : Setting) (A B : Ty) (atoms : List Atom) : Type 0 where
  pub xs : List Bool
  pub ys : List Bool
  pub first : Shows gates free (operand_lits s.words atoms 0) xs
  pub second : Shows gates free (operand_lits s.words atoms 1) ys
  pub third : Shows gates free (operand_lits s.words atoms 2) []
  pub one : IsWord A xs (nth (values_of s.store atoms) 0)
  pub two : IsWord B ys (nth (values_of s.store atoms) 1)

two_shown : {gates : List Gate} {free : List Bool} {s : Setting} (A B : Ty) (atoms : List Atom) → IsTy A → IsTy B → length atoms ≡ 2 → operands_suit s.types (Some A ∷ Some B ∷ []) atoms ≡ true → AtomsShown gates free s atoms → TwoShown gates free s A B atoms
two_shown A B [] a b e f st = absurd (omega (arith, e))
two_shown A B (x ∷ []) a b e f st = absurd (omega (arith, e))
two_shown A B (x ∷ y ∷ []) a b e f st =
    let f1 = and_parts _ _ f in
    let p = atom_word A 0 x (x ∷ y ∷ []) a refl f1.0 st in
    let q = atom_word B 1 y (x ∷ y ∷ []) b refl (and_parts _ true f1.1).0 st in
    record { xs = p.bits; ys = q.bits; first = p.shows; second = q.shows; third = none; one = p.word; two = q.word }
two_shown A B (x ∷ y ∷ z ∷ atoms) a b e f st = absurd (omega (arith, e))

pub record ThreeShown (gates : List Gate) (free : List Bool) (s : Setting) (A B C : Ty) (atoms : List Atom) : Type 0 where
  pub xs : List Bool
  pub ys : List Bool
  pub zs : List Bool
  pub first : Shows gates free (operand_lits s.words atoms 0) xs
  pub second : Shows gates free (operand_lits s.words atoms 1) ys
  pub third : Shows gates free (operand_lits s.words atoms 2) zs
  pub one : IsWord A xs (nth (values_of s.store atoms) 0)
  pub two : IsWord B ys (nth (values_of s.store atoms) 1)
  pub three : IsWord C zs (nth (values_of s.store atoms) 2)

three_shown : {gates : List Gate} {free : List Bool} {s : Setting} (A B C : Ty) (atoms : List Atom) → IsTy A → IsTy B → IsTy C → length atoms ≡ 3 → operands_suit s.types (Some A ∷ Some B ∷ Some C ∷ []) atoms ≡ true → AtomsShown gates free s atoms
    → ThreeShown gates free s A B C atoms
three_shown A B C [] a b c e f st = absurd (omega (arith, e))
three_shown A B C (x ∷ []) a b c e f st = absurd (omega (arith, e))
three_shown A B C (x ∷ y ∷ []) a b c e f st = absurd (omega (arith, e))
three_shown A B C (x ∷ y ∷ z ∷ []) a b c e f st =
    let f1 = and_parts _ _ f in
    let f2 = and_parts _ _ f1.1 in
    let p = atom_word A 0 x (x ∷ y ∷ z ∷ []) a refl f1.0 st in
    let q = atom_word B 1 y (x ∷ y ∷ z ∷ []) b refl f2.0 st in
    let r = atom_word C 2 z (x ∷ y ∷ z ∷ []) c refl (and_parts _ true f2.1).0 st in
    record { xs = p.bits; ys = q.bits; zs = r.bits; first = p.shows; second = q.shows; third = r.shows; one = p.word; two = q.word; three = r.word }
three_shown A B C (x ∷ y ∷ z ∷ w ∷ atoms) a b c e f st = absurd (omega (arith, e))

-- one operand of any type
any_shown : {gates : List Gate} {free : List Bool} {s : Setting} (S : Ty) (atoms : List Atom) → length atoms ≡ 1 → ((atom : Atom) → slice_get atoms 0 ≡ Some atom → (S ≡ atom_ty s.variables atom) × (is_atom atom ≡ true) × (is_none (atom_type s.types atom) ≡ false))
    → AtomsShown gates free s atoms → OneShown gates free s S atoms
any_shown S [] e h st = absurd (omega (arith, e))
any_shown {s = s} S (x ∷ []) e h st =
    let k = h x refl in
    let p = any_word 0 x (x ∷ []) k.1 refl k.2 st in
    record { xs = p.bits; first = p.shows; second = none; third = none; word = subst (λ V. IsWord V p.bits (word_of s.store x).value) (sym k.0) p.word }
any_shown S (x ∷ y ∷ atoms) e h st = absurd (omega (arith, e))

from_one : {gates : List Gate} {free : List Bool} {s : Setting} {A : Ty} {atoms : List Atom} (op : Op) (T S : Ty)
    → (x : OneShown gates free s A atoms) → AreOperands op T S x.xs [] [] (nth (values_of s.store atoms) 0) (nth (values_of s.store atoms) 1) (nth (values_of s.store atoms) 2) → OperandsShown gates free s op T S atoms
from_one op T S x are = record { xs = x.xs; ys = []; zs = []; first = x.first; second = x.second; third = x.third; are = are }

from_two : {gates : List Gate} {free : List Bool} {s : Setting} {A B : Ty} {atoms : List Atom} (op : Op) (T S : Ty)
    → (x : TwoShown gates free s A B atoms) → AreOperands op T S x.xs x.ys [] (nth (values_of s.store atoms) 0) (nth (values_of s.store atoms) 1) (nth (values_of s.store atoms) 2) → OperandsShown gates free s op T S atoms
from_two op T S x are = record { xs = x.xs; ys = x.ys; zs = []; first = x.first; second = x.second; third = x.third; are = are }

from_three : {gates : List Gate} {free : List Bool} {s : Setting} {A B C : Ty} {atoms : List Atom} (op : Op) (T S : Ty)
    → (x : ThreeShown gates free s A B C atoms) → AreOperands op T S x.xs x.ys x.zs (nth (values_of s.store atoms) 0) (nth (values_of s.store atoms) 1) (nth (values_of s.store atoms) 2) → OperandsShown gates free s op T S atoms
from_three op T S x are = record { xs = x.xs; ys = x.ys; zs = x.zs; first = x.first; second = x.second; third = x.third; are = are }

a_bit : IsTy bit_type
a_bit = (omega arith, omega arith)

an_unsigned : (T : Ty) → IsTy T → IsTy (unsigned_of T)
an_unsigned T h = let w = width_positive T h in (omega (arith, w), h.1)

-- what typing says of an instruction's operands
pub record AreTypedOperands (s : Setting) (op : Op) (T S : Ty) (atoms : List Atom) : Type 0 where
  pub of_words : IsTy T
  pub taken : op ≢ Nondet
  pub count : length atoms ≡ operand_count op
  pub suit : operands_suit s.types (operand_types op T) atoms ≡ true
  pub any : (atom : Atom) → slice_get atoms 0 ≡ Some atom → (S ≡ atom_ty s.variables atom) × (is_atom atom ≡ true) × (is_none (atom_type s.types atom) ≡ false)

pub operands_shown : {gates : List Gate} {free : List Bool} {s : Setting} (op : Op) (T S : Ty) (atoms : List Atom) → AreTypedOperands s op T S atoms → AtomsShown gates free s atoms → OperandsShown gates free s op T S atoms
operands_shown Mov T S atoms h st = let x = one_shown T atoms h.of_words h.count h.suit st in from_one Mov T S x x.word
operands_shown Add T S atoms h st = let x = two_shown T T atoms h.of_words h.of_words h.count h.suit st in from_two Add T S x (x.one, x.two)
operands_shown Adds T S atoms h st = let x = two_shown T T atoms h.of_words h.of_words h.count h.suit st in from_two Adds T S x (x.one, x.two)
operands_shown Adc T S atoms h st = let x = three_shown T T bit_type atoms h.of_words h.of_words a_bit h.count h.suit st in from_three Adc T S x (x.one, x.two, x.three)
operands_shown Adcs T S atoms h st = let x = three_shown T T bit_type atoms h.of_words h.of_words a_bit h.count h.suit st in from_three Adcs T S x (x.one, x.two, x.three)
operands_shown Sub T S atoms h st = let x = two_shown T T atoms h.of_words h.of_words h.count h.suit st in from_two Sub T S x (x.one, x.two)
operands_shown Subb T S atoms h st = let x = two_shown T T atoms h.of_words h.of_words h.count h.suit st in from_two Subb T S x (x.one, x.two)
operands_shown Sbb T S atoms h st = let x = three_shown T T bit_type atoms h.of_words h.of_words a_bit h.count h.suit st in from_three Sbb T S x (x.one, x.two, x.three)
operands_shown Sbbs T S atoms h st = let x = three_shown T T bit_type atoms h.of_words h.of_words a_bit h.count h.suit st in from_three Sbbs T S x (x.one, x.two, x.three)
operands_shown Mul T S atoms h st = let x = two_shown T T atoms h.of_words h.of_words h.count h.suit st in from_two Mul T S x (x.one, x.two)
operands_shown Mull T S atoms h st = let x = two_shown T T atoms h.of_words h.of_words h.count h.suit st in from_two Mull T S x (x.one, x.two)
operands_shown Mulj T S atoms h st = let x = two_shown T T atoms h.of_words h.of_words h.count h.suit st in from_two Mulj T S x (x.one, x.two)
operands_shown Shl T S atoms h st = let x = one_shown T atoms h.of_words h.count h.suit st in from_one Shl T S x x.word
operands_shown Split T S atoms h st = let x = one_shown T atoms h.of_words h.count h.suit st in from_one Split T S x x.word
operands_shown Join T S atoms h st = let x = two_shown T (unsigned_of T) atoms h.of_words (an_unsigned T h.of_words) h.count h.suit st in from_two Join T S x (x.one, x.two)
operands_shown Cast T S atoms h st = let x = any_shown S atoms h.count h.any st in from_one Cast T S x x.word
operands_shown Vpc T S atoms h st = let x = any_shown S atoms h.count h.any st in from_one Vpc T S x x.word
operands_shown Cmov T S atoms h st = let x = three_shown bit_type T T atoms a_bit h.of_words h.of_words h.count h.suit st in from_three Cmov T S x (x.one, x.two, x.three)
operands_shown And T S atoms h st = let x = two_shown T T atoms h.of_words h.of_words h.count h.suit st in from_two And T S x (x.one, x.two)
operands_shown Or T S atoms h st = let x = two_shown T T atoms h.of_words h.of_words h.count h.suit st in from_two Or T S x (x.one, x.two)
operands_shown Xor T S atoms h st = let x = two_shown T T atoms h.of_words h.of_words h.count h.suit st in from_two Xor T S x (x.one, x.two)
operands_shown Not T S atoms h st = let x = one_shown T atoms h.of_words h.count h.suit st in from_one Not T S x x.word
operands_shown Nondet T S atoms h st = absurd (h.taken refl)
