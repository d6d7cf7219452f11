-- Stores in which each name holds a word of its type: what an instruction reads there, and what it writes.
use Rattle.std.proofs.Common.{◌≡◌, ◌⊎◌, inl, inr, ℕ, zero, suc, ◌-◌, ◌^◌, ◌<◌, ◌≤◌, refl, sym, ◌∙◌, ap, subst, arith, ℤ, int_lt, int_le, Bool, true, false, ◌||◌, List, [], ◌∷◌, length, get_or, set, Option, Some, None, nat_eq, nat_le, filter_map, neg_ℤ, pos}
use Rattle.std.specs.Option.{IfSome, is_none}
use Rattle.std.specs.List.{list_all, list_any, slice_get}
use Rattle.std.proofs.lemmas.Int.{ints}
use Rattle.std.proofs.lemmas.Bool.{and_parts, or_parts, eqb-true, leb-true, cases_eq, cases_lt}
use Rattle.std.proofs.lemmas.List.{length-set, get_or-set_same, get_or-set_other, set_past}
use Rattle.std.proofs.Math.Nat.{pow-le-pow_right}
use Rattle.tcl_num.specs.Range.{InRange, least_value, values_end}
use Rattle.tcl_lang.specs.declared.ty.Ty.{Ty}
use Rattle.tcl_lang.specs.declared.ty.Word.{Word}
use Rattle.tcl_lang.specs.declared.instr.Atom.{Atom}
use Rattle.tcl_lang.specs.declared.instr.Atom.TheVariants.{Var, Lit}
use Rattle.tcl_lang.specs.declared.instr.Op.{Op}
use Rattle.tcl_lang.specs.declared.instr.Op.TheVariants.{Mov, Add, Adds, Adc, Adcs, Sub, Subb, Sbb, Sbbs, Mul, Mull, Mulj, Shl, Split, Join, Cast, Vpc, Cmov, And, Or, Xor, Not, Nondet}
use Rattle.tcl_lang.specs.Types.{IsTy, InType, is_ty, is_in_type, same_type, same_sign, least_width}
use Rattle.tcl_lang.specs.Store.{empty_word, word_at, set_word, word_of}
use Rattle.tcl_lang.specs.Names.{name_of}
use Rattle.tcl_lang.specs.Line.{values_of, choice_type}
use Rattle.tcl_lang.specs.Run.{Fits, write_all, operands_of}
use Rattle.tcl_lang.specs.Typing.{type_at, atom_type, define_all, operand_types, suits, operands_suit, is_sound_literal, allows, allows_amount}
use Rattle.tcl_lang.specs.Shape.{is_atom}
use Rattle.tcl_lang.specs.Instruction.{operand_count}
use Rattle.tcl_lang.specs.Operands.{IsWordValue, MayStand, AreOperands, HasOperands, asked_types, may_stand, stands_in, has_operands}
use Rattle.tcl_lang.specs.Execution.{HoldsValues}
use Rattle.tcl_lang.proofs.ResultTypes.{AreTypes}

-- each name that has a type holds a word of it, and each word is a value of its type
pub record IsTypedStore (names : ℕ) (types : List (Option Ty)) (store : List Word) : Type 0 where
  pub type_count : length types ≡ names
  pub word_count : length store ≡ names
  pub typed : (name : ℕ) (T : Ty) → type_at types name ≡ Some T → IsTy T × ((word_at store name).ty ≡ T)
  pub values : HoldsValues store

-- equal by the tests
same_sign_is : (s t : Bool) → same_sign s t ≡ true → s ≡ t
same_sign_is true t e = sym e
same_sign_is false true e = absurd (cc)
same_sign_is false false e = refl

pub same_type_is : (T U : Ty) → same_type T U ≡ true → T ≡ U
same_type_is T U e =
    let parts = and_parts (same_sign T.signed U.signed) (nat_eq T.width U.width) e in
    let first : T ≡ record { signed = U.signed; width = T.width } = ap (λ (s : Bool). record { signed = s; width = T.width }) (same_sign_is T.signed U.signed parts.0) in
    let second : record { signed = U.signed; width = T.width } ≡ U = ap (λ (w : ℕ). record { signed = U.signed; width = w }) (eqb-true T.width U.width parts.1) in
    first ∙ second

pub is_ty_sound : (T : Ty) → is_ty T ≡ true → IsTy T
is_ty_sound T e =
    let parts = and_parts (nat_le (least_width T.signed) T.width) (nat_le T.width 64) e in
    (leb-true (least_width T.signed) T.width parts.0, leb-true T.width 64 parts.1)

pub is_in_type_sound : (T : Ty) (n : ℤ) → is_in_type T n ≡ true → InType T n
is_in_type_sound T n e =
    let parts = and_parts (int_le (least_value T.signed T.width) n) (int_lt n (values_end T.signed T.width)) e in
    (omega (arith, ints, parts.0), omega (arith, ints, parts.1))

-- a value of a type is a value that any word may have
pub word_value : (s : Bool) (w : ℕ) (n : ℤ) → w ≤ 64 → InRange s w n → IsWordValue n
word_value true w n h r =
    let half : 2 ^ (w - 1) ≤ 2 ^ 63 = pow-le-pow_right {n = 2} (omega arith) {i = w - 1} {j = 63} (omega arith) in
    record { least = omega (arith, ints, r.0, half); below = omega (arith, ints, r.1, half) }
word_value false w n h r =
    let whole : 2 ^ w ≤ 2 ^ 64 = pow-le-pow_right {n = 2} (omega arith) {i = w} {j = 64} h in
    record { least = omega (arith, ints, r.0); below = omega (arith, ints, r.1, whole) }

-- a word of a type that suits may stand
pub some_same : (T U : Ty) → Some T ≡ Some U → T ≡ U
some_same T U e = cc

word_stands : (T o : Option Ty) (W : Word) → is_none o ≡ false → suits T o ≡ true → ((U : Ty) → o ≡ Some U → IsTy U × (W.ty ≡ U)) → InType W.ty W.value → MayStand T W.value
word_stands T None W d s is v = absurd (cc)
word_stands None (Some U) W d s is v =
    let u = is U refl in
    word_value W.ty.signed W.ty.width W.value (subst (λ (X : Ty). X.width ≤ 64) (sym u.1) u.0.1) v
word_stands (Some T) (Some U) W d s is v =
    subst (λ (X : Ty). InType X W.value) ((is U refl).1 ∙ sym (same_type_is T U s)) v

atom_stands : (names : ℕ) (types : List (Option Ty)) (store : List Word) (T : Option Ty) (atom : Atom) → IsTypedStore names types store → list_any (λ name. is_none (type_at types name)) (filter_map name_of (atom ∷ [])) ≡ false → is_sound_literal atom ≡ true → is_atom atom ≡ true → suits T (atom_type types atom) ≡ true → MayStand T (word_of store atom).value
atom_stands names types store T (Var name) t d l a s =
    word_stands T (type_at types name) (word_at store name) (or_parts (is_none (type_at types name)) false d).0 s (t.typed name) (t.values name)
atom_stands names types store T (Lit U n) t d l a s =
    let is : (V : Ty) → ◌≡◌ {A = Option Ty} (Some U) (Some V) → IsTy V × (U ≡ V) = λ V e. (subst IsTy (some_same U V e) (is_ty_sound U (literal_type a)), some_same U V e) in
    word_stands T (Some U) (record { ty = U; value = n }) refl s is (is_in_type_sound U n l)
  where
    literal_type : is_atom (Lit U n) ≡ true → is_ty U ≡ true
    literal_type e = (and_parts (is_ty U) _ (and_parts _ _ e).0).0

-- what is said of the names of operands, split at the first
any_split : (p : ℕ → Bool) (atom : Atom) (atoms : List Atom) → list_any p (filter_map name_of (atom ∷ atoms)) ≡ false → (list_any p (filter_map name_of (atom ∷ [])) ≡ false) × (list_any p (filter_map name_of atoms) ≡ false)
any_split p (Var name) atoms e =
    let parts = or_parts (p name) (list_any p (filter_map name_of atoms)) e in (ap (λ b. b || false) parts.0, parts.1)
any_split p (Lit T n) atoms e = (refl, e)

-- operands of the types that are asked
pub operands_stand : (names : ℕ) (types : List (Option Ty)) (store : List Word) (Ts : List (Option Ty)) (atoms : List Atom) → IsTypedStore names types store → list_any (λ name. is_none (type_at types name)) (filter_map name_of atoms) ≡ false → list_all is_sound_literal atoms ≡ true → list_all is_atom atoms ≡ true → operands_suit types Ts atoms ≡ true → length atoms ≡ length Ts → AreOperands Ts (values_of store atoms)
operands_stand names types store [] [] t d l a s c = tt
operands_stand names types store [] (atom ∷ atoms) t d l a s c = absurd (omega arith)
operands_stand names types store (T ∷ Ts) [] t d l a s c = absurd (omega arith)
operands_stand names types store (T ∷ Ts) (atom ∷ atoms) t d l a s c =
    let defined = any_split (λ name. is_none (type_at types name)) atom atoms d in
    let sound = and_parts (is_sound_literal atom) (list_all is_sound_literal atoms) l in
    let shaped = and_parts (is_atom atom) (list_all is_atom atoms) a in
    let suited = and_parts (suits T (atom_type types atom)) (operands_suit types Ts atoms) s in (
      atom_stands names types store T atom t defined.0 sound.0 shaped.0 suited.0,
      operands_stand names types store Ts atoms t defined.1 sound.1 shaped.1 suited.1 (omega arith),
    )

-- the operands of an instruction, the choice for `nondet`
pub asked_operands : (op : Op) (T : Ty) (values : List ℤ) (choice : ℤ) → ((U : Ty) → choice_type op T ≡ Some U → InType U choice) → AreOperands (operand_types op T) values → AreOperands (asked_types op T) (operands_of op values choice)
asked_operands Nondet T values choice f p = (f T refl, tt)
asked_operands _ T values choice f p = p

pub operand_types_count : (op : Op) (T : Ty) → length (operand_types op T) ≡ operand_count op
operand_types_count Mov T = refl
operand_types_count Add T = refl
operand_types_count Adds T = refl
operand_types_count Adc T = refl
operand_types_count Adcs T = refl
operand_types_count Sub T = refl
operand_types_count Subb T = refl
operand_types_count Sbb T = refl
operand_types_count Sbbs T = refl
operand_types_count Mul T = refl
operand_types_count Mull T = refl
operand_types_count Mulj T = refl
operand_types_count Shl T = refl
operand_types_count Split T = refl
operand_types_count Join T = refl
operand_types_count Cast T = refl
operand_types_count Vpc T = refl
operand_types_count Cmov T = refl
operand_types_count And T = refl
operand_types_count Or T = refl
operand_types_count Xor T = refl
operand_types_count Not T = refl
operand_types_count Nondet T = refl

-- the types by place, as an element with a default
pub type_is : (types : List (Option Ty)) (name : ℕ) → type_at types name ≡ get_or types name None
type_is [] name = refl
type_is (T ∷ types) zero = refl
type_is (T ∷ types) (suc name) = type_is types name

-- what a name holds after a name was set: the new, or the old
set_cases : {X : Type 0} (xs : List X) (i j : ℕ) (x d : X) → (get_or (set xs i x) j d ≡ x) × (j ≡ i) × (i < length xs) ⊎ (get_or (set xs i x) j d ≡ get_or xs j d) × ((j ≡ i) × (i < length xs) → ⊥)
set_cases xs i j x d = elim (cases_eq j i) [
  | inl e ↦ elim (cases_lt i (length xs)) [
    | inl h ↦ inl (subst (λ k. get_or (set xs i x) k d ≡ x) (sym e) (get_or-set_same xs i x d h), e, h)
    | inr h ↦ inr (ap (λ ys. get_or ys j d) (set_past xs i x h), λ p. absurd (omega (arith, p.1)))
  ]
  | inr n ↦ inr (get_or-set_other xs i j x d n, λ p. n p.0)
]

pub typed_set : (names : ℕ) (types : List (Option Ty)) (store : List Word) (name : ℕ) (T : Ty) (n : ℤ) → IsTypedStore names types store → IsTy T → InType T n → IsTypedStore names (set types name (Some T)) (set_word store name T n)
typed_set names types store name T n t is v = record {
  type_count = length-set types name (Some T) ∙ t.type_count;
  word_count = length-set store name (record { ty = T; value = n }) ∙ t.word_count;
  typed = typed;
  values = values;
}
  where
    typed : (m : ℕ) (U : Ty) → type_at (set types name (Some T)) m ≡ Some U → IsTy U × ((word_at (set_word store name T n) m).ty ≡ U)
    typed m U e = elim (set_cases types name m (Some T) None) [
      | inl p ↦ elim (set_cases store name m (record { ty = T; value = n }) empty_word) [
        | inl q ↦
            let same : T ≡ U = some_same T U (sym p.0 ∙ sym (type_is (set types name (Some T)) m) ∙ e) in
            (subst IsTy same is, ap (λ (w : Word). w.ty) q.0 ∙ same)
        | inr q ↦ absurd (q.1 (p.1, omega (arith, p.2, t.type_count, t.word_count)))
      ]
      | inr p ↦ elim (set_cases store name m (record { ty = T; value = n }) empty_word) [
        | inl q ↦ absurd (p.1 (q.1, omega (arith, q.2, t.type_count, t.word_count)))
        | inr q ↦
            let old = t.typed m U (type_is types m ∙ sym p.0 ∙ sym (type_is (set types name (Some T)) m) ∙ e) in
            (old.0, ap (λ (w : Word). w.ty) q.0 ∙ old.1)
      ]
    ]

    values : HoldsValues (set_word store name T n)
    values m = elim (set_cases store name m (record { ty = T; value = n }) empty_word) [
      | inl q ↦ subst (λ (w : Word). InType w.ty w.value) (sym q.0) v
      | inr q ↦ subst (λ (w : Word). InType w.ty w.value) (sym q.0) (t.values m)
    ]

pub typed_all : (names : ℕ) (outs : List ℕ) (Ts : List Ty) (ns : List ℤ) (types : List (Option Ty)) (store : List Word) → IsTypedStore names types store → AreTypes Ts → Fits Ts ns → IsTypedStore names (define_all types outs Ts) (write_all store outs Ts ns)
typed_all names [] Ts ns types store t a f = t
typed_all names (name ∷ outs) [] ns types store t a f = t
typed_all names (name ∷ outs) (T ∷ Ts) [] types store t a f = absurd f
typed_all names (name ∷ outs) (T ∷ Ts) (n ∷ ns) types store t a f =
    typed_all names outs Ts ns (set types name (Some T)) (set_word store name T n) (typed_set names types store name T n t a.0 f.0) a.1 f.1

-- the tests of operands
may_stand_sound : (T : Option Ty) (n : ℤ) → may_stand T n ≡ true → MayStand T n
may_stand_sound None n e =
    let parts = and_parts (int_le (neg_ℤ (pos (2 ^ 63))) n) (int_lt n (pos (2 ^ 64))) e in
    record { least = omega (arith, ints, parts.0); below = omega (arith, ints, parts.1) }
may_stand_sound (Some T) n e = is_in_type_sound T n e

stands_in_sound : (o : Option (Option Ty)) (n : ℤ) → stands_in o n ≡ true → IfSome o (λ U. MayStand U n)
stands_in_sound None n e = tt
stands_in_sound (Some T) n e = may_stand_sound T n e

pub has_operands_sound : (op : Op) (T : Ty) (n : ℕ) (a b c : ℤ) → has_operands op T n a b c ≡ true → HasOperands op T n a b c
has_operands_sound op T n a b c e =
    let x8 = and_parts _ (stands_in (slice_get (asked_types op T) 2) c) e in
    let x7 = and_parts _ (stands_in (slice_get (asked_types op T) 1) b) x8.0 in
    let x6 = and_parts _ (stands_in (slice_get (asked_types op T) 0) a) x7.0 in
    let x5 = and_parts _ (may_stand None c) x6.0 in
    let x4 = and_parts _ (may_stand None b) x5.0 in
    let x3 = and_parts _ (may_stand None a) x4.0 in
    let x2 = and_parts _ (allows_amount op T n) x3.0 in
    let x1 = and_parts (is_ty T) (allows op T) x2.0 in
    record {
      type_of_words = is_ty_sound T x1.0;
      allowed = x1.1;
      amount = x2.1;
      words = (may_stand_sound None a x3.1, may_stand_sound None b x4.1, may_stand_sound None c x5.1);
      first = stands_in_sound (slice_get (asked_types op T) 0) a x6.1;
      second = stands_in_sound (slice_get (asked_types op T) 1) b x7.1;
      third = stands_in_sound (slice_get (asked_types op T) 2) c x8.1;
    }
