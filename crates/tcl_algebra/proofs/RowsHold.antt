-- The row of each instruction: the term that its last result equals has that value, where the instruction is executed, and
-- a row with an exactness condition where the condition holds.
use Rattle.std.proofs.Common.{◌≡◌, ◌⊎◌, inl, inr, ℕ, zero, suc, ◌-◌, ◌^◌, ◌<◌, refl, sym, ◌∙◌, ap, subst, arith, ℤ, pos, negsuc, neg_ℤ, ◌+ℤ◌, ◌-ℤ◌, ◌*ℤ◌, bit_and, bit_or, bit_xor, int_le, Bool, true, false, not, ◌||◌, if◌then◌else◌, nat_eq, List, Some, None, IfSome}
use Rattle.std.proofs.lemmas.Int.{ints}
use Rattle.std.proofs.lemmas.Nat.{pow_pos}
use Rattle.std.proofs.lemmas.Bool.{and_parts, eqb-true}
use Rattle.tcl_num.specs.Congruence.{Congruent}
use Rattle.tcl_num.specs.Range.{InRange, least_value}
use Rattle.tcl_num.proofs.IntegerRing.{int_mul_comm, int_mul_neg, int_mul_add, int_mul_one}
use Rattle.tcl_num.proofs.Congruences.{congruent_same, congruent_remainder}
use Rattle.tcl_num.proofs.WrappedValues.{wrapped_only}
use Rattle.tcl_lang.specs.declared.ty.Ty.{Ty}
use Rattle.tcl_lang.specs.declared.ty.Word.{Word}
use Rattle.tcl_lang.specs.declared.instr.Op.{Op}
use Rattle.tcl_lang.specs.declared.instr.Op.TheVariants.{Mov, Add, Adds, Adc, Adcs, Sub, Subb, Sbb, Sbbs, Mul, Mull, Mulj, Shl, Split, Join, Cast, Vpc, Cmov, And, Or, Xor, Not, Nondet}
use Rattle.tcl_lang.specs.declared.term.Term.{Term}
use Rattle.tcl_lang.specs.declared.term.Term as plain_term
use Rattle.tcl_lang.specs.declared.term.Term.TheViews as term
use Rattle.tcl_lang.specs.Types.{IsTy, InType, IsWrap, is_in_type, bit_type}
use Rattle.tcl_lang.specs.Store.{pattern_of}
use Rattle.tcl_lang.specs.Instruction.{Relates, IsChoice, HasPattern, nth}
use Rattle.tcl_lang.specs.Exactness.{has_condition, exact_value, is_exact}
use Rattle.tcl_lang.specs.Operands.{IsExecutable}
use Rattle.tcl_lang.specs.Term.{term_value}
use Rattle.tcl_lang.proofs.WrappedWords.{type_width, wrap_only, wrap_fixed}
use Rattle.tcl_lang.proofs.TypedStores.{is_in_type_sound}
use Rattle.tcl_lang.proofs.ResultRows.{pattern_remainder, pattern_below}
use Rattle.tcl_lang.proofs.StepLaw.{asked}
use Rattle.tcl_algebra.specs.Row.{on_bit, shifted, flipped_term, row_term, holds_all, may_lose, counts}
use Rattle.tcl_algebra.proofs.TermForms.{value_num, adds, subs, muls, shifts}

-- the last of one or two results
abbrev pub last_value : Op → ℤ → ℤ → ℤ
last_value Adds x y = y
last_value Adcs x y = y
last_value Subb x y = y
last_value Sbbs x y = y
last_value Mull x y = y
last_value Split x y = y
last_value _ x y = x

-- a wrapped value that is exact
exact_wrap : (T : Ty) (n x : ℤ) → IsTy T → IsWrap T n x → is_in_type T n ≡ true → n ≡ x
exact_wrap T n x ty w e = sym (wrap_only T n x ty w ∙ wrap_fixed T n ty (is_in_type_sound T n e))

-- a bit is 0 or 1
pub bit_cases : (n : ℤ) → InType bit_type n → (n ≡ pos 0) ⊎ (n ≡ pos 1)
bit_cases (pos zero) h = inl refl
bit_cases (pos (suc zero)) h = inr refl
bit_cases (pos (suc (suc n))) h = absurd (omega (arith, ints, h.1))
bit_cases (negsuc n) h = absurd (omega (arith, ints, h.0))

-- the choice as a product
choice_value : (a b c x : ℤ) → (a ≡ pos 0) ⊎ (a ≡ pos 1) → IsChoice a b c x → (a *ℤ b +ℤ c) -ℤ a *ℤ c ≡ x
choice_value a b c x (inl e) h =
    let other : x ≡ c = h.otherwise (λ f. absurd (omega (arith, ints, e, f))) in
    ap (λ k. (k *ℤ b +ℤ c) -ℤ k *ℤ c) e ∙ omega (arith, ints, other)
choice_value a b c x (inr e) h =
    let chosen : x ≡ b = h.chosen e in
    ap (λ k. (k *ℤ b +ℤ c) -ℤ k *ℤ c) e ∙ omega (arith, ints, chosen)

-- the type of a word of one bit
pub bit_ty : (s : Bool) (w : ℕ) → IsTy (record { signed = s; width = w }) → w ≡ 1 → ◌≡◌ {A = Ty} (record { signed = s; width = w }) bit_type
bit_ty true w t e = absurd (omega (arith, t.0, e))
bit_ty false w t e = λ i. record { signed = false; width = e i }

bit_pattern : (x : ℤ) (k : ℕ) → (x ≡ pos 0) ⊎ (x ≡ pos 1) → pattern_of 1 x ≡ k → x ≡ pos k
bit_pattern x k (inl e) h = e ∙ ap pos (sym (ap (pattern_of 1) e) ∙ h)
bit_pattern x k (inr e) h = e ∙ ap pos (sym (ap (pattern_of 1) e) ∙ h)

-- a result whose pattern is a function of the patterns of two bits
bit_row : (F : ℤ → ℤ → ℤ) (G : ℕ → ℕ → ℕ) (a b x : ℤ) → (a ≡ pos 0) ⊎ (a ≡ pos 1) → (b ≡ pos 0) ⊎ (b ≡ pos 1) → (x ≡ pos 0) ⊎ (x ≡ pos 1) → pattern_of 1 x ≡ G (pattern_of 1 a) (pattern_of 1 b) → F (pos 0) (pos 0) ≡ pos (G 0 0) → F (pos 0) (pos 1) ≡ pos (G 0 1) → F (pos 1) (pos 0) ≡ pos (G 1 0) → F (pos 1) (pos 1) ≡ pos (G 1 1) → F a b ≡ x
bit_row F G a b x (inl e) (inl f) c h r s t u =
    (λ i. F (e i) (f i)) ∙ r ∙ sym (bit_pattern x (G 0 0) c (h ∙ (λ i. G (pattern_of 1 (e i)) (pattern_of 1 (f i)))))
bit_row F G a b x (inl e) (inr f) c h r s t u =
    (λ i. F (e i) (f i)) ∙ s ∙ sym (bit_pattern x (G 0 1) c (h ∙ (λ i. G (pattern_of 1 (e i)) (pattern_of 1 (f i)))))
bit_row F G a b x (inr e) (inl f) c h r s t u =
    (λ i. F (e i) (f i)) ∙ t ∙ sym (bit_pattern x (G 1 0) c (h ∙ (λ i. G (pattern_of 1 (e i)) (pattern_of 1 (f i)))))
bit_row F G a b x (inr e) (inr f) c h r s t u =
    (λ i. F (e i) (f i)) ∙ u ∙ sym (bit_pattern x (G 1 1) c (h ∙ (λ i. G (pattern_of 1 (e i)) (pattern_of 1 (f i)))))

-- the three operations on bits
bit_op : (T : Ty) (F : ℤ → ℤ → ℤ) (G : ℕ → ℕ → ℕ) (a b x : ℤ) → IsTy T → T.width ≡ 1 → InType T a → InType T b → HasPattern T (G (pattern_of T.width a) (pattern_of T.width b)) x → F (pos 0) (pos 0) ≡ pos (G 0 0) → F (pos 0) (pos 1) ≡ pos (G 0 1) → F (pos 1) (pos 0) ≡ pos (G 1 0) → F (pos 1) (pos 1) ≡ pos (G 1 1) → F a b ≡ x
bit_op T F G a b x ty w ha hb h r s t u =
    let P : Ty → Type 0 = λ U. InType U a → InType U b → HasPattern U (G (pattern_of U.width a) (pattern_of U.width b)) x → F a b ≡ x in
    let at : P bit_type = λ ha hb h. bit_row F G a b x (bit_cases a ha) (bit_cases b hb) (bit_cases x h.in_type) h.bits r s t u in
    subst P (sym (bit_ty T.signed T.width ty w)) at ha hb h

on_bit_holds : (T : Ty) (t : Term) (P : Term → Type 0) → (T.width ≡ 1 → P t) → IfSome (on_bit T t) P
on_bit_holds T t P h = at (nat_eq T.width 1) refl
  where
    at : (b : Bool) → nat_eq T.width 1 ≡ b → IfSome (if b then Some t else None) P
    at true e = h (eqb-true T.width 1 e)
    at false e = tt

-- the flipped word
flip_near : (m p q : ℕ) (a x k l : ℤ) → q < m → p ≡ m - 1 - q → x ≡ pos p +ℤ pos m *ℤ k → a ≡ pos q +ℤ pos m *ℤ l → negsuc 0 -ℤ a ≡ x +ℤ pos m *ℤ neg_ℤ (pos 1 +ℤ (k +ℤ l))
flip_near m p q a x k l below e f g =
    omega (arith, ints, below, e, f, g, int_mul_neg (pos m) (pos 1 +ℤ (k +ℤ l)), int_mul_add (pos m) (pos 1) (k +ℤ l), int_mul_add (pos m) k l, int_mul_one (pos m))

flip_congruent : (w : ℕ) (a x : ℤ) → pattern_of w x ≡ 2 ^ w - 1 - pattern_of w a → Congruent (pos (2 ^ w)) (negsuc 0 -ℤ a) x
flip_congruent w a x h =
    let at = congruent_remainder (2 ^ w) a (pow_pos w) in
    let xt = congruent_remainder (2 ^ w) x (pow_pos w) in (
      neg_ℤ (pos 1 +ℤ (xt.0 +ℤ at.0)),
      flip_near (2 ^ w) (pattern_of w x) (pattern_of w a) a x xt.0 at.0 (pattern_below w a) h
          (xt.1 ∙ ap (λ n. n +ℤ pos (2 ^ w) *ℤ xt.0) (pattern_remainder w x))
          (at.1 ∙ ap (λ n. n +ℤ pos (2 ^ w) *ℤ at.0) (pattern_remainder w a)),
    )

shifted_congruent : (m : ℕ) (a x : ℤ) → 0 < m → Congruent (pos m) (negsuc 0 -ℤ a) x → Congruent (pos m) (pos (m - 1) -ℤ a) x
shifted_congruent m a x p (k, e) = (k +ℤ pos 1, omega (arith, ints, p, e, int_mul_add (pos m) k (pos 1), int_mul_one (pos m)))

one_in_range : (s : Bool) (w : ℕ) (n x : ℤ) → 0 < w → InRange s w n → InRange s w x → Congruent (pos (2 ^ w)) n x → n ≡ x
one_in_range s w n x p hn hx c =
    wrapped_only s w n n p hn (congruent_same (pos (2 ^ w)) n) ∙ sym (wrapped_only s w n x p hx c)

flip_row : (store : List Word) (s : Bool) (w : ℕ) (t : Term) (a x : ℤ) → 0 < w → term_value store t ≡ a → InRange s w a → InRange s w x → pattern_of w x ≡ 2 ^ w - 1 - pattern_of w a → term_value store (flipped_term (record { signed = s; width = w }) t) ≡ x
flip_row store true w t a x p e ha hx h =
    subs store (plain_term.Num (negsuc 0)) t (negsuc 0) a (value_num store (negsuc 0)) e
    ∙ one_in_range true w (negsuc 0 -ℤ a) x p (omega (arith, ints, ha.1), omega (arith, ints, ha.0)) hx (flip_congruent w a x h)
flip_row store false w t a x p e ha hx h =
    subs store (plain_term.Num (pos (2 ^ w - 1))) t (pos (2 ^ w - 1)) a (value_num store (pos (2 ^ w - 1))) e
    ∙ one_in_range false w (pos (2 ^ w - 1) -ℤ a) x p (omega (arith, ints, ha.1, pow_pos w), omega (arith, ints, ha.0, pow_pos w)) hx (shifted_congruent (2 ^ w) a x (pow_pos w) (flip_congruent w a x h))

-- a cast to a type that holds every value of the operand's type
wider : (T U : Ty) (a : ℤ) → holds_all T U ≡ true → InType U a → InType T a
wider T U a h p =
    let two = and_parts (int_le (least_value T.signed T.width) (least_value U.signed U.width)) _ h in
    (omega (arith, ints, two.0, p.0), omega (arith, ints, two.1, p.1))

not_lost : (b : Bool) → not b ≡ false → b ≡ true
not_lost true e = refl
not_lost false e = absurd (cc)

-- the exactness condition of a row
condition : (op : Op) (T : Ty) (n : ℕ) (values : List ℤ) (exact : Bool) → has_condition op ≡ true → counts op exact ≡ true → (exact ≡ true → is_exact op T n values ≡ true) → is_in_type T (exact_value op n (nth values 0) (nth values 1) (nth values 2)) ≡ true
condition op T n values exact has c h =
    let is : exact ≡ true = sym (ap (λ b. not b || exact) has) ∙ c in
    sym (ap (λ b. not b || is_in_type T (exact_value op n (nth values 0) (nth values 1) (nth values 2))) has) ∙ h is

-- what is known of an executed instruction: its operands, the terms that stand for them and for the first result, and its
-- results x and y
pub record IsRow (store : List Word) (op : Op) (T : Ty) (n : ℕ) (values : List ℤ) (a b c h : Term) (x y : ℤ) (U : Ty) (exact : Bool) : Type 0 where
  pub executable : IsExecutable op T n values
  pub first : term_value store a ≡ nth values 0
  pub second : term_value store b ≡ nth values 1
  pub third : term_value store c ≡ nth values 2
  pub high : term_value store h ≡ x
  pub row : Relates op T n (nth values 0) (nth values 1) (nth values 2) x y
  pub counted : counts op exact ≡ true
  pub exactness : exact ≡ true → is_exact op T n values ≡ true
  pub whole : may_lose op T U ≡ false
  pub source : op ≡ Cast → InType U (nth values 0)

abbrev Concludes : List Word → Op → Ty → ℕ → Term → Term → Term → Term → ℤ → ℤ → Type 0
Concludes store op T n a b c h x y = IfSome (row_term op T n a b c h) (λ t. term_value store t ≡ last_value op x y)

-- a row with an exactness condition
exact_row : (op : Op) (T : Ty) (n : ℕ) (values : List ℤ) (exact : Bool) (m x : ℤ) → has_condition op ≡ true → IsTy T → IsWrap T m x → counts op exact ≡ true → (exact ≡ true → is_exact op T n values ≡ true) → exact_value op n (nth values 0) (nth values 1) (nth values 2) ≡ m → m ≡ x
exact_row op T n values exact m x has ty w c h e =
    exact_wrap T m x ty w (sym (ap (is_in_type T) e) ∙ condition op T n values exact has c h)

pub row_holds : (store : List Word) (op : Op) (T : Ty) (n : ℕ) (values : List ℤ) (a b c h : Term) (x y : ℤ) (U : Ty) (exact : Bool) → IsRow store op T n values a b c h x y U exact → Concludes store op T n a b c h x y
row_holds store Mov T n values a b c h x y U exact r = r.first ∙ sym r.row
row_holds store Add T n values a b c h x y U exact r =
    adds store a b _ _ r.first r.second
    ∙ exact_row Add T n values exact (nth values 0 +ℤ nth values 1) x refl r.executable.type_of_words r.row r.counted r.exactness refl
row_holds store Adds T n values a b c h x y U exact r =
    subs store (term.Add a b) (shifted T.width h) _ _ (adds store a b _ _ r.first r.second) (shifts store T.width h x r.high)
    ∙ omega (arith, ints, r.row.whole)
row_holds store Adc T n values a b c h x y U exact r =
    adds store (term.Add a b) c _ _ (adds store a b _ _ r.first r.second) r.third
    ∙ exact_row Adc T n values exact (nth values 0 +ℤ nth values 1 +ℤ nth values 2) x refl r.executable.type_of_words r.row r.counted r.exactness refl
row_holds store Adcs T n values a b c h x y U exact r =
    subs store (term.Add (term.Add a b) c) (shifted T.width h) _ _ (adds store (term.Add a b) c _ _ (adds store a b _ _ r.first r.second) r.third) (shifts store T.width h x r.high)
    ∙ omega (arith, ints, r.row.whole)
row_holds store Sub T n values a b c h x y U exact r =
    subs store a b _ _ r.first r.second
    ∙ exact_row Sub T n values exact (nth values 0 -ℤ nth values 1) x refl r.executable.type_of_words r.row r.counted r.exactness refl
row_holds store Subb T n values a b c h x y U exact r =
    adds store (term.Sub a b) (shifted T.width h) _ _ (subs store a b _ _ r.first r.second) (shifts store T.width h x r.high)
    ∙ omega (arith, ints, r.row.whole)
row_holds store Sbb T n values a b c h x y U exact r =
    subs store (term.Sub a b) c _ _ (subs store a b _ _ r.first r.second) r.third
    ∙ exact_row Sbb T n values exact (nth values 0 -ℤ nth values 1 -ℤ nth values 2) x refl r.executable.type_of_words r.row r.counted r.exactness refl
row_holds store Sbbs T n values a b c h x y U exact r =
    adds store (term.Sub (term.Sub a b) c) (shifted T.width h) _ _ (subs store (term.Sub a b) c _ _ (subs store a b _ _ r.first r.second) r.third) (shifts store T.width h x r.high)
    ∙ omega (arith, ints, r.row.whole)
row_holds store Mul T n values a b c h x y U exact r =
    muls store a b _ _ r.first r.second
    ∙ exact_row Mul T n values exact (nth values 0 *ℤ nth values 1) x refl r.executable.type_of_words r.row r.counted r.exactness refl
row_holds store Mull T n values a b c h x y U exact r =
    subs store (term.Mul a b) (shifted T.width h) _ _ (muls store a b _ _ r.first r.second) (shifts store T.width h x r.high)
    ∙ omega (arith, ints, r.row.whole)
row_holds store Mulj T n values a b c h x y U exact r = muls store a b _ _ r.first r.second ∙ sym r.row
row_holds store Shl T n values a b c h x y U exact r =
    shifts store n a _ r.first
    ∙ int_mul_comm (pos (2 ^ n)) (nth values 0)
    ∙ exact_row Shl T n values exact (nth values 0 *ℤ pos (2 ^ n)) x refl r.executable.type_of_words r.row r.counted r.exactness refl
row_holds store Split T n values a b c h x y U exact r =
    subs store a (shifted n h) _ _ r.first (shifts store n h x r.high) ∙ omega (arith, ints, r.row.whole)
row_holds store Join T n values a b c h x y U exact r =
    adds store (shifted T.width a) b _ _ (shifts store T.width a _ r.first) r.second ∙ sym r.row
row_holds store Cast T n values a b c h x y U exact r =
    r.first
    ∙ sym (wrap_only T (nth values 0) x r.executable.type_of_words r.row ∙ wrap_fixed T (nth values 0) r.executable.type_of_words (wider T U (nth values 0) (not_lost (holds_all T U) r.whole) (r.source refl)))
row_holds store Vpc T n values a b c h x y U exact r =
    r.first
    ∙ exact_row Vpc T n values exact (nth values 0) x refl r.executable.type_of_words r.row r.counted r.exactness refl
row_holds store Cmov T n values a b c h x y U exact r =
    subs store (term.Add (term.Mul a b) c) (term.Mul a c) _ _ (adds store (term.Mul a b) c _ _ (muls store a b _ _ r.first r.second) r.third) (muls store a c _ _ r.first r.third)
    ∙ choice_value (nth values 0) (nth values 1) (nth values 2) x (bit_cases (nth values 0) (asked Cmov T n values r.executable 0 (Some bit_type) refl)) r.row
row_holds store And T n values a b c h x y U exact r =
    on_bit_holds T (term.Mul a b) (λ t. term_value store t ≡ x)
    (λ w. muls store a b _ _ r.first r.second
    ∙ bit_op T (λ m k. m *ℤ k) bit_and (nth values 0) (nth values 1) x r.executable.type_of_words w (asked And T n values r.executable 0 (Some T) refl) (asked And T n values r.executable 1 (Some T) refl) r.row refl refl refl refl)
row_holds store Or T n values a b c h x y U exact r =
    on_bit_holds T (term.Sub (term.Add a b) (term.Mul a b)) (λ t. term_value store t ≡ x)
    (λ w. subs store (term.Add a b) (term.Mul a b) _ _ (adds store a b _ _ r.first r.second) (muls store a b _ _ r.first r.second)
    ∙ bit_op T (λ m k. (m +ℤ k) -ℤ m *ℤ k) bit_or (nth values 0) (nth values 1) x r.executable.type_of_words w (asked Or T n values r.executable 0 (Some T) refl) (asked Or T n values r.executable 1 (Some T) refl) r.row refl refl refl refl)
row_holds store Xor T n values a b c h x y U exact r =
    on_bit_holds T (term.Sub (term.Add a b) (shifted 1 (term.Mul a b))) (λ t. term_value store t ≡ x)
    (λ w. subs store (term.Add a b) (shifted 1 (term.Mul a b)) _ _ (adds store a b _ _ r.first r.second) (shifts store 1 (term.Mul a b) _ (muls store a b _ _ r.first r.second))
    ∙ bit_op T (λ m k. (m +ℤ k) -ℤ pos (2 ^ 1) *ℤ (m *ℤ k)) bit_xor (nth values 0) (nth values 1) x r.executable.type_of_words w (asked Xor T n values r.executable 0 (Some T) refl) (asked Xor T n values r.executable 1 (Some T) refl) r.row refl refl refl refl)
row_holds store Not T n values a b c h x y U exact r =
    flip_row store T.signed T.width a (nth values 0) x (type_width T r.executable.type_of_words) r.first (asked Not T n values r.executable 0 (Some T) refl) r.row.in_type r.row.bits
row_holds store Nondet T n values a b c h x y U exact r = tt
