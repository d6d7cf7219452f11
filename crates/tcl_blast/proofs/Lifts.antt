-- The bits that a true algebraic line fixes have their values.
use Rattle.std.proofs.Common.{◌≡◌, inl, ℕ, zero, suc, ◌+◌, ◌-◌, ◌/◌, ◌%◌, ◌^◌, ◌<◌, ◌≤◌, ◌==◌, Bool, true, false, not, if◌then◌else◌, nat_lt, List, [], ◌∷◌, map, Option, Some, None, slice_get, refl, sym, ◌∙◌, ap, subst, arith, ℤ, pos, neg_ℤ, ◌-ℤ◌, unsigned_abs}
use Rattle.std.specs.List.{list_all}
use Rattle.std.specs.Int.{int_rem_euclid}
use Rattle.std.specs.Ordering.{int_eq}
use Rattle.std.proofs.lemmas.Bool.{and_parts, and_from}
use Rattle.std.proofs.lemmas.Bool.Decides.{Decides-int_eq}
use Rattle.std.proofs.lemmas.Nat.{pow-add}
use Rattle.std.proofs.lemmas.List.{map-append}
use Rattle.std.proofs.lemmas.List.Folds.{list_all-append}
use Rattle.std.proofs.Math.Pow.{pow_mono, field}
use Rattle.tcl_num.specs.Congruence.{Divides, Congruent}
use Rattle.tcl_num.proofs.Congruences.{congruent_remainder, remainder_congruent}
use Rattle.tcl_num.proofs.Divisibility.{is_multiple_sound, congruent_from_divides, congruent_divisor}
use Rattle.tcl_num.proofs.EuclideanDivision.{euclid_range, euclid_natural}
use Rattle.tcl_lang.specs.declared.ty.Ty.{Ty}
use Rattle.tcl_lang.specs.declared.ty.Word.{Word}
use Rattle.tcl_lang.specs.declared.term.Term.{Term, Term-F, roll-Term, map-Term, ind-Term}
use Rattle.tcl_lang.specs.declared.term.Term.TheFolds.{fold-roll-Term}
use Rattle.tcl_lang.specs.declared.term.Term.TheOpen as layer
use Rattle.tcl_lang.specs.declared.term.Part.{Part}
use Rattle.tcl_lang.specs.declared.term.AlgPred.{AlgPred}
use Rattle.tcl_lang.specs.declared.instr.Atom.TheVariants.{Var}
use Rattle.tcl_lang.specs.declared.variable.Variable.{Variable}
use Rattle.tcl_lang.specs.Values.{types_of}
use Rattle.tcl_lang.specs.Defined.{is_among}
use Rattle.tcl_lang.specs.Store.{word_at, pattern_of}
use Rattle.tcl_lang.specs.Names.{term_names_step, term_names}
use Rattle.tcl_lang.specs.Term.{value_step, term_value}
use Rattle.tcl_lang.specs.Modulus.{modulus_value}
use Rattle.tcl_lang.specs.Predicate.{agrees, algebraic_truth}
use Rattle.tcl_goals.specs.declared.fact.BitLit.{BitLit}
use Rattle.tcl_goals.specs.Numbers.{numbers_below}
use Rattle.tcl_goals.proofs.Numbers.{those_none, those_yes}
use Rattle.tcl_goals.specs.Holds.{bit_of, bit_holds, cube_holds}
use Rattle.tcl_words.specs.Ranges.{atom_ty}
use Rattle.tcl_words.proofs.Parts.{type_found}
use Rattle.tcl_blast.proofs.Members.{among_first}
use Rattle.tcl_blast.proofs.Beginnings.{those_pass}
use Rattle.tcl_blast.proofs.ReadBits.{IsReadable, AreReadable}
use Rattle.tcl_blast.specs.Lifted.{Leaf, variable, number, negated, other, negated_leaf, leaf_step, leaf_of, integer_of, variable_of, is_exponent_of, exponents_of, first_exponent, exponent_of, fixed_count, pattern_bit, bits_like, fixed_in, fixed_by, fixed_bits_of}

-- what the form of a term says of it
abbrev Says : List Word → Leaf → ℤ → List ℕ → Type 0
Says store (variable v) n names = (n ≡ (word_at store v).value) × (names ≡ v ∷ [])
Says store (number c) n names = n ≡ c
Says store (negated c) n names = n ≡ neg_ℤ c
Says store other n names = Unit {0}

abbrev SaysOf : List Word → Term → Type 0
SaysOf store t = Says store (leaf_of t) (term_value store t) (term_names t)

says_neg : (store : List Word) (l : Leaf) (n : ℤ) (names : List ℕ) → Says store l n names → Says store (negated_leaf l) (neg_ℤ n) names
says_neg store (variable v) n names s = tt
says_neg store (number c) n names s = ap neg_ℤ s
says_neg store (negated c) n names s = tt
says_neg store other n names s = tt

says_at : (store : List Word) (y : Term-F Term) (l : Leaf) (n : ℤ) (names : List ℕ) → leaf_of (roll-Term y) ≡ l → term_value store (roll-Term y) ≡ n → term_names (roll-Term y) ≡ names → Says store l n names → SaysOf store (roll-Term y)
says_at store y l n names e f g s =
    subst (λ k. Says store k (term_value store (roll-Term y)) (term_names (roll-Term y))) (sym e)
    (subst (λ m. Says store l m (term_names (roll-Term y))) (sym f) (subst (λ xs. Says store l n xs) (sym g) s))

abbrev SaysPair : List Word → Type 0
SaysPair store = (t : Term) × SaysOf store t

says_layer : (store : List Word) (y : Term-F (SaysPair store)) → SaysOf store (roll-Term (map-Term (SaysPair store) Term (λ e. e.0) y))
says_layer store (layer.Var v) = says_at store (layer.Var v) _ _ _ (fold-roll-Term Leaf leaf_step (layer.Var v)) (fold-roll-Term ℤ (value_step store) (layer.Var v)) (fold-roll-Term (List ℕ) term_names_step (layer.Var v)) (refl, refl)
says_layer store (layer.Num n) = says_at store (layer.Num n) _ _ _ (fold-roll-Term Leaf leaf_step (layer.Num n)) (fold-roll-Term ℤ (value_step store) (layer.Num n)) (fold-roll-Term (List ℕ) term_names_step (layer.Num n)) refl
says_layer store (layer.Neg a) =
    says_at store (layer.Neg a.0) _ _ _ (fold-roll-Term Leaf leaf_step (layer.Neg a.0)) (fold-roll-Term ℤ (value_step store) (layer.Neg a.0)) (fold-roll-Term (List ℕ) term_names_step (layer.Neg a.0))
    (says_neg store (leaf_of a.0) (term_value store a.0) (term_names a.0) a.1)
says_layer store (layer.Add a b) =
    says_at store (layer.Add a.0 b.0) _ _ _ (fold-roll-Term Leaf leaf_step (layer.Add a.0 b.0)) (fold-roll-Term ℤ (value_step store) (layer.Add a.0 b.0)) (fold-roll-Term (List ℕ) term_names_step (layer.Add a.0 b.0)) tt
says_layer store (layer.Sub a b) =
    says_at store (layer.Sub a.0 b.0) _ _ _ (fold-roll-Term Leaf leaf_step (layer.Sub a.0 b.0)) (fold-roll-Term ℤ (value_step store) (layer.Sub a.0 b.0)) (fold-roll-Term (List ℕ) term_names_step (layer.Sub a.0 b.0)) tt
says_layer store (layer.Mul a b) =
    says_at store (layer.Mul a.0 b.0) _ _ _ (fold-roll-Term Leaf leaf_step (layer.Mul a.0 b.0)) (fold-roll-Term ℤ (value_step store) (layer.Mul a.0 b.0)) (fold-roll-Term (List ℕ) term_names_step (layer.Mul a.0 b.0)) tt
says_layer store (layer.Pow a k) =
    says_at store (layer.Pow a.0 k) _ _ _ (fold-roll-Term Leaf leaf_step (layer.Pow a.0 k)) (fold-roll-Term ℤ (value_step store) (layer.Pow a.0 k)) (fold-roll-Term (List ℕ) term_names_step (layer.Pow a.0 k)) tt

says : (store : List Word) (t : Term) → SaysOf store t
says store = ind-Term (SaysOf store) (λ x y is. subst (λ z. SaysOf store (roll-Term z)) is (says_layer store y))

some_nat : {u v : ℕ} → Some u ≡ Some v → u ≡ v
some_nat e = cc

some_int : {u v : ℤ} → Some u ≡ Some v → u ≡ v
some_int e = cc

variable_says : (store : List Word) (l : Leaf) (n : ℤ) (names : List ℕ) (v : ℕ) → variable_of l ≡ Some v → Says store l n names → (n ≡ (word_at store v).value) × (names ≡ v ∷ [])
variable_says store (variable u) n names v e s = (s.0 ∙ ap (λ x. (word_at store x).value) (some_nat e), s.1 ∙ ap (λ x. x ∷ []) (some_nat e))
variable_says store (number c) n names v e s = absurd (cc)
variable_says store (negated c) n names v e s = absurd (cc)
variable_says store other n names v e s = absurd (cc)

integer_says : (store : List Word) (l : Leaf) (n : ℤ) (names : List ℕ) (c : ℤ) → integer_of l ≡ Some c → Says store l n names → n ≡ c
integer_says store (variable u) n names c e s = absurd (cc)
integer_says store (number d) n names c e s = s ∙ some_int e
integer_says store (negated d) n names c e s = s ∙ some_int e
integer_says store other n names c e s = absurd (cc)

-- the bits of congruent numbers
divides_power : (m w : ℕ) → m ≤ w → Divides (pos (2 ^ m)) (pos (2 ^ w))
divides_power m w h =
    let same : m + (w - m) ≡ w = omega (arith, h) in
    (pos (2 ^ (w - m)), ap (λ k. pos (2 ^ k)) (sym same) ∙ ap pos (pow-add 2 m (w - m)))

positive : (k : ℕ) → 0 < 2 ^ k
positive k = let h : 0 ≤ k = omega arith in omega (arith, pow_mono h)

pattern_low : (w m : ℕ) (n : ℤ) → m ≤ w → pos (pattern_of w n % 2 ^ m) ≡ int_rem_euclid n (pos (2 ^ m))
pattern_low w m n h =
    let r = euclid_range n (2 ^ w) (positive w) in
    let whole : Congruent (pos (2 ^ w)) n (pos r.0) = subst (λ z. Congruent (pos (2 ^ w)) n z) r.2 (congruent_remainder (2 ^ w) n (positive w)) in
    let low : int_rem_euclid n (pos (2 ^ m)) ≡ pos (r.0 % 2 ^ m) =
    remainder_congruent (2 ^ m) n (pos r.0) (positive m) (congruent_divisor (pos (2 ^ m)) (pos (2 ^ w)) n (pos r.0) (divides_power m w h) whole) ∙ (euclid_natural r.0 (2 ^ m)).1 in
    ap (λ (z : ℤ). pos (unsigned_abs z % 2 ^ m)) r.2 ∙ sym low

some_pos : (a b : ℕ) → pos a ≡ pos b → a ≡ b
some_pos a b e = cc

same_low_bit : (a b j : ℕ) → a % 2 ^ (1 + j) ≡ b % 2 ^ (1 + j) → a / 2 ^ j % 2 ≡ b / 2 ^ j % 2
same_low_bit a b j e = sym (field a 1 j) ∙ ap (λ m. m / 2 ^ j) e ∙ field b 1 j

congruent_bit : (w k j : ℕ) (n c : ℤ) → j < w → j < k → Congruent (pos (2 ^ k)) n c → (pattern_of w n / 2 ^ j % 2 == 1) ≡ (pattern_of w c / 2 ^ j % 2 == 1)
congruent_bit w k j n c h g e =
    let low : int_rem_euclid n (pos (2 ^ (1 + j))) ≡ int_rem_euclid c (pos (2 ^ (1 + j))) =
    remainder_congruent (2 ^ (1 + j)) n c (positive (1 + j)) (congruent_divisor (pos (2 ^ (1 + j))) (pos (2 ^ k)) n c (divides_power (1 + j) k (omega (arith, g))) e) in
    let same : pattern_of w n % 2 ^ (1 + j) ≡ pattern_of w c % 2 ^ (1 + j) =
    some_pos _ _ (pattern_low w (1 + j) n (omega (arith, h)) ∙ low ∙ sym (pattern_low w (1 + j) c (omega (arith, h)))) in
    ap (λ m. m == 1) (same_low_bit (pattern_of w n) (pattern_of w c) j same)

-- the exponent of a modulus
first_member : (ks : List ℕ) → 0 < first_exponent ks → is_among ks (first_exponent ks) ≡ true
first_member [] h = absurd (omega (arith, h))
first_member (k ∷ ks) h = among_first k ks

exponent_is : (n : ℤ) → 0 < first_exponent (exponents_of n) → n ≡ pos (2 ^ first_exponent (exponents_of n))
exponent_is n h =
    let k = first_exponent (exponents_of n) in
    let e = those_pass (is_exponent_of n) 1026 k (first_member (exponents_of n) h) in
    (Decides-int_eq n (pos (2 ^ k))).0 (and_parts (nat_lt 0 k) (int_eq n (pos (2 ^ k))) e).1

exponent_has : (n : ℤ) → 0 < exponent_of n → n ≡ pos (2 ^ exponent_of n)
unfolding exponent_of
exponent_has n h = exponent_is n h

-- each fixed bit is that of the number
fixed_bit : (T : Ty) (n c : ℤ) (m : Option (List Part)) (store : List Word) (f g : Term) (j : ℕ) → term_value store f ≡ n → term_value store g ≡ c → agrees store f g m ≡ true → j < fixed_count T c m
    → (pattern_of T.width n / 2 ^ j % 2 == 1) ≡ pattern_bit T c j
fixed_bit T n c None store f g j e h a less =
    let same : n ≡ c = sym e ∙ (Decides-int_eq (term_value store f) (term_value store g)).0 a ∙ h in
    ap (λ z. pattern_of T.width z / 2 ^ j % 2 == 1) same
fixed_bit T n c (Some m) store f g j e h a less =
    let k = exponent_of (modulus_value m) in
    let power : modulus_value m ≡ pos (2 ^ k) = exponent_has (modulus_value m) (omega (arith, less)) in
    let congruent : Congruent (modulus_value m) (term_value store f) (term_value store g) =
    congruent_from_divides (modulus_value m) (term_value store f) (term_value store g) (is_multiple_sound (modulus_value m) (term_value store f -ℤ term_value store g) a) in
    congruent_bit T.width k j n c (omega (arith, less)) (omega (arith, less))
    (subst (λ z. Congruent (pos (2 ^ k)) z c) e (subst (λ z. Congruent (pos (2 ^ k)) (term_value store f) z) h (subst (λ z. Congruent z (term_value store f) (term_value store g)) power congruent)))

-- the fixed bits have their values
both_ways : (b c : Bool) → c ≡ b → (if b then c else not c) ≡ true
both_ways true c e = e
both_ways false c e = ap not e

all_numbers : (q : BitLit → Bool) (f : ℕ → BitLit) (n : ℕ) → ((j : ℕ) → j < n → q (f j) ≡ true) → list_all q (map f (numbers_below n)) ≡ true
all_numbers q f zero h = ap (λ xs. list_all q (map f xs)) (those_none (λ k. true))
all_numbers q f (suc n) h =
    ap (λ xs. list_all q (map f xs)) (those_yes (λ k. true) n refl) ∙ ap (list_all q) (map-append f (numbers_below n) (n ∷ [])) ∙ list_all-append q (map f (numbers_below n)) (f n ∷ [])
    ∙ and_from (list_all q (map f (numbers_below n))) (list_all q (f n ∷ [])) (all_numbers q f n (λ j less. h j (omega (arith, less)))) (and_from (q (f n)) true (h n (omega arith)) refl)

like_hold : (v : ℕ) (T : Ty) (c : ℤ) (count : ℕ) (store : List Word) → (word_at store v).ty ≡ T → ((j : ℕ) → j < count → (pattern_of T.width (word_at store v).value / 2 ^ j % 2 == 1) ≡ pattern_bit T c j)
    → cube_holds store (bits_like v T c count) ≡ true
like_hold v T c count store e h =
    all_numbers (bit_holds store) (λ j. record { var = v; bit = j; value = pattern_bit T c j }) count
    (λ j less. both_ways (pattern_bit T c j) (bit_of (word_at store v) j) (ap (λ (U : Ty). pattern_of U.width (word_at store v).value / 2 ^ j % 2 == 1) e ∙ h j less))

fixed_hold_at : (variables : List Variable) (store : List Word) (p : AlgPred) (o : Option ℕ) (q : Option ℤ) → variable_of (leaf_of p.left) ≡ o → integer_of (leaf_of p.right) ≡ q
    → ((v : ℕ) → (word_at store v).ty ≡ atom_ty (types_of variables) (Var v)) → algebraic_truth store p ≡ true → cube_holds store (fixed_by variables o q p.modulus) ≡ true
fixed_hold_at variables store p None q e f types a = refl
fixed_hold_at variables store p (Some v) None e f types a = refl
fixed_hold_at variables store p (Some v) (Some c) e f types a = at (slice_get variables v) refl
  where
    left : (term_value store p.left ≡ (word_at store v).value)
    left = (variable_says store (leaf_of p.left) (term_value store p.left) (term_names p.left) v e (says store p.left)).0

    right : term_value store p.right ≡ c
    right = integer_says store (leaf_of p.right) (term_value store p.right) (term_names p.right) c f (says store p.right)

    at : (x : Option Variable) → slice_get variables v ≡ x → cube_holds store (fixed_in x v c p.modulus) ≡ true
    at None g = refl
    at (Some x) g =
        like_hold v x.ty c (fixed_count x.ty c p.modulus) store (types v ∙ type_found variables v x _ g)
        (λ j less. fixed_bit x.ty (word_at store v).value c p.modulus store p.left p.right j left right a less)

pub fixed_hold : (variables : List Variable) (store : List Word) (p : AlgPred) → ((v : ℕ) → (word_at store v).ty ≡ atom_ty (types_of variables) (Var v)) → algebraic_truth store p ≡ true → cube_holds store (fixed_bits_of variables p) ≡ true
unfolding fixed_bits_of
fixed_hold variables store p types a = fixed_hold_at variables store p (variable_of (leaf_of p.left)) (integer_of (leaf_of p.right)) refl refl types a

-- they are of a variable that the line reads
mapped_item : (v : ℕ) (T : Ty) (c : ℤ) (js : List ℕ) (n : ℕ) (b : BitLit) → slice_get (map (λ j. record { var = v; bit = j; value = pattern_bit T c j }) js) n ≡ Some b → b.var ≡ v
mapped_item v T c [] n b e = absurd (cc)
mapped_item v T c (j ∷ js) zero b e = ap (λ (x : BitLit). x.var) (sym (same e))
  where
    same : {x y : BitLit} → Some x ≡ Some y → x ≡ y
    same e = cc
mapped_item v T c (j ∷ js) (suc n) b e = mapped_item v T c js n b e

no_item : (variables : List Variable) (known : ℕ → Bool) → AreReadable variables known []
no_item variables known n b e = absurd (cc)

readable_at : (variables : List Variable) (known : ℕ → Bool) (p : AlgPred) (o : Option ℕ) (q : Option ℤ) → variable_of (leaf_of p.left) ≡ o → ((v : ℕ) → is_among (term_names p.left) v ≡ true → known v ≡ true) → AreReadable variables known (fixed_by variables o q p.modulus)
readable_at variables known p None q e h = no_item variables known
readable_at variables known p (Some v) None e h = no_item variables known
readable_at variables known p (Some v) (Some c) e h = at (slice_get variables v)
  where
    names : term_names p.left ≡ v ∷ []
    names = (variable_says [] (leaf_of p.left) (term_value [] p.left) (term_names p.left) v e (says [] p.left)).1

    is_known : known v ≡ true
    is_known = h v (ap (λ xs. is_among xs v) names ∙ among_first v [])

    at : (x : Option Variable) (n : ℕ) (b : BitLit) → slice_get (fixed_in x v c p.modulus) n ≡ Some b → IsReadable variables known b.var
    at None n b g = no_item variables known n b g
    at (Some x) n b g = inl (ap known (mapped_item v x.ty c (numbers_below (fixed_count x.ty c p.modulus)) n b g) ∙ is_known)

pub fixed_readable : (variables : List Variable) (known : ℕ → Bool) (p : AlgPred) → ((v : ℕ) → is_among (term_names p.left) v ≡ true → known v ≡ true) → AreReadable variables known (fixed_bits_of variables p)
unfolding fixed_bits_of
fixed_readable variables known p h = readable_at variables known p (variable_of (leaf_of p.left)) (integer_of (leaf_of p.right)) refl h
