-- The circuits of range terms show the values of the terms.
use Rattle.std.proofs.Common.{◌≡◌, ℕ, ◌+◌, ◌^◌, ◌<◌, Bool, true, false, ◌&&◌, ◌||◌, cond, List, [], ◌∷◌, ◌++◌, length, map, Option, Some, None, slice_get, zero, suc, refl, sym, ◌∙◌, ap, ap₂, subst, arith, ℤ, pos, neg_ℤ, unsigned_abs, bit_and, bit_or, bit_xor, is_some}
use Rattle.std.specs.Int.{int_rem_euclid}
use Rattle.std.proofs.lemmas.Bool.{and_parts}
use Rattle.tcl_num.specs.Range.{wrapped}
use Rattle.tcl_num.proofs.WrappedValues.{wrapped_fixed}
use Rattle.tcl_cnf.specs.Literal.{neg}
use Rattle.tcl_gates.specs.declared.gate.Gate.{Gate}
use Rattle.tcl_lang.specs.declared.ty.Ty.{Ty}
use Rattle.tcl_lang.specs.declared.ty.Word.{Word}
use Rattle.tcl_lang.specs.declared.instr.Atom.{Atom}
use Rattle.tcl_lang.specs.declared.instr.Atom.TheVariants.{Var, Lit}
use Rattle.tcl_lang.specs.declared.range.RngOp.{RngOp}
use Rattle.tcl_lang.specs.declared.range.RngOp.TheVariants.{Add, Sub, Mul, And, Or, Xor}
use Rattle.tcl_lang.specs.declared.range.RngTerm.{RngTerm, RngTerm-F, roll-RngTerm, map-RngTerm, ind-RngTerm}
use Rattle.tcl_lang.specs.declared.range.RngTerm.TheFolds.{fold-roll-RngTerm}
use Rattle.tcl_lang.specs.declared.range.RngTerm.TheOpen as layer
use Rattle.tcl_lang.specs.Types.{IsTy, is_ty, same_type, wrap_of, InType}
use Rattle.tcl_lang.specs.Store.{word_at, word_of}
use Rattle.tcl_lang.specs.Shape.{is_atom, is_range_term_step, is_range_term}
use Rattle.tcl_lang.specs.Names.{term_atoms_step, term_atoms}
use Rattle.tcl_lang.specs.Range.{wrapped_word, combined, flipped, word_step, range_word}
use Rattle.tcl_lang.specs.Typing.{type_at, atom_type, common_type, type_step, range_type, is_sound_literal}
use Rattle.tcl_lang.proofs.TypedStores.{same_type_is, is_ty_sound, is_in_type_sound}
use Rattle.tcl_bits.specs.Value.{number_bits}
use Rattle.tcl_bits.specs.Circuit.{xor_bit, met_bits, negation_bits, flipped_bits, extended_bits}
use Rattle.tcl_bits.proofs.Cuts.{length-number_bits}
use Rattle.tcl_bits.proofs.Sums.{length-negation_bits}
use Rattle.tcl_bits.proofs.Words.{negation_word}
use Rattle.tcl_bits.proofs.Widths.{constant_word}
use Rattle.tcl_bits.proofs.Bitwise.{and_law, or_law, xor_law, length-met_bits}
use Rattle.tcl_circuits.proofs.Adders.{adder_shows}
use Rattle.tcl_circuits.proofs.Chains.{constant_shows, ShowsWires, both_show, differ_show, either_shows, difference_shows, negation_shows, extended_shows}
use Rattle.tcl_circuits.proofs.Products.{product_shows}
use Rattle.tcl_circuits.specs.Circuits.{negation, extended, constant}
use Rattle.tcl_gates.proofs.Shown.{begins_same, begins_trans, word_kept, neg_word, false_shows}
use Rattle.tcl_gates.specs.Meaning.{Begins, Shows}
use Rattle.tcl_words.proofs.ExactConditions.{plain_shows}
use Rattle.tcl_words.proofs.Rows.{width_positive, sum_none, difference_none}
use Rattle.tcl_words.proofs.Values.{sum_is, difference_is, product_is, met_is, flip_is, cast_is, same_length, positive}
use Rattle.tcl_words.specs.Ranges.{Typed, typed, atom_lits, atom_ty, combined_lits, combined_bits, made_typed, both_terms, term_step, term_lits}
use Rattle.tcl_words.specs.Words.{IsWord}

-- what a predicate is read in: the literals and the type of each variable, the types of those that are defined, and a store
pub record Setting : Type 0 where
  pub words : List (List ℕ)
  pub variables : List Ty
  pub types : List (Option Ty)
  pub store : List Word

-- the literals of a variable of this type show the bits of its value
pub record VarShown (gates : List Gate) (free : List Bool) (s : Setting) (v : ℕ) (T : Ty) : Type 0 where
  pub is_type : IsTy T
  pub ty : atom_ty s.variables (Var v) ≡ T
  pub word_ty : (word_at s.store v).ty ≡ T
  pub bits : List Bool
  pub shows : Shows gates free (atom_lits s.words (Var v)) bits
  pub value : IsWord T bits (word_at s.store v).value

-- so do those of each variable among the operands, and each literal number lies in its type
pub record AtomsShown (gates : List Gate) (free : List Bool) (s : Setting) (atoms : List Atom) : Type 0 where
  pub each : (k v : ℕ) (T : Ty) → slice_get atoms k ≡ Some (Var v) → type_at s.types v ≡ Some T → VarShown gates free s v T
  pub sound : (k : ℕ) (atom : Atom) → slice_get atoms k ≡ Some atom → is_sound_literal atom ≡ true

pub atoms_kept : {gs hs : List Gate} {free : List Bool} {s : Setting} {atoms : List Atom} → Begins gs hs → AtomsShown gs free s atoms → AtomsShown hs free s atoms
atoms_kept g h = record { each = λ k v T i e. let x = h.each k v T i e in record { is_type = x.is_type; ty = x.ty; word_ty = x.word_ty; bits = x.bits; shows = word_kept g x.shows; value = x.value }; sound = h.sound }

get_left : {A : Type 0} (xs ys : List A) (k : ℕ) (x : A) → slice_get xs k ≡ Some x → slice_get (xs ++ ys) k ≡ Some x
get_left [] ys k x e = absurd (none_some e)
  where
    none_some : {A : Type 0} {x : A} → None ≡ Some x → ⊥
    none_some e = cc
get_left (z ∷ xs) ys zero x e = e
get_left (z ∷ xs) ys (suc k) x e = get_left xs ys k x e

get_right : {A : Type 0} (xs ys : List A) (k : ℕ) (x : A) → slice_get ys k ≡ Some x → slice_get (xs ++ ys) (length xs + k) ≡ Some x
get_right [] ys k x e = let same : 0 + k ≡ k = omega arith in ap (slice_get ys) same ∙ e
get_right (z ∷ xs) ys k x e = let step : length (z ∷ xs) + k ≡ suc (length xs + k) = omega arith in ap (slice_get (z ∷ (xs ++ ys))) step ∙ get_right xs ys k x e

pub atoms_left : {gs : List Gate} {free : List Bool} {s : Setting} (xs ys : List Atom) → AtomsShown gs free s (xs ++ ys) → AtomsShown gs free s xs
atoms_left xs ys h = record { each = λ k v T i e. h.each k v T (get_left xs ys k (Var v) i) e; sound = λ k atom i. h.sound k atom (get_left xs ys k atom i) }

pub atoms_right : {gs : List Gate} {free : List Bool} {s : Setting} (xs ys : List Atom) → AtomsShown gs free s (xs ++ ys) → AtomsShown gs free s ys
atoms_right xs ys h = record { each = λ k v T i e. h.each (length xs + k) v T (get_right xs ys k (Var v) i) e; sound = λ k atom i. h.sound (length xs + k) atom (get_right xs ys k atom i) }

-- the word that was made shows the bits of this word of type T
pub record TermShown (free : List Bool) (gates : List Gate) (r : Typed) (T : Ty) (w : Word) : Type 0 where
  pub is_type : IsTy T
  pub grown : Begins gates r.gates
  pub ty : r.ty ≡ T
  pub word_ty : w.ty ≡ T
  pub bits : List Bool
  pub shows : Shows r.gates free r.word bits
  pub value : IsWord T bits w.value

-- a constant
abbrev pub constant_bits : ℕ → ℤ → List Bool
constant_bits width n = number_bits width (unsigned_abs (int_rem_euclid n (pos (2 ^ width))))

pub constant_is : (T : Ty) (n : ℤ) → 0 < T.width → InType T n → IsWord T (constant_bits T.width n) n
constant_is T n p h = record {
  length = length-number_bits T.width _;
  value = constant_word T.signed T.width n p ∙ wrapped_fixed T.signed T.width n p h;
}

-- two words by an operator
combined_shows : {free : List Bool} {gates : List Gate} {a b : List ℕ} {xs ys : List Bool} (op : RngOp) → Shows gates free a xs → Shows gates free b ys → ShowsWires free gates (combined_lits gates op a b) (combined_bits op xs ys)
combined_shows {free} {gates} Add t u = plain_shows (adder_shows t u (false_shows gates free))
combined_shows {free} {gates} Sub t u = plain_shows (difference_shows t u (false_shows gates free))
combined_shows Mul t u = product_shows t u
combined_shows And t u = both_show t u
combined_shows Or t u = either_shows t u
combined_shows Xor t u = differ_show t u

word_to : {T : Ty} {xs : List Bool} {m n : ℤ} → m ≡ n → IsWord T xs m → IsWord T xs n
word_to {T} {xs} e h = subst (λ n. IsWord T xs n) e h

combined_is : {T : Ty} {xs ys : List Bool} {a b : ℤ} (op : RngOp) → 0 < T.width → IsWord T xs a → IsWord T ys b → IsWord T (combined_bits op xs ys) (wrap_of T (combined op T a b))
combined_is {T} {a = a} {b = b} Add p h k = word_to (ap (wrap_of T) (sum_none a b)) (sum_is false p h k)
combined_is {T} {a = a} {b = b} Sub p h k = word_to (ap (wrap_of T) (difference_none a b)) (difference_is false p h k)
combined_is Mul p h k = product_is p h k
combined_is {xs = xs} {ys = ys} And p h k = met_is {zs = met_bits (λ x y. x && y) xs ys} bit_and (length-met_bits (λ x y. x && y) xs ys (same_length h k)) (and_law xs ys (same_length h k)) p h k
combined_is {xs = xs} {ys = ys} Or p h k = met_is {zs = met_bits (λ x y. x || y) xs ys} bit_or (length-met_bits (λ x y. x || y) xs ys (same_length h k)) (or_law xs ys (same_length h k)) p h k
combined_is {xs = xs} {ys = ys} Xor p h k = met_is {zs = met_bits xor_bit xs ys} bit_xor (length-met_bits xor_bit xs ys (same_length h k)) (xor_law xs ys (same_length h k)) p h k

negation_is : {T : Ty} {xs : List Bool} {a : ℤ} → 0 < T.width → IsWord T xs a → IsWord T (negation_bits xs) (wrap_of T (neg_ℤ a))
negation_is {T} {xs} p h = record {
  length = length-negation_bits xs ∙ h.length;
  value = negation_word T.signed xs (positive p h) ∙ ap₂ (λ w n. wrapped T.signed w (neg_ℤ n)) h.length h.value;
}

-- a term with this type, shape, operands, circuit and word
abbrev GoodAt : Setting → Option Ty → Bool → List Atom → (List Gate → Typed) → Word → Type 0
GoodAt s o shape atoms f w =
    (T : Ty) → o ≡ Some T → shape ≡ true → (gates : List Gate) (free : List Bool) → AtomsShown gates free s atoms → TermShown free gates (f gates) T w

abbrev IsGood : Setting → RngTerm → Type 0
IsGood s t = GoodAt s (range_type s.types t) (is_range_term t) (term_atoms t) (term_lits s.words s.variables t) (range_word s.store t)

abbrev Good : Setting → Type 0
Good s = (t : RngTerm) × IsGood s t

at_layer : (s : Setting) (y : RngTerm-F RngTerm) (o : Option Ty) (shape : Bool) (atoms : List Atom) (f : List Gate → Typed) (w : Word) → range_type s.types (roll-RngTerm y) ≡ o → is_range_term (roll-RngTerm y) ≡ shape → term_atoms (roll-RngTerm y) ≡ atoms
    → term_lits s.words s.variables (roll-RngTerm y) ≡ f → range_word s.store (roll-RngTerm y) ≡ w → GoodAt s o shape atoms f w → IsGood s (roll-RngTerm y)
at_layer s y o shape atoms f w e g h i j good T t u gates free st =
    subst (λ x. TermShown free gates (term_lits s.words s.variables (roll-RngTerm y) gates) T x) (sym j)
    (subst (λ k. TermShown free gates (k gates) T w) (sym i) (good T (sym e ∙ t) (sym g ∙ u) gates free (subst (AtomsShown gates free s) h st)))

some_is : {T U : Ty} → Some T ≡ Some U → T ≡ U
some_is e = cc

none_is : {T : Ty} → None ≡ Some T → ⊥
none_is e = cc

leaf_good : (s : Setting) (atom : Atom) → GoodAt s (atom_type s.types atom) (is_atom atom) (atom ∷ []) (λ gates. typed gates (atom_lits s.words atom) (atom_ty s.variables atom)) (word_of s.store atom)
leaf_good s (Var v) T t u gates free st =
    let x = st.each 0 v T refl t in
    record { is_type = x.is_type; grown = begins_same gates; ty = x.ty; word_ty = x.word_ty; bits = x.bits; shows = x.shows; value = x.value }
leaf_good s (Lit U n) T t u gates free st =
    let ok : IsTy U = is_ty_sound U (and_parts (is_ty U) _ (and_parts (is_ty U && _) _ u).0).0 in
    subst (λ V. TermShown free gates (typed gates (constant U.width n) U) V (record { ty = U; value = n })) (some_is t)
    (record {
      is_type = ok;
      grown = begins_same gates;
      ty = refl;
      word_ty = refl;
      bits = constant_bits U.width n;
      shows = constant_shows gates free U.width n;
      value = constant_is U n (width_positive U ok) (is_in_type_sound U n (st.sound 0 (Lit U n) refl));
    })

neg_good : (s : Setting) (o : Option Ty) (shape : Bool) (atoms : List Atom) (f : List Gate → Typed) (w : Word) → GoodAt s o shape atoms f w
    → GoodAt s o shape atoms (λ gates. made_typed (negation (f gates).gates (f gates).word) (f gates).ty) (wrapped_word w.ty (neg_ℤ w.value))
neg_good s o shape atoms f w good T t u gates free st =
    let x = good T t u gates free st in
    let n = negation_shows x.shows in
    record { is_type = x.is_type; grown = begins_trans x.grown n.grown; ty = x.ty; word_ty = x.word_ty; bits = negation_bits x.bits; shows = n.word; value = word_to (ap (λ U. wrap_of U (neg_ℤ w.value)) (sym x.word_ty)) (negation_is (width_positive T x.is_type) x.value) }

flip_good : (s : Setting) (o : Option Ty) (shape : Bool) (atoms : List Atom) (f : List Gate → Typed) (w : Word) → GoodAt s o shape atoms f w
    → GoodAt s o shape atoms (λ gates. typed (f gates).gates (map neg (f gates).word) (f gates).ty) (wrapped_word w.ty (flipped w.ty w.value))
flip_good s o shape atoms f w good T t u gates free st =
    let x = good T t u gates free st in
    record { is_type = x.is_type; grown = x.grown; ty = x.ty; word_ty = x.word_ty; bits = flipped_bits x.bits; shows = neg_word x.shows; value = word_to (ap (λ U. wrap_of U (flipped U w.value)) (sym x.word_ty)) (flip_is (width_positive T x.is_type) x.value) }

pub both_some : (o q : Option Ty) (T : Ty) → common_type o q ≡ Some T → (o ≡ Some T) × (q ≡ Some T)
both_some None q T e = absurd (none_is e)
both_some (Some U) None T e = absurd (none_is e)
both_some (Some U) (Some V) T e = by_test (same_type U V) refl e
  where
    by_test : (b : Bool) → same_type U V ≡ b → cond b (Some U) None ≡ Some T → (Some U ≡ Some T) × (Some V ≡ Some T)
    by_test true d e = (e, ap Some (sym (same_type_is U V d)) ∙ e)
    by_test false d e = absurd (none_is e)

bin_good : (s : Setting) (op : RngOp) (o q : Option Ty) (shape : Bool) (atoms : List Atom) (shape1 : Bool) (atoms1 : List Atom) (f g : List Gate → Typed) (w x : Word) → GoodAt s o shape atoms f w → GoodAt s q shape1 atoms1 g x
    → GoodAt s (common_type o q) (shape && shape1) (atoms ++ atoms1) (λ gates. both_terms op g (f gates)) (wrapped_word w.ty (combined op w.ty w.value x.value))
bin_good s op o q shape atoms shape1 atoms1 f g w x good best T t u gates free st =
    let os = both_some o q T t in
    let us = and_parts shape shape1 u in
    let y = good T os.0 us.0 gates free (atoms_left atoms atoms1 st) in
    let z = best T os.1 us.1 (f gates).gates free (atoms_kept y.grown (atoms_right atoms atoms1 st)) in
    let c = combined_shows op (word_kept z.grown y.shows) z.shows in
    record {
      is_type = y.is_type;
      grown = begins_trans y.grown (begins_trans z.grown c.grown);
      ty = y.ty;
      word_ty = y.word_ty;
      bits = combined_bits op y.bits z.bits;
      shows = c.word;
      value = word_to (ap (λ U. wrap_of U (combined op U w.value x.value)) (sym y.word_ty)) (combined_is op (width_positive T y.is_type) y.value z.value);
    }

is_some_of : (o : Option Ty) (T U : Ty) → cond (is_some o) (Some T) None ≡ Some U → (S : Ty) × (o ≡ Some S)
is_some_of None T U e = absurd (none_is e)
is_some_of (Some S) T U e = (S, refl)

cast_ty : (o : Option Ty) (T U : Ty) → cond (is_some o) (Some T) None ≡ Some U → T ≡ U
cast_ty None T U e = absurd (none_is e)
cast_ty (Some S) T U e = some_is e

cast_good : (s : Setting) (T : Ty) (o : Option Ty) (shape : Bool) (atoms : List Atom) (f : List Gate → Typed) (w : Word) → GoodAt s o shape atoms f w
    → GoodAt s (cond (is_some o) (Some T) None) (is_ty T && shape) atoms (λ gates. typed (f gates).gates (extended (f gates).ty.signed T.width (f gates).word) T) (wrapped_word T w.value)
cast_good s T o shape atoms f w good U t u gates free st =
    let parts = and_parts (is_ty T) shape u in
    let ok = is_ty_sound T parts.0 in
    let from = is_some_of o T U t in
    let x = good from.0 from.1 parts.1 gates free st in
    subst (λ V. TermShown free gates (typed (f gates).gates (extended (f gates).ty.signed T.width (f gates).word) T) V (wrapped_word T w.value)) (cast_ty o T U t)
    (record {
      is_type = ok;
      grown = x.grown;
      ty = refl;
      word_ty = refl;
      bits = extended_bits from.0.signed T.width x.bits;
      shows = subst (λ W. Shows (f gates).gates free (extended W.signed T.width (f gates).word) (extended_bits from.0.signed T.width x.bits)) (sym x.ty) (extended_shows from.0.signed T.width x.shows);
      value = cast_is (width_positive T ok) x.value;
    })

term_good : (s : Setting) (y : RngTerm-F (Good s)) → IsGood s (roll-RngTerm (map-RngTerm (Good s) RngTerm (λ e. e.0) y))
term_good s (layer.Leaf atom) =
    at_layer s (layer.Leaf atom) _ _ _ _ _ (fold-roll-RngTerm (Option Ty) (type_step s.types) (layer.Leaf atom)) (fold-roll-RngTerm Bool is_range_term_step (layer.Leaf atom)) (fold-roll-RngTerm (List Atom) term_atoms_step (layer.Leaf atom))
    (fold-roll-RngTerm (List Gate → Typed) (term_step s.words s.variables) (layer.Leaf atom)) (fold-roll-RngTerm Word (word_step s.store) (layer.Leaf atom)) (leaf_good s atom)
term_good s (layer.Neg a) =
    at_layer s (layer.Neg a.0) _ _ _ _ _ (fold-roll-RngTerm (Option Ty) (type_step s.types) (layer.Neg a.0)) (fold-roll-RngTerm Bool is_range_term_step (layer.Neg a.0)) (fold-roll-RngTerm (List Atom) term_atoms_step (layer.Neg a.0))
    (fold-roll-RngTerm (List Gate → Typed) (term_step s.words s.variables) (layer.Neg a.0)) (fold-roll-RngTerm Word (word_step s.store) (layer.Neg a.0)) (neg_good s _ _ _ _ _ a.1)
term_good s (layer.Flip a) =
    at_layer s (layer.Flip a.0) _ _ _ _ _ (fold-roll-RngTerm (Option Ty) (type_step s.types) (layer.Flip a.0)) (fold-roll-RngTerm Bool is_range_term_step (layer.Flip a.0)) (fold-roll-RngTerm (List Atom) term_atoms_step (layer.Flip a.0))
    (fold-roll-RngTerm (List Gate → Typed) (term_step s.words s.variables) (layer.Flip a.0)) (fold-roll-RngTerm Word (word_step s.store) (layer.Flip a.0)) (flip_good s _ _ _ _ _ a.1)
term_good s (layer.Bin op a b) =
    at_layer s (layer.Bin op a.0 b.0) _ _ _ _ _ (fold-roll-RngTerm (Option Ty) (type_step s.types) (layer.Bin op a.0 b.0)) (fold-roll-RngTerm Bool is_range_term_step (layer.Bin op a.0 b.0)) (fold-roll-RngTerm (List Atom) term_atoms_step (layer.Bin op a.0 b.0))
    (fold-roll-RngTerm (List Gate → Typed) (term_step s.words s.variables) (layer.Bin op a.0 b.0)) (fold-roll-RngTerm Word (word_step s.store) (layer.Bin op a.0 b.0)) (bin_good s op _ _ _ _ _ _ _ _ _ _ a.1 b.1)
term_good s (layer.Cast T a) =
    at_layer s (layer.Cast T a.0) _ _ _ _ _ (fold-roll-RngTerm (Option Ty) (type_step s.types) (layer.Cast T a.0)) (fold-roll-RngTerm Bool is_range_term_step (layer.Cast T a.0)) (fold-roll-RngTerm (List Atom) term_atoms_step (layer.Cast T a.0))
    (fold-roll-RngTerm (List Gate → Typed) (term_step s.words s.variables) (layer.Cast T a.0)) (fold-roll-RngTerm Word (word_step s.store) (layer.Cast T a.0)) (cast_good s T _ _ _ _ _ a.1)

pub term_shows : (s : Setting) (t : RngTerm) → IsGood s t
term_shows s = ind-RngTerm (IsGood s) (λ x y is. subst (λ z. IsGood s (roll-RngTerm z)) is (term_good s y))
