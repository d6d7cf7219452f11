-- The circuits of range predicates show their truth.
use Rattle.std.proofs.Common.{◌≡◌, ℕ, Bool, true, false, not, ◌&&◌, ◌||◌, List, ◌++◌, Option, Some, None, refl, sym, ◌∙◌, ap₂, subst, arith, ℤ, int_le, int_lt, is_some}
use Rattle.std.proofs.lemmas.Int.{ints}
use Rattle.std.proofs.lemmas.Bool.{and_parts}
use Rattle.std.specs.Ordering.{int_eq}
use Rattle.tcl_gates.specs.declared.gate.Gate.{Gate}
use Rattle.tcl_lang.specs.declared.ty.Ty.{Ty}
use Rattle.tcl_lang.specs.declared.instr.Atom.{Atom}
use Rattle.tcl_lang.specs.declared.range.CmpOp.{CmpOp}
use Rattle.tcl_lang.specs.declared.range.CmpOp.TheVariants.{Eq, Ne, Lt, Le, Gt, Ge}
use Rattle.tcl_lang.specs.declared.range.RngTerm.{RngTerm}
use Rattle.tcl_lang.specs.declared.range.RngPred.{RngPred, RngPred-F, roll-RngPred, map-RngPred, ind-RngPred}
use Rattle.tcl_lang.specs.declared.range.RngPred.TheFolds.{fold-roll-RngPred}
use Rattle.tcl_lang.specs.declared.range.RngPred.TheOpen as layer
use Rattle.tcl_lang.specs.Shape.{is_range_term, is_range_step, is_range}
use Rattle.tcl_lang.specs.Names.{term_atoms, range_atoms_step, range_atoms}
use Rattle.tcl_lang.specs.Range.{compares, range_word, truth_step, range_truth}
use Rattle.tcl_lang.specs.Typing.{common_type, range_type, sides_step, sides_agree}
use Rattle.tcl_bits.proofs.Comparisons.{less_law, equal_law}
use Rattle.tcl_circuits.proofs.Bits.{and_shows}
use Rattle.tcl_circuits.proofs.Chains.{ShowsWire, equal_shows, less_shows, negated_shows}
use Rattle.tcl_circuits.specs.Circuits.{negated, less, equal}
use Rattle.tcl_circuits.specs.Wires.{Wire}
use Rattle.tcl_gates.proofs.Shown.{begins_same, begins_push, begins_trans, bit_kept, word_kept, neg_shows, true_shows, false_shows}
use Rattle.tcl_gates.specs.Meaning.{Begins, ShowsBit, Shows}
use Rattle.tcl_words.proofs.RangeTerms.{Setting, AtomsShown, atoms_kept, atoms_left, atoms_right, term_shows, both_some}
use Rattle.tcl_words.proofs.Values.{same_length}
use Rattle.tcl_words.specs.Ranges.{compared_lits, both_sides, and_lits, or_lits, term_lits, pred_step, pred_lit}
use Rattle.tcl_words.specs.Words.{IsWord}

not_less : (m n : ℤ) → not (int_lt m n) ≡ int_le n m
not_less m n = grind (arith, ints)

wire_to : {free : List Bool} {gates : List Gate} {s : Wire} {b c : Bool} → b ≡ c → ShowsWire free gates s b → ShowsWire free gates s c
wire_to {free} {gates} {s} e h = subst (λ t. ShowsWire free gates s t) e h

less_is : {T : Ty} {xs ys : List Bool} {a b : ℤ} {gates : List Gate} {free : List Bool} {s t : List ℕ} → IsWord T xs a → IsWord T ys b → Shows gates free s xs → Shows gates free t ys
    → ShowsWire free gates (less gates T.signed s t) (int_lt a b)
less_is {T} {xs} {ys} h k u v = wire_to (less_law T.signed xs ys (same_length h k) ∙ ap₂ (λ m n. int_lt m n) h.value k.value) (less_shows T.signed u v)

equal_is : {T : Ty} {xs ys : List Bool} {a b : ℤ} {gates : List Gate} {free : List Bool} {s t : List ℕ} → IsWord T xs a → IsWord T ys b → Shows gates free s xs → Shows gates free t ys
    → ShowsWire free gates (equal gates s t) (int_eq a b)
equal_is {T} {xs} {ys} h k u v = wire_to (equal_law T.signed xs ys (same_length h k) ∙ ap₂ (λ m n. int_eq m n) h.value k.value) (equal_shows u v)

compared_shows : {T : Ty} {xs ys : List Bool} {a b : ℤ} {gates : List Gate} {free : List Bool} {s t : List ℕ} (op : CmpOp) → IsWord T xs a → IsWord T ys b → Shows gates free s xs → Shows gates free t ys
    → ShowsWire free gates (compared_lits gates op T.signed s t) (compares op a b)
compared_shows Eq h k u v = equal_is h k u v
compared_shows Ne h k u v = negated_shows (equal_is h k u v)
compared_shows Lt h k u v = less_is h k u v
compared_shows {a = a} {b = b} Le h k u v = wire_to (not_less b a) (negated_shows (less_is k h v u))
compared_shows Gt h k u v = less_is k h v u
compared_shows {a = a} {b = b} Ge h k u v = wire_to (not_less a b) (negated_shows (less_is h k u v))

-- a predicate with these sides, shape, operands, circuit and truth
abbrev GoodAt : Setting → Bool → Bool → List Atom → (List Gate → Wire) → Bool → Type 0
GoodAt s sides shape atoms f b =
    sides ≡ true → shape ≡ true → (gates : List Gate) (free : List Bool) → AtomsShown gates free s atoms → ShowsWire free gates (f gates) b

abbrev IsGood : Setting → RngPred → Type 0
IsGood s p = GoodAt s (sides_agree s.types p) (is_range p) (range_atoms p) (pred_lit s.words s.variables p) (range_truth s.store p)

abbrev Good : Setting → Type 0
Good s = (p : RngPred) × IsGood s p

at_layer : (s : Setting) (y : RngPred-F RngPred) (sides shape : Bool) (atoms : List Atom) (f : List Gate → Wire) (b : Bool) → sides_agree s.types (roll-RngPred y) ≡ sides → is_range (roll-RngPred y) ≡ shape → range_atoms (roll-RngPred y) ≡ atoms
    → pred_lit s.words s.variables (roll-RngPred y) ≡ f → range_truth s.store (roll-RngPred y) ≡ b → GoodAt s sides shape atoms f b → IsGood s (roll-RngPred y)
at_layer s y sides shape atoms f b e g h i j good t u gates free st =
    subst (λ x. ShowsWire free gates (pred_lit s.words s.variables (roll-RngPred y) gates) x) (sym j)
    (subst (λ k. ShowsWire free gates (k gates) b) (sym i) (good (sym e ∙ t) (sym g ∙ u) gates free (subst (AtomsShown gates free s) h st)))

has_type : (o : Option Ty) → is_some o ≡ true → (T : Ty) × (o ≡ Some T)
has_type None e = absurd (no_some e)
  where
    no_some : false ≡ true → ⊥
    no_some e = cc
has_type (Some T) e = (T, refl)

compare_good : (s : Setting) (op : CmpOp) (t u : RngTerm)
    → GoodAt s (is_some (common_type (range_type s.types t) (range_type s.types u))) (is_range_term t && is_range_term u) (term_atoms t ++ term_atoms u)
    (λ gates. both_sides op (term_lits s.words s.variables u) (term_lits s.words s.variables t gates)) (compares op (range_word s.store t).value (range_word s.store u).value)
compare_good s op t u e g gates free st =
    let T = has_type (common_type (range_type s.types t) (range_type s.types u)) e in
    let os = both_some (range_type s.types t) (range_type s.types u) T.0 T.1 in
    let gs = and_parts (is_range_term t) (is_range_term u) g in
    let first = term_lits s.words s.variables t gates in
    let second = term_lits s.words s.variables u first.gates in
    let x = term_shows s t T.0 os.0 gs.0 gates free (atoms_left (term_atoms t) (term_atoms u) st) in
    let y = term_shows s u T.0 os.1 gs.1 first.gates free (atoms_kept x.grown (atoms_right (term_atoms t) (term_atoms u) st)) in
    let c = compared_shows op x.value y.value (word_kept y.grown x.shows) y.shows in
    subst (λ U. ShowsWire free gates (compared_lits second.gates op U.signed first.word second.word) (compares op (range_word s.store t).value (range_word s.store u).value)) (sym x.ty)
    (record { grown = begins_trans x.grown (begins_trans y.grown c.grown); shows = c.shows })

not_good : (s : Setting) (sides shape : Bool) (atoms : List Atom) (f : List Gate → Wire) (b : Bool) → GoodAt s sides shape atoms f b → GoodAt s sides shape atoms (λ gates. negated (f gates)) (not b)
not_good s sides shape atoms f b good t u gates free st = negated_shows (good t u gates free st)

-- two predicates, one after the other
pub record TwoShown (free : List Bool) (gates : List Gate) (p q : Wire) (b c : Bool) : Type 0 where
  pub grown : Begins gates q.gates
  pub first : ShowsBit q.gates free p.lit b
  pub second : ShowsBit q.gates free q.lit c

two_good : (s : Setting) (sides shape : Bool) (atoms : List Atom) (sides1 shape1 : Bool) (atoms1 : List Atom) (f g : List Gate → Wire) (b c : Bool) → GoodAt s sides shape atoms f b → GoodAt s sides1 shape1 atoms1 g c
    → (sides && sides1) ≡ true → (shape && shape1) ≡ true → (gates : List Gate) (free : List Bool) → AtomsShown gates free s (atoms ++ atoms1) → TwoShown free gates (f gates) (g (f gates).gates) b c
two_good s sides shape atoms sides1 shape1 atoms1 f g b c good best t u gates free st =
    let ts = and_parts sides sides1 t in
    let us = and_parts shape shape1 u in
    let x = good ts.0 us.0 gates free (atoms_left atoms atoms1 st) in
    let y = best ts.1 us.1 (f gates).gates free (atoms_kept x.grown (atoms_right atoms atoms1 st)) in
    record { grown = begins_trans x.grown y.grown; first = bit_kept y.grown x.shows; second = y.shows }

both_good : (s : Setting) (sides shape : Bool) (atoms : List Atom) (sides1 shape1 : Bool) (atoms1 : List Atom) (f g : List Gate → Wire) (b c : Bool) → GoodAt s sides shape atoms f b → GoodAt s sides1 shape1 atoms1 g c
    → GoodAt s (sides && sides1) (shape && shape1) (atoms ++ atoms1) (λ gates. and_lits g (f gates)) (b && c)
both_good s sides shape atoms sides1 shape1 atoms1 f g b c good best t u gates free st =
    let x = two_good s sides shape atoms sides1 shape1 atoms1 f g b c good best t u gates free st in
    record { grown = begins_trans x.grown (begins_push _ _); shows = and_shows x.first x.second }

or_is : (b c : Bool) → not (not b && not c) ≡ (b || c)
or_is true c = refl
or_is false true = refl
or_is false false = refl

either_good : (s : Setting) (sides shape : Bool) (atoms : List Atom) (sides1 shape1 : Bool) (atoms1 : List Atom) (f g : List Gate → Wire) (b c : Bool) → GoodAt s sides shape atoms f b → GoodAt s sides1 shape1 atoms1 g c
    → GoodAt s (sides && sides1) (shape && shape1) (atoms ++ atoms1) (λ gates. or_lits g (f gates)) (b || c)
either_good s sides shape atoms sides1 shape1 atoms1 f g b c good best t u gates free st =
    let x = two_good s sides shape atoms sides1 shape1 atoms1 f g b c good best t u gates free st in
    wire_to (or_is b c) (record { grown = begins_trans x.grown (begins_push _ _); shows = neg_shows (and_shows (neg_shows x.first) (neg_shows x.second)) })

pred_good : (s : Setting) (y : RngPred-F (Good s)) → IsGood s (roll-RngPred (map-RngPred (Good s) RngPred (λ e. e.0) y))
pred_good s layer.True =
    at_layer s layer.True _ _ _ _ _ (fold-roll-RngPred Bool (sides_step s.types) layer.True) (fold-roll-RngPred Bool is_range_step layer.True) (fold-roll-RngPred (List Atom) range_atoms_step layer.True)
    (fold-roll-RngPred (List Gate → Wire) (pred_step s.words s.variables) layer.True) (fold-roll-RngPred Bool (truth_step s.store) layer.True) (λ t u gates free st. record { grown = begins_same gates; shows = true_shows gates free })
pred_good s layer.False =
    at_layer s layer.False _ _ _ _ _ (fold-roll-RngPred Bool (sides_step s.types) layer.False) (fold-roll-RngPred Bool is_range_step layer.False) (fold-roll-RngPred (List Atom) range_atoms_step layer.False)
    (fold-roll-RngPred (List Gate → Wire) (pred_step s.words s.variables) layer.False) (fold-roll-RngPred Bool (truth_step s.store) layer.False) (λ t u gates free st. record { grown = begins_same gates; shows = false_shows gates free })
pred_good s (layer.Cmp op t u) =
    at_layer s (layer.Cmp op t u) _ _ _ _ _ (fold-roll-RngPred Bool (sides_step s.types) (layer.Cmp op t u)) (fold-roll-RngPred Bool is_range_step (layer.Cmp op t u)) (fold-roll-RngPred (List Atom) range_atoms_step (layer.Cmp op t u))
    (fold-roll-RngPred (List Gate → Wire) (pred_step s.words s.variables) (layer.Cmp op t u)) (fold-roll-RngPred Bool (truth_step s.store) (layer.Cmp op t u)) (compare_good s op t u)
pred_good s (layer.Not p) =
    at_layer s (layer.Not p.0) _ _ _ _ _ (fold-roll-RngPred Bool (sides_step s.types) (layer.Not p.0)) (fold-roll-RngPred Bool is_range_step (layer.Not p.0)) (fold-roll-RngPred (List Atom) range_atoms_step (layer.Not p.0))
    (fold-roll-RngPred (List Gate → Wire) (pred_step s.words s.variables) (layer.Not p.0)) (fold-roll-RngPred Bool (truth_step s.store) (layer.Not p.0)) (not_good s _ _ _ _ _ p.1)
pred_good s (layer.Both p q) =
    at_layer s (layer.Both p.0 q.0) _ _ _ _ _ (fold-roll-RngPred Bool (sides_step s.types) (layer.Both p.0 q.0)) (fold-roll-RngPred Bool is_range_step (layer.Both p.0 q.0)) (fold-roll-RngPred (List Atom) range_atoms_step (layer.Both p.0 q.0))
    (fold-roll-RngPred (List Gate → Wire) (pred_step s.words s.variables) (layer.Both p.0 q.0)) (fold-roll-RngPred Bool (truth_step s.store) (layer.Both p.0 q.0)) (both_good s _ _ _ _ _ _ _ _ _ _ p.1 q.1)
pred_good s (layer.Either p q) =
    at_layer s (layer.Either p.0 q.0) _ _ _ _ _ (fold-roll-RngPred Bool (sides_step s.types) (layer.Either p.0 q.0)) (fold-roll-RngPred Bool is_range_step (layer.Either p.0 q.0)) (fold-roll-RngPred (List Atom) range_atoms_step (layer.Either p.0 q.0))
    (fold-roll-RngPred (List Gate → Wire) (pred_step s.words s.variables) (layer.Either p.0 q.0)) (fold-roll-RngPred Bool (truth_step s.store) (layer.Either p.0 q.0)) (either_good s _ _ _ _ _ _ _ _ _ _ p.1 q.1)

pub pred_shows : (s : Setting) (p : RngPred) → IsGood s p
pred_shows s = ind-RngPred (IsGood s) (λ x y is. subst (λ z. IsGood s (roll-RngPred z)) is (pred_good s y))
