-- The equations of a hypothesis that is true in a store are 0.
use Rattle.std.proofs.Common.{◌≡◌, ℕ, ◌^◌, refl, sym, ◌∙◌, ap, subst, arith, ℤ, pos, ◌-ℤ◌, ◌*ℤ◌, Bool, true, false, not, ◌&&◌, ◌||◌, if◌then◌else◌, nat_lt, List, [], ◌∷◌, ◌++◌, map, filter_map, Option, Some, None, IfSome}
use Rattle.std.specs.List.{list_all, cons_option}
use Rattle.std.specs.Ordering.{int_eq}
use Rattle.std.proofs.lemmas.Int.{ints}
use Rattle.std.proofs.lemmas.Bool.{and_parts}
use Rattle.std.proofs.lemmas.Bool.Decides.{Decides-int_eq}
use Rattle.tcl_ring.specs.Reduction.{IsReduction, reduced_by, IsModulus}
use Rattle.tcl_ring.proofs.Reductions.{is_reduction}
use Rattle.tcl_poly.specs.Polynomial.{value_of}
use Rattle.tcl_num.proofs.Divisibility.{is_multiple_sound}
use Rattle.tcl_lang.specs.declared.ty.Word.{Word}
use Rattle.tcl_lang.specs.declared.instr.Atom.{Atom}
use Rattle.tcl_lang.specs.declared.instr.Atom.TheVariants as atom
use Rattle.tcl_lang.specs.declared.term.Part.{Part}
use Rattle.tcl_lang.specs.declared.term.AlgPred.{AlgPred}
use Rattle.tcl_lang.specs.declared.range.CmpOp.{CmpOp}
use Rattle.tcl_lang.specs.declared.range.CmpOp.TheVariants as cmp
use Rattle.tcl_lang.specs.declared.range.RngTerm.{RngTerm, RngTerm-F, roll-RngTerm, map-RngTerm, ind-RngTerm}
use Rattle.tcl_lang.specs.declared.range.RngTerm.TheOpen as term_layer
use Rattle.tcl_lang.specs.declared.range.RngTerm.TheFolds.{fold-roll-RngTerm}
use Rattle.tcl_lang.specs.declared.range.RngPred.{RngPred, RngPred-F, roll-RngPred, map-RngPred, ind-RngPred}
use Rattle.tcl_lang.specs.declared.range.RngPred.TheOpen as pred_layer
use Rattle.tcl_lang.specs.declared.range.RngPred.TheFolds.{fold-roll-RngPred}
use Rattle.tcl_lang.specs.declared.pred.Pred.{Pred}
use Rattle.tcl_lang.specs.declared.pred.Pred.TheVariants.{Alg, Rng}
use Rattle.tcl_lang.specs.Names.{name_of, term_names, term_atoms_step, term_atoms, range_atoms_step, range_atoms, predicate_names}
use Rattle.tcl_lang.specs.Store.{word_of}
use Rattle.tcl_lang.specs.Term.{term_value}
use Rattle.tcl_lang.specs.Modulus.{modulus_value}
use Rattle.tcl_lang.specs.Range.{word_step, range_word, compares, truth_step, range_truth}
use Rattle.tcl_lang.specs.Predicate.{agrees, predicate_truth}
use Rattle.tcl_term_poly.specs.Point.{point_of}
use Rattle.tcl_term_poly.specs.TermPolynomial.{difference_of, polynomial_of, are_narrow}
use Rattle.tcl_algebra.specs.Row.{term_of}
use Rattle.tcl_algebra.specs.Equations.{Placed, equation_polynomial, is_counted, operand_step, operand_of, pair_of, equalities_step, equalities_of, equality_polynomial, predicate_equations}
use Rattle.tcl_algebra.specs.Zero.{AreZero}
use Rattle.tcl_term_poly.proofs.TermValues.{value_difference, value_less_multiple, term_valued, parts}
use Rattle.tcl_algebra.proofs.TermForms.{operand_value}
use Rattle.tcl_algebra.proofs.RowNames.{narrow_var, narrow_num}
use Rattle.tcl_algebra.proofs.Quotients.{IsRatio}

vanish : (r : ℤ → ℤ) → IsReduction r → (n m : ℤ) → n ≡ m → r (n -ℤ m) ≡ pos 0
vanish r ring n m e = ap r (omega (arith, ints, e)) ∙ ring.null

int_eq_is : (n m : ℤ) → int_eq n m ≡ true → n ≡ m
int_eq_is n m e = (Decides-int_eq n m).0 e

-- an equation or a congruence
equation_zero : (r : ℤ → ℤ) → IsReduction r → (store : List Word) (quotients : ℕ → ℤ) (place : ℕ) (f : AlgPred) (o : Option (List Part)) → are_narrow f.left ≡ true → are_narrow f.right ≡ true → agrees store f.left f.right o ≡ true → ((m : List Part) → o ≡ Some m → IsRatio (modulus_value m) (term_value store f.left -ℤ term_value store f.right) (quotients place)) → r (value_of (point_of store quotients) (equation_polynomial r place f o)) ≡ pos 0
equation_zero r ring store quotients place f None hl hr truth q =
    value_difference r ring (point_of store quotients) (polynomial_of r f.left) (polynomial_of r f.right) (term_value store f.left) (term_value store f.right)
    (term_valued r ring store quotients f.left hl) (term_valued r ring store quotients f.right hr)
    ∙ vanish r ring (term_value store f.left) (term_value store f.right) (int_eq_is (term_value store f.left) (term_value store f.right) truth)
equation_zero r ring store quotients place f (Some m) hl hr truth q =
    let n = term_value store f.left -ℤ term_value store f.right in
    value_less_multiple r ring store quotients (difference_of r (polynomial_of r f.left) (polynomial_of r f.right)) n (modulus_value m) place
    (value_difference r ring (point_of store quotients) (polynomial_of r f.left) (polynomial_of r f.right) (term_value store f.left) (term_value store f.right)
    (term_valued r ring store quotients f.left hl) (term_valued r ring store quotients f.right hr))
    ∙ vanish r ring n (modulus_value m *ℤ quotients place) (q m refl (is_multiple_sound (modulus_value m) n truth))

-- atoms whose variables have small numbers
abbrev pub AreNarrow : List Atom → Type 0
AreNarrow atoms = list_all (λ v. nat_lt v (2 ^ 32)) (filter_map name_of atoms) ≡ true

names_append : (xs ys : List Atom) → filter_map name_of (xs ++ ys) ≡ filter_map name_of xs ++ filter_map name_of ys
names_append [] ys = refl
names_append (x ∷ xs) ys = ap (cons_option (name_of x)) (names_append xs ys) ∙ at (name_of x)
  where
    at : (o : Option ℕ) → cons_option o (filter_map name_of xs ++ filter_map name_of ys) ≡ cons_option o (filter_map name_of xs) ++ filter_map name_of ys
    at None = refl
    at (Some v) = refl

narrow_parts : (xs ys : List Atom) → AreNarrow (xs ++ ys) → AreNarrow xs × AreNarrow ys
narrow_parts xs ys e = parts (filter_map name_of xs) (filter_map name_of ys) (sym (ap (list_all (λ v. nat_lt v (2 ^ 32))) (names_append xs ys)) ∙ e)

pub narrow_atom : (a : Atom) → AreNarrow (a ∷ []) → are_narrow (term_of a) ≡ true
narrow_atom (atom.Var v) e = narrow_var v (and_parts _ _ e).0
narrow_atom (atom.Lit T n) e = narrow_num n

-- the operand that a range term is
abbrev IsOperand : List Word → RngTerm → Type 0
IsOperand store t = IfSome (operand_of t) (λ a. (range_word store t ≡ word_of store a) × (term_atoms t ≡ a ∷ []))

abbrev Operand : List Word → Type 0
Operand store = (t : RngTerm) × IsOperand store t

not_operand : (store : List Word) (t : RngTerm) → operand_of t ≡ None → IsOperand store t
not_operand store t e = subst (λ o. IfSome o (λ a. (range_word store t ≡ word_of store a) × (term_atoms t ≡ a ∷ []))) (sym e) tt

operand_is : (store : List Word) (y : RngTerm-F (Operand store)) → IsOperand store (roll-RngTerm (map-RngTerm (Operand store) RngTerm (λ e. e.0) y))
operand_is store (term_layer.Leaf a) =
    subst (λ o. IfSome o (λ a'. (range_word store (roll-RngTerm (term_layer.Leaf a)) ≡ word_of store a') × (term_atoms (roll-RngTerm (term_layer.Leaf a)) ≡ a' ∷ [])))
    (sym (fold-roll-RngTerm (Option Atom) operand_step (term_layer.Leaf a)))
    (fold-roll-RngTerm Word (word_step store) (term_layer.Leaf a), fold-roll-RngTerm (List Atom) term_atoms_step (term_layer.Leaf a))
operand_is store (term_layer.Neg t) = not_operand store (roll-RngTerm (term_layer.Neg t.0)) (fold-roll-RngTerm (Option Atom) operand_step (term_layer.Neg t.0))
operand_is store (term_layer.Flip t) = not_operand store (roll-RngTerm (term_layer.Flip t.0)) (fold-roll-RngTerm (Option Atom) operand_step (term_layer.Flip t.0))
operand_is store (term_layer.Bin op t u) = not_operand store (roll-RngTerm (term_layer.Bin op t.0 u.0)) (fold-roll-RngTerm (Option Atom) operand_step (term_layer.Bin op t.0 u.0))
operand_is store (term_layer.Cast T t) = not_operand store (roll-RngTerm (term_layer.Cast T t.0)) (fold-roll-RngTerm (Option Atom) operand_step (term_layer.Cast T t.0))

operand_word : (store : List Word) (t : RngTerm) → IsOperand store t
operand_word store = ind-RngTerm (IsOperand store) (λ x y is. subst (λ z. IsOperand store (roll-RngTerm z)) is (operand_is store y))

-- pairs of operands with equal values
abbrev AreEqual : List Word → List (Atom × Atom) → Type 0
AreEqual store [] = Unit {0}
AreEqual store (e ∷ es) =
    (are_narrow (term_of e.0) ≡ true) × (are_narrow (term_of e.1) ≡ true) × ((word_of store e.0).value ≡ (word_of store e.1).value)
    × AreEqual store es

equal_append : (store : List Word) (xs ys : List (Atom × Atom)) → AreEqual store xs → AreEqual store ys → AreEqual store (xs ++ ys)
equal_append store [] ys h k = k
equal_append store (x ∷ xs) ys h k = (h.0, h.1, h.2, equal_append store xs ys h.3 k)

pair_equal : (store : List Word) (op : CmpOp) (t u : RngTerm) (o o' : Option Atom) → IfSome o (λ a. (range_word store t ≡ word_of store a) × (term_atoms t ≡ a ∷ [])) → IfSome o' (λ a. (range_word store u ≡ word_of store a) × (term_atoms u ≡ a ∷ [])) → compares op (range_word store t).value (range_word store u).value ≡ true → AreNarrow (term_atoms t ++ term_atoms u) → AreEqual store (pair_of op o o')
pair_equal store cmp.Eq t u (Some a) (Some b) h k truth narrow =
    let two = narrow_parts (term_atoms t) (term_atoms u) narrow in (
      narrow_atom a (subst AreNarrow h.1 two.0),
      narrow_atom b (subst AreNarrow k.1 two.1),
      sym (ap (λ (w : Word). w.value) h.0) ∙ int_eq_is (range_word store t).value (range_word store u).value truth ∙ ap (λ (w : Word). w.value) k.0,
      tt,
    )
pair_equal store cmp.Eq t u (Some a) None h k truth narrow = tt
pair_equal store cmp.Eq t u None o' h k truth narrow = tt
pair_equal store _ t u o o' h k truth narrow = tt

abbrev HasEqualities : List Word → RngPred → Type 0
HasEqualities store p = range_truth store p ≡ true → AreNarrow (range_atoms p) → AreEqual store (equalities_of p)

abbrev Equalities : List Word → Type 0
Equalities store = (p : RngPred) × HasEqualities store p

at_layer : (store : List Word) (y : RngPred-F RngPred) (es : List (Atom × Atom)) (b : Bool) (atoms : List Atom) → equalities_of (roll-RngPred y) ≡ es → range_truth store (roll-RngPred y) ≡ b → range_atoms (roll-RngPred y) ≡ atoms → (b ≡ true → AreNarrow atoms → AreEqual store es) → HasEqualities store (roll-RngPred y)
at_layer store y es b atoms is truth are h holds narrow =
    subst (AreEqual store) (sym is) (h (sym truth ∙ holds) (subst AreNarrow are narrow))

equalities_step_holds : (store : List Word) (y : RngPred-F (Equalities store)) → HasEqualities store (roll-RngPred (map-RngPred (Equalities store) RngPred (λ e. e.0) y))
equalities_step_holds store pred_layer.True =
    at_layer store pred_layer.True [] true [] (fold-roll-RngPred (List (Atom × Atom)) equalities_step pred_layer.True) (fold-roll-RngPred Bool (truth_step store) pred_layer.True) (fold-roll-RngPred (List Atom) range_atoms_step pred_layer.True) (λ b n. tt)
equalities_step_holds store pred_layer.False =
    at_layer store pred_layer.False [] false [] (fold-roll-RngPred (List (Atom × Atom)) equalities_step pred_layer.False) (fold-roll-RngPred Bool (truth_step store) pred_layer.False) (fold-roll-RngPred (List Atom) range_atoms_step pred_layer.False) (λ b n. tt)
equalities_step_holds store (pred_layer.Cmp op t u) =
    at_layer store (pred_layer.Cmp op t u) (pair_of op (operand_of t) (operand_of u)) (compares op (range_word store t).value (range_word store u).value) (term_atoms t ++ term_atoms u)
    (fold-roll-RngPred (List (Atom × Atom)) equalities_step (pred_layer.Cmp op t u)) (fold-roll-RngPred Bool (truth_step store) (pred_layer.Cmp op t u)) (fold-roll-RngPred (List Atom) range_atoms_step (pred_layer.Cmp op t u))
    (λ b n. pair_equal store op t u (operand_of t) (operand_of u) (operand_word store t) (operand_word store u) b n)
equalities_step_holds store (pred_layer.Not p) =
    at_layer store (pred_layer.Not p.0) [] (not (range_truth store p.0)) (range_atoms p.0) (fold-roll-RngPred (List (Atom × Atom)) equalities_step (pred_layer.Not p.0)) (fold-roll-RngPred Bool (truth_step store) (pred_layer.Not p.0)) (fold-roll-RngPred (List Atom) range_atoms_step (pred_layer.Not p.0)) (λ b n. tt)
equalities_step_holds store (pred_layer.Both p q) =
    at_layer store (pred_layer.Both p.0 q.0) (equalities_of p.0 ++ equalities_of q.0) (range_truth store p.0 && range_truth store q.0) (range_atoms p.0 ++ range_atoms q.0)
    (fold-roll-RngPred (List (Atom × Atom)) equalities_step (pred_layer.Both p.0 q.0)) (fold-roll-RngPred Bool (truth_step store) (pred_layer.Both p.0 q.0)) (fold-roll-RngPred (List Atom) range_atoms_step (pred_layer.Both p.0 q.0))
    (λ b n.
    let truths = and_parts (range_truth store p.0) (range_truth store q.0) b in
    let narrow = narrow_parts (range_atoms p.0) (range_atoms q.0) n in
    equal_append store (equalities_of p.0) (equalities_of q.0) (p.1 truths.0 narrow.0) (q.1 truths.1 narrow.1))
equalities_step_holds store (pred_layer.Either p q) =
    at_layer store (pred_layer.Either p.0 q.0) [] (range_truth store p.0 || range_truth store q.0) (range_atoms p.0 ++ range_atoms q.0) (fold-roll-RngPred (List (Atom × Atom)) equalities_step (pred_layer.Either p.0 q.0)) (fold-roll-RngPred Bool (truth_step store) (pred_layer.Either p.0 q.0)) (fold-roll-RngPred (List Atom) range_atoms_step (pred_layer.Either p.0 q.0)) (λ b n. tt)

has_equalities : (store : List Word) (p : RngPred) → HasEqualities store p
has_equalities store = ind-RngPred (HasEqualities store) (λ x y is. subst (λ z. HasEqualities store (roll-RngPred z)) is (equalities_step_holds store y))

pairs_zero : (r : ℤ → ℤ) → IsReduction r → (store : List Word) (quotients : ℕ → ℤ) (place : ℕ) (es : List (Atom × Atom)) → AreEqual store es → AreZero r (point_of store quotients) (map (λ e. (place, equality_polynomial r e)) es)
pairs_zero r ring store quotients place [] h = tt
pairs_zero r ring store quotients place (e ∷ es) h = (
  value_difference r ring (point_of store quotients) (polynomial_of r (term_of e.0)) (polynomial_of r (term_of e.1)) (word_of store e.0).value (word_of store e.1).value
      (term_valued r ring store quotients (term_of e.0) h.0 ∙ ap r (operand_value store e.0))
      (term_valued r ring store quotients (term_of e.1) h.1 ∙ ap r (operand_value store e.1))
      ∙ vanish r ring (word_of store e.0).value (word_of store e.1).value h.2,
  pairs_zero r ring store quotients place es h.3,
)

one_if_counted : (r : ℤ → ℤ) (point : ℕ → ℤ) (b : Bool) (e : Placed) → r (value_of point e.1) ≡ pos 0 → AreZero r point (if b then e ∷ [] else [])
one_if_counted r point true e h = (h, tt)
one_if_counted r point false e h = tt

-- the equations of a true predicate
pub predicate_zero : (m : Option ℕ) → IsModulus m → (store : List Word) (quotients : ℕ → ℤ) (place : ℕ) (p : Pred) → list_all (λ v. nat_lt v (2 ^ 32)) (predicate_names p) ≡ true → predicate_truth store p ≡ true → ((f : AlgPred) (n : List Part) → p ≡ Alg f → f.modulus ≡ Some n → IsRatio (modulus_value n) (term_value store f.left -ℤ term_value store f.right) (quotients place)) → AreZero (reduced_by m) (point_of store quotients) (predicate_equations m place (Some p))
predicate_zero m ok store quotients place (Alg f) narrow truth q =
    let two = parts (term_names f.left) (term_names f.right) narrow in
    one_if_counted (reduced_by m) (point_of store quotients) (is_counted m f) (place, equation_polynomial (reduced_by m) place f f.modulus)
    (equation_zero (reduced_by m) (is_reduction m ok) store quotients place f f.modulus two.0 two.1 truth (λ n e. q f n refl e))
predicate_zero m ok store quotients place (Rng p) narrow truth q =
    pairs_zero (reduced_by m) (is_reduction m ok) store quotients place (equalities_of p) (has_equalities store p truth narrow)
