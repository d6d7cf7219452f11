-- The tests of truth and their mathematical reading, and what the computed truth tells of a line.
use Rattle.std.proofs.Common.{◌≡◌, ◌↔◌, inl, inr, ℕ, zero, suc, ◌+◌, ◌*◌, ◌^◌, ◌<◌, min, refl, sym, ◌∙◌, ap, subst, arith, ℤ, pos, neg_ℤ, ◌-ℤ◌, ◌*ℤ◌, unsigned_abs, Bool, true, false, cond, nat_lt, List, Option, Some, None}
use Rattle.std.specs.List.{slice_get}
use Rattle.std.specs.Ordering.{int_eq}
use Rattle.std.proofs.lemmas.Int.{ints, unsigned_abs-mul}
use Rattle.std.proofs.lemmas.Bool.{ltb-true, cases_Bool}
use Rattle.std.proofs.lemmas.Bool.Decides.{Decides-int_eq}
use Rattle.std.proofs.lemmas.Nat.{pow_below}
use Rattle.tcl_num.specs.Congruence.{is_multiple}
use Rattle.tcl_num.proofs.IntegerOrder.{unsigned_abs_add, unsigned_abs_neg}
use Rattle.tcl_num.proofs.SaturatingCounts.{product_at_least}
use Rattle.tcl_num.proofs.Divisibility.{is_multiple_sound, is_multiple_complete, divides_zero}
use Rattle.tcl_lang.specs.declared.outcome.Truth.TheVariants.{Yes, No, Wide}
use Rattle.tcl_lang.specs.declared.ty.Word.{Word}
use Rattle.tcl_lang.specs.declared.term.Term.{Term}
use Rattle.tcl_lang.specs.declared.term.Part.{Part}
use Rattle.tcl_lang.specs.declared.instr.Instr.{Instr}
use Rattle.tcl_lang.specs.declared.pred.Pred.{Pred}
use Rattle.tcl_lang.specs.declared.pred.Pred.TheVariants.{Alg, Rng}
use Rattle.tcl_lang.specs.declared.pred.Line.{Line}
use Rattle.tcl_lang.specs.Term.{term_value}
use Rattle.tcl_lang.specs.Modulus.{modulus_value, is_wide_modulus}
use Rattle.tcl_lang.specs.Range.{range_truth}
use Rattle.tcl_lang.specs.Predicate.{Agrees, agrees, predicate_truth}
use Rattle.tcl_lang.specs.Bound.{size_in, equation_size, size_end}
use Rattle.tcl_lang.specs.Line.{predicate_of, instruction_of, instruction_truth, stated_truth, line_truth}
use Rattle.tcl_lang.specs.Truth.{yes_or_no, equation_truth, predicate_computed, stated_computed, line_computed}
use Rattle.tcl_lang.specs.Run.{Fits, taken_types, store_at}
use Rattle.tcl_lang.specs.Goal.{truth_in, truth_at}
use Rattle.tcl_lang.specs.Correct.{IsCounterexample}
use Rattle.tcl_lang.specs.Checked.{computed_in, computed_at, IsCheckedCounterexample}
use Rattle.tcl_lang.specs.Execution.{HoldsValues, IsRunnable}
use Rattle.tcl_lang.proofs.TermSizes.{term_bounded}
use Rattle.tcl_lang.proofs.TypedRuns.{run_values}

-- the test of an equation says exactly when it holds
pub agrees_reads : (store : List Word) (f g : Term) (m : Option (List Part)) → (agrees store f g m ≡ true) ↔ Agrees store f g m
agrees_reads store f g None = Decides-int_eq (term_value store f) (term_value store g)
agrees_reads store f g (Some m) = (
  is_multiple_sound (modulus_value m) (term_value store f -ℤ term_value store g),
  is_multiple_complete (modulus_value m) (term_value store f -ℤ term_value store g),
)

-- a multiple that is smaller than the modulus is zero
small_multiple : (z k : ℤ) (m : ℕ) → z ≡ pos m *ℤ k → unsigned_abs z < m → z ≡ pos 0
small_multiple z k m e h = factor (unsigned_abs k) (ap unsigned_abs e ∙ unsigned_abs-mul (pos m) k)
  where
    factor : (n : ℕ) → unsigned_abs z ≡ m * n → z ≡ pos 0
    factor zero f = omega (arith, ints, f)
    factor (suc n) f = absurd (omega (arith, f, h, product_at_least m (suc n) (omega arith)))

-- sides that agree modulo 2 ^ 128 and are small are equal
pub equal_sides : (store : List Word) (f g : Term) → HoldsValues store → is_multiple (pos (2 ^ 128)) (term_value store f -ℤ term_value store g) ≡ true → nat_lt (equation_size store f g) size_end ≡ true → term_value store f ≡ term_value store g
equal_sides store f g v t s =
    let d = is_multiple_sound (pos (2 ^ 128)) (term_value store f -ℤ term_value store g) t in
    zero_apart (2 ^ 128) (2 ^ 126) (pow_below 126 128 (omega arith)) d.0 d.1 (below (2 ^ 126) s)
  where
    below : (e : ℕ) → nat_lt (min (size_in store f + size_in store g) e) e ≡ true → size_in store f + size_in store g < e
    below e t = omega (arith, ltb-true (min (size_in store f + size_in store g) e) e t)

    zero_apart : (m e : ℕ) → e < m → (k : ℤ) → term_value store f -ℤ term_value store g ≡ pos m *ℤ k → size_in store f + size_in store g < e → term_value store f ≡ term_value store g
    zero_apart m e less k split small =
        let x = term_value store f in let y = term_value store g in
        let bound = unsigned_abs_add x (neg_ℤ y) in
        let none = small_multiple (x -ℤ y) k m split (omega (arith, bound, unsigned_abs_neg y, term_bounded store v f, term_bounded store v g)) in
        omega (arith, ints, none)

-- the two tests of a plain equation
plain_yes : (b c : Bool) → cond b (cond c Yes Wide) No ≡ Yes → (b ≡ true) × (c ≡ true)
plain_yes true true e = (refl, refl)
plain_yes true false e = absurd (cc)
plain_yes false c e = absurd (cc)

plain_no : (b c : Bool) → cond b (cond c Yes Wide) No ≡ No → b ≡ false
plain_no true true e = absurd (cc)
plain_no true false e = absurd (cc)
plain_no false c e = refl

test_yes : (b : Bool) → yes_or_no b ≡ Yes → b ≡ true
test_yes true e = refl
test_yes false e = absurd (cc)

test_no : (b : Bool) → yes_or_no b ≡ No → b ≡ false
test_no true e = absurd (cc)
test_no false e = refl

wide_yes : (w b : Bool) → cond w Wide (yes_or_no b) ≡ Yes → b ≡ true
wide_yes true b e = absurd (cc)
wide_yes false b e = test_yes b e

wide_no : (w b : Bool) → cond w Wide (yes_or_no b) ≡ No → b ≡ false
wide_no true b e = absurd (cc)
wide_no false b e = test_no b e

pub equation_yes : (store : List Word) (f g : Term) (m : Option (List Part)) → HoldsValues store → equation_truth store f g m ≡ Yes → agrees store f g m ≡ true
equation_yes store f g None v e =
    let parts = plain_yes (is_multiple (pos (2 ^ 128)) (term_value store f -ℤ term_value store g)) (nat_lt (equation_size store f g) size_end) e in
    (Decides-int_eq (term_value store f) (term_value store g)).1 (equal_sides store f g v parts.0 parts.1)
equation_yes store f g (Some m) v e = wide_yes (is_wide_modulus m) _ e

pub equation_no : (store : List Word) (f g : Term) (m : Option (List Part)) → equation_truth store f g m ≡ No → agrees store f g m ≡ false
equation_no store f g None e = apart (term_value store f) (term_value store g) (plain_no (is_multiple (pos (2 ^ 128)) (term_value store f -ℤ term_value store g)) _ e)
  where
    apart : (x y : ℤ) → is_multiple (pos (2 ^ 128)) (x -ℤ y) ≡ false → int_eq x y ≡ false
    apart x y n = elim (cases_Bool (int_eq x y)) [
      | inl t ↦ absurd (both (is_multiple (pos (2 ^ 128)) (x -ℤ y)) (subst (λ z. is_multiple (pos (2 ^ 128)) z ≡ true) (sym (zero_of t)) (is_multiple_complete (pos (2 ^ 128)) (pos 0) (divides_zero (pos (2 ^ 128))))) n)
      | inr f ↦ f
    ]
      where
        both : (b : Bool) → b ≡ true → b ≡ false → ⊥
        both b p q = cc

        zero_of : int_eq x y ≡ true → x -ℤ y ≡ pos 0
        zero_of t = let same = (Decides-int_eq x y).0 t in omega (arith, ints, same)
equation_no store f g (Some m) e = wide_no (is_wide_modulus m) _ e

-- of a predicate
predicate_yes : (store : List Word) (p : Pred) → HoldsValues store → predicate_computed store p ≡ Yes → predicate_truth store p ≡ true
predicate_yes store (Alg p) v e = equation_yes store p.left p.right p.modulus v e
predicate_yes store (Rng p) v e = test_yes (range_truth store p) e

predicate_no : (store : List Word) (p : Pred) → predicate_computed store p ≡ No → predicate_truth store p ≡ false
predicate_no store (Alg p) e = equation_no store p.left p.right p.modulus e
predicate_no store (Rng p) e = test_no (range_truth store p) e

-- of what is stated, and so of a line
stated_yes : (store : List Word) (s : Option Pred) (i : Option Instr) → HoldsValues store → stated_computed store s i ≡ Yes → stated_truth store s i ≡ true
stated_yes store (Some p) i v e = predicate_yes store p v e
stated_yes store None (Some i) v e = test_yes (instruction_truth store i) e
stated_yes store None None v e = refl

stated_no : (store : List Word) (s : Option Pred) (i : Option Instr) → stated_computed store s i ≡ No → stated_truth store s i ≡ false
stated_no store (Some p) i e = predicate_no store p e
stated_no store None (Some i) e = test_no (instruction_truth store i) e
stated_no store None None e = absurd (cc)

pub line_yes : (store : List Word) (l : Line) → HoldsValues store → line_computed store l ≡ Yes → line_truth store l ≡ true
line_yes store l v e = stated_yes store (predicate_of l) (instruction_of l) v e

pub line_no : (store : List Word) (l : Line) → line_computed store l ≡ No → line_truth store l ≡ false
line_no store l e = stated_no store (predicate_of l) (instruction_of l) e

yes_in : (store : List Word) (o : Option Line) → HoldsValues store → computed_in store o ≡ Yes → truth_in store o ≡ true
yes_in store None v e = refl
yes_in store (Some l) v e = line_yes store l v e

no_in : (store : List Word) (o : Option Line) → computed_in store o ≡ No → truth_in store o ≡ false
no_in store None e = absurd (cc)
no_in store (Some l) e = line_no store l e

pub yes_at : (names : ℕ) (lines : List Line) (input : List ℤ) (k : ℕ) → IsRunnable names lines → Fits (taken_types lines) input → computed_at names lines input k ≡ Yes → truth_at names lines input k ≡ true
unfolding computed_at truth_at
yes_at names lines input k r f e = yes_in (store_at names lines input k) (slice_get lines k) (run_values names lines input r f k) e

pub no_at : (names : ℕ) (lines : List Line) (input : List ℤ) (k : ℕ) → computed_at names lines input k ≡ No → truth_at names lines input k ≡ false
unfolding computed_at truth_at
no_at names lines input k e = no_in (store_at names lines input k) (slice_get lines k) e

-- a checked counterexample is a counterexample
pub checked_refutes : (names : ℕ) (lines : List Line) (input : List ℤ) (i : ℕ) → IsRunnable names lines → IsCheckedCounterexample names lines input i → IsCounterexample names lines input i
checked_refutes names lines input i r c = record {
  place = c.place;
  at = c.at;
  fits = c.fits;
  precondition = λ j p. yes_at names lines input j r c.fits (c.precondition j p);
  assumptions = λ j h a. yes_at names lines input j r c.fits (c.assumptions j h a);
  goals = λ j h g. yes_at names lines input j r c.fits (c.goals j h g);
  fails = no_at names lines input c.place c.fails;
}
