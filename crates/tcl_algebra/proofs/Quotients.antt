-- A value for the unknown of a line: the quotient where the line's numbers are congruent.
use Rattle.std.proofs.Common.{◌≡◌, ◌^◌, sym, ◌∙◌, arith, ℤ, pos, neg_ℤ, ◌-ℤ◌, ◌*ℤ◌, Bool, true, false, List, Option, Some, None, refl, ap, subst}
use Rattle.std.proofs.lemmas.Int.{ints}
use Rattle.tcl_num.specs.Congruence.{Divides, Congruent, is_multiple, is_congruent}
use Rattle.tcl_num.proofs.IntegerRing.{int_mul_neg}
use Rattle.tcl_num.proofs.Divisibility.{is_multiple_sound, is_multiple_complete, is_congruent_sound, is_congruent_complete}
use Rattle.tcl_lang.specs.declared.ty.Word.{Word}
use Rattle.tcl_lang.specs.declared.instr.Instr.{Instr}
use Rattle.tcl_lang.specs.declared.term.Part.{Part}
use Rattle.tcl_lang.specs.declared.term.AlgPred.{AlgPred}
use Rattle.tcl_lang.specs.declared.range.RngPred.{RngPred}
use Rattle.tcl_lang.specs.declared.pred.Pred.{Pred}
use Rattle.tcl_lang.specs.declared.pred.Pred.TheVariants.{Alg, Rng}
use Rattle.tcl_lang.specs.declared.pred.Line.{Line}
use Rattle.tcl_lang.specs.declared.pred.Line.TheVariants.{Input, Pre, Step, Assert, Assume, Cut, Post}
use Rattle.tcl_lang.specs.Store.{word_at}
use Rattle.tcl_lang.specs.Instruction.{nth}
use Rattle.tcl_lang.specs.Line.{values_of}
use Rattle.tcl_lang.specs.Term.{term_value}
use Rattle.tcl_lang.specs.Modulus.{modulus_value}
use Rattle.tcl_algebra.specs.Row.{last_of}
use Rattle.tcl_algebra.specs.Equations.{instruction_in, predicate_in}

-- q is the quotient of two numbers that are congruent, of a number that is a multiple
abbrev pub IsDifference : ℤ → ℤ → ℤ → ℤ → Type 0
IsDifference m x a q = Congruent m x a → x ≡ a -ℤ m *ℤ q

abbrev pub IsRatio : ℤ → ℤ → ℤ → Type 0
IsRatio m n q = Divides m n → n ≡ m *ℤ q

difference : (m x a : ℤ) → (q : ℤ) × IsDifference m x a q
difference m x a = at (is_congruent m x a) refl
  where
    at : (b : Bool) → is_congruent m x a ≡ b → (q : ℤ) × IsDifference m x a q
    at true e = let c = is_congruent_sound m x a e in (neg_ℤ c.0, λ _. omega (arith, ints, c.1, int_mul_neg m c.0))
    at false e = (pos 0, λ c. absurd (clash (sym (is_congruent_complete m x a c) ∙ e)))
      where
        clash : true ≡ false → ⊥
        clash h = cc

ratio : (m n : ℤ) → (q : ℤ) × IsRatio m n q
ratio m n = at (is_multiple m n) refl
  where
    at : (b : Bool) → is_multiple m n ≡ b → (q : ℤ) × IsRatio m n q
    at true e = let c = is_multiple_sound m n e in (c.0, λ _. c.1)
    at false e = (pos 0, λ c. absurd (clash (sym (is_multiple_complete m n c) ∙ e)))
      where
        clash : true ≡ false → ⊥
        clash h = cc

-- q serves as the value of the unknown of the line
pub record IsQuotient (store : List Word) (o : Option Line) (q : ℤ) : Type 0 where
  pub step : (i : Instr) → instruction_in o ≡ Some i → IsDifference (pos (2 ^ i.ty.width)) (word_at store (last_of i.outs)).value (nth (values_of store i.args) 0) q
  pub equation : (f : AlgPred) (m : List Part) → predicate_in o ≡ Some (Alg f) → f.modulus ≡ Some m → IsRatio (modulus_value m) (term_value store f.left -ℤ term_value store f.right) q

no_step : (store : List Word) (q : ℤ) (i : Instr) → None ≡ Some i → IsDifference (pos (2 ^ i.ty.width)) (word_at store (last_of i.outs)).value (nth (values_of store i.args) 0) q
no_step store q i e = absurd (cc)

no_equation : (store : List Word) (q : ℤ) (f : AlgPred) (m : List Part) → None ≡ Some (Alg f) → f.modulus ≡ Some m → IsRatio (modulus_value m) (term_value store f.left -ℤ term_value store f.right) q
no_equation store q f m e g = absurd (cc)

abbrev IsPredQuotient : List Word → Pred → ℤ → Type 0
IsPredQuotient store p q = (f : AlgPred) (m : List Part) → Some p ≡ Some (Alg f) → f.modulus ≡ Some m → IsRatio (modulus_value m) (term_value store f.left -ℤ term_value store f.right) q

same_pred : (f g : AlgPred) → Some (Alg f) ≡ Some (Alg g) → f ≡ g
same_pred f g e = cc

pred_quotient : (store : List Word) (p : Pred) → (q : ℤ) × IsPredQuotient store p q
pred_quotient store (Alg f) = at f.modulus refl
  where
    at : (o : Option (List Part)) → f.modulus ≡ o → (q : ℤ) × IsPredQuotient store (Alg f) q
    at None e = (pos 0, λ g m is has. absurd (none_some m (sym e ∙ ap (λ (h : AlgPred). h.modulus) (same_pred f g is) ∙ has)))
      where
        none_some : (m : List Part) → None ≡ Some m → ⊥
        none_some m h = cc
    at (Some n) e =
        let found = ratio (modulus_value n) (term_value store f.left -ℤ term_value store f.right) in (
          found.0,
          λ g m is has.
              let same : n ≡ m = some_same n m (sym e ∙ ap (λ (h : AlgPred). h.modulus) (same_pred f g is) ∙ has) in
              subst (λ k. IsRatio (modulus_value k) (term_value store g.left -ℤ term_value store g.right) found.0) same
              (subst (λ (h : AlgPred). IsRatio (modulus_value n) (term_value store h.left -ℤ term_value store h.right) found.0) (same_pred f g is) found.1),
        )
      where
        some_same : (n m : List Part) → Some n ≡ Some m → n ≡ m
        some_same n m h = cc
pred_quotient store (Rng p) = (pos 0, λ g m is has. absurd (range_equation p g is))
  where
    range_equation : (p : RngPred) (g : AlgPred) → Some (Rng p) ≡ Some (Alg g) → ⊥
    range_equation p g h = cc

of_pred : (store : List Word) (o : Option Line) (p : Pred) → instruction_in o ≡ None → predicate_in o ≡ Some p → (q : ℤ) × IsQuotient store o q
of_pred store o p none is =
    let found = pred_quotient store p in (
      found.0,
      record { step = λ i e. no_step store found.0 i (sym none ∙ e); equation = λ f m e. found.1 f m (sym is ∙ e) },
    )

step_same : (i j : Instr) → Some i ≡ Some j → i ≡ j
step_same i j e = cc

pub quotient_in : (store : List Word) (o : Option Line) → (q : ℤ) × IsQuotient store o q
quotient_in store None = (pos 0, record { step = no_step store (pos 0); equation = no_equation store (pos 0) })
quotient_in store (Some (Input T name)) = (pos 0, record { step = no_step store (pos 0); equation = no_equation store (pos 0) })
quotient_in store (Some (Pre p)) = of_pred store (Some (Pre p)) p refl refl
quotient_in store (Some (Step i)) =
    let found = difference (pos (2 ^ i.ty.width)) (word_at store (last_of i.outs)).value (nth (values_of store i.args) 0) in (
      found.0,
      record {
        step = λ j e. subst (λ (j : Instr). IsDifference (pos (2 ^ j.ty.width)) (word_at store (last_of j.outs)).value (nth (values_of store j.args) 0) found.0) (step_same i j e) found.1;
        equation = no_equation store found.0;
      },
    )
quotient_in store (Some (Assert p)) = of_pred store (Some (Assert p)) p refl refl
quotient_in store (Some (Assume p)) = of_pred store (Some (Assume p)) p refl refl
quotient_in store (Some (Cut p)) = of_pred store (Some (Cut p)) p refl refl
quotient_in store (Some (Post p)) = of_pred store (Some (Post p)) p refl refl
