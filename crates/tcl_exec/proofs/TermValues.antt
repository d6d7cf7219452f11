-- The value of a term from those of its parts.
use Rattle.std.proofs.Common.{◌≡◌, ℕ, ℤ, neg_ℤ, ◌+ℤ◌, ◌-ℤ◌, ◌*ℤ◌, sym, ◌∙◌, ap, List}
use Rattle.tcl_lang.specs.declared.ty.Word.{Word}
use Rattle.tcl_lang.specs.declared.term.Term.{Term}
use Rattle.tcl_lang.specs.declared.term.Term.TheOpen as layer
use Rattle.tcl_lang.specs.declared.term.Term.TheViews as term
use Rattle.tcl_lang.specs.declared.term.Term.TheVariants as rolled
use Rattle.tcl_lang.specs.declared.term.Term.TheFolds.{fold-roll-Term}
use Rattle.tcl_lang.specs.Term.{power_of, value_step, term_value}

pub value_negative : (S : List Word) (z t : Term) → z ≡ term.Neg t → term_value S z ≡ neg_ℤ (term_value S t)
value_negative S z t e = ap (term_value S) (e ∙ sym (rolled.rolls-Neg t)) ∙ fold-roll-Term ℤ (value_step S) (layer.Neg t)

pub value_sum : (S : List Word) (z t u : Term) → z ≡ term.Add t u → term_value S z ≡ term_value S t +ℤ term_value S u
value_sum S z t u e = ap (term_value S) (e ∙ sym (rolled.rolls-Add t u)) ∙ fold-roll-Term ℤ (value_step S) (layer.Add t u)

pub value_difference : (S : List Word) (z t u : Term) → z ≡ term.Sub t u → term_value S z ≡ term_value S t -ℤ term_value S u
value_difference S z t u e = ap (term_value S) (e ∙ sym (rolled.rolls-Sub t u)) ∙ fold-roll-Term ℤ (value_step S) (layer.Sub t u)

pub value_product : (S : List Word) (z t u : Term) → z ≡ term.Mul t u → term_value S z ≡ term_value S t *ℤ term_value S u
value_product S z t u e = ap (term_value S) (e ∙ sym (rolled.rolls-Mul t u)) ∙ fold-roll-Term ℤ (value_step S) (layer.Mul t u)

pub value_power : (S : List Word) (z t : Term) (k : ℕ) → z ≡ term.Pow t k → term_value S z ≡ power_of (term_value S t) k
value_power S z t k e = ap (term_value S) (e ∙ sym (rolled.rolls-Pow t k)) ∙ fold-roll-Term ℤ (value_step S) (layer.Pow t k)
