-- The value of a power is read off the layer of the term.
use Rattle.std.proofs.Common.{◌≡◌, ◌∙◌, ℕ, suc, ap, ℤ, pos, ◌*ℤ◌, List}
use Rattle.tcl_num.proofs.IntegerRing.{int_zero_mul}
use Rattle.tcl_lang.specs.declared.ty.Word.{Word}
use Rattle.tcl_lang.specs.declared.term.Term.{Term, fold-roll-Term}
use Rattle.tcl_lang.specs.declared.term.Term as plain_term
use Rattle.tcl_lang.specs.declared.term.Term.TheViews as term
use Rattle.tcl_lang.specs.declared.term.Term.TheOpen as layer
use Rattle.tcl_lang.specs.Term.{power_of, value_step, term_value}
use Rattle.tests_language.proofs.language.zero_is_raised.Goals as goal

power_is : (store : List Word) (t : Term) (k : ℕ) → term_value store (term.Pow t k) ≡ power_of (term_value store t) k
unfolding plain_term.roll-Term power_of denote.Hole.Carrier.roll
power_is store t k = fold-roll-Term ℤ (value_step store) (layer.Pow t k)

zeroth : (store : List Word) (t : Term) → term_value store (term.Pow t 0) ≡ pos 1
unfolding power_of
zeroth store t = power_is store t 0

later : (n : ℤ) (k : ℕ) → n ≡ pos 0 → power_of n (suc k) ≡ pos 0
unfolding power_of
later n k e = ap (λ m. m *ℤ power_of n k) e ∙ int_zero_mul (power_of n k)

pub returns-clause-zeroth : goal.returns-clause-zeroth
returns-clause-zeroth c store = zeroth store _

pub returns-clause-others : goal.returns-clause-others
unfolding plain_term.roll-Term denote.Hole.Carrier.roll
returns-clause-others c store k =
    power_is store (plain_term.Num (pos 0)) (suc k)
    ∙ later (term_value store (plain_term.Num (pos 0))) k (fold-roll-Term ℤ (value_step store) (layer.Num (pos 0)))

pub returns-clause-zeroth_of_zeroth : goal.returns-clause-zeroth_of_zeroth
returns-clause-zeroth_of_zeroth c store = zeroth store _

pub returns-clause-zeroth_of_third : goal.returns-clause-zeroth_of_third
returns-clause-zeroth_of_third c store = zeroth store _

pub returns-clause-zeroth_of_difference : goal.returns-clause-zeroth_of_difference
returns-clause-zeroth_of_difference c store = zeroth store _
