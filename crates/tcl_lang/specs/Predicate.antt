-- The truth of a predicate in a store: an equation of integers, a congruence of integers, or a range predicate.
use Rattle.std.specs.Prelude.{◌≡◌, ◌-ℤ◌, Bool, List, Option, Some, None}
use Rattle.std.specs.Ordering.{int_eq}
use Rattle.tcl_num.specs.Congruence.{Divides, is_multiple}
use Rattle.tcl_lang.specs.declared.ty.Word.{Word}
use Rattle.tcl_lang.specs.declared.term.Term.{Term}
use Rattle.tcl_lang.specs.declared.term.Part.{Part}
use Rattle.tcl_lang.specs.declared.term.AlgPred.{AlgPred}
use Rattle.tcl_lang.specs.declared.pred.Pred.{Pred}
use Rattle.tcl_lang.specs.declared.pred.Pred.TheVariants.{Alg, Rng}
use Rattle.tcl_lang.specs.Term.{term_value}
use Rattle.tcl_lang.specs.Modulus.{modulus_value}
use Rattle.tcl_lang.specs.Range.{range_truth}

-- f = g as integers, f = g mod m where f - g is a multiple of m
abbrev pub Agrees : List Word → Term → Term → Option (List Part) → Type 0
Agrees store f g None = term_value store f ≡ term_value store g
Agrees store f g (Some m) = Divides (modulus_value m) (term_value store f -ℤ term_value store g)

-- the same as a test
abbrev pub agrees : List Word → Term → Term → Option (List Part) → Bool
agrees store f g None = int_eq (term_value store f) (term_value store g)
agrees store f g (Some m) = is_multiple (modulus_value m) (term_value store f -ℤ term_value store g)

-- the truth of an algebraic predicate
abbrev pub algebraic_truth : List Word → AlgPred → Bool
algebraic_truth store p = agrees store p.left p.right p.modulus

-- the truth of a predicate
abbrev pub predicate_truth : List Word → Pred → Bool
predicate_truth store (Alg p) = algebraic_truth store p
predicate_truth store (Rng p) = range_truth store p
