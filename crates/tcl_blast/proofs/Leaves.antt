-- Terms that are no variable and no number, and the bits of a number.
use Rattle.std.proofs.Common.{◌≡◌, ℕ, ◌+◌, ◌∙◌, refl, ap, ℤ, true, List, [], ◌∷◌, ◌++◌, length, map, Option, Some, None, ◌&&◌}
use Rattle.std.proofs.lemmas.List.{map-append}
use Rattle.std.specs.List.{slice_get}
use Rattle.std.proofs.lemmas.Bool.{and_parts}
use Rattle.tcl_lang.specs.declared.ty.Ty.{Ty}
use Rattle.tcl_lang.specs.declared.term.Part.{Part}
use Rattle.tcl_lang.specs.declared.term.AlgPred.{AlgPred}
use Rattle.tcl_lang.specs.declared.pred.Pred.{Pred}
use Rattle.tcl_lang.specs.declared.pred.Pred.TheVariants.{Alg, Rng}
use Rattle.tcl_lang.specs.declared.pred.Line.{Line}
use Rattle.tcl_lang.specs.declared.pred.Line.TheVariants.{Input, Pre, Step, Assert, Assume, Cut, Post}
use Rattle.tcl_lang.specs.declared.variable.Variable.{Variable}
use Rattle.tcl_lang.specs.Program.{VersionedProgram}
use Rattle.tcl_lang.specs.Line.{predicate_of}
use Rattle.tcl_lang.specs.Shape.{is_term, is_parts, is_predicate, is_line}
use Rattle.tcl_lang.specs.Form.{IsWellFormed}
use Rattle.tcl_lang.proofs.TypedRuns.{line_shape}
use Rattle.tcl_goals.specs.Numbers.{numbers_below}
use Rattle.tcl_goals.proofs.Numbers.{those_none, next_yes}
use Rattle.tcl_blast.specs.Lifted.{Leaf, variable, number, negated, other, negated_leaf, leaf_of, variable_of, integer_of, pattern_bit, bits_like, fixed_in, fixed_by, fixed_bits_of, HasTerm}

pub no_variable : (l : Leaf) → variable_of (negated_leaf l) ≡ None
no_variable (variable v) = refl
no_variable (number n) = refl
no_variable (negated n) = refl
no_variable other = refl

pub no_integer : (l : Leaf) → integer_of (negated_leaf (negated_leaf l)) ≡ None
no_integer (variable v) = refl
no_integer (number n) = refl
no_integer (negated n) = refl
no_integer other = refl

pub bits_none : (v : ℕ) (T : Ty) (c : ℤ) → bits_like v T c 0 ≡ []
bits_none v T c = ap (map (λ j. record { var = v; bit = j; value = pattern_bit T c j })) (those_none (λ k. true))

pub bits_more : (v : ℕ) (T : Ty) (c : ℤ) (n : ℕ) → bits_like v T c (n + 1) ≡ bits_like v T c n ++ record { var = v; bit = n; value = pattern_bit T c n } ∷ []
bits_more v T c n =
    ap (map (λ j. record { var = v; bit = j; value = pattern_bit T c j })) (next_yes (λ k. true) n refl)
    ∙ map-append (λ j. record { var = v; bit = j; value = pattern_bit T c j }) (numbers_below n) (n ∷ [])

-- the bits of an equation by what its sides are
no_variable_first : (variables : List Variable) (c : Option ℤ) (m : Option (List Part)) → fixed_by variables None c m ≡ []
no_variable_first variables None m = refl
no_variable_first variables (Some c) m = refl

pub fixed_not_variable : (variables : List Variable) (p : AlgPred) → variable_of (leaf_of p.left) ≡ None → fixed_bits_of variables p ≡ []
unfolding fixed_bits_of
fixed_not_variable variables p e = ap (λ o. fixed_by variables o (integer_of (leaf_of p.right)) p.modulus) e ∙ no_variable_first variables (integer_of (leaf_of p.right)) p.modulus

no_integer_second : (variables : List Variable) (v : Option ℕ) (m : Option (List Part)) → fixed_by variables v None m ≡ []
no_integer_second variables None m = refl
no_integer_second variables (Some v) m = refl

pub fixed_not_integer : (variables : List Variable) (p : AlgPred) → integer_of (leaf_of p.right) ≡ None → fixed_bits_of variables p ≡ []
unfolding fixed_bits_of
fixed_not_integer variables p e = ap (λ o. fixed_by variables (variable_of (leaf_of p.left)) o p.modulus) e ∙ no_integer_second variables (variable_of (leaf_of p.left)) p.modulus

pub fixed_sides : (variables : List Variable) (p : AlgPred) (v : ℕ) (c : ℤ) → variable_of (leaf_of p.left) ≡ Some v → integer_of (leaf_of p.right) ≡ Some c → fixed_bits_of variables p ≡ fixed_in (slice_get variables v) v c p.modulus
unfolding fixed_bits_of
fixed_sides variables p v c e f = ap (λ o. fixed_by variables o (integer_of (leaf_of p.right)) p.modulus) e ∙ ap (λ o. fixed_by variables (Some v) o p.modulus) f

-- the right side of each equation has the shape of a term
predicate_term : (p : Pred) → is_predicate p ≡ true → HasTerm (Some p)
predicate_term (Alg p) e = (and_parts (is_term p.left) (is_term p.right) (and_parts (is_term p.left && is_term p.right) (is_parts p.modulus) e).0).1
predicate_term (Rng p) e = tt

line_term : (l : Line) → is_line l ≡ true → HasTerm (predicate_of l)
line_term (Input T v) e = tt
line_term (Pre p) e = predicate_term p e
line_term (Step i) e = tt
line_term (Assert p) e = predicate_term p e
line_term (Assume p) e = predicate_term p e
line_term (Cut p) e = predicate_term p e
line_term (Post p) e = predicate_term p e

pub term_at : (f : VersionedProgram) (k : ℕ) (l : Line) → IsWellFormed f → slice_get f.lines k ≡ Some l → HasTerm (predicate_of l)
term_at f k l w at = line_term l (line_shape (length f.variables) f.lines k l w.runnable at)
