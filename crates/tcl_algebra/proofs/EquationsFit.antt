-- Each equation of a fact is a polynomial over its ring, of a degree of at most 1,024.
use Rattle.std.proofs.Common.{◌≡◌, ℕ, ◌+◌, ◌-◌, ◌^◌, ◌≤◌, max, min, refl, sym, ◌∙◌, ap, arith, ℤ, pos, negsuc, Bool, true, false, not, ◌&&◌, if◌then◌else◌, nat_lt, nat_eq, List, [], ◌∷◌, ◌++◌, map, filter_map, flat_map, length, Option, Some, None, IfSome}
use Rattle.std.specs.List.{slice_get, slice_index_or, cons_option}
use Rattle.std.proofs.lemmas.Bool.{and_parts, not-true}
use Rattle.std.proofs.lemmas.Bool.Decides.{nat_tests}
use Rattle.tcl_ring.specs.Reduction.{reduced_by, IsModulus, is_wide}
use Rattle.tcl_ring.proofs.Reductions.{is_reduction}
use Rattle.tcl_poly.specs.Unknown.{variable_key}
use Rattle.tcl_poly.specs.Polynomial.{product_of, power_of}
use Rattle.tcl_reduce.specs.Reduction.{Definition, equation_of}
use Rattle.tcl_lang.specs.declared.ty.Ty.{Ty}
use Rattle.tcl_lang.specs.declared.instr.Atom.{Atom}
use Rattle.tcl_lang.specs.declared.instr.Atom.TheVariants as atom
use Rattle.tcl_lang.specs.declared.instr.Op.{Op}
use Rattle.tcl_lang.specs.declared.instr.Op.TheVariants.{Mov, Add, Adds, Adc, Adcs, Sub, Subb, Sbb, Sbbs, Mul, Mull, Mulj, Shl, Split, Join, Cast, Vpc, Cmov, And, Or, Xor, Not, Nondet}
use Rattle.tcl_lang.specs.declared.instr.Instr.{Instr}
use Rattle.tcl_lang.specs.declared.term.Term.{Term}
use Rattle.tcl_lang.specs.declared.term.Term as plain_term
use Rattle.tcl_lang.specs.declared.term.Term.TheViews as term
use Rattle.tcl_lang.specs.declared.term.Term.TheOpen as layer
use Rattle.tcl_lang.specs.declared.term.Term.TheVariants as rolled
use Rattle.tcl_lang.specs.declared.term.Term.TheFolds.{fold-roll-Term}
use Rattle.tcl_lang.specs.declared.term.Part.{Part}
use Rattle.tcl_lang.specs.declared.term.AlgPred.{AlgPred}
use Rattle.tcl_lang.specs.declared.pred.Pred.{Pred}
use Rattle.tcl_lang.specs.declared.pred.Pred.TheVariants.{Alg, Rng}
use Rattle.tcl_lang.specs.declared.variable.Variable.{Variable}
use Rattle.tcl_lang.specs.Program.{VersionedProgram}
use Rattle.tcl_lang.specs.Modulus.{modulus_value}
use Rattle.tcl_lang.specs.Bound as bound
use Rattle.tcl_goals.specs.declared.fact.Hyp.{Hyp}
use Rattle.tcl_goals.specs.declared.fact.Hyp.TheVariants as hyp
use Rattle.tcl_goals.specs.declared.fact.Fact.{Fact}
use Rattle.tcl_goals.specs.declared.lemma.Numbered.{Numbered}
use Rattle.tcl_goals.specs.Numbers.{those_below}
use Rattle.tcl_term_poly.specs.TermPolynomial.{polynomial_of, less_multiple, variable_of}
use Rattle.tcl_term_poly.proofs.TermBounds.{IsFit, fit_more, unknown_fit, product_fit, difference_fit, less_multiple_fit, term_fit}
use Rattle.tcl_term_poly.proofs.TermArms.{degree_add, degree_sub, degree_mul}
use Rattle.tcl_algebra.specs.Row.{atom_at, term_of, row_term, instruction_term, last_of, on_bit, shifted, flipped_term, has_quotient, counts}
use Rattle.tcl_algebra.specs.Equations.{instruction_in, predicate_in, is_assumed, definition_polynomial, definition_norm, definition_by, definition_in, definition_at, definitions_of, definition_equations, Placed, equation_polynomial, is_counted, is_deep, is_long, has_wide_modulus, is_great, equality_polynomial, equalities_of, predicate_equations, hyp_equations, square_polynomial, squares_of, has_square, square_at, equations_of, claim_polynomial}

-- the degree of an operand, and of each row's term
degree_of_var : (v : ℕ) → bound.degree_of (plain_term.Var v) ≡ 1
degree_of_var v = ap bound.degree_of (sym (rolled.rolls-Var v)) ∙ fold-roll-Term ℕ bound.degree_step (layer.Var v)

degree_of_num : (n : ℤ) → bound.degree_of (plain_term.Num n) ≡ 0
degree_of_num n = ap bound.degree_of (sym (rolled.rolls-Num n)) ∙ fold-roll-Term ℕ bound.degree_step (layer.Num n)

pub operand_degree : (a : Atom) → bound.degree_of (term_of a) ≤ 1
operand_degree (atom.Var v) = omega (arith, degree_of_var v)
operand_degree (atom.Lit T n) = omega (arith, degree_of_num n)

abbrev IsSmall : ℕ → Term → Type 0
IsSmall d t = bound.degree_of t ≤ d

sum_small : (d : ℕ) (a b : Term) → IsSmall d a → IsSmall d b → IsSmall d (term.Add a b)
sum_small d a b h k = omega (arith, degree_add (term.Add a b) a b refl, h, k)

difference_small : (d : ℕ) (a b : Term) → IsSmall d a → IsSmall d b → IsSmall d (term.Sub a b)
difference_small d a b h k = omega (arith, degree_sub (term.Sub a b) a b refl, h, k)

product_small : (a b : Term) → IsSmall 1 a → IsSmall 1 b → IsSmall 2 (term.Mul a b)
product_small a b h k = omega (arith, degree_mul (term.Mul a b) a b refl, h, k)

shifted_small : (d k : ℕ) (a : Term) → IsSmall d a → IsSmall d (shifted k a)
shifted_small d k a h =
    omega (arith, degree_mul (shifted k a) (plain_term.Num (pos (2 ^ k))) a refl, degree_of_num (pos (2 ^ k)), h)

number_small : (d : ℕ) (n : ℤ) → IsSmall d (plain_term.Num n)
number_small d n = omega (arith, degree_of_num n)

greater : (a : Term) → IsSmall 1 a → IsSmall 2 a
greater a h = omega (arith, h)

bit_small : (T : Ty) (t : Term) → IsSmall 2 t → IfSome (on_bit T t) (IsSmall 2)
bit_small T t h = at (nat_eq T.width 1)
  where
    at : (b : Bool) → IfSome (if b then Some t else None) (IsSmall 2)
    at true = h
    at false = tt

flipped_small : (T : Ty) (a : Term) → IsSmall 1 a → IsSmall 2 (flipped_term T a)
flipped_small T a h = at T.signed
  where
    at : (b : Bool) → IsSmall 2 (if b then term.Sub (plain_term.Num (negsuc 0)) a else term.Sub (plain_term.Num (pos (2 ^ T.width - 1))) a)
    at true = difference_small 2 (plain_term.Num (negsuc 0)) a (number_small 2 (negsuc 0)) (greater a h)
    at false = difference_small 2 (plain_term.Num (pos (2 ^ T.width - 1))) a (number_small 2 (pos (2 ^ T.width - 1))) (greater a h)

row_small : (op : Op) (T : Ty) (n : ℕ) (a b c h : Term) → IsSmall 1 a → IsSmall 1 b → IsSmall 1 c → IsSmall 1 h → IfSome (row_term op T n a b c h) (IsSmall 2)
row_small Mov T n a b c h i j k l = greater a i
row_small Add T n a b c h i j k l = greater (term.Add a b) (sum_small 1 a b i j)
row_small Adds T n a b c h i j k l = greater (term.Sub (term.Add a b) (shifted T.width h)) (difference_small 1 (term.Add a b) (shifted T.width h) (sum_small 1 a b i j) (shifted_small 1 T.width h l))
row_small Adc T n a b c h i j k l = greater (term.Add (term.Add a b) c) (sum_small 1 (term.Add a b) c (sum_small 1 a b i j) k)
row_small Adcs T n a b c h i j k l = greater (term.Sub (term.Add (term.Add a b) c) (shifted T.width h)) (difference_small 1 (term.Add (term.Add a b) c) (shifted T.width h) (sum_small 1 (term.Add a b) c (sum_small 1 a b i j) k) (shifted_small 1 T.width h l))
row_small Sub T n a b c h i j k l = greater (term.Sub a b) (difference_small 1 a b i j)
row_small Subb T n a b c h i j k l = greater (term.Add (term.Sub a b) (shifted T.width h)) (sum_small 1 (term.Sub a b) (shifted T.width h) (difference_small 1 a b i j) (shifted_small 1 T.width h l))
row_small Sbb T n a b c h i j k l = greater (term.Sub (term.Sub a b) c) (difference_small 1 (term.Sub a b) c (difference_small 1 a b i j) k)
row_small Sbbs T n a b c h i j k l = greater (term.Add (term.Sub (term.Sub a b) c) (shifted T.width h)) (sum_small 1 (term.Sub (term.Sub a b) c) (shifted T.width h) (difference_small 1 (term.Sub a b) c (difference_small 1 a b i j) k) (shifted_small 1 T.width h l))
row_small Mul T n a b c h i j k l = product_small a b i j
row_small Mull T n a b c h i j k l = difference_small 2 (term.Mul a b) (shifted T.width h) (product_small a b i j) (shifted_small 2 T.width h (greater h l))
row_small Mulj T n a b c h i j k l = product_small a b i j
row_small Shl T n a b c h i j k l = shifted_small 2 n a (greater a i)
row_small Split T n a b c h i j k l = difference_small 2 a (shifted n h) (greater a i) (shifted_small 2 n h (greater h l))
row_small Join T n a b c h i j k l = sum_small 2 (shifted T.width a) b (shifted_small 2 T.width a (greater a i)) (greater b j)
row_small Cast T n a b c h i j k l = greater a i
row_small Vpc T n a b c h i j k l = greater a i
row_small Cmov T n a b c h i j k l = difference_small 2 (term.Add (term.Mul a b) c) (term.Mul a c) (sum_small 2 (term.Mul a b) c (product_small a b i j) (greater c k)) (product_small a c i k)
row_small And T n a b c h i j k l = bit_small T (term.Mul a b) (product_small a b i j)
row_small Or T n a b c h i j k l = bit_small T (term.Sub (term.Add a b) (term.Mul a b)) (difference_small 2 (term.Add a b) (term.Mul a b) (sum_small 2 a b (greater a i) (greater b j)) (product_small a b i j))
row_small Xor T n a b c h i j k l = bit_small T (term.Sub (term.Add a b) (shifted 1 (term.Mul a b))) (difference_small 2 (term.Add a b) (shifted 1 (term.Mul a b)) (sum_small 2 a b (greater a i) (greater b j)) (shifted_small 2 1 (term.Mul a b) (product_small a b i j)))
row_small Not T n a b c h i j k l = flipped_small T a i
row_small Nondet T n a b c h i j k l = tt

pub instruction_degree : (i : Instr) → IfSome (instruction_term i) (λ t. bound.degree_of t ≤ 2)
instruction_degree i =
    let h = slice_index_or i.outs 0 0 in
    row_small i.op i.ty i.amount (term_of (atom_at i.args 0)) (term_of (atom_at i.args 1)) (term_of (atom_at i.args 2)) (plain_term.Var h)
    (operand_degree (atom_at i.args 0)) (operand_degree (atom_at i.args 1)) (operand_degree (atom_at i.args 2)) (omega (arith, degree_of_var h))

-- the definition of an instruction
value_fit : (m : Option ℕ) → IsModulus m → (variables : List Variable) (place : ℕ) (i : Instr) (t : Term) → bound.degree_of t ≤ 2 → IsFit (reduced_by m) 2 (definition_polynomial (reduced_by m) variables place i t)
value_fit m ok variables place i t h = at (has_quotient variables i)
  where
    r : ℤ → ℤ
    r = reduced_by m

    made : IsFit (reduced_by m) 2 (polynomial_of (reduced_by m) t)
    made = fit_more (reduced_by m) (bound.degree_of t) 2 (polynomial_of (reduced_by m) t) h (term_fit (reduced_by m) (is_reduction m ok) t)

    at : (b : Bool) → IsFit (reduced_by m) 2 (if b then less_multiple (reduced_by m) (polynomial_of (reduced_by m) t) (pos (2 ^ i.ty.width)) place else polynomial_of (reduced_by m) t)
    at true =
        fit_more (reduced_by m) (max 2 1) 2 (less_multiple (reduced_by m) (polynomial_of (reduced_by m) t) (pos (2 ^ i.ty.width)) place) (omega arith)
        (less_multiple_fit (reduced_by m) (is_reduction m ok) (pos (2 ^ i.ty.width)) place 2 (polynomial_of (reduced_by m) t) made)
    at false = made

definition_fit : (m : Option ℕ) → IsModulus m → (variables : List Variable) (place : ℕ) (i : Instr) (exact : Bool) (o : Option Term) → IfSome o (λ t. bound.degree_of t ≤ 2) → IfSome (definition_by m variables place i exact o) (λ d. IsFit (reduced_by m) 2 d.2)
definition_fit m ok variables place i exact None h = tt
definition_fit m ok variables place i exact (Some t) h = at (counts i.op exact && not (is_wide m (definition_norm variables i t)))
  where
    at : (b : Bool) → IfSome {T = Definition} (if b then Some (place, variable_key (last_of i.outs), definition_polynomial (reduced_by m) variables place i t) else None) (λ d. IsFit (reduced_by m) 2 d.2)
    at true = value_fit m ok variables place i t h
    at false = tt

in_fit : (m : Option ℕ) → IsModulus m → (variables : List Variable) (place : ℕ) (exact : Bool) (o : Option Instr) → IfSome (definition_in m variables place exact o) (λ d. IsFit (reduced_by m) 2 d.2)
in_fit m ok variables place exact None = tt
in_fit m ok variables place exact (Some i) = definition_fit m ok variables place i exact (instruction_term i) (instruction_degree i)

-- lists of equations
abbrev pub AreFit : (ℤ → ℤ) → List Placed → Type 0
AreFit r [] = Unit {0}
AreFit r (e ∷ es) = IsFit r 1024 e.1 × AreFit r es

fit_append : (r : ℤ → ℤ) (xs ys : List Placed) → AreFit r xs → AreFit r ys → AreFit r (xs ++ ys)
fit_append r [] ys h k = k
fit_append r (x ∷ xs) ys h k = (h.0, fit_append r xs ys h.1 k)

pub defined_fit : (m : Option ℕ) → IsModulus m → (d : Definition) → IsFit (reduced_by m) 2 d.2 → IsFit (reduced_by m) 1024 (equation_of (reduced_by m) d)
defined_fit m ok d h =
    let r = reduced_by m in
    let ring = is_reduction m ok in
    fit_more r (max 1 2) 1024 (equation_of r d) (omega arith) (difference_fit r ring 1 2 (power_of r d.1 1) d.2 (unknown_fit r ring d.1) h)

abbrev pub AreSmall : (ℤ → ℤ) → List Definition → Type 0
AreSmall r [] = Unit {0}
AreSmall r (d ∷ ds) = IsFit r 2 d.2 × AreSmall r ds

pub definitions_small : (m : Option ℕ) → IsModulus m → (p : VersionedProgram) (hyps : List Hyp) (uses : List ℕ) → AreSmall (reduced_by m) (filter_map (definition_at m p hyps) uses)
definitions_small m ok p hyps [] = tt
definitions_small m ok p hyps (k ∷ uses) =
    put (definition_at m p hyps k) (in_fit m ok p.variables k (is_assumed hyps k) (instruction_in (slice_get p.lines k))) (definitions_small m ok p hyps uses)
  where
    put : (o : Option Definition) → IfSome o (λ d. IsFit (reduced_by m) 2 d.2) → AreSmall (reduced_by m) (filter_map (definition_at m p hyps) uses) → AreSmall (reduced_by m) (cons_option o (filter_map (definition_at m p hyps) uses))
    put None h rest = rest
    put (Some d) h rest = (h, rest)

definitions_fit : (m : Option ℕ) → IsModulus m → (ds : List Definition) → AreSmall (reduced_by m) ds → AreFit (reduced_by m) (definition_equations m ds)
definitions_fit m ok [] h = tt
definitions_fit m ok (d ∷ ds) h = (defined_fit m ok d h.0, definitions_fit m ok ds h.1)

-- the equations of hypotheses
pub sides_fit : (m : Option ℕ) → IsModulus m → (f : AlgPred) → is_deep f ≡ false → IsFit (reduced_by m) 1024 (claim_polynomial (reduced_by m) f)
sides_fit m ok f h =
    let r = reduced_by m in
    let ring = is_reduction m ok in
    let least : max (bound.degree_of f.left) (bound.degree_of f.right) ≤ 1024 = shallow (max (bound.degree_of f.left) (bound.degree_of f.right)) h in
    fit_more r (max (bound.degree_of f.left) (bound.degree_of f.right)) 1024 (claim_polynomial r f) least
    (difference_fit r ring (bound.degree_of f.left) (bound.degree_of f.right) (polynomial_of r f.left) (polynomial_of r f.right) (term_fit r ring f.left) (term_fit r ring f.right))
  where
    shallow : (n : ℕ) → nat_lt 1024 (min n (2 ^ 32 - 1)) ≡ false → n ≤ 1024
    shallow n e = grind (arith, nat_tests)

equation_fit : (m : Option ℕ) → IsModulus m → (place : ℕ) (f : AlgPred) (o : Option (List Part)) → is_deep f ≡ false → IsFit (reduced_by m) 1024 (equation_polynomial (reduced_by m) place f o)
equation_fit m ok place f None h = sides_fit m ok f h
equation_fit m ok place f (Some n) h =
    let r = reduced_by m in
    let ring = is_reduction m ok in
    fit_more r (max 1024 1) 1024 (less_multiple r (claim_polynomial r f) (modulus_value n) place) (omega arith)
    (less_multiple_fit r ring (modulus_value n) place 1024 (claim_polynomial r f) (sides_fit m ok f h))

pub counted_shallow : (m : Option ℕ) (f : AlgPred) → is_counted m f ≡ true → is_deep f ≡ false
counted_shallow m f e =
    let a = and_parts (not (has_wide_modulus f.modulus) && not (is_great m f) && not (is_deep f)) (not (is_long f)) e in
    let b = and_parts (not (has_wide_modulus f.modulus) && not (is_great m f)) (not (is_deep f)) a.0 in
    not-true (is_deep f) b.1

counted_fit : (m : Option ℕ) → IsModulus m → (place : ℕ) (f : AlgPred) (b : Bool) → (b ≡ true → is_deep f ≡ false) → AreFit (reduced_by m) (if b then (place, equation_polynomial (reduced_by m) place f f.modulus) ∷ [] else [])
counted_fit m ok place f true h = (equation_fit m ok place f f.modulus (h refl), tt)
counted_fit m ok place f false h = tt

equalities_fit : (m : Option ℕ) → IsModulus m → (place : ℕ) (es : List (Atom × Atom)) → AreFit (reduced_by m) (map (λ e. (place, equality_polynomial (reduced_by m) e)) es)
equalities_fit m ok place [] = tt
equalities_fit m ok place (e ∷ es) =
    let r = reduced_by m in
    let ring = is_reduction m ok in
    let a = term_of e.0 in
    let b = term_of e.1 in (
      fit_more r (max (bound.degree_of a) (bound.degree_of b)) 1024 (equality_polynomial r e) (omega (arith, operand_degree e.0, operand_degree e.1))
          (difference_fit r ring (bound.degree_of a) (bound.degree_of b) (polynomial_of r a) (polynomial_of r b) (term_fit r ring a) (term_fit r ring b)),
      equalities_fit m ok place es,
    )

predicate_fit : (m : Option ℕ) → IsModulus m → (place : ℕ) (o : Option Pred) → AreFit (reduced_by m) (predicate_equations m place o)
predicate_fit m ok place None = tt
predicate_fit m ok place (Some (Alg f)) = counted_fit m ok place f (is_counted m f) (counted_shallow m f)
predicate_fit m ok place (Some (Rng p)) = equalities_fit m ok place (equalities_of p)

hyp_fit : (m : Option ℕ) → IsModulus m → (p : VersionedProgram) (h : Hyp) → AreFit (reduced_by m) (hyp_equations m p h)
hyp_fit m ok p (hyp.Line k) = predicate_fit m ok k (predicate_in (slice_get p.lines k))
hyp_fit m ok p (hyp.Lemma n) = tt

hyps_fit : (m : Option ℕ) → IsModulus m → (p : VersionedProgram) (hyps : List Hyp) → AreFit (reduced_by m) (flat_map (hyp_equations m p) hyps)
hyps_fit m ok p [] = tt
hyps_fit m ok p (h ∷ hyps) = fit_append (reduced_by m) (hyp_equations m p h) (flat_map (hyp_equations m p) hyps) (hyp_fit m ok p h) (hyps_fit m ok p hyps)

-- squares
pub square_fit : (m : Option ℕ) → IsModulus m → (v : ℕ) → IsFit (reduced_by m) 1024 (square_polynomial (reduced_by m) v)
square_fit m ok v =
    let r = reduced_by m in
    let ring = is_reduction m ok in
    let x = unknown_fit r ring (variable_key v) in
    fit_more r (max (1 + 1) 1) 1024 (square_polynomial r v) (omega arith)
    (difference_fit r ring (1 + 1) 1 (product_of r (variable_of r v) (variable_of r v)) (variable_of r v) (product_fit r ring 1 1 (variable_of r v) (variable_of r v) x x) x)

squares_fit : (m : Option ℕ) → IsModulus m → (p : VersionedProgram) (vs : List ℕ) → AreFit (reduced_by m) (map (square_at m p) vs)
squares_fit m ok p [] = tt
squares_fit m ok p (v ∷ vs) = (square_fit m ok v, squares_fit m ok p vs)

pub equations_fit : (m : Option ℕ) → IsModulus m → (p : VersionedProgram) (lemmas : List Numbered) (fact : Fact) → AreFit (reduced_by m) (equations_of m p lemmas fact)
equations_fit m ok p lemmas fact =
    let r = reduced_by m in
    let defs = definition_equations m (definitions_of m p fact) in
    let hyps = flat_map (hyp_equations m p) fact.hyps in
    fit_append r (defs ++ hyps) (squares_of m p lemmas fact)
    (fit_append r defs hyps (definitions_fit m ok (definitions_of m p fact) (definitions_small m ok p fact.hyps fact.uses)) (hyps_fit m ok p fact.hyps))
    (squares_fit m ok p (those_below (has_square p lemmas fact) (length p.variables)))
