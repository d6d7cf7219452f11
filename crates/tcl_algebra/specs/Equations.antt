-- The equations of a fact over the ring of a modulus: polynomials that are 0 in every assignment that meets its hypotheses,
-- for some values of the unknowns of lines.
use Rattle.std.specs.Prelude.{ℕ, ◌+◌, ◌^◌, ◌==◌, ℤ, pos, unsigned_abs, nat_le, nat_lt, Bool, false, not, ◌&&◌, if◌then◌else◌, List, [], ◌∷◌, ◌++◌, map, filter_map, flat_map, length, slice_get, Option, Some, None}
use Rattle.std.specs.List.{list_any}
use Rattle.tcl_lang.specs.declared.instr.Atom.{Atom}
use Rattle.tcl_lang.specs.declared.instr.Instr.{Instr}
use Rattle.tcl_lang.specs.declared.term.Term.{Term}
use Rattle.tcl_lang.specs.declared.term.Part.{Part}
use Rattle.tcl_lang.specs.declared.term.AlgPred.{AlgPred}
use Rattle.tcl_lang.specs.declared.range.CmpOp.{CmpOp}
use Rattle.tcl_lang.specs.declared.range.CmpOp.TheVariants as cmp
use Rattle.tcl_lang.specs.declared.range.RngTerm.{RngTerm, RngTerm-F, fold-RngTerm}
use Rattle.tcl_lang.specs.declared.range.RngTerm.TheOpen as term_layer
use Rattle.tcl_lang.specs.declared.range.RngPred.{RngPred, RngPred-F, fold-RngPred}
use Rattle.tcl_lang.specs.declared.range.RngPred.TheOpen as pred_layer
use Rattle.tcl_lang.specs.declared.pred.Pred.{Pred}
use Rattle.tcl_lang.specs.declared.pred.Pred.TheVariants.{Alg, Rng}
use Rattle.tcl_lang.specs.declared.pred.Line.{Line}
use Rattle.tcl_lang.specs.declared.variable.Variable.{Variable}
use Rattle.tcl_port.specs.declared.limit.What.{What}
use Rattle.tcl_port.specs.declared.limit.What.TheVariants.{Degree, Terms}
use Rattle.tcl_lang.specs.Program.{VersionedProgram}
use Rattle.tcl_lang.specs.Line.{instruction_of, predicate_of}
use Rattle.tcl_lang.specs.Names.{defined_names}
use Rattle.tcl_lang.specs.Modulus.{modulus_value, is_wide_modulus}
use Rattle.tcl_lang.specs.Bound as bound
use Rattle.tcl_goals.specs.declared.fact.Hyp.{Hyp}
use Rattle.tcl_goals.specs.declared.fact.Hyp.TheVariants as hyp
use Rattle.tcl_goals.specs.declared.fact.Claim.{Claim}
use Rattle.tcl_goals.specs.declared.fact.Claim.TheVariants as claim
use Rattle.tcl_goals.specs.declared.fact.Fact.{Fact}
use Rattle.tcl_goals.specs.declared.lemma.Numbered.{Numbered}
use Rattle.tcl_goals.specs.Places.{goal_place}
use Rattle.tcl_goals.specs.Numbers.{those_below}
use Rattle.tcl_goals.specs.Free.{fact_variables}
use Rattle.tcl_lang.specs.Defined.{is_among}
use Rattle.tcl_ring.specs.Reduction.{reduced_by, is_wide}
use Rattle.tcl_poly.specs.Unknown.{variable_key}
use Rattle.tcl_poly.specs.Polynomial.{Polynomial, product_of}
use Rattle.tcl_reduce.specs.Reduction.{Definition, equation_of}
use Rattle.tcl_term_poly.specs.TermPolynomial.{polynomial_of, variable_of, difference_of, less_multiple}
use Rattle.tcl_algebra.specs.Row.{term_of, instruction_term, last_of, has_quotient, counts}

-- the instruction and the predicate of a line, if there is a line
abbrev pub instruction_in : Option Line → Option Instr
instruction_in None = None
instruction_in (Some l) = instruction_of l

abbrev pub predicate_in : Option Line → Option Pred
predicate_in None = None
predicate_in (Some l) = predicate_of l

-- the line of that place is a hypothesis of the fact
abbrev pub is_at : ℕ → Hyp → Bool
is_at k (hyp.Line j) = j == k
is_at k (hyp.Lemma n) = false

abbrev pub is_assumed : List Hyp → ℕ → Bool
is_assumed hyps k = list_any (is_at k) hyps

-- the polynomial that the last result of an instruction equals
abbrev pub definition_polynomial : (ℤ → ℤ) → List Variable → ℕ → Instr → Term → Polynomial
definition_polynomial r variables place i t =
    if has_quotient variables i
    then less_multiple r (polynomial_of r t) (pos (2 ^ i.ty.width)) place
    else polynomial_of r t

-- a bound of the norm of its equation
abbrev pub definition_norm : List Variable → Instr → Term → ℕ
definition_norm variables i t = 1 + bound.norm_of t + (if has_quotient variables i then 2 ^ i.ty.width else 0)

-- the definition that the instruction of a place gives, where it gives one
abbrev pub definition_by : Option ℕ → List Variable → ℕ → Instr → Bool → Option Term → Option Definition
definition_by m variables place i exact None = None
definition_by m variables place i exact (Some t) =
    if counts i.op exact && not (is_wide m (definition_norm variables i t))
    then Some (place, variable_key (last_of i.outs), definition_polynomial (reduced_by m) variables place i t)
    else None

abbrev pub definition_in : Option ℕ → List Variable → ℕ → Bool → Option Instr → Option Definition
definition_in m variables place exact None = None
definition_in m variables place exact (Some i) = definition_by m variables place i exact (instruction_term i)

abbrev pub definition_at : Option ℕ → VersionedProgram → List Hyp → ℕ → Option Definition
definition_at m p hyps place =
    definition_in m p.variables place (is_assumed hyps place) (instruction_in (slice_get p.lines place))

abbrev pub definitions_of : Option ℕ → VersionedProgram → Fact → List Definition
definitions_of m p fact = filter_map (definition_at m p fact.hyps) fact.uses

-- an equation: the place of its line and a polynomial
abbrev pub Placed : Type 0
Placed = ℕ × Polynomial

abbrev pub places_of : List Placed → List ℕ
places_of es = map (λ e. e.0) es

abbrev pub polynomials_of : List Placed → List Polynomial
polynomials_of es = map (λ e. e.1) es

-- the equations of definitions
abbrev pub definition_equations : Option ℕ → List Definition → List Placed
definition_equations m ds = map (λ d. (d.0, equation_of (reduced_by m) d)) ds

-- an equation or a congruence of terms
abbrev pub equation_polynomial : (ℤ → ℤ) → ℕ → AlgPred → Option (List Part) → Polynomial
equation_polynomial r place f None = difference_of r (polynomial_of r f.left) (polynomial_of r f.right)
equation_polynomial r place f (Some m) =
    less_multiple r (difference_of r (polynomial_of r f.left) (polynomial_of r f.right)) (modulus_value m) place

-- the norm of a modulus is added to that of the equation
abbrev pub modulus_norm : Option (List Part) → ℕ
modulus_norm None = 0
modulus_norm (Some m) = unsigned_abs (modulus_value m)

abbrev pub has_wide_modulus : Option (List Part) → Bool
has_wide_modulus None = false
has_wide_modulus (Some m) = is_wide_modulus m

abbrev pub is_deep : AlgPred → Bool
is_deep f = nat_lt 1024 (bound.equation_degree f.left f.right)

abbrev pub is_long : AlgPred → Bool
is_long f = nat_lt 65536 (bound.equation_terms f.left f.right)

abbrev pub is_great : Option ℕ → AlgPred → Bool
is_great m f = is_wide m (bound.norm_of f.left + bound.norm_of f.right + modulus_norm f.modulus)

-- an algebraic hypothesis that gives an equation
abbrev pub is_counted : Option ℕ → AlgPred → Bool
is_counted m f =
    not (has_wide_modulus f.modulus)
    && not (is_great m f) && not (is_deep f) && not (is_long f)

-- the one operand that a range term is
abbrev pub operand_step : RngTerm-F (Option Atom) → Option Atom
operand_step (term_layer.Leaf a) = Some a
operand_step _ = None

abbrev pub operand_of : RngTerm → Option Atom
operand_of t = fold-RngTerm (Option Atom) operand_step t

abbrev pub pair_of : CmpOp → Option Atom → Option Atom → List (Atom × Atom)
pair_of cmp.Eq (Some a) (Some b) = (a, b) ∷ []
pair_of _ _ _ = []

-- the conjuncts that are equalities of two operands
abbrev pub equalities_step : RngPred-F (List (Atom × Atom)) → List (Atom × Atom)
equalities_step (pred_layer.Cmp op t u) = pair_of op (operand_of t) (operand_of u)
equalities_step (pred_layer.Both p q) = p ++ q
equalities_step _ = []

abbrev pub equalities_of : RngPred → List (Atom × Atom)
equalities_of p = fold-RngPred (List (Atom × Atom)) equalities_step p

abbrev pub equality_polynomial : (ℤ → ℤ) → Atom × Atom → Polynomial
equality_polynomial r e = difference_of r (polynomial_of r (term_of e.0)) (polynomial_of r (term_of e.1))

-- the equations of a predicate
abbrev pub predicate_equations : Option ℕ → ℕ → Option Pred → List Placed
predicate_equations m place None = []
predicate_equations m place (Some (Alg f)) =
    if is_counted m f then (place, equation_polynomial (reduced_by m) place f f.modulus) ∷ [] else []
predicate_equations m place (Some (Rng f)) = map (λ e. (place, equality_polynomial (reduced_by m) e)) (equalities_of f)

-- the equations of a hypothesis; a lemma gives none
abbrev pub hyp_equations : Option ℕ → VersionedProgram → Hyp → List Placed
hyp_equations m p (hyp.Line k) = predicate_equations m k (predicate_in (slice_get p.lines k))
hyp_equations m p (hyp.Lemma n) = []

-- x * x - x
abbrev pub square_polynomial : (ℤ → ℤ) → ℕ → Polynomial
square_polynomial r v = difference_of r (product_of r (variable_of r v) (variable_of r v)) (variable_of r v)

-- the variable is a word of one bit
abbrev pub is_bit_variable : Option Variable → Bool
is_bit_variable None = false
is_bit_variable (Some v) = not v.ty.signed && v.ty.width == 1

-- the line defines the variable
abbrev pub defines_variable : ℕ → Line → Bool
defines_variable v l = is_among (defined_names l) v

-- the place of the line that defines a variable, from place k on
abbrev pub definer_from : ℕ → List Line → ℕ → ℕ
definer_from k [] v = k
definer_from k (l ∷ lines) v = if defines_variable v l then k else definer_from (k + 1) lines v

-- its square, with that place
abbrev pub square_at : Option ℕ → VersionedProgram → ℕ → Placed
square_at m p v = (definer_from 0 p.lines v, square_polynomial (reduced_by m) v)

-- the variables of the fact that are words of one bit, by number
abbrev pub has_square : VersionedProgram → List Numbered → Fact → ℕ → Bool
has_square p lemmas fact v = is_bit_variable (slice_get p.variables v) && is_among (fact_variables p.lines lemmas fact) v

abbrev pub squares_of : Option ℕ → VersionedProgram → List Numbered → Fact → List Placed
squares_of m p lemmas fact =
    map (square_at m p) (those_below (has_square p lemmas fact) (length p.variables))

-- the equations of a fact: those of definitions, of hypotheses, and the squares
abbrev pub equations_of : Option ℕ → VersionedProgram → List Numbered → Fact → List Placed
equations_of m p lemmas fact =
    definition_equations m (definitions_of m p fact)
    ++ flat_map (hyp_equations m p) fact.hyps
    ++ squares_of m p lemmas fact

-- the predicate of a claim, none for a lemma; its ring and its polynomial
abbrev pub claim_predicate : VersionedProgram → Claim → Option Pred
claim_predicate p (claim.Goal i) = predicate_in (slice_get p.lines (goal_place p.lines i))
claim_predicate p (claim.Lemma m) = None

abbrev pub modulus_of : Option (List Part) → Option ℕ
modulus_of None = None
modulus_of (Some m) = Some (unsigned_abs (modulus_value m))

abbrev pub claim_polynomial : (ℤ → ℤ) → AlgPred → Polynomial
claim_polynomial r f = difference_of r (polynomial_of r f.left) (polynomial_of r f.right)

-- how a claim begins: wide, large, or neither
pub data Begins : Type 0 where
  TooWide : Begins
  TooLarge : What → ℕ → Begins
  Ready : Begins

abbrev pub is_wide_claim : AlgPred → Option (List Part) → Bool
is_wide_claim f None = nat_le (2 ^ 127) (bound.norm_of f.left + bound.norm_of f.right)
is_wide_claim f (Some m) = is_wide_modulus m

abbrev pub claim_begins : AlgPred → Begins
claim_begins f =
    if is_wide_claim f f.modulus then TooWide else
    (if is_deep f then TooLarge Degree (bound.equation_degree f.left f.right) else
    (if is_long f then TooLarge Terms (bound.equation_terms f.left f.right) else Ready))
