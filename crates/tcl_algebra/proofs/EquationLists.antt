-- What the equations of a fact say of the polynomials that the code holds.
use Rattle.std.proofs.Common.{◌≡◌, ℕ, zero, suc, ◌≤◌, sym, ◌∙◌, ap, subst, arith, ℤ, false, List, [], ◌∷◌, ◌++◌, map, flat_map, Option}
use Rattle.std.proofs.lemmas.List.{append_assoc}
use Rattle.tcl_ring.specs.Reduction.{reduced_by, IsModulus}
use Rattle.tcl_poly.specs.Polynomial.{IsPolynomial, terms_of, degree_of}
use Rattle.tcl_poly.specs.Combination.{Terms, AreOver}
use Rattle.tcl_poly.proofs.Degrees.{within_degree}
use Rattle.tcl_poly.proofs.TermLists.{degree_of_values}
use Rattle.tcl_reduce.specs.Reduction as reduction
use Rattle.tcl_reduce.specs.Remainder.{AreDefinitions, BeginsWith}
use Rattle.tcl_reduce.specs.Equated.{AreShallow}
use Rattle.tcl_lang.specs.declared.term.AlgPred.{AlgPred}
use Rattle.tcl_lang.specs.Program.{VersionedProgram}
use Rattle.tcl_goals.specs.declared.fact.Fact.{Fact}
use Rattle.tcl_goals.specs.declared.lemma.Numbered.{Numbered}
use Rattle.tcl_algebra.specs.Equations.{Placed, polynomials_of, definition_equations, hyp_equations, squares_of, equations_of, claim_polynomial, is_deep}
use Rattle.tcl_algebra.specs.Equations as equations
use Rattle.tcl_algebra.proofs.EquationsFit.{AreFit, AreSmall, definitions_small, sides_fit}

pub list_over : {E : Type 0} (m : Option ℕ) (value : E → ℤ) (list : List (Terms E)) (es : List Placed) → AreFit (reduced_by m) es → map (terms_of value) list ≡ polynomials_of es → AreOver m value list
list_over m value [] es f e = tt
list_over m value (p ∷ list) [] f e = absurd (cc)
list_over m value (p ∷ list) (x ∷ es) f e =
    let first : terms_of value p ≡ x.1 = cc in
    let rest : map (terms_of value) list ≡ polynomials_of es = cc in
    (subst (IsPolynomial (reduced_by m)) (sym first) f.0.0, list_over m value list es f.1 rest)

pub list_shallow : {E : Type 0} (m : Option ℕ) (value : E → ℤ) (list : List (Terms E)) (es : List Placed) → AreFit (reduced_by m) es → map (terms_of value) list ≡ polynomials_of es → AreShallow list
list_shallow m value [] es f e = tt
list_shallow m value (p ∷ list) [] f e = absurd (cc)
list_shallow m value (p ∷ list) (x ∷ es) f e =
    let first : terms_of value p ≡ x.1 = cc in
    let rest : map (terms_of value) list ≡ polynomials_of es = cc in
    let shallow : degree_of x.1 ≤ 1024 = within_degree 1024 x.1 f.0.1 in
    (omega (arith, degree_of_values value p, ap degree_of first, shallow), list_shallow m value list es f.1 rest)

pub claim_shallow : {E : Type 0} (m : Option ℕ) → IsModulus m → (value : E → ℤ) (p : Terms E) (f : AlgPred) → is_deep f ≡ false → terms_of value p ≡ claim_polynomial (reduced_by m) f → degree_of p ≤ 1024
claim_shallow m ok value p f deep e =
    omega (arith, degree_of_values value p, ap degree_of e, within_degree 1024 (claim_polynomial (reduced_by m) f) (sides_fit m ok f deep).1)

are_definitions : (r : ℤ → ℤ) (ds : List reduction.Definition) → AreSmall r ds → AreDefinitions r ds
are_definitions r [] h = tt
are_definitions r (d ∷ ds) h = (h.0.0, are_definitions r ds h.1)

pub definitions_over : (m : Option ℕ) → IsModulus m → (p : VersionedProgram) (fact : Fact) (ds : List reduction.Definition) → ds ≡ equations.definitions_of m p fact → AreDefinitions (reduced_by m) ds
definitions_over m ok p fact ds e =
    subst (AreDefinitions (reduced_by m)) (sym e) (are_definitions (reduced_by m) (equations.definitions_of m p fact) (definitions_small m ok p fact.hyps fact.uses))

begins_at : {E : Type 0} (m : Option ℕ) (value : E → ℤ) (ds : List reduction.Definition) (rest : List Placed) (list : List (Terms E)) → map (terms_of value) list ≡ polynomials_of (definition_equations m ds ++ rest) → BeginsWith m value ds list
begins_at m value [] rest list e k h = absurd (omega arith)
begins_at m value (d ∷ ds) rest [] e k h = absurd (cc)
begins_at m value (d ∷ ds) rest (p ∷ list) e zero h =
    let first : terms_of value p ≡ reduction.equation_of (reduced_by m) d = cc in
    (omega arith, first)
begins_at m value (d ∷ ds) rest (p ∷ list) e (suc k) h =
    let tail : map (terms_of value) list ≡ polynomials_of (definition_equations m ds ++ rest) = cc in
    let more = begins_at m value ds rest list tail k (omega arith) in
    (omega (arith, more.0), more.1)

pub list_begins : {E : Type 0} (m : Option ℕ) (value : E → ℤ) (p : VersionedProgram) (lemmas : List Numbered) (fact : Fact) (ds : List reduction.Definition) (list : List (Terms E)) → ds ≡ equations.definitions_of m p fact → map (terms_of value) list ≡ polynomials_of (equations_of m p lemmas fact) → BeginsWith m value ds list
list_begins m value p lemmas fact ds list e f =
    let own = definition_equations m (equations.definitions_of m p fact) in
    let hyps = flat_map (hyp_equations m p) fact.hyps in
    let squares = squares_of m p lemmas fact in
    subst (λ xs. BeginsWith m value xs list) (sym e)
    (begins_at m value (equations.definitions_of m p fact) (hyps ++ squares) list (f ∙ ap polynomials_of (append_assoc own hyps squares)))
