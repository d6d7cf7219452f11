-- All equations of a fact are 0 in an assignment that meets its hypotheses.
use Rattle.std.proofs.Common.{◌≡◌, ◌⊎◌, inl, inr, ℕ, zero, suc, ◌^◌, ◌<◌, ◌≤◌, refl, sym, ◌∙◌, ap, subst, arith, ℤ, pos, ◌-ℤ◌, ◌*ℤ◌, Bool, true, false, not, ◌&&◌, ◌||◌, if◌then◌else◌, nat_lt, nat_eq, List, [], ◌∷◌, ◌++◌, map, filter_map, flat_map, length, Option, Some, None, IfSome}
use Rattle.std.specs.List.{list_all, slice_get, cons_option}
use Rattle.std.proofs.lemmas.Bool.{and_parts, eqb-true, lt-ltb}
use Rattle.std.proofs.lemmas.Option.{slice_get_within}
use Rattle.tcl_ring.specs.Reduction.{reduced_by, IsModulus}
use Rattle.tcl_ring.proofs.Reductions.{is_reduction}
use Rattle.tcl_poly.specs.Polynomial.{product_of, value_of}
use Rattle.tcl_poly.proofs.Values.{value_product}
use Rattle.tcl_reduce.specs.Reduction.{Definition}
use Rattle.tcl_lang.specs.declared.ty.Ty.{Ty}
use Rattle.tcl_lang.specs.declared.ty.Word.{Word}
use Rattle.tcl_lang.specs.declared.instr.Instr.{Instr}
use Rattle.tcl_lang.specs.declared.pred.Pred.{Pred}
use Rattle.tcl_lang.specs.declared.pred.Line.{Line}
use Rattle.tcl_lang.specs.declared.pred.Line.TheVariants.{Input, Pre, Step, Assert, Assume, Cut, Post}
use Rattle.tcl_lang.specs.declared.variable.Variable.{Variable}
use Rattle.tcl_lang.specs.Program.{VersionedProgram}
use Rattle.tcl_lang.specs.Types.{InType}
use Rattle.tcl_lang.specs.Store.{word_at}
use Rattle.tcl_lang.specs.Names.{predicate_names}
use Rattle.tcl_lang.specs.Goal.{truth_in}
use Rattle.tcl_goals.specs.declared.fact.Hyp.{Hyp}
use Rattle.tcl_goals.specs.declared.fact.Hyp.TheVariants as hyp
use Rattle.tcl_goals.specs.declared.fact.Fact.{Fact}
use Rattle.tcl_goals.specs.declared.lemma.Numbered.{Numbered}
use Rattle.tcl_goals.specs.Numbers.{those_below}
use Rattle.tcl_algebra.proofs.Stores.{line_in, hyp_in}
use Rattle.tcl_term_poly.specs.Point.{point_of}
use Rattle.tcl_term_poly.specs.TermPolynomial.{variable_of}
use Rattle.tcl_algebra.specs.Equations.{instruction_in, predicate_in, is_at, is_assumed, definition_in, definition_at, definitions_of, definition_equations, Placed, predicate_equations, hyp_equations, square_polynomial, is_bit_variable, square_at, has_square, squares_of, equations_of}
use Rattle.tcl_algebra.specs.Zero.{AreZero}
use Rattle.tcl_term_poly.proofs.TermValues.{two_products, value_variable, value_difference}
use Rattle.tcl_algebra.proofs.RowsHold.{bit_cases}
use Rattle.tcl_algebra.proofs.Quotients.{IsQuotient, quotient_in}
use Rattle.tcl_algebra.proofs.DefinitionsVanish.{IsStep, IsZeroDefinition, step_zero}
use Rattle.tcl_algebra.proofs.HypothesesVanish.{predicate_zero}

-- what an assignment that meets the hypotheses knows of a fact
pub record IsMet (p : VersionedProgram) (lemmas : List Numbered) (fact : Fact) (store : List Word) : Type 0 where
  pub few : length p.variables ≤ 2 ^ 32
  pub typed : (v : ℕ) (w : Variable) → slice_get p.variables v ≡ Some w → InType w.ty (word_at store v).value
  pub steps : (n k : ℕ) (i : Instr) → slice_get fact.uses n ≡ Some k → slice_get p.lines k ≡ Some (Step i) → IsStep p.variables store i
  pub narrow : (k : ℕ) (q : Pred) → predicate_in (slice_get p.lines k) ≡ Some q → list_all (λ v. nat_lt v (2 ^ 32)) (predicate_names q) ≡ true
  pub hyps : list_all (hyp_in p lemmas store) fact.hyps ≡ true

-- lists of equations
zero_append : (r : ℤ → ℤ) (point : ℕ → ℤ) (xs ys : List Placed) → AreZero r point xs → AreZero r point ys → AreZero r point (xs ++ ys)
zero_append r point [] ys h k = k
zero_append r point (x ∷ xs) ys h k = (h.0, zero_append r point xs ys h.1 k)

-- a hypothesis that is assumed is true
assumed_true : (p : VersionedProgram) (lemmas : List Numbered) (store : List Word) (hyps : List Hyp) (k : ℕ) → list_all (hyp_in p lemmas store) hyps ≡ true → is_assumed hyps k ≡ true → line_in p store k ≡ true
assumed_true p lemmas store [] k all some = absurd (cc)
assumed_true p lemmas store (h ∷ hyps) k all some =
    let both = and_parts (hyp_in p lemmas store h) (list_all (hyp_in p lemmas store) hyps) all in
    at h (is_at k h) refl both.0 (assumed_true p lemmas store hyps k both.1) some
  where
    at : (h : Hyp) (b : Bool) → is_at k h ≡ b → hyp_in p lemmas store h ≡ true → (is_assumed hyps k ≡ true → line_in p store k ≡ true) → (b || is_assumed hyps k) ≡ true → line_in p store k ≡ true
    at (hyp.Line j) true e here later some = subst (λ n. line_in p store n ≡ true) (eqb-true j k e) here
    at (hyp.Lemma n) true e here later some = absurd (cc)
    at h false e here later some = later some

pub quotients_of : VersionedProgram → List Word → ℕ → ℤ
quotients_of p store k = (quotient_in store (slice_get p.lines k)).0

quotient_is : (p : VersionedProgram) (store : List Word) (k : ℕ) → IsQuotient store (slice_get p.lines k) (quotients_of p store k)
unfolding quotients_of
quotient_is p store k = (quotient_in store (slice_get p.lines k)).1

-- the definition of a place
place_zero : (m : Option ℕ) → IsModulus m → (p : VersionedProgram) (lemmas : List Numbered) (fact : Fact) (store : List Word) → IsMet p lemmas fact store → (n k : ℕ) → slice_get fact.uses n ≡ Some k → IfSome (definition_at m p fact.hyps k) (IsZeroDefinition m (point_of store (quotients_of p store)))
place_zero m ok p lemmas fact store met n k used = at (slice_get p.lines k) refl
  where
    at : (o : Option Line) → slice_get p.lines k ≡ o → IfSome (definition_in m p.variables k (is_assumed fact.hyps k) (instruction_in o)) (IsZeroDefinition m (point_of store (quotients_of p store)))
    at None e = tt
    at (Some (Input T x)) e = tt
    at (Some (Pre q)) e = tt
    at (Some (Step i)) e =
        step_zero m ok p.variables store (quotients_of p store) k i (is_assumed fact.hyps k) (met.steps n k i used e)
        (λ a. sym (ap (truth_in store) e) ∙ assumed_true p lemmas store fact.hyps k met.hyps a)
        (subst (λ o. IsQuotient store o (quotients_of p store k)) e (quotient_is p store k))
    at (Some (Assert q)) e = tt
    at (Some (Assume q)) e = tt
    at (Some (Cut q)) e = tt
    at (Some (Post q)) e = tt

definitions_zero : (m : Option ℕ) (p : VersionedProgram) (hyps : List Hyp) (point : ℕ → ℤ) (uses : List ℕ) → ((n k : ℕ) → slice_get uses n ≡ Some k → IfSome (definition_at m p hyps k) (IsZeroDefinition m point)) → AreZero (reduced_by m) point (definition_equations m (filter_map (definition_at m p hyps) uses))
definitions_zero m p hyps point [] h = tt
definitions_zero m p hyps point (k ∷ uses) h = put (definition_at m p hyps k) (h 0 k refl) (definitions_zero m p hyps point uses (λ n j e. h (suc n) j e))
  where
    put : (o : Option Definition) → IfSome o (IsZeroDefinition m point) → AreZero (reduced_by m) point (definition_equations m (filter_map (definition_at m p hyps) uses)) → AreZero (reduced_by m) point (definition_equations m (cons_option o (filter_map (definition_at m p hyps) uses)))
    put None a rest = rest
    put (Some d) a rest = (a, rest)

-- the equations of hypotheses
line_zero : (m : Option ℕ) → IsModulus m → (p : VersionedProgram) (store : List Word) (k : ℕ) (o : Option Line) → slice_get p.lines k ≡ o → ((q : Pred) → predicate_in o ≡ Some q → list_all (λ v. nat_lt v (2 ^ 32)) (predicate_names q) ≡ true) → truth_in store o ≡ true → IsQuotient store o (quotients_of p store k) → AreZero (reduced_by m) (point_of store (quotients_of p store)) (predicate_equations m k (predicate_in o))
line_zero m ok p store k None e narrow truth q = tt
line_zero m ok p store k (Some (Input T x)) e narrow truth q = tt
line_zero m ok p store k (Some (Pre f)) e narrow truth q = predicate_zero m ok store (quotients_of p store) k f (narrow f refl) truth (λ g n is has. q.equation g n (ap Some is) has)
line_zero m ok p store k (Some (Step i)) e narrow truth q = tt
line_zero m ok p store k (Some (Assert f)) e narrow truth q = predicate_zero m ok store (quotients_of p store) k f (narrow f refl) truth (λ g n is has. q.equation g n (ap Some is) has)
line_zero m ok p store k (Some (Assume f)) e narrow truth q = predicate_zero m ok store (quotients_of p store) k f (narrow f refl) truth (λ g n is has. q.equation g n (ap Some is) has)
line_zero m ok p store k (Some (Cut f)) e narrow truth q = predicate_zero m ok store (quotients_of p store) k f (narrow f refl) truth (λ g n is has. q.equation g n (ap Some is) has)
line_zero m ok p store k (Some (Post f)) e narrow truth q = predicate_zero m ok store (quotients_of p store) k f (narrow f refl) truth (λ g n is has. q.equation g n (ap Some is) has)

hyp_zero : (m : Option ℕ) → IsModulus m → (p : VersionedProgram) (lemmas : List Numbered) (fact : Fact) (store : List Word) → IsMet p lemmas fact store → (h : Hyp) → hyp_in p lemmas store h ≡ true → AreZero (reduced_by m) (point_of store (quotients_of p store)) (hyp_equations m p h)
hyp_zero m ok p lemmas fact store met (hyp.Line k) truth = line_zero m ok p store k (slice_get p.lines k) refl (met.narrow k) truth (quotient_is p store k)
hyp_zero m ok p lemmas fact store met (hyp.Lemma n) truth = tt

hyps_zero : (m : Option ℕ) → IsModulus m → (p : VersionedProgram) (lemmas : List Numbered) (fact : Fact) (store : List Word) → IsMet p lemmas fact store → (hyps : List Hyp) → list_all (hyp_in p lemmas store) hyps ≡ true → AreZero (reduced_by m) (point_of store (quotients_of p store)) (flat_map (hyp_equations m p) hyps)
hyps_zero m ok p lemmas fact store met [] all = tt
hyps_zero m ok p lemmas fact store met (h ∷ hyps) all =
    let both = and_parts (hyp_in p lemmas store h) (list_all (hyp_in p lemmas store) hyps) all in
    zero_append (reduced_by m) (point_of store (quotients_of p store)) (hyp_equations m p h) (flat_map (hyp_equations m p) hyps)
    (hyp_zero m ok p lemmas fact store met h both.0) (hyps_zero m ok p lemmas fact store met hyps both.1)

-- squares
square_value : (n : ℤ) → (n ≡ pos 0) ⊎ (n ≡ pos 1) → n *ℤ n -ℤ n ≡ pos 0
square_value n (inl e) = ap (λ k. k *ℤ k -ℤ k) e
square_value n (inr e) = ap (λ k. k *ℤ k -ℤ k) e

bit_value : (T : Ty) (n : ℤ) → (not T.signed && nat_eq T.width 1) ≡ true → InType T n → (n ≡ pos 0) ⊎ (n ≡ pos 1)
bit_value T n e h = at T.signed T.width (and_parts (not T.signed) (nat_eq T.width 1) e).0 (eqb-true T.width 1 (and_parts (not T.signed) (nat_eq T.width 1) e).1) h
  where
    at : (s : Bool) (w : ℕ) → not s ≡ true → w ≡ 1 → InType (record { signed = s; width = w }) n → (n ≡ pos 0) ⊎ (n ≡ pos 1)
    at true w f g h = absurd (cc)
    at false w f g h = bit_cases n (subst (λ w. InType (record { signed = false; width = w }) n) g h)

square_zero : (m : Option ℕ) → IsModulus m → (p : VersionedProgram) (lemmas : List Numbered) (fact : Fact) (store : List Word) → IsMet p lemmas fact store → (v : ℕ) → is_bit_variable (slice_get p.variables v) ≡ true → reduced_by m (value_of (point_of store (quotients_of p store)) (square_polynomial (reduced_by m) v)) ≡ pos 0
square_zero m ok p lemmas fact store met v e = at (slice_get p.variables v) refl e
  where
    at : (o : Option Variable) → slice_get p.variables v ≡ o → is_bit_variable o ≡ true → reduced_by m (value_of (point_of store (quotients_of p store)) (square_polynomial (reduced_by m) v)) ≡ pos 0
    at None f e = absurd (cc)
    at (Some w) f e =
        let r = reduced_by m in
        let ring = is_reduction m ok in
        let point = point_of store (quotients_of p store) in
        let n = (word_at store v).value in
        let u = variable_of r v in
        let within : v < length p.variables = slice_get_within p.variables v w f in
        let x = value_variable r ring store (quotients_of p store) v (lt-ltb v (2 ^ 32) (omega (arith, within, met.few))) in
        value_difference r ring point (product_of r u u) u (n *ℤ n) n (value_product r ring point u u ∙ two_products r ring (value_of point u) n (value_of point u) n x x) x
        ∙ ap r (square_value n (bit_value w.ty n e (met.typed v w f))) ∙ ring.null

squares_zero : (m : Option ℕ) → IsModulus m → (p : VersionedProgram) (lemmas : List Numbered) (fact : Fact) (store : List Word) → IsMet p lemmas fact store → (n : ℕ) → AreZero (reduced_by m) (point_of store (quotients_of p store)) (map (square_at m p) (those_below (has_square p lemmas fact) n))
unfolding those_below
squares_zero m ok p lemmas fact store met zero = tt
squares_zero m ok p lemmas fact store met (suc v) = put (has_square p lemmas fact v) refl (squares_zero m ok p lemmas fact store met v)
  where
    more : (xs : List ℕ) → AreZero (reduced_by m) (point_of store (quotients_of p store)) (map (square_at m p) xs) → reduced_by m (value_of (point_of store (quotients_of p store)) (square_polynomial (reduced_by m) v)) ≡ pos 0 → AreZero (reduced_by m) (point_of store (quotients_of p store)) (map (square_at m p) (xs ++ v ∷ []))
    more [] h e = (e, tt)
    more (x ∷ xs) h e = (h.0, more xs h.1 e)

    put : (b : Bool) → has_square p lemmas fact v ≡ b → AreZero (reduced_by m) (point_of store (quotients_of p store)) (map (square_at m p) (those_below (has_square p lemmas fact) v)) → AreZero (reduced_by m) (point_of store (quotients_of p store)) (map (square_at m p) (if b then those_below (has_square p lemmas fact) v ++ v ∷ [] else those_below (has_square p lemmas fact) v))
    put true e rest = more (those_below (has_square p lemmas fact) v) rest (square_zero m ok p lemmas fact store met v (and_parts _ _ e).0)
    put false e rest = rest

pub equations_zero : (m : Option ℕ) → IsModulus m → (p : VersionedProgram) (lemmas : List Numbered) (fact : Fact) (store : List Word) → IsMet p lemmas fact store → AreZero (reduced_by m) (point_of store (quotients_of p store)) (equations_of m p lemmas fact)
equations_zero m ok p lemmas fact store met =
    let r = reduced_by m in
    let point = point_of store (quotients_of p store) in
    let defs = definition_equations m (definitions_of m p fact) in
    let hyps = flat_map (hyp_equations m p) fact.hyps in
    zero_append r point (defs ++ hyps) (squares_of m p lemmas fact)
    (zero_append r point defs hyps
    (definitions_zero m p fact.hyps point fact.uses (place_zero m ok p lemmas fact store met))
    (hyps_zero m ok p lemmas fact store met fact.hyps met.hyps))
    (squares_zero m ok p lemmas fact store met (length p.variables))
