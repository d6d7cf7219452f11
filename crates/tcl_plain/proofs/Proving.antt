-- Plain data has what a reduction ends with; and where nothing is left, its lines show the claim.
use Rattle.std.proofs.Common.{◌≡◌, ℕ, suc, ◌≤◌, refl, sym, ◌∙◌, ap, subst, true, List, [], ◌∷◌, length, map, le_refl, ℤ, Option, Some, None}
use Rattle.std.proofs.lemmas.Bool.{and_parts, and_from, lt-ltb}
use Rattle.tcl_ring.specs.Reduction.{IsModulus, reduced_by, is_wide}
use Rattle.tcl_ring.proofs.Reductions.{is_reduction}
use Rattle.tcl_poly.specs.Polynomial.{Polynomial, IsPolynomial, terms_of, norm_of, degree_of}
use Rattle.tcl_poly.specs.Combination.{Terms, combination_of, weight_of}
use Rattle.tcl_poly.proofs.TermLists.{terms_itself}
use Rattle.tcl_poly.proofs.Degrees.{within_degree}
use Rattle.tcl_lang.specs.declared.term.AlgPred.{AlgPred}
use Rattle.tcl_lang.specs.Program.{VersionedProgram}
use Rattle.tcl_lang.specs.Form.{IsWellFormed}
use Rattle.tcl_goals.specs.Numbers.{is_above, rise_after, numbers_rise}
use Rattle.tcl_goals.specs.declared.fact.Fact.{Fact}
use Rattle.tcl_goals.specs.declared.lemma.Numbered.{Numbered}
use Rattle.tcl_reduce.specs.Reduction.{Definition, definition_at, equation_of, Reduced, reduced_of}
use Rattle.tcl_reduce.specs.Reduction.Reduced.{Done}
use Rattle.tcl_reduce.specs.Remainder.{AreDefinitions, RiseFrom, pairs_of}
use Rattle.tcl_reduce.proofs.Reducing.{Ends, reduction_ends, first_state}
use Rattle.tcl_reduce.proofs.Remainders.{definition_over, reductions_keep}
use Rattle.tcl_remainder.specs.Terms.{is_plain}
use Rattle.tcl_remainder.specs.Lines.{AreOver, valued, lines_of, cofactors_of, are_fitting, all_plain, are_plain}
use Rattle.tcl_remainder.proofs.LineTurns.{lines_back, lines_fit, cofactors_over}
use Rattle.tcl_algebra.specs.Equations.{Placed, Begins, polynomials_of, equations_of, definitions_of, modulus_of, claim_polynomial, claim_begins}
use Rattle.tcl_algebra.specs.Equations.Begins.{Ready}
use Rattle.tcl_algebra.specs.Ends.{claim_equation}
use Rattle.tcl_algebra.proofs.EquationsFit.{sides_fit}
use Rattle.tcl_algebra.proofs.EquationLists.{definitions_over, list_begins}
use Rattle.tcl_plain.specs.Named.{IsReadable}
use Rattle.tcl_plain.specs.declared.outcome.Outcome.{Outcome}
use Rattle.tcl_plain.specs.Plain.{plain_end, outcome_of, AreProof, IsProof}
use Rattle.tcl_plain.proofs.Reading.{AreNarrow, EndsNarrow, narrow_plain, all_narrow_plain, ends_narrow}
use Rattle.tcl_plain.proofs.FactNames.{ready, fact_readable}

-- ---- plain data has it

rise_tested : {X : Type 0} (last : Option ℕ) (least end : ℕ) (cs : List (ℕ × X)) → ((n : ℕ) → least ≤ n → is_above last n ≡ true) → RiseFrom least end cs → rise_after last (map (λ c. c.0) cs) ≡ true
rise_tested last least end [] h i = refl
rise_tested last least end (c ∷ cs) h i =
    and_from (is_above last c.0) (rise_after (Some c.0) (map (λ c. c.0) cs)) (h c.0 i.0) (rise_tested (Some c.0) (suc c.0) end cs (λ n l. lt-ltb c.0 n l) i.2)

-- what is left and the cofactors
pub record IsKept (m : Option ℕ) (rest : Polynomial) (cs : List (ℕ × Polynomial)) : Type 0 where
  pub over : IsPolynomial (reduced_by m) rest
  pub plain : is_plain rest ≡ true
  pub cofactors : AreNarrow m cs
  pub cofactors_plain : are_plain cs ≡ true

pub end_kept : (m : Option ℕ) → IsModulus m → (defs : List Definition) (f rest : Polynomial) (cs : List (ℕ × Polynomial)) (spent : ℕ) → AreDefinitions (reduced_by m) defs → IsPolynomial (reduced_by m) f → degree_of f ≤ 1024 → IsReadable m defs f → reduced_of m defs f ≡ Done rest cs spent → IsKept m rest cs
end_kept m ok defs f rest cs spent over form degree readable is =
    let r = reduced_by m in
    let ring = is_reduction m ok in
    let count = length defs in
    let e : ℕ → Polynomial = λ k. equation_of r (definition_at defs k) in
    let P : Reduced → Type 0 = λ o. EndsNarrow m o in
    let Q : Reduced → Type 0 = λ o. Ends m e count f o in
    let narrow = subst P is (ends_narrow m ring defs f over form readable) in
    let state = (subst Q is (reduction_ends m ring e count defs count f f (norm_of f) [] (le_refl count) (λ k l. (refl, definition_over r defs k over)) (first_state m ring e count count f form degree))).1 in
    record {
      over = narrow.0.over;
      plain = narrow_plain m ok rest narrow.0.over narrow.0.named narrow.0.narrow;
      cofactors = narrow.1;
      cofactors_plain = and_from (numbers_rise (map (λ c. c.0) cs)) (all_plain cs) (rise_tested None 0 count cs (λ n l. refl) state.rise) (all_narrow_plain m ok cs narrow.1);
    }

-- cofactors of the code
pub narrow_over : {E : Type 0} (m : Option ℕ) (value : E → ℤ) (cs : List (ℕ × Terms E)) → AreNarrow m (pairs_of value cs) → AreOver m value cs
narrow_over m value [] h = tt
narrow_over m value (c ∷ cs) h = (h.0.over, narrow_over m value cs h.1)

-- ---- the lines show the claim

all_same : (es : List Placed) → map (terms_of (λ n. n)) (polynomials_of es) ≡ polynomials_of es
all_same [] = refl
all_same (e ∷ es) = (λ i. terms_itself e.1 i ∷ all_same es i)

pairs_same : (cs : List (ℕ × Polynomial)) → valued (λ n. n) cs ≡ cs
pairs_same [] = refl
pairs_same (c ∷ cs) = λ i. (c.0, terms_itself c.1 i) ∷ pairs_same cs i

pub lines_show : (p : VersionedProgram) (lemmas : List Numbered) (fact : Fact) (f : AlgPred) (cs : List (ℕ × Polynomial)) (spent : ℕ) → IsWellFormed p → IsModulus (modulus_of f.modulus) → claim_equation p fact.claim ≡ Some f → claim_begins f ≡ Ready → plain_end p fact f ≡ Done [] cs spent → AreProof p lemmas fact f (lines_of cs)
lines_show p lemmas fact f cs spent w ok claim begins is =
    let m = modulus_of f.modulus in
    let r = reduced_by m in
    let defs = definitions_of m p fact in
    let es = polynomials_of (equations_of m p lemmas fact) in
    let fit = sides_fit m ok f (ready f begins).1 in
    let degree = within_degree 1024 (claim_polynomial r f) fit.1 in
    let over = definitions_over m ok p fact defs refl in
    let kept = end_kept m ok defs (claim_polynomial r f) [] cs spent over fit.0 degree (fact_readable p fact f w claim begins) is in
    let shown = reductions_keep m defs (claim_polynomial r f) [] cs spent es ok over fit.0 degree
    (list_begins m (λ n. n) p lemmas fact defs es refl (all_same (equations_of m p lemmas fact))) is in
    let plain : all_plain (valued (λ n. n) cs) ≡ true = ap all_plain (pairs_same cs) ∙ (and_parts (numbers_rise (map (λ c. c.0) cs)) (all_plain cs) kept.cofactors_plain).1 in
    let back : cofactors_of r (lines_of cs) ≡ cs =
    ap (λ x. cofactors_of r (lines_of x)) (sym (pairs_same cs)) ∙ lines_back m (λ n. n) cs (cofactors_over m (λ n. n) es cs shown.fit) plain ∙ pairs_same cs in
    record {
      ring = ok;
      begins = begins;
      fitting = ap (λ x. are_fitting r es (lines_of x)) (sym (pairs_same cs)) ∙ lines_fit m (λ n. n) es cs plain shown.fit;
      narrow = ap (λ x. is_wide m (weight_of (λ n. n) es x)) back ∙ shown.narrow;
      sum = shown.kept ∙ ap (combination_of r (λ n. n) es) (sym back);
    }

-- so an answer's lines show the claim
answer_shows : (p : VersionedProgram) (lemmas : List Numbered) (fact : Fact) (f : AlgPred) → IsWellFormed p → IsModulus (modulus_of f.modulus) → claim_equation p fact.claim ≡ Some f → (b : Begins) (e : Reduced) → claim_begins f ≡ b → plain_end p fact f ≡ e → IsProof p lemmas fact f (outcome_of b e)
answer_shows p lemmas fact f w ok claim Begins.Ready (Reduced.Done [] cs spent) i j = lines_show p lemmas fact f cs spent w ok claim i j
answer_shows p lemmas fact f w ok claim Begins.Ready (Reduced.Done (t ∷ rest) cs spent) i j = tt
answer_shows p lemmas fact f w ok claim Begins.Ready (Reduced.TooWide at) i j = tt
answer_shows p lemmas fact f w ok claim Begins.Ready (Reduced.TooLarge what n) i j = tt
answer_shows p lemmas fact f w ok claim Begins.TooWide e i j = tt
answer_shows p lemmas fact f w ok claim (Begins.TooLarge what n) e i j = tt

pub outcome_shows : (p : VersionedProgram) (lemmas : List Numbered) (fact : Fact) (f : AlgPred) (o : Outcome) → IsWellFormed p → IsModulus (modulus_of f.modulus) → claim_equation p fact.claim ≡ Some f → o ≡ outcome_of (claim_begins f) (plain_end p fact f) → IsProof p lemmas fact f o
outcome_shows p lemmas fact f o w ok claim is =
    let P : Outcome → Type 0 = λ x. IsProof p lemmas fact f x in
    subst P (sym is) (answer_shows p lemmas fact f w ok claim (claim_begins f) (plain_end p fact f) refl refl)
