-- The definitions and the claim of a fact have names for their unknowns: variables of the form, and lines of it.
use Rattle.std.proofs.Common.{◌≡◌, ℕ, zero, suc, ◌+◌, ◌-◌, ◌^◌, ◌<◌, ◌≤◌, refl, subst, arith, ℤ, pos, negsuc, Bool, true, false, not, ◌&&◌, if◌then◌else◌, nat_lt, List, [], ◌∷◌, length, filter_map, Option, Some, None, IfSome}
use Rattle.std.specs.Prelude.{All, slice_index_or}
use Rattle.std.specs.List.{list_all, slice_get, cons_option}
use Rattle.std.proofs.lemmas.Bool.{and_parts, and_from, lt-ltb}
use Rattle.std.proofs.lemmas.Option.{slice_get_within}
use Rattle.tcl_lang.specs.declared.instr.Atom.{Atom}
use Rattle.tcl_lang.specs.declared.instr.Atom.TheVariants as atom
use Rattle.tcl_lang.specs.declared.instr.Instr.{Instr}
use Rattle.tcl_lang.specs.declared.term.Term.{Term}
use Rattle.tcl_lang.specs.declared.term.Term as plain_term
use Rattle.tcl_lang.specs.declared.term.Part.{Part}
use Rattle.tcl_lang.specs.declared.term.AlgPred.{AlgPred}
use Rattle.tcl_lang.specs.declared.pred.Pred.{Pred}
use Rattle.tcl_lang.specs.declared.pred.Pred.TheVariants.{Alg, Rng}
use Rattle.tcl_lang.specs.declared.pred.Line.{Line}
use Rattle.tcl_lang.specs.declared.pred.Line.TheVariants.{Input, Pre, Step, Assert, Assume, Cut, Post}
use Rattle.tcl_lang.specs.declared.variable.Variable.{Variable}
use Rattle.tcl_lang.specs.Program.{VersionedProgram}
use Rattle.tcl_lang.specs.Names.{name_of, term_names, predicate_names, used_names, defined_names}
use Rattle.tcl_lang.specs.Bound as bound
use Rattle.tcl_lang.specs.Form.{IsWellFormed}
use Rattle.tcl_lang.proofs.TypedRuns.{all_left, all_right}
use Rattle.tcl_goals.specs.declared.fact.Hyp.{Hyp}
use Rattle.tcl_goals.specs.declared.fact.Claim.{Claim}
use Rattle.tcl_goals.specs.declared.fact.Claim.TheVariants as claim
use Rattle.tcl_goals.specs.declared.fact.Fact.{Fact}
use Rattle.tcl_goals.specs.Places.{goal_place}
use Rattle.tcl_port.specs.declared.limit.What.TheVariants.{Degree, Terms}
use Rattle.tcl_ring.specs.Reduction.{reduced_by, is_wide}
use Rattle.tcl_poly.specs.Unknown.{variable_key}
use Rattle.tcl_poly.specs.Polynomial.{scaled, norm_of}
use Rattle.tcl_poly.proofs.Norms.{narrower, norm_sum}
use Rattle.tcl_reduce.specs.Reduction.{Definition}
use Rattle.tcl_term_poly.specs.TermPolynomial.{polynomial_of, less_multiple}
use Rattle.tcl_term_poly.proofs.TermValues.{parts}
use Rattle.tcl_term_poly.proofs.TermBounds.{term_norm}
use Rattle.tcl_term_poly.proofs.Negations.{negation_norm}
use Rattle.tcl_algebra.specs.Row.{atom_at, term_of, instruction_term, last_of, has_quotient, counts}
use Rattle.tcl_algebra.specs.Equations.{instruction_in, predicate_in, is_assumed, definition_polynomial, definition_norm, definition_by, definition_in, definition_at, definitions_of, modulus_of, claim_polynomial, is_wide_claim, is_deep, is_long, claim_begins}
use Rattle.tcl_algebra.specs.Equations.Begins.{TooWide, TooLarge, Ready}
use Rattle.tcl_algebra.specs.Ends.{equation_in, claim_equation}
use Rattle.tcl_remainder.specs.Names.{has_name}
use Rattle.tcl_plain.specs.Named.{AreNamed, DefinitionsNamed, IsReadable}
use Rattle.tcl_plain.proofs.TermNames.{HasNamed, variable_named, multiple_named, difference_named, term_named, row_named, var, num}

-- ---- small numbers

abbrev AreSmall : List ℕ → Type 0
AreSmall vs = list_all (λ v. nat_lt v (2 ^ 32)) vs ≡ true

small_all : (n : ℕ) (vs : List ℕ) → n ≤ 2 ^ 32 → All (λ v. v < n) vs → AreSmall vs
small_all n [] h a = refl
small_all n (v ∷ vs) h a =
    let first : v < n = a 0 v (omega arith) in
    and_from (nat_lt v (2 ^ 32)) (list_all (λ v. nat_lt v (2 ^ 32)) vs) (lt-ltb v (2 ^ 32) (omega (arith, first, h))) (small_all n vs h (λ k d less. a (suc k) d (omega arith)))

small_nth : (vs : List ℕ) (k : ℕ) → AreSmall vs → nat_lt (slice_index_or vs k 0) (2 ^ 32) ≡ true
small_nth [] zero e = refl
small_nth [] (suc k) e = refl
small_nth (v ∷ vs) zero e = (and_parts (nat_lt v (2 ^ 32)) (list_all (λ v. nat_lt v (2 ^ 32)) vs) e).0
small_nth (v ∷ vs) (suc k) e = small_nth vs k (and_parts (nat_lt v (2 ^ 32)) (list_all (λ v. nat_lt v (2 ^ 32)) vs) e).1

operand_named : (r : ℤ → ℤ) (atoms : List Atom) (k : ℕ) → AreSmall (filter_map name_of atoms) → HasNamed r (term_of (atom_at atoms k))
operand_named r [] zero e = num r (pos 0)
operand_named r [] (suc k) e = num r (pos 0)
operand_named r (atom.Var v ∷ atoms) zero e = var r v (and_parts (nat_lt v (2 ^ 32)) (list_all (λ v. nat_lt v (2 ^ 32)) (filter_map name_of atoms)) e).0
operand_named r (atom.Lit T n ∷ atoms) zero e = num r n
operand_named r (atom.Var v ∷ atoms) (suc k) e = operand_named r atoms k (and_parts (nat_lt v (2 ^ 32)) (list_all (λ v. nat_lt v (2 ^ 32)) (filter_map name_of atoms)) e).1
operand_named r (atom.Lit T n ∷ atoms) (suc k) e = operand_named r atoms k e

reads_small : (p : VersionedProgram) (k : ℕ) (l : Line) → IsWellFormed p → slice_get p.lines k ≡ Some l → AreSmall (used_names l)
reads_small p k l w at =
    small_all (length p.variables) (used_names l) (omega (arith, w.few_variables))
    (all_right (λ v. v < length p.variables) (defined_names l) (used_names l) (w.runnable.named k l at))

outs_small : (p : VersionedProgram) (k : ℕ) (l : Line) → IsWellFormed p → slice_get p.lines k ≡ Some l → AreSmall (defined_names l)
outs_small p k l w at =
    small_all (length p.variables) (defined_names l) (omega (arith, w.few_variables))
    (all_left (λ v. v < length p.variables) (defined_names l) (used_names l) (w.runnable.named k l at))

-- ---- definitions

abbrev IsNamedDefinition : Definition → Type 0
IsNamedDefinition d = (has_name d.1 ≡ true) × AreNamed d.2

polynomial_named : (r : ℤ → ℤ) (variables : List Variable) (place : ℕ) (i : Instr) (t : Term) → place < 2 ^ 32 - 1 → HasNamed r t → AreNamed (definition_polynomial r variables place i t)
polynomial_named r variables place i t l h = at (has_quotient variables i)
  where
    at : (b : Bool) → AreNamed (if b then less_multiple r (polynomial_of r t) (pos (2 ^ i.ty.width)) place else polynomial_of r t)
    at true = multiple_named r (polynomial_of r t) (pos (2 ^ i.ty.width)) place l h
    at false = h

defined_by : (m : Option ℕ) (variables : List Variable) (place : ℕ) (i : Instr) (exact : Bool) (o : Option Term) → place < 2 ^ 32 - 1 → AreSmall i.outs → IfSome o (HasNamed (reduced_by m)) → IfSome (definition_by m variables place i exact o) IsNamedDefinition
defined_by m variables place i exact None l outs h = tt
defined_by m variables place i exact (Some t) l outs h = at (counts i.op exact && not (is_wide m (definition_norm variables i t)))
  where
    at : (b : Bool) → IfSome {T = Definition} (if b then Some (place, variable_key (last_of i.outs), definition_polynomial (reduced_by m) variables place i t) else None) IsNamedDefinition
    at true = (variable_named (last_of i.outs) (small_nth i.outs (length i.outs - 1) outs), polynomial_named (reduced_by m) variables place i t l h)
    at false = tt

step_defined : (m : Option ℕ) (p : VersionedProgram) (place : ℕ) (exact : Bool) (i : Instr) → IsWellFormed p → slice_get p.lines place ≡ Some (Step i) → IfSome (definition_in m p.variables place exact (Some i)) IsNamedDefinition
step_defined m p place exact i w at =
    let r = reduced_by m in
    let reads = reads_small p place (Step i) w at in
    let outs = outs_small p place (Step i) w at in
    let within = slice_get_within p.lines place (Step i) at in
    defined_by m p.variables place i exact (instruction_term i) (omega (arith, within, w.few_lines)) outs
    (row_named r i.op i.ty i.amount (term_of (atom_at i.args 0)) (term_of (atom_at i.args 1)) (term_of (atom_at i.args 2)) (plain_term.Var (slice_index_or i.outs 0 0))
    (operand_named r i.args 0 reads) (operand_named r i.args 1 reads) (operand_named r i.args 2 reads) (var r (slice_index_or i.outs 0 0) (small_nth i.outs 0 outs)))

place_defined : (m : Option ℕ) (p : VersionedProgram) (hyps : List Hyp) (place : ℕ) → IsWellFormed p → IfSome (definition_at m p hyps place) IsNamedDefinition
place_defined m p hyps place w = at (slice_get p.lines place) refl
  where
    at : (o : Option Line) → slice_get p.lines place ≡ o → IfSome (definition_in m p.variables place (is_assumed hyps place) (instruction_in o)) IsNamedDefinition
    at None e = tt
    at (Some (Input T x)) e = tt
    at (Some (Pre q)) e = tt
    at (Some (Step i)) e = step_defined m p place (is_assumed hyps place) i w e
    at (Some (Assert q)) e = tt
    at (Some (Assume q)) e = tt
    at (Some (Cut q)) e = tt
    at (Some (Post q)) e = tt

found_named : (f : ℕ → Option Definition) (uses : List ℕ) → ((k : ℕ) → IfSome (f k) IsNamedDefinition) → DefinitionsNamed (filter_map f uses)
found_named f [] h = tt
found_named f (k ∷ uses) h = put (f k) (h k) (found_named f uses h)
  where
    put : (o : Option Definition) → IfSome o IsNamedDefinition → DefinitionsNamed (filter_map f uses) → DefinitionsNamed (cons_option o (filter_map f uses))
    put None a rest = rest
    put (Some d) a rest = (a.0, a.1, rest)

pub definitions_named : (m : Option ℕ) (p : VersionedProgram) (fact : Fact) → IsWellFormed p → DefinitionsNamed (definitions_of m p fact)
definitions_named m p fact w = found_named (definition_at m p fact.hyps) fact.uses (λ k. place_defined m p fact.hyps k w)

-- ---- the claim

sides_named : (r : ℤ → ℤ) (f : AlgPred) → AreSmall (predicate_names (Alg f)) → AreNamed (claim_polynomial r f)
sides_named r f e =
    let both = parts (term_names f.left) (term_names f.right) e in
    difference_named r (polynomial_of r f.left) (polynomial_of r f.right) (term_named r f.left both.0) (term_named r f.right both.1)

stated_named : (r : ℤ → ℤ) (q : Pred) (f : AlgPred) → equation_in (Some q) ≡ Some f → AreSmall (predicate_names q) → AreNamed (claim_polynomial r f)
stated_named r (Alg g) f e h = subst (λ (x : AlgPred). AreNamed (claim_polynomial r x)) (same g f e) (sides_named r g h)
  where
    same : (g f : AlgPred) → Some g ≡ Some f → g ≡ f
    same g f e = cc
stated_named r (Rng q) f e h = absurd (cc)

line_named : (r : ℤ → ℤ) (l : Line) (f : AlgPred) → equation_in (predicate_in (Some l)) ≡ Some f → AreSmall (used_names l) → AreNamed (claim_polynomial r f)
line_named r (Input T x) f e h = absurd (cc)
line_named r (Pre q) f e h = stated_named r q f e h
line_named r (Step i) f e h = absurd (cc)
line_named r (Assert q) f e h = stated_named r q f e h
line_named r (Assume q) f e h = stated_named r q f e h
line_named r (Cut q) f e h = stated_named r q f e h
line_named r (Post q) f e h = stated_named r q f e h

pub claim_named : (r : ℤ → ℤ) (p : VersionedProgram) (c : Claim) (f : AlgPred) → IsWellFormed p → claim_equation p c ≡ Some f → AreNamed (claim_polynomial r f)
claim_named r p (claim.Goal i) f w e = at (slice_get p.lines (goal_place p.lines i)) refl e
  where
    at : (o : Option Line) → slice_get p.lines (goal_place p.lines i) ≡ o → equation_in (predicate_in o) ≡ Some f → AreNamed (claim_polynomial r f)
    at None s e = absurd (cc)
    at (Some l) s e = line_named r l f e (reads_small p (goal_place p.lines i) l w s)
claim_named r p (claim.Lemma n) f w e = absurd (cc)

-- a claim that is ready is not wide
ready_at : (f : AlgPred) (a b c : Bool) → (if a then TooWide else (if b then TooLarge Degree (bound.equation_degree f.left f.right) else (if c then TooLarge Terms (bound.equation_terms f.left f.right) else Ready))) ≡ Ready → (a ≡ false) × (b ≡ false)
ready_at f true b c e = absurd (cc)
ready_at f false true c e = absurd (cc)
ready_at f false false c e = (refl, refl)

pub ready : (f : AlgPred) → claim_begins f ≡ Ready → (is_wide_claim f f.modulus ≡ false) × (is_deep f ≡ false)
ready f e = ready_at f (is_wide_claim f f.modulus) (is_deep f) (is_long f) e

claim_norm : (f : AlgPred) → norm_of (claim_polynomial (reduced_by None) f) ≤ bound.norm_of f.left + bound.norm_of f.right
claim_norm f =
    let p = polynomial_of (reduced_by None) f.left in let q = polynomial_of (reduced_by None) f.right in
    omega (arith, norm_sum p (scaled (reduced_by None) ([], negsuc 0) q), negation_norm q, term_norm f.left, term_norm f.right)

narrow_at : (f : AlgPred) (o : Option (List Part)) → is_wide_claim f o ≡ false → is_wide (modulus_of o) (norm_of (claim_polynomial (reduced_by (modulus_of o)) f)) ≡ false
narrow_at f None e = narrower None (bound.norm_of f.left + bound.norm_of f.right) (norm_of (claim_polynomial (reduced_by None) f)) e (claim_norm f)
narrow_at f (Some parts) e = refl

-- so plain data has all that is reduced
pub fact_readable : (p : VersionedProgram) (fact : Fact) (f : AlgPred) → IsWellFormed p → claim_equation p fact.claim ≡ Some f → claim_begins f ≡ Ready → IsReadable (modulus_of f.modulus) (definitions_of (modulus_of f.modulus) p fact) (claim_polynomial (reduced_by (modulus_of f.modulus)) f)
fact_readable p fact f w is begins = record {
  definitions = definitions_named (modulus_of f.modulus) p fact w;
  named = claim_named (reduced_by (modulus_of f.modulus)) p fact.claim f w is;
  narrow = narrow_at f f.modulus (ready f begins).0;
}
