-- What the board asks of causes: a whole piece does not end with a model, a cause names lines of the program, and the input
-- of a stray fits. No public clause cites this module but by the three laws at its end.
use Rattle.std.specs.Prelude.{◌≡◌, ◌<◌, ℕ, zero, suc, ◌+◌, nat_lt, nat_le, Bool, true, false, not, ◌&&◌, if◌then◌else◌, List, [], ◌∷◌, length, slice_get, Option, Some, None}
use Rattle.std.specs.List.{filter_map, cons_option}
use Rattle.std.proofs.Common.{refl, sym, ◌∙◌, ap, arith}
use Rattle.std.proofs.lemmas.Bool.{lt-ltb}
use Rattle.std.proofs.lemmas.Option.{slice_get_within}
use Rattle.tcl_port.specs.declared.limit.At.{At}
use Rattle.tcl_port.specs.declared.limit.At.TheVariants as at
use Rattle.tcl_lang.specs.declared.instr.Instr.{Instr}
use Rattle.tcl_lang.specs.declared.pred.Line.{Line}
use Rattle.tcl_lang.specs.declared.term.Term.{Term}
use Rattle.tcl_lang.specs.declared.term.AlgPred.{AlgPred}
use Rattle.tcl_lang.specs.declared.variable.Variable.{Variable}
use Rattle.tcl_lang.specs.Program.{VersionedProgram}
use Rattle.tcl_lang.specs.Line.{is_algebraic, instruction_of}
use Rattle.tcl_lang.specs.Goal.{passes}
use Rattle.tcl_goals.specs.declared.cause.Cause.TheVariants as cause
use Rattle.tcl_goals.specs.declared.fact.Fact.{Fact}
use Rattle.tcl_goals.specs.declared.fact.Hyp.{Hyp}
use Rattle.tcl_goals.specs.declared.piece.Route.{Route}
use Rattle.tcl_goals.specs.declared.piece.Route.TheVariants as route
use Rattle.tcl_goals.specs.Places.{has_goal}
use Rattle.tcl_goals.proofs.GoalPlaces.{goal_place_below}
use Rattle.tcl_goals.specs.Plans.{piece_fact}
use Rattle.tcl_poly.specs.Unknown.{variable_key}
use Rattle.tcl_poly.specs.Polynomial.{Polynomial, norm_of}
use Rattle.tcl_reduce.specs.Parts.{top, coefficients}
use Rattle.tcl_reduce.specs.Reduction.{Definition, Reduced, first_fault, reduced_at, reduced_from, rest_at, cofactor_at}
use Rattle.tcl_reduce.specs.Reduction as reduction
use Rattle.tcl_reduce.specs.Substitution.{bound_of, degree_by, terms_by}
use Rattle.tcl_ring.specs.Reduction.{is_wide, reduced_by}
use Rattle.tcl_algebra.specs.Row.{last_of, counts, instruction_term}
use Rattle.tcl_algebra.specs.Equations.{Begins, instruction_in, is_assumed, definition_norm, definition_polynomial, definition_by, definition_in, definitions_of, claim_begins, modulus_of, claim_polynomial}
use Rattle.tcl_algebra.specs.Equations as equations
use Rattle.tcl_algebra.specs.Ends.{claim_equation}
use Rattle.tcl_plain.specs.declared.outcome.Outcome.{Outcome}
use Rattle.tcl_plain.specs.declared.outcome.Outcome.TheVariants as outcome
use Rattle.tcl_plain.specs.Plain.{plain_end, outcome_by, outcome_of}
use Rattle.tcl_kernel.specs.PlainOutcome.{plain_outcome, equation_outcome}
use Rattle.tcl_kernel.specs.Causes.{IsTrueCause}
use Rattle.tcl_board.specs.Shows.{NoModel, NamesOwn, StraysFit, has_line, is_place}

-- the places of definitions are below a number
abbrev ArePlaced : ℕ → List Definition → Type 0
ArePlaced n [] = Unit {0}
ArePlaced n (x ∷ xs) = (nat_lt x.0 n ≡ true) × ArePlaced n xs

cons_placed : (n : ℕ) (o : Option Definition) (xs : List Definition) → ((x : Definition) → o ≡ Some x → nat_lt x.0 n ≡ true) → ArePlaced n xs → ArePlaced n (cons_option o xs)
cons_placed n None xs h rest = rest
cons_placed n (Some x) xs h rest = (h x refl, rest)

abbrev from_some : Definition → Option Definition → Definition
from_some d None = d
from_some d (Some x) = x

-- a definition stands at the place of its instruction
picked : (b : Bool) (d x : Definition) → (if b then Some d else None) ≡ Some x → d ≡ x
picked true d x e = ap (from_some d) e
picked false d x e = absurd (cc)

by_place : (m : Option ℕ) (variables : List Variable) (place : ℕ) (i : Instr) (exact : Bool) (o : Option Term) (x : Definition) → definition_by m variables place i exact o ≡ Some x → x.0 ≡ place
by_place m variables place i exact None x e = absurd (cc)
by_place m variables place i exact (Some t) x e =
    ap (λ (d : Definition). d.0)
    (sym (picked (counts i.op exact && not (is_wide m (definition_norm variables i t))) (place, variable_key (last_of i.outs), definition_polynomial (reduced_by m) variables place i t) x e))

in_place : (m : Option ℕ) (variables : List Variable) (place : ℕ) (exact : Bool) (o : Option Instr) (x : Definition) → definition_in m variables place exact o ≡ Some x → x.0 ≡ place
in_place m variables place exact None x e = absurd (cc)
in_place m variables place exact (Some i) x e = by_place m variables place i exact (instruction_term i) x e

at_line : (m : Option ℕ) (p : VersionedProgram) (hyps : List Hyp) (k : ℕ) (o : Option Line) → slice_get p.lines k ≡ o → (x : Definition) → definition_in m p.variables k (is_assumed hyps k) (instruction_in o) ≡ Some x → nat_lt x.0 (length p.lines) ≡ true
at_line m p hyps k None q x e = absurd (cc)
at_line m p hyps k (Some l) q x e =
    ap (λ j. nat_lt j (length p.lines)) (in_place m p.variables k (is_assumed hyps k) (instruction_of l) x e)
    ∙ lt-ltb k (length p.lines) (slice_get_within p.lines k l q)

all_placed : (m : Option ℕ) (p : VersionedProgram) (hyps : List Hyp) (uses : List ℕ) → ArePlaced (length p.lines) (filter_map (equations.definition_at m p hyps) uses)
all_placed m p hyps [] = tt
all_placed m p hyps (k ∷ uses) =
    cons_placed (length p.lines) (equations.definition_at m p hyps k) (filter_map (equations.definition_at m p hyps) uses)
    (at_line m p hyps k (slice_get p.lines k) refl)
    (all_placed m p hyps uses)

-- so does a definition that is looked up, and the place 0 where there is none
found_placed : (n : ℕ) (xs : List Definition) (k : ℕ) → 0 < n → ArePlaced n xs → nat_lt (reduction.definition_at xs k).0 n ≡ true
found_placed n [] k some h = lt-ltb 0 n some
found_placed n (x ∷ xs) zero some h = h.0
found_placed n (x ∷ xs) (suc k) some h = found_placed n xs k some h.1

-- a reduction that ends wide names a line below a number
abbrev WidePlaced : ℕ → Reduced → Type 0
WidePlaced n (reduction.Reduced.Done f cofactors spent) = Unit {0}
WidePlaced n (reduction.Reduced.TooWide at.Claim) = Unit {0}
WidePlaced n (reduction.Reduced.TooWide (at.Line k)) = nat_lt k n ≡ true
WidePlaced n (reduction.Reduced.TooLarge what count) = Unit {0}

fault_placed : (n : ℕ) (wide deep long : Bool) (place degree terms : ℕ) (further : Reduced) → nat_lt place n ≡ true → WidePlaced n further → WidePlaced n (first_fault wide deep long place degree terms further)
fault_placed n true deep long place degree terms further h rest = h
fault_placed n false true long place degree terms further h rest = tt
fault_placed n false false true place degree terms further h rest = tt
fault_placed n false false false place degree terms further h rest = rest

step_placed : (n : ℕ) (m : Option ℕ) (x : Definition) (f : Polynomial) (spent t : ℕ) (same further : Reduced) → nat_lt x.0 n ≡ true → WidePlaced n same → WidePlaced n further → WidePlaced n (reduced_at m x f spent t same further)
step_placed n m x f spent zero same further h rest more = rest
step_placed n m x f spent (suc k) same further h rest more =
    fault_placed n (is_wide m (spent + bound_of x.2 (coefficients x.1 f) (suc k))) (nat_le 1025 (degree_by x.2 (coefficients x.1 f) (suc (suc k))))
    (nat_le 65537 (terms_by x.2 (coefficients x.1 f) (suc (suc k)))) x.0 (degree_by x.2 (coefficients x.1 f) (suc (suc k)))
    (terms_by x.2 (coefficients x.1 f) (suc (suc k))) further h more

reduction_placed : (n : ℕ) (m : Option ℕ) (defs : List Definition) (k : ℕ) (f : Polynomial) (spent : ℕ) (cofactors : List (ℕ × Polynomial)) → 0 < n → ArePlaced n defs → WidePlaced n (reduced_from m defs k f spent cofactors)
reduction_placed n m defs zero f spent cofactors some h = tt
reduction_placed n m defs (suc k) f spent cofactors some h =
    let x = reduction.definition_at defs k in
    step_placed n m x f spent (top x.1 f)
    (reduced_from m defs k f spent cofactors)
    (reduced_from m defs k (rest_at m x f) (spent + bound_of x.2 (coefficients x.1 f) (top x.1 f)) ((k, cofactor_at m x f) ∷ cofactors))
    (found_placed n defs k some h)
    (reduction_placed n m defs k f spent cofactors some h)
    (reduction_placed n m defs k (rest_at m x f) (spent + bound_of x.2 (coefficients x.1 f) (top x.1 f)) ((k, cofactor_at m x f) ∷ cofactors) some h)

-- and the outcome names it
abbrev from_wide : Outcome → At
from_wide (outcome.Wide place) = place
from_wide _ = at.Claim

ended_placed : (p : VersionedProgram) (end : Reduced) (place : At) → WidePlaced (length p.lines) end → outcome_by end ≡ outcome.Wide place → is_place p place ≡ true
ended_placed p (reduction.Reduced.Done [] cofactors spent) place h e = absurd (cc)
ended_placed p (reduction.Reduced.Done (t ∷ rest) cofactors spent) place h e = absurd (cc)
ended_placed p (reduction.Reduced.TooWide at.Claim) place h e = ap (is_place p) (sym (ap from_wide e))
ended_placed p (reduction.Reduced.TooWide (at.Line k)) place h e = ap (is_place p) (sym (ap from_wide e)) ∙ h
ended_placed p (reduction.Reduced.TooLarge what count) place h e = absurd (cc)

begun_placed : (p : VersionedProgram) (b : Begins) (end : Reduced) (place : At) → WidePlaced (length p.lines) end → outcome_of b end ≡ outcome.Wide place → is_place p place ≡ true
begun_placed p equations.Begins.Ready end place h e = ended_placed p end place h e
begun_placed p equations.Begins.TooWide end place h e = ap (is_place p) (sym (ap from_wide e))
begun_placed p (equations.Begins.TooLarge what count) end place h e = absurd (cc)

abbrev from_outcome : Outcome → Option Outcome → Outcome
from_outcome d None = d
from_outcome d (Some o) = o

equation_placed : (p : VersionedProgram) (fact : Fact) (o : Option AlgPred) (place : At) → 0 < length p.lines → equation_outcome p fact o ≡ Some (outcome.Wide place) → is_place p place ≡ true
equation_placed p fact None place some e = absurd (cc)
equation_placed p fact (Some f) place some e =
    begun_placed p (claim_begins f) (plain_end p fact f) place
    (reduction_placed (length p.lines) (modulus_of f.modulus) (definitions_of (modulus_of f.modulus) p fact)
    (length (definitions_of (modulus_of f.modulus) p fact)) (claim_polynomial (reduced_by (modulus_of f.modulus)) f)
    (norm_of (claim_polynomial (reduced_by (modulus_of f.modulus)) f)) [] some (all_placed (modulus_of f.modulus) p fact.hyps fact.uses))
    (ap (from_outcome (outcome.Wide place)) e)

wide_placed : (p : VersionedProgram) (fact : Fact) (place : At) → 0 < length p.lines → plain_outcome p fact ≡ Some (outcome.Wide place) → is_place p place ≡ true
unfolding plain_outcome
wide_placed p fact place some e = equation_placed p fact (claim_equation p fact.claim) place some e

-- a program with a goal has a line
has_some : (p : VersionedProgram) (goal : ℕ) → has_goal p.lines goal ≡ true → 0 < length p.lines
has_some p goal e = let below = goal_place_below p.lines goal e in omega (arith, below)

-- a line that passes a test is there
passed_line : (p : VersionedProgram) (k : ℕ) (o : Option Line) → slice_get p.lines k ≡ o → passes is_algebraic o ≡ true → has_line p k ≡ true
passed_line p k None q e = absurd (cc)
passed_line p k (Some l) q e = lt-ltb k (length p.lines) (slice_get_within p.lines k l q)

cut_whole : (r : Route) → r ≡ route.Cut → r ≡ route.Whole → ⊥
cut_whole r e f = cc

-- the laws
pub no_model : NoModel IsTrueCause
no_model p budget q exists whole c = cut_whole q.route c.route_is whole

pub names_own : NamesOwn IsTrueCause
names_own p budget q cause.Model exists c = refl
names_own p budget q (cause.Steps n) exists c = refl
names_own p budget q (cause.Width place) exists c = wide_placed p (piece_fact p q) place (has_some p q.goal exists) c.ends
names_own p budget q (cause.Size what n) exists c = refl
names_own p budget q (cause.Rest f _) exists c = absurd c
names_own p budget q (cause.Stray k truth input) exists c = passed_line p k (slice_get p.lines k) refl c.stray.algebraic
names_own p budget q cause.Later exists c = refl

pub strays_fit : StraysFit IsTrueCause
strays_fit p budget q k truth input exists c = c.stray.fits
