-- Definitions that are found one after another: their equations are added, and their places rise.
use Rattle.std.proofs.Common.{◌≡◌, ℕ, suc, ◌+◌, ◌<◌, ◌≤◌, refl, sym, ◌∙◌, ap, subst, arith, ℤ, Bool, true, false, not, ◌&&◌, if◌then◌else◌, nat_lt, List, [], ◌∷◌, ◌++◌, filter_map, length, take, get_or, Option, Some, None, IfSome}
use Rattle.std.specs.List.{cons_option, slice_get}
use Rattle.std.proofs.lemmas.Bool.{and_parts}
use Rattle.std.proofs.lemmas.Bool.Decides.{nat_tests}
use Rattle.std.proofs.lemmas.List.{take_more, map-append}
use Rattle.std.proofs.lemmas.List.Elements.{filter_map-append}
use Rattle.tcl_ring.specs.Reduction.{reduced_by, is_wide}
use Rattle.tcl_poly.specs.Unknown.{variable_key}
use Rattle.tcl_poly.specs.Polynomial.{terms_of}
use Rattle.tcl_poly.specs.Combination.{Terms}
use Rattle.tcl_reduce.specs.declared.definition.Definition.{Definition}
use Rattle.tcl_reduce.specs.Definitions.{Defined, RiseByPlace, AreRising}
use Rattle.tcl_reduce.specs.Reduction as reduction
use Rattle.tcl_reduce.specs.Answer.{definitions_of}
use Rattle.tcl_lang.specs.declared.instr.Instr.{Instr}
use Rattle.tcl_lang.specs.declared.term.Term.{Term}
use Rattle.tcl_lang.specs.declared.variable.Variable.{Variable}
use Rattle.tcl_lang.specs.Program.{VersionedProgram}
use Rattle.tcl_goals.specs.declared.fact.Hyp.{Hyp}
use Rattle.tcl_goals.specs.Numbers.{is_above, rise_after, numbers_rise}
use Rattle.tcl_algebra.specs.Row.{instruction_term, last_of, counts}
use Rattle.tcl_algebra.specs.Equations.{instruction_in, is_assumed, definition_polynomial, definition_norm, definition_by, definition_in, definition_at, definition_equations}
use Rattle.tcl_algebra.specs.Defined.{triple_of, triples_of, IsDefined}
use Rattle.tcl_algebra.specs.Held.{IsAdded}
use Rattle.tcl_algebra.proofs.Added.{added_one, added_then, added_as}

-- one definition and its equation
pub definition_pushed : {R E : Type 0} (m : Option ℕ) (value : E → ℤ) (d : Option reduction.Definition) (x : Definition R E) (equation : Terms E) (old new : List (Definition R E)) → new ≡ old ++ x ∷ [] → IsDefined m value d (Some (x, equation)) → definitions_of value (triples_of new) ≡ definitions_of value (triples_of old) ++ cons_option d []
definition_pushed m value None x equation old new e h = absurd h
definition_pushed m value (Some d) x equation old new e h =
    ap (λ xs. definitions_of value (triples_of xs)) e
    ∙ ap (definitions_of value) (map-append triple_of old (x ∷ []))
    ∙ map-append (λ (y : Defined _). (y.0, variable_key y.1, terms_of value y.2)) (triples_of old) (triple_of x ∷ [])
    ∙ ap (λ y. definitions_of value (triples_of old) ++ y ∷ []) h.0

pub equation_pushed : {R E : Type 0} (m : Option ℕ) (value : E → ℤ) (d : Option reduction.Definition) (x : Definition R E) (equation : Terms E) (before after : List (Terms E)) (old new : List ℕ) → after ≡ before ++ equation ∷ [] → new ≡ old ++ x.place ∷ [] → IsDefined m value d (Some (x, equation)) → IsAdded value before after old new (definition_equations m (cons_option d []))
equation_pushed m value None x equation before after old new e f h = absurd h
equation_pushed m value (Some d) x equation before after old new e f h =
    added_one value before after old new d.0 equation (reduction.equation_of (reduced_by m) d) e (f ∙ ap (λ (y : reduction.Definition). old ++ y.0 ∷ []) h.0) h.1

-- those of one use more
more_found : (f : ℕ → Option reduction.Definition) (uses : List ℕ) (k d : ℕ) → k < length uses → filter_map f (take (k + 1) uses) ≡ filter_map f (take k uses) ++ cons_option (f (get_or uses k d)) []
more_found f uses k d h = ap (filter_map f) (take_more uses k d h) ∙ filter_map-append f (take k uses) (get_or uses k d ∷ [])

pub definitions_more : {R E : Type 0} (value : E → ℤ) (f : ℕ → Option reduction.Definition) (uses : List ℕ) (k d : ℕ) (old new : List (Definition R E)) → k < length uses → definitions_of value (triples_of old) ≡ filter_map f (take k uses) → definitions_of value (triples_of new) ≡ definitions_of value (triples_of old) ++ cons_option (f (get_or uses k d)) [] → definitions_of value (triples_of new) ≡ filter_map f (take (k + 1) uses)
definitions_more value f uses k d old new h e g =
    g ∙ ap (λ ds. ds ++ cons_option (f (get_or uses k d)) []) e ∙ sym (more_found f uses k d h)

pub equations_more : {E : Type 0} (m : Option ℕ) (value : E → ℤ) (f : ℕ → Option reduction.Definition) (uses : List ℕ) (k d : ℕ) (a b c : List (Terms E)) (i j l : List ℕ) → k < length uses → IsAdded value a b i j (definition_equations m (filter_map f (take k uses))) → IsAdded value b c j l (definition_equations m (cons_option (f (get_or uses k d)) [])) → IsAdded value a c i l (definition_equations m (filter_map f (take (k + 1) uses)))
equations_more m value f uses k d a b c i j l h all one =
    let some = filter_map f (take k uses) in
    let last = cons_option (f (get_or uses k d)) [] in
    added_as value a c i l (definition_equations m some ++ definition_equations m last) (definition_equations m (filter_map f (take (k + 1) uses)))
    (sym (ap (definition_equations m) (more_found f uses k d h) ∙ map-append (λ (y : reduction.Definition). (y.0, reduction.equation_of (reduced_by m) y)) some last))
    (added_then value a b c i j l (definition_equations m some) (definition_equations m last) all one)

-- a definition has the place of its instruction
place_by : (m : Option ℕ) (variables : List Variable) (place : ℕ) (i : Instr) (exact : Bool) (o : Option Term) → IfSome (definition_by m variables place i exact o) (λ d. d.0 ≡ place)
place_by m variables place i exact None = tt
place_by m variables place i exact (Some t) = at (counts i.op exact && not (is_wide m (definition_norm variables i t)))
  where
    at : (b : Bool) → IfSome {T = reduction.Definition} (if b then Some (place, variable_key (last_of i.outs), definition_polynomial (reduced_by m) variables place i t) else None) (λ d. d.0 ≡ place)
    at true = refl
    at false = tt

place_in : (m : Option ℕ) (variables : List Variable) (place : ℕ) (exact : Bool) (o : Option Instr) → IfSome (definition_in m variables place exact o) (λ d. d.0 ≡ place)
place_in m variables place exact None = tt
place_in m variables place exact (Some i) = place_by m variables place i exact (instruction_term i)

-- the places of definitions rise where the uses do
abbrev PlacesRise : ℕ → List reduction.Definition → Type 0
PlacesRise least [] = Unit {0}
PlacesRise least (d ∷ ds) = (least ≤ d.0) × PlacesRise (suc d.0) ds

later : (n k : ℕ) → nat_lt n k ≡ true → suc n ≤ k
later n k e = grind (arith, nat_tests)

places_rise : (f : ℕ → Option reduction.Definition) → ((k : ℕ) → IfSome (f k) (λ d. d.0 ≡ k)) → (last : Option ℕ) (least : ℕ) (uses : List ℕ) → ((k : ℕ) → is_above last k ≡ true → least ≤ k) → rise_after last uses ≡ true → PlacesRise least (filter_map f uses)
places_rise f placed last least [] h e = tt
places_rise f placed last least (n ∷ uses) h e =
    let both = and_parts (is_above last n) (rise_after (Some n) uses) e in
    put (f n) (placed n) (h n both.0)
    (places_rise f placed (Some n) (suc n) uses (λ k above. later n k above) both.1)
    (places_rise f placed (Some n) least uses (λ k above. after n k (h n both.0) (later n k above)) both.1)
  where
    after : (n k : ℕ) → least ≤ n → suc n ≤ k → least ≤ k
    after n k h i = omega arith

    put : (o : Option reduction.Definition) → IfSome o (λ d. d.0 ≡ n) → least ≤ n → PlacesRise (suc n) (filter_map f uses) → PlacesRise least (filter_map f uses) → PlacesRise least (cons_option o (filter_map f uses))
    put None h i after same = same
    put (Some d) h i after same = (omega (arith, h, i), subst (λ k. PlacesRise (suc k) (filter_map f uses)) (sym h) after)

held_rise : {E : Type 0} (value : E → ℤ) (least : ℕ) (xs : List (Defined E)) (ds : List reduction.Definition) → definitions_of value xs ≡ ds → PlacesRise least ds → RiseByPlace least xs
held_rise value least [] ds e h = tt
held_rise value least (x ∷ xs) [] e h = absurd (cc)
held_rise value least (x ∷ xs) (d ∷ ds) e h =
    let first : (x.0, variable_key x.1, terms_of value x.2) ≡ d = cc in
    let same : x.0 ≡ d.0 = ap (λ (y : reduction.Definition). y.0) first in
    let rest : definitions_of value xs ≡ ds = cc in
    (omega (arith, same, h.0), held_rise value (suc x.0) xs ds rest (subst (λ k. PlacesRise (suc k) ds) (sym same) h.1))

pub definitions_rise : {R E : Type 0} (m : Option ℕ) (value : E → ℤ) (p : VersionedProgram) (hyps : List Hyp) (uses : List ℕ) (xs : List (Definition R E)) → definitions_of value (triples_of xs) ≡ filter_map (definition_at m p hyps) uses → numbers_rise uses ≡ true → AreRising (triples_of xs)
definitions_rise m value p hyps uses xs e rise =
    held_rise value 0 (triples_of xs) (filter_map (definition_at m p hyps) uses) e
    (places_rise (definition_at m p hyps) (λ k. place_in m p.variables k (is_assumed hyps k) (instruction_in (slice_get p.lines k))) None 0 uses (λ k above. omega arith) rise)
