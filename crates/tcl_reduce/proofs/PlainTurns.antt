-- One turn of the reduction's loop, and its end.
use Rattle.std.proofs.Common.{◌≡◌, ℕ, zero, suc, min, ◌+◌, ◌^◌, ◌≤◌, refl, sym, ◌∙◌, ap, subst, arith, List, [], ◌∷◌, ◌++◌, length, map, reverse, slice_get, ℤ, Option, Some, None, unwrap_or}
use Rattle.std.proofs.lemmas.List.{reverse-append, map-append, length-map}
use Rattle.tcl_ring.specs.Reduction.{reduced_by, IsModulus}
use Rattle.tcl_poly.specs.Unknown.{variable_key}
use Rattle.tcl_poly.specs.Polynomial.{Polynomial, IsPolynomial, terms_of, norm_of, degree_of, IsOver}
use Rattle.tcl_poly.specs.Combination.{Terms}
use Rattle.tcl_poly.specs.declared.cofactors.Cofactor.{Cofactor}
use Rattle.tcl_reduce.specs.declared.answer.Plain.{Plain}
use Rattle.tcl_reduce.specs.declared.answer.Plain.TheVariants.{Zero, Rest, Wide, Large, Memory}
use Rattle.tcl_reduce.specs.Parts.{top, coefficients}
use Rattle.tcl_reduce.specs.Substitution.{bound_of}
use Rattle.tcl_reduce.specs.Definitions.{Defined, RiseByPlace}
use Rattle.tcl_reduce.specs.Reduction.{Definition, definition_at, Reduced, reduced_at, rest_at, cofactor_at, reduced_from, reduced_of}
use Rattle.tcl_reduce.specs.Remainder.{AreDefinitions, BeginsWith, pairs_of}
use Rattle.tcl_reduce.specs.Answer.{definitions_of, numbered, IsPlain, IsShown}
use Rattle.tcl_reduce.specs.Step.{IsCovered, IsMade}
use Rattle.tcl_reduce.proofs.Stepping.{reduction_saturates}
use Rattle.tcl_reduce.proofs.Remainders.{definition_over, remainder_holds}

no_some : {X : Type 0} (x : X) → None ≡ Some x → ⊥
no_some x e = cc

-- ---- what is read

-- a place is at least the number of its definition
pub later_place : {X E : Type 0} (view : X → Defined E) (least k : ℕ) (xs : List X) (x : X) → RiseByPlace least (map view xs) → slice_get xs k ≡ Some x → least + k ≤ (view x).0
later_place view least k [] x h e = absurd (no_some x e)
later_place view least zero (y ∷ xs) x h e = omega (arith, h.0, ap (λ o. (view (unwrap_or o y)).0) e)
later_place view least (suc k) (y ∷ xs) x h e = omega (arith, h.0, later_place view (suc (view y).0) k xs x h.1 e)

pub definition_read : {E : Type 0} (value : E → ℤ) (xs : List (Defined E)) (k : ℕ) (x : Defined E) → slice_get xs k ≡ Some x → definition_at (definitions_of value xs) k ≡ (x.0, variable_key x.1, terms_of value x.2)
definition_read value [] k x e = absurd (no_some x e)
definition_read value (y ∷ xs) zero x e = ap (λ o. let z = unwrap_or o y in (z.0, variable_key z.1, terms_of value z.2)) e
definition_read value (y ∷ xs) (suc k) x e = definition_read value xs k x e

pub read_over : {E : Type 0} (m : Option ℕ) (value : E → ℤ) (xs : List (Defined E)) (k : ℕ) (x : Defined E) → slice_get xs k ≡ Some x → AreDefinitions (reduced_by m) (definitions_of value xs) → IsOver m value x.2
read_over m value xs k x e h =
    let P : Definition → Type 0 = λ y. IsPolynomial (reduced_by m) y.2 in
    subst P (definition_read value xs k x e) (definition_over (reduced_by m) (definitions_of value xs) k h)

-- ---- the turns

further_of : Option ℕ → List Definition → ℕ → Definition → Polynomial → ℕ → List (ℕ × Polynomial) → Reduced
further_of m defs j y f spent cs = reduced_from m defs j (rest_at m y f) (spent + bound_of y.2 (coefficients y.1 f) (top y.1 f)) ((j, cofactor_at m y f) ∷ cs)

turn_from : (m : Option ℕ) (defs : List Definition) (j k : ℕ) (f : Polynomial) (spent : ℕ) (cs : List (ℕ × Polynomial)) (y : Definition) → k ≡ suc j → definition_at defs j ≡ y → reduced_from m defs k f spent cs ≡ reduced_at m y f spent (top y.1 f) (reduced_from m defs j f spent cs) (further_of m defs j y f spent cs)
unfolding further_of
turn_from m defs j k f spent cs y e s =
    ap (λ n. reduced_from m defs n f spent cs) e
    ∙ ap (λ z. reduced_at m z f spent (top z.1 f) (reduced_from m defs j f spent cs) (further_of m defs j z f spent cs)) s

pub go_same : (m : Option ℕ) (defs : List Definition) (j k : ℕ) (f : Polynomial) (spent : ℕ) (cs : List (ℕ × Polynomial)) (y : Definition) (whole : Reduced) → k ≡ suc j → definition_at defs j ≡ y → ((same further : Reduced) → reduced_at m y f spent (top y.1 f) same further ≡ same) → reduced_from m defs k f spent cs ≡ whole → reduced_from m defs j f spent cs ≡ whole
go_same m defs j k f spent cs y whole e s h w =
    sym (h (reduced_from m defs j f spent cs) (further_of m defs j y f spent cs)) ∙ sym (turn_from m defs j k f spent cs y e s) ∙ w

pub go_end : (m : Option ℕ) (defs : List Definition) (j k : ℕ) (f : Polynomial) (spent : ℕ) (cs : List (ℕ × Polynomial)) (y : Definition) (whole end : Reduced) → k ≡ suc j → definition_at defs j ≡ y → ((same further : Reduced) → reduced_at m y f spent (top y.1 f) same further ≡ end) → reduced_from m defs k f spent cs ≡ whole → whole ≡ end
go_end m defs j k f spent cs y whole end e s h w =
    sym w ∙ turn_from m defs j k f spent cs y e s ∙ h (reduced_from m defs j f spent cs) (further_of m defs j y f spent cs)

pub go_next : (m : Option ℕ) (defs : List Definition) (j k : ℕ) (f : Polynomial) (spent : ℕ) (cs after : List (ℕ × Polynomial)) (y : Definition) (whole : Reduced) (g c : Polynomial) (total : ℕ) → k ≡ suc j → definition_at defs j ≡ y → ((same further : Reduced) → reduced_at m y f spent (top y.1 f) same further ≡ further) → IsMade m y f spent g c total → after ≡ (j, c) ∷ cs → reduced_from m defs k f spent cs ≡ whole → reduced_from m defs j g total after ≡ whole
unfolding further_of
go_next m defs j k f spent cs after y whole g c total e s h made t w =
    let b = bound_of y.2 (coefficients y.1 f) (top y.1 f) in
    let all : after ≡ (j, cofactor_at m y f) ∷ cs = t ∙ ap (λ z. (j, z) ∷ cs) made.cofactor in
    (λ i. reduced_from m defs j (made.rest i) (made.total i) (all i))
    ∙ sym (reduction_saturates m defs j (rest_at m y f) (spent + b) ((j, cofactor_at m y f) ∷ cs))
    ∙ sym (h (reduced_from m defs j f spent cs) (further_of m defs j y f spent cs))
    ∙ sym (turn_from m defs j k f spent cs y e s)
    ∙ w

pub first_covered : (m : Option ℕ) (n spent : ℕ) → spent ≡ min n (2 ^ 127) → IsCovered m n spent
first_covered None n spent e = omega (arith, e)
first_covered (Some m) n spent e = tt

pub go_first : {E : Type 0} (m : Option ℕ) (value : E → ℤ) (xs : List (Defined E)) (k spent : ℕ) (f rest : Polynomial) → k ≡ length xs → rest ≡ f → spent ≡ min (norm_of f) (2 ^ 127) → reduced_from m (definitions_of value xs) k rest spent [] ≡ reduced_of m (definitions_of value xs) f
go_first m value xs k spent f rest e s n =
    let defs = definitions_of value xs in
    let count : k ≡ length defs = e ∙ sym (length-map xs (λ x. (x.0, variable_key x.1, terms_of value x.2))) in
    (λ i. reduced_from m defs (count i) (s i) (n i) []) ∙ sym (reduction_saturates m defs (length defs) f (norm_of f) [])

-- ---- cofactors, from the last to the first

pub cofactor_pushed : {E : Type 0} (value : E → ℤ) (before after : List (ℕ × Terms E)) (k : ℕ) (c : Terms E) → after ≡ before ++ (k, c) ∷ [] → pairs_of value (reverse after) ≡ (k, terms_of value c) ∷ pairs_of value (reverse before)
cofactor_pushed value before after k c e = ap (λ z. pairs_of value (reverse z)) e ∙ ap (pairs_of value) (reverse-append before ((k, c) ∷ []))

pub numbered_reverse : {R E : Type 0} (cs : List (Cofactor R E)) → numbered (reverse cs) ≡ reverse (numbered cs)
numbered_reverse [] = refl
numbered_reverse (c ∷ cs) =
    ap numbered (reverse-append (c ∷ []) cs)
    ∙ map-append (λ x. (x.equation, x.poly)) (reverse cs) (c ∷ [])
    ∙ ap (λ z. z ++ (c.equation, c.poly) ∷ []) (numbered_reverse cs)
    ∙ sym (reverse-append ((c.equation, c.poly) ∷ []) (numbered cs))

-- ---- the end

pub plain_ends : {R E : Type 0} (value : E → ℤ) (end whole : Reduced) (result : Plain R E) → end ≡ whole → IsPlain value end result → IsPlain value whole result
plain_ends value end whole result e h = let P : Reduced → Type 0 = λ o. IsPlain value o result in subst P e h

pub plain_shown : {R E : Type 0} (m : Option ℕ) → IsModulus m → (value : E → ℤ) (defs : List Definition) (f : Polynomial) (equations : List (Terms E)) (result : Plain R E) → AreDefinitions (reduced_by m) defs → IsPolynomial (reduced_by m) f → degree_of f ≤ 1024 → BeginsWith m value defs equations → IsPlain value (reduced_of m defs f) result → IsShown m value equations f result
plain_shown m modulus value defs f equations (Zero cs spent) over h d begins e = remainder_holds m value defs f [] (numbered cs) spent equations modulus over h d begins e
plain_shown m modulus value defs f equations (Rest rest cs spent) over h d begins e = remainder_holds m value defs f (terms_of value rest) (numbered cs) spent equations modulus over h d begins e.1
plain_shown m modulus value defs f equations (Wide at) over h d begins e = tt
plain_shown m modulus value defs f equations (Large what n) over h d begins e = tt
plain_shown m modulus value defs f equations Memory over h d begins e = tt
