-- Equations that are added one by one still begin with those of the definitions.
use Rattle.std.proofs.Common.{◌≡◌, ℕ, ◌-◌, ◌<◌, ◌≤◌, refl, sym, ◌∙◌, ap, subst, arith, List, [], ◌∷◌, ◌++◌, length, get_or, ℤ, Option, Ordering, Less, Equal, Greater}
use Rattle.std.specs.Ordering.{nat_cmp, MatchOrdering}
use Rattle.std.proofs.lemmas.Cmp.{ranked}
use Rattle.std.proofs.lemmas.List.{get_or_append_left, get_or-append_right, length-append, length-map, map-append}
use Rattle.tcl_ring.specs.Reduction.{reduced_by}
use Rattle.tcl_poly.specs.Unknown.{variable_key}
use Rattle.tcl_poly.specs.Polynomial.{IsOver, terms_of, degree_of}
use Rattle.tcl_poly.specs.Combination.{Terms, AreOver, equation_at}
use Rattle.tcl_reduce.specs.Definitions.{Defined}
use Rattle.tcl_reduce.specs.Reduction.{Definition, definition_at, equation_of}
use Rattle.tcl_reduce.specs.Answer.{definitions_of}
use Rattle.tcl_reduce.specs.Remainder.{BeginsWith}
use Rattle.tcl_reduce.specs.Equated.{AreShallow}
use Rattle.tcl_reduce.proofs.DefinitionLists.{definitions_pushed}
use Rattle.tests_member.specs.Begun.{AreBegun, AreDefined}

-- what holds below a place, at it and above it
by_place : (P : Type 0) (j k : ℕ) → (j < k → P) → (j ≡ k → P) → (k < j → P) → P
by_place P j k f g h = at (nat_cmp j k) (ranked j k (nat_cmp j k) refl) where
  at : (o : Ordering) → MatchOrdering o (j < k) (j ≡ k) (k < j) → P
  at Less s = f s
  at Equal s = g s
  at Greater s = h s

over_pushed : {E : Type 0} (m : Option ℕ) (value : E → ℤ) (list : List (Terms E)) (e : Terms E) → AreOver m value list → IsOver m value e → AreOver m value (list ++ e ∷ [])
over_pushed m value [] e h o = (o, tt)
over_pushed m value (x ∷ list) e h o = (h.0, over_pushed m value list e h.1 o)

shallow_pushed : {E : Type 0} (list : List (Terms E)) (e : Terms E) → AreShallow list → degree_of e ≤ 1024 → AreShallow (list ++ e ∷ [])
shallow_pushed [] e h d = (d, tt)
shallow_pushed (x ∷ list) e h d = (h.0, shallow_pushed list e h.1 d)

-- the equation of a number that there was before
same_equation : {E : Type 0} (list : List (Terms E)) (e : Terms E) (k : ℕ) → k < length list → equation_at (list ++ e ∷ []) k ≡ equation_at list k
same_equation list e k h = get_or_append_left list (e ∷ []) [] k h

last_equation : {E : Type 0} (list : List (Terms E)) (e : Terms E) (k : ℕ) → k ≡ length list → equation_at (list ++ e ∷ []) k ≡ e
last_equation list e k h =
    get_or-append_right list (e ∷ []) (length list) k [] refl (omega (arith, h)) ∙ ap (λ n. get_or (e ∷ []) n []) (let z : k - length list ≡ 0 = omega (arith, h) in z)

begins_longer : {E : Type 0} (m : Option ℕ) (value : E → ℤ) (defs : List Definition) (list : List (Terms E)) (e : Terms E) → BeginsWith m value defs list → BeginsWith m value defs (list ++ e ∷ [])
begins_longer m value defs list e h k l =
    let there = (h k l).0 in (
      omega (arith, there, length-append list (e ∷ [])),
      ap (terms_of value) (same_equation list e k there) ∙ (h k l).1,
    )

pub equation_pushed : {E : Type 0} (m : Option ℕ) (value : E → ℤ) (defs : List (Defined E)) (list : List (Terms E)) (e : Terms E) → AreBegun m value defs list → IsOver m value e → degree_of e ≤ 1024 → AreBegun m value defs (list ++ e ∷ [])
equation_pushed m value defs list e h o d = record {
  over = over_pushed m value list e h.over o;
  shallow = shallow_pushed list e h.shallow d;
  definitions = h.definitions;
  begins = begins_longer m value (definitions_of value defs) list e h.begins;
}

last_definition : (ds : List Definition) (d : Definition) (k : ℕ) → k ≡ length ds → definition_at (ds ++ d ∷ []) k ≡ d
last_definition ds d k h =
    get_or-append_right ds (d ∷ []) (length ds) k (0, 0, []) refl (omega (arith, h)) ∙ ap (λ n. get_or (d ∷ []) n (0, 0, [])) (let e : k - length ds ≡ 0 = omega (arith, h) in e)

-- one definition and its equation more
begins_next : {E : Type 0} (m : Option ℕ) (value : E → ℤ) (ds : List Definition) (d : Definition) (list : List (Terms E)) (e : Terms E) → length ds ≡ length list → BeginsWith m value ds list → terms_of value e ≡ equation_of (reduced_by m) d → BeginsWith m value (ds ++ d ∷ []) (list ++ e ∷ [])
begins_next m value ds d list e same h is k l =
    let inside : k < length (list ++ e ∷ []) = omega (arith, l, same, length-append list (e ∷ []), length-append ds (d ∷ [])) in
    by_place ((k < length (list ++ e ∷ [])) × (terms_of value (equation_at (list ++ e ∷ []) k) ≡ equation_of (reduced_by m) (definition_at (ds ++ d ∷ []) k))) k (length ds)
    (λ before. (
      inside,
      ap (terms_of value) (same_equation list e k (h k before).0) ∙ (h k before).1
          ∙ ap (equation_of (reduced_by m)) (sym (get_or_append_left ds (d ∷ []) (0, 0, []) k before)),
    ))
    (λ last. (
      inside,
      ap (terms_of value) (last_equation list e k (last ∙ same)) ∙ is ∙ ap (equation_of (reduced_by m)) (sym (last_definition ds d k last)),
    ))
    (λ after. absurd (omega (arith, after, l, length-append ds (d ∷ []))))

pub definition_pushed : {E : Type 0} (m : Option ℕ) (value : E → ℤ) (defs : List (Defined E)) (x : Defined E) (list : List (Terms E)) (e : Terms E) → AreDefined m value defs list → IsOver m value x.2 → IsOver m value e → degree_of e ≤ 1024 → terms_of value e ≡ equation_of (reduced_by m) (x.0, variable_key x.1, terms_of value x.2) → AreDefined m value (defs ++ x ∷ []) (list ++ e ∷ [])
definition_pushed m value defs x list e h over o d is =
    let show : Defined _ → Definition = λ y. (y.0, variable_key y.1, terms_of value y.2) in
    let ds = definitions_of value defs in
    let same : length ds ≡ length list = length-map defs show ∙ h.alone in
    let begins = begins_next m value ds (show x) list e same h.begun.begins is in
    let P : List Definition → Type 0 = λ z. BeginsWith m value z (list ++ e ∷ []) in
    record {
      begun = record {
        over = over_pushed m value list e h.begun.over o;
        shallow = shallow_pushed list e h.begun.shallow d;
        definitions = definitions_pushed m value defs x h.begun.definitions over;
        begins = subst P (sym (map-append show defs (x ∷ []))) begins;
      };
      alone = omega (arith, h.alone, length-append defs (x ∷ []), length-append list (e ∷ []));
    }
