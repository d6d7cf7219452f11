-- Equations that are added one after another.
use Rattle.std.proofs.Common.{◌≡◌, ℕ, sym, ◌∙◌, ap, ℤ, List, [], ◌∷◌, ◌++◌, map}
use Rattle.std.proofs.lemmas.List.{append_assoc, map-append}
use Rattle.tcl_poly.specs.Polynomial.{Polynomial, terms_of}
use Rattle.tcl_poly.specs.Combination.{Terms}
use Rattle.tcl_algebra.specs.Equations.{Placed, places_of, polynomials_of}
use Rattle.tcl_algebra.specs.Held.{IsAdded}

pub added_one : {E : Type 0} (value : E → ℤ) (before after : List (Terms E)) (old new : List ℕ) (place : ℕ) (p : Terms E) (q : Polynomial) → after ≡ before ++ p ∷ [] → new ≡ old ++ place ∷ [] → terms_of value p ≡ q → IsAdded value before after old new ((place, q) ∷ [])
added_one value before after old new place p q e f g = record {
  list = ap (map (terms_of value)) e ∙ map-append (terms_of value) before (p ∷ []) ∙ ap (λ x. map (terms_of value) before ++ x ∷ []) g;
  places = f;
}

pub added_then : {E : Type 0} (value : E → ℤ) (a b c : List (Terms E)) (i j k : List ℕ) (es fs : List Placed) → IsAdded value a b i j es → IsAdded value b c j k fs → IsAdded value a c i k (es ++ fs)
added_then value a b c i j k es fs h g = record {
  list =
      g.list ∙ ap (λ ps. ps ++ polynomials_of fs) h.list
      ∙ append_assoc (map (terms_of value) a) (polynomials_of es) (polynomials_of fs)
      ∙ ap (λ ps. map (terms_of value) a ++ ps) (sym (map-append (λ (e : Placed). e.1) es fs));
  places = g.places ∙ ap (λ ks. ks ++ places_of fs) h.places ∙ append_assoc i (places_of es) (places_of fs) ∙ ap (λ ks. i ++ ks) (sym (map-append (λ (e : Placed). e.0) es fs));
}

pub added_as : {E : Type 0} (value : E → ℤ) (before after : List (Terms E)) (old new : List ℕ) (es fs : List Placed) → es ≡ fs → IsAdded value before after old new es → IsAdded value before after old new fs
added_as value before after old new es fs e h = record {
  list = h.list ∙ ap (λ gs. map (terms_of value) before ++ polynomials_of gs) e;
  places = h.places ∙ ap (λ gs. old ++ places_of gs) e;
}
