-- Lists of definitions with one more at the end.
use Rattle.std.proofs.Common.{◌≡◌, ℕ, suc, ◌<◌, ◌≤◌, refl, sym, ◌∙◌, ap, arith, List, [], ◌∷◌, ◌++◌, length, slice_get, unwrap_or, ℤ, Option, Some}
use Rattle.tcl_ring.specs.Reduction.{reduced_by}
use Rattle.tcl_poly.specs.Polynomial.{IsOver}
use Rattle.tcl_reduce.specs.Definitions.{Defined, RiseByPlace, AreRising}
use Rattle.tcl_reduce.specs.Remainder.{AreDefinitions}
use Rattle.tcl_reduce.specs.Answer.{definitions_of}

-- a later place keeps the places rising
pub rise_pushed : {E : Type 0} (least : ℕ) (xs : List (Defined E)) (x : Defined E) → RiseByPlace least xs → (xs ≡ [] → least ≤ x.0) → ((k : ℕ) (y : Defined E) → length xs ≡ suc k → slice_get xs k ≡ Some y → y.0 < x.0) → RiseByPlace least (xs ++ x ∷ [])
rise_pushed least [] x h first last = (first refl, tt)
rise_pushed least (y ∷ ys) x h first last = (
  h.0,
  rise_pushed (suc y.0) ys x h.1 (λ e. last 0 y (ap (λ zs. suc (length zs)) e) refl) (λ k z l s. last (suc k) z (ap suc l) s),
)

pub definitions_pushed : {E : Type 0} (m : Option ℕ) (value : E → ℤ) (xs : List (Defined E)) (x : Defined E) → AreDefinitions (reduced_by m) (definitions_of value xs) → IsOver m value x.2 → AreDefinitions (reduced_by m) (definitions_of value (xs ++ x ∷ []))
definitions_pushed m value [] x h o = (o, tt)
definitions_pushed m value (y ∷ ys) x h o = (h.0, definitions_pushed m value ys x h.1 o)

some_same : {X : Type 0} (a b : X) → Some a ≡ Some b → a ≡ b
some_same a b e = ap (λ o. unwrap_or o a) e

-- the first definition, and one after a last one of an earlier place
pub first_rises : {E : Type 0} (xs : List (Defined E)) (x : Defined E) → AreRising xs → length xs ≡ 0 → AreRising (xs ++ x ∷ [])
first_rises xs x h n = rise_pushed 0 xs x h (λ e. omega arith) (λ k y l s. absurd (omega (arith, n, l)))

pub later_rises : {E : Type 0} (xs : List (Defined E)) (x z : Defined E) (n : ℕ) → AreRising xs → length xs ≡ suc n → slice_get xs n ≡ Some z → z.0 < x.0 → AreRising (xs ++ x ∷ [])
later_rises xs x z n h l s below =
    rise_pushed 0 xs x h (λ e. omega arith)
    (λ k y m t. let same : n ≡ k = omega (arith, l, m) in
    omega (arith, below, ap (λ w. w.0) (some_same z y (sym s ∙ ap (slice_get xs) same ∙ t))))
