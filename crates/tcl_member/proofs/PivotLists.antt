-- Kept rows by their places.
use Rattle.std.proofs.Common.{◌≡◌, ℕ, zero, suc, ◌<◌, ◌≤◌, refl, sym, ap, subst, arith, List, [], ◌∷◌, length, take, get_or, ℤ, Option}
use Rattle.std.specs.List.{AllByRecursion}
use Rattle.tcl_ring.specs.Reduction.{reduced_by}
use Rattle.tcl_poly.specs.Polynomial.{Polynomial, terms_of, coefficient}
use Rattle.tcl_poly.specs.Combination.{Terms}
use Rattle.tcl_reduce.specs.Row as s
use Rattle.tcl_pivots.specs.declared.row.Pivot.{Pivot}
use Rattle.tcl_pivots.specs.RowState.{pivot_shown, IsSound}
use Rattle.tcl_pivots.specs.Kept.{AreKept}
use Rattle.tcl_pivots.specs.Held.{Held, AreHeld, pivots_shown}
use Rattle.tcl_member.specs.Course.{AreTried}

pub pivot_read : {R E : Type 0} (value : E → ℤ) (ps : List (Pivot R E)) (i : ℕ) (x : Pivot R E) → x ≡ get_or ps i x → i < length ps → pivot_shown value x ≡ get_or (pivots_shown value ps) i (pivot_shown value x)
pivot_read value [] i x e l = absurd (omega (arith, l))
pivot_read value (y ∷ ps) zero x e l = ap (pivot_shown value) e
pivot_read value (y ∷ ps) (suc i) x e l = pivot_read value ps i x e (omega (arith, l))

pub pivots_count : {R E : Type 0} (value : E → ℤ) (ps : List (Pivot R E)) → length (pivots_shown value ps) ≡ length ps
pivots_count value [] = refl
pivots_count value (p ∷ ps) = ap suc (pivots_count value ps)

pub pivots_below : {R E : Type 0} (value : E → ℤ) (ps : List (Pivot R E)) (i : ℕ) → i < length ps → i < length (pivots_shown value ps)
pivots_below value ps i l = omega (arith, l, pivots_count value ps)

take_all : {X : Type 0} (xs : List X) (i : ℕ) → length xs ≤ i → take i xs ≡ xs
take_all [] zero l = refl
take_all [] (suc i) l = refl
take_all (x ∷ xs) zero l = absurd (omega (arith, l))
take_all (x ∷ xs) (suc i) l = ap (λ z. x ∷ z) (take_all xs i (omega (arith, l)))

pub pivots_whole : {R E : Type 0} (value : E → ℤ) (ps : List (Pivot R E)) (i : ℕ) → length ps ≤ i → take i (pivots_shown value ps) ≡ pivots_shown value ps
pivots_whole value ps i l = take_all (pivots_shown value ps) i (omega (arith, l, pivots_count value ps))

pub tried_at : {R E : Type 0} (m : Option ℕ) (es : List Polynomial) (value : E → ℤ) (ps : List (Pivot R E)) (i : ℕ) (x : Pivot R E) → x ≡ get_or ps i x → i < length ps → AreTried m es (pivots_shown value ps) → IsSound m es (pivot_shown value x).row × (terms_of value x.row.poly ≡ [] → ⊥)
tried_at m es value [] i x e l h = absurd (omega (arith, l))
tried_at m es value (y ∷ ps) zero x e l h = subst (λ z. IsSound m es (pivot_shown value z).row × (terms_of value z.row.poly ≡ [] → ⊥)) (sym e) h.0
tried_at m es value (y ∷ ps) (suc i) x e l h = tried_at m es value ps i x e (omega (arith, l)) h.1

pub some_raw : {E : Type 0} (value : E → ℤ) (f : Terms E) → (terms_of value f ≡ [] → ⊥) → f ≡ [] → ⊥
some_raw value f some e = some (ap (terms_of value) e)

-- kept rows can be multiplied
kept_tried : (m : Option ℕ) (es : List Polynomial) (ps : List s.Pivot) → AllByRecursion (λ p. IsSound m es p.row) ps → AreKept (reduced_by m) ps → AreTried m es ps
kept_tried m es [] h i = tt
kept_tried m es (p ∷ ps) h i = ((h.0, λ none. i.0.some (ap (λ z. coefficient z (s.leading p.row.poly)) none)), kept_tried m es ps h.1 i.2)

pub held_tried : {R E : Type 0} (m : Option ℕ) (es : List Polynomial) (value : E → ℤ) (h : Held R E) (ps : List (Pivot R E)) → ps ≡ h.kept → AreHeld m es value h → AreTried m es (pivots_shown value ps)
held_tried m es value h ps same held =
    subst (λ z. AreTried m es (pivots_shown value z)) (sym same) (kept_tried m es (pivots_shown value h.kept) held.sound.0 held.sound.1)
