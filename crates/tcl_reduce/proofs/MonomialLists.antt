-- Monomials and lists of terms by places: what a loop over them reads.
use Rattle.std.proofs.Common.{◌≡◌, ℕ, zero, suc, ◌+◌, ◌≤◌, ◌==◌, refl, sym, ◌∙◌, ap, subst, arith, Bool, true, false, if◌then◌else◌, [], ◌∷◌, ◌++◌, drop, slice_get, append_assoc, add-one, eq-eqb, Some, None, unwrap_or}
use Rattle.std.proofs.lemmas.Bool.{ne_eqb}
use Rattle.tcl_poly.specs.Monomial.{Monomial, exponent, degree, IsMonomialFrom, IsMonomial}
use Rattle.tcl_poly.proofs.MonomialLaws.{weaker, exponent_first}
use Rattle.tcl_poly.proofs.FactorLists.{degree_append}
use Rattle.tcl_reduce.specs.Parts.{without}
use Rattle.tcl_reduce.proofs.PartLemmas.{without_is, degree_without}

no_some : {X : Type 0} (x : X) → None ≡ Some x → ⊥
no_some x e = cc

-- the factors from place k on begin with the factor at k
pub factor_from : (m : Monomial) (k : ℕ) (f : ℕ × ℕ) → slice_get m k ≡ Some f → drop k m ≡ f ∷ drop (suc k) m
factor_from [] k f e = absurd (no_some f e)
factor_from (g ∷ m) zero f e = ap (λ o. unwrap_or o g ∷ m) e
factor_from (g ∷ m) (suc k) f e = factor_from m k f e

-- the factors from place k on are a monomial
pub monomial_from : (j k : ℕ) (m : Monomial) → IsMonomialFrom j m → IsMonomialFrom j (drop k m)
monomial_from j zero m h = h
monomial_from j (suc k) [] h = tt
monomial_from j (suc k) (f ∷ m) h = weaker j (suc f.0) (drop k m) (omega (arith, h.0)) (monomial_from (suc f.0) k m h.2)

pub exponent_found : (m : Monomial) (k v : ℕ) (f : ℕ × ℕ) → IsMonomial m → slice_get m k ≡ Some f → f.0 ≡ v → exponent (drop k m) v ≡ exponent m v → f.1 ≡ exponent m v
exponent_found m k v f i e s h =
    let from = factor_from m k f e in
    let P : Monomial → Type 0 = λ n. IsMonomial n in
    sym (exponent_first 0 f (drop (suc k) m) (subst P from (monomial_from 0 k m i)))
    ∙ ap (exponent (f ∷ drop (suc k) m)) s
    ∙ sym (ap (λ n. exponent n v) from)
    ∙ h

other_key : (t : Bool) (e : ℕ) → t ≡ false → (if t then e else 0) ≡ 0
other_key t e h = ap (λ b. if b then e else 0) h

pub exponent_further : (m : Monomial) (k v : ℕ) (f : ℕ × ℕ) → slice_get m k ≡ Some f → (f.0 ≡ v → ⊥) → exponent (drop k m) v ≡ exponent m v → exponent (drop (k + 1) m) v ≡ exponent m v
exponent_further m k v f e n h =
    omega (arith, h, ap (λ x. exponent x v) (factor_from m k f e), other_key (f.0 == v) f.1 (ne_eqb f.0 v n), ap (λ j. exponent (drop j m) v) (add-one k))

-- ---- what is left without an unknown

keep_at : (b : Bool) (f : ℕ × ℕ) (m : Monomial) → b ≡ false → (if b then m else f ∷ m) ≡ f ∷ m
keep_at b f m e = ap (λ x. if x then m else f ∷ m) e

leave_at : (b : Bool) (f : ℕ × ℕ) (m : Monomial) → b ≡ true → (if b then m else f ∷ m) ≡ m
leave_at b f m e = ap (λ x. if x then m else f ∷ m) e

without_kept : (m : Monomial) (k v : ℕ) (f : ℕ × ℕ) → slice_get m k ≡ Some f → (f.0 ≡ v → ⊥) → without v (drop k m) ≡ f ∷ without v (drop (k + 1) m)
without_kept m k v f e n =
    ap (without v) (factor_from m k f e)
    ∙ keep_at (f.0 == v) f (without v (drop (suc k) m)) (ne_eqb f.0 v n)
    ∙ ap (λ j. f ∷ without v (drop j m)) (sym (add-one k))

without_left : (m : Monomial) (k v : ℕ) (f : ℕ × ℕ) → slice_get m k ≡ Some f → f.0 ≡ v → without v (drop k m) ≡ without v (drop (k + 1) m)
without_left m k v f e s =
    ap (without v) (factor_from m k f e)
    ∙ leave_at (f.0 == v) f (without v (drop (suc k) m)) (eq-eqb f.0 v s)
    ∙ ap (λ j. without v (drop j m)) (sym (add-one k))

pub without_pushed : (m made new : Monomial) (k v : ℕ) (f : ℕ × ℕ) → slice_get m k ≡ Some f → (f.0 ≡ v → ⊥) → made ++ without v (drop k m) ≡ without v m → new ≡ made ++ f ∷ [] → new ++ without v (drop (k + 1) m) ≡ without v m
without_pushed m made new k v f e n h s =
    ap (λ x. x ++ without v (drop (k + 1) m)) s
    ∙ append_assoc made (f ∷ []) (without v (drop (k + 1) m))
    ∙ ap (λ x. made ++ x) (sym (without_kept m k v f e n))
    ∙ h

pub without_passed : (m made new : Monomial) (k v : ℕ) (f : ℕ × ℕ) → slice_get m k ≡ Some f → f.0 ≡ v → made ++ without v (drop k m) ≡ without v m → new ≡ made → new ++ without v (drop (k + 1) m) ≡ without v m
without_passed m made new k v f e s h same = (λ i. same i ++ sym (without_left m k v f e s) i) ∙ h

front_monomial : (j : ℕ) (a b : Monomial) → IsMonomialFrom j (a ++ b) → IsMonomialFrom j a
front_monomial j [] b h = tt
front_monomial j (f ∷ a) b h = (h.0, h.1, front_monomial (suc f.0) a b h.2)

pushed_whole : (m made : Monomial) (k v : ℕ) (f : ℕ × ℕ) → slice_get m k ≡ Some f → (f.0 ≡ v → ⊥) → made ++ without v (drop k m) ≡ without v m → (made ++ f ∷ []) ++ without v (drop (k + 1) m) ≡ without v m
pushed_whole m made k v f e n h = without_pushed m made (made ++ f ∷ []) k v f e n h refl

pub pushed_monomial : (m made : Monomial) (k v : ℕ) (f : ℕ × ℕ) → IsMonomial m → slice_get m k ≡ Some f → (f.0 ≡ v → ⊥) → made ++ without v (drop k m) ≡ without v m → IsMonomial (made ++ f ∷ [])
pushed_monomial m made k v f i e n h =
    let P : Monomial → Type 0 = λ n. IsMonomial n in
    front_monomial 0 (made ++ f ∷ []) (without v (drop (k + 1) m)) (subst P (sym (pushed_whole m made k v f e n h)) (without_is 0 v m i))

pub pushed_degree : (m made : Monomial) (k v : ℕ) (f : ℕ × ℕ) → slice_get m k ≡ Some f → (f.0 ≡ v → ⊥) → made ++ without v (drop k m) ≡ without v m → degree made + f.1 ≤ degree m
pushed_degree m made k v f e n h =
    omega (arith, ap degree (pushed_whole m made k v f e n h), degree_append (made ++ f ∷ []) (without v (drop (k + 1) m)), degree_append made (f ∷ []), degree_without v m)
