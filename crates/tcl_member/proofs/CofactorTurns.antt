-- One cofactor more of those that are scaled.
use Rattle.std.proofs.Common.{◌≡◌, ℕ, zero, suc, ◌+◌, ◌*◌, ◌<◌, false, ◌≤◌, refl, sym, ◌∙◌, ap, subst, arith, Bool, ◌||◌, List, [], ◌∷◌, ◌++◌, length, drop, get_or, append_assoc, ℤ, pos, negsuc, Option}
use Rattle.tcl_ring.specs.Reduction.{is_wide}
use Rattle.tcl_poly.specs.Polynomial.{Term, Polynomial, IsOver, number_of, scaled, terms_of, norm_of, degree_of}
use Rattle.tcl_poly.specs.declared.cofactors.Cofactor.{Cofactor}
use Rattle.tcl_poly.specs.Combination.{Terms, equation_at}
use Rattle.tcl_reduce.specs.Answer.{numbered}
use Rattle.tcl_reduce.specs.Remainder.{pairs_of}
use Rattle.tcl_reduce.specs.CofactorSum.{front_cofactor, put_cofactor, scaled_cofactors}
use Rattle.tcl_pivots.specs.CofactorLists.{equations_of}
use Rattle.tcl_pivots.proofs.CofactorSums.{Numbered}
use Rattle.tcl_pivots.proofs.CofactorTurns.{valued, from_place}
use Rattle.tcl_pivots.proofs.CofactorWeights.{equation_values}
use Rattle.tcl_member.specs.EquationRow.{AreBefore, AreHeldBy}
use Rattle.tcl_member.specs.Deep.{is_deep_product, are_deep_products}
use Rattle.tcl_member.specs.Multiplied.{AreMultiplied}
use Rattle.tcl_member.proofs.EquationRows.{AreLess, scaled_less, put_last}

front_joined : (k : ℕ) (p : Polynomial) (cs : Numbered) → front_cofactor k p [] ++ cs ≡ front_cofactor k p cs
front_joined k [] cs = refl
front_joined k (t ∷ p) cs = refl

pub scaled_turn : {R E : Type 0} (r : ℤ → ℤ) (value : E → ℤ) (t : Term) (xs : List (Cofactor R E)) (i : ℕ) (x : Cofactor R E) (done after : Numbered) (q : Polynomial) (whole : Numbered) → x ≡ get_or xs i x → i < length xs → q ≡ scaled r t (terms_of value x.poly) → after ≡ done ++ front_cofactor x.equation q [] → done ++ scaled_cofactors r t (valued value (drop i xs)) ≡ whole → after ++ scaled_cofactors r t (valued value (drop (i + 1) xs)) ≡ whole
scaled_turn r value t xs i x done after q whole e l made pushed so_far =
    let rest = scaled_cofactors r t (valued value (drop (i + 1) xs)) in
    ap (λ z. z ++ rest) pushed
    ∙ append_assoc done (front_cofactor x.equation q []) rest
    ∙ ap (λ z. done ++ z) (front_joined x.equation q rest ∙ ap (λ z. front_cofactor x.equation z rest) made)
    ∙ ap (λ z. done ++ scaled_cofactors r t (valued value z)) (sym (from_place xs i x e l))
    ∙ so_far

pub past_end : {X : Type 0} (xs : List X) (i : ℕ) → length xs ≤ i → drop i xs ≡ []
past_end [] zero h = refl
past_end [] (suc i) h = refl
past_end (x ∷ xs) zero h = absurd (omega (arith, h))
past_end (x ∷ xs) (suc i) h = past_end xs i (omega (arith, h))

append_nothing : {X : Type 0} (xs : List X) → xs ++ [] ≡ xs
append_nothing [] = refl
append_nothing (x ∷ xs) = ap (λ z. x ∷ z) (append_nothing xs)

pub scaled_end : {R E : Type 0} (r : ℤ → ℤ) (value : E → ℤ) (t : Term) (xs : List (Cofactor R E)) (i : ℕ) (done whole : Numbered) → length xs ≤ i → done ++ scaled_cofactors r t (valued value (drop i xs)) ≡ whole → done ≡ whole
scaled_end r value t xs i done whole l so_far =
    sym (ap (λ z. done ++ scaled_cofactors r t (valued value z)) (past_end xs i l) ∙ append_nothing done) ∙ so_far

before_less : {E : Type 0} (value : E → ℤ) (n : ℕ) (cs : List (ℕ × Terms E)) → AreBefore n cs → AreLess n (pairs_of value cs)
before_less value n [] h = tt
before_less value n (c ∷ cs) h = (h.0, before_less value n cs h.1)

-- the cofactor of the equation itself is added last
pub row_end : {R E : Type 0} (r : ℤ → ℤ) (value : E → ℤ) (n : ℕ) (xs : List (Cofactor R E)) (done after : Numbered) (own : Polynomial) → AreBefore n (numbered xs) → done ≡ scaled_cofactors r ([], negsuc 0) (valued value xs) → own ≡ number_of r (pos 1) → after ≡ done ++ front_cofactor n own [] → after ≡ put_cofactor r (n, number_of r (pos 1)) (scaled_cofactors r ([], negsuc 0) (valued value xs))
row_end r value n xs done after own before is one pushed =
    pushed
    ∙ (λ i. is i ++ front_cofactor n (one i) [])
    ∙ sym (put_last r (n, number_of r (pos 1)) (scaled_cofactors r ([], negsuc 0) (valued value xs)) (scaled_less r n ([], negsuc 0) (valued value xs) (before_less value n (numbered xs) before)))

-- ---- what is known of each

held_from : {R E : Type 0} (m : Option ℕ) (value : E → ℤ) (cs : List (Cofactor R E)) (k : ℕ) → AreHeldBy m value (numbered cs) → AreHeldBy m value (numbered (drop k cs))
held_from m value [] zero h = h
held_from m value [] (suc k) h = h
held_from m value (c ∷ cs) zero h = h
held_from m value (c ∷ cs) (suc k) h = held_from m value cs k h.2

pub held_at : {R E : Type 0} (m : Option ℕ) (value : E → ℤ) (cs : List (Cofactor R E)) (k : ℕ) (x : Cofactor R E) → x ≡ get_or cs k x → k < length cs → AreHeldBy m value (numbered cs) → IsOver m value x.poly × (is_wide m (norm_of (terms_of value x.poly)) ≡ false)
held_at m value cs k x e l h =
    let P : List (Cofactor _ _) → Type 0 = λ z. AreHeldBy m value (numbered z) in
    let here : P (x ∷ drop (k + 1) cs) = subst P (from_place cs k x e l) (held_from m value cs k h) in
    (here.0, here.1)

multiplied_from : {R E : Type 0} (m : Option ℕ) (value : E → ℤ) (t : Terms E) (cs : List (Cofactor R E)) (k : ℕ) → AreMultiplied m value t (numbered cs) → AreMultiplied m value t (numbered (drop k cs))
multiplied_from m value t [] zero h = h
multiplied_from m value t [] (suc k) h = h
multiplied_from m value t (c ∷ cs) zero h = h
multiplied_from m value t (c ∷ cs) (suc k) h = multiplied_from m value t cs k h.3

pub multiplied_at : {R E : Type 0} (m : Option ℕ) (value : E → ℤ) (t : Terms E) (cs : List (Cofactor R E)) (k : ℕ) (x : Cofactor R E) → x ≡ get_or cs k x → k < length cs → AreMultiplied m value t (numbered cs) → IsOver m value x.poly × (degree_of t + degree_of x.poly ≤ 1024) × (is_wide m (norm_of (terms_of value t) * norm_of (terms_of value x.poly)) ≡ false)
multiplied_at m value t cs k x e l h =
    let P : List (Cofactor _ _) → Type 0 = λ z. AreMultiplied m value t (numbered z) in
    let here : P (x ∷ drop (k + 1) cs) = subst P (from_place cs k x e l) (multiplied_from m value t cs k h) in
    (here.0, here.1, here.2)

-- ---- degrees by places

pub deep_turn : {R E : Type 0} (value : E → ℤ) (equations : List (Terms E)) (d : ℕ) (xs : List (Cofactor R E)) (k : ℕ) (x : Cofactor R E) (q : Terms E) (pair deep : Bool) → x ≡ get_or xs k x → k < length xs → q ≡ equation_at equations x.equation → pair ≡ is_deep_product d (terms_of value x.poly) (terms_of value q) → deep ≡ are_deep_products (equations_of value equations) d (valued value (drop (k + 1) xs)) → (pair || deep) ≡ are_deep_products (equations_of value equations) d (valued value (drop k xs))
deep_turn value equations d xs k x q pair deep e l f g h =
    let es = equations_of value equations in
    let same : terms_of value q ≡ equation_at es x.equation = ap (terms_of value) f ∙ sym (equation_values value equations x.equation) in
    let first = g ∙ ap (is_deep_product d (terms_of value x.poly)) same in
    (λ i. first i || h i) ∙ sym (ap (λ z. are_deep_products es d (valued value z)) (from_place xs k x e l))

pub deep_read : {R E : Type 0} (value : E → ℤ) (es : List Polynomial) (d n : ℕ) (xs ys : List (Cofactor R E)) (result b : Bool) → xs ≡ ys → d ≡ n → result ≡ are_deep_products es d (valued value xs) → result ≡ b → are_deep_products es n (valued value ys) ≡ b
deep_read value es d n xs ys result b same degree is known =
    (λ i. are_deep_products es (sym degree i) (valued value (sym same i))) ∙ sym is ∙ known
