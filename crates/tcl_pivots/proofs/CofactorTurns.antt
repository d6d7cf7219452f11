-- One turn of the sum of cofactors with a multiple of others, by places in both lists.
use Rattle.std.proofs.Common.{◌≡◌, ℕ, zero, suc, ◌+◌, ◌<◌, ◌≤◌, refl, sym, ◌∙◌, ap, subst, arith, List, [], ◌∷◌, ◌++◌, length, drop, get_or, drop-cons, add-one, true, false, ℤ, Option, Ordering, Less, Equal, Greater}
use Rattle.std.specs.Ordering.{nat_cmp, MatchOrdering}
use Rattle.std.proofs.lemmas.Cmp.{ranked}
use Rattle.tcl_ring.specs.Reduction.{IsReduction}
use Rattle.tcl_poly.specs.Polynomial.{Polynomial, IsPolynomial, terms_of, sum_of, scaled, has_wide}
use Rattle.tcl_poly.specs.declared.cofactors.Cofactor.{Cofactor}
use Rattle.tcl_poly.proofs.FactorLists.{past_end}
use Rattle.tcl_reduce.specs.Answer.{numbered}
use Rattle.tcl_reduce.specs.Remainder.{pairs_of}
use Rattle.tcl_reduce.specs.CofactorSum.{front_cofactor}
use Rattle.tcl_pivots.specs.CofactorLists.{AreOrdered, any_wide, first_number}
use Rattle.tcl_pivots.proofs.CofactorSums.{Numbered, AreAbove, ordered_above, left_of, left_first, left_second, left_both, joined_front, wide_next, narrow_next}

-- the cofactors with their coefficients' values
abbrev pub valued : {R E : Type 0} → (E → ℤ) → List (Cofactor R E) → Numbered
valued value cs = pairs_of value (numbered cs)

abbrev pub value_at : {R E : Type 0} → (E → ℤ) → Cofactor R E → ℕ × Polynomial
value_at value c = (c.equation, terms_of value c.poly)

pub from_place : {X : Type 0} (xs : List X) (k : ℕ) (x : X) → x ≡ get_or xs k x → k < length xs → drop k xs ≡ x ∷ drop (k + 1) xs
from_place xs k x e h = drop-cons xs k x h ∙ (let back = sym e in let next = sym (add-one k) in λ i. back i ∷ drop (next i) xs)

ordered_from : {R E : Type 0} (r : ℤ → ℤ) (value : E → ℤ) (least : ℕ) (cs : List (Cofactor R E)) (k : ℕ) → AreOrdered r least (valued value cs) → AreOrdered r least (valued value (drop k cs))
ordered_from r value least [] zero h = h
ordered_from r value least [] (suc k) h = h
ordered_from r value least (c ∷ cs) zero h = h
ordered_from r value least (c ∷ cs) (suc k) h = ordered_from r value least cs k (lower (valued value cs) h.2) where
  lower : (ds : Numbered) → AreOrdered r (suc c.equation) ds → AreOrdered r least ds
  lower [] i = tt
  lower (d ∷ ds) i = (omega (arith, h.0, i.0), i.1, i.2)

-- ---- whose number is next

after_less : {R E : Type 0} (r : ℤ → ℤ) (value : E → ℤ) (x : Cofactor R E) (b : List (Cofactor R E)) (a : List (Cofactor R E)) → Less ≡ first_number (numbered (x ∷ a)) (numbered b) → AreOrdered r 0 (valued value b) → AreAbove x.equation (valued value b)
after_less r value x [] a e h = tt
after_less r value x (y ∷ b) a e h =
    let less : x.equation < y.equation = (let P : Ordering → Type 0 = λ o. MatchOrdering o (x.equation < y.equation) (x.equation ≡ y.equation) (y.equation < x.equation) in subst P (sym e) (ranked x.equation y.equation (nat_cmp x.equation y.equation) refl)) in
    (less, ordered_above r x.equation (suc y.equation) (valued value b) (omega (arith, less)) h.2)

after_greater : {R E : Type 0} (r : ℤ → ℤ) (value : E → ℤ) (y : Cofactor R E) (a : List (Cofactor R E)) (b : List (Cofactor R E)) → Greater ≡ first_number (numbered a) (numbered (y ∷ b)) → AreOrdered r 0 (valued value a) → AreAbove y.equation (valued value a)
after_greater r value y [] b e h = tt
after_greater r value y (x ∷ a) b e h =
    let less : y.equation < x.equation = (let P : Ordering → Type 0 = λ o. MatchOrdering o (x.equation < y.equation) (x.equation ≡ y.equation) (y.equation < x.equation) in subst P (sym e) (ranked x.equation y.equation (nat_cmp x.equation y.equation) refl)) in
    (less, ordered_above r y.equation (suc x.equation) (valued value a) (omega (arith, less)) h.2)

same_number : {R E : Type 0} (x y : Cofactor R E) (a b : List (Cofactor R E)) → Equal ≡ first_number (numbered (x ∷ a)) (numbered (y ∷ b)) → x.equation ≡ y.equation
same_number x y a b e = let P : Ordering → Type 0 = λ o. MatchOrdering o (x.equation < y.equation) (x.equation ≡ y.equation) (y.equation < x.equation) in subst P (sym e) (ranked x.equation y.equation (nat_cmp x.equation y.equation) refl)

-- ---- the turns

pub turn_first : {R E : Type 0} (r : ℤ → ℤ) → IsReduction r → (value : E → ℤ) (k : ℤ) (a b : List (Cofactor R E)) (i j : ℕ) (x : Cofactor R E) → x ≡ get_or a i x → i < length a → AreOrdered r 0 (valued value a) → AreOrdered r 0 (valued value b) → Less ≡ first_number (numbered (drop i a)) (numbered (drop j b)) → left_of r k (valued value (drop i a)) (valued value (drop j b)) ≡ front_cofactor x.equation (sum_of r (terms_of value x.poly) (scaled r ([], k) [])) (left_of r k (valued value (drop (i + 1) a)) (valued value (drop j b)))
turn_first r ring value k a b i j x e l h m o =
    let y = from_place a i x e l in
    let P : List (Cofactor _ _) → Type 0 = λ z. AreOrdered r 0 (valued value z) in
    let here : P (x ∷ drop (i + 1) a) = subst P y (ordered_from r value 0 a i h) in
    let less = after_less r value x (drop j b) (drop (i + 1) a) (o ∙ ap (λ z. first_number (numbered z) (numbered (drop j b))) y) (ordered_from r value 0 b j m) in
    ap (λ z. left_of r k (valued value z) (valued value (drop j b))) y
    ∙ left_first r ring k (value_at value x) (valued value (drop (i + 1) a)) (valued value (drop j b)) here.1 (ordered_above r x.equation (suc x.equation) (valued value (drop (i + 1) a)) (omega arith) here.2) less

pub turn_second : {R E : Type 0} (r : ℤ → ℤ) (value : E → ℤ) (k : ℤ) (a b : List (Cofactor R E)) (i j : ℕ) (y : Cofactor R E) → y ≡ get_or b j y → j < length b → AreOrdered r 0 (valued value a) → Greater ≡ first_number (numbered (drop i a)) (numbered (drop j b)) → left_of r k (valued value (drop i a)) (valued value (drop j b)) ≡ front_cofactor y.equation (sum_of r [] (scaled r ([], k) (terms_of value y.poly))) (left_of r k (valued value (drop i a)) (valued value (drop (j + 1) b)))
turn_second r value k a b i j y e l h o =
    let z = from_place b j y e l in
    let less = after_greater r value y (drop i a) (drop (j + 1) b) (o ∙ ap (λ w. first_number (numbered (drop i a)) (numbered w)) z) (ordered_from r value 0 a i h) in
    ap (λ w. left_of r k (valued value (drop i a)) (valued value w)) z
    ∙ left_second r k (value_at value y) (valued value (drop i a)) (valued value (drop (j + 1) b)) less

pub turn_both : {R E : Type 0} (r : ℤ → ℤ) → IsReduction r → (value : E → ℤ) (k : ℤ) (a b : List (Cofactor R E)) (i j : ℕ) (x y : Cofactor R E) → x ≡ get_or a i x → y ≡ get_or b j y → i < length a → j < length b → AreOrdered r 0 (valued value a) → AreOrdered r 0 (valued value b) → Equal ≡ first_number (numbered (drop i a)) (numbered (drop j b)) → left_of r k (valued value (drop i a)) (valued value (drop j b)) ≡ front_cofactor y.equation (sum_of r (terms_of value x.poly) (scaled r ([], k) (terms_of value y.poly))) (left_of r k (valued value (drop (i + 1) a)) (valued value (drop (j + 1) b)))
turn_both r ring value k a b i j x y e f l n h m o =
    let u = from_place a i x e l in let w = from_place b j y f n in
    let P : List (Cofactor _ _) → Type 0 = λ z. AreOrdered r 0 (valued value z) in
    let first : P (x ∷ drop (i + 1) a) = subst P u (ordered_from r value 0 a i h) in
    let second : P (y ∷ drop (j + 1) b) = subst P w (ordered_from r value 0 b j m) in
    let same = same_number x y (drop (i + 1) a) (drop (j + 1) b) (o ∙ (λ s. first_number (numbered (u s)) (numbered (w s)))) in
    (λ s. left_of r k (valued value (u s)) (valued value (w s)))
    ∙ left_both r ring k (value_at value x) (value_at value y) (valued value (drop (i + 1) a)) (valued value (drop (j + 1) b)) first.1 same
    (ordered_above r y.equation (suc x.equation) (valued value (drop (i + 1) a)) (omega (arith, same)) first.2)
    (ordered_above r y.equation (suc y.equation) (valued value (drop (j + 1) b)) (omega arith) second.2)

-- a cofactor that was read is over the ring
pub read_over : {R E : Type 0} (r : ℤ → ℤ) (value : E → ℤ) (xs : List (Cofactor R E)) (k : ℕ) (x : Cofactor R E) → x ≡ get_or xs k x → k < length xs → AreOrdered r 0 (valued value xs) → IsPolynomial r (terms_of value x.poly)
read_over r value xs k x e l h =
    let P : List (Cofactor _ _) → Type 0 = λ z. AreOrdered r 0 (valued value z) in
    let here : P (x ∷ drop (k + 1) xs) = subst P (from_place xs k x e l) (ordered_from r value 0 xs k h) in here.1

pub nothing_left : {R E : Type 0} (r : ℤ → ℤ) (value : E → ℤ) (k : ℤ) (a b : List (Cofactor R E)) (i j : ℕ) → length a ≤ i → length b ≤ j → left_of r k (valued value (drop i a)) (valued value (drop j b)) ≡ []
nothing_left r value k a b i j h l = λ s. left_of r k (valued value (past_end a i h s)) (valued value (past_end b j l s))

-- the second list has ended
some_left : {R E : Type 0} (a : List (Cofactor R E)) (i : ℕ) → i < length a → Less ≡ first_number (numbered (drop i a)) (numbered {R = R} {E = E} [])
some_left [] i h = absurd (omega (arith, h))
some_left (x ∷ a) zero h = refl
some_left (x ∷ a) (suc i) h = some_left a i (omega (arith, h))

pub second_ended : {R E : Type 0} (a b : List (Cofactor R E)) (i j : ℕ) → i < length a → length b ≤ j → Less ≡ first_number (numbered (drop i a)) (numbered (drop j b))
second_ended a b i j h l = some_left a i h ∙ ap (λ z. first_number (numbered (drop i a)) (numbered z)) (sym (past_end b j l))

-- ---- what a turn keeps

pub pushed_turn : (m : Option ℕ) (done after : Numbered) (n : ℕ) (p q : Polynomial) (rest whole total : Numbered) → p ≡ q → after ≡ done ++ front_cofactor n p [] → has_wide m p ≡ false → whole ≡ front_cofactor n q rest → any_wide m done ≡ false → done ++ whole ≡ total → (after ++ rest ≡ total) × (any_wide m after ≡ false)
pushed_turn m done after n p q rest whole total same pushed narrow next before is =
    let made = pushed ∙ ap (λ z. done ++ front_cofactor n z []) same in (
      joined_front done after n q rest whole made next ∙ is,
      narrow_next m done after n q (sym (ap (has_wide m) same) ∙ narrow) made before,
    )

pub wide_turn : (m : Option ℕ) (done : Numbered) (n : ℕ) (p q : Polynomial) (rest whole total : Numbered) → p ≡ q → has_wide m p ≡ true → whole ≡ front_cofactor n q rest → done ++ whole ≡ total → any_wide m total ≡ true
wide_turn m done n p q rest whole total same wide next is =
    ap (any_wide m) (sym is) ∙ wide_next m done whole rest n q (sym (ap (has_wide m) same) ∙ wide) next
