-- One turn of each loop over cofactors and their lines, and what holds of the lists.
use Rattle.std.proofs.Common.{◌≡◌, ℕ, suc, ◌+◌, ◌<◌, ◌≤◌, ◌^◌, nat_lt, nat_le, refl, sym, ◌∙◌, ap, subst, arith, Bool, true, List, [], ◌∷◌, ◌++◌, length, drop, get_or, map, append_assoc, append-nil, ℤ, Option}
use Rattle.std.proofs.lemmas.Bool.{and_parts, and_from, lt-ltb}
use Rattle.std.proofs.lemmas.Bool.Decides.{nat_tests}
use Rattle.tcl_goals.specs.Numbers.{numbers_rise}
use Rattle.tcl_ring.specs.Reduction.{reduced_by}
use Rattle.tcl_poly.specs.declared.cofactors.Cofactor.{Cofactor}
use Rattle.tcl_poly.specs.Polynomial.{Polynomial, terms_of, degree_of, IsOver}
use Rattle.tcl_poly.specs.Combination.{Terms, equation_at, AreCofactors}
use Rattle.tcl_poly.proofs.FactorLists.{past_end}
use Rattle.tcl_poly.proofs.TermLists.{degree_of_values}
use Rattle.tcl_remainder.specs.declared.lines.CofactorLine.{CofactorLine}
use Rattle.tcl_remainder.specs.Terms.{polynomial_of, is_plain}
use Rattle.tcl_remainder.specs.Lines.{are_rising, numbered, valued, AreOver, cofactors_of, line_of, lines_of, are_narrow, is_fitting, are_fitting, all_plain, are_plain}
use Rattle.tcl_remainder.proofs.RoundTrip.{polynomial_back}
use Rattle.tcl_remainder.proofs.Turns.{from_item}

-- ---- lines that fit

line_narrow : {E : Type 0} (r : ℤ → ℤ) (equations : List (Terms E)) (l : CofactorLine) → is_fitting r equations l ≡ true → nat_lt (degree_of (polynomial_of r l.cofactor)) (2 ^ 32) ≡ true
line_narrow r equations l e =
    let cofactor = degree_of (polynomial_of r l.cofactor) in
    let equation = degree_of (equation_at equations l.equation) in
    let parts = and_parts (nat_lt l.equation (length equations)) (nat_le (cofactor + equation) 1024) e in
    let sum : cofactor + equation ≤ 1024 = grind (arith, nat_tests, parts.1) in
    lt-ltb cofactor (2 ^ 32) (omega (arith, sum))

pub fitting_narrow : {E : Type 0} (r : ℤ → ℤ) (equations : List (Terms E)) (lines : List CofactorLine) → are_fitting r equations lines ≡ true → are_narrow r lines ≡ true
fitting_narrow r equations [] e = refl
fitting_narrow r equations (l ∷ lines) e =
    let parts = and_parts (is_fitting r equations l) (are_fitting r equations lines) e in
    and_from (nat_lt (degree_of (polynomial_of r l.cofactor)) (2 ^ 32)) (are_narrow r lines) (line_narrow r equations l parts.0) (fitting_narrow r equations lines parts.1)

pub fitting_ended : {E : Type 0} (r : ℤ → ℤ) (equations : List (Terms E)) (lines : List CofactorLine) (k : ℕ) (whole : Bool) → length lines ≤ k → are_fitting r equations (drop k lines) ≡ whole → whole ≡ true
fitting_ended r equations lines k whole h i = sym i ∙ ap (are_fitting r equations) (past_end lines k h)

-- ---- from lines to cofactors

pub line_at : (r : ℤ → ℤ) (lines : List CofactorLine) (k : ℕ) (line : CofactorLine) → line ≡ get_or lines k line → k < length lines → are_narrow r (drop k lines) ≡ true → (degree_of (polynomial_of r line.cofactor) < 2 ^ 32) × (are_narrow r (drop (k + 1) lines) ≡ true)
line_at r lines k line e h i =
    let parts = and_parts (nat_lt (degree_of (polynomial_of r line.cofactor)) (2 ^ 32)) (are_narrow r (drop (k + 1) lines)) (ap (are_narrow r) (sym (from_item lines k line e h)) ∙ i) in
    (grind (arith, nat_tests, parts.0), parts.1)

valued_append : {R E : Type 0} (value : E → ℤ) (cs : List (Cofactor R E)) (c : Cofactor R E) → valued value (numbered (cs ++ c ∷ [])) ≡ valued value (numbered cs) ++ (c.equation, terms_of value c.poly) ∷ []
valued_append value [] c = refl
valued_append value (d ∷ cs) c = ap (λ xs. (d.equation, terms_of value d.poly) ∷ xs) (valued_append value cs c)

over_append : {R E : Type 0} (m : Option ℕ) (value : E → ℤ) (cs : List (Cofactor R E)) (c : Cofactor R E) → AreOver m value (numbered cs) → IsOver m value c.poly → AreOver m value (numbered (cs ++ c ∷ []))
over_append m value [] c h i = (i, tt)
over_append m value (d ∷ cs) c h i = (h.0, over_append m value cs c h.1 i)

pub over_more : {R E : Type 0} (m : Option ℕ) (value : E → ℤ) (done after : List (Cofactor R E)) (c : Cofactor R E) → after ≡ done ++ c ∷ [] → AreOver m value (numbered done) → IsOver m value c.poly → AreOver m value (numbered after)
over_more {R} {E} m value done after c pushed h i =
    let P : List (Cofactor R E) → Type 0 = λ x. AreOver m value (numbered x) in
    subst P (sym pushed) (over_append m value done c h i)

pub cofactor_more : {R E : Type 0} (r : ℤ → ℤ) (value : E → ℤ) (lines : List CofactorLine) (k : ℕ) (line : CofactorLine) (done after : List (Cofactor R E)) (c : Cofactor R E) (whole : List (ℕ × Polynomial)) → line ≡ get_or lines k line → k < length lines → c.equation ≡ line.equation → terms_of value c.poly ≡ polynomial_of r line.cofactor → after ≡ done ++ c ∷ [] → valued value (numbered done) ++ cofactors_of r (drop k lines) ≡ whole → valued value (numbered after) ++ cofactors_of r (drop (k + 1) lines) ≡ whole
cofactor_more r value lines k line done after c whole e h number poly pushed i =
    let rest = cofactors_of r (drop (k + 1) lines) in
    ap (λ x. valued value (numbered x) ++ rest) pushed
    ∙ ap (λ x. x ++ rest) (valued_append value done c)
    ∙ append_assoc (valued value (numbered done)) ((c.equation, terms_of value c.poly) ∷ []) rest
    ∙ (λ j. valued value (numbered done) ++ (number j, poly j) ∷ rest)
    ∙ ap (λ x. valued value (numbered done) ++ cofactors_of r x) (sym (from_item lines k line e h))
    ∙ i

-- at the end the cofactors made are all
pub cofactors_ended : (r : ℤ → ℤ) (lines : List CofactorLine) (k : ℕ) (done whole : List (ℕ × Polynomial)) → length lines ≤ k → done ++ cofactors_of r (drop k lines) ≡ whole → done ≡ whole
cofactors_ended r lines k done whole h i = sym (append-nil done) ∙ ap (λ x. done ++ cofactors_of r x) (sym (past_end lines k h)) ∙ i

-- cofactors of lines that fit are what the comparison asks for
first_line : {E : Type 0} (m : Option ℕ) (value : E → ℤ) (equations : List (Terms E)) (c : ℕ × Terms E) (l : CofactorLine) → c.0 ≡ l.equation → terms_of value c.1 ≡ polynomial_of (reduced_by m) l.cofactor → is_fitting (reduced_by m) equations l ≡ true → (c.0 < length equations) × (degree_of c.1 + degree_of (equation_at equations c.0) ≤ 1024)
first_line m value equations c l number same fits =
    let cofactor = degree_of (polynomial_of (reduced_by m) l.cofactor) in
    let equation = degree_of (equation_at equations l.equation) in
    let parts = and_parts (nat_lt l.equation (length equations)) (nat_le (cofactor + equation) 1024) fits in
    let below : l.equation < length equations = grind (arith, nat_tests, parts.0) in
    let sum : cofactor + equation ≤ 1024 = grind (arith, nat_tests, parts.1) in
    let degree : degree_of (terms_of value c.1) ≡ cofactor = ap degree_of same in
    let here : degree_of (equation_at equations c.0) ≡ equation = ap (λ k. degree_of (equation_at equations k)) number in
    (omega (arith, number, below), omega (arith, sum, degree, here, degree_of_values value c.1))

abbrev first_of : List (ℕ × Polynomial) → ℕ × Polynomial
first_of cs = get_or cs 0 (0, [])

pub cofactors_fit : {E : Type 0} (m : Option ℕ) (value : E → ℤ) (equations : List (Terms E)) (cs : List (ℕ × Terms E)) (lines : List CofactorLine) → valued value cs ≡ cofactors_of (reduced_by m) lines → AreOver m value cs → are_fitting (reduced_by m) equations lines ≡ true → AreCofactors m value equations cs
cofactors_fit m value equations [] lines e over fits = tt
cofactors_fit m value equations (c ∷ cs) [] e over fits = absurd (let n : suc (length (valued value cs)) ≡ 0 = ap length e in omega (arith, n))
cofactors_fit m value equations (c ∷ cs) (l ∷ lines) e over fits =
    let parts = and_parts (is_fitting (reduced_by m) equations l) (are_fitting (reduced_by m) equations lines) fits in
    let number : c.0 ≡ l.equation = ap (λ xs. (first_of xs).0) e in
    let same : terms_of value c.1 ≡ polynomial_of (reduced_by m) l.cofactor = ap (λ xs. (first_of xs).1) e in
    let tail : valued value cs ≡ cofactors_of (reduced_by m) lines = ap (drop 1) e in
    let first = first_line m value equations c l number same parts.0 in
    (first.0, over.0, first.1, cofactors_fit m value equations cs lines tail over.1 parts.1)

-- ---- from cofactors to lines

-- at the end the lines made are all
pub lines_ended : {R E : Type 0} (value : E → ℤ) (items cofactors : List (Cofactor R E)) (k : ℕ) (done whole : List CofactorLine) → items ≡ cofactors → length items ≤ k → done ++ lines_of (valued value (numbered (drop k cofactors))) ≡ whole → done ≡ whole
lines_ended value items cofactors k done whole same h i =
    sym (append-nil done) ∙ ap (λ x. done ++ lines_of (valued value (numbered x))) (sym (past_end items k h) ∙ ap (drop k) same) ∙ i

-- the numbers of the lines, and their polynomials, are those of the cofactors
numbers_same : (cs : List (ℕ × Polynomial)) → map (λ l. l.equation) (lines_of cs) ≡ map (λ c. c.0) cs
numbers_same [] = refl
numbers_same (c ∷ cs) = ap (λ x. c.0 ∷ x) (numbers_same cs)

pub lines_rise : (cs : List (ℕ × Polynomial)) → are_plain cs ≡ true → are_rising (lines_of cs) ≡ true
lines_rise cs e = ap numbers_rise (numbers_same cs) ∙ (and_parts (numbers_rise (map (λ c. c.0) cs)) (all_plain cs) e).0

pub lines_plain : (cs : List (ℕ × Polynomial)) → are_plain cs ≡ true → all_plain cs ≡ true
lines_plain cs e = (and_parts (numbers_rise (map (λ c. c.0) cs)) (all_plain cs) e).1

pub lines_back : {E : Type 0} (m : Option ℕ) (value : E → ℤ) (cs : List (ℕ × Terms E)) → AreOver m value cs → all_plain (valued value cs) ≡ true → cofactors_of (reduced_by m) (lines_of (valued value cs)) ≡ valued value cs
lines_back m value [] over plain = refl
lines_back m value (c ∷ cs) over plain =
    let parts = and_parts (is_plain (terms_of value c.1)) (all_plain (valued value cs)) plain in
    let first = polynomial_back (reduced_by m) (terms_of value c.1) over.0 parts.0 in
    let rest = lines_back m value cs over.1 parts.1 in
    λ i. (c.0, first i) ∷ rest i

-- what the comparison asks for is over the ring, and its lines fit
pub cofactors_over : {E : Type 0} (m : Option ℕ) (value : E → ℤ) (equations : List (Terms E)) (cs : List (ℕ × Terms E)) → AreCofactors m value equations cs → AreOver m value cs
cofactors_over m value equations [] h = tt
cofactors_over m value equations (c ∷ cs) h = (h.1, cofactors_over m value equations cs h.3)

pub lines_fit : {E : Type 0} (m : Option ℕ) (value : E → ℤ) (equations : List (Terms E)) (cs : List (ℕ × Terms E)) → all_plain (valued value cs) ≡ true → AreCofactors m value equations cs → are_fitting (reduced_by m) equations (lines_of (valued value cs)) ≡ true
lines_fit m value equations [] plain h = refl
lines_fit m value equations (c ∷ cs) plain h =
    let parts = and_parts (is_plain (terms_of value c.1)) (all_plain (valued value cs)) plain in
    let line = line_of (c.0, terms_of value c.1) in
    let cofactor = degree_of (polynomial_of (reduced_by m) line.cofactor) in
    let equation = degree_of (equation_at equations c.0) in
    let same : cofactor ≡ degree_of c.1 = ap degree_of (polynomial_back (reduced_by m) (terms_of value c.1) h.1 parts.0) ∙ degree_of_values value c.1 in
    let sum : cofactor + equation ≤ 1024 = omega (arith, same, h.2) in
    let low : nat_le (cofactor + equation) 1024 ≡ true = grind (arith, nat_tests, sum) in
    and_from (is_fitting (reduced_by m) equations line) (are_fitting (reduced_by m) equations (lines_of (valued value cs)))
    (and_from (nat_lt c.0 (length equations)) (nat_le (cofactor + equation) 1024) (lt-ltb c.0 (length equations) h.0) low)
    (lines_fit m value equations cs parts.1 h.3)
