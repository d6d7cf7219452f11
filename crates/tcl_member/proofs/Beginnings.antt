-- What is known of equations before a search, and of the claim.
use Rattle.std.proofs.Common.{◌≡◌, ℕ, zero, suc, ◌+◌, ◌-◌, ◌<◌, ◌≤◌, refl, sym, ◌∙◌, ap, subst, arith, false, List, [], ◌∷◌, length, get_or, ℤ, pos, negsuc, Option, Some, None}
use Rattle.std.specs.Prelude.{◌==◌, if◌then◌else◌, unsigned_abs, slice_get, slice_index_or}
use Rattle.std.specs.List.{AllByRecursion}
use Rattle.tcl_ring.specs.Reduction.{IsModulus, reduced_by}
use Rattle.tcl_ring.proofs.Reductions.{is_reduction}
use Rattle.tcl_poly.specs.Polynomial.{Polynomial, IsPolynomial, IsOver, terms_of, norm_of, degree_of, coefficient, scaled, number_of}
use Rattle.tcl_poly.specs.declared.cofactors.Cofactor.{Cofactor}
use Rattle.tcl_poly.specs.Monomial.{Monomial}
use Rattle.tcl_poly.specs.Combination.{Terms, equation_at, AreOver}
use Rattle.tcl_poly.proofs.TermLists.{terms_itself, degree_of_values}
use Rattle.tcl_reduce.specs.Definitions.{Defined}
use Rattle.tcl_reduce.specs.Answer.{definitions_of, numbered}
use Rattle.tcl_reduce.specs.Equated.{Equated, AreShallow, AreEquations}
use Rattle.tcl_reduce.specs.Reduction.{Definition, reduced_of}
use Rattle.tcl_reduce.specs.Reduction.Reduced.{Done}
use Rattle.tcl_reduce.specs.Remainder.{AreDefinitions, BeginsWith, pairs_of}
use Rattle.tcl_reduce.proofs.Remainders.{reductions_keep}
use Rattle.tcl_reduce.specs.CofactorSum.{put_cofactor, scaled_cofactors, are_wide}
use Rattle.tcl_reduce.specs.Multiple.{multiplied}
use Rattle.tcl_reduce.specs.Row as s
use Rattle.tcl_pivots.specs.CofactorLists.{equations_of}
use Rattle.tcl_pivots.specs.RowState.{IsSound}
use Rattle.tcl_pivots.specs.RowLaws.{AreLow}
use Rattle.tcl_pivots.specs.Held.{Held, AreHeld, AreSound, AreSorted, pivots_shown}
use Rattle.tcl_pivots.specs.Aim.{IsAimed}
use Rattle.tcl_pivots.proofs.Trying.{IsOverEnd, reduced_over, equation_over}
use Rattle.tcl_pivots.proofs.CofactorWeights.{equation_values}
use Rattle.tcl_member.specs.Fit.{AreFit, AreKnown}
use Rattle.tcl_member.specs.EquationRow.{AreBefore, AreHeldBy}
use Rattle.tcl_member.proofs.Spending.{reduced_fit, reduced_below, reduced_shallow}
use Rattle.tcl_member.proofs.EquationRows.{rise_less, some_counted, row_is_sound}
use Rattle.tcl_member.proofs.Holding.{equation_shown, equations_count, low_at, rise_before, held_by}

-- ---- equations

over_all : {E : Type 0} (m : Option ℕ) (value : E → ℤ) (es : List (Terms E)) → AreOver m value es → AllByRecursion (IsPolynomial (reduced_by m)) (equations_of value es)
over_all m value [] h = tt
over_all m value (e ∷ es) h = (h.0, over_all m value es h.1)

low_all : {E : Type 0} (value : E → ℤ) (es : List (Terms E)) → AreShallow es → AreLow (equations_of value es)
low_all value [] h = tt
low_all value (e ∷ es) h = (omega (arith, h.0, degree_of_values value e), low_all value es h.1)

begins_all : {E : Type 0} (m : Option ℕ) (value : E → ℤ) (defs : List Definition) (es : List (Terms E)) → BeginsWith m value defs es → BeginsWith m (λ n. n) defs (equations_of value es)
begins_all m value defs es h k l = (
  omega (arith, (h k l).0, equations_count value es),
  terms_itself (equation_at (equations_of value es) k) ∙ equation_values value es k ∙ (h k l).1,
)

pub definitions_count : {E : Type 0} (value : E → ℤ) (xs : List (Defined E)) → length (definitions_of value xs) ≡ length xs
definitions_count value [] = refl
definitions_count value (x ∷ xs) = ap suc (definitions_count value xs)

pub known_of : {R E : Type 0} (m : Option ℕ) (value : E → ℤ) (q : Equated R E) → AreEquations m value q → AreFit m (equations_of value q.list) (length q.defs) → AreKnown m value q.defs q.list
known_of m value q h fit = record {
  over = over_all m value q.list h.over;
  low = low_all value q.list h.shallow;
  definitions = h.definitions;
  begins = begins_all m value (definitions_of value q.defs) q.list h.begins;
  fit = subst (AreFit m (equations_of value q.list)) (sym (definitions_count value q.defs)) fit;
}

-- ---- what plain reduction leaves

over_end : (m : Option ℕ) → IsModulus m → (defs : List Definition) (f rest : Polynomial) (cs : List (ℕ × Polynomial)) (spent : ℕ) → AreDefinitions (reduced_by m) defs → IsPolynomial (reduced_by m) f → reduced_of m defs f ≡ Done rest cs spent → IsPolynomial (reduced_by m) rest
over_end m modulus defs f rest cs spent d h is =
    subst (IsOverEnd (reduced_by m)) is (reduced_over m (is_reduction m modulus) defs (length defs) f (norm_of f) [] d h)

pub aimed_first : {E : Type 0} (m : Option ℕ) → IsModulus m → (value : E → ℤ) (defs : List (Defined E)) (list : List (Terms E)) (claim rest : Polynomial) (cs : List (ℕ × Polynomial)) (spent : ℕ) → AreKnown m value defs list → IsPolynomial (reduced_by m) claim → degree_of claim ≤ 1024 → reduced_of m (definitions_of value defs) claim ≡ Done rest cs spent → IsAimed m (equations_of value list) claim (record { poly = rest; cofactors = cs; noted = false })
aimed_first m modulus value defs list claim rest cs spent known over shallow is =
    let xs = definitions_of value defs in let es = equations_of value list in
    let rise = reduced_below m modulus es xs claim rest cs spent known.definitions known.begins over shallow is in
    record {
      sound = record {
        over = over_end m modulus xs claim rest cs spent known.definitions over is;
        shown = reductions_keep m xs claim rest cs spent es modulus known.definitions over shallow known.begins is;
        counted = some_counted m es (length xs) cs known.fit.some (rise_less 0 (length xs) (length xs) cs (omega arith) rise);
      };
      fits = reduced_fit m es xs claim rest cs spent known.begins is;
    }

pub rest_shallow : {E : Type 0} (m : Option ℕ) → IsModulus m → (value : E → ℤ) (defs : List (Defined E)) (list : List (Terms E)) (claim rest : Polynomial) (cs : List (ℕ × Polynomial)) (spent : ℕ) → AreKnown m value defs list → IsPolynomial (reduced_by m) claim → degree_of claim ≤ 1024 → reduced_of m (definitions_of value defs) claim ≡ Done rest cs spent → degree_of rest ≤ 1024
rest_shallow m modulus value defs list claim rest cs spent known over shallow is =
    reduced_shallow m modulus (equations_of value list) (definitions_of value defs) claim rest cs spent known.definitions known.begins over shallow is

-- ---- the row of an equation

pub equation_is_over : {E : Type 0} (m : Option ℕ) (value : E → ℤ) (defs : List (Defined E)) (list : List (Terms E)) (number : ℕ) (e : Terms E) → AreKnown m value defs list → e ≡ get_or list number e → number < length list → IsOver m value e
equation_is_over m value defs list number e known is l =
    subst (IsPolynomial (reduced_by m)) (equation_shown value list number e is l) (equation_over (reduced_by m) (equations_of value list) number known.over)

pub equation_is_low : {E : Type 0} (m : Option ℕ) (value : E → ℤ) (defs : List (Defined E)) (list : List (Terms E)) (number : ℕ) (e : Terms E) → AreKnown m value defs list → e ≡ get_or list number e → number < length list → degree_of e ≤ 1024
equation_is_low m value defs list number e known is l =
    omega (arith, low_at (equations_of value list) number known.low, ap (λ z. degree_of z) (equation_shown value list number e is l), degree_of_values value e)

pub cofactors_before : {E : Type 0} (m : Option ℕ) → IsModulus m → (value : E → ℤ) (defs : List (Defined E)) (list : List (Terms E)) (number : ℕ) (e : Terms E) (rest : Polynomial) (cs : List (ℕ × Terms E)) (spent : ℕ) → AreKnown m value defs list → e ≡ get_or list number e → number < length list → length defs ≤ number → reduced_of m (definitions_of value defs) (terms_of value e) ≡ Done rest (pairs_of value cs) spent → AreBefore number cs
cofactors_before m modulus value defs list number e rest cs spent known is l after end =
    rise_before value 0 (length (definitions_of value defs)) number cs (omega (arith, after, definitions_count value defs))
    (reduced_below m modulus (equations_of value list) (definitions_of value defs) (terms_of value e) rest (pairs_of value cs) spent known.definitions known.begins (equation_is_over m value defs list number e known is l) (omega (arith, equation_is_low m value defs list number e known is l, degree_of_values value e)) end)

pub cofactors_held : {E : Type 0} (m : Option ℕ) → IsModulus m → (value : E → ℤ) (defs : List (Defined E)) (list : List (Terms E)) (number : ℕ) (e : Terms E) (rest : Polynomial) (cs : List (ℕ × Terms E)) (spent : ℕ) → AreKnown m value defs list → e ≡ get_or list number e → number < length list → reduced_of m (definitions_of value defs) (terms_of value e) ≡ Done rest (pairs_of value cs) spent → AreHeldBy m value cs
cofactors_held m modulus value defs list number e rest cs spent known is l end =
    let es = equations_of value list in let xs = definitions_of value defs in
    let over = equation_is_over m value defs list number e known is l in
    let low : degree_of (terms_of value e) ≤ 1024 = omega (arith, equation_is_low m value defs list number e known is l, degree_of_values value e) in
    let keeps = reductions_keep m xs (terms_of value e) rest (pairs_of value cs) spent es modulus known.definitions over low known.begins end in
    let rise = reduced_below m modulus es xs (terms_of value e) rest (pairs_of value cs) spent known.definitions known.begins over low end in
    held_by m value es cs known.over keeps.fit (some_counted m es (length xs) (pairs_of value cs) known.fit.some (rise_less 0 (length xs) (length xs) (pairs_of value cs) (omega arith) rise)) keeps.narrow

pub row_known : {E : Type 0} (m : Option ℕ) → IsModulus m → (value : E → ℤ) (defs : List (Defined E)) (list : List (Terms E)) (number place : ℕ) (e : Terms E) (rest : Polynomial) (cs : List (ℕ × Polynomial)) (spent : ℕ) → AreKnown m value defs list → e ≡ get_or list number e → number < length list → length defs ≤ number → reduced_of m (definitions_of value defs) (terms_of value e) ≡ Done rest cs spent → (rest ≡ [] → ⊥) → IsSound m (equations_of value list) (s.row_of (reduced_by m) number place rest cs)
row_known m modulus value defs list number place e rest cs spent known is l after end some =
    let es = equations_of value list in let xs = definitions_of value defs in
    let same = equation_shown value list number e is l in
    let end' : reduced_of m xs (equation_at es number) ≡ Done rest cs spent = ap (reduced_of m xs) same ∙ end in
    row_is_sound m modulus es xs number place rest cs spent known.over known.definitions known.begins known.fit.narrow known.fit.some
    (omega (arith, l, equations_count value list)) (omega (arith, after, definitions_count value defs))
    (equation_over (reduced_by m) es number known.over) (low_at es number known.low)
    (over_end m modulus xs (equation_at es number) rest cs spent known.definitions (equation_over (reduced_by m) es number known.over) end') end' some

-- ---- an equation's row added

-- of a row without terms nothing is kept
row_by_nothing : (m : Option ℕ) (es : List Polynomial) (ps : List s.Pivot) (a : s.Row) → a.poly ≡ [] → s.row_by m es ps a ≡ Some a
row_by_nothing m es [] a none = refl
row_by_nothing m es (p ∷ ps) a none =
    ap (λ z. if unsigned_abs (coefficient z (s.leading p.row.poly)) == 0 then s.row_by m es ps a else (if are_wide m es 0 (s.row_less (reduced_by m) a p).cofactors then None else s.row_by m es ps (s.row_less (reduced_by m) a p))) none
    ∙ row_by_nothing m es ps a none

pub nothing_added : (m : Option ℕ) (es : List Polynomial) (number place : ℕ) (cs : List (ℕ × Polynomial)) (spent : ℕ) (rows : s.Rows) → s.add_plain m es number place (Done [] cs spent) rows ≡ rows
nothing_added m es number place cs spent rows =
    ap (λ z. s.add_reduced m place z rows) (row_by_nothing m es (s.by_leading rows.kept) (s.row_of (reduced_by m) number place [] cs) refl)

-- notes do not change what is known
pub held_noted : {R E : Type 0} (m : Option ℕ) (es : List Polynomial) (value : E → ℤ) (h k : Held R E) → h.kept ≡ k.kept → h.order ≡ k.order → AreHeld m es value h → AreHeld m es value k
held_noted m es value h k kept order held =
    record {
      sound = subst (λ z. AreSound m es (pivots_shown value z)) kept held.sound;
      sorted = subst (λ z. AreSorted (pivots_shown value k.kept) z) order (subst (λ z. AreSorted (pivots_shown value z) h.order) kept held.sorted);
    }

-- ---- the rows of the first equations

some_same : (x y : ℕ) → Some x ≡ Some y → x ≡ y
some_same x y e = ap (λ o. elim o [ Some z ↦ z | None ↦ x ]) e

read_place : (ps : List ℕ) (k x : ℕ) → slice_get ps k ≡ Some x → slice_index_or ps k 0 ≡ x
read_place [] zero x e = absurd (clash e) where
  clash : None ≡ Some x → ⊥
  clash z = cc
read_place [] (suc k) x e = absurd (clash e) where
  clash : None ≡ Some x → ⊥
  clash z = cc
read_place (p ∷ ps) zero x e = some_same p x e
read_place (p ∷ ps) (suc k) x e = read_place ps k x e

pub rows_next : {E : Type 0} (m : Option ℕ) (value : E → ℤ) (defs : List (Defined E)) (es : List Polynomial) (places : List ℕ) (number place : ℕ) (rows after : s.Rows) → length defs ≤ number → slice_get places number ≡ Some place → rows ≡ s.rows_to m (definitions_of value defs) es places (number - length defs) → after ≡ s.add_plain m es number place (reduced_of m (definitions_of value defs) (equation_at es number)) rows → after ≡ s.rows_to m (definitions_of value defs) es places (number + 1 - length defs)
rows_next m value defs es places number place rows after l read so_far added =
    let xs = definitions_of value defs in
    let k = number - length defs in
    let same : number ≡ length xs + k = omega (arith, l, definitions_count value defs) in
    let next : suc k ≡ number + 1 - length defs = omega (arith, l) in
    added
    ∙ (λ i. s.add_plain m es number (sym (read_place places number place read) i) (reduced_of m xs (equation_at es number)) (so_far i))
    ∙ ap (λ n. s.add_plain m es n (slice_index_or places n 0) (reduced_of m xs (equation_at es n)) (s.rows_to m xs es places k)) same
    ∙ ap (s.rows_to m xs es places) next

-- ---- as the code gives them

pub before_same : {R E : Type 0} (n : ℕ) (xs ys : List (Cofactor R E)) → xs ≡ ys → AreBefore n (numbered ys) → AreBefore n (numbered xs)
before_same n xs ys e h = subst (λ z. AreBefore n (numbered z)) (sym e) h

pub held_same : {R E : Type 0} (m : Option ℕ) (value : E → ℤ) (xs ys : List (Cofactor R E)) → xs ≡ ys → AreHeldBy m value (numbered ys) → AreHeldBy m value (numbered xs)
held_same m value xs ys e h = subst (λ z. AreHeldBy m value (numbered z)) (sym e) h

pub some_terms : {E : Type 0} (value : E → ℤ) (f : Terms E) → (f ≡ [] → ⊥) → terms_of value f ≡ [] → ⊥
some_terms value [] some e = some refl
some_terms value (t ∷ f) some e = cc

pub row_shows : (r : ℤ → ℤ) (number place : ℕ) (rest : Polynomial) (made from cs : List (ℕ × Polynomial)) → made ≡ put_cofactor r (number, number_of r (pos 1)) (scaled_cofactors r ([], negsuc 0) from) → from ≡ cs → (let row : s.Row = record { poly = rest; cofactors = made; place = place } in row) ≡ s.row_of r number place rest cs
row_shows r number place rest made from cs is same =
    let all = is ∙ ap (λ z. put_cofactor r (number, number_of r (pos 1)) (scaled_cofactors r ([], negsuc 0) z)) same in
    λ i. record { poly = rest; cofactors = all i; place = place }

-- a product as it is made
pub product_shows : (r : ℤ → ℤ) (n : Monomial) (a : s.Row) (poly : Polynomial) (made from : List (ℕ × Polynomial)) → poly ≡ scaled r (n, r (pos 1)) a.poly → made ≡ scaled_cofactors r (n, r (pos 1)) from → from ≡ a.cofactors → (let row : s.Row = record { poly = poly; cofactors = made; place = a.place } in row) ≡ multiplied r n a
product_shows r n a poly made from is also same =
    let all = also ∙ ap (scaled_cofactors r (n, r (pos 1))) same in
    λ i. record { poly = is i; cofactors = all i; place = a.place }

-- the definitions' equations come first
pub defined_before : {E : Type 0} (m : Option ℕ) (value : E → ℤ) (defs : List (Defined E)) (list : List (Terms E)) → AreKnown m value defs list → length defs ≤ length list
defined_before m value defs list known = omega (arith, all (length (definitions_of value defs)) (omega arith), definitions_count value defs, equations_count value list) where
  all : (n : ℕ) → n ≤ length (definitions_of value defs) → n ≤ length (equations_of value list)
  all zero h = omega arith
  all (suc k) h = (known.begins k (omega (arith, h))).0
