-- One turn of each loop over powers, factors, summands and terms.
use Rattle.std.proofs.Common.{◌≡◌, ℕ, zero, suc, ◌+◌, ◌-◌, ◌<◌, ◌≤◌, min, ◌^◌, refl, sym, ◌∙◌, ap, subst, arith, Bool, true, false, ◌&&◌, List, [], ◌∷◌, ◌++◌, length, drop, get_or, append_assoc, append-nil, drop-cons, add-one, ℤ, pos, negsuc, Some}
use Rattle.std.specs.List.{slice_get}
use Rattle.std.proofs.lemmas.Int.{ints}
use Rattle.std.proofs.lemmas.Option.{slice_get_within, get_or_from_slice_get}
use Rattle.tcl_goals.specs.declared.remainder.Name.TheVariants.{Var}
use Rattle.tcl_goals.specs.declared.remainder.Power.{Power}
use Rattle.tcl_goals.specs.declared.remainder.Summand.{Summand}
use Rattle.tcl_goals.specs.Remainder as plain
use Rattle.tcl_poly.specs.Monomial.{Monomial, IsMonomialFrom, IsMonomial, degree}
use Rattle.tcl_poly.specs.Polynomial.{Polynomial, front, degree_of, terms_of}
use Rattle.tcl_poly.proofs.FactorLists.{degree_append, past_end}
use Rattle.tcl_poly.proofs.Degrees.{IsWithin}
use Rattle.tcl_remainder.specs.Names.{monomial_key, has_name}
use Rattle.tcl_remainder.specs.Terms.{factor_of, monomial_of, polynomial_of, power_of, powers_of, summands_of, has_names}
use Rattle.tcl_remainder.proofs.Orders.{powers_monomial, first_summand, further_summands}

-- the items from place k on begin with the item at k
from_place : {X : Type 0} (xs : List X) (k : ℕ) (x : X) → slice_get xs k ≡ Some x → drop k xs ≡ x ∷ drop (k + 1) xs
from_place xs k x e =
    let next : suc k ≡ k + 1 = omega arith in
    drop-cons xs k x (slice_get_within xs k x e) ∙ ap (λ t. t ∷ drop (suc k) xs) (get_or_from_slice_get xs k x x e) ∙ ap (λ n. x ∷ drop n xs) next

pub from_item : {X : Type 0} (xs : List X) (k : ℕ) (x : X) → x ≡ get_or xs k x → k < length xs → drop k xs ≡ x ∷ drop (k + 1) xs
from_item xs k x e h = drop-cons xs k x h ∙ ap (λ n. get_or xs k x ∷ drop n xs) (sym (add-one k)) ∙ ap (λ t. t ∷ drop (k + 1) xs) (sym e)

-- ---- unknowns with names

pub names_more : (m : Monomial) (k : ℕ) (f : ℕ × ℕ) (whole : Bool) → slice_get m k ≡ Some f → has_name f.0 ≡ true → has_names (drop k m) ≡ whole → has_names (drop (k + 1) m) ≡ whole
names_more m k f whole e named i = ap (λ b. b && has_names (drop (k + 1) m)) (sym named) ∙ ap has_names (sym (from_place m k f e)) ∙ i

pub names_end : (m : Monomial) (k : ℕ) (f : ℕ × ℕ) (whole : Bool) → slice_get m k ≡ Some f → has_name f.0 ≡ false → has_names (drop k m) ≡ whole → false ≡ whole
names_end m k f whole e named i = ap (λ b. b && has_names (drop (k + 1) m)) (sym named) ∙ ap has_names (sym (from_place m k f e)) ∙ i

-- ---- powers and factors

pub powers_more : (m : Monomial) (k : ℕ) (f : ℕ × ℕ) (a : Power) (done after whole : List Power) → slice_get m k ≡ Some f → a ≡ power_of f → after ≡ done ++ a ∷ [] → done ++ powers_of (drop k m) ≡ whole → after ++ powers_of (drop (k + 1) m) ≡ whole
powers_more m k f a done after whole e same pushed i =
    let rest = powers_of (drop (k + 1) m) in
    ap (λ x. x ++ rest) pushed
    ∙ append_assoc done (a ∷ []) rest
    ∙ ap (λ x. done ++ x ∷ rest) same
    ∙ ap (λ x. done ++ powers_of x) (sym (from_place m k f e))
    ∙ i

-- any power, for the reading past the end
abbrev pub spare : Power
spare = record { name = Var 0; exponent = 0 }

powers_from : (powers : List Power) (k : ℕ) → k < length powers → monomial_of (drop k powers) ≡ factor_of (get_or powers k spare) ∷ monomial_of (drop (k + 1) powers)
powers_from powers k h = ap monomial_of (drop-cons powers k spare h ∙ ap (λ n. get_or powers k spare ∷ drop n powers) (sym (add-one k)))

front_monomial : (k : ℕ) (m n : Monomial) (f : ℕ × ℕ) → IsMonomialFrom k (m ++ f ∷ n) → IsMonomialFrom k (m ++ f ∷ [])
front_monomial k [] n f h = (h.0, h.1, tt)
front_monomial k (g ∷ m) n f h = (h.0, h.1, front_monomial (suc g.0) m n f h.2)

whole_monomial : (powers : List Power) (k : ℕ) (m : Monomial) → k < length powers → m ++ monomial_of (drop k powers) ≡ monomial_of powers → m ++ factor_of (get_or powers k spare) ∷ monomial_of (drop (k + 1) powers) ≡ monomial_of powers
whole_monomial powers k m h i = ap (λ x. m ++ x) (sym (powers_from powers k h)) ∙ i

-- the next factor is later than those so far
pub power_later : (powers : List Power) (k : ℕ) (m : Monomial) (key : ℕ) → k < length powers → plain.are_powers powers ≡ true → m ++ monomial_of (drop k powers) ≡ monomial_of powers → key ≡ monomial_key (get_or powers k spare).name → IsMonomial (m ++ (key, (get_or powers k spare).exponent) ∷ [])
power_later powers k m key h e i same =
    let P : Monomial → Type 0 = λ x. IsMonomial x in
    let Q : ℕ → Type 0 = λ x. IsMonomial (m ++ (x, (get_or powers k spare).exponent) ∷ []) in
    let rest = monomial_of (drop (k + 1) powers) in
    subst Q (sym same) (front_monomial 0 m rest (factor_of (get_or powers k spare)) (subst P (sym (whole_monomial powers k m h i)) (powers_monomial powers e)))

pub power_narrow : (powers : List Power) (k : ℕ) (m : Monomial) → k < length powers → degree (monomial_of powers) < 2 ^ 32 → m ++ monomial_of (drop k powers) ≡ monomial_of powers → degree m + (get_or powers k spare).exponent < 2 ^ 32
power_narrow powers k m h narrow i =
    let f = factor_of (get_or powers k spare) in
    let rest = monomial_of (drop (k + 1) powers) in
    omega (arith, narrow, degree_append m (f ∷ rest), ap degree (whole_monomial powers k m h i))

-- past its end nothing is left of the powers
pub powers_ended : (powers : List Power) (k : ℕ) → length powers ≤ k → degree (monomial_of (drop k powers)) ≡ 0
powers_ended powers k h = ap (λ x. degree (monomial_of x)) (past_end powers k h)

-- ---- summands

summands_from : (r : ℤ → ℤ) (summands : List Summand) (k : ℕ) (s : Summand) → s ≡ get_or summands k s → k < length summands → polynomial_of r (drop k summands) ≡ front (monomial_of s.powers) (r s.coefficient) (polynomial_of r (drop (k + 1) summands))
summands_from r summands k s e h = ap (polynomial_of r) (from_item summands k s e h)

pub summand_at : (summands : List Summand) (k : ℕ) (s : Summand) → s ≡ get_or summands k s → k < length summands → plain.is_remainder (drop k summands) ≡ true → plain.is_summand s ≡ true
summand_at summands k s e h i = first_summand s (drop (k + 1) summands) (ap plain.is_remainder (sym (from_item summands k s e h)) ∙ i)

pub summands_after : (summands : List Summand) (k : ℕ) (s : Summand) → s ≡ get_or summands k s → k < length summands → plain.is_remainder (drop k summands) ≡ true → plain.is_remainder (drop (k + 1) summands) ≡ true
summands_after summands k s e h i = further_summands s (drop (k + 1) summands) (ap plain.is_remainder (sym (from_item summands k s e h)) ∙ i)

degree_first : (m : Monomial) (c : ℤ) (p : Polynomial) → (c ≡ pos 0 → ⊥) → degree_of (front m c p) ≡ degree m
degree_first m (pos zero) p n = absurd (n refl)
degree_first m (pos (suc k)) p n = refl
degree_first m (negsuc k) p n = refl

front_left_out : (m : Monomial) (c : ℤ) (p : Polynomial) → c ≡ pos 0 → front m c p ≡ p
front_left_out m (pos zero) p e = refl
front_left_out m (pos (suc k)) p e = absurd (omega (arith, ints, e))
front_left_out m (negsuc k) p e = absurd (omega (arith, ints, e))

-- the first summand that is not 0 in the ring has the degree
pub degree_here : (r : ℤ → ℤ) (summands : List Summand) (k : ℕ) (s : Summand) (n : ℕ) → s ≡ get_or summands k s → k < length summands → (r s.coefficient ≡ pos 0 → ⊥) → degree_of (polynomial_of r (drop k summands)) ≡ n → degree (monomial_of s.powers) ≡ n
degree_here r summands k s n e h other i =
    sym (degree_first (monomial_of s.powers) (r s.coefficient) (polynomial_of r (drop (k + 1) summands)) other)
    ∙ ap degree_of (sym (summands_from r summands k s e h))
    ∙ i

pub degree_further : (r : ℤ → ℤ) (summands : List Summand) (k : ℕ) (s : Summand) (n : ℕ) → s ≡ get_or summands k s → k < length summands → r s.coefficient ≡ pos 0 → degree_of (polynomial_of r (drop k summands)) ≡ n → degree_of (polynomial_of r (drop (k + 1) summands)) ≡ n
degree_further r summands k s n e h none i =
    ap degree_of (sym (front_left_out (monomial_of s.powers) (r s.coefficient) (polynomial_of r (drop (k + 1) summands)) none))
    ∙ ap degree_of (sym (summands_from r summands k s e h))
    ∙ i

-- what the loop reads of a summand, and of its powers
pub same_value : (v amount n : ℤ) → v ≡ amount → amount ≡ n → n ≡ v
same_value v amount n e f = sym f ∙ sym e

pub degree_read : (items powers : List Power) (result whole : ℕ) → items ≡ powers → result ≡ min (degree (monomial_of items)) (2 ^ 32 - 1) → degree (monomial_of powers) ≡ whole → result ≡ min whole (2 ^ 32 - 1)
degree_read items powers result whole same read here = read ∙ ap (λ x. min (degree (monomial_of x)) (2 ^ 32 - 1)) same ∙ ap (λ n. min n (2 ^ 32 - 1)) here

first_within : (n : ℕ) (m : Monomial) (c : ℤ) (p : Polynomial) → IsWithin n (front m c p) → degree_of (front m c []) ≤ n
first_within n m (pos zero) p h = omega arith
first_within n m (pos (suc k)) p h = h.0
first_within n m (negsuc k) p h = h.0

rest_within : (n : ℕ) (m : Monomial) (c : ℤ) (p : Polynomial) → IsWithin n (front m c p) → IsWithin n p
rest_within n m (pos zero) p h = h
rest_within n m (pos (suc k)) p h = h.1
rest_within n m (negsuc k) p h = h.1

within_from : (r : ℤ → ℤ) (summands : List Summand) (k n : ℕ) (s : Summand) → s ≡ get_or summands k s → k < length summands → IsWithin n (polynomial_of r (drop k summands)) → IsWithin n (front (monomial_of s.powers) (r s.coefficient) (polynomial_of r (drop (k + 1) summands)))
within_from r summands k n s e h i =
    let P : Polynomial → Type 0 = λ x. IsWithin n x in
    subst P (summands_from r summands k s e h) i

-- a summand's degree in the ring, and the degrees of those after it
pub summand_within : (r : ℤ → ℤ) (summands : List Summand) (k n : ℕ) (s : Summand) → s ≡ get_or summands k s → k < length summands → IsWithin n (polynomial_of r (drop k summands)) → degree_of (front (monomial_of s.powers) (r s.coefficient) []) ≤ n
summand_within r summands k n s e h i =
    first_within n (monomial_of s.powers) (r s.coefficient) (polynomial_of r (drop (k + 1) summands)) (within_from r summands k n s e h i)

pub after_within : (r : ℤ → ℤ) (summands : List Summand) (k n : ℕ) (s : Summand) → s ≡ get_or summands k s → k < length summands → IsWithin n (polynomial_of r (drop k summands)) → IsWithin n (polynomial_of r (drop (k + 1) summands))
after_within r summands k n s e h i =
    rest_within n (monomial_of s.powers) (r s.coefficient) (polynomial_of r (drop (k + 1) summands)) (within_from r summands k n s e h i)

front_append : (m : Monomial) (c : ℤ) (p : Polynomial) → front m c p ≡ front m c [] ++ p
front_append m (pos zero) p = refl
front_append m (pos (suc k)) p = refl
front_append m (negsuc k) p = refl

-- the terms with one summand more
pub summand_more : (r : ℤ → ℤ) (summands : List Summand) (k : ℕ) (s : Summand) (done after whole : Polynomial) → s ≡ get_or summands k s → k < length summands → after ≡ done ++ front (monomial_of s.powers) (r s.coefficient) [] → done ++ polynomial_of r (drop k summands) ≡ whole → after ++ polynomial_of r (drop (k + 1) summands) ≡ whole
summand_more r summands k s done after whole e h pushed i =
    let rest = polynomial_of r (drop (k + 1) summands) in
    let first = front (monomial_of s.powers) (r s.coefficient) [] in
    ap (λ x. x ++ rest) pushed
    ∙ append_assoc done first rest
    ∙ ap (λ x. done ++ x) (sym (front_append (monomial_of s.powers) (r s.coefficient) rest) ∙ sym (summands_from r summands k s e h))
    ∙ i

-- at the end the terms made are all
pub summands_ended : (r : ℤ → ℤ) (summands : List Summand) (k : ℕ) (done whole : Polynomial) → length summands ≤ k → done ++ polynomial_of r (drop k summands) ≡ whole → done ≡ whole
summands_ended r summands k done whole h i =
    sym (append-nil done) ∙ ap (λ x. done ++ polynomial_of r x) (sym (past_end summands k h)) ∙ i

pub terms_ended : {E : Type 0} (value : E → ℤ) (items p : List (Monomial × E)) (k : ℕ) (done whole : List Summand) → items ≡ p → length items ≤ k → done ++ summands_of (terms_of value (drop k p)) ≡ whole → done ≡ whole
terms_ended value items p k done whole same h i =
    sym (append-nil done) ∙ ap (λ x. done ++ summands_of (terms_of value x)) (sym (past_end items k h) ∙ ap (drop k) same) ∙ i
