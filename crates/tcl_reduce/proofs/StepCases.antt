-- The cases of one definition, from what its code has read and counted.
use Rattle.std.proofs.Common.{◌≡◌, ℕ, zero, suc, min, ◌+◌, ◌^◌, ◌<◌, ◌≤◌, sym, ◌∙◌, ap, subst, arith, true, false, leb, List, length, ℤ, Option}
use Rattle.tcl_port.specs.declared.limit.At.TheVariants.{Line}
use Rattle.tcl_port.specs.declared.limit.What.TheVariants.{Degree, Terms}
use Rattle.tcl_ring.specs.Reduction.{IsReduction, reduced_by, is_wide}
use Rattle.tcl_poly.specs.Monomial.{Monomial}
use Rattle.tcl_poly.specs.Polynomial.{Polynomial, IsPolynomial, terms_of, norm_of, degree_of}
use Rattle.tcl_reduce.specs.Parts.{part, top, coefficients, by_power, joined_by, AreParts}
use Rattle.tcl_reduce.specs.Substitution.{substituted, cofactor_by, bound_of, degree_by, terms_by}
use Rattle.tcl_reduce.specs.Reduction.{Definition, Reduced, reduced_at}
use Rattle.tcl_reduce.specs.Reduction.Reduced.{TooWide, TooLarge}
use Rattle.tcl_reduce.specs.Fits.{values_by, RowFits}
use Rattle.tcl_reduce.specs.Step.{IsCovered, IsMade}
use Rattle.tcl_reduce.proofs.ValueLists.{coefficients_are, degree_values, terms_values, top_values}
use Rattle.tcl_reduce.proofs.Substituting.{substituted_is}
use Rattle.tcl_reduce.proofs.Stepping.{fault_wide, fault_degree, fault_terms, fault_none, at_none, at_some, total_saturates, wide_total, over_limit, within_limit, IsSubstituted, rows_fit, made_degree, made_covered}

-- what was counted, in terms of the values
pub total_is : {E : Type 0} (value : E → ℤ) (u n : ℕ) (d : Polynomial) (f : List (Monomial × E)) (fs : List (List (Monomial × E))) (spent counted total : ℕ) → AreParts u f fs → counted ≡ min (bound_of d (values_by value (by_power fs)) n) (2 ^ 127) → total ≡ min (spent + counted) (2 ^ 127) → total ≡ min (spent + bound_of d (coefficients u (terms_of value f)) n) (2 ^ 127)
total_is value u n d f fs spent counted total parts e s =
    total_saturates spent (bound_of d (coefficients u (terms_of value f)) n) counted total (2 ^ 127)
    (e ∙ ap (λ g. min (bound_of d g n) (2 ^ 127)) (coefficients_are value u f (by_power fs) parts.1)) s

pub degree_is : {E : Type 0} (value : E → ℤ) (u n : ℕ) (d f : List (Monomial × E)) (fs : List (List (Monomial × E))) (counted : ℕ) → AreParts u f fs → n ≡ top u f → counted ≡ min (degree_by d (by_power fs) (length fs)) 4294967295 → counted ≡ min (degree_by (terms_of value d) (coefficients u (terms_of value f)) (suc n)) 4294967295
degree_is value u n d f fs counted parts e s =
    let places : length fs ≡ suc n = parts.0 ∙ ap suc (sym e) in
    s
    ∙ ap (λ x. min x 4294967295) (sym (degree_values value d (by_power fs) (length fs)))
    ∙ (λ i. min (degree_by (terms_of value d) (coefficients_are value u f (by_power fs) parts.1 i) (places i)) 4294967295)

pub terms_is : {E : Type 0} (value : E → ℤ) (u n : ℕ) (d f : List (Monomial × E)) (fs : List (List (Monomial × E))) (counted : ℕ) → AreParts u f fs → n ≡ top u f → counted ≡ min (terms_by d (by_power fs) (length fs)) 4294967295 → counted ≡ min (terms_by (terms_of value d) (coefficients u (terms_of value f)) (suc n)) 4294967295
terms_is value u n d f fs counted parts e s =
    let places : length fs ≡ suc n = parts.0 ∙ ap suc (sym e) in
    s
    ∙ ap (λ x. min x 4294967295) (sym (terms_values value d (by_power fs) (length fs)))
    ∙ (λ i. min (terms_by (terms_of value d) (coefficients_are value u f (by_power fs) parts.1 i) (places i)) 4294967295)

pub greatest_is : {E : Type 0} (value : E → ℤ) (u n : ℕ) (f : List (Monomial × E)) → n ≡ top u f → top u (terms_of value f) ≡ n
greatest_is value u n f e = top_values value u f ∙ sym e

-- ---- how the reduction goes on

pub goes_same : (m : Option ℕ) (x : Definition) (f : Polynomial) (spent n : ℕ) (same further : Reduced) → top x.1 f ≡ n → n ≡ 0 → reduced_at m x f spent (top x.1 f) same further ≡ same
goes_same m x f spent n same further t z = at_none m x f spent (top x.1 f) same further (t ∙ z)

at_top : (m : Option ℕ) (x : Definition) (f : Polynomial) (spent n : ℕ) (same further : Reduced) → top x.1 f ≡ n → reduced_at m x f spent (top x.1 f) same further ≡ reduced_at m x f spent n same further
at_top m x f spent n same further t = ap (λ k. reduced_at m x f spent k same further) t

pub goes_wide : (m : Option ℕ) (x : Definition) (f : Polynomial) (spent n total : ℕ) (same further : Reduced) → top x.1 f ≡ n → 0 < n → total ≡ min (spent + bound_of x.2 (coefficients x.1 f) n) (2 ^ 127) → is_wide m total ≡ true → reduced_at m x f spent (top x.1 f) same further ≡ TooWide (Line x.0)
goes_wide m x f spent n total same further t p e w =
    let fs = coefficients x.1 f in let b = bound_of x.2 fs n in
    let degree = degree_by x.2 fs (suc n) in let terms = terms_by x.2 fs (suc n) in
    at_top m x f spent n same further t
    ∙ at_some m x f spent n same further p
    ∙ fault_wide (is_wide m (spent + b)) (leb 1025 degree) (leb 65537 terms) x.0 degree terms further (wide_total m (spent + b) total e ∙ w)

pub goes_deep : (m : Option ℕ) (x : Definition) (f : Polynomial) (spent n total counted : ℕ) (same further : Reduced) → top x.1 f ≡ n → 0 < n → total ≡ min (spent + bound_of x.2 (coefficients x.1 f) n) (2 ^ 127) → is_wide m total ≡ false → counted ≡ min (degree_by x.2 (coefficients x.1 f) (suc n)) 4294967295 → 1024 < counted → reduced_at m x f spent (top x.1 f) same further ≡ TooLarge Degree counted
goes_deep m x f spent n total counted same further t p e w c l =
    let fs = coefficients x.1 f in let b = bound_of x.2 fs n in
    let degree = degree_by x.2 fs (suc n) in let terms = terms_by x.2 fs (suc n) in
    at_top m x f spent n same further t
    ∙ at_some m x f spent n same further p
    ∙ fault_degree (is_wide m (spent + b)) (leb 1025 degree) (leb 65537 terms) x.0 degree terms further (wide_total m (spent + b) total e ∙ w) (over_limit degree counted 1024 c l)
    ∙ ap (TooLarge Degree) (sym c)

pub goes_long : (m : Option ℕ) (x : Definition) (f : Polynomial) (spent n total deepest counted : ℕ) (same further : Reduced) → top x.1 f ≡ n → 0 < n → total ≡ min (spent + bound_of x.2 (coefficients x.1 f) n) (2 ^ 127) → is_wide m total ≡ false → deepest ≡ min (degree_by x.2 (coefficients x.1 f) (suc n)) 4294967295 → deepest ≤ 1024 → counted ≡ min (terms_by x.2 (coefficients x.1 f) (suc n)) 4294967295 → 65536 < counted → reduced_at m x f spent (top x.1 f) same further ≡ TooLarge Terms counted
goes_long m x f spent n total deepest counted same further t p e w c l d h =
    let fs = coefficients x.1 f in let b = bound_of x.2 fs n in
    let degree = degree_by x.2 fs (suc n) in let terms = terms_by x.2 fs (suc n) in
    at_top m x f spent n same further t
    ∙ at_some m x f spent n same further p
    ∙ fault_terms (is_wide m (spent + b)) (leb 1025 degree) (leb 65537 terms) x.0 degree terms further (wide_total m (spent + b) total e ∙ w) (within_limit degree deepest 1024 c (omega arith) l) (over_limit terms counted 65536 d h)
    ∙ ap (TooLarge Terms) (sym d)

pub goes_further : (m : Option ℕ) (x : Definition) (f : Polynomial) (spent n total deepest counted : ℕ) (same further : Reduced) → top x.1 f ≡ n → 0 < n → total ≡ min (spent + bound_of x.2 (coefficients x.1 f) n) (2 ^ 127) → is_wide m total ≡ false → deepest ≡ min (degree_by x.2 (coefficients x.1 f) (suc n)) 4294967295 → deepest ≤ 1024 → counted ≡ min (terms_by x.2 (coefficients x.1 f) (suc n)) 4294967295 → counted ≤ 65536 → reduced_at m x f spent (top x.1 f) same further ≡ further
goes_further m x f spent n total deepest counted same further t p e w c l d h =
    let fs = coefficients x.1 f in let b = bound_of x.2 fs n in
    let degree = degree_by x.2 fs (suc n) in let terms = terms_by x.2 fs (suc n) in
    at_top m x f spent n same further t
    ∙ at_some m x f spent n same further p
    ∙ fault_none (is_wide m (spent + b)) (leb 1025 degree) (leb 65537 terms) x.0 degree terms further (wide_total m (spent + b) total e ∙ w) (within_limit degree deepest 1024 c (omega arith) l) (within_limit terms counted 65536 d (omega arith) h)

-- ---- what is made

-- the parts, of which the first was taken out
pub parts_joined : {E : Type 0} (u : ℕ) (f first : List (Monomial × E)) (old new : List (List (Monomial × E))) → AreParts u f old → first ≡ by_power old 0 → ((k : ℕ) → by_power new (suc k) ≡ by_power old (suc k)) → (k : ℕ) → joined_by first new k ≡ part u k f
parts_joined u f first old new parts e h zero = e ∙ parts.1 0
parts_joined u f first old new parts e h (suc k) = h k ∙ parts.1 (suc k)

pub substituted_facts : (m : Option ℕ) (x : Definition) (f : Polynomial) (spent n total deepest : ℕ) → IsPolynomial (reduced_by m) x.2 → IsPolynomial (reduced_by m) f → degree_of f ≤ 1024 → IsCovered m (norm_of f) spent → top x.1 f ≡ n → 0 < n → total ≡ min (spent + bound_of x.2 (coefficients x.1 f) n) (2 ^ 127) → is_wide m total ≡ false → deepest ≡ min (degree_by x.2 (coefficients x.1 f) (suc n)) 4294967295 → deepest ≤ 1024 → IsSubstituted m x f spent n
substituted_facts m x f spent n total deepest over form degree covered t p e w c l = record {
  definition = over;
  polynomial = form;
  degree = degree;
  covered = covered;
  greatest = t;
  occurs = p;
  narrow = wide_total m (spent + bound_of x.2 (coefficients x.1 f) n) total e ∙ w;
  shallow = within_limit (degree_by x.2 (coefficients x.1 f) (suc n)) deepest 1024 c (omega arith) l;
}

pub rows_read : {E : Type 0} (m : Option ℕ) (value : E → ℤ) (x : Definition) (f : List (Monomial × E)) (fs : ℕ → List (Monomial × E)) (spent n j : ℕ) → ((k : ℕ) → fs k ≡ part x.1 k f) → IsSubstituted m x (terms_of value f) spent n → j ≤ n → RowFits m x.1 x.2 (values_by value fs) j
rows_read m value x f fs spent n j parts a l =
    let P : (ℕ → Polynomial) → Type 0 = λ g. RowFits m x.1 x.2 g j in
    subst P (sym (coefficients_are value x.1 f fs parts)) (rows_fit m x (terms_of value f) spent n j a l)

pub made_is : {E : Type 0} (m : Option ℕ) → IsReduction (reduced_by m) → (value : E → ℤ) (x : Definition) (f : List (Monomial × E)) (fs : ℕ → List (Monomial × E)) (spent n total : ℕ) (g c : Polynomial) → ((k : ℕ) → fs k ≡ part x.1 k f) → IsSubstituted m x (terms_of value f) spent n → total ≡ min (spent + bound_of x.2 (coefficients x.1 (terms_of value f)) n) (2 ^ 127) → g ≡ substituted (reduced_by m) x.2 (values_by value fs) (suc n) → c ≡ cofactor_by (reduced_by m) x.1 x.2 (values_by value fs) (suc n) → IsMade m x (terms_of value f) spent g c total
made_is m ring value x f fs spent n total g c parts a e h i =
    let r = reduced_by m in let p = terms_of value f in
    let same = coefficients_are value x.1 f fs parts in
    let rest : g ≡ substituted r x.2 (coefficients x.1 p) (suc n) = h ∙ ap (λ q. substituted r x.2 q (suc n)) same in
    let cofactor : c ≡ cofactor_by r x.1 x.2 (coefficients x.1 p) (suc n) = i ∙ ap (λ q. cofactor_by r x.1 x.2 q (suc n)) same in
    let back = sym a.greatest in
    let P : Polynomial → Type 0 = λ q. IsPolynomial r q in
    let D : Polynomial → Type 0 = λ q. degree_of q ≤ 1024 in
    let C : Polynomial → Type 0 = λ q. IsCovered m (norm_of q) total in
    record {
      rest = rest ∙ ap (λ k. substituted r x.2 (coefficients x.1 p) (suc k)) back;
      cofactor = cofactor ∙ ap (λ k. cofactor_by r x.1 x.2 (coefficients x.1 p) (suc k)) back;
      total = e ∙ ap (λ k. min (spent + bound_of x.2 (coefficients x.1 p) k) (2 ^ 127)) back;
      over = subst P (sym rest) (substituted_is r ring x.1 x.2 p (suc n) a.definition a.polynomial);
      degree = subst D (sym rest) (made_degree m x p spent n a);
      covered = subst C (sym rest) (made_covered m x p spent n total a e);
    }
