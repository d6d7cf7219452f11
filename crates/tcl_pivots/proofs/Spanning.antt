-- What is spanned by polynomials: sums and multiples, and what spanned polynomials span.
use Rattle.std.proofs.Common.{◌≡◌, refl, sym, ◌∙◌, ap, arith, List, [], ◌∷◌, ◌++◌, ℤ, pos, ◌+ℤ◌, ◌-ℤ◌, ◌*ℤ◌}
use Rattle.std.specs.List.{AllByRecursion}
use Rattle.std.proofs.lemmas.Int.{ints}
use Rattle.tcl_num.proofs.IntegerRing.{int_mul_zero, int_zero_mul, int_one_mul, int_add_zero, int_zero_add, int_add_mul, int_mul_add, int_mul_assoc}
use Rattle.tcl_ring.specs.Reduction.{IsReduction}
use Rattle.tcl_poly.specs.Monomial.{Monomial}
use Rattle.tcl_poly.specs.Polynomial.{Polynomial, coefficient}
use Rattle.tcl_poly.proofs.Weights.{two_sums}
use Rattle.tcl_reduce.specs.Span.{total, IsSpanned}
use Rattle.tcl_pivots.specs.Apart.{AreApart}
use Rattle.tcl_pivots.specs.RowLaws.{AreSpanned}

abbrev plus : List ℤ → List ℤ → List ℤ
plus [] ds = ds
plus (c ∷ cs) [] = c ∷ cs
plus (c ∷ cs) (d ∷ ds) = (c +ℤ d) ∷ plus cs ds

abbrev multiple : ℤ → List ℤ → List ℤ
multiple c [] = []
multiple c (d ∷ ds) = (c *ℤ d) ∷ multiple c ds

total_nothing : (cs : List ℤ) (m : Monomial) → total cs [] m ≡ pos 0
total_nothing [] m = refl
total_nothing (c ∷ cs) m = refl

pairs : (c d p a b : ℤ) → (c +ℤ d) *ℤ p +ℤ (a +ℤ b) ≡ (c *ℤ p +ℤ a) +ℤ (d *ℤ p +ℤ b)
pairs c d p a b = omega (arith, ints, int_add_mul c d p)

plus_total : (cs ds : List ℤ) (ps : List Polynomial) (m : Monomial) → total (plus cs ds) ps m ≡ total cs ps m +ℤ total ds ps m
plus_total [] ds ps m = sym (int_zero_add (total ds ps m))
plus_total (c ∷ cs) [] ps m = sym (int_add_zero (total (c ∷ cs) ps m))
plus_total (c ∷ cs) (d ∷ ds) [] m = refl
plus_total (c ∷ cs) (d ∷ ds) (p ∷ ps) m =
    ap (λ x. (c +ℤ d) *ℤ coefficient p m +ℤ x) (plus_total cs ds ps m) ∙ pairs c d (coefficient p m) (total cs ps m) (total ds ps m)

multiple_total : (c : ℤ) (ds : List ℤ) (ps : List Polynomial) (m : Monomial) → total (multiple c ds) ps m ≡ c *ℤ total ds ps m
multiple_total c [] ps m = sym (int_mul_zero c)
multiple_total c (d ∷ ds) [] m = sym (int_mul_zero c)
multiple_total c (d ∷ ds) (p ∷ ps) m =
    ap (λ x. (c *ℤ d) *ℤ coefficient p m +ℤ x) (multiple_total c ds ps m)
    ∙ ap (λ x. x +ℤ c *ℤ total ds ps m) (int_mul_assoc c d (coefficient p m))
    ∙ sym (int_mul_add c (d *ℤ coefficient p m) (total ds ps m))

pub span_zero : (r : ℤ → ℤ) (ps : List Polynomial) (φ : Monomial → ℤ) → ((m : Monomial) → r (φ m) ≡ r (pos 0)) → IsSpanned r ps φ
span_zero r ps φ e = ([], e)

pub span_alike : (r : ℤ → ℤ) (ps : List Polynomial) (φ ψ : Monomial → ℤ) → ((m : Monomial) → r (ψ m) ≡ r (φ m)) → IsSpanned r ps φ → IsSpanned r ps ψ
span_alike r ps φ ψ e (cs, h) = (cs, λ m. e m ∙ h m)

pub span_sum : (r : ℤ → ℤ) → IsReduction r → (ps : List Polynomial) (φ ψ : Monomial → ℤ) → IsSpanned r ps φ → IsSpanned r ps ψ → IsSpanned r ps (λ m. φ m +ℤ ψ m)
span_sum r ring ps φ ψ (cs, h) (ds, j) =
    (plus cs ds, λ m. two_sums r ring (φ m) (total cs ps m) (ψ m) (total ds ps m) (h m) (j m) ∙ ap r (sym (plus_total cs ds ps m)))

pub span_multiple : (r : ℤ → ℤ) → IsReduction r → (ps : List Polynomial) (c : ℤ) (φ : Monomial → ℤ) → IsSpanned r ps φ → IsSpanned r ps (λ m. c *ℤ φ m)
span_multiple r ring ps c φ (cs, h) =
    (multiple c cs, λ m. ring.products (φ m) (total cs ps m) c (h m) ∙ ap r (sym (multiple_total c cs ps m)))

-- ---- more polynomials

pub span_later : (r : ℤ → ℤ) (p : Polynomial) (ps : List Polynomial) (φ : Monomial → ℤ) → IsSpanned r ps φ → IsSpanned r (p ∷ ps) φ
span_later r p ps φ (cs, h) =
    (pos 0 ∷ cs, λ m. h m ∙ ap r (sym (ap (λ x. x +ℤ total cs ps m) (int_zero_mul (coefficient p m)) ∙ int_zero_add (total cs ps m))))

pub span_first : (r : ℤ → ℤ) (p : Polynomial) (ps : List Polynomial) → IsSpanned r (p ∷ ps) (coefficient p)
span_first r p ps = (pos 1 ∷ [], λ m. ap r (sym (int_add_zero (pos 1 *ℤ coefficient p m) ∙ int_one_mul (coefficient p m))))

pub spans_later : (r : ℤ → ℤ) (p : Polynomial) (ps qs : List Polynomial) → AreSpanned r ps qs → AreSpanned r (p ∷ ps) qs
spans_later r p ps [] h = tt
spans_later r p ps (q ∷ qs) h = (span_later r p ps (coefficient q) h.0, spans_later r p ps qs h.1)

-- the front of a list, the whole list, and its last one
pub spans_front : (r : ℤ → ℤ) (ps qs : List Polynomial) → AreSpanned r (ps ++ qs) ps
spans_front r [] qs = tt
spans_front r (p ∷ ps) qs = (span_first r p (ps ++ qs), spans_later r p (ps ++ qs) ps (spans_front r ps qs))

pub spans_itself : (r : ℤ → ℤ) (ps : List Polynomial) → AreSpanned r ps ps
spans_itself r [] = tt
spans_itself r (p ∷ ps) = (span_first r p ps, spans_later r p ps ps (spans_itself r ps))

pub span_last : (r : ℤ → ℤ) (ps : List Polynomial) (q : Polynomial) → IsSpanned r (ps ++ q ∷ []) (coefficient q)
span_last r [] q = span_first r q []
span_last r (p ∷ ps) q = span_later r p (ps ++ q ∷ []) (coefficient q) (span_last r ps q)

-- what spanned polynomials span
pub total_spanned : (r : ℤ → ℤ) → IsReduction r → (ps : List Polynomial) (cs : List ℤ) (qs : List Polynomial) → AreSpanned r ps qs → IsSpanned r ps (total cs qs)
total_spanned r ring ps [] qs h = span_zero r ps (total [] qs) (λ m. refl)
total_spanned r ring ps (c ∷ cs) [] h = span_zero r ps (total (c ∷ cs) []) (λ m. refl)
total_spanned r ring ps (c ∷ cs) (q ∷ qs) h =
    span_sum r ring ps (λ m. c *ℤ coefficient q m) (total cs qs) (span_multiple r ring ps c (coefficient q) h.0) (total_spanned r ring ps cs qs h.1)

pub span_chain : (r : ℤ → ℤ) → IsReduction r → (ps qs : List Polynomial) (φ : Monomial → ℤ) → AreSpanned r ps qs → IsSpanned r qs φ → IsSpanned r ps φ
span_chain r ring ps qs φ h (cs, e) = span_alike r ps (total cs qs) φ e (total_spanned r ring ps cs qs h)

pub spans_chain : (r : ℤ → ℤ) → IsReduction r → (ps qs ts : List Polynomial) → AreSpanned r ps qs → AreSpanned r qs ts → AreSpanned r ps ts
spans_chain r ring ps qs [] h j = tt
spans_chain r ring ps qs (t ∷ ts) h j = (span_chain r ring ps qs (coefficient t) h j.0, spans_chain r ring ps qs ts h j.1)

spanned_differences : (a b c : ℤ) → a -ℤ c ≡ (a -ℤ b) +ℤ (b -ℤ c)
spanned_differences a b c = omega (arith, ints)

pub apart_chain : (r : ℤ → ℤ) → IsReduction r → (ps : List Polynomial) (f g h : Polynomial) → AreApart r ps f g → AreApart r ps g h → AreApart r ps f h
apart_chain r ring ps f g h x y =
    span_alike r ps (λ m. (coefficient f m -ℤ coefficient g m) +ℤ (coefficient g m -ℤ coefficient h m)) (λ m. coefficient f m -ℤ coefficient h m)
    (λ m. ap r (spanned_differences (coefficient f m) (coefficient g m) (coefficient h m)))
    (span_sum r ring ps (λ m. coefficient f m -ℤ coefficient g m) (λ m. coefficient g m -ℤ coefficient h m) x y)

nothing_apart : (a : ℤ) → a -ℤ a ≡ pos 0
nothing_apart a = omega (arith, ints)

pub apart_itself : (r : ℤ → ℤ) (ps : List Polynomial) (f : Polynomial) → AreApart r ps f f
apart_itself r ps f = span_zero r ps (λ m. coefficient f m -ℤ coefficient f m) (λ m. ap r (nothing_apart (coefficient f m)))

-- ---- joined lists

pub span_front : (r : ℤ → ℤ) → IsReduction r → (ps qs : List Polynomial) (φ : Monomial → ℤ) → IsSpanned r ps φ → IsSpanned r (ps ++ qs) φ
span_front r ring ps qs φ h = span_chain r ring (ps ++ qs) ps φ (spans_front r ps qs) h

pub spans_back : (r : ℤ → ℤ) (ps qs : List Polynomial) → AreSpanned r (ps ++ qs) qs
spans_back r [] qs = spans_itself r qs
spans_back r (p ∷ ps) qs = spans_later r p (ps ++ qs) qs (spans_back r ps qs)

pub all_join : {X : Type 0} (P : X → Type 0) (xs ys : List X) → AllByRecursion P xs → AllByRecursion P ys → AllByRecursion P (xs ++ ys)
all_join P [] ys h j = j
all_join P (x ∷ xs) ys h j = (h.0, all_join P xs ys h.1 j)

-- one polynomial put between two lists
pub spans_between : (r : ℤ → ℤ) (p : Polynomial) (ps qs : List Polynomial) → AreSpanned r (ps ++ (p ∷ qs)) (p ∷ (ps ++ qs))
spans_between r p ps qs =
    let back = spans_back r ps (p ∷ qs) in
    (back.0, all_join (λ x. IsSpanned r (ps ++ (p ∷ qs)) (coefficient x)) ps qs (spans_front r ps (p ∷ qs)) back.1)
