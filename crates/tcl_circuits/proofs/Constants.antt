-- The bits of an integer's pattern one after another: the lowest bit of it, and then the bits of its half.
use Rattle.std.proofs.Common.{◌≡◌, ℕ, zero, suc, ◌+◌, ◌-◌, ◌*◌, ◌/◌, ◌%◌, ◌^◌, ◌<◌, ◌≤◌, ◌==◌, Bool, List, [], ◌∷◌, ◌++◌, map, refl, sym, ◌∙◌, ap, ap₂, subst, arith, ℤ, pos, ◌+ℤ◌, ◌*ℤ◌, unsigned_abs, pow_pos, pow-suc}
use Rattle.std.proofs.lemmas.Int.{ints}
use Rattle.std.proofs.lemmas.List.{append-nil, append_assoc}
use Rattle.std.specs.Int.{int_div_euclid, int_rem_euclid}
use Rattle.tcl_num.proofs.IntegerRing.{int_mul_assoc}
use Rattle.tcl_num.proofs.EuclideanDivision.{euclid_split, euclid_range, euclid_unique}
use Rattle.tcl_bits.specs.Value.{number_bits}
use Rattle.tcl_circuits.specs.Circuits.{constant_lit, constant}

-- the lowest bits of an integer in two's complement
abbrev pub pattern_bits : ℕ → ℤ → List Bool
pattern_bits width n = number_bits width (unsigned_abs (int_rem_euclid n (pos (2 ^ width))))

-- a remainder of 2 and a number below it
digits : (r s : ℕ) → r < 2 → ((r + 2 * s) % 2 ≡ r) × ((r + 2 * s) / 2 ≡ s)
digits r s h = (omega arith, omega arith)

below : (p r s : ℕ) → r < 2 → s < p → r + 2 * s < 2 * p
below p r s h i = omega (arith, h, i)

joined : (n q t : ℤ) (r s p : ℕ) → n ≡ pos r +ℤ pos 2 *ℤ q → q ≡ pos s +ℤ pos p *ℤ t → n ≡ pos (r + 2 * s) +ℤ pos (2 * p) *ℤ t
joined n q t r s p e f = omega (arith, ints, e, f, times p t)
  where
    times : (p : ℕ) (t : ℤ) → pos (2 * p) *ℤ t ≡ pos 2 *ℤ (pos p *ℤ t)
    times p t = int_mul_assoc (pos 2) (pos p) t

pub pattern_step : (width : ℕ) (n : ℤ) → pattern_bits (suc width) n ≡ (unsigned_abs (int_rem_euclid n (pos 2)) == 1) ∷ pattern_bits width (int_div_euclid n (pos 2))
pattern_step width n =
    let p = 2 ^ width in
    let q = int_div_euclid n (pos 2) in
    let r = euclid_range n 2 (omega arith) in
    let s = euclid_range q p (pow_pos width) in
    let t = int_div_euclid q (pos p) in
    let first : n ≡ pos r.0 +ℤ pos 2 *ℤ q = euclid_split n 2 (omega arith) ∙ ap (λ x. x +ℤ pos 2 *ℤ q) r.2 in
    let second : q ≡ pos s.0 +ℤ pos p *ℤ t = euclid_split q p (pow_pos width) ∙ ap (λ x. x +ℤ pos p *ℤ t) s.2 in
    let whole = (euclid_unique n (2 * p) (r.0 + 2 * s.0) t (below p r.0 s.0 r.1 s.1) (joined n q t r.0 s.0 p first second)).0 in
    let twice : 2 ^ suc width ≡ 2 * p = omega (arith, pow-suc 2 width) in
    let low : unsigned_abs (int_rem_euclid n (pos (2 ^ suc width))) ≡ r.0 + 2 * s.0 = ap (λ m. unsigned_abs (int_rem_euclid n (pos m))) twice ∙ ap unsigned_abs whole in
    let d = digits r.0 s.0 r.1 in
    ap (number_bits (suc width)) low
    ∙ ap₂ (λ x y. (x == 1) ∷ number_bits width y) (d.0 ∙ sym (ap unsigned_abs r.2)) (d.1 ∙ sym (ap unsigned_abs s.2))

constant_step : (width : ℕ) (n : ℤ) → constant (suc width) n ≡ constant_lit (unsigned_abs (int_rem_euclid n (pos 2)) == 1) ∷ constant width (int_div_euclid n (pos 2))
unfolding constant
constant_step width n = ap (map constant_lit) (pattern_step width n)

-- the bits one by one, behind a word
pub bits_none : (word word1 : List ℕ) (width : ℕ) (n : ℤ) → width ≡ 0 → word1 ≡ word → word1 ≡ word ++ constant width n
unfolding constant
bits_none word word1 width n e f = f ∙ sym (append-nil word) ∙ ap (λ w. word ++ constant w n) (sym e)

pub bits_more : (word word1 word2 : List ℕ) (width rest lit : ℕ) (n half : ℤ) (b : Bool) → 0 < width → rest ≡ width - 1 → b ≡ (unsigned_abs (int_rem_euclid n (pos 2)) == 1) → lit ≡ constant_lit b → half ≡ int_div_euclid n (pos 2)
    → word1 ≡ word ++ lit ∷ [] → word2 ≡ word1 ++ constant rest half → word2 ≡ word ++ constant width n
bits_more word word1 word2 width rest lit n half b h w e f g i j =
    let step : width ≡ suc rest = omega (arith, h, w) in
    j ∙ ap (λ l. l ++ constant rest half) i ∙ append_assoc word (lit ∷ []) (constant rest half)
    ∙ ap₂ (λ x y. word ++ x ∷ constant rest y) (f ∙ ap constant_lit e) g
    ∙ ap (λ t. word ++ t) (sym (constant_step rest n)) ∙ ap (λ k. word ++ constant k n) (sym step)
