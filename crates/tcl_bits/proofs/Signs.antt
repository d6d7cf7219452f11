-- Signed words: their range, and how they are cut, joined and extended.
use Rattle.std.proofs.Common.{◌≡◌, ℕ, zero, suc, ◌+◌, ◌-◌, ◌*◌, ◌^◌, ◌<◌, ◌≤◌, Bool, true, false, List, [], ◌∷◌, ◌++◌, length, replicate, take_all, refl, ap, ◌∙◌, arith, pow-suc, pow-add, ℤ, pos, ◌+ℤ◌, ◌-ℤ◌, ◌*ℤ◌, neg_ℤ, length-append}
use borrow.Author.Differences.{up, down, sum_is_lem, neg_is, product_is}
use Rattle.std.proofs.lemmas.Int.{ints}
use lib.ListN.{length-replicate}
use Rattle.tcl_bits.specs.Value.{bit_value, unsigned_value, last_bit, top_bit, signed_value, word_value}
use Rattle.tcl_bits.specs.Circuit.{extended_bits}
use Rattle.tcl_bits.proofs.Values.{power_step, bit_most, unsigned-append, unsigned-clear}

-- the last bit of joined lists is that of the second
pub last-append : (x : Bool) (xs ys : List Bool) → last_bit x (xs ++ ys) ≡ last_bit (last_bit x xs) ys
last-append x [] ys = refl
last-append x (y ∷ xs) ys = last-append y xs ys

-- a nonempty list has its own last bit
pub last_own : (x y : Bool) (xs : List Bool) → 0 < length xs → last_bit x xs ≡ last_bit y xs
last_own x y [] h = absurd (omega arith)
last_own x y (z ∷ xs) h = refl

-- the low part of the highest bit: a word with its highest bit set has at least half the range
pub last_most : (x : Bool) (xs : List Bool) → 2 ^ length xs * bit_value (last_bit x xs) ≤ unsigned_value (x ∷ xs)
last_most x [] = omega arith
last_most x (y ∷ ys) = omega (arith, last_most y ys, power_step (length ys) (bit_value (last_bit y ys)))

-- and a word with it clear has less
pub last_least : (x : Bool) (xs : List Bool) → unsigned_value (x ∷ xs) < 2 ^ length xs * bit_value (last_bit x xs) + 2 ^ length xs
last_least x [] = omega (arith, bit_most x)
last_least x (y ∷ ys) = omega (arith, last_least y ys, bit_most x, power_step (length ys) (bit_value (last_bit y ys)), pow-suc 2 (length ys))

times_sum : (a u : ℕ) (z : ℤ) (v : ℕ) → z ≡ pos u -ℤ pos v → pos a *ℤ z ≡ pos (a * u) -ℤ pos (a * v)
times_sum a u z v e =
    let s = ap (λ t. a * up t) e in
    let t = ap (λ t. a * down t) e in
    let n = neg_is (pos v) in
    omega (arith, ints, product_is (pos a) z, ap (λ t. a * t) (sum_is_lem (pos u) (neg_ℤ (pos v))), ap (λ t. a * t) n.0, ap (λ t. a * t) n.1)

joined : (U u v p q r b : ℕ) (z : ℤ) → U ≡ u + p * v → r ≡ p * q → z ≡ pos v -ℤ pos (b * q) → pos U -ℤ pos (b * r) ≡ pos u +ℤ pos p *ℤ z
joined U u v p q r b z e f g = omega (arith, ints, times_sum p v z (b * q) g, ap (λ t. b * t) f)

-- a nonempty word joined above others: the others count plain, the word from their width on
pub signed-append : (xs ys : List Bool) → 0 < length ys → signed_value (xs ++ ys) ≡ pos (unsigned_value xs) +ℤ pos (2 ^ length xs) *ℤ signed_value ys
signed-append xs ys h =
    ap (λ b. pos (unsigned_value (xs ++ ys)) -ℤ pos (bit_value b * 2 ^ length (xs ++ ys))) (last-append false xs ys ∙ last_own (last_bit false xs) false ys h)
    ∙ joined (unsigned_value (xs ++ ys)) (unsigned_value xs) (unsigned_value ys) (2 ^ length xs) (2 ^ length ys) (2 ^ length (xs ++ ys)) (bit_value (top_bit ys)) (signed_value ys)
    (unsigned-append xs ys)
    (ap (λ n. 2 ^ n) (length-append xs ys) ∙ pow-add 2 (length xs) (length ys))
    refl

-- a bit many times
pub unsigned-replicate : (x : Bool) (n : ℕ) → unsigned_value (replicate n x) + bit_value x ≡ bit_value x * 2 ^ n
unsigned-replicate x zero = omega arith
unsigned-replicate x (suc n) = omega (arith, unsigned-replicate x n, ap (λ t. bit_value x * t) (pow-suc 2 n))

last-replicate : (x : Bool) (n : ℕ) → last_bit x (replicate n x) ≡ x
last-replicate x zero = refl
last-replicate x (suc n) = last-replicate x n

prolonged : (U u p k r v b : ℕ) → U ≡ u + p * v → v + b ≡ b * k → r ≡ p * k → pos U -ℤ pos (b * r) ≡ pos u -ℤ pos (b * p)
prolonged U u p k r v b e f g = omega (arith, ints, ap (λ t. p * t) f, ap (λ t. b * t) g)

-- a signed number keeps its value when its highest bit is repeated above it
pub signed_extended : (xs : List Bool) (n : ℕ) → signed_value (xs ++ replicate n (top_bit xs)) ≡ signed_value xs
signed_extended xs n =
    let more = replicate n (top_bit xs) in
    ap (λ b. pos (unsigned_value (xs ++ more)) -ℤ pos (bit_value b * 2 ^ length (xs ++ more))) (last-append false xs more ∙ last-replicate (top_bit xs) n)
    ∙ prolonged (unsigned_value (xs ++ more)) (unsigned_value xs) (2 ^ length xs) (2 ^ n) (2 ^ length (xs ++ more)) (unsigned_value more) (bit_value (top_bit xs))
    (unsigned-append xs more)
    (unsigned-replicate (top_bit xs) n)
    (ap (λ n. 2 ^ n) (length-append xs more ∙ ap (λ k. length xs + k) (length-replicate n (top_bit xs))) ∙ pow-add 2 (length xs) n)

-- an unsigned number keeps its value when zeros are put above it
pub unsigned_extended : (xs : List Bool) (n : ℕ) → unsigned_value (xs ++ replicate n false) ≡ unsigned_value xs
unsigned_extended xs n = omega (arith, unsigned-append xs (replicate n false), ap (λ t. 2 ^ length xs * t) (unsigned-clear n))

-- with at least one zero above it, a number has one value read either way
pub signed_with_zero : (xs : List Bool) (n : ℕ) → 0 < n → signed_value (xs ++ replicate n false) ≡ pos (unsigned_value xs)
signed_with_zero xs zero h = absurd (omega arith)
signed_with_zero xs (suc n) h =
    ap (λ b. pos (unsigned_value (xs ++ replicate (suc n) false)) -ℤ pos (bit_value b * 2 ^ length (xs ++ replicate (suc n) false))) (last-append false xs (replicate (suc n) false) ∙ last-replicate false n)
    ∙ omega (arith, ints, unsigned_extended xs (suc n))

-- the extension law: at a width that is no narrower the value stays
pub extension_law : (signed : Bool) (width : ℕ) (xs : List Bool) → length xs ≤ width → word_value signed (extended_bits signed width xs) ≡ word_value signed xs
extension_law true width xs h =
    ap (λ ys. signed_value (ys ++ replicate (width - length xs) (top_bit xs))) (take_all width xs h) ∙ signed_extended xs (width - length xs)
extension_law false width xs h =
    ap (λ ys. pos (unsigned_value (ys ++ replicate (width - length xs) false))) (take_all width xs h) ∙ ap pos (unsigned_extended xs (width - length xs))
