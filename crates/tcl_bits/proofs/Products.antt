-- The product by shifted rows, at every width.
use Rattle.std.proofs.Common.{◌≡◌, ℕ, ◌+◌, ◌-◌, ◌*◌, ◌^◌, ◌≤◌, Bool, true, false, ◌&&◌, List, [], ◌∷◌, map, length, take, drop, sym, ap, subst, ◌∙◌, arith, pow-add, take_all, length-take, length-drop, length-append}
use lib.ListN.{length-map, length-replicate}
use Rattle.tcl_bits.specs.Value.{bit_value, unsigned_value}
use Rattle.tcl_bits.specs.Circuit.{sum_bits, carry_out, row_bits, row_added, rows_added, product_bits}
use Rattle.tcl_bits.proofs.Values.{unsigned-append, unsigned-clear}
use Rattle.tcl_bits.proofs.Sums.{adder_law, length-sum_bits}
use Rattle.tcl_bits.proofs.Cuts.{split_law}

-- a word met with one bit is the word or nothing
row_value : (xs : List Bool) (y : Bool) → unsigned_value (map (λ x. x && y) xs) ≡ bit_value y * unsigned_value xs
row_value [] y = omega arith
row_value (true ∷ xs) true = omega (arith, row_value xs true)
row_value (true ∷ xs) false = omega (arith, row_value xs false)
row_value (false ∷ xs) true = omega (arith, row_value xs true)
row_value (false ∷ xs) false = omega (arith, row_value xs false)

-- a row has as many bits as asked for
pub length-row_bits : (xs : List Bool) (y : Bool) (count : ℕ) → count ≤ length xs → length (row_bits xs y count) ≡ count
length-row_bits xs y count h = length-map (take count xs) (λ x. x && y) ∙ length-take count xs ∙ omega arith

-- a product keeps its width when a row is added
pub length-row_added : (xs : List Bool) (place : ℕ) (y : Bool) (sum : List Bool) → length sum ≡ length xs → place ≤ length xs
    → length (row_added xs place y sum) ≡ length xs
length-row_added xs place y sum e h =
    let row = row_bits xs y (length xs - place) in
    let rest = length-sum_bits (drop place sum) row false (length-drop place sum ∙ sym (length-row_bits xs y (length xs - place) (omega arith) ∙ ap (λ n. n - place) (sym e))) in
    omega (arith, length-append (take place sum) (sum_bits (drop place sum) row false), rest, length-take place sum, length-drop place sum)

-- the arithmetic of a row: p is 2 ^ place, q what is left of the width, x the word cut there, s the sum cut at the place
row_arithmetic : (p q w x x0 x1 y s t d n r c new : ℕ)
    → w ≡ p * q → x ≡ x0 + q * x1 → s ≡ t + p * d → r ≡ y * x0 → n + q * c ≡ d + r + 0 → new ≡ t + p * n
    → new + w * (c + y * x1) ≡ s + p * (y * x)
row_arithmetic p q w x x0 x1 y s t d n r c new e f g h i j =
    let a = ap (λ t. p * t) i in
    let b = ap (λ t. p * t) h in
    let u = ap (λ t. p * (y * t)) f in
    let v = ap (λ t. t * (c + y * x1)) e in
    omega arith

-- a row added is that multiple more, but for what goes above the width
row_law : (xs : List Bool) (place : ℕ) (y : Bool) (sum : List Bool) → length sum ≡ length xs → place ≤ length xs
    → (k : ℕ) × (unsigned_value (row_added xs place y sum) + 2 ^ length xs * k ≡ unsigned_value sum + 2 ^ place * (bit_value y * unsigned_value xs))
row_law xs place y sum e h =
    let left = length xs - place in
    let row = row_bits xs y left in
    let added = sum_bits (drop place sum) row false in
    let rest : length (drop place sum) ≡ left = length-drop place sum ∙ ap (λ n. n - place) e in
    let whole : place + left ≡ length xs = omega arith in
    let front : length (take place sum) ≡ place = length-take place sum ∙ omega arith in (
      bit_value (carry_out (drop place sum) row false) + bit_value y * unsigned_value (drop left xs),
      row_arithmetic (2 ^ place) (2 ^ left) (2 ^ length xs) (unsigned_value xs) (unsigned_value (take left xs)) (unsigned_value (drop left xs)) (bit_value y)
          (unsigned_value sum) (unsigned_value (take place sum)) (unsigned_value (drop place sum)) (unsigned_value added) (unsigned_value row)
          (bit_value (carry_out (drop place sum) row false)) (unsigned_value (row_added xs place y sum))
          (ap (λ n. 2 ^ n) (sym whole) ∙ pow-add 2 place left)
          (split_law left xs)
          (split_law place sum)
          (row_value (take left xs) y)
          (subst (λ (n : ℕ). unsigned_value added + 2 ^ n * bit_value (carry_out (drop place sum) row false) ≡ unsigned_value (drop place sum) + unsigned_value row + 0) rest
          (adder_law (drop place sum) row false (rest ∙ sym (length-row_bits xs y left (omega arith)))))
          (unsigned-append (take place sum) added ∙ ap (λ n. unsigned_value (take place sum) + 2 ^ n * unsigned_value added) front),
    )

rows_arithmetic : (w p p' x y ys s s' r k j : ℕ) → p' ≡ p * 2 → s' + w * j ≡ s + p * (y * x) → r + w * k ≡ s' + p' * (ys * x) → r + w * (k + j) ≡ s + p * ((y + 2 * ys) * x)
rows_arithmetic w p p' x y ys s s' r k j e f g = let a = ap (λ t. t * (ys * x)) e in omega arith

-- all rows of these bits
rows_law : (xs : List Bool) (place : ℕ) (ys sum : List Bool) → length sum ≡ length xs → place + length ys ≤ length xs
    → (k : ℕ) × (unsigned_value (rows_added xs place ys sum) + 2 ^ length xs * k ≡ unsigned_value sum + 2 ^ place * (unsigned_value ys * unsigned_value xs))
rows_law xs place [] sum e h = (0, omega arith)
rows_law xs place (y ∷ ys) sum e h =
    let next = row_added xs place y sum in
    let one = row_law xs place y sum e (omega arith) in
    let rest = rows_law xs (place + 1) ys next (length-row_added xs place y sum e (omega arith)) (omega arith) in (
      rest.0 + one.0,
      rows_arithmetic (2 ^ length xs) (2 ^ place) (2 ^ (place + 1)) (unsigned_value xs) (bit_value y) (unsigned_value ys) (unsigned_value sum) (unsigned_value next)
          (unsigned_value (rows_added xs (place + 1) ys next)) rest.0 one.0 (pow-add 2 place 1) one.1 rest.1,
    )

pub length-rows_added : (xs : List Bool) (place : ℕ) (ys sum : List Bool) → length sum ≡ length xs → place + length ys ≤ length xs → length (rows_added xs place ys sum) ≡ length xs
length-rows_added xs place [] sum e h = e
length-rows_added xs place (y ∷ ys) sum e h =
    length-rows_added xs (place + 1) ys (row_added xs place y sum) (length-row_added xs place y sum e (omega arith)) (omega arith)

-- a product has as many bits as its first factor
pub length-product_bits : (xs ys : List Bool) → length ys ≤ length xs → length (product_bits xs ys) ≡ length xs
length-product_bits xs [] h = length-replicate (length xs) false
length-product_bits xs (y ∷ ys) h = length-rows_added xs 1 ys (row_bits xs y (length xs)) (length-row_bits xs y (length xs) (omega arith)) (omega arith)

product_arithmetic : (w x y ys s r k : ℕ) → s ≡ y * x → r + w * k ≡ s + 2 * (ys * x) → r + w * k ≡ x * (y + 2 * ys)
product_arithmetic w x y ys s r k e f = omega arith

-- the bits of the product are the product, but for what goes above the width
pub product_law : (xs ys : List Bool) → length ys ≤ length xs → (k : ℕ) × (unsigned_value (product_bits xs ys) + 2 ^ length xs * k ≡ unsigned_value xs * unsigned_value ys)
product_law xs [] h = (0, omega (arith, unsigned-clear (length xs)))
product_law xs (y ∷ ys) h =
    let first = row_bits xs y (length xs) in
    let rest = rows_law xs 1 ys first (length-row_bits xs y (length xs) (omega arith)) (omega arith) in (
      rest.0,
      product_arithmetic (2 ^ length xs) (unsigned_value xs) (bit_value y) (unsigned_value ys) (unsigned_value first) (unsigned_value (rows_added xs 1 ys first)) rest.0
          (row_value (take (length xs) xs) y ∙ ap (λ zs. bit_value y * unsigned_value zs) (take_all (length xs) xs (omega arith)))
          rest.1,
    )
