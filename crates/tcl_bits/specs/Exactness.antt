-- The circuits that tell whether an integer result lies in the range of its type: the operands are extended to a width at
-- which nothing wraps, the result is made again there, and tested for the range.
use Rattle.std.specs.Prelude.{ℕ, ◌+◌, ◌*◌, max, Bool, List, length}
use Rattle.tcl_bits.specs.Circuit.{sum_bits, difference_bits, product_bits, extended_bits, shifted_bits, range_bit}

-- the product at twice the width of its factors
abbrev pub full_product : Bool → List Bool → List Bool → List Bool
full_product signed xs ys = product_bits (extended_bits signed (2 * length xs) xs) (extended_bits signed (2 * length xs) ys)

-- the shift at a width that is greater by the count
abbrev pub full_shift : Bool → ℕ → List Bool → List Bool
full_shift signed count xs = shifted_bits count (extended_bits signed (length xs + count) xs)

-- whether a sum with carry fits: two bits more
abbrev pub sum_fits : Bool → List Bool → List Bool → Bool → Bool
sum_fits signed xs ys carry =
    let wide = length xs + 2 in
    range_bit signed (length xs) (sum_bits (extended_bits signed wide xs) (extended_bits signed wide ys) carry)

-- whether a difference with borrow fits: two bits more
abbrev pub difference_fits : Bool → List Bool → List Bool → Bool → Bool
difference_fits signed xs ys borrow =
    let wide = length xs + 2 in
    range_bit signed (length xs) (difference_bits (extended_bits signed wide xs) (extended_bits signed wide ys) borrow)

-- whether a product fits: twice the width
abbrev pub product_fits : Bool → List Bool → List Bool → Bool
product_fits signed xs ys = range_bit signed (length xs) (full_product signed xs ys)

-- whether a shifted number fits: as many bits more as it is shifted by
abbrev pub shift_fits : Bool → ℕ → List Bool → Bool
shift_fits signed count xs = range_bit signed (length xs) (full_shift signed count xs)

-- whether a number of one kind fits a type of another: one bit more than the greater width
abbrev pub cast_fits : Bool → Bool → ℕ → List Bool → Bool
cast_fits from to width xs = range_bit to width (extended_bits from (max (length xs) width + 1) xs)
