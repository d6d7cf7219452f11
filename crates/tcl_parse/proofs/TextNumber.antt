-- The value of decimal digits never falls as digits are added.
use Rattle.std.proofs.Common.{◌≡◌, ◌<◌, ◌≤◌, ◌+◌, ◌*◌, ◌-◌, ◌^◌, ℕ, ℤ, List, [], ◌∷◌, ◌++◌, length, get_or, drop, take, Option, sym, ◌∙◌, arith, ap}
use Rattle.std.specs.Prelude.{Some, None, nat_lt, pos, if◌then◌else◌}
use Rattle.std.specs.List.{fold}
use Rattle.std.proofs.lemmas.Bool.{le-ltb}
use Rattle.std.proofs.lemmas.List.{take-append-drop}
use Rattle.std.proofs.lemmas.List.Sums.{fold-append, fold_more}
use Rattle.tcl_text.specs.Tokens.{value_of}

grows : (n : ℕ) (digits : List ℕ) → n ≤ fold (λ n d. 10 * n + (d - 48)) n digits
grows n [] = omega arith
grows n (d ∷ digits) = let h = grows (10 * n + (d - 48)) digits in omega (arith, h)

-- one digit more
pub value_more : (first : ℕ) (digits : List ℕ) (i : ℕ) (value : ℕ) → i < length digits → value ≡ value_of (first ∷ take i digits) →
    10 * value + (get_or digits i 0 - 48) ≡ value_of (first ∷ take (i + 1) digits)
value_more first digits i value within e =
    let more : value_of (first ∷ take (i + 1) digits) ≡ 10 * value_of (first ∷ take i digits) + (get_or digits i 0 - 48) =
    fold_more (λ n d. 10 * n + (d - 48)) (10 * 0 + (first - 48)) digits i 0 within in
    ap (λ n. 10 * n + (get_or digits i 0 - 48)) e ∙ sym more

-- the number of these digits
abbrev pub number : ℕ → Option ℤ
number n = if nat_lt n (2 ^ 127) then Some (pos n) else None

pub none : (n : ℕ) → 2 ^ 127 ≤ n → None ≡ number n
none n high = ap (λ b. if b then Some (pos n) else None) (sym (le-ltb _ _ high))

pub too_great : (first : ℕ) (digits : List ℕ) (i value : ℕ) → i < length digits → value ≡ value_of (first ∷ take i digits) →
    2 ^ 128 ≤ 10 * value + (get_or digits i 0 - 48) → None ≡ number (value_of (first ∷ digits))
too_great first digits i value within e great =
    let more = value_more first digits i value within e in
    let parts : value_of (first ∷ (take (i + 1) digits ++ drop (i + 1) digits)) ≡ fold (λ n d. 10 * n + (d - 48)) (value_of (first ∷ take (i + 1) digits)) (drop (i + 1) digits) =
    fold-append (λ n d. 10 * n + (d - 48)) (10 * 0 + (first - 48)) (take (i + 1) digits) (drop (i + 1) digits) in
    let whole : value_of (first ∷ (take (i + 1) digits ++ drop (i + 1) digits)) ≡ value_of (first ∷ digits) =
    ap (λ ds. value_of (first ∷ ds)) (take-append-drop (i + 1) digits) in
    let up = grows (value_of (first ∷ take (i + 1) digits)) (drop (i + 1) digits) in
    none _ (omega (arith, more, parts, whole, up, great))
