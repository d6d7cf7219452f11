-- Doubling and adding along binary digits keeps the residue of a product.
use Rattle.std.proofs.Common.{◌≡◌, ℕ, suc, ◌+◌, ◌*◌, ◌/◌, ◌%◌, ◌^◌, sym, ◌∙◌, ap, arith}
use Rattle.std.proofs.lemmas.Nat.{div-add-mod', shr-shr}
use Rattle.std.proofs.Math.Nat.{add-mul-mod_self_right}

-- a multiple of the modulus inside a sum does not change the residue
residue_inside : (x y c m : ℕ) → (c * (x % m) + y) % m ≡ (c * x + y) % m
residue_inside x y c m =
    let whole = ap (λ z. c * z) (div-add-mod' x m) in
    let split : c * x + y ≡ (c * (x % m) + y) + c * (x / m) * m = omega arith in
    sym (ap (λ z. z % m) split ∙ add-mul-mod_self_right (c * (x % m) + y) (c * (x / m)) m)

-- one digit more
pub doubled_residue : (p a n d m : ℕ) → p ≡ (a * n) % m → (2 * p + d * a) % m ≡ (a * (2 * n + d)) % m
doubled_residue p a n d m e =
    let product : 2 * (a * n) + d * a ≡ a * (2 * n + d) = omega arith in
    ap (λ z. (2 * z + d * a) % m) e ∙ residue_inside (a * n) (d * a) 2 m ∙ ap (λ z. z % m) product

-- a sum of twice the residue and another number
pub added_residue : (p a m : ℕ) → ((p + p) % m + a) % m ≡ (2 * p + 1 * a) % m
added_residue p a m =
    let one : (p + p) % m + a ≡ 1 * ((p + p) % m) + a = omega arith in
    let two : 1 * (p + p) + a ≡ 2 * p + 1 * a = omega arith in
    ap (λ z. z % m) one ∙ residue_inside (p + p) a 1 m ∙ ap (λ z. z % m) two

-- the digits from place k on are those from the next place on and one more
pub next_digit : (b k : ℕ) → 2 * (b / 2 ^ suc k) + b / 2 ^ k % 2 ≡ b / 2 ^ k
next_digit b k =
    let place : suc k ≡ k + 1 = omega arith in
    let further : b / 2 ^ suc k ≡ b / 2 ^ k / 2 = ap (λ j. b / 2 ^ j) place ∙ sym (shr-shr b k 1) in
    omega (arith, further, div-add-mod' (b / 2 ^ k) 2)
