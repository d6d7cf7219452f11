-- The steps of the programs that compute by the definitions.
use Rattle.std.proofs.Common.{◌≡◌, ℕ, suc, ◌+◌, ◌-◌, ◌*◌, ◌^◌, ◌<◌, ◌≤◌, Bool, true, false, not, ◌&&◌, List, [], ◌∷◌, ◌++◌, length, drop, get_or, refl, sym, ap, ap₂, ◌∙◌, arith, drop-cons, append-nil, drop_of_length-le, eqb, length-drop, add-one}
use Rattle.std.proofs.lemmas.Bool.Decides.{nat_tests}
use Rattle.tcl_bits.specs.Circuit.{xor_bit, major_bit, sum_bits, carry_out, less_carry, less_bit, top_flipped}
use Rattle.tcl_bits.specs.Value.{bit_value, unsigned_value}
use Rattle.tcl_bits.proofs.Sums.{adder_law}

-- the answer of a less chain over the rest of two words
abbrev pub less_rest : Bool → List Bool → List Bool → Bool → Bool
less_rest true xs ys carry = not (less_carry (top_flipped xs) (top_flipped ys) carry)
less_rest false xs ys carry = not (less_carry xs ys carry)

plain_bit : (x : Bool) → x ≡ xor_bit x false
plain_bit true = refl
plain_bit false = refl

flipped_bit : (x : Bool) → not x ≡ xor_bit x true
flipped_bit true = refl
flipped_bit false = refl

chain_bit : (x x' y y' carry : Bool) → x ≡ x' → y ≡ y' → major_bit x (not y) carry ≡ major_bit x' (not y') carry
chain_bit x x' y y' carry e f = cc

kept_bit : (x : Bool) (n : ℕ) → x ≡ xor_bit x (eqb (suc n) 0)
kept_bit x n = plain_bit x ∙ ap (λ t. xor_bit x t) (above_none n)
  where
    above_none : (n : ℕ) → false ≡ eqb (suc n) 0
    above_none n = grind (arith, nat_tests)

-- one bit of the chain
less_cons : (signed x y : Bool) (xs ys : List Bool) (carry : Bool) → length xs ≡ length ys
    → less_rest signed (x ∷ xs) (y ∷ ys) carry
    ≡ less_rest signed xs ys (major_bit (xor_bit x (signed && eqb (length xs) 0)) (not (xor_bit y (signed && eqb (length xs) 0))) carry)
less_cons false x y xs ys carry e = ap (λ c. not (less_carry xs ys c)) (chain_bit x (xor_bit x false) y (xor_bit y false) carry (plain_bit x) (plain_bit y))
less_cons true x y [] [] carry e = ap not (chain_bit (not x) (xor_bit x true) (not y) (xor_bit y true) carry (flipped_bit x) (flipped_bit y))
less_cons true x y [] (b ∷ ys) carry e = absurd (omega arith)
less_cons true x y (a ∷ xs) [] carry e = absurd (omega arith)
less_cons true x y (a ∷ xs) (b ∷ ys) carry e =
    ap (λ c. not (less_carry (top_flipped (a ∷ xs)) (top_flipped (b ∷ ys)) c)) (chain_bit x (xor_bit x (eqb (suc (length xs)) 0)) y (xor_bit y (eqb (suc (length xs)) 0)) carry (kept_bit x (length xs)) (kept_bit y (length xs)))

last_place : (i n m : ℕ) → i < n → m ≡ n - (i + 1) → eqb m 0 ≡ eqb (i + 1) n
last_place i n m h e = grind (arith, nat_tests)

cut : (xs : List Bool) (i : ℕ) → i < length xs → drop i xs ≡ get_or xs i false ∷ drop (i + 1) xs
cut xs i h = drop-cons xs i false h ∙ ap (λ n. get_or xs i false ∷ drop n xs) (sym (add-one i))

-- one step of the chain over the rest of two words
pub less_step : (signed : Bool) (xs ys : List Bool) (i : ℕ) (carry : Bool) → length xs ≡ length ys → i < length xs
    → less_rest signed (drop i xs) (drop i ys) carry
    ≡ less_rest signed (drop (i + 1) xs) (drop (i + 1) ys)
    (major_bit (xor_bit (get_or xs i false) (signed && eqb (i + 1) (length xs))) (not (xor_bit (get_or ys i false) (signed && eqb (i + 1) (length xs)))) carry)
less_step signed xs ys i carry e h =
    let rest = drop (i + 1) xs in let others = drop (i + 1) ys in
    let x = get_or xs i false in let y = get_or ys i false in
    let same : length rest ≡ length others = omega (arith, length-drop (i + 1) xs, length-drop (i + 1) ys) in
    ap₂ (λ u v. less_rest signed u v carry) (cut xs i h) (cut ys i (omega arith))
    ∙ less_cons signed x y rest others carry same
    ∙ ap (λ t. less_rest signed rest others (major_bit (xor_bit x (signed && t)) (not (xor_bit y (signed && t))) carry))
    (last_place i (length xs) (length rest) h (length-drop (i + 1) xs))

-- where the index has passed the words, what is made is the sum
pub sum_ended : (xs ys bits : List Bool) (i : ℕ) (next carry : Bool) → length xs ≤ i → bits ++ sum_bits (drop i xs) (drop i ys) next ≡ sum_bits xs ys carry → bits ≡ sum_bits xs ys carry
sum_ended xs ys bits i next carry h e = sym (append-nil bits) ∙ ap (λ zs. bits ++ sum_bits zs (drop i ys) next) (sym (drop_of_length-le xs h)) ∙ e

pub carry_ended : (xs ys : List Bool) (i : ℕ) (next carry : Bool) → length xs ≤ i → carry_out (drop i xs) (drop i ys) next ≡ carry_out xs ys carry → next ≡ carry_out xs ys carry
carry_ended xs ys i next carry h e = ap (λ zs. carry_out zs (drop i ys) next) (sym (drop_of_length-le xs h)) ∙ e

pub sum_value : (xs ys bits : List Bool) (next carry : Bool) → length xs ≡ length ys → bits ≡ sum_bits xs ys carry → next ≡ carry_out xs ys carry
    → unsigned_value bits + 2 ^ length xs * bit_value next ≡ unsigned_value xs + unsigned_value ys + bit_value carry
sum_value xs ys bits next carry h e f = ap₂ (λ zs c. unsigned_value zs + 2 ^ length xs * bit_value c) e f ∙ adder_law xs ys carry h

-- the chain's step with the values that the program's calls gave
pub less_kept : (signed : Bool) (xs ys : List Bool) (i : ℕ) (carry flips x y next : Bool) (answer : Bool) → length xs ≡ length ys → i < length xs
    → flips ≡ signed && eqb (i + 1) (length xs) → x ≡ xor_bit (get_or xs i false) flips → y ≡ xor_bit (get_or ys i false) flips → next ≡ major_bit x (not y) carry
    → less_rest signed (drop i xs) (drop i ys) carry ≡ answer → less_rest signed (drop (i + 1) xs) (drop (i + 1) ys) next ≡ answer
less_kept signed xs ys i carry flips x y next answer e h a b c d f =
    let step = less_step signed xs ys i carry e h in
    let turned = ap (λ t. less_rest signed (drop (i + 1) xs) (drop (i + 1) ys) (major_bit (xor_bit (get_or xs i false) t) (not (xor_bit (get_or ys i false) t)) carry)) a in
    ap (λ t. less_rest signed (drop (i + 1) xs) (drop (i + 1) ys) t) (d ∙ ap₂ (λ u v. major_bit u (not v) carry) b c) ∙ turned ∙ sym step ∙ f

-- where the index has passed the words, the flipped carry is the answer
pub less_ended : (signed : Bool) (xs ys : List Bool) (i : ℕ) (carry : Bool) → length xs ≤ i → less_rest signed (drop i xs) (drop i ys) carry ≡ less_bit signed xs ys → not carry ≡ less_bit signed xs ys
less_ended true xs ys i carry h e = ap (λ zs. not (less_carry (top_flipped zs) (top_flipped (drop i ys)) carry)) (sym (drop_of_length-le xs h)) ∙ e
less_ended false xs ys i carry h e = ap (λ zs. not (less_carry zs (drop i ys) carry)) (sym (drop_of_length-le xs h)) ∙ e
