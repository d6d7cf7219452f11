-- The ring laws of the integers: the product is associative and distributes over sums and differences.
-- An integer z is read as `up z - down z`; a product of sums is multiplied out part by part.
use Rattle.std.proofs.Common.{◌≡◌, ◌*◌, sym, ◌∙◌, ap, arith, ℤ, pos, negsuc, ◌+ℤ◌, ◌-ℤ◌, ◌*ℤ◌, neg_ℤ}
use Rattle.std.proofs.lemmas.Int.{ints}
use lib.IntN.{*ℤ_comm, +ℤ_comm, +ℤ_assoc, +ℤ_idl, +ℤ_idr, +ℤ_invr, *ℤ-zero, zero-*ℤ}
use borrow.Author.Differences.{up, down, same_in, sum_is_lem, neg_is, product_is}

pub int_add_comm : (a b : ℤ) → a +ℤ b ≡ b +ℤ a
int_add_comm a b = +ℤ_comm a b

pub int_add_assoc : (a b c : ℤ) → (a +ℤ b) +ℤ c ≡ a +ℤ (b +ℤ c)
int_add_assoc a b c = +ℤ_assoc a b c

pub int_add_zero : (a : ℤ) → a +ℤ pos 0 ≡ a
int_add_zero a = +ℤ_idr a

pub int_zero_add : (a : ℤ) → pos 0 +ℤ a ≡ a
int_zero_add a = +ℤ_idl a

pub int_sub_self : (a : ℤ) → a -ℤ a ≡ pos 0
int_sub_self a = +ℤ_invr a

-- a sum without one part is the other
pub int_add_sub : (a b : ℤ) → (a +ℤ b) -ℤ b ≡ a
int_add_sub a b = omega (arith, ints)

pub int_sub_add : (a b : ℤ) → (a -ℤ b) +ℤ b ≡ a
int_sub_add a b = omega (arith, ints)

-- a zero difference makes the two equal
pub int_sub_zero : (a b : ℤ) → a -ℤ b ≡ pos 0 → a ≡ b
int_sub_zero a b e = omega (arith, ints)

pub int_neg_neg : (a : ℤ) → neg_ℤ (neg_ℤ a) ≡ a
int_neg_neg a = omega (arith, ints)

pub int_mul_comm : (a b : ℤ) → a *ℤ b ≡ b *ℤ a
int_mul_comm a b = *ℤ_comm a b

pub int_mul_zero : (a : ℤ) → a *ℤ pos 0 ≡ pos 0
int_mul_zero a = *ℤ-zero a

pub int_zero_mul : (a : ℤ) → pos 0 *ℤ a ≡ pos 0
int_zero_mul a = zero-*ℤ a

pub int_mul_one : (a : ℤ) → a *ℤ pos 1 ≡ a
int_mul_one a = omega (arith, same_in, product_is)

pub int_one_mul : (a : ℤ) → pos 1 *ℤ a ≡ a
int_one_mul a = int_mul_comm (pos 1) a ∙ int_mul_one a

pub int_add_mul : (a b c : ℤ) → (a +ℤ b) *ℤ c ≡ a *ℤ c +ℤ b *ℤ c
int_add_mul a b c =
    let sum = sum_is_lem a b in
    let above = ap (λ x. x * up c) sum in
    let below = ap (λ x. x * down c) sum in
    omega (arith, same_in, sum_is_lem, product_is)

pub int_mul_add : (a b c : ℤ) → a *ℤ (b +ℤ c) ≡ a *ℤ b +ℤ a *ℤ c
int_mul_add a b c =
    let sum = sum_is_lem b c in
    let above = ap (λ x. up a * x) sum in
    let below = ap (λ x. down a * x) sum in
    omega (arith, same_in, sum_is_lem, product_is)

pub int_neg_mul : (a b : ℤ) → neg_ℤ a *ℤ b ≡ neg_ℤ (a *ℤ b)
int_neg_mul a b =
    let n = neg_is a in
    let n0 = ap (λ x. x * up b) n.0 in let n1 = ap (λ x. x * down b) n.0 in
    let n2 = ap (λ x. x * up b) n.1 in let n3 = ap (λ x. x * down b) n.1 in
    omega (arith, same_in, neg_is, product_is)

pub int_mul_neg : (a b : ℤ) → a *ℤ neg_ℤ b ≡ neg_ℤ (a *ℤ b)
int_mul_neg a b = int_mul_comm a (neg_ℤ b) ∙ int_neg_mul b a ∙ ap neg_ℤ (int_mul_comm b a)

pub int_sub_mul : (a b c : ℤ) → (a -ℤ b) *ℤ c ≡ a *ℤ c -ℤ b *ℤ c
int_sub_mul a b c = int_add_mul a (neg_ℤ b) c ∙ ap (λ x. a *ℤ c +ℤ x) (int_neg_mul b c)

pub int_mul_sub : (a b c : ℤ) → a *ℤ (b -ℤ c) ≡ a *ℤ b -ℤ a *ℤ c
int_mul_sub a b c = int_mul_add a b (neg_ℤ c) ∙ ap (λ x. a *ℤ b +ℤ x) (int_mul_neg a c)

pub int_mul_assoc : (a b c : ℤ) → (a *ℤ b) *ℤ c ≡ a *ℤ (b *ℤ c)
int_mul_assoc a b c =
    let l = product_is a b in let r = product_is b c in
    let l0 = ap (λ x. x * up c) l.0 in let l1 = ap (λ x. x * down c) l.0 in
    let l2 = ap (λ x. x * up c) l.1 in let l3 = ap (λ x. x * down c) l.1 in
    let r0 = ap (λ x. up a * x) r.0 in let r1 = ap (λ x. down a * x) r.0 in
    let r2 = ap (λ x. up a * x) r.1 in let r3 = ap (λ x. down a * x) r.1 in
    omega (arith, same_in, product_is)

-- the two outer factors change places
pub int_mul_swap : (a b c : ℤ) → a *ℤ (b *ℤ c) ≡ b *ℤ (a *ℤ c)
int_mul_swap a b c = sym (int_mul_assoc a b c) ∙ ap (λ x. x *ℤ c) (int_mul_comm a b) ∙ int_mul_assoc b a c

pub int_minus_one_mul : (a : ℤ) → negsuc 0 *ℤ a ≡ neg_ℤ a
int_minus_one_mul a = int_neg_mul (pos 1) a ∙ ap neg_ℤ (int_one_mul a)
