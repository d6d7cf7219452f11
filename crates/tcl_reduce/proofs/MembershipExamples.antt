-- Small searches that the definitions decide by computing.
use Rattle.std.proofs.Common.{◌≡◌, refl, [], ◌∷◌, pos, negsuc, Some, None}
use Rattle.tcl_reduce.specs.Inverse.{inverse_of}
use Rattle.tcl_reduce.specs.Row.{NoInverse, WideAt}
use Rattle.tcl_reduce.specs.Multiple.{monomials_over}
use Rattle.tcl_reduce.specs.Membership.{found_of, Cofactors, Spent, Open}

inverse_of_three : inverse_of (Some 7) (pos 3) ≡ Some (pos 5)
inverse_of_three = refl

no_inverse_of_two : inverse_of (Some 6) (pos 2) ≡ None
no_inverse_of_two = refl

-- y^2, x y and x^2, from the least up
squares : monomials_over (0 ∷ (1 ∷ [])) 2 ≡ ((1, 2) ∷ []) ∷ (((0, 1) ∷ ((1, 1) ∷ [])) ∷ (((0, 2) ∷ []) ∷ []))
squares = refl

-- y is the difference of x + y + z and x + z
difference : found_of None [] ((((0, 1) ∷ [], pos 1) ∷ (((2, 1) ∷ [], pos 1) ∷ [])) ∷ ((((0, 1) ∷ [], pos 1) ∷ (((1, 1) ∷ [], pos 1) ∷ (((2, 1) ∷ [], pos 1) ∷ []))) ∷ [])) (5 ∷ (6 ∷ [])) (((1, 1) ∷ [], pos 1) ∷ []) 7 10 (((1, 1) ∷ [], pos 1) ∷ []) [] ≡ Cofactors ((0, ([], negsuc 0) ∷ []) ∷ ((1, ([], pos 1) ∷ []) ∷ []))
difference = refl

-- 2 x has no inverse in front, so x is left open with that note
twice : found_of None [] ((((0, 1) ∷ [], pos 2) ∷ []) ∷ []) (5 ∷ []) (((0, 1) ∷ [], pos 1) ∷ []) 7 10 (((0, 1) ∷ [], pos 1) ∷ []) [] ≡ Open (Some (NoInverse (pos 2)))
twice = refl

-- x y is the product of x with y
multiple : found_of None [] ((((0, 1) ∷ [], pos 1) ∷ []) ∷ []) (5 ∷ []) (((0, 1) ∷ ((1, 1) ∷ []), pos 1) ∷ []) 7 10 (((0, 1) ∷ ((1, 1) ∷ []), pos 1) ∷ []) [] ≡ Cofactors ((0, ((1, 1) ∷ [], pos 1) ∷ []) ∷ [])
multiple = refl

-- with one product allowed, y alone does not suffice
spent : found_of None [] ((((1, 1) ∷ [], pos 1) ∷ []) ∷ []) (5 ∷ []) (((0, 1) ∷ ((2, 1) ∷ []), pos 1) ∷ []) 7 1 (((0, 1) ∷ ((2, 1) ∷ []), pos 1) ∷ []) [] ≡ Spent 1
spent = refl

-- modulo 12 the cofactor of the first equation becomes 0, and no cofactor 0 is kept: a + b, 3 a + 3 b + 11, a^2 + 9, 11 b and
-- 11 c + 4 show 10 c with 8 times the second and 2 times the last
composite : found_of (Some 12) [] (((((0, 1) ∷ []), pos 1) ∷ ((((1, 1) ∷ []), pos 1) ∷ [])) ∷ (((((0, 1) ∷ []), pos 3) ∷ ((((1, 1) ∷ []), pos 3) ∷ (([], pos 11) ∷ []))) ∷ (((((0, 2) ∷ []), pos 1) ∷ (([], pos 9) ∷ [])) ∷ (((((1, 1) ∷ []), pos 11) ∷ []) ∷ (((((2, 1) ∷ []), pos 11) ∷ (([], pos 4) ∷ [])) ∷ []))))) (1 ∷ (2 ∷ (3 ∷ (4 ∷ (5 ∷ []))))) ((((2, 1) ∷ []), pos 10) ∷ []) 7 10 ((((2, 1) ∷ []), pos 10) ∷ []) [] ≡ Cofactors ((1, ([], pos 8) ∷ []) ∷ ((4, ([], pos 2) ∷ []) ∷ []))
composite = refl

-- 4 times x + 2^126 y is too great, so that step is not made, and 4 x is left open with that note
wide_step : found_of None [] ((((0, 1) ∷ [], pos 1) ∷ (((1, 1) ∷ [], pos 85070591730234615865843651857942052864) ∷ [])) ∷ []) (5 ∷ []) (((0, 1) ∷ [], pos 4) ∷ []) 7 10 (((0, 1) ∷ [], pos 4) ∷ []) [] ≡ Open (Some (WideAt 7))
wide_step = refl
