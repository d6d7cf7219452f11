-- Polynomials as lists of summands. Unknowns are numbered, variables before the quotients of lines; the order is graded, as
-- in Cox, Little, O'Shea, Ideals, Varieties, and Algorithms, chapter 2.
use Rattle.std.specs.Prelude.{ℕ, ℤ, pos, neg_ℤ, ◌+◌, ◌^◌, int_lt, nat_lt, Bool, true, false, ◌&&◌, ◌||◌, List, [], ◌∷◌}
use Rattle.std.specs.List.{list_all}
use Rattle.std.specs.Ordering.{nat_cmp, ordering_then}
use Rattle.std.specs.declared.cmp.Ordering.{Ordering}
use Rattle.std.specs.declared.cmp.Ordering.TheVariants.{Less, Equal, Greater}
use Rattle.tcl_goals.specs.declared.remainder.Name.{Name}
use Rattle.tcl_goals.specs.declared.remainder.Name.TheVariants.{Var, Quot}
use Rattle.tcl_goals.specs.declared.remainder.Power.{Power}
use Rattle.tcl_goals.specs.declared.remainder.Summand.{Summand}

-- the number of an unknown
abbrev pub key_of : Name → ℕ
key_of (Var v) = v
key_of (Quot place) = 2 ^ 32 + place

-- an unknown of this kind: a quotient is of a place below 2 ^ 32 - 1
abbrev pub is_name : Name → Bool
is_name (Var v) = true
is_name (Quot place) = nat_lt (place + 1) (2 ^ 32)

-- unknowns increase, with exponents from 1
abbrev pub powers_rise : List Power → Bool
powers_rise [] = true
powers_rise (a ∷ []) = true
powers_rise (a ∷ b ∷ powers) = nat_lt (key_of a.name) (key_of b.name) && powers_rise (b ∷ powers)

abbrev pub is_power : Power → Bool
is_power a = is_name a.name && nat_lt 0 a.exponent

abbrev pub are_powers : List Power → Bool
are_powers powers = powers_rise powers && list_all is_power powers

-- the degree of a product of powers
abbrev pub degree_of : List Power → ℕ
degree_of [] = 0
degree_of (a ∷ powers) = a.exponent + degree_of powers

-- the first unknown with different exponents decides, by the higher exponent
abbrev pub lex_at : Ordering → Ordering → Ordering
lex_at Less further = Greater
lex_at Equal further = further
lex_at Greater further = Less

abbrev pub lex_of : List Power → List Power → Ordering
lex_of [] [] = Equal
lex_of [] (b ∷ others) = Less
lex_of (a ∷ powers) [] = Greater
lex_of (a ∷ powers) (b ∷ others) =
    lex_at (nat_cmp (key_of a.name) (key_of b.name)) (ordering_then (nat_cmp a.exponent b.exponent) (lex_of powers others))

-- the graded order
abbrev pub order_of : List Power → List Power → Ordering
order_of a b = ordering_then (nat_cmp (degree_of a) (degree_of b)) (lex_of a b)

abbrev pub is_greater : Ordering → Bool
is_greater Greater = true
is_greater _ = false

-- a coefficient: not 0, and below 2 ^ 127 in magnitude
abbrev pub is_coefficient : ℤ → Bool
is_coefficient c = (int_lt c (pos 0) || int_lt (pos 0) c) && int_lt (neg_ℤ (pos (2 ^ 127))) c && int_lt c (pos (2 ^ 127))

abbrev pub is_summand : Summand → Bool
is_summand s = is_coefficient s.coefficient && are_powers s.powers

-- each summand is greater than the next
abbrev pub summands_fall : List Summand → Bool
summands_fall [] = true
summands_fall (a ∷ []) = true
summands_fall (a ∷ b ∷ summands) = is_greater (order_of a.powers b.powers) && summands_fall (b ∷ summands)

-- the list is a polynomial
abbrev pub is_remainder : List Summand → Bool
is_remainder summands = list_all is_summand summands && summands_fall summands
