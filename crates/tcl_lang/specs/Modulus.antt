-- Moduli: their value, which lists of parts are one, and which are wide.
use Rattle.std.specs.Prelude.{ℕ, ◌^◌, ℤ, pos, neg_ℤ, ◌+ℤ◌, int_lt, nat_lt, Bool, true, false, not, ◌&&◌, ◌||◌, if◌then◌else◌, List, [], ◌∷◌, Option, Some, None}
use Rattle.std.specs.Ordering.{int_eq}
use Rattle.tcl_lang.specs.declared.term.Part.{Part}
use Rattle.tcl_lang.specs.Term.{power_of}

-- a base, or a power of it
abbrev pub raised : ℤ → Option ℕ → ℤ
raised base None = base
raised base (Some k) = power_of base k

-- the value of one part, with its sign
abbrev pub part_value : Part → ℤ
part_value p = if p.minus then neg_ℤ (raised p.base p.power) else raised p.base p.power

-- the value of a modulus
unfoldable pub modulus_value : List Part → ℤ
modulus_value [] = pos 0
modulus_value (p ∷ ps) = part_value p +ℤ modulus_value ps

-- the last part of all, where it is a plain number below 2 ^ k, and so less than the power before it
abbrev pub ends_below : ℕ → ℤ → List Part → Bool
ends_below k n [] = int_lt n (pos (2 ^ k))
ends_below k n (p ∷ ps) = false

-- a part after the power 2 ** k: a plain number ends the list, a power goes on with what is said of it
abbrev pub falls_on : ℕ → ℤ → Option ℕ → List Part → (ℕ → Bool) → Bool
falls_on k base None ps rest = ends_below k base ps
falls_on k base (Some j) ps rest = int_eq base (pos 2) && nat_lt j k && rest j

-- after the power 2 ** k come powers of 2 with falling exponents, and then at most one plain number
unfoldable pub falls_from : ℕ → List Part → Bool
falls_from k [] = true
falls_from k (p ∷ ps) = falls_on k p.base p.power ps (λ j. falls_from j ps)

-- a modulus is one number from 1, or such a list that begins with a power of 2 and a plus
abbrev pub begins_modulus : Bool → ℤ → Option ℕ → List Part → Bool
begins_modulus minus base None [] = not minus && int_lt (pos 0) base
begins_modulus minus base None (p ∷ ps) = false
begins_modulus minus base (Some k) ps = not minus && int_eq base (pos 2) && falls_from k ps

abbrev pub is_modulus : List Part → Bool
is_modulus [] = false
is_modulus (p ∷ ps) = begins_modulus p.minus p.base p.power ps

-- the exponent of the first part is above 126
abbrev pub begins_wide : Option ℕ → Bool
begins_wide None = false
begins_wide (Some k) = nat_lt 126 k

-- a modulus is wide where that is so, or its value is above 2 ^ 126
abbrev pub is_wide_modulus : List Part → Bool
is_wide_modulus [] = false
is_wide_modulus (p ∷ ps) = begins_wide p.power || int_lt (pos (2 ^ 126)) (modulus_value (p ∷ ps))
