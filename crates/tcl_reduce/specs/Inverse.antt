-- The inverse of an element, where it has one.
use Rattle.std.specs.Prelude.{ℕ, zero, suc, ◌==◌, if◌then◌else◌, ℤ, pos, ◌*ℤ◌, unsigned_abs, Option, None, Some}
use Rattle.std.specs.Int.{int_rem_euclid}

abbrev pub or_else : Option ℤ → Option ℤ → Option ℤ
or_else None b = b
or_else (Some a) b = Some a

-- the residue below n whose product with c is 1 modulo m
abbrev pub residue_inverse : ℕ → ℤ → ℕ → Option ℤ
residue_inverse m c zero = None
residue_inverse m c (suc k) =
    or_else (residue_inverse m c k)
    (if unsigned_abs (int_rem_euclid (c *ℤ pos k) (pos m)) == unsigned_abs (int_rem_euclid (pos 1) (pos m)) then Some (pos k) else None)

-- the element whose product with c is 1, where there is one
abbrev pub inverse_of : Option ℕ → ℤ → Option ℤ
inverse_of None c = if unsigned_abs c == 1 then Some c else None
inverse_of (Some m) c = residue_inverse m c m
