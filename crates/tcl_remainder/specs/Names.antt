-- The unknowns of plain data by the keys that monomials have for them, and back.
use Rattle.std.specs.Prelude.{ℕ, ◌-◌, ◌^◌, nat_lt, Bool, ◌&&◌, if◌then◌else◌}
use Rattle.tcl_goals.specs.declared.remainder.Name.{Name}
use Rattle.tcl_goals.specs.declared.remainder.Name.TheVariants.{Var, Quot}
use Rattle.tcl_goals.specs.Remainder.{key_of}
use Rattle.tcl_poly.specs.Unknown.{variable_key}

-- the key of an unknown in a monomial
abbrev pub monomial_key : Name → ℕ
monomial_key name = variable_key (key_of name)

-- the unknown of a key
abbrev pub name_of : ℕ → Name
name_of key = if nat_lt key (variable_key (2 ^ 32)) then Var (key - 1) else Quot (key - variable_key (2 ^ 32))

-- some unknown has this key; the quotient of the place 2 ^ 32 - 1, which is none, would have 2 ^ 33
abbrev pub has_name : ℕ → Bool
has_name key = nat_lt 0 key && nat_lt key (2 ^ 33)
