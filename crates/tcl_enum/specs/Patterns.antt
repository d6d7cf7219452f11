-- The assignments of the free bits of a fact, by number. Number n gives the first free variable its highest bits and the last
-- its lowest; each variable has the value of its type with this bit pattern.
use Rattle.std.specs.Prelude.{ℕ, ◌+◌, ◌/◌, ◌^◌, ℤ, pos, List, [], ◌∷◌, length, replicate, slice_get, slice_set, Option, Some, None}
use Rattle.tcl_lang.specs.declared.pred.Line.{Line}
use Rattle.tcl_lang.specs.declared.variable.Variable.{Variable}
use Rattle.tcl_lang.specs.Program.{VersionedProgram}
use Rattle.tcl_lang.specs.Types.{wrap_of}
use Rattle.tcl_lang.specs.Values.{recomputed_at}
use Rattle.tcl_goals.specs.declared.fact.Fact.{Fact}
use Rattle.tcl_goals.specs.declared.lemma.Numbered.{Numbered}
use Rattle.tcl_goals.specs.Free.{width_in, free_variables, free_bits}
use Rattle.tcl_enum.specs.declared.ended.FreeValue.{FreeValue}

-- how many bits these variables have
unfoldable pub bit_count : List Variable → List ℕ → ℕ
bit_count variables [] = 0
bit_count variables (v ∷ vs) = width_in (slice_get variables v) + bit_count variables vs

-- the value of a variable whose lowest bits are those of n
abbrev pub value_with : Option Variable → ℕ → ℤ
value_with None n = pos 0
value_with (Some x) n = wrap_of x.ty (pos n)

-- the values that assignment n gives to these variables
unfoldable pub values_numbered : List Variable → List ℕ → ℕ → List FreeValue
values_numbered variables [] n = []
values_numbered variables (v ∷ vs) n =
    record { var = v; value = value_with (slice_get variables v) (n / 2 ^ bit_count variables vs) } ∷ values_numbered variables vs n

-- the values after these were given
abbrev pub given : List FreeValue → List ℤ → List ℤ
given [] values = values
given (f ∷ fs) values = slice_set (given fs values) f.var f.value

-- the values after instructions were computed anew, in this order
abbrev pub recomputed_all : List Line → List ℕ → List ℤ → List ℤ
recomputed_all lines [] values = values
recomputed_all lines (k ∷ uses) values = recomputed_all lines uses (recomputed_at values (slice_get lines k))

-- the free variables of a fact with their values in assignment n
abbrev pub free_values : VersionedProgram → List Numbered → Fact → ℕ → List FreeValue
free_values p lemmas fact n = values_numbered p.variables (free_variables p lemmas fact) n

-- assignment n: the free variables have these values, the results of the used instructions what they compute, in order, and
-- all other variables 0
unfoldable pub assignment : VersionedProgram → List Numbered → Fact → ℕ → List ℤ
assignment p lemmas fact n =
    recomputed_all p.lines fact.uses (given (free_values p lemmas fact n) (replicate (length p.variables) (pos 0)))

-- how many assignments there are
abbrev pub assignment_count : VersionedProgram → List Numbered → Fact → ℕ
assignment_count p lemmas fact = 2 ^ length (free_bits p lemmas fact)
