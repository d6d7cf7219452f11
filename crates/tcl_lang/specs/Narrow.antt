-- Lines whose truth 128 bits always tell, by bounds that look at the types of names alone.
use Rattle.std.specs.Prelude.{nat_lt, Bool, true, not, List, Option, Some, None}
use Rattle.tcl_lang.specs.declared.ty.Ty.{Ty}
use Rattle.tcl_lang.specs.declared.term.Term.{Term}
use Rattle.tcl_lang.specs.declared.term.Part.{Part}
use Rattle.tcl_lang.specs.declared.pred.Pred.{Pred}
use Rattle.tcl_lang.specs.declared.pred.Pred.TheVariants.{Alg, Rng}
use Rattle.tcl_lang.specs.declared.pred.Line.{Line}
use Rattle.tcl_lang.specs.Modulus.{is_wide_modulus}
use Rattle.tcl_lang.specs.Bound.{static_size, size_end}
use Rattle.tcl_lang.specs.Line.{predicate_of}

-- an equation without a modulus has a size below the end, one with a modulus has a modulus that is not wide
abbrev pub is_narrow_equation : List Ty → Term → Term → Option (List Part) → Bool
is_narrow_equation types f g None = nat_lt (static_size types f g) size_end
is_narrow_equation types f g (Some m) = not (is_wide_modulus m)

-- what is stated keeps these bounds; a range predicate always does
abbrev pub is_narrow_stated : List Ty → Option Pred → Bool
is_narrow_stated types None = true
is_narrow_stated types (Some (Alg p)) = is_narrow_equation types p.left p.right p.modulus
is_narrow_stated types (Some (Rng p)) = true

-- the line keeps these bounds over names of these types
abbrev pub is_narrow : List Ty → Line → Bool
is_narrow types l = is_narrow_stated types (predicate_of l)
