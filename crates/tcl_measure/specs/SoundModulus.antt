-- Moduli that typing allows, with parts as a text has them: their value is positive.
use Rattle.std.specs.Prelude.{◌≡◌, Bool, true, false, List, [], ◌∷◌, Option, Some, None}
use Rattle.tcl_lang.specs.declared.term.Part.{Part}
use Rattle.tcl_lang.specs.declared.pred.Pred.{Pred}
use Rattle.tcl_lang.specs.declared.pred.Pred.TheVariants.{Alg, Rng}
use Rattle.tcl_lang.specs.declared.pred.Line.{Line}
use Rattle.tcl_lang.specs.Modulus.{is_modulus}
use Rattle.tcl_lang.specs.Modulus as moduli
use Rattle.tcl_lang.specs.Shape.{is_parts}
use Rattle.tcl_lang.specs.Line.{predicate_of}

-- the parts have the shape that a text gives them, and are those of a modulus
pub record IsSoundModulus (parts : List Part) : Type 0 where
  pub shape : is_parts (Some parts) ≡ true
  pub sound : is_modulus parts ≡ true

-- the exponent of the first part is above 126
abbrev pub begins_wide : List Part → Bool
begins_wide [] = false
begins_wide (p ∷ ps) = moduli.begins_wide p.power

-- the modulus of an equation, where it has one
abbrev pub IsSound : Option (List Part) → Type 0
IsSound None = Unit {0}
IsSound (Some parts) = IsSoundModulus parts

-- the modulus of what is stated, where it has one
abbrev pub StatesSound : Option Pred → Type 0
StatesSound None = Unit {0}
StatesSound (Some (Alg p)) = IsSound p.modulus
StatesSound (Some (Rng p)) = Unit {0}

-- the modulus of what the line states, where it has one; so it is with each line of a versioned form
abbrev pub HasSoundModulus : Line → Type 0
HasSoundModulus l = StatesSound (predicate_of l)
