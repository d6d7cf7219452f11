use Rattle.std.proofs.Common.{◌≡◌, ◌∷◌, take}
use Rattle.tcl_text.specs.Tokens.{value_of}
use Rattle.tcl_parse.proofs.text.digits.number_of.Given as goal

abbrev pub invariant-loop-digit : goal.invariant-loop-digit
invariant-loop-digit l = l.value ≡ value_of (l.first ∷ take l.digit-index l.digits)
