use Rattle.std.proofs.Common.{◌≡◌, map, take}
use Rattle.tcl_parse.proofs.text.numbering.names_of.Given as goal

abbrev pub invariant-loop-key : goal.invariant-loop-key
invariant-loop-key l = l.names ≡ map (λ key. key.items) (take l.key-index l.keys)
