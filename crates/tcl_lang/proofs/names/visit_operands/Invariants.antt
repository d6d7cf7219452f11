-- The operands that are left, told to who was told the others, do what all do to who was told none.
use Rattle.std.proofs.Common.{◌≡◌, drop}
use Rattle.std.specs.List.{fold}
use Rattle.tcl_lang.specs.Told.{after_operand}
use Rattle.tcl_lang.proofs.names.visit_operands.Given as goal

abbrev pub invariant-loop-atom : goal.invariant-loop-atom
invariant-loop-atom g l =
    fold (after_operand g.V.NameVisitor.after) l.visitor (drop l.atom-index l.atoms) ≡ fold (after_operand g.V.NameVisitor.after) l.fn.visitor l.atoms
