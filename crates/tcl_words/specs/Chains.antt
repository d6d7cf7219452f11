-- Sums with a carry and differences with a borrow, in one form.
use Rattle.std.specs.Prelude.{ℕ, List}
use Rattle.tcl_gates.specs.declared.gate.Gate.{Gate}
use Rattle.tcl_circuits.specs.Circuits.{adder, difference}
use Rattle.tcl_circuits.specs.Wires.{Carried}
use Rattle.tcl_words.specs.declared.chain.Chain.{Chain}
use Rattle.tcl_words.specs.declared.chain.Chain.TheVariants.{Sum, Difference}

-- the sum or the difference of two words, by its kind
abbrev pub chained : Chain → List Gate → List ℕ → List ℕ → ℕ → Carried
chained Sum gates xs ys carry = adder gates xs ys carry
chained Difference gates xs ys carry = difference gates xs ys carry
