-- The circuits of range terms and predicates, and the bits that terms show.
use Rattle.std.specs.Prelude.{ℕ, Bool, false, ◌&&◌, ◌||◌, List, [], ◌∷◌, ◌++◌, map, slice_index_or}
use Rattle.tcl_cnf.specs.Literal.{neg}
use Rattle.tcl_gates.specs.declared.gate.Gate.{Gate}
use Rattle.tcl_lang.specs.declared.ty.Ty.{Ty}
use Rattle.tcl_lang.specs.declared.instr.Atom.{Atom}
use Rattle.tcl_lang.specs.declared.instr.Atom.TheVariants.{Var, Lit}
use Rattle.tcl_lang.specs.declared.range.RngOp.{RngOp}
use Rattle.tcl_lang.specs.declared.range.RngOp.TheVariants.{Add, Sub, Mul, And, Or, Xor}
use Rattle.tcl_lang.specs.declared.range.CmpOp.{CmpOp}
use Rattle.tcl_lang.specs.declared.range.CmpOp.TheVariants.{Eq, Ne, Lt, Le, Gt, Ge}
use Rattle.tcl_lang.specs.declared.range.RngTerm.{RngTerm, RngTerm-F, fold-RngTerm}
use Rattle.tcl_lang.specs.declared.range.RngTerm.TheOpen as term_layer
use Rattle.tcl_lang.specs.declared.range.RngPred.{RngPred, RngPred-F, fold-RngPred}
use Rattle.tcl_lang.specs.declared.range.RngPred.TheOpen as pred_layer
use Rattle.tcl_bits.specs.Circuit.{xor_bit, sum_bits, difference_bits, product_bits, met_bits}
use Rattle.tcl_circuits.specs.Circuits.{wire, constant, adder, difference, negation, product, bitwise_and, bitwise_xor, bitwise_or, extended, less, equal, negated}
use Rattle.tcl_circuits.specs.Wires.{Wire, Wires}
use Rattle.tcl_gates.specs.Meaning.{next_lit, AreWithin}
use Rattle.tcl_words.specs.Exactness.{plain}

-- a word with its type and the gates so far
pub record Typed : Type 0 where
  pub gates : List Gate
  pub word : List ℕ
  pub ty : Ty

abbrev pub typed : List Gate → List ℕ → Ty → Typed
typed gates word ty = record { gates = gates; word = word; ty = ty }

-- the word of an operand
abbrev pub atom_lits : List (List ℕ) → Atom → List ℕ
atom_lits words (Var name) = slice_index_or words name []
atom_lits words (Lit T n) = constant T.width n

abbrev pub atom_ty : List Ty → Atom → Ty
atom_ty types (Var name) = slice_index_or types name (record { signed = false; width = 0 })
atom_ty types (Lit T n) = T

-- the literals of each variable are of variable 0 or of one of the first n gates
pub record AllWithin (n : ℕ) (words : List (List ℕ)) : Type 0 where
  pub each : (v : ℕ) → AreWithin n (slice_index_or words v [])

-- two words by an operator
abbrev pub combined_lits : List Gate → RngOp → List ℕ → List ℕ → Wires
combined_lits gates Add a b = plain (adder gates a b 1)
combined_lits gates Sub a b = plain (difference gates a b 1)
combined_lits gates Mul a b = product gates a b
combined_lits gates And a b = bitwise_and gates a b
combined_lits gates Or a b = bitwise_or gates a b
combined_lits gates Xor a b = bitwise_xor gates a b

abbrev pub combined_bits : RngOp → List Bool → List Bool → List Bool
combined_bits Add a b = sum_bits a b false
combined_bits Sub a b = difference_bits a b false
combined_bits Mul a b = product_bits a b
combined_bits And a b = met_bits (λ x y. x && y) a b
combined_bits Or a b = met_bits (λ x y. x || y) a b
combined_bits Xor a b = met_bits xor_bit a b

abbrev pub made_typed : Wires → Ty → Typed
made_typed s T = typed s.gates s.word T

abbrev pub both_terms : RngOp → (List Gate → Typed) → Typed → Typed
both_terms op second s = let t = second s.gates in made_typed (combined_lits t.gates op s.word t.word) s.ty

-- a range term: its parts from left to right, inner first
abbrev pub term_step : List (List ℕ) → List Ty → RngTerm-F (List Gate → Typed) → List Gate → Typed
term_step words types (term_layer.Leaf atom) gates = typed gates (atom_lits words atom) (atom_ty types atom)
term_step words types (term_layer.Neg u) gates = let s = u gates in made_typed (negation s.gates s.word) s.ty
term_step words types (term_layer.Flip u) gates = let s = u gates in typed s.gates (map neg s.word) s.ty
term_step words types (term_layer.Bin op u v) gates = both_terms op v (u gates)
term_step words types (term_layer.Cast T u) gates = let s = u gates in typed s.gates (extended s.ty.signed T.width s.word) T

abbrev pub term_lits : List (List ℕ) → List Ty → RngTerm → List Gate → Typed
term_lits words types t = fold-RngTerm (List Gate → Typed) (term_step words types) t

-- a comparison of two words
abbrev pub compared_lits : List Gate → CmpOp → Bool → List ℕ → List ℕ → Wire
compared_lits gates Eq signed a b = equal gates a b
compared_lits gates Ne signed a b = negated (equal gates a b)
compared_lits gates Lt signed a b = less gates signed a b
compared_lits gates Le signed a b = negated (less gates signed b a)
compared_lits gates Gt signed a b = less gates signed b a
compared_lits gates Ge signed a b = negated (less gates signed a b)

abbrev pub both_sides : CmpOp → (List Gate → Typed) → Typed → Wire
both_sides op second s = let t = second s.gates in compared_lits t.gates op s.ty.signed s.word t.word

-- both of two literals, and either of them: the negation of neither
abbrev pub and_lit : List Gate → ℕ → ℕ → Wire
and_lit gates l m = wire (gates ++ Gate.And l m ∷ []) (next_lit gates)

abbrev pub or_lit : List Gate → ℕ → ℕ → Wire
or_lit gates l m = wire (gates ++ Gate.And (neg l) (neg m) ∷ []) (neg (next_lit gates))

abbrev pub and_lits : (List Gate → Wire) → Wire → Wire
and_lits second s = let t = second s.gates in and_lit t.gates s.lit t.lit

abbrev pub or_lits : (List Gate → Wire) → Wire → Wire
or_lits second s = let t = second s.gates in or_lit t.gates s.lit t.lit

abbrev pub pred_step : List (List ℕ) → List Ty → RngPred-F (List Gate → Wire) → List Gate → Wire
pred_step words types pred_layer.True gates = wire gates 0
pred_step words types pred_layer.False gates = wire gates 1
pred_step words types (pred_layer.Cmp op t u) gates = both_sides op (term_lits words types u) (term_lits words types t gates)
pred_step words types (pred_layer.Not p) gates = negated (p gates)
pred_step words types (pred_layer.Both p q) gates = and_lits q (p gates)
pred_step words types (pred_layer.Either p q) gates = or_lits q (p gates)

abbrev pub pred_lit : List (List ℕ) → List Ty → RngPred → List Gate → Wire
pred_lit words types p = fold-RngPred (List Gate → Wire) (pred_step words types) p
