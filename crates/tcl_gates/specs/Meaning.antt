-- What literals mean over a circuit: the bits that they show where the free variables take given bits, and how a circuit grows.
use Rattle.std.specs.Prelude.{◌≡◌, ℕ, ◌+◌, ◌*◌, ◌/◌, ◌≤◌, Bool, List, [], ◌∷◌, ◌++◌, length, slice_get, Some, map}
use Rattle.tcl_cnf.specs.Literal.{literal_true}
use Rattle.tcl_gates.specs.Gates.{value_at, values_of}
use Rattle.tcl_gates.specs.declared.gate.Gate.{Gate}

-- the literal of the variable that the next gate names
abbrev pub next_lit : List Gate → ℕ
next_lit gates = 2 * (length gates + 1)

-- the bit that a literal shows where the free variables take these bits
abbrev pub lit_bit : List Gate → List Bool → ℕ → Bool
lit_bit gates free l = literal_true (value_at (values_of gates free)) l

-- the bits that a word of literals shows, lowest first
abbrev pub word_bits : List Gate → List Bool → List ℕ → List Bool
word_bits gates free ls = map (lit_bit gates free) ls

-- each literal is of variable 0 or of one of the first n gates
pub record AreWithin (n : ℕ) (ls : List ℕ) : Type 0 where
  pub each : (k l : ℕ) → slice_get ls k ≡ Some l → l / 2 ≤ n

-- the second list of gates is the first one with more behind it
pub record Begins (gates all : List Gate) : Type 0 where
  pub more : List Gate
  pub is : all ≡ gates ++ more

-- gates that were made for a circuit before memory ran out: those before with more behind them, and the circuit has more behind these
pub record IsPart (old now whole : List Gate) : Type 0 where
  pub kept : Begins old now
  pub rest : Begins now whole

-- a literal of variable 0 or of these gates shows this bit
pub record ShowsBit (gates : List Gate) (free : List Bool) (l : ℕ) (b : Bool) : Type 0 where
  pub within : l / 2 ≤ length gates
  pub value : lit_bit gates free l ≡ b

-- literals of variable 0 or of these gates show these bits, one each
pub data Shows (gates : List Gate) (free : List Bool) : List ℕ → List Bool → Type 0 where
  none : Shows gates free [] []
  bit : {l : ℕ} {b : Bool} {ls : List ℕ} {bs : List Bool} → ShowsBit gates free l b → Shows gates free ls bs → Shows gates free (l ∷ ls) (b ∷ bs)
