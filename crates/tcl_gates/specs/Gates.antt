-- Circuits of gates, their values, and their clauses (Tseitin's encoding, 1968). Variable 0 is true, and gate k, counted
-- from 0, names variable k + 1.
use Rattle.std.specs.Prelude.{◌≡◌, ℕ, ◌+◌, ◌*◌, ◌/◌, ◌<◌, ◌≤◌, Bool, true, false, not, ◌&&◌, ◌||◌, if◌then◌else◌, List, [], ◌∷◌, ◌++◌, length, drop, slice_get, slice_index_or, Some}
use Rattle.std.specs.List.{flat_map}
use Rattle.std.specs.Option.{option_to_list}
use Rattle.tcl_cnf.specs.Literal.{neg, literal_true}
pub use Rattle.tcl_cnf.specs.Literal.{value_at}
use Rattle.tcl_cnf.specs.Clause.{clause_of}
use Rattle.tcl_gates.specs.declared.gate.Gate.{Gate}
use Rattle.tcl_gates.specs.declared.gate.Gate.TheVariants.{And, Xor, Major, Choice, Free}

-- the literals of the clauses that make literal g stand for the gate's value
abbrev pub gate_table : ℕ → Gate → List (List ℕ)
gate_table g (And a b) = (neg g ∷ a ∷ []) ∷ (neg g ∷ b ∷ []) ∷ (g ∷ neg a ∷ neg b ∷ []) ∷ []
gate_table g (Xor a b) = (neg g ∷ a ∷ b ∷ []) ∷ (neg g ∷ neg a ∷ neg b ∷ []) ∷ (g ∷ neg a ∷ b ∷ []) ∷ (g ∷ a ∷ neg b ∷ []) ∷ []
gate_table g (Major a b c) =
    (neg a ∷ neg b ∷ g ∷ []) ∷ (neg a ∷ neg c ∷ g ∷ []) ∷ (neg b ∷ neg c ∷ g ∷ [])
    ∷ (a ∷ b ∷ neg g ∷ []) ∷ (a ∷ c ∷ neg g ∷ []) ∷ (b ∷ c ∷ neg g ∷ []) ∷ []
gate_table g (Choice c a b) = (neg c ∷ neg a ∷ g ∷ []) ∷ (neg c ∷ a ∷ neg g ∷ []) ∷ (c ∷ neg b ∷ g ∷ []) ∷ (c ∷ b ∷ neg g ∷ []) ∷ []
gate_table g Free = []

-- the clauses of these literals in order; none of literals with a literal and its negation among them
unfoldable pub clauses_of_table : List (List ℕ) → List (List ℕ)
clauses_of_table table = flat_map (λ ls. option_to_list (clause_of ls)) table

-- the clauses of gates of which the first one names variable n
unfoldable pub clauses_from : ℕ → List Gate → List (List ℕ)
clauses_from n [] = []
clauses_from n (gate ∷ gates) = clauses_of_table (gate_table (2 * n) gate) ++ clauses_from (n + 1) gates

-- the clauses of gates in order: that variable 0 is true, and those of each gate
unfoldable pub clauses_of : List Gate → List (List ℕ)
clauses_of gates = (0 ∷ []) ∷ clauses_from 1 gates

-- the clauses of the gates from number `from` on, counted from 0
unfoldable pub clauses_behind : ℕ → List Gate → List (List ℕ)
clauses_behind from gates = clauses_from (from + 1) (drop from gates)

-- the majority of three truth values
abbrev pub majority : Bool → Bool → Bool → Bool
majority x y z = (x && y) || ((x && z) || (y && z))

-- the value of a gate whose variable is not free, where the variables have these values
abbrev pub gate_value : (ℕ → Bool) → Gate → Bool
gate_value v (And a b) = literal_true v a && literal_true v b
gate_value v (Xor a b) = if literal_true v a then not (literal_true v b) else literal_true v b
gate_value v (Major a b c) = majority (literal_true v a) (literal_true v b) (literal_true v c)
gate_value v (Choice c a b) = if literal_true v c then literal_true v a else literal_true v b
gate_value v Free = false

-- whether the gate is a free variable
abbrev pub is_free : Gate → Bool
is_free Free = true
is_free (And a b) = false
is_free (Xor a b) = false
is_free (Major a b c) = false
is_free (Choice c a b) = false

-- the value of the next gate's variable, where the free variables still to come take these bits
abbrev pub next_value : List Bool → List Bool → Gate → Bool
next_value values free Free = slice_index_or free 0 false
next_value values free (And a b) = gate_value (value_at values) (And a b)
next_value values free (Xor a b) = gate_value (value_at values) (Xor a b)
next_value values free (Major a b c) = gate_value (value_at values) (Major a b c)
next_value values free (Choice c a b) = gate_value (value_at values) (Choice c a b)

-- the bits of the free variables behind the gate
abbrev pub bits_behind : List Bool → Gate → List Bool
bits_behind free Free = drop 1 free
bits_behind free (And a b) = free
bits_behind free (Xor a b) = free
bits_behind free (Major a b c) = free
bits_behind free (Choice c a b) = free

-- the values of all variables, from those before these gates on
unfoldable pub values_from : List Bool → List Bool → List Gate → List Bool
values_from values free [] = values
values_from values free (gate ∷ gates) = values_from (values ++ next_value values free gate ∷ []) (bits_behind free gate) gates

-- the values of all variables, where the free variables take these bits in order
unfoldable pub values_of : List Gate → List Bool → List Bool
values_of gates free = values_from (true ∷ []) free gates

-- the bits that some values give to the free variables of gates of which the first one names variable n
unfoldable pub free_from : (ℕ → Bool) → ℕ → List Gate → List Bool
free_from v n [] = []
free_from v n (Free ∷ gates) = v n ∷ free_from v (n + 1) gates
free_from v n (And a b ∷ gates) = free_from v (n + 1) gates
free_from v n (Xor a b ∷ gates) = free_from v (n + 1) gates
free_from v n (Major a b c ∷ gates) = free_from v (n + 1) gates
free_from v n (Choice c a b ∷ gates) = free_from v (n + 1) gates

-- the bits that some values give to the free variables
unfoldable pub free_of : (ℕ → Bool) → List Gate → List Bool
free_of v gates = free_from v 1 gates

-- the values extend their own bits of the free variables by the values of the gates
pub record ExtendsFree (v : ℕ → Bool) (gates : List Gate) : Type 0 where
  pub each : (k : ℕ) → k ≤ length gates → v k ≡ value_at (values_of gates (free_of v gates)) k

-- the first n gates are free
pub record BeginsFree (n : ℕ) (gates : List Gate) : Type 0 where
  pub each : (k : ℕ) → k < n → slice_get gates k ≡ Some Free

-- how many gates are free
unfoldable pub free_count : List Gate → ℕ
free_count [] = 0
free_count (Free ∷ gates) = 1 + free_count gates
free_count (And a b ∷ gates) = free_count gates
free_count (Xor a b ∷ gates) = free_count gates
free_count (Major a b c ∷ gates) = free_count gates
free_count (Choice c a b ∷ gates) = free_count gates

-- the literals of the gate are of variables below n
abbrev pub IsBelow : ℕ → Gate → Type 0
IsBelow n (And a b) = (a / 2 < n) × (b / 2 < n)
IsBelow n (Xor a b) = (a / 2 < n) × (b / 2 < n)
IsBelow n (Major a b c) = (a / 2 < n) × (b / 2 < n) × (c / 2 < n)
IsBelow n (Choice c a b) = (c / 2 < n) × (a / 2 < n) × (b / 2 < n)
IsBelow n Free = Unit {0}

-- the literals of each gate are of variable 0 or of earlier gates
pub record AreGates (gates : List Gate) : Type 0 where
  pub each : (k : ℕ) (gate : Gate) → slice_get gates k ≡ Some gate → IsBelow (k + 1) gate
