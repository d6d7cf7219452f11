-- Cubes that cover the assignments of a cube: what it means, and how it is decided, by a split on one bit after the other.
use Rattle.std.specs.Prelude.{◌≡◌, ℕ, zero, suc, Bool, true, false, not, ◌&&◌, ◌||◌, if◌then◌else◌, List, [], ◌∷◌, ◌++◌, length, Option, Some, None}
use Rattle.std.specs.List.{list_all, list_any}
use Rattle.tcl_goals.specs.declared.fact.BitLit.{BitLit}
use Rattle.tcl_goals.specs.Order.{same_bit}

-- an assignment: the value of each bit of each variable
abbrev pub Assignment : Type 0
Assignment = ℕ → ℕ → Bool

abbrev pub has_value : Assignment → BitLit → Bool
has_value v b = if b.value then v b.var b.bit else not (v b.var b.bit)

-- the assignment meets a cube
abbrev pub meets : Assignment → List BitLit → Bool
meets v cube = list_all (has_value v) cube

-- each assignment that meets the cube meets one of these
abbrev pub Covers : List BitLit → List (List BitLit) → Type 0
Covers cube cubes = (v : Assignment) → meets v cube ≡ true → list_any (meets v) cubes ≡ true

-- the same bit with the other value
abbrev pub differ : Bool → Bool → Bool
differ true b = not b
differ false b = b

abbrev pub contradicts : BitLit → BitLit → Bool
contradicts a b = same_bit a b && differ a.value b.value

-- a cube without the bit of a literal
unfoldable pub without : BitLit → List BitLit → List BitLit
without l [] = []
without l (b ∷ bits) = if same_bit l b then without l bits else b ∷ without l bits

-- the cubes where the bit has the value of the literal: those that do not contradict it, without the bit
unfoldable pub restricted : BitLit → List (List BitLit) → List (List BitLit)
restricted l [] = []
restricted l (c ∷ cubes) = if list_any (contradicts l) c then restricted l cubes else without l c ∷ restricted l cubes

-- the same for each bit of a cube
unfoldable pub restricted_by : List BitLit → List (List BitLit) → List (List BitLit)
restricted_by [] cubes = cubes
restricted_by (l ∷ cube) cubes = restricted_by cube (restricted l cubes)

-- the bit on which cubes are split, that of the first literal of the first cube
abbrev pub is_empty : List BitLit → Bool
is_empty [] = true
is_empty (b ∷ bits) = false

abbrev pub first_literal : List (List BitLit) → Option BitLit
first_literal [] = None
first_literal ([] ∷ cubes) = None
first_literal ((b ∷ bits) ∷ cubes) = Some b

-- the test passes with either value of the bit; it fails where there is no bit
abbrev pub on_both : (BitLit → Bool) → Option BitLit → Bool
on_both test None = false
on_both test (Some b) =
    test (record { var = b.var; bit = b.bit; value = true }) && test (record { var = b.var; bit = b.bit; value = false })

-- by at most n splits the cubes cover all assignments
unfoldable pub covers_all : ℕ → List (List BitLit) → Bool
covers_all zero cubes = list_any is_empty cubes
covers_all (suc n) cubes =
    list_any is_empty cubes || on_both (λ l. covers_all n (restricted l cubes)) (first_literal cubes)

-- by at most n splits they cover those that meet the cube
abbrev pub are_covering : ℕ → List BitLit → List (List BitLit) → Bool
are_covering n cube cubes = covers_all n (restricted_by cube cubes)

-- the bits that literals name, each once
unfoldable pub named_after : List BitLit → List BitLit → List BitLit
named_after named [] = named
named_after named (b ∷ bits) =
    if list_any (same_bit b) named then named_after named bits else named_after (named ++ b ∷ []) bits

-- and those that cubes name
unfoldable pub named_in : List BitLit → List (List BitLit) → List BitLit
named_in named [] = named
named_in named (c ∷ cubes) = named_in (named_after named c) cubes

abbrev pub count_bits : List (List BitLit) → ℕ
count_bits cubes = length (named_in [] cubes)
