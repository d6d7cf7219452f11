-- The values of gates: those of older variables stay where gates are appended, and the new one is the gate's value.
use Rattle.std.proofs.Common.{◌≡◌, ℕ, ◌+◌, ◌*◌, ◌/◌, ◌%◌, ◌<◌, ◌≤◌, Bool, true, false, not, ◌&&◌, cond, eqb, List, [], ◌∷◌, ◌++◌, length, get_or, refl, sym, ◌∙◌, ap, arith, length-append}
use Rattle.std.proofs.lemmas.List.{get_or_append_left}
use Rattle.std.proofs.Math.Seq.{get_or-append_seam}
use Rattle.tcl_cnf.specs.Literal.{literal_true}
use Rattle.tcl_gates.specs.Gates.{gate_value, is_free, value_at, next_value, bits_behind, values_from, values_of, majority}
use Rattle.tcl_gates.specs.declared.gate.Gate.{Gate}
use Rattle.tcl_gates.specs.declared.gate.Gate.TheVariants.{And, Xor, Major, Choice, Free}
use Rattle.tcl_cnf.proofs.Bools.{true-false}
use Rattle.tcl_gates.proofs.Table.{literal_of}

pub values_from-none : (values free : List Bool) → values_from values free [] ≡ values
unfolding values_from
values_from-none values free = refl

pub values_from-cons : (values free : List Bool) (gate : Gate) (gates : List Gate) → values_from values free (gate ∷ gates) ≡ values_from (values ++ next_value values free gate ∷ []) (bits_behind free gate) gates
unfolding values_from
values_from-cons values free gate gates = refl

-- the bits of the free variables behind gates
pub bits_after : List Bool → List Gate → List Bool
bits_after free [] = free
bits_after free (gate ∷ gates) = bits_after (bits_behind free gate) gates

-- the values of gates in two parts
pub values_from-append : (values free : List Bool) (xs ys : List Gate) → values_from values free (xs ++ ys) ≡ values_from (values_from values free xs) (bits_after free xs) ys
unfolding values_from bits_after
values_from-append values free [] ys = refl
values_from-append values free (gate ∷ xs) ys = values_from-append (values ++ next_value values free gate ∷ []) (bits_behind free gate) xs ys

-- a value for each gate
pub length-values_from : (values free : List Bool) (gates : List Gate) → length (values_from values free gates) ≡ length values + length gates
length-values_from values free [] = ap length (values_from-none values free) ∙ omega arith
length-values_from values free (gate ∷ gates) =
    ap length (values_from-cons values free gate gates) ∙ length-values_from (values ++ next_value values free gate ∷ []) (bits_behind free gate) gates
    ∙ omega (arith, length-append values (next_value values free gate ∷ []))

-- the values before the gates stay
pub value_kept : (values free : List Bool) (gates : List Gate) (k : ℕ) → k < length values → value_at (values_from values free gates) k ≡ value_at values k
value_kept values free [] k h = ap (λ t. get_or t k false) (values_from-none values free)
value_kept values free (gate ∷ gates) k h =
    ap (λ t. get_or t k false) (values_from-cons values free gate gates)
    ∙ value_kept (values ++ next_value values free gate ∷ []) (bits_behind free gate) gates k (omega (arith, h, length-append values (next_value values free gate ∷ [])))
    ∙ get_or_append_left values (next_value values free gate ∷ []) false k h

-- the first gate's value
pub value_first : (values free : List Bool) (gate : Gate) (gates : List Gate) → value_at (values_from values free (gate ∷ gates)) (length values) ≡ next_value values free gate
value_first values free gate gates =
    ap (λ t. get_or t (length values) false) (values_from-cons values free gate gates)
    ∙ value_kept (values ++ next_value values free gate ∷ []) (bits_behind free gate) gates (length values) (omega (arith, length-append values (next_value values free gate ∷ [])))
    ∙ get_or-append_seam values (next_value values free gate) [] false

-- literals of variables with equal values have equal values
pub literal_same : (v w : ℕ → Bool) (l : ℕ) → v (l / 2) ≡ w (l / 2) → literal_true v l ≡ literal_true w l
unfolding literal_true
literal_same v w l e = ap (λ b. cond (eqb (l % 2) 0) b (not b)) e

pub length-values_of : (gates : List Gate) (free : List Bool) → length (values_of gates free) ≡ length gates + 1
unfolding values_of
length-values_of gates free = length-values_from (true ∷ []) free gates ∙ omega arith

pub values_of-append : (gates more : List Gate) (free : List Bool) → values_of (gates ++ more) free ≡ values_from (values_of gates free) (bits_after free gates) more
unfolding values_of
values_of-append gates more free = values_from-append (true ∷ []) free gates more

-- appending gates keeps the values of older variables
pub value_at-append : (gates more : List Gate) (free : List Bool) (k : ℕ) → k ≤ length gates → value_at (values_of (gates ++ more) free) k ≡ value_at (values_of gates free) k
value_at-append gates more free k h =
    ap (λ t. get_or t k false) (values_of-append gates more free)
    ∙ value_kept (values_of gates free) (bits_after free gates) more k (omega (arith, h, length-values_of gates free))

-- appending gates keeps the values of older literals
pub literal_kept : (gates more : List Gate) (free : List Bool) (l : ℕ) → l / 2 ≤ length gates
    → literal_true (value_at (values_of (gates ++ more) free)) l ≡ literal_true (value_at (values_of gates free)) l
literal_kept gates more free l h = literal_same (value_at (values_of (gates ++ more) free)) (value_at (values_of gates free)) l (value_at-append gates more free (l / 2) h)

-- the value of a new gate's variable
pub value_at-push : (gates : List Gate) (gate : Gate) (free : List Bool) → value_at (values_of (gates ++ gate ∷ []) free) (length gates + 1) ≡ next_value (values_of gates free) (bits_after free gates) gate
value_at-push gates gate free =
    ap (λ n. value_at (values_of (gates ++ gate ∷ []) free) n) (sym (length-values_of gates free))
    ∙ ap (λ t. get_or t (length (values_of gates free)) false) (values_of-append gates (gate ∷ []) free)
    ∙ value_first (values_of gates free) (bits_after free gates) gate []

-- the value of a new gate's literal
pub literal-push : (gates : List Gate) (gate : Gate) (free : List Bool)
    → literal_true (value_at (values_of (gates ++ gate ∷ []) free)) (2 * (length gates + 1)) ≡ next_value (values_of gates free) (bits_after free gates) gate
literal-push gates gate free = literal_of (value_at (values_of (gates ++ gate ∷ []) free)) (length gates + 1) ∙ value_at-push gates gate free

-- the same for each kind of gate, by the values of its literals before
pub literal-and : (gates : List Gate) (a b : ℕ) (free : List Bool) → literal_true (value_at (values_of (gates ++ And a b ∷ []) free)) (2 * (length gates + 1))
    ≡ (literal_true (value_at (values_of gates free)) a && literal_true (value_at (values_of gates free)) b)
literal-and gates a b free = literal-push gates (And a b) free

pub literal-xor : (gates : List Gate) (a b : ℕ) (free : List Bool) → literal_true (value_at (values_of (gates ++ Xor a b ∷ []) free)) (2 * (length gates + 1))
    ≡ cond (literal_true (value_at (values_of gates free)) a) (not (literal_true (value_at (values_of gates free)) b)) (literal_true (value_at (values_of gates free)) b)
literal-xor gates a b free = literal-push gates (Xor a b) free

pub literal-major : (gates : List Gate) (a b c : ℕ) (free : List Bool) → literal_true (value_at (values_of (gates ++ Major a b c ∷ []) free)) (2 * (length gates + 1))
    ≡ majority (literal_true (value_at (values_of gates free)) a) (literal_true (value_at (values_of gates free)) b) (literal_true (value_at (values_of gates free)) c)
literal-major gates a b c free = literal-push gates (Major a b c) free

pub literal-choice : (gates : List Gate) (c a b : ℕ) (free : List Bool) → literal_true (value_at (values_of (gates ++ Choice c a b ∷ []) free)) (2 * (length gates + 1))
    ≡ cond (literal_true (value_at (values_of gates free)) c) (literal_true (value_at (values_of gates free)) a) (literal_true (value_at (values_of gates free)) b)
literal-choice gates c a b free = literal-push gates (Choice c a b) free

next_is : (values free : List Bool) (gate : Gate) → is_free gate ≡ false → next_value values free gate ≡ gate_value (value_at values) gate
next_is values free Free e = absurd (true-false true refl e)
next_is values free (And a b) e = refl
next_is values free (Xor a b) e = refl
next_is values free (Major a b c) e = refl
next_is values free (Choice c a b) e = refl

-- the same for any gate that is not free
pub literal-new : (gates : List Gate) (gate : Gate) (free : List Bool) → is_free gate ≡ false
    → literal_true (value_at (values_of (gates ++ gate ∷ []) free)) (2 * (length gates + 1)) ≡ gate_value (value_at (values_of gates free)) gate
literal-new gates gate free e = literal-push gates gate free ∙ next_is (values_of gates free) (bits_after free gates) gate e

-- variable 0 is true
pub value_at-zero : (gates : List Gate) (free : List Bool) → value_at (values_of gates free) 0 ≡ true
unfolding values_of
value_at-zero gates free = value_kept (true ∷ []) free gates 0 (omega arith)
