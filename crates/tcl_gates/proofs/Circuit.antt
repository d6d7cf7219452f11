-- The clauses of gates are true exactly where the values extend their own free bits by the values of the gates.
use Rattle.std.proofs.Common.{◌≡◌, ℕ, ◌+◌, ◌*◌, ◌/◌, ◌<◌, zero, suc, Bool, true, false, ◌&&◌, List, [], ◌∷◌, ◌++◌, length, get_or, Some, slice_get, refl, sym, ◌∙◌, ap, subst, arith, inl, inr, length-append, ◌↔◌}
use Rattle.std.proofs.lemmas.Bool.{and_parts, and_from, cases_lt}
use Rattle.std.proofs.lemmas.List.{get_or_append_left}
use Rattle.std.proofs.Math.Seq.{get_or-append_seam}
use Rattle.tcl_cnf.specs.Literal.{literal_true}
use Rattle.tcl_cnf.specs.Clause.{all_true, Satisfies}
use Rattle.tcl_cnf.proofs.Truth.{satisfies-append}
use Rattle.tcl_cnf.proofs.Bools.{or-false}
use Rattle.tcl_gates.specs.Gates.{gate_table, clauses_of_table, clauses_from, clauses_of, gate_value, value_at, next_value, bits_behind, values_from, values_of, free_from, free_of, ExtendsFree, free_count, IsBelow, AreGates}
use Rattle.tcl_gates.specs.declared.gate.Gate.{Gate}
use Rattle.tcl_gates.specs.declared.gate.Gate.TheVariants.{And, Xor, Major, Choice, Free}
use Rattle.tcl_gates.proofs.Table.{agree, agree_true, agree_same, table_true, literal_of, is_value, gate_true}
use Rattle.tcl_gates.proofs.Values.{values_from-none, values_from-cons, value_kept, value_first, literal_same, length-values_from}

-- whether each variable has its gate's value
abbrev pub all_values : (ℕ → Bool) → ℕ → List Gate → Bool
all_values v n [] = true
all_values v n (gate ∷ gates) = is_value v (v n) gate && all_values v (n + 1) gates

-- the clauses of gates are true where each variable has its gate's value
clauses_from_true : (v : ℕ → Bool) (n : ℕ) (gates : List Gate) → all_true v (clauses_from n gates) ≡ all_values v n gates
unfolding clauses_from
clauses_from_true v n [] = refl
clauses_from_true v n (gate ∷ gates) =
    satisfies-append v (clauses_of_table (gate_table (2 * n) gate)) (clauses_from (n + 1) gates)
    ∙ ap (λ b. b && all_true v (clauses_from (n + 1) gates)) (table_true v (gate_table (2 * n) gate) ∙ gate_true v (2 * n) gate ∙ ap (λ b. is_value v b gate) (literal_of v n))
    ∙ ap (λ b. is_value v (v n) gate && b) (clauses_from_true v (n + 1) gates)

pub clauses_of_true : (v : ℕ → Bool) (gates : List Gate) → all_true v (clauses_of gates) ≡ (v 0 && all_values v 1 gates)
unfolding clauses_of
clauses_of_true v gates =
    ap (λ b. b && all_true v (clauses_from 1 gates)) (or-false (literal_true v 0) ∙ literal_of v 0) ∙ ap (λ b. v 0 && b) (clauses_from_true v 1 gates)

-- the literals of gates are of earlier variables
abbrev pub AllBelow : ℕ → List Gate → Type 0
AllBelow n [] = Unit {0}
AllBelow n (gate ∷ gates) = IsBelow n gate × AllBelow (n + 1) gates

all_below_from : (n : ℕ) (gates : List Gate) → ((k : ℕ) (gate : Gate) → slice_get gates k ≡ Some gate → IsBelow (n + k) gate) → AllBelow n gates
all_below_from n [] f = tt
all_below_from n (gate ∷ gates) f = (
  subst (λ m. IsBelow m gate) (omega arith) (f 0 gate refl),
  all_below_from (n + 1) gates (λ k g e. subst (λ m. IsBelow m g) (omega arith) (f (suc k) g e)),
)

pub all_below : (gates : List Gate) → AreGates gates → AllBelow 1 gates
all_below gates a = all_below_from 1 gates (λ k g e. subst (λ m. IsBelow m g) (omega arith) (a.each k g e))

-- the values agree with those of the variables below n
abbrev pub AgreesBelow : (ℕ → Bool) → List Bool → Type 0
AgreesBelow v values = (k : ℕ) → k < length values → v k ≡ value_at values k

literal_agrees : (v : ℕ → Bool) (values : List Bool) → AgreesBelow v values → (l : ℕ) → l / 2 < length values → literal_true v l ≡ literal_true (value_at values) l
literal_agrees v values a l h = literal_same v (value_at values) l (a (l / 2) h)

-- a gate whose literals are below has the same value
gate_agrees : (v : ℕ → Bool) (values : List Bool) → AgreesBelow v values → (gate : Gate) → IsBelow (length values) gate → gate_value v gate ≡ gate_value (value_at values) gate
gate_agrees v values a Free h = refl
gate_agrees v values a (And x y) h = rw (literal_agrees v values a x h.0, literal_agrees v values a y h.1) refl
gate_agrees v values a (Xor x y) h = rw (literal_agrees v values a x h.0, literal_agrees v values a y h.1) refl
gate_agrees v values a (Major x y z) h = rw (literal_agrees v values a x h.0, literal_agrees v values a y h.1, literal_agrees v values a z h.2) refl
gate_agrees v values a (Choice z x y) h = rw (literal_agrees v values a z h.0, literal_agrees v values a x h.1, literal_agrees v values a y h.2) refl

-- the variable has its gate's value just where it has the next value
next_from : (v : ℕ → Bool) (values : List Bool) (gate : Gate) (gates : List Gate) → AgreesBelow v values → IsBelow (length values) gate
    → is_value v (v (length values)) gate ≡ true → v (length values) ≡ next_value values (free_from v (length values) (gate ∷ gates)) gate
unfolding free_from
next_from v values Free gates a h e = refl
next_from v values (And x y) gates a h e = agree_true _ _ e ∙ gate_agrees v values a (And x y) h
next_from v values (Xor x y) gates a h e = agree_true _ _ e ∙ gate_agrees v values a (Xor x y) h
next_from v values (Major x y z) gates a h e = agree_true _ _ e ∙ gate_agrees v values a (Major x y z) h
next_from v values (Choice z x y) gates a h e = agree_true _ _ e ∙ gate_agrees v values a (Choice z x y) h

agree_from : (x y : Bool) → x ≡ y → agree x y ≡ true
agree_from x y e = ap (agree x) (sym e) ∙ agree_same x

value_from : (v : ℕ → Bool) (values : List Bool) (gate : Gate) (gates : List Gate) → AgreesBelow v values → IsBelow (length values) gate
    → v (length values) ≡ next_value values (free_from v (length values) (gate ∷ gates)) gate → is_value v (v (length values)) gate ≡ true
value_from v values Free gates a h e = refl
value_from v values (And x y) gates a h e = agree_from _ _ (e ∙ sym (gate_agrees v values a (And x y) h))
value_from v values (Xor x y) gates a h e = agree_from _ _ (e ∙ sym (gate_agrees v values a (Xor x y) h))
value_from v values (Major x y z) gates a h e = agree_from _ _ (e ∙ sym (gate_agrees v values a (Major x y z) h))
value_from v values (Choice z x y) gates a h e = agree_from _ _ (e ∙ sym (gate_agrees v values a (Choice z x y) h))

-- the bits behind a gate are those of the gates behind it
bits_are : (v : ℕ → Bool) (n : ℕ) (gate : Gate) (gates : List Gate) → bits_behind (free_from v n (gate ∷ gates)) gate ≡ free_from v (n + 1) gates
unfolding free_from
bits_are v n Free gates = refl
bits_are v n (And x y) gates = refl
bits_are v n (Xor x y) gates = refl
bits_are v n (Major x y z) gates = refl
bits_are v n (Choice z x y) gates = refl

-- one value more
agrees_more : (v : ℕ → Bool) (values : List Bool) (b : Bool) → AgreesBelow v values → v (length values) ≡ b → AgreesBelow v (values ++ b ∷ [])
agrees_more v values b a e k h =
    elim (cases_lt k (length values)) [
      | inl l ↦ a k l ∙ sym (get_or_append_left values (b ∷ []) false k l)
      | inr g ↦ let same : k ≡ length values = omega (arith, g, h, length-append values (b ∷ [])) in
          ap v same ∙ e ∙ sym (ap (λ n. get_or (values ++ b ∷ []) n false) same ∙ get_or-append_seam values b [] false)
    ]

length_more : (values : List Bool) (b : Bool) → length (values ++ b ∷ []) ≡ length values + 1
length_more values b = length-append values (b ∷ []) ∙ omega arith

-- the values of all gates, by the values' own free bits
pub forward : (v : ℕ → Bool) (values : List Bool) (gates : List Gate) → AgreesBelow v values → AllBelow (length values) gates → all_values v (length values) gates ≡ true
    → AgreesBelow v (values_from values (free_from v (length values) gates) gates)
forward v values [] a h e = subst (AgreesBelow v) (sym (values_from-none values (free_from v (length values) []))) a
forward v values (gate ∷ gates) a h e =
    let n = length values in
    let parts = and_parts (is_value v (v (length values)) gate) (all_values v (length values + 1) gates) e in
    let free = free_from v (length values) (gate ∷ gates) in
    let b = next_value values free gate in
    let here : v (length values) ≡ b = next_from v values gate gates a h.0 parts.0 in
    let next : length (values ++ b ∷ []) ≡ length values + 1 = length_more values b in
    let rest : AgreesBelow v (values_from (values ++ b ∷ []) (free_from v (length (values ++ b ∷ [])) gates) gates) =
    forward v (values ++ b ∷ []) gates (agrees_more v values b a here)
    (subst (λ m. AllBelow m gates) (sym next) h.1) (ap (λ m. all_values v m gates) next ∙ parts.1) in
    subst (AgreesBelow v)
    (ap (λ t. values_from (values ++ b ∷ []) t gates) (ap (λ m. free_from v m gates) next ∙ sym (bits_are v (length values) gate gates)) ∙ sym (values_from-cons values free gate gates)) rest

-- values that agree with all of these give each variable its gate's value
pub backward : (v : ℕ → Bool) (values : List Bool) (gates : List Gate) → AgreesBelow v values → AllBelow (length values) gates
    → AgreesBelow v (values_from values (free_from v (length values) gates) gates) → all_values v (length values) gates ≡ true
backward v values [] a h e = refl
backward v values (gate ∷ gates) a h e =
    let free = free_from v (length values) (gate ∷ gates) in
    let b = next_value values free gate in
    let here : v (length values) ≡ b = e (length values) (omega (arith, length-values_from values free (gate ∷ gates))) ∙ value_first values free gate gates in
    let next : length (values ++ b ∷ []) ≡ length values + 1 = length_more values b in
    let all : AgreesBelow v (values_from (values ++ b ∷ []) (free_from v (length (values ++ b ∷ [])) gates) gates) =
    subst (AgreesBelow v)
    (values_from-cons values free gate gates ∙ ap (λ t. values_from (values ++ b ∷ []) t gates) (bits_are v (length values) gate gates ∙ ap (λ m. free_from v m gates) (sym next))) e in
    and_from (is_value v (v (length values)) gate) (all_values v (length values + 1) gates)
    (value_from v values gate gates a h.0 here)
    (ap (λ m. all_values v m gates) (sym next) ∙ backward v (values ++ b ∷ []) gates (agrees_more v values b a here) (subst (λ m. AllBelow m gates) (sym next) h.1) all)

agrees_one : (v : ℕ → Bool) → v 0 ≡ true → AgreesBelow v (true ∷ [])
agrees_one v e zero h = e
agrees_one v e (suc k) h = absurd (omega (arith, h))

-- values that make all clauses true extend their own free bits
pub extends_from : (v : ℕ → Bool) (gates : List Gate) → AreGates gates → Satisfies v (clauses_of gates) → ExtendsFree v gates
unfolding values_of free_of
extends_from v gates g s =
    let p = and_parts (v 0) (all_values v 1 gates) (sym (clauses_of_true v gates) ∙ s) in
    let f = forward v (true ∷ []) gates (agrees_one v p.0) (all_below gates g) p.1 in
    record { each = λ k h. f k (omega (arith, h, length-values_from (true ∷ []) (free_from v 1 gates) gates)) }

-- values that extend their own free bits make all clauses true
pub satisfies_from : (v : ℕ → Bool) (gates : List Gate) → AreGates gates → ExtendsFree v gates → Satisfies v (clauses_of gates)
unfolding values_of free_of
satisfies_from v gates g e =
    let first : v 0 ≡ true = e.each 0 (omega arith) ∙ value_kept (true ∷ []) (free_from v 1 gates) gates 0 (omega arith) in
    clauses_of_true v gates ∙ and_from (v 0) (all_values v 1 gates) first
    (backward v (true ∷ []) gates (agrees_one v first) (all_below gates g) (λ k h. e.each k (omega (arith, h, length-values_from (true ∷ []) (free_from v 1 gates) gates))))

-- the clauses are true just for the values that extend their own free bits
pub met_exactly : (v : ℕ → Bool) (gates : List Gate) → AreGates gates → Satisfies v (clauses_of gates) ↔ ExtendsFree v gates
met_exactly v gates g = (extends_from v gates g, satisfies_from v gates g)

-- the free bits of the values are the bits that they were made of
free_are : (values free : List Bool) (gates : List Gate) (v : ℕ → Bool) → length free ≡ free_count gates → ((k : ℕ) → v k ≡ value_at (values_from values free gates) k) → free_from v (length values) gates ≡ free
unfolding free_from free_count
free_are values [] [] v c e = refl
free_are values (b ∷ free) [] v c e = absurd (omega (arith, c))
free_are values [] (Free ∷ gates) v c e = absurd (omega (arith, c))
free_are values (b ∷ free) (Free ∷ gates) v c e =
    let here : v (length values) ≡ b = e (length values) ∙ value_first values (b ∷ free) Free gates in
    let next : length (values ++ b ∷ []) ≡ length values + 1 = length_more values b in
    ap (λ t. t ∷ free_from v (length values + 1) gates) here ∙ ap (λ t. b ∷ t)
    (ap (λ m. free_from v m gates) (sym next) ∙ free_are (values ++ b ∷ []) free gates v (omega (arith, c)) (λ k. e k ∙ ap (λ t. value_at t k) (values_from-cons values (b ∷ free) Free gates)))
free_are values free (And x y ∷ gates) v c e =
    ap (λ m. free_from v m gates) (sym (length_more values (next_value values free (And x y))))
    ∙ free_are (values ++ next_value values free (And x y) ∷ []) free gates v c (λ k. e k ∙ ap (λ t. value_at t k) (values_from-cons values free (And x y) gates))
free_are values free (Xor x y ∷ gates) v c e =
    ap (λ m. free_from v m gates) (sym (length_more values (next_value values free (Xor x y))))
    ∙ free_are (values ++ next_value values free (Xor x y) ∷ []) free gates v c (λ k. e k ∙ ap (λ t. value_at t k) (values_from-cons values free (Xor x y) gates))
free_are values free (Major x y z ∷ gates) v c e =
    ap (λ m. free_from v m gates) (sym (length_more values (next_value values free (Major x y z))))
    ∙ free_are (values ++ next_value values free (Major x y z) ∷ []) free gates v c (λ k. e k ∙ ap (λ t. value_at t k) (values_from-cons values free (Major x y z) gates))
free_are values free (Choice z x y ∷ gates) v c e =
    ap (λ m. free_from v m gates) (sym (length_more values (next_value values free (Choice z x y))))
    ∙ free_are (values ++ next_value values free (Choice z x y) ∷ []) free gates v c (λ k. e k ∙ ap (λ t. value_at t k) (values_from-cons values free (Choice z x y) gates))

-- the values of the gates for these free bits make all clauses true
pub values_meet : (gates : List Gate) (free : List Bool) → AreGates gates → length free ≡ free_count gates → Satisfies (value_at (values_of gates free)) (clauses_of gates)
unfolding values_of free_of
values_meet gates free g c =
    satisfies_from (value_at (values_of gates free)) gates g
    (record { each = λ k h. ap (λ t. value_at (values_from (true ∷ []) t gates) k) (sym (free_are (true ∷ []) free gates (value_at (values_of gates free)) c (λ j. refl))) })

-- the free bits of these values are the given ones
pub free_of-values : (gates : List Gate) (free : List Bool) → length free ≡ free_count gates → free_of (value_at (values_of gates free)) gates ≡ free
unfolding values_of free_of
free_of-values gates free c = free_are (true ∷ []) free gates (value_at (values_of gates free)) c (λ k. refl)

-- the same of a list that is that of the clauses
pub met_at : (v : ℕ → Bool) (gates : List Gate) (cnf : List (List ℕ)) → AreGates gates → cnf ≡ clauses_of gates → Satisfies v cnf ↔ ExtendsFree v gates
met_at v gates cnf g e = subst (λ t. Satisfies v t ↔ ExtendsFree v gates) (sym e) (met_exactly v gates g)

-- the same of a list that is that of the values
pub values_meet_at : (gates : List Gate) (free values : List Bool) → AreGates gates → length free ≡ free_count gates → values ≡ values_of gates free → Satisfies (value_at values) (clauses_of gates)
values_meet_at gates free values g c e = subst (λ t. Satisfies (value_at t) (clauses_of gates)) (sym e) (values_meet gates free g c)
