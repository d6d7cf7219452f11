-- The clauses of gates from a number on, and the bits of leading free gates.
use Rattle.std.proofs.Common.{◌≡◌, ℕ, ◌+◌, ◌-◌, ◌*◌, ◌<◌, zero, suc, Bool, true, List, [], ◌∷◌, ◌++◌, length, drop, Some, slice_get, refl, sym, ◌∙◌, ap, arith, length-append}
use Rattle.std.proofs.lemmas.List.{append_assoc}
use Rattle.std.proofs.lemmas.Option.{same_Some, none-some}
use Rattle.tcl_cnf.specs.Literal.{value_at}
use Rattle.tcl_gates.specs.Gates.{gate_table, clauses_of_table, clauses_from, clauses_of, clauses_behind, values_from, values_of, next_value, bits_behind, BeginsFree}
use Rattle.tcl_gates.specs.declared.gate.Gate.{Gate}
use Rattle.tcl_gates.specs.declared.gate.Gate.TheVariants.{Free}
use Rattle.tcl_gates.proofs.Values.{values_from-cons, value_first}

-- the clauses of gates, one list behind the other
clauses_from-append : (n : ℕ) (gates more : List Gate) → clauses_from n (gates ++ more) ≡ clauses_from n gates ++ clauses_from (n + length gates) more
unfolding clauses_from
clauses_from-append n [] more = ap (λ m. clauses_from m more) (omega arith)
clauses_from-append n (gate ∷ gates) more =
    ap (λ t. clauses_of_table (gate_table (2 * n) gate) ++ t) (clauses_from-append (n + 1) gates more ∙ ap (λ m. clauses_from (n + 1) gates ++ clauses_from m more) (omega arith))
    ∙ sym (append_assoc (clauses_of_table (gate_table (2 * n) gate)) (clauses_from (n + 1) gates) (clauses_from (n + length (gate ∷ gates)) more))

drop-front : (gates more : List Gate) → drop (length gates) (gates ++ more) ≡ more
drop-front [] more = refl
drop-front (gate ∷ gates) more = drop-front gates more

-- the clauses of more gates stand behind
pub clauses_of-append : (gates more : List Gate) → clauses_of (gates ++ more) ≡ clauses_of gates ++ clauses_behind (length gates) (gates ++ more)
unfolding clauses_of clauses_behind
clauses_of-append gates more =
    ap (λ t. (0 ∷ []) ∷ t) (clauses_from-append 1 gates more ∙ ap (λ m. clauses_from 1 gates ++ clauses_from m more) (omega arith)
    ∙ ap (λ t. clauses_from 1 gates ++ clauses_from (length gates + 1) t) (sym (drop-front gates more)))

-- all gates are those from number 0 on
pub clauses_of-behind : (gates : List Gate) → clauses_of gates ≡ ((0 ∷ []) ∷ []) ++ clauses_behind 0 gates
unfolding clauses_of clauses_behind
clauses_of-behind gates = refl

value_at-rest : (free : List Bool) (k : ℕ) → value_at (drop 1 free) k ≡ value_at free (suc k)
value_at-rest [] k = refl
value_at-rest (b ∷ free) k = refl

-- the values of leading free gates behind those before them
free_from : (n k : ℕ) (values free : List Bool) (gates : List Gate) → ((j : ℕ) → j < n → slice_get gates j ≡ Some Free) → k < n → value_at (values_from values free gates) (length values + k) ≡ value_at free k
free_from n k values free [] lead h = absurd (none-some Free (lead 0 (omega (arith, h))))
free_from n zero values free (gate ∷ gates) lead h =
    let is : gate ≡ Free = same_Some gate Free (lead 0 (omega (arith, h))) in
    ap (value_at (values_from values free (gate ∷ gates))) (omega arith) ∙ value_first values free gate gates ∙ ap (next_value values free) is
free_from n (suc k) values free (gate ∷ gates) lead h =
    let is : gate ≡ Free = same_Some gate Free (lead 0 (omega (arith, h))) in
    let next : List Bool = values ++ next_value values free gate ∷ [] in
    let place : length values + suc k ≡ length next + k = omega (arith, length-append values (next_value values free gate ∷ [])) in
    ap (value_at (values_from values free (gate ∷ gates))) place
    ∙ ap (λ t. value_at t (length next + k)) (values_from-cons values free gate gates ∙ ap (λ t. values_from next t gates) (ap (bits_behind free) is))
    ∙ free_from (n - 1) k next (drop 1 free) gates (λ j i. lead (suc j) (omega (arith, i))) (omega (arith, h)) ∙ value_at-rest free k

-- the variables of leading free gates have the free bits in order
pub leading_bits : (n k : ℕ) (gates : List Gate) (free : List Bool) → BeginsFree n gates → k < n → value_at (values_of gates free) (k + 1) ≡ value_at free k
unfolding values_of
leading_bits n k gates free lead h = ap (value_at (values_from (true ∷ []) free gates)) (omega arith) ∙ free_from n k (true ∷ []) free gates lead.each h
