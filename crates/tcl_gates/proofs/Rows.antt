-- The clauses of gates in the words of the code that makes them.
use Rattle.std.proofs.Common.{◌≡◌, ℕ, ◌+◌, ◌*◌, ◌/◌, ◌%◌, ◌<◌, ◌≤◌, suc, Bool, true, not, cond, List, [], ◌∷◌, ◌++◌, length, drop, Some, slice_get, refl, sym, ◌∙◌, ap, arith, drop-cons}
use Rattle.std.proofs.lemmas.Bool.{eq-eqb, ne_eqb}
use Rattle.std.proofs.lemmas.List.{append-nil, append_assoc, drop_all, drop-drop}
use Rattle.std.proofs.lemmas.Option.{slice_get_within, get_or_from_slice_get}
use Rattle.tcl_cnf.specs.Literal.{neg, literal_true}
use Rattle.tcl_cnf.specs.Clause.{clause_of}
use Rattle.tcl_cnf.proofs.Truth.{kept}
use Rattle.tcl_gates.specs.Gates.{gate_table, clauses_of_table, clauses_from, clauses_behind, clauses_of, values_from, values_of, next_value, bits_behind}
use Rattle.tcl_gates.proofs.Values.{values_from-none, values_from-cons}
use Rattle.tcl_gates.proofs.Appending.{clauses_of-behind}
use Rattle.tcl_gates.specs.declared.gate.Gate.{Gate}
use Rattle.tcl_gates.specs.declared.gate.Gate.TheVariants.{And, Xor, Major, Choice, Free}

table_none : (old : List (List ℕ)) → old ≡ old ++ clauses_of_table []
unfolding clauses_of_table
table_none old = sym (append-nil old)

table_push : (rows : List (List ℕ)) (row : List ℕ) → clauses_of_table (rows ++ row ∷ []) ≡ clauses_of_table rows ++ kept row
unfolding clauses_of_table
table_push [] row = append-nil (kept row)
table_push (r ∷ rows) row = ap (λ t. kept r ++ t) (table_push rows row) ∙ sym (append_assoc (kept r) (clauses_of_table rows) (kept row))

-- one row more
row_more : (old now after rows : List (List ℕ)) (row : List ℕ) → now ≡ old ++ clauses_of_table rows → after ≡ now ++ kept row → after ≡ old ++ clauses_of_table (rows ++ row ∷ [])
row_more old now after rows row e f =
    f ∙ ap (λ t. t ++ kept row) e ∙ append_assoc old (clauses_of_table rows) (kept row) ∙ ap (λ t. old ++ t) (sym (table_push rows row))

-- a row of equal literals
row_two : (now after : List (List ℕ)) (l m l' m' : ℕ) → l ≡ l' → m ≡ m' → after ≡ now ++ kept (l ∷ m ∷ []) → after ≡ now ++ kept (l' ∷ m' ∷ [])
row_two now after l m l' m' e f h = h ∙ ap (λ t. now ++ kept (t ∷ m ∷ [])) e ∙ ap (λ t. now ++ kept (l' ∷ t ∷ [])) f

row_three : (now after : List (List ℕ)) (l m n l' m' n' : ℕ) → l ≡ l' → m ≡ m' → n ≡ n' → after ≡ now ++ kept (l ∷ m ∷ n ∷ []) → after ≡ now ++ kept (l' ∷ m' ∷ n' ∷ [])
row_three now after l m n l' m' n' e f g h =
    h ∙ ap (λ t. now ++ kept (t ∷ m ∷ n ∷ [])) e ∙ ap (λ t. now ++ kept (l' ∷ t ∷ n ∷ [])) f ∙ ap (λ t. now ++ kept (l' ∷ m' ∷ t ∷ [])) g

-- the rows of this gate, one after another
pub and_rows : (old n1 n2 n3 : List (List ℕ)) (g a b not_g not_a not_b : ℕ) → not_g ≡ neg g → not_a ≡ neg a → not_b ≡ neg b
    → n1 ≡ old ++ kept (not_g ∷ a ∷ []) → n2 ≡ n1 ++ kept (not_g ∷ b ∷ []) → n3 ≡ n2 ++ kept (g ∷ not_a ∷ not_b ∷ [])
    → n3 ≡ old ++ clauses_of_table (gate_table g (And a b))
and_rows old n1 n2 n3 g a b not_g not_a not_b eg ea eb made1 made2 made3 =
    row_more old n2 n3 ((neg g ∷ a ∷ []) ∷ (neg g ∷ b ∷ []) ∷ []) (g ∷ neg a ∷ neg b ∷ []) (row_more old n1 n2 ((neg g ∷ a ∷ []) ∷ []) (neg g ∷ b ∷ []) (row_more old old n1 [] (neg g ∷ a ∷ []) (table_none old)
    (row_two old n1 not_g a (neg g) a eg refl made1))
    (row_two n1 n2 not_g b (neg g) b eg refl made2))
    (row_three n2 n3 g not_a not_b g (neg a) (neg b) refl ea eb made3)

-- the rows of this gate, one after another
pub xor_rows : (old n1 n2 n3 n4 : List (List ℕ)) (g a b not_g not_a not_b : ℕ) → not_g ≡ neg g → not_a ≡ neg a → not_b ≡ neg b
    → n1 ≡ old ++ kept (not_g ∷ a ∷ b ∷ []) → n2 ≡ n1 ++ kept (not_g ∷ not_a ∷ not_b ∷ []) → n3 ≡ n2 ++ kept (g ∷ not_a ∷ b ∷ []) → n4 ≡ n3 ++ kept (g ∷ a ∷ not_b ∷ [])
    → n4 ≡ old ++ clauses_of_table (gate_table g (Xor a b))
xor_rows old n1 n2 n3 n4 g a b not_g not_a not_b eg ea eb made1 made2 made3 made4 =
    row_more old n3 n4 ((neg g ∷ a ∷ b ∷ []) ∷ (neg g ∷ neg a ∷ neg b ∷ []) ∷ (g ∷ neg a ∷ b ∷ []) ∷ []) (g ∷ a ∷ neg b ∷ []) (row_more old n2 n3 ((neg g ∷ a ∷ b ∷ []) ∷ (neg g ∷ neg a ∷ neg b ∷ []) ∷ []) (g ∷ neg a ∷ b ∷ []) (row_more old n1 n2 ((neg g ∷ a ∷ b ∷ []) ∷ []) (neg g ∷ neg a ∷ neg b ∷ []) (row_more old old n1 [] (neg g ∷ a ∷ b ∷ []) (table_none old)
    (row_three old n1 not_g a b (neg g) a b eg refl refl made1))
    (row_three n1 n2 not_g not_a not_b (neg g) (neg a) (neg b) eg ea eb made2))
    (row_three n2 n3 g not_a b g (neg a) b refl ea refl made3))
    (row_three n3 n4 g a not_b g a (neg b) refl refl eb made4)

-- the rows of this gate, one after another
pub major_rows : (old n1 n2 n3 n4 n5 n6 : List (List ℕ)) (g a b c not_g not_a not_b not_c : ℕ) → not_g ≡ neg g → not_a ≡ neg a → not_b ≡ neg b → not_c ≡ neg c
    → n1 ≡ old ++ kept (not_a ∷ not_b ∷ g ∷ []) → n2 ≡ n1 ++ kept (not_a ∷ not_c ∷ g ∷ []) → n3 ≡ n2 ++ kept (not_b ∷ not_c ∷ g ∷ []) → n4 ≡ n3 ++ kept (a ∷ b ∷ not_g ∷ []) → n5 ≡ n4 ++ kept (a ∷ c ∷ not_g ∷ []) → n6 ≡ n5 ++ kept (b ∷ c ∷ not_g ∷ [])
    → n6 ≡ old ++ clauses_of_table (gate_table g (Major a b c))
major_rows old n1 n2 n3 n4 n5 n6 g a b c not_g not_a not_b not_c eg ea eb ec made1 made2 made3 made4 made5 made6 =
    row_more old n5 n6 ((neg a ∷ neg b ∷ g ∷ []) ∷ (neg a ∷ neg c ∷ g ∷ []) ∷ (neg b ∷ neg c ∷ g ∷ []) ∷ (a ∷ b ∷ neg g ∷ []) ∷ (a ∷ c ∷ neg g ∷ []) ∷ []) (b ∷ c ∷ neg g ∷ []) (row_more old n4 n5 ((neg a ∷ neg b ∷ g ∷ []) ∷ (neg a ∷ neg c ∷ g ∷ []) ∷ (neg b ∷ neg c ∷ g ∷ []) ∷ (a ∷ b ∷ neg g ∷ []) ∷ []) (a ∷ c ∷ neg g ∷ []) (row_more old n3 n4 ((neg a ∷ neg b ∷ g ∷ []) ∷ (neg a ∷ neg c ∷ g ∷ []) ∷ (neg b ∷ neg c ∷ g ∷ []) ∷ []) (a ∷ b ∷ neg g ∷ []) (row_more old n2 n3 ((neg a ∷ neg b ∷ g ∷ []) ∷ (neg a ∷ neg c ∷ g ∷ []) ∷ []) (neg b ∷ neg c ∷ g ∷ []) (row_more old n1 n2 ((neg a ∷ neg b ∷ g ∷ []) ∷ []) (neg a ∷ neg c ∷ g ∷ []) (row_more old old n1 [] (neg a ∷ neg b ∷ g ∷ []) (table_none old)
    (row_three old n1 not_a not_b g (neg a) (neg b) g ea eb refl made1))
    (row_three n1 n2 not_a not_c g (neg a) (neg c) g ea ec refl made2))
    (row_three n2 n3 not_b not_c g (neg b) (neg c) g eb ec refl made3))
    (row_three n3 n4 a b not_g a b (neg g) refl refl eg made4))
    (row_three n4 n5 a c not_g a c (neg g) refl refl eg made5))
    (row_three n5 n6 b c not_g b c (neg g) refl refl eg made6)

-- the rows of this gate, one after another
pub choice_rows : (old n1 n2 n3 n4 : List (List ℕ)) (g a b c not_g not_a not_b not_c : ℕ) → not_g ≡ neg g → not_a ≡ neg a → not_b ≡ neg b → not_c ≡ neg c
    → n1 ≡ old ++ kept (not_c ∷ not_a ∷ g ∷ []) → n2 ≡ n1 ++ kept (not_c ∷ a ∷ not_g ∷ []) → n3 ≡ n2 ++ kept (c ∷ not_b ∷ g ∷ []) → n4 ≡ n3 ++ kept (c ∷ b ∷ not_g ∷ [])
    → n4 ≡ old ++ clauses_of_table (gate_table g (Choice c a b))
choice_rows old n1 n2 n3 n4 g a b c not_g not_a not_b not_c eg ea eb ec made1 made2 made3 made4 =
    row_more old n3 n4 ((neg c ∷ neg a ∷ g ∷ []) ∷ (neg c ∷ a ∷ neg g ∷ []) ∷ (c ∷ neg b ∷ g ∷ []) ∷ []) (c ∷ b ∷ neg g ∷ []) (row_more old n2 n3 ((neg c ∷ neg a ∷ g ∷ []) ∷ (neg c ∷ a ∷ neg g ∷ []) ∷ []) (c ∷ neg b ∷ g ∷ []) (row_more old n1 n2 ((neg c ∷ neg a ∷ g ∷ []) ∷ []) (neg c ∷ a ∷ neg g ∷ []) (row_more old old n1 [] (neg c ∷ neg a ∷ g ∷ []) (table_none old)
    (row_three old n1 not_c not_a g (neg c) (neg a) g ec ea refl made1))
    (row_three n1 n2 not_c a not_g (neg c) a (neg g) ec refl eg made2))
    (row_three n2 n3 c not_b g c (neg b) g refl eb refl made3))
    (row_three n3 n4 c b not_g c b (neg g) refl refl eg made4)

-- a free gate has no rows
pub free_rows : (old : List (List ℕ)) (g : ℕ) (gate : Gate) → gate ≡ Free → old ≡ old ++ clauses_of_table (gate_table g gate)
free_rows old g gate e = table_none old ∙ ap (λ t. old ++ clauses_of_table (gate_table g t)) (sym e)

-- the clause of variable 0 alone
unit_zero : kept (0 ∷ []) ≡ (0 ∷ []) ∷ []
unfolding clause_of neg
unit_zero = refl

-- the first clause, and those of all gates behind it
pub clauses_made : (start first_made made : List (List ℕ)) (first : ℕ) (gates : List Gate) → start ≡ [] → first ≡ 2 * 0 → first_made ≡ start ++ kept (first ∷ []) → made ≡ first_made ++ clauses_behind 0 gates → made ≡ clauses_of gates
clauses_made start first_made made first gates s z e f =
    f ∙ ap (λ t. t ++ clauses_behind 0 gates) (e ∙ ap (λ t. t ++ kept (first ∷ [])) s ∙ ap (λ n. kept (n ∷ [])) z ∙ unit_zero) ∙ sym (clauses_of-behind gates)

-- no gate's clauses are made yet
pub clauses_begun : (cnf : List (List ℕ)) (from : ℕ) (gates : List Gate) → cnf ++ clauses_from (from + 1) (drop from gates) ≡ cnf ++ clauses_behind from gates
unfolding clauses_behind
clauses_begun cnf from gates = refl

-- what is left from an entry on
drop-at : {A : Type 0} (xs : List A) (k : ℕ) (x : A) → slice_get xs k ≡ Some x → drop k xs ≡ x ∷ drop (k + 1) xs
drop-at xs k x e =
    let next : suc k ≡ k + 1 = omega arith in
    drop-cons xs k x (slice_get_within xs k x e) ∙ ap (λ t. t ∷ drop (suc k) xs) (get_or_from_slice_get xs k x x e) ∙ ap (λ n. x ∷ drop n xs) next

clauses_from-cons : (n : ℕ) (gate : Gate) (gates : List Gate) → clauses_from n (gate ∷ gates) ≡ clauses_of_table (gate_table (2 * n) gate) ++ clauses_from (n + 1) gates
unfolding clauses_from
clauses_from-cons n gate gates = refl

clauses_from-nil : (n : ℕ) → clauses_from n [] ≡ []
unfolding clauses_from
clauses_from-nil n = refl

-- the clauses of one gate more are made
pub clauses_more : (cnf after all : List (List ℕ)) (k lit : ℕ) (gate : Gate) (gates : List Gate) → cnf ++ clauses_from (k + 1) (drop k gates) ≡ all → slice_get gates k ≡ Some gate
    → lit ≡ 2 * (k + 1) → after ≡ cnf ++ clauses_of_table (gate_table lit gate) → after ++ clauses_from (k + 1 + 1) (drop (k + 1) gates) ≡ all
clauses_more cnf after all k lit gate gates i e l a =
    ap (λ t. t ++ clauses_from (k + 1 + 1) (drop (k + 1) gates)) (a ∙ ap (λ n. cnf ++ clauses_of_table (gate_table n gate)) l)
    ∙ append_assoc cnf (clauses_of_table (gate_table (2 * (k + 1)) gate)) (clauses_from (k + 1 + 1) (drop (k + 1) gates))
    ∙ ap (λ t. cnf ++ t) (sym (clauses_from-cons (k + 1) gate (drop (k + 1) gates)) ∙ ap (clauses_from (k + 1)) (sym (drop-at gates k gate e))) ∙ i

-- the clauses of all gates are made
pub clauses_end : (cnf all : List (List ℕ)) (k : ℕ) (gates : List Gate) → cnf ++ clauses_from (k + 1) (drop k gates) ≡ all → length gates ≤ k → cnf ≡ all
clauses_end cnf all k gates i h =
    sym (append-nil cnf) ∙ ap (λ t. cnf ++ t) (sym (clauses_from-nil (k + 1)) ∙ ap (clauses_from (k + 1)) (sym (drop_all k gates h))) ∙ i

-- the values of one gate more are made
pub values_more : (values after free all : List Bool) (value : Bool) (next used k : ℕ) (gate : Gate) (gates : List Gate) → values_from values (drop next free) (drop k gates) ≡ all
    → slice_get gates k ≡ Some gate → value ≡ next_value values (drop next free) gate → after ≡ values ++ value ∷ [] → ((bits : List Bool) → bits_behind bits gate ≡ drop used bits)
    → values_from after (drop (next + used) free) (drop (k + 1) gates) ≡ all
values_more values after free all value next used k gate gates i e v a u =
    ap (λ t. values_from t (drop (next + used) free) (drop (k + 1) gates)) (a ∙ ap (λ b. values ++ b ∷ []) v)
    ∙ ap (λ t. values_from (values ++ next_value values (drop next free) gate ∷ []) t (drop (k + 1) gates)) (sym (u (drop next free) ∙ behind))
    ∙ sym (values_from-cons values (drop next free) gate (drop (k + 1) gates)) ∙ ap (values_from values (drop next free)) (sym (drop-at gates k gate e)) ∙ i where
      behind : drop used (drop next free) ≡ drop (next + used) free
      behind = drop-drop used next free

-- the values of all gates are made
pub values_end : (values free all : List Bool) (next k : ℕ) (gates : List Gate) → values_from values (drop next free) (drop k gates) ≡ all → length gates ≤ k → values ≡ all
values_end values free all next k gates i h = sym (ap (values_from values (drop next free)) (drop_all k gates h) ∙ values_from-none values (drop next free)) ∙ i

pub values_begun : (start : List Bool) (free : List Bool) (gates : List Gate) → start ≡ true ∷ [] → values_from start (drop 0 free) (drop 0 gates) ≡ values_of gates free
unfolding values_of
values_begun start free gates e = ap (λ t. values_from t free gates) e

-- the literal's value by the sign
pub literal_odd : (v : ℕ → Bool) (l : ℕ) → l % 2 ≡ 1 → not (v (l / 2)) ≡ literal_true v l
unfolding literal_true
literal_odd v l e = sym (ap (λ b. cond b (v (l / 2)) (not (v (l / 2)))) (ne_eqb (l % 2) 0 (λ z. omega (arith, e, z))))

pub literal_even : (v : ℕ → Bool) (l : ℕ) → (l % 2 ≡ 1 → ⊥) → v (l / 2) ≡ literal_true v l
unfolding literal_true
literal_even v l d = sym (ap (λ b. cond b (v (l / 2)) (not (v (l / 2)))) (eq-eqb (l % 2) 0 (even (l % 2) d (omega arith)))) where
  even : (r : ℕ) → (r ≡ 1 → ⊥) → r < 2 → r ≡ 0
  even r n h = omega (arith, n, h)
