-- The clauses of one gate are true exactly where its variable has the gate's value.
use Rattle.std.proofs.Common.{◌≡◌, ℕ, ◌*◌, ◌%◌, Bool, true, false, not, ◌&&◌, ◌||◌, cond, List, [], ◌∷◌, refl, sym, ◌∙◌, ap, arith}
use Rattle.std.proofs.lemmas.Bool.{eq-eqb}
use Rattle.tcl_cnf.specs.Literal.{neg, literal_true}
use Rattle.tcl_cnf.specs.Clause.{clause_true, all_true}
use Rattle.tcl_cnf.proofs.Truth.{neg_true, satisfies-append, kept, kept_true}
use Rattle.tcl_gates.specs.Gates.{gate_table, clauses_of_table, majority, gate_value}
use Rattle.tcl_gates.specs.declared.gate.Gate.{Gate}
use Rattle.tcl_gates.specs.declared.gate.Gate.TheVariants.{And, Xor, Major, Choice, Free}

-- whether two truth values are equal
abbrev pub agree : Bool → Bool → Bool
agree true y = y
agree false y = not y

pub agree_true : (x y : Bool) → agree x y ≡ true → x ≡ y
agree_true true y e = sym e
agree_true false true e = e
agree_true false false e = refl

pub agree_same : (x : Bool) → agree x x ≡ true
agree_same true = refl
agree_same false = refl

-- the clauses of a table are true where each row of literals is
pub table_true : (v : ℕ → Bool) (table : List (List ℕ)) → all_true v (clauses_of_table table) ≡ all_true v table
unfolding clauses_of_table
table_true v [] = refl
table_true v (ls ∷ table) = satisfies-append v (kept ls) (clauses_of_table table) ∙ ap (λ b. b && all_true v (clauses_of_table table)) (kept_true v ls) ∙ ap (λ b. clause_true v ls && b) (table_true v table)

-- the literal of a variable has its value
pub literal_of : (v : ℕ → Bool) (n : ℕ) → literal_true v (2 * n) ≡ v n
unfolding literal_true
literal_of v n = rw (eq-eqb (2 * n % 2) 0 (omega arith)) (ap v (omega arith))

-- a row of two or of three literals
row_two : (v : ℕ → Bool) (l m : ℕ) (x y : Bool) → literal_true v l ≡ x → literal_true v m ≡ y → clause_true v (l ∷ m ∷ []) ≡ (x || (y || false))
row_two v l m x y e f = ap (λ b. b || (literal_true v m || false)) e ∙ ap (λ b. x || (b || false)) f

row_three : (v : ℕ → Bool) (l m n : ℕ) (x y z : Bool) → literal_true v l ≡ x → literal_true v m ≡ y → literal_true v n ≡ z → clause_true v (l ∷ m ∷ n ∷ []) ≡ (x || (y || (z || false)))
row_three v l m n x y z e f g = ap (λ b. b || (literal_true v m || (literal_true v n || false))) e ∙ ap (λ b. x || (b || (literal_true v n || false))) f ∙ ap (λ b. x || (y || (b || false))) g

and_table : (g x y : Bool) → ((not g || (x || false)) && ((not g || (y || false)) && ((g || (not x || (not y || false))) && true))) ≡ agree g (x && y)
and_table true true true = refl
and_table true true false = refl
and_table true false true = refl
and_table true false false = refl
and_table false true true = refl
and_table false true false = refl
and_table false false true = refl
and_table false false false = refl

xor_table : (g x y : Bool) → ((not g || (x || (y || false))) && ((not g || (not x || (not y || false))) && ((g || (not x || (y || false))) && ((g || (x || (not y || false))) && true)))) ≡ agree g (cond x (not y) y)
xor_table true true true = refl
xor_table true true false = refl
xor_table true false true = refl
xor_table true false false = refl
xor_table false true true = refl
xor_table false true false = refl
xor_table false false true = refl
xor_table false false false = refl

major_table : (g x y z : Bool) → ((not x || (not y || (g || false))) && ((not x || (not z || (g || false))) && ((not y || (not z || (g || false)))
    && ((x || (y || (not g || false))) && ((x || (z || (not g || false))) && ((y || (z || (not g || false))) && true)))))) ≡ agree g (majority x y z)
major_table true true true true = refl
major_table true true true false = refl
major_table true true false true = refl
major_table true true false false = refl
major_table true false true true = refl
major_table true false true false = refl
major_table true false false true = refl
major_table true false false false = refl
major_table false true true true = refl
major_table false true true false = refl
major_table false true false true = refl
major_table false true false false = refl
major_table false false true true = refl
major_table false false true false = refl
major_table false false false true = refl
major_table false false false false = refl

choice_table : (g z x y : Bool) → ((not z || (not x || (g || false))) && ((not z || (x || (not g || false))) && ((z || (not y || (g || false))) && ((z || (y || (not g || false))) && true)))) ≡ agree g (cond z x y)
choice_table true true true true = refl
choice_table true true true false = refl
choice_table true true false true = refl
choice_table true true false false = refl
choice_table true false true true = refl
choice_table true false true false = refl
choice_table true false false true = refl
choice_table true false false false = refl
choice_table false true true true = refl
choice_table false true true false = refl
choice_table false true false true = refl
choice_table false true false false = refl
choice_table false false true true = refl
choice_table false false true false = refl
choice_table false false false true = refl
choice_table false false false false = refl

-- rows joined
rows : (a b : Bool) {c d : Bool} → a ≡ b → c ≡ d → (a && c) ≡ (b && d)
rows a b {c} {d} e f = ap (λ t. t && c) e ∙ ap (λ t. b && t) f

-- whether the value is that of the gate, which is always so at a free one
abbrev pub is_value : (ℕ → Bool) → Bool → Gate → Bool
is_value v g Free = true
is_value v g (And a b) = agree g (gate_value v (And a b))
is_value v g (Xor a b) = agree g (gate_value v (Xor a b))
is_value v g (Major a b c) = agree g (gate_value v (Major a b c))
is_value v g (Choice c a b) = agree g (gate_value v (Choice c a b))

-- the clauses of a gate say that its variable has its value
pub gate_true : (v : ℕ → Bool) (g : ℕ) (gate : Gate) → all_true v (gate_table g gate) ≡ is_value v (literal_true v g) gate
gate_true v g Free = refl
gate_true v g (And a b) =
    rows _ _ (row_two v (neg g) a _ _ (neg_true v g) refl) (rows _ _ (row_two v (neg g) b _ _ (neg_true v g) refl)
    (rows _ _ (row_three v g (neg a) (neg b) _ _ _ refl (neg_true v a) (neg_true v b)) refl)) ∙ and_table (literal_true v g) (literal_true v a) (literal_true v b)
gate_true v g (Xor a b) =
    rows _ _ (row_three v (neg g) a b _ _ _ (neg_true v g) refl refl) (rows _ _ (row_three v (neg g) (neg a) (neg b) _ _ _ (neg_true v g) (neg_true v a) (neg_true v b))
    (rows _ _ (row_three v g (neg a) b _ _ _ refl (neg_true v a) refl) (rows _ _ (row_three v g a (neg b) _ _ _ refl refl (neg_true v b)) refl)))
    ∙ xor_table (literal_true v g) (literal_true v a) (literal_true v b)
gate_true v g (Major a b c) =
    rows _ _ (row_three v (neg a) (neg b) g _ _ _ (neg_true v a) (neg_true v b) refl) (rows _ _ (row_three v (neg a) (neg c) g _ _ _ (neg_true v a) (neg_true v c) refl)
    (rows _ _ (row_three v (neg b) (neg c) g _ _ _ (neg_true v b) (neg_true v c) refl) (rows _ _ (row_three v a b (neg g) _ _ _ refl refl (neg_true v g))
    (rows _ _ (row_three v a c (neg g) _ _ _ refl refl (neg_true v g)) (rows _ _ (row_three v b c (neg g) _ _ _ refl refl (neg_true v g)) refl)))))
    ∙ major_table (literal_true v g) (literal_true v a) (literal_true v b) (literal_true v c)
gate_true v g (Choice c a b) =
    rows _ _ (row_three v (neg c) (neg a) g _ _ _ (neg_true v c) (neg_true v a) refl) (rows _ _ (row_three v (neg c) a (neg g) _ _ _ (neg_true v c) refl (neg_true v g))
    (rows _ _ (row_three v c (neg b) g _ _ _ refl (neg_true v b) refl) (rows _ _ (row_three v c b (neg g) _ _ _ refl refl (neg_true v g)) refl)))
    ∙ choice_table (literal_true v g) (literal_true v c) (literal_true v a) (literal_true v b)
