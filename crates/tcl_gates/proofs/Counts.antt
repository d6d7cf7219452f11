-- A gate that is not free gives at least two clauses.
use Rattle.std.proofs.Common.{◌≡◌, ℕ, ◌+◌, ◌*◌, ◌/◌, ◌<◌, ◌≤◌, true, false, ◌||◌, eqb, List, [], ◌∷◌, length, refl, sym, ◌∙◌, ap, subst, arith, ◌⊎◌, inl, inr, length-append}
use Rattle.std.proofs.lemmas.Bool.{eqb-true, or_cases, cases_eq, false_from_ne_true}
use Rattle.tcl_cnf.specs.Literal.{neg}
use Rattle.tcl_cnf.specs.Clause.{has, clashes_within, clause_of}
use Rattle.tcl_cnf.proofs.Truth.{kept, any_has}
use Rattle.tcl_cnf.proofs.Bools.{true-false}
use Rattle.tcl_cnf.proofs.Members.{neg-neg, neg-other, neg-half, neg-same}
use Rattle.tcl_gates.specs.Gates.{gate_table, clauses_of_table, is_free, IsBelow}
use Rattle.tcl_gates.specs.declared.gate.Gate.{Gate}
use Rattle.tcl_gates.specs.declared.gate.Gate.TheVariants.{And, Xor, Major, Choice, Free}

-- literals without a literal and its negation make one clause
kept_one : (ls : List ℕ) → clashes_within ls ≡ false → length (kept ls) ≡ 1
unfolding clause_of
kept_one ls e = rw e refl

rows_count : (row : List ℕ) (rows : List (List ℕ)) → length (clauses_of_table (row ∷ rows)) ≡ length (kept row) + length (clauses_of_table rows)
unfolding clauses_of_table
rows_count row rows = length-append (kept row) (clauses_of_table rows)

-- the negation of a literal of a list is not in it, for each member
no_clash : (ls : List ℕ) → ((l : ℕ) → has l ls ≡ true → has (neg l) ls ≡ true → ⊥) → clashes_within ls ≡ false
no_clash ls f = false_from_ne_true (clashes_within ls) (λ h. let w = any_has (λ l. has (neg l) ls) ls h in f w.0 w.1 w.2)

in_two : (l x y : ℕ) → has l (x ∷ y ∷ []) ≡ true → (x ≡ l) ⊎ (y ≡ l)
in_two l x y h = elim (or_cases (eqb x l) (eqb y l || false) h) [
  | inl e ↦ inl (eqb-true x l e)
  | inr i ↦ elim (or_cases (eqb y l) false i) [ inl e ↦ inr (eqb-true y l e) | inr e ↦ absurd (true-false false e refl) ]
]

in_three : (l x y z : ℕ) → has l (x ∷ y ∷ z ∷ []) ≡ true → (x ≡ l) ⊎ ((y ≡ l) ⊎ (z ≡ l))
in_three l x y z h = elim (or_cases (eqb x l) (has l (y ∷ z ∷ [])) h) [ inl e ↦ inl (eqb-true x l e) | inr i ↦ inr (in_two l y z i) ]

-- the negation of a literal being another is the same both ways
back : (x y l : ℕ) → x ≡ l → y ≡ neg l → y ≡ neg x
back x y l e f = f ∙ ap neg (sym e)

forth : (x y l : ℕ) → y ≡ l → x ≡ neg l → y ≡ neg x
forth x y l e f = sym (neg-neg y) ∙ ap neg (ap neg e ∙ sym f)

itself : (x l : ℕ) → x ≡ l → x ≡ neg l → ⊥
itself x l e f = neg-other l (sym f ∙ e)

two_apart : (x y : ℕ) → (y ≡ neg x → ⊥) → clashes_within (x ∷ y ∷ []) ≡ false
two_apart x y d = no_clash (x ∷ y ∷ []) (λ l h g. elim (in_two l x y h) [
  | inl e ↦ elim (in_two (neg l) x y g) [ inl f ↦ itself x l e f | inr f ↦ d (back x y l e f) ]
  | inr e ↦ elim (in_two (neg l) x y g) [ inl f ↦ d (forth x y l e f) | inr f ↦ itself y l e f ]
])

three_apart : (x y z : ℕ) → (y ≡ neg x → ⊥) → (z ≡ neg x → ⊥) → (z ≡ neg y → ⊥) → clashes_within (x ∷ y ∷ z ∷ []) ≡ false
three_apart x y z d e f = no_clash (x ∷ y ∷ z ∷ []) (λ l h g. elim (in_three l x y z h) [
  | inl p ↦ elim (in_three (neg l) x y z g) [ inl q ↦ itself x l p q | inr r ↦ elim r [ inl q ↦ d (back x y l p q) | inr q ↦ e (back x z l p q) ] ]
  | inr o ↦ elim o [
    | inl p ↦ elim (in_three (neg l) x y z g) [ inl q ↦ d (forth x y l p q) | inr r ↦ elim r [ inl q ↦ itself y l p q | inr q ↦ f (back y z l p q) ] ]
    | inr p ↦ elim (in_three (neg l) x y z g) [ inl q ↦ e (forth x z l p q) | inr r ↦ elim r [ inl q ↦ f (forth y z l p q) | inr q ↦ itself z l p q ] ]
  ]
])

-- literals of different variables are no negations of each other
other_variable : (x y : ℕ) → (x / 2 ≡ y / 2 → ⊥) → y ≡ neg x → ⊥
other_variable x y d e = d (sym (neg-half x) ∙ ap (λ t. t / 2) (sym e))

-- the new literal's variable is none of the older ones
is_new : (n l : ℕ) → l / 2 < n → (2 * n) / 2 ≡ l / 2 → ⊥
is_new n l h e = omega (arith, h, e)

new_apart : (n l : ℕ) → l / 2 < n → l ≡ neg (2 * n) → ⊥
new_apart n l h e = other_variable (2 * n) l (is_new n l h) e

new_neg_apart : (n l : ℕ) → l / 2 < n → l ≡ neg (neg (2 * n)) → ⊥
new_neg_apart n l h e = is_new n l h (ap (λ t. t / 2) (sym (e ∙ neg-neg (2 * n))))

below_neg : (n l : ℕ) → l / 2 < n → neg l / 2 < n
below_neg n l h = subst (λ t. t < n) (sym (neg-half l)) h

-- the new literal behind older ones
behind_apart : (n l : ℕ) → l / 2 < n → 2 * n ≡ neg l → ⊥
behind_apart n l h e = is_new n l h (ap (λ t. t / 2) e ∙ neg-half l)

behind_neg_apart : (n l : ℕ) → l / 2 < n → neg (2 * n) ≡ neg l → ⊥
behind_neg_apart n l h e = is_new n l h (ap (λ t. t / 2) (neg-same (2 * n) l e))

-- negations of literals that are no negations of each other
neg_apart : (x y : ℕ) → (y ≡ neg x → ⊥) → neg y ≡ neg (neg x) → ⊥
neg_apart x y d e = d (neg-same y (neg x) e)

and_two : (n a b : ℕ) → a / 2 < n → b / 2 < n → 2 ≤ length (clauses_of_table (gate_table (2 * n) (And a b)))
and_two n a b h i =
    omega (
      arith,
      rows_count (neg (2 * n) ∷ a ∷ []) ((neg (2 * n) ∷ b ∷ []) ∷ (2 * n ∷ neg a ∷ neg b ∷ []) ∷ []),
      rows_count (neg (2 * n) ∷ b ∷ []) ((2 * n ∷ neg a ∷ neg b ∷ []) ∷ []),
      kept_one (neg (2 * n) ∷ a ∷ []) (two_apart (neg (2 * n)) a (new_neg_apart n a h)),
      kept_one (neg (2 * n) ∷ b ∷ []) (two_apart (neg (2 * n)) b (new_neg_apart n b i)),
    )

-- one row of a table makes a clause, or two do
one_row : (row : List ℕ) (rows : List (List ℕ)) → 1 ≤ length (clauses_of_table rows) → 1 ≤ length (clauses_of_table (row ∷ rows))
one_row row rows h = omega (arith, h, rows_count row rows)

this_row : (row : List ℕ) (rows : List (List ℕ)) → clashes_within row ≡ false → 1 ≤ length (clauses_of_table (row ∷ rows))
this_row row rows e = omega (arith, rows_count row rows, kept_one row e)

two_rows : (row : List ℕ) (rows : List (List ℕ)) → 2 ≤ length (clauses_of_table rows) → 2 ≤ length (clauses_of_table (row ∷ rows))
two_rows row rows h = omega (arith, h, rows_count row rows)

this_and : (row : List ℕ) (rows : List (List ℕ)) → clashes_within row ≡ false → 1 ≤ length (clauses_of_table rows) → 2 ≤ length (clauses_of_table (row ∷ rows))
this_and row rows e h = omega (arith, rows_count row rows, kept_one row e, h)

-- what is apart from the negation of another, by a negation on either side
turned : (a b : ℕ) → (b ≡ neg a → ⊥) → neg b ≡ a → ⊥
turned a b d e = d (sym (neg-neg b) ∙ ap neg e)

both_turned : (a b : ℕ) → (b ≡ neg a → ⊥) → neg b ≡ neg (neg a) → ⊥
both_turned a b d e = d (neg-same b (neg a) e)

same_apart : (a b : ℕ) → b ≡ neg a → b ≡ neg (neg a) → ⊥
same_apart a b e f = neg-other a (sym e ∙ f ∙ neg-neg a)

same_turned : (a b : ℕ) → b ≡ neg a → neg b ≡ neg a → ⊥
same_turned a b e f = neg-other b (f ∙ sym e)

xor_two : (n a b : ℕ) → a / 2 < n → b / 2 < n → 2 ≤ length (clauses_of_table (gate_table (2 * n) (Xor a b)))
xor_two n a b h i =
    elim (cases_eq b (neg a)) [
      | inr d ↦ this_and _ _ (three_apart (neg (2 * n)) a b (new_neg_apart n a h) (new_neg_apart n b i) d)
          (this_row _ _ (three_apart (neg (2 * n)) (neg a) (neg b) (new_neg_apart n (neg a) (below_neg n a h)) (new_neg_apart n (neg b) (below_neg n b i)) (both_turned a b d)))
      | inl e ↦ two_rows _ _ (two_rows _ _ (this_and _ _ (three_apart (2 * n) (neg a) b (new_apart n (neg a) (below_neg n a h)) (new_apart n b i) (same_apart a b e))
          (this_row _ _ (three_apart (2 * n) a (neg b) (new_apart n a h) (new_apart n (neg b) (below_neg n b i)) (same_turned a b e)))))
    ]

-- a row of two older literals and the new one
older_and_new : (n a b : ℕ) → a / 2 < n → b / 2 < n → (b ≡ neg a → ⊥) → clashes_within (a ∷ b ∷ 2 * n ∷ []) ≡ false
older_and_new n a b h i d = three_apart a b (2 * n) d (behind_apart n a h) (behind_apart n b i)

older_and_neg : (n a b : ℕ) → a / 2 < n → b / 2 < n → (b ≡ neg a → ⊥) → clashes_within (a ∷ b ∷ neg (2 * n) ∷ []) ≡ false
older_and_neg n a b h i d = three_apart a b (neg (2 * n)) d (behind_neg_apart n a h) (behind_neg_apart n b i)

major_two : (n a b c : ℕ) → a / 2 < n → b / 2 < n → c / 2 < n → 2 ≤ length (clauses_of_table (gate_table (2 * n) (Major a b c)))
major_two n a b c h i j =
    elim (cases_eq b (neg a)) [
      | inr d ↦ this_and _ _ (older_and_new n (neg a) (neg b) (below_neg n a h) (below_neg n b i) (both_turned a b d))
          (one_row _ _ (one_row _ _ (this_row _ _ (older_and_neg n a b h i d))))
      | inl e ↦ elim (cases_eq c (neg a)) [
        | inr d ↦ two_rows _ _ (this_and _ _ (older_and_new n (neg a) (neg c) (below_neg n a h) (below_neg n c j) (both_turned a c d))
            (one_row _ _ (one_row _ _ (this_row _ _ (older_and_neg n a c h j d)))))
        | inl f ↦ let d : c ≡ neg b → ⊥ = λ g. neg-other b (sym g ∙ f ∙ sym e) in
            two_rows _ _ (two_rows _ _ (this_and _ _ (older_and_new n (neg b) (neg c) (below_neg n b i) (below_neg n c j) (both_turned b c d))
            (one_row _ _ (one_row _ _ (this_row _ _ (older_and_neg n b c i j d))))))
      ]
    ]

-- one of two rows with the same condition, where the arm stands with both signs
choice_one : (n c a : ℕ) (rows : List (List ℕ)) → c / 2 < n → a / 2 < n
    → (length (clauses_of_table rows) + 1) ≤ length (clauses_of_table ((c ∷ neg a ∷ 2 * n ∷ []) ∷ (c ∷ a ∷ neg (2 * n) ∷ []) ∷ rows))
choice_one n c a rows h i =
    elim (cases_eq a (neg c)) [
      | inr d ↦ omega (arith, rows_count (c ∷ neg a ∷ 2 * n ∷ []) ((c ∷ a ∷ neg (2 * n) ∷ []) ∷ rows), rows_count (c ∷ a ∷ neg (2 * n) ∷ []) rows, kept_one (c ∷ a ∷ neg (2 * n) ∷ []) (older_and_neg n c a h i d))
      | inl e ↦ omega (
        arith,
        rows_count (c ∷ neg a ∷ 2 * n ∷ []) ((c ∷ a ∷ neg (2 * n) ∷ []) ∷ rows),
        rows_count (c ∷ a ∷ neg (2 * n) ∷ []) rows,
        kept_one (c ∷ neg a ∷ 2 * n ∷ []) (older_and_new n c (neg a) h (below_neg n a i) (same_turned c a e)),
      )
    ]

choice_two : (n c a b : ℕ) → c / 2 < n → a / 2 < n → b / 2 < n → 2 ≤ length (clauses_of_table (gate_table (2 * n) (Choice c a b)))
choice_two n c a b h i j =
    omega (arith, choice_one n (neg c) a ((c ∷ neg b ∷ 2 * n ∷ []) ∷ (c ∷ b ∷ neg (2 * n) ∷ []) ∷ []) (below_neg n c h) i, choice_one n c b [] h j)

-- a gate that is not free gives at least two clauses
pub two_clauses : (n : ℕ) (gate : Gate) → is_free gate ≡ false → IsBelow n gate → 2 ≤ length (clauses_of_table (gate_table (2 * n) gate))
two_clauses n Free e h = absurd (true-false true refl e)
two_clauses n (And a b) e h = and_two n a b h.0 h.1
two_clauses n (Xor a b) e h = xor_two n a b h.0 h.1
two_clauses n (Major a b c) e h = major_two n a b c h.0 h.1 h.2
two_clauses n (Choice c a b) e h = choice_two n c a b h.0 h.1 h.2
