-- How many literals of a clause are not false where some literals are true.
use Rattle.std.proofs.Common.{◌≡◌, ℕ, suc, ◌+◌, ◌-◌, ◌<◌, ◌≤◌, Bool, true, false, not, ◌&&◌, ◌||◌, cond, eqb, ltb, List, [], ◌∷◌, length, drop, get_or, drop-cons, drop_of_length-le, refl, sym, ap, subst, ◌∙◌, arith, inl, inr}
use Rattle.std.proofs.lemmas.Bool.{cases_Bool, eqb-true, eq-eqb}
use Rattle.tcl_cnf.specs.Literal.{neg}
use Rattle.tcl_cnf.specs.Clause.{has, put, without, IsIncreasing}
use Rattle.tcl_cnf.specs.Propagation.{is_false}
use Rattle.tcl_cnf.proofs.Bools.{true-false}
use Rattle.tcl_cnf.proofs.Members.{has-put}
use Rattle.tcl_cnf.proofs.Ordered.{same_increasing, increasing-put, below-not_in}
use Rattle.tcl_sat.specs.Analysis.{open_one, open_count}

pub open_count-cons : (trues : List ℕ) (l : ℕ) (c : List ℕ) → open_count trues (l ∷ c) ≡ open_one trues l + open_count trues c
unfolding open_count
open_count-cons trues l c = refl

pub open_count-none : (trues : List ℕ) → open_count trues [] ≡ 0
unfolding open_count
open_count-none trues = refl

put_one : (trues : List ℕ) (l m : ℕ) (c : List ℕ) (a b : Bool) → eqb l m ≡ a → a ≡ false → open_count trues (put l c) ≡ open_one trues l + open_count trues c
    → open_count trues (cond a (m ∷ c) (cond b (l ∷ m ∷ c) (m ∷ put l c))) ≡ open_one trues l + open_count trues (m ∷ c)
put_one trues l m c true b e f h = absurd (true-false true refl f)
put_one trues l m c false true e f h = open_count-cons trues l (m ∷ c)
put_one trues l m c false false e f h =
    let before = open_count-cons trues m (put l c) in
    let after = open_count-cons trues m c in
    omega (arith, h, before, after)

-- a literal more
pub open_count-put : (trues : List ℕ) (l : ℕ) (c : List ℕ) → has l c ≡ false → open_count trues (put l c) ≡ open_one trues l + open_count trues c
open_count-put trues l [] out = open_count-cons trues l []
open_count-put trues l (m ∷ c) out =
    put_one trues l m c (eqb l m) (ltb l m) refl (other (eqb l m) refl) (open_count-put trues l c (rest (eqb m l) refl)) where
      rest : (b : Bool) → eqb m l ≡ b → has l c ≡ false
      rest true e = absurd (true-false true refl (sym (ap (λ t. t || has l c) e) ∙ out))
      rest false e = sym (ap (λ t. t || has l c) e) ∙ out

      other : (b : Bool) → eqb l m ≡ b → eqb l m ≡ false
      other false e = e
      other true e = absurd (true-false true refl (sym (ap (λ t. t || has l c) (eq-eqb m l (sym (eqb-true l m e)))) ∙ out))

-- a literal that is there already
pub put_known : (l : ℕ) (c : List ℕ) → IsIncreasing c → has l c ≡ true → put l c ≡ c
put_known l c inc there = same_increasing (put l c) c (increasing-put l c inc) inc (λ x. has-put x l c ∙ elim (cases_Bool (eqb l x)) [
  | inl e ↦ rw e (sym (subst (λ (t : ℕ). has t c ≡ true) (eqb-true l x e) there))
  | inr e ↦ rw e refl
])

-- a literal that is not there
without_none : (l : ℕ) (c : List ℕ) → has l c ≡ false → without l c ≡ c
without_none l [] out = refl
without_none l (m ∷ c) out = elim (cases_Bool (eqb m l)) [
  | inl e ↦ absurd (true-false true refl (sym (ap (λ t. t || has l c) e) ∙ out))
  | inr e ↦ ap (λ t. cond (not t) (m ∷ without l c) (without l c)) e ∙ ap (λ t. m ∷ t) (without_none l c (sym (ap (λ t. t || has l c) e) ∙ out))
]

-- a literal less
pub open_count-without : (trues : List ℕ) (l : ℕ) (c : List ℕ) → IsIncreasing c → has l c ≡ true → open_one trues l + open_count trues (without l c) ≡ open_count trues c
open_count-without trues l [] inc there = absurd (true-false false there refl)
open_count-without trues l (m ∷ c) inc there = elim (cases_Bool (eqb m l)) [
  | inl e ↦
      let same : m ≡ l = eqb-true m l e in
      let out : has l c ≡ false = subst (λ (t : ℕ). has t c ≡ false) same (below-not_in m c inc.0) in
      ap (λ t. open_one trues l + open_count trues (cond (not t) (m ∷ without l c) (without l c))) e
      ∙ ap (λ t. open_one trues l + open_count trues t) (without_none l c out)
      ∙ ap (λ t. open_one trues t + open_count trues c) (sym same) ∙ sym (open_count-cons trues m c)
  | inr e ↦
      let rest = open_count-without trues l c inc.1 (sym (ap (λ t. t || has l c) e) ∙ there) in
      let after = open_count-cons trues m c in
      let before = open_count-cons trues m (without l c) in
      ap (λ t. open_one trues l + open_count trues (cond (not t) (m ∷ without l c) (without l c))) e ∙ omega (arith, rest, after, before)
]

-- a clause is false where no literal is left
false_one : (trues : List ℕ) (l : ℕ) (c : List ℕ) (b : Bool) → has (neg l) trues ≡ b → (open_count trues c ≡ 0 → is_false trues c ≡ true) → cond b 0 1 + open_count trues c ≡ 0
    → (b && is_false trues c) ≡ true
false_one trues l c true e h n = h (omega (arith, n))
false_one trues l c false e h n = absurd (omega (arith, n))

pub none_open : (trues c : List ℕ) → open_count trues c ≡ 0 → is_false trues c ≡ true
none_open trues [] n = refl
none_open trues (l ∷ c) n = false_one trues l c (has (neg l) trues) refl (none_open trues c) (sym (open_count-cons trues l c) ∙ n)

count_one : (trues : List ℕ) (l : ℕ) (c : List ℕ) (b : Bool) → has (neg l) trues ≡ b → (is_false trues c ≡ true → open_count trues c ≡ 0) → (b && is_false trues c) ≡ true
    → cond b 0 1 + open_count trues c ≡ 0
count_one trues l c true e h f = let r = h f in omega (arith, r)
count_one trues l c false e h f = absurd (true-false false f refl)

pub open_none : (trues c : List ℕ) → is_false trues c ≡ true → open_count trues c ≡ 0
open_none trues [] f = open_count-none trues
open_none trues (l ∷ c) f = open_count-cons trues l c ∙ count_one trues l c (has (neg l) trues) refl (open_none trues c) f

-- a literal that is not false is counted
pub some_open : (trues : List ℕ) (l : ℕ) (c : List ℕ) → IsIncreasing c → has l c ≡ true → has (neg l) trues ≡ false → 1 + open_count trues (without l c) ≡ open_count trues c
some_open trues l c inc there out = ap (λ b. cond b 0 1 + open_count trues (without l c)) (sym out) ∙ open_count-without trues l c inc there

-- all others are false where one is counted
pub one_open : (trues : List ℕ) (l n : ℕ) (c : List ℕ) → IsIncreasing c → has l c ≡ true → has (neg l) trues ≡ false → n ≡ open_count trues c → n ≡ 1 → is_false trues (without l c) ≡ true
one_open trues l n c inc there out h one = let s = some_open trues l c inc there out in none_open trues (without l c) (omega (arith, s, h, one))

-- another one is not where more are counted
pub more_open : (trues : List ℕ) (l n : ℕ) (c : List ℕ) → IsIncreasing c → has l c ≡ true → has (neg l) trues ≡ false → n ≡ open_count trues c → (n ≡ 1 → ⊥) → is_false trues (without l c) ≡ false
more_open trues l n c inc there out h more =
    let s = some_open trues l c inc there out in
    elim (cases_Bool (is_false trues (without l c))) [
      | inr e ↦ e
      | inl e ↦ let z = open_none trues (without l c) e in absurd (more (omega (arith, s, h, z)))
    ]

-- one literal of a list is counted, and the rest is left
pub count_more : (trues lits : List ℕ) (i x : ℕ) → i < length lits → x ≡ get_or lits i x → open_count trues (drop i lits) ≡ open_one trues x + open_count trues (drop (i + 1) lits)
count_more trues lits i x h e =
    let next : suc i ≡ i + 1 = omega arith in
    ap (open_count trues) (drop-cons lits i x h ∙ ap (λ t. t ∷ drop (suc i) lits) (sym e)) ∙ open_count-cons trues x (drop (suc i) lits)
    ∙ ap (λ n. open_one trues x + open_count trues (drop n lits)) next

pub count_ended : (trues lits : List ℕ) (i : ℕ) → length lits ≤ i → open_count trues (drop i lits) ≡ 0
count_ended trues lits i h = ap (open_count trues) (drop_of_length-le lits h) ∙ open_count-none trues

-- a literal that was not there is counted
pub put_counted : (trues : List ℕ) (l n n' : ℕ) (c : List ℕ) → has l c ≡ false → n ≡ open_count trues c → n' ≡ n + open_one trues l → n' ≡ open_count trues (put l c)
put_counted trues l n n' c out h r = let p = open_count-put trues l c out in omega (arith, p, h, r)

-- a literal that is not false is taken out
pub one_less : (trues : List ℕ) (l n : ℕ) (c : List ℕ) → IsIncreasing c → has l c ≡ true → has (neg l) trues ≡ false → n ≡ open_count trues c → (1 ≤ n) × (n - 1 ≡ open_count trues (without l c))
one_less trues l n c inc there out h = let s = some_open trues l c inc there out in (omega (arith, s, h), omega (arith, s, h))
