-- What follows from intervals holds in every store that lies in them.
use Rattle.std.proofs.Common.{◌≡◌, ◌⊎◌, inl, inr, ℕ, zero, suc, refl, sym, ap, subst, arith, ℤ, pos, ◌+ℤ◌, ◌-ℤ◌, ◌≤ℤ◌, ◌<ℤ◌, int_lt, int_le, Bool, true, false, not, ◌&&◌, ◌||◌, List, [], ◌∷◌, Option, Some, None}
use Rattle.std.specs.Ordering.{int_eq}
use Rattle.std.specs.List.{list_any, slice_get}
use Rattle.std.proofs.lemmas.Int.{ints}
use Rattle.std.proofs.lemmas.Bool.{and_parts}
use Rattle.tcl_lang.specs.declared.ty.Word.{Word}
use Rattle.tcl_lang.specs.declared.instr.Atom.{Atom}
use Rattle.tcl_lang.specs.declared.instr.Instr.{Instr}
use Rattle.tcl_lang.specs.declared.instr.Op.{Op}
use Rattle.tcl_lang.specs.declared.instr.Op.TheVariants.{Mov, Add, Adds, Adc, Adcs, Sub, Subb, Sbb, Sbbs, Mul, Mull, Mulj, Shl, Split, Join, Cast, Vpc, Cmov, And, Or, Xor, Not, Nondet}
use Rattle.tcl_lang.specs.declared.range.CmpOp.{CmpOp}
use Rattle.tcl_lang.specs.declared.range.CmpOp.TheVariants.{Eq, Ne, Lt, Le, Gt, Ge}
use Rattle.tcl_lang.specs.declared.range.RngPred.{RngPred, RngPred-F, roll-RngPred, map-RngPred, ind-RngPred}
use Rattle.tcl_lang.specs.declared.range.RngPred.TheOpen as pred_layer
use Rattle.tcl_lang.specs.declared.range.RngPred.TheFolds.{fold-roll-RngPred}
use Rattle.tcl_lang.specs.declared.pred.Pred.{Pred}
use Rattle.tcl_lang.specs.declared.pred.Pred.TheVariants.{Alg, Rng}
use Rattle.tcl_lang.specs.declared.pred.Line.{Line}
use Rattle.tcl_lang.specs.declared.pred.Line.TheVariants as line
use Rattle.tcl_lang.specs.Types.{is_in_type}
use Rattle.tcl_lang.specs.Exactness.{has_condition, exact_value, is_exact}
use Rattle.tcl_lang.specs.Instruction.{nth}
use Rattle.tcl_lang.specs.Store.{word_at, word_of}
use Rattle.tcl_lang.specs.Range.{compares, range_word, truth_step, range_truth}
use Rattle.tcl_lang.specs.Predicate.{predicate_truth}
use Rattle.tcl_lang.specs.Line.{values_of}
use Rattle.tcl_lang.specs.Goal.{truth_in}
use Rattle.tcl_lang.specs.Program.{VersionedProgram}
use Rattle.tcl_goals.specs.declared.fact.Claim.{Claim}
use Rattle.tcl_goals.specs.declared.fact.Claim.TheVariants as claim
use Rattle.tcl_goals.specs.Places.{goal_place}
use Rattle.tcl_lang.specs.Values.{words_of, truth_of}
use Rattle.tcl_goals.specs.Assignments.{claim_of}
use Rattle.tcl_bounds.specs.declared.interval.Interval.{Interval}
use Rattle.tcl_bounds.specs.declared.interval.Known.{Known}
use Rattle.tcl_bounds.specs.Intervals.{In, is_empty, is_within, sum_of, difference_of}
use Rattle.tcl_bounds.specs.Rows.{exact_interval}
use Rattle.tcl_bounds.specs.Narrowing.{interval_at, interval_of, atom_of}
use Rattle.tcl_bounds.specs.Bounds.{operand_interval}
use Rattle.tcl_bounds.specs.Follows.{always, opposite, known, compare_atoms, known_step, range_known, predicate_follows, exactness_follows, line_follows, claim_follows, follows_of}
use Rattle.tcl_bounds.specs.Encloses.{Encloses, FollowsHolds, AlwaysMeansAllPairs}
use Rattle.tcl_bounds.proofs.Ranges.{bool_cases, le_yes, lt_yes, lt_no, eq_yes, eq_same, in_point, in_sum, in_difference, in_product, in_times, in_within, within_test, in_not_empty}
use Rattle.tcl_bounds.proofs.Narrows.{in_interval_of, atom_word}

le_no : (a b : ℤ) → b <ℤ a → int_le a b ≡ false
le_no a b h = elim (bool_cases (int_le a b)) [ inl e ↦ absurd (omega (arith, ints, e, h)) | inr e ↦ e ]

eq_no : (a b : ℤ) → (a <ℤ b) ⊎ (b <ℤ a) → int_eq a b ≡ false
eq_no a b h = elim (bool_cases (int_eq a b)) [
  | inl e ↦ absurd (apart (eq_same a b e) h)
  | inr e ↦ e
]
  where
    apart : a ≡ b → (a <ℤ b) ⊎ (b <ℤ a) → ⊥
    apart e (inl less) = omega (arith, ints, e, less)
    apart e (inr more) = omega (arith, ints, e, more)

either_true : (a b : Bool) → (a || b) ≡ true → (a ≡ true) ⊎ (b ≡ true)
either_true true b e = inl refl
either_true false b e = inr e

-- a comparison that holds for all pairs, and one that holds for none
pub always_holds : (op : CmpOp) (i j : Interval) (m n : ℤ) → In i m → In j n → always op i j ≡ true → compares op m n ≡ true
always_holds Eq i j m n p q e =
    let both = and_parts (int_le i.greatest j.least) (int_le j.greatest i.least) e in
    eq_yes m n (omega (arith, ints, both.0, both.1, p.from, p.to, q.from, q.to))
always_holds Ne i j m n p q e = elim (either_true (int_lt i.greatest j.least) (int_lt j.greatest i.least) e) [
  | inl h ↦ ap not (eq_no m n (inl (omega (arith, ints, h, p.to, q.from))))
  | inr h ↦ ap not (eq_no m n (inr (omega (arith, ints, h, p.from, q.to))))
]
always_holds Lt i j m n p q e = lt_yes m n (omega (arith, ints, e, p.to, q.from))
always_holds Le i j m n p q e = le_yes m n (omega (arith, ints, e, p.to, q.from))
always_holds Gt i j m n p q e = lt_yes n m (omega (arith, ints, e, p.from, q.to))
always_holds Ge i j m n p q e = le_yes n m (omega (arith, ints, e, p.from, q.to))

never_holds : (op : CmpOp) (i j : Interval) (m n : ℤ) → In i m → In j n → always (opposite op) i j ≡ true → compares op m n ≡ false
never_holds Eq i j m n p q e = elim (either_true (int_lt i.greatest j.least) (int_lt j.greatest i.least) e) [
  | inl h ↦ eq_no m n (inl (omega (arith, ints, h, p.to, q.from)))
  | inr h ↦ eq_no m n (inr (omega (arith, ints, h, p.from, q.to)))
]
never_holds Ne i j m n p q e = ap not (always_holds Eq i j m n p q e)
never_holds Lt i j m n p q e = lt_no m n (omega (arith, ints, e, p.from, q.to))
never_holds Le i j m n p q e = le_no m n (omega (arith, ints, e, p.from, q.to))
never_holds Gt i j m n p q e = lt_no n m (omega (arith, ints, e, p.to, q.from))
never_holds Ge i j m n p q e = le_no n m (omega (arith, ints, e, p.to, q.from))

-- what is known is so
pub record IsKnown (k : Known) (t : Bool) : Type 0 where
  pub yes : k.follows ≡ true → t ≡ true
  pub no : k.denied ≡ true → t ≡ false

known_comparison : (bounds : List Interval) (store : List Word) (op : CmpOp) (a b : Option Atom) (m n : ℤ) → Encloses bounds store → ((x : Atom) → a ≡ Some x → m ≡ (word_of store x).value) → ((x : Atom) → b ≡ Some x → n ≡ (word_of store x).value) → IsKnown (compare_atoms bounds op a b) (compares op m n)
known_comparison bounds store op (Some a) (Some b) m n e p q =
    let i : In (interval_of bounds a) m = subst (In (interval_of bounds a)) (sym (p a refl)) (in_interval_of bounds store a e) in
    let j : In (interval_of bounds b) n = subst (In (interval_of bounds b)) (sym (q b refl)) (in_interval_of bounds store b e) in
    record {
      yes = always_holds op (interval_of bounds a) (interval_of bounds b) m n i j;
      no = never_holds op (interval_of bounds a) (interval_of bounds b) m n i j;
    }
known_comparison bounds store op (Some a) None m n e p q = record { yes = λ h. absurd (cc); no = λ h. absurd (cc) }
known_comparison bounds store op None (Some b) m n e p q = record { yes = λ h. absurd (cc); no = λ h. absurd (cc) }
known_comparison bounds store op None None m n e p q = record { yes = λ h. absurd (cc); no = λ h. absurd (cc) }

-- the parts of a predicate
and_true : (a b : Bool) → a ≡ true → b ≡ true → (a && b) ≡ true
and_true a b p q = cc

and_false_left : (a b : Bool) → a ≡ false → (a && b) ≡ false
and_false_left a b p = cc

and_false_right : (a b : Bool) → b ≡ false → (a && b) ≡ false
and_false_right true b p = p
and_false_right false b p = refl

or_true_left : (a b : Bool) → a ≡ true → (a || b) ≡ true
or_true_left a b p = cc

or_true_right : (a b : Bool) → b ≡ true → (a || b) ≡ true
or_true_right true b p = refl
or_true_right false b p = p

or_false : (a b : Bool) → a ≡ false → b ≡ false → (a || b) ≡ false
or_false a b p q = cc

known_not : (k : Known) (t : Bool) → IsKnown k t → IsKnown (known k.denied k.follows) (not t)
known_not k t p = record { yes = λ h. ap not (p.no h); no = λ h. ap not (p.yes h) }

known_both : (k l : Known) (t u : Bool) → IsKnown k t → IsKnown l u → IsKnown (known (k.follows && l.follows) (k.denied || l.denied)) (t && u)
known_both k l t u p q = record {
  yes = λ h. let both = and_parts k.follows l.follows h in and_true t u (p.yes both.0) (q.yes both.1);
  no = λ h. elim (either_true k.denied l.denied h) [ inl x ↦ and_false_left t u (p.no x) | inr x ↦ and_false_right t u (q.no x) ];
}

known_either : (k l : Known) (t u : Bool) → IsKnown k t → IsKnown l u → IsKnown (known (k.follows || l.follows) (k.denied && l.denied)) (t || u)
known_either k l t u p q = record {
  yes = λ h. elim (either_true k.follows l.follows h) [ inl x ↦ or_true_left t u (p.yes x) | inr x ↦ or_true_right t u (q.yes x) ];
  no = λ h. let both = and_parts k.denied l.denied h in or_false t u (p.no both.0) (q.no both.1);
}

abbrev KnownOf : List Interval → List Word → RngPred → Type 0
KnownOf bounds store p = IsKnown (range_known bounds p) (range_truth store p)

abbrev KnownPred : List Interval → List Word → Type 0
KnownPred bounds store = (p : RngPred) × KnownOf bounds store p

known_at : (bounds : List Interval) (store : List Word) (y : RngPred-F RngPred) (k : Known) (t : Bool) → range_known bounds (roll-RngPred y) ≡ k → range_truth store (roll-RngPred y) ≡ t → IsKnown k t → KnownOf bounds store (roll-RngPred y)
known_at bounds store y k t is truth p = subst (λ (l : Known). IsKnown l (range_truth store (roll-RngPred y))) (sym is) (subst (IsKnown k) (sym truth) p)

known_layer : (bounds : List Interval) (store : List Word) → Encloses bounds store → (y : RngPred-F (KnownPred bounds store)) → KnownOf bounds store (roll-RngPred (map-RngPred (KnownPred bounds store) RngPred (λ e. e.0) y))
known_layer bounds store e pred_layer.True =
    known_at bounds store pred_layer.True (known true false) true
    (fold-roll-RngPred Known (known_step bounds) pred_layer.True) (fold-roll-RngPred Bool (truth_step store) pred_layer.True)
    (record { yes = λ h. refl; no = λ h. absurd (cc) })
known_layer bounds store e pred_layer.False =
    known_at bounds store pred_layer.False (known false true) false
    (fold-roll-RngPred Known (known_step bounds) pred_layer.False) (fold-roll-RngPred Bool (truth_step store) pred_layer.False)
    (record { yes = λ h. absurd (cc); no = λ h. refl })
known_layer bounds store e (pred_layer.Cmp op t u) =
    known_at bounds store (pred_layer.Cmp op t u) (compare_atoms bounds op (atom_of t) (atom_of u)) (compares op (range_word store t).value (range_word store u).value)
    (fold-roll-RngPred Known (known_step bounds) (pred_layer.Cmp op t u)) (fold-roll-RngPred Bool (truth_step store) (pred_layer.Cmp op t u))
    (known_comparison bounds store op (atom_of t) (atom_of u) (range_word store t).value (range_word store u).value e
    (λ x is. ap (λ (w : Word). w.value) (atom_word store t x is)) (λ x is. ap (λ (w : Word). w.value) (atom_word store u x is)))
known_layer bounds store e (pred_layer.Not p) =
    known_at bounds store (pred_layer.Not p.0) (known (range_known bounds p.0).denied (range_known bounds p.0).follows) (not (range_truth store p.0))
    (fold-roll-RngPred Known (known_step bounds) (pred_layer.Not p.0)) (fold-roll-RngPred Bool (truth_step store) (pred_layer.Not p.0))
    (known_not (range_known bounds p.0) (range_truth store p.0) p.1)
known_layer bounds store e (pred_layer.Both p q) =
    let k = range_known bounds p.0 in
    let l = range_known bounds q.0 in
    known_at bounds store (pred_layer.Both p.0 q.0) (known (k.follows && l.follows) (k.denied || l.denied)) (range_truth store p.0 && range_truth store q.0)
    (fold-roll-RngPred Known (known_step bounds) (pred_layer.Both p.0 q.0)) (fold-roll-RngPred Bool (truth_step store) (pred_layer.Both p.0 q.0))
    (known_both k l (range_truth store p.0) (range_truth store q.0) p.1 q.1)
known_layer bounds store e (pred_layer.Either p q) =
    let k = range_known bounds p.0 in
    let l = range_known bounds q.0 in
    known_at bounds store (pred_layer.Either p.0 q.0) (known (k.follows || l.follows) (k.denied && l.denied)) (range_truth store p.0 || range_truth store q.0)
    (fold-roll-RngPred Known (known_step bounds) (pred_layer.Either p.0 q.0)) (fold-roll-RngPred Bool (truth_step store) (pred_layer.Either p.0 q.0))
    (known_either k l (range_truth store p.0) (range_truth store q.0) p.1 q.1)

pub range_is_known : (bounds : List Interval) (store : List Word) → Encloses bounds store → (p : RngPred) → KnownOf bounds store p
range_is_known bounds store e = ind-RngPred (KnownOf bounds store) (λ x y is. subst (λ z. KnownOf bounds store (roll-RngPred z)) is (known_layer bounds store e y))

predicate_holds : (bounds : List Interval) (store : List Word) (p : Pred) → Encloses bounds store → predicate_follows bounds p ≡ true → predicate_truth store p ≡ true
predicate_holds bounds store (Alg f) e h = absurd (cc)
predicate_holds bounds store (Rng f) e h = (range_is_known bounds store e f).yes h

-- the operands of an instruction
pub in_operand : (bounds : List Interval) (store : List Word) (args : List Atom) (k : ℕ) → Encloses bounds store → In (operand_interval bounds args k) (nth (values_of store args) k)
in_operand bounds store [] k e = in_point (pos 0)
in_operand bounds store (a ∷ args) zero e = in_interval_of bounds store a e
in_operand bounds store (a ∷ args) (suc k) e = in_operand bounds store args k e

exact_in : (op : Op) (n : ℕ) (a b c : Interval) (x y z : ℤ) → In a x → In b y → In c z → In (exact_interval op n a b c) (exact_value op n x y z)
exact_in Add n a b c x y z p q r = in_sum a b x y p q
exact_in Adc n a b c x y z p q r = in_sum (sum_of a b) c (x +ℤ y) z (in_sum a b x y p q) r
exact_in Sub n a b c x y z p q r = in_difference a b x y p q
exact_in Sbb n a b c x y z p q r = in_difference (difference_of a b) c (x -ℤ y) z (in_difference a b x y p q) r
exact_in Mul n a b c x y z p q r = in_product a b x y p q
exact_in Shl n a b c x y z p q r = in_times n a x p
exact_in Mov n a b c x y z p q r = p
exact_in Adds n a b c x y z p q r = p
exact_in Adcs n a b c x y z p q r = p
exact_in Subb n a b c x y z p q r = p
exact_in Sbbs n a b c x y z p q r = p
exact_in Mull n a b c x y z p q r = p
exact_in Mulj n a b c x y z p q r = p
exact_in Split n a b c x y z p q r = p
exact_in Join n a b c x y z p q r = p
exact_in Cast n a b c x y z p q r = p
exact_in Vpc n a b c x y z p q r = p
exact_in Cmov n a b c x y z p q r = p
exact_in And n a b c x y z p q r = p
exact_in Or n a b c x y z p q r = p
exact_in Xor n a b c x y z p q r = p
exact_in Not n a b c x y z p q r = p
exact_in Nondet n a b c x y z p q r = p

condition_holds : (h t : Bool) → t ≡ true → (not h || t) ≡ true
condition_holds true t e = e
condition_holds false t e = refl

exactness_holds : (bounds : List Interval) (store : List Word) (i : Instr) → Encloses bounds store → exactness_follows bounds i ≡ true → is_exact i.op i.ty i.amount (values_of store i.args) ≡ true
exactness_holds bounds store i e h =
    let a = operand_interval bounds i.args 0 in
    let b = operand_interval bounds i.args 1 in
    let c = operand_interval bounds i.args 2 in
    let x = nth (values_of store i.args) 0 in
    let y = nth (values_of store i.args) 1 in
    let z = nth (values_of store i.args) 2 in
    let within = (and_parts (has_condition i.op) (is_within i.ty (exact_interval i.op i.amount a b c)) h).1 in
    let lies = exact_in i.op i.amount a b c x y z (in_operand bounds store i.args 0 e) (in_operand bounds store i.args 1 e) (in_operand bounds store i.args 2 e) in
    condition_holds (has_condition i.op) (is_in_type i.ty (exact_value i.op i.amount x y z))
    (within_test i.ty (exact_value i.op i.amount x y z) (in_within i.ty (exact_interval i.op i.amount a b c) (exact_value i.op i.amount x y z) lies within))

line_holds : (bounds : List Interval) (store : List Word) (o : Option Line) → Encloses bounds store → line_follows bounds o ≡ true → truth_in store o ≡ true
line_holds bounds store None e h = refl
line_holds bounds store (Some (line.Input T x)) e h = refl
line_holds bounds store (Some (line.Pre p)) e h = predicate_holds bounds store p e h
line_holds bounds store (Some (line.Step i)) e h = exactness_holds bounds store i e h
line_holds bounds store (Some (line.Assert p)) e h = predicate_holds bounds store p e h
line_holds bounds store (Some (line.Assume p)) e h = predicate_holds bounds store p e h
line_holds bounds store (Some (line.Cut p)) e h = predicate_holds bounds store p e h
line_holds bounds store (Some (line.Post p)) e h = predicate_holds bounds store p e h

-- no interval that holds a value is empty
none_empty : (bounds : List Interval) → ((v : ℕ) → (n : ℤ) × In (interval_at bounds v) n) → list_any is_empty bounds ≡ false
none_empty [] e = refl
none_empty (i ∷ bounds) e = or_false (is_empty i) (list_any is_empty bounds) (in_not_empty i (e 0).0 (e 0).1) (none_empty bounds (λ v. e (suc v)))

-- a goal, at values
goal_holds : (bounds : List Interval) (p : VersionedProgram) (values : List ℤ) (k : ℕ) → Encloses bounds (words_of p.variables values) → line_follows bounds (slice_get p.lines k) ≡ true → truth_of p values k ≡ true
unfolding truth_of
goal_holds bounds p values k e h = line_holds bounds (words_of p.variables values) (slice_get p.lines k) e h

claim_holds : (bounds : List Interval) (p : VersionedProgram) (c : Claim) (values : List ℤ) → Encloses bounds (words_of p.variables values) → claim_follows bounds p c ≡ true → claim_of p values c ≡ true
claim_holds bounds p (claim.Goal i) values e h = goal_holds bounds p values (goal_place p.lines i) e h
claim_holds bounds p (claim.Lemma m) values e h = absurd (cc)

pub follows_holds : FollowsHolds
unfolding follows_of
follows_holds p bounds c values e h = elim (either_true (list_any is_empty bounds) (claim_follows bounds p c) h) [
  | inl some ↦ absurd (clash (list_any is_empty bounds) some (none_empty bounds (λ v. ((word_at (words_of p.variables values) v).value, e v))))
  | inr follows ↦ claim_holds bounds p c values e follows
]
  where
    clash : (b : Bool) → b ≡ true → b ≡ false → ⊥
    clash b p q = cc

-- a comparison that holds for all pairs of values holds for the ends
le_from : (m n : ℤ) → int_le m n ≡ true → m ≤ℤ n
le_from m n e = omega (arith, ints, e)

all_pairs : (op : CmpOp) (i j : Interval) → i.least ≤ℤ i.greatest → j.least ≤ℤ j.greatest → ((m n : ℤ) → In i m → In j n → compares op m n ≡ true) → always op i j ≡ true
all_pairs Eq i j p q h =
    let low : In i i.least = record { from = omega (arith, ints); to = p } in
    let high : In i i.greatest = record { from = p; to = omega (arith, ints) } in
    let one : In j j.least = record { from = omega (arith, ints); to = q } in
    let other : In j j.greatest = record { from = q; to = omega (arith, ints) } in
    and_true (int_le i.greatest j.least) (int_le j.greatest i.least)
    (le_yes i.greatest j.least (omega (arith, ints, eq_same i.greatest j.least (h i.greatest j.least high one))))
    (le_yes j.greatest i.least (omega (arith, ints, eq_same i.least j.greatest (h i.least j.greatest low other))))
all_pairs Ne i j p q h = elim (bool_cases (int_lt i.greatest j.least)) [
  | inl e ↦ or_true_left (int_lt i.greatest j.least) (int_lt j.greatest i.least) e
  | inr e ↦ elim (bool_cases (int_lt j.greatest i.least)) [
    | inl f ↦ or_true_right (int_lt i.greatest j.least) (int_lt j.greatest i.least) f
    | inr f ↦ elim (bool_cases (int_le i.least j.least)) [
      | inl g ↦ absurd (apart j.least (h j.least j.least (record { from = le_from i.least j.least g; to = omega (arith, ints, e) }) (record { from = omega (arith, ints); to = q })))
      | inr g ↦ absurd (apart i.least (h i.least i.least (record { from = omega (arith, ints); to = p }) (record { from = omega (arith, ints, g); to = omega (arith, ints, f) })))
    ]
  ]
]
  where
    apart : (n : ℤ) → not (int_eq n n) ≡ true → ⊥
    apart n e = clash (int_eq n n) (eq_yes n n refl) e
      where
        clash : (b : Bool) → b ≡ true → not b ≡ true → ⊥
        clash b p q = cc
all_pairs Lt i j p q h = h i.greatest j.least (record { from = p; to = omega (arith, ints) }) (record { from = omega (arith, ints); to = q })
all_pairs Le i j p q h = h i.greatest j.least (record { from = p; to = omega (arith, ints) }) (record { from = omega (arith, ints); to = q })
all_pairs Gt i j p q h = h i.least j.greatest (record { from = omega (arith, ints); to = p }) (record { from = q; to = omega (arith, ints) })
all_pairs Ge i j p q h = h i.least j.greatest (record { from = omega (arith, ints); to = p }) (record { from = q; to = omega (arith, ints) })

pub always_all : AlwaysMeansAllPairs
always_all op i j p q =
    (λ e m n x y. always_holds op i j m n x y e, λ h. all_pairs op i j (omega (arith, ints, p)) (omega (arith, ints, q)) h)
