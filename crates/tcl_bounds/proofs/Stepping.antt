-- An instruction of a form can be computed from intervals within the types: the form can be executed at their ends.
use Rattle.std.proofs.Common.{◌≡◌, ◌⊎◌, inl, inr, ℕ, zero, suc, ◌-◌, refl, sym, subst, arith, ℤ, pos, ◌≤ℤ◌, int_lt, int_le, Bool, true, false, cond, List, [], ◌∷◌, map, Some}
use Rattle.std.specs.List.{slice_get, list_any}
use Rattle.std.proofs.lemmas.Int.{ints}
use Rattle.std.proofs.lemmas.Bool.{and_parts, or_parts}
use Rattle.std.proofs.lemmas.Nat.{pow_pos}
use Rattle.tcl_num.specs.Range.{InRange, least_value, values_end}
use Rattle.tcl_lang.specs.declared.ty.Ty.{Ty}
use Rattle.tcl_lang.specs.declared.instr.Atom.{Atom}
use Rattle.tcl_lang.specs.declared.instr.Atom.TheVariants.{Var, Lit}
use Rattle.tcl_lang.specs.declared.instr.Instr.{Instr}
use Rattle.tcl_lang.specs.declared.instr.Op.{Op}
use Rattle.tcl_lang.specs.declared.instr.Op.TheVariants.{Nondet}
use Rattle.tcl_lang.specs.declared.variable.Variable.{Variable}
use Rattle.tcl_lang.specs.declared.pred.Line.{Line}
use Rattle.tcl_lang.specs.declared.pred.Line.TheVariants.{Input, Pre, Step, Assert, Assume, Cut, Post}
use Rattle.tcl_lang.specs.Types.{InType}
use Rattle.tcl_lang.specs.Store.{word_at, word_of}
use Rattle.tcl_lang.specs.Instruction.{nth}
use Rattle.tcl_lang.specs.Exactness.{has_condition}
use Rattle.tcl_lang.specs.Line.{values_of, choice_type}
use Rattle.tcl_lang.specs.Run.{Fits, operands_of}
use Rattle.tcl_lang.specs.Operands.{IsExecutable, HasOperands}
use Rattle.tcl_lang.specs.Program.{VersionedProgram}
use Rattle.tcl_lang.specs.Form.{IsWellFormed}
use Rattle.tcl_lang.specs.Values.{AreValues, words_of}
use Rattle.tcl_lang.proofs.MachineRuns.{has_operands}
use Rattle.tcl_lang.proofs.ValueSteps.{values_execute}
use Rattle.tcl_bounds.specs.declared.interval.Interval.{Interval}
use Rattle.tcl_bounds.specs.Intervals.{is_within, is_empty, point}
use Rattle.tcl_bounds.specs.Narrowing.{interval_at, interval_of}
use Rattle.tcl_bounds.specs.Bounds.{operand_interval}
use Rattle.tcl_bounds.specs.Conditions.{AreWithin, CanTake, CanStep, CanFollow, CanPassLine, is_nondet}

-- an end of an interval, or zero where it is empty
abbrev LeastOf : Interval → ℤ
LeastOf i = cond (is_empty i) (pos 0) i.least

abbrev GreatestOf : Interval → ℤ
GreatestOf i = cond (is_empty i) (pos 0) i.greatest

-- a choice of an end of each interval, which lies in it where it is not empty
pub record IsEnd (end : Interval → ℤ) : Type 0 where
  pub lies : (i : Interval) → is_empty i ≡ false → (i.least ≤ℤ end i) × (end i ≤ℤ i.greatest)
  pub empty : (i : Interval) → is_empty i ≡ true → end i ≡ pos 0
  pub point : (n : ℤ) → end (point n) ≡ n

not_above : (i : Interval) → is_empty i ≡ false → i.least ≤ℤ i.greatest
not_above i e = omega (arith, ints, e)

point_full : (n : ℤ) → is_empty (point n) ≡ false
point_full n = elim (cases (int_lt n n)) [ inl e ↦ absurd (omega (arith, ints, e)) | inr e ↦ e ]
  where
    cases : (b : Bool) → (b ≡ true) ⊎ (b ≡ false)
    cases true = inl refl
    cases false = inr refl

kept : (b : Bool) (m n : ℤ) → b ≡ false → cond b m n ≡ n
kept true m n e = absurd (cc)
kept false m n e = refl

dropped : (b : Bool) (m n : ℤ) → b ≡ true → cond b m n ≡ m
dropped true m n e = refl
dropped false m n e = absurd (cc)

pub least_is_end : IsEnd LeastOf
least_is_end = record {
  lies = λ i e. let is = kept (is_empty i) (pos 0) i.least e in (omega (arith, ints, is), omega (arith, ints, is, not_above i e));
  empty = λ i e. dropped (is_empty i) (pos 0) i.least e;
  point = λ n. kept (is_empty (point n)) (pos 0) n (point_full n);
}

pub greatest_is_end : IsEnd GreatestOf
greatest_is_end = record {
  lies = λ i e. let is = kept (is_empty i) (pos 0) i.greatest e in (omega (arith, ints, is, not_above i e), omega (arith, ints, is));
  empty = λ i e. dropped (is_empty i) (pos 0) i.greatest e;
  point = λ n. kept (is_empty (point n)) (pos 0) n (point_full n);
}

-- zero is a value of each type
zero_in : (s : Bool) (w : ℕ) → InRange s w (pos 0)
zero_in true w = (omega (arith, ints), omega (arith, ints, pow_pos (w - 1)))
zero_in false w = (omega (arith, ints), omega (arith, ints, pow_pos w))

-- ends are values of the types
end_in_type : (end : Interval → ℤ) → IsEnd end → (T : Ty) (i : Interval) → is_within T i ≡ true → InType T (end i)
end_in_type end is T i w = at (is_empty i) refl
  where
    at : (b : Bool) → is_empty i ≡ b → InType T (end i)
    at true e = subst (InType T) (sym (is.empty i e)) (zero_in T.signed T.width)
    at false e =
        let ends = and_parts (int_le (least_value T.signed T.width) i.least) (int_lt i.greatest (values_end T.signed T.width)) w in
        let lies = is.lies i e in
        (omega (arith, ints, ends.0, lies.0), omega (arith, ints, ends.1, lies.1))

ends_fit : (end : Interval → ℤ) → IsEnd end → (vs : List Variable) (bs : List Interval) → AreWithin vs bs → Fits (map (λ (v : Variable). v.ty) vs) (map end bs)
ends_fit end is [] [] w = tt
ends_fit end is [] (i ∷ bs) w = absurd w
ends_fit end is (v ∷ vs) [] w = absurd w
ends_fit end is (v ∷ vs) (i ∷ bs) w = (end_in_type end is v.ty i w.0, ends_fit end is vs bs w.1)

-- the operands at the ends
word_end : (end : Interval → ℤ) → IsEnd end → (vs : List Variable) (bs : List Interval) (u : ℕ) → AreWithin vs bs → (word_at (words_of vs (map end bs)) u).value ≡ end (interval_at bs u)
word_end end is [] [] u w = sym (is.point (pos 0))
word_end end is [] (i ∷ bs) u w = absurd w
word_end end is (v ∷ vs) [] u w = absurd w
word_end end is (v ∷ vs) (i ∷ bs) zero w = refl
word_end end is (v ∷ vs) (i ∷ bs) (suc u) w = word_end end is vs bs u w.1

atom_end : (end : Interval → ℤ) → IsEnd end → (vs : List Variable) (bs : List Interval) (a : Atom) → AreWithin vs bs → (word_of (words_of vs (map end bs)) a).value ≡ end (interval_of bs a)
atom_end end is vs bs (Var v) w = word_end end is vs bs v w
atom_end end is vs bs (Lit T n) w = sym (is.point n)

operand_end : (end : Interval → ℤ) → IsEnd end → (vs : List Variable) (bs : List Interval) (args : List Atom) (k : ℕ) → AreWithin vs bs → nth (values_of (words_of vs (map end bs)) args) k ≡ end (operand_interval bs args k)
operand_end end is vs bs [] k w = sym (is.point (pos 0))
operand_end end is vs bs (a ∷ args) zero w = atom_end end is vs bs a w
operand_end end is vs bs (a ∷ args) (suc k) w = operand_end end is vs bs args k w

operands_read : (op : Op) (values : List ℤ) (choice : ℤ) → is_nondet op ≡ false → operands_of op values choice ≡ values
operands_read Nondet values choice e = absurd (cc)
operands_read _ values choice e = refl

three : (op : Op) (T : Ty) (n : ℕ) (a b c x y z : ℤ) → a ≡ x → b ≡ y → c ≡ z → HasOperands op T n a b c → HasOperands op T n x y z
three op T n a b c x y z p q r h =
    subst (λ v. HasOperands op T n v y z) p (subst (λ v. HasOperands op T n a v z) q (subst (λ v. HasOperands op T n a b v) r h))

-- an instruction that takes no value can be executed at any values in their types
no_choice : (op : Op) (T U : Ty) → is_nondet op ≡ false → choice_type op T ≡ Some U → ⊥
no_choice Nondet T U e f = cc
no_choice _ T U e f = cc

pub can_execute : (p : VersionedProgram) (values : List ℤ) (k : ℕ) (i : Instr) (choice : ℤ) → IsWellFormed p → AreValues p.variables values → slice_get p.lines k ≡ Some (Step i) → is_nondet i.op ≡ false → IsExecutable i.op i.ty i.amount (operands_of i.op (values_of (words_of p.variables values) i.args) choice)
can_execute p values k i choice w a at e =
    (values_execute p values k i choice w a at (λ U f. absurd (no_choice i.op i.ty U e f))).operands

-- the operands at given values
at_values : (p : VersionedProgram) (values : List ℤ) (k : ℕ) (i : Instr) (x y z : ℤ) → IsWellFormed p → AreValues p.variables values → slice_get p.lines k ≡ Some (Step i) → is_nondet i.op ≡ false → nth (values_of (words_of p.variables values) i.args) 0 ≡ x → nth (values_of (words_of p.variables values) i.args) 1 ≡ y → nth (values_of (words_of p.variables values) i.args) 2 ≡ z → HasOperands i.op i.ty i.amount x y z
at_values p values k i x y z w a at e q r s =
    let operands = values_of (words_of p.variables values) i.args in
    let here = subst (IsExecutable i.op i.ty i.amount) (operands_read i.op operands (pos 0) e) (can_execute p values k i (pos 0) w a at e) in
    three i.op i.ty i.amount (nth operands 0) (nth operands 1) (nth operands 2) x y z q r s
    (has_operands i.op i.ty i.amount operands here)

at_ends : (end : Interval → ℤ) → IsEnd end → (p : VersionedProgram) (bs : List Interval) (k : ℕ) (i : Instr) → IsWellFormed p → AreWithin p.variables bs → slice_get p.lines k ≡ Some (Step i) → is_nondet i.op ≡ false → HasOperands i.op i.ty i.amount (end (operand_interval bs i.args 0)) (end (operand_interval bs i.args 1)) (end (operand_interval bs i.args 2))
at_ends end is p bs k i form w at e =
    let vs = p.variables in
    at_values p (map end bs) k i _ _ _ form (ends_fit end is vs bs w) at e
    (operand_end end is vs bs i.args 0 w) (operand_end end is vs bs i.args 1 w) (operand_end end is vs bs i.args 2 w)

pub can_step : (p : VersionedProgram) (bs : List Interval) (k : ℕ) (i : Instr) → IsWellFormed p → AreWithin p.variables bs → slice_get p.lines k ≡ Some (Step i) → CanStep bs i
can_step p bs k i form w at e f g h =
    let a = operand_interval bs i.args 0 in
    let b = operand_interval bs i.args 1 in
    let c = operand_interval bs i.args 2 in
    record {
      least = three i.op i.ty i.amount (LeastOf a) (LeastOf b) (LeastOf c) a.least b.least c.least
          (kept (is_empty a) (pos 0) a.least f) (kept (is_empty b) (pos 0) b.least g) (kept (is_empty c) (pos 0) c.least h)
          (at_ends LeastOf least_is_end p bs k i form w at e);
      greatest = three i.op i.ty i.amount (GreatestOf a) (GreatestOf b) (GreatestOf c) a.greatest b.greatest c.greatest
          (kept (is_empty a) (pos 0) a.greatest f) (kept (is_empty b) (pos 0) b.greatest g) (kept (is_empty c) (pos 0) c.greatest h)
          (at_ends GreatestOf greatest_is_end p bs k i form w at e);
      first = not_above a f;
      second = not_above b g;
      third = not_above c h;
    }

-- where no interval is empty, no operand's is
pub none_of_them : (bs : List Interval) → list_any is_empty bs ≡ false → (u : ℕ) → is_empty (interval_at bs u) ≡ false
none_of_them [] e u = point_full (pos 0)
none_of_them (i ∷ bs) e zero = (or_parts (is_empty i) (list_any is_empty bs) e).0
none_of_them (i ∷ bs) e (suc u) = none_of_them bs (or_parts (is_empty i) (list_any is_empty bs) e).1 u

pub operand_full : (bs : List Interval) (args : List Atom) (k : ℕ) → list_any is_empty bs ≡ false → is_empty (operand_interval bs args k) ≡ false
operand_full bs [] k e = point_full (pos 0)
operand_full bs (Var v ∷ args) zero e = none_of_them bs e v
operand_full bs (Lit T n ∷ args) zero e = point_full n
operand_full bs (a ∷ args) (suc k) e = operand_full bs args k e

condition_no_choice : (op : Op) → has_condition op ≡ true → is_nondet op ≡ false
condition_no_choice Nondet e = absurd (cc)
condition_no_choice _ e = refl

pub can_take : (p : VersionedProgram) (bs : List Interval) (k : ℕ) (i : Instr) → IsWellFormed p → AreWithin p.variables bs → slice_get p.lines k ≡ Some (Step i) → has_condition i.op ≡ true → list_any is_empty bs ≡ false → CanTake i.op i.ty i.amount (operand_interval bs i.args 0) (operand_interval bs i.args 1) (operand_interval bs i.args 2)
can_take p bs k i form w at c e =
    can_step p bs k i form w at (condition_no_choice i.op c) (operand_full bs i.args 0 e) (operand_full bs i.args 1 e) (operand_full bs i.args 2 e)

pub can_follow : (p : VersionedProgram) (bs : List Interval) (k : ℕ) (l : Line) → IsWellFormed p → AreWithin p.variables bs → slice_get p.lines k ≡ Some l → list_any is_empty bs ≡ false → CanFollow bs l
can_follow p bs k (Input T x) form w at e = tt
can_follow p bs k (Pre q) form w at e = tt
can_follow p bs k (Step i) form w at e = λ c. can_take p bs k i form w at c e
can_follow p bs k (Assert q) form w at e = tt
can_follow p bs k (Assume q) form w at e = tt
can_follow p bs k (Cut q) form w at e = tt
can_follow p bs k (Post q) form w at e = tt

pub can_pass_line : (p : VersionedProgram) (bs : List Interval) (k : ℕ) (l : Line) → IsWellFormed p → AreWithin p.variables bs → slice_get p.lines k ≡ Some l → CanPassLine bs l
can_pass_line p bs k (Input T x) form w at = tt
can_pass_line p bs k (Pre q) form w at = tt
can_pass_line p bs k (Step i) form w at = can_step p bs k i form w at
can_pass_line p bs k (Assert q) form w at = tt
can_pass_line p bs k (Assume q) form w at = tt
can_pass_line p bs k (Cut q) form w at = tt
can_pass_line p bs k (Post q) form w at = tt
