-- Each interval stays within the type of its variable.
use Rattle.std.proofs.Common.{◌≡◌, ℕ, zero, suc, refl, sym, subst, arith, ℤ, pos, ◌+ℤ◌, ◌-ℤ◌, ◌≤ℤ◌, int_lt, int_le, Bool, true, false, cond, List, [], ◌∷◌, set, map, Option, Some, None}
use Rattle.std.specs.Option.{is_some}
use Rattle.std.specs.List.{slice_get, fold}
use Rattle.std.proofs.lemmas.Int.{ints}
use Rattle.std.proofs.lemmas.Bool.{and_parts}
use Rattle.tcl_num.specs.Range.{least_value, values_end}
use Rattle.tcl_lang.specs.declared.ty.Ty.{Ty}
use Rattle.tcl_lang.specs.declared.instr.Atom.{Atom}
use Rattle.tcl_lang.specs.declared.instr.Atom.TheVariants.{Var, Lit}
use Rattle.tcl_lang.specs.declared.variable.Variable.{Variable}
use Rattle.tcl_lang.specs.declared.range.CmpOp.{CmpOp}
use Rattle.tcl_lang.specs.declared.range.CmpOp.TheVariants.{Eq, Ne, Lt, Le, Gt, Ge}
use Rattle.tcl_lang.specs.declared.range.RngPred.{RngPred, RngPred-F, roll-RngPred, map-RngPred, ind-RngPred}
use Rattle.tcl_lang.specs.declared.range.RngPred.TheOpen as pred_layer
use Rattle.tcl_lang.specs.declared.range.RngPred.TheFolds.{fold-roll-RngPred}
use Rattle.tcl_lang.specs.declared.pred.Pred.{Pred}
use Rattle.tcl_lang.specs.declared.pred.Pred.TheVariants.{Alg, Rng}
use Rattle.tcl_lang.specs.declared.pred.Line.{Line}
use Rattle.tcl_lang.specs.declared.pred.Line.TheVariants.{Input, Pre, Step, Assert, Assume, Cut, Post}
use Rattle.tcl_lang.specs.Line.{predicate_of}
use Rattle.tcl_goals.specs.declared.fact.Hyp.{Hyp}
use Rattle.tcl_goals.specs.declared.fact.Hyp.TheVariants as hyp
use Rattle.tcl_bounds.specs.declared.interval.Interval.{Interval}
use Rattle.tcl_bounds.specs.Intervals.{is_within, whole, meet}
use Rattle.tcl_bounds.specs.Narrowing.{interval_at, narrowed, mirrored, atom_of, narrow_atoms, narrow_step, narrow_range, narrow_predicate, narrow_line, narrow_hyp}
use Rattle.tcl_bounds.specs.Bounds.{set_row, set_rows, bounds_past, pass_line, wholes}
use Rattle.tcl_bounds.specs.Limits.{met_with}
use Rattle.tcl_bounds.specs.Rows.{if_within}
use Rattle.tcl_bounds.specs.Conditions.{AreWithin}
use Rattle.tcl_bounds.proofs.Ranges.{max_left, max_right, min_left, min_right, le_yes, lt_yes, both_yes}

-- one interval is part of another
pub record IsPart (j i : Interval) : Type 0 where
  pub least : i.least ≤ℤ j.least
  pub greatest : j.greatest ≤ℤ i.greatest

pub within_part : (T : Ty) (i j : Interval) → IsPart j i → is_within T i ≡ true → is_within T j ≡ true
within_part T i j p e =
    let ends = and_parts (int_le (least_value T.signed T.width) i.least) (int_lt i.greatest (values_end T.signed T.width)) e in
    both_yes (int_le (least_value T.signed T.width) j.least) (int_lt j.greatest (values_end T.signed T.width))
    (le_yes (least_value T.signed T.width) j.least (omega (arith, ints, ends.0, p.least)))
    (lt_yes j.greatest (values_end T.signed T.width) (omega (arith, ints, ends.1, p.greatest)))

whole_within : (T : Ty) → is_within T (whole T) ≡ true
whole_within T =
    both_yes (int_le (least_value T.signed T.width) (least_value T.signed T.width)) (int_lt (values_end T.signed T.width -ℤ pos 1) (values_end T.signed T.width))
    (le_yes (least_value T.signed T.width) (least_value T.signed T.width) (omega (arith, ints))) (lt_yes (values_end T.signed T.width -ℤ pos 1) (values_end T.signed T.width) (omega (arith, ints)))

pub types_within : (vs : List Variable) → AreWithin vs (map (λ (v : Variable). whole v.ty) vs)
types_within [] = tt
types_within (v ∷ vs) = (whole_within v.ty, types_within vs)

pub set_within : (vs : List Variable) (bs : List Interval) (v : ℕ) (j : Interval) → IsPart j (interval_at bs v) → AreWithin vs bs → AreWithin vs (set bs v j)
set_within [] [] v j p w = w
set_within [] (i ∷ bs) v j p w = absurd w
set_within (x ∷ vs) [] v j p w = absurd w
set_within (x ∷ vs) (i ∷ bs) zero j p w = (within_part x.ty i j p w.0, w.1)
set_within (x ∷ vs) (i ∷ bs) (suc v) j p w = (w.0, set_within vs bs v j p w.1)

narrowed_part : (op : CmpOp) (n : ℤ) (i : Interval) → IsPart (narrowed op n i) i
narrowed_part Eq n i = record { least = max_left i.least n; greatest = min_left i.greatest n }
narrowed_part Ne n i = record { least = omega (arith, ints); greatest = omega (arith, ints) }
narrowed_part Lt n i = record { least = omega (arith, ints); greatest = min_left i.greatest (n -ℤ pos 1) }
narrowed_part Le n i = record { least = omega (arith, ints); greatest = min_left i.greatest n }
narrowed_part Gt n i = record { least = max_left i.least (n +ℤ pos 1); greatest = omega (arith, ints) }
narrowed_part Ge n i = record { least = max_left i.least n; greatest = omega (arith, ints) }

atoms_within : (vs : List Variable) (bs : List Interval) (op : CmpOp) (a b : Option Atom) → AreWithin vs bs → AreWithin vs (narrow_atoms op a b bs)
atoms_within vs bs op (Some (Var v)) (Some (Lit T n)) w = set_within vs bs v (narrowed op n (interval_at bs v)) (narrowed_part op n (interval_at bs v)) w
atoms_within vs bs op (Some (Lit T n)) (Some (Var v)) w = set_within vs bs v (narrowed (mirrored op) n (interval_at bs v)) (narrowed_part (mirrored op) n (interval_at bs v)) w
atoms_within vs bs op (Some (Var v)) (Some (Var u)) w = w
atoms_within vs bs op (Some (Lit T n)) (Some (Lit U m)) w = w
atoms_within vs bs op (Some (Var v)) None w = w
atoms_within vs bs op (Some (Lit T n)) None w = w
atoms_within vs bs op None (Some b) w = w
atoms_within vs bs op None None w = w

abbrev Stays : List Variable → RngPred → Type 0
Stays vs p = (bs : List Interval) → AreWithin vs bs → AreWithin vs (narrow_range p bs)

abbrev StayPred : List Variable → Type 0
StayPred vs = (p : RngPred) × Stays vs p

stays_at : (vs : List Variable) (y : RngPred-F RngPred) (after : List Interval → List Interval) → narrow_range (roll-RngPred y) ≡ after → ((bs : List Interval) → AreWithin vs bs → AreWithin vs (after bs)) → Stays vs (roll-RngPred y)
stays_at vs y after is h bs w = subst (λ (f : List Interval → List Interval). AreWithin vs (f bs)) (sym is) (h bs w)

stays_layer : (vs : List Variable) → (y : RngPred-F (StayPred vs)) → Stays vs (roll-RngPred (map-RngPred (StayPred vs) RngPred (λ e. e.0) y))
stays_layer vs pred_layer.True = stays_at vs pred_layer.True (λ bs. bs) (fold-roll-RngPred (List Interval → List Interval) narrow_step pred_layer.True) (λ bs w. w)
stays_layer vs pred_layer.False = stays_at vs pred_layer.False (λ bs. bs) (fold-roll-RngPred (List Interval → List Interval) narrow_step pred_layer.False) (λ bs w. w)
stays_layer vs (pred_layer.Cmp op t u) =
    stays_at vs (pred_layer.Cmp op t u) (narrow_atoms op (atom_of t) (atom_of u)) (fold-roll-RngPred (List Interval → List Interval) narrow_step (pred_layer.Cmp op t u))
    (λ bs w. atoms_within vs bs op (atom_of t) (atom_of u) w)
stays_layer vs (pred_layer.Not p) = stays_at vs (pred_layer.Not p.0) (λ bs. bs) (fold-roll-RngPred (List Interval → List Interval) narrow_step (pred_layer.Not p.0)) (λ bs w. w)
stays_layer vs (pred_layer.Both p q) =
    stays_at vs (pred_layer.Both p.0 q.0) (λ bs. narrow_range q.0 (narrow_range p.0 bs)) (fold-roll-RngPred (List Interval → List Interval) narrow_step (pred_layer.Both p.0 q.0))
    (λ bs w. q.1 (narrow_range p.0 bs) (p.1 bs w))
stays_layer vs (pred_layer.Either p q) = stays_at vs (pred_layer.Either p.0 q.0) (λ bs. bs) (fold-roll-RngPred (List Interval → List Interval) narrow_step (pred_layer.Either p.0 q.0)) (λ bs w. w)

range_within : (vs : List Variable) (p : RngPred) → Stays vs p
range_within vs = ind-RngPred (Stays vs) (λ x y is. subst (λ z. Stays vs (roll-RngPred z)) is (stays_layer vs y))

predicate_within : (vs : List Variable) (bs : List Interval) (o : Option Pred) → AreWithin vs bs → AreWithin vs (narrow_predicate o bs)
predicate_within vs bs None w = w
predicate_within vs bs (Some (Alg p)) w = w
predicate_within vs bs (Some (Rng p)) w = range_within vs p bs w

line_within : (vs : List Variable) (bs : List Interval) (o : Option Line) → AreWithin vs bs → AreWithin vs (narrow_line o bs)
line_within vs bs None w = w
line_within vs bs (Some l) w = predicate_within vs bs (predicate_of l) w

pub hyp_within : (lines : List Line) (vs : List Variable) (bs : List Interval) (h : Hyp) → AreWithin vs bs → AreWithin vs (narrow_hyp lines bs h)
hyp_within lines vs bs (hyp.Line k) w = line_within vs bs (slice_get lines k) w
hyp_within lines vs bs (hyp.Lemma n) w = w

meet_part : (i j : Interval) → IsPart (meet j i) i
meet_part i j = record { least = max_right j.least i.least; greatest = min_right j.greatest i.greatest }

-- the interval of each variable has a part within the type of the variable
pub set_limited : (vs : List Variable) (bs limits : List Interval) (v : ℕ) (i : Interval) → AreWithin vs bs → AreWithin vs limits → AreWithin vs (set bs v (meet i (interval_at limits v)))
set_limited [] [] limits v i w l = w
set_limited [] (b ∷ bs) limits v i w l = absurd w
set_limited (x ∷ vs) [] limits v i w l = absurd w
set_limited (x ∷ vs) (b ∷ bs) [] v i w l = absurd l
set_limited (x ∷ vs) (b ∷ bs) (c ∷ limits) zero i w l = (within_part x.ty c (meet i c) (meet_part c i) l.0, w.1)
set_limited (x ∷ vs) (b ∷ bs) (c ∷ limits) (suc v) i w l = (w.0, set_limited vs bs limits v i w.1 l.1)

row_within : (vs : List Variable) (limits bs : List Interval) (v : ℕ) (r : Option Interval) → AreWithin vs limits → AreWithin vs bs → AreWithin vs (set_row (met_with limits) bs v r)
row_within vs limits bs v None l w = w
row_within vs limits bs v (Some i) l w = set_limited vs bs limits v i w l

rows_within : (vs : List Variable) (limits : List Interval) (outs : List ℕ) (rows : List (Option Interval)) (bs : List Interval) → AreWithin vs limits → AreWithin vs bs → AreWithin vs (set_rows (met_with limits) bs outs rows)
rows_within vs limits [] rows bs l w = w
rows_within vs limits (v ∷ outs) [] bs l w = w
rows_within vs limits (v ∷ outs) (r ∷ rows) bs l w = rows_within vs limits outs rows (set_row (met_with limits) bs v r) l (row_within vs limits bs v r l w)

pub past_within : (vs : List Variable) (limits bs : List Interval) (o : Option Line) → AreWithin vs limits → AreWithin vs bs → AreWithin vs (bounds_past (met_with limits) o bs)
past_within vs limits bs None l w = w
past_within vs limits bs (Some (Input T x)) l w = w
past_within vs limits bs (Some (Pre p)) l w = w
past_within vs limits bs (Some (Step i)) l w = rows_within vs limits i.outs _ bs l w
past_within vs limits bs (Some (Assert p)) l w = w
past_within vs limits bs (Some (Assume p)) l w = w
past_within vs limits bs (Some (Cut p)) l w = w
past_within vs limits bs (Some (Post p)) l w = w

pub hyps_within : (lines : List Line) (vs : List Variable) (hyps : List Hyp) (bs : List Interval) → AreWithin vs bs → AreWithin vs (fold (narrow_hyp lines) bs hyps)
hyps_within lines vs [] bs w = w
hyps_within lines vs (h ∷ hyps) bs w = hyps_within lines vs hyps (narrow_hyp lines bs h) (hyp_within lines vs bs h w)

pub narrowed_within : (lines : List Line) (vs : List Variable) (hyps : List Hyp) → AreWithin vs (fold (narrow_hyp lines) (wholes vs) hyps)
narrowed_within lines vs hyps = hyps_within lines vs hyps (wholes vs) (types_within vs)

-- an interval that is there is within the type
pub if_within_is : (T : Ty) (i : Interval) → is_some (if_within T i) ≡ is_within T i
if_within_is T i = at (is_within T i)
  where
    at : (b : Bool) → is_some (cond b (Some i) None) ≡ b
    at true = refl
    at false = refl

pub uses_within : (lines : List Line) (vs : List Variable) (limits : List Interval) (uses : List ℕ) (bs : List Interval) → AreWithin vs limits → AreWithin vs bs → AreWithin vs (fold (pass_line (met_with limits) lines) bs uses)
uses_within lines vs limits [] bs l w = w
uses_within lines vs limits (k ∷ uses) bs l w = uses_within lines vs limits uses (pass_line (met_with limits) lines bs k) l (past_within vs limits bs (slice_get lines k) l w)
