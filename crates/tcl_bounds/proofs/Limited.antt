-- To meet an interval within a type with what the hypotheses leave of the type is to narrow it by them.
use Rattle.std.proofs.Common.{◌≡◌, inl, inr, ℕ, zero, suc, ◌<◌, refl, sym, ◌∙◌, ap, subst, arith, ℤ, pos, ◌+ℤ◌, ◌-ℤ◌, int_lt, int_le, true, List, [], ◌∷◌, set, length, Option, Some, None}
use Rattle.std.specs.Int.{int_min, int_max}
use Rattle.std.specs.List.{slice_get, fold}
use Rattle.std.proofs.lemmas.Int.{ints, int_min_is, int_max_is}
use Rattle.std.proofs.lemmas.Bool.{and_parts, cases_eq}
use Rattle.std.proofs.lemmas.List.{get_or-set_same, get_or-set_other, length-set}
use Rattle.tcl_num.specs.Range.{least_value, values_end}
use Rattle.tcl_lang.specs.declared.ty.Ty.{Ty}
use Rattle.tcl_lang.specs.declared.instr.Atom.{Atom}
use Rattle.tcl_lang.specs.declared.instr.Atom.TheVariants.{Var, Lit}
use Rattle.tcl_lang.specs.declared.variable.Variable.{Variable}
use Rattle.tcl_lang.specs.declared.range.CmpOp.{CmpOp}
use Rattle.tcl_lang.specs.declared.range.CmpOp.TheVariants.{Eq, Ne, Lt, Le, Gt, Ge}
use Rattle.tcl_lang.specs.declared.range.RngPred.{RngPred, RngPred-F, roll-RngPred, map-RngPred, ind-RngPred}
use Rattle.tcl_lang.specs.declared.range.RngPred.TheOpen as pred_layer
use Rattle.tcl_lang.specs.declared.range.RngPred.TheFolds.{fold-roll-RngPred}
use Rattle.tcl_lang.specs.declared.pred.Pred.{Pred}
use Rattle.tcl_lang.specs.declared.pred.Pred.TheVariants.{Alg, Rng}
use Rattle.tcl_lang.specs.declared.pred.Line.{Line}
use Rattle.tcl_lang.specs.Line.{predicate_of}
use Rattle.tcl_lang.specs.Values.{types_of}
use Rattle.tcl_lang.specs.Program.{VersionedProgram}
use Rattle.tcl_goals.specs.declared.fact.Fact.{Fact}
use Rattle.tcl_goals.specs.declared.fact.Hyp.{Hyp}
use Rattle.tcl_goals.specs.declared.fact.Hyp.TheVariants as hyp
use Rattle.tcl_bounds.specs.declared.interval.Interval.{Interval}
use Rattle.tcl_bounds.specs.Intervals.{between, point, is_within, whole, meet}
use Rattle.tcl_bounds.specs.Narrowing.{interval_at, narrowed, mirrored, atom_of, narrow_at, narrow_atoms, narrow_step, narrow_range, narrow_predicate, narrow_line, narrow_hyp}
use Rattle.tcl_bounds.specs.Bounds.{wholes, narrowed_all, narrowed_from}
use Rattle.tcl_bounds.specs.Limits.{met_with}

two_ends : (m n k l : ℤ) → m ≡ k → n ≡ l → between m n ≡ between k l
two_ends m n k l p q = cc

most : (a b n : ℤ) → int_max (int_max a b) n ≡ int_max a (int_max b n)
most a b n = omega (arith, ints, int_max_is (int_max a b) n, int_max_is a b, int_max_is a (int_max b n), int_max_is b n)

least : (a b n : ℤ) → int_min (int_min a b) n ≡ int_min a (int_min b n)
least a b n = omega (arith, ints, int_min_is (int_min a b) n, int_min_is a b, int_min_is a (int_min b n), int_min_is b n)

-- narrowing an intersection
narrowed_meet : (op : CmpOp) (n : ℤ) (r b : Interval) → narrowed op n (meet r b) ≡ meet r (narrowed op n b)
narrowed_meet Eq n r b = two_ends _ _ _ _ (most r.least b.least n) (least r.greatest b.greatest n)
narrowed_meet Ne n r b = refl
narrowed_meet Lt n r b = two_ends _ _ _ _ refl (least r.greatest b.greatest (n -ℤ pos 1))
narrowed_meet Le n r b = two_ends _ _ _ _ refl (least r.greatest b.greatest n)
narrowed_meet Gt n r b = two_ends _ _ _ _ (most r.least b.least (n +ℤ pos 1)) refl
narrowed_meet Ge n r b = two_ends _ _ _ _ (most r.least b.least n) refl

-- at v the second list has what r and the first list have in common
pub record IsMet (v : ℕ) (r : Interval) (bs cs : List Interval) : Type 0 where
  pub first : v < length bs
  pub second : v < length cs
  pub met : interval_at cs v ≡ meet r (interval_at bs v)

at_met : (v : ℕ) (r : Interval) (u : ℕ) (op : CmpOp) (n : ℤ) (bs cs : List Interval) → IsMet v r bs cs → IsMet v r (narrow_at u op n bs) (narrow_at u op n cs)
at_met v r u op n bs cs m = record {
  first = omega (arith, m.first, length-set bs u (narrowed op n (interval_at bs u)));
  second = omega (arith, m.second, length-set cs u (narrowed op n (interval_at cs u)));
  met = elim (cases_eq v u) [
    | inl same ↦ subst (λ w. interval_at (narrow_at w op n cs) v ≡ meet r (interval_at (narrow_at w op n bs) v)) same
        (get_or-set_same cs v (narrowed op n (interval_at cs v)) (point (pos 0)) m.second
        ∙ ap (narrowed op n) m.met ∙ narrowed_meet op n r (interval_at bs v)
        ∙ ap (meet r) (sym (get_or-set_same bs v (narrowed op n (interval_at bs v)) (point (pos 0)) m.first)))
    | inr other ↦
        get_or-set_other cs u v (narrowed op n (interval_at cs u)) (point (pos 0)) other ∙ m.met
        ∙ ap (meet r) (sym (get_or-set_other bs u v (narrowed op n (interval_at bs u)) (point (pos 0)) other))
  ];
}

atoms_met : (v : ℕ) (r : Interval) (op : CmpOp) (a b : Option Atom) (bs cs : List Interval) → IsMet v r bs cs → IsMet v r (narrow_atoms op a b bs) (narrow_atoms op a b cs)
atoms_met v r op (Some (Var u)) (Some (Lit T n)) bs cs m = at_met v r u op n bs cs m
atoms_met v r op (Some (Lit T n)) (Some (Var u)) bs cs m = at_met v r u (mirrored op) n bs cs m
atoms_met v r op (Some (Var u)) (Some (Var w)) bs cs m = m
atoms_met v r op (Some (Lit T n)) (Some (Lit U k)) bs cs m = m
atoms_met v r op (Some (Var u)) None bs cs m = m
atoms_met v r op (Some (Lit T n)) None bs cs m = m
atoms_met v r op None (Some b) bs cs m = m
atoms_met v r op None None bs cs m = m

abbrev KeepsMet : ℕ → Interval → (List Interval → List Interval) → Type 0
KeepsMet v r f = (bs cs : List Interval) → IsMet v r bs cs → IsMet v r (f bs) (f cs)

abbrev MetPred : ℕ → Interval → Type 0
MetPred v r = (p : RngPred) × KeepsMet v r (narrow_range p)

met_at : (v : ℕ) (r : Interval) (y : RngPred-F RngPred) (after : List Interval → List Interval) → narrow_range (roll-RngPred y) ≡ after → KeepsMet v r after → KeepsMet v r (narrow_range (roll-RngPred y))
met_at v r y after is h = subst (KeepsMet v r) (sym is) h

stays : (v : ℕ) (r : Interval) → KeepsMet v r (λ bounds. bounds)
stays v r bs cs m = m

met_layer : (v : ℕ) (r : Interval) → (y : RngPred-F (MetPred v r)) → KeepsMet v r (narrow_range (roll-RngPred (map-RngPred (MetPred v r) RngPred (λ e. e.0) y)))
met_layer v r pred_layer.True = met_at v r pred_layer.True (λ bounds. bounds) (fold-roll-RngPred (List Interval → List Interval) narrow_step pred_layer.True) (stays v r)
met_layer v r pred_layer.False = met_at v r pred_layer.False (λ bounds. bounds) (fold-roll-RngPred (List Interval → List Interval) narrow_step pred_layer.False) (stays v r)
met_layer v r (pred_layer.Cmp op t u) =
    met_at v r (pred_layer.Cmp op t u) (narrow_atoms op (atom_of t) (atom_of u)) (fold-roll-RngPred (List Interval → List Interval) narrow_step (pred_layer.Cmp op t u))
    (λ bs cs m. atoms_met v r op (atom_of t) (atom_of u) bs cs m)
met_layer v r (pred_layer.Not p) = met_at v r (pred_layer.Not p.0) (λ bounds. bounds) (fold-roll-RngPred (List Interval → List Interval) narrow_step (pred_layer.Not p.0)) (stays v r)
met_layer v r (pred_layer.Both p q) =
    met_at v r (pred_layer.Both p.0 q.0) (λ bounds. narrow_range q.0 (narrow_range p.0 bounds)) (fold-roll-RngPred (List Interval → List Interval) narrow_step (pred_layer.Both p.0 q.0))
    (λ bs cs m. q.1 (narrow_range p.0 bs) (narrow_range p.0 cs) (p.1 bs cs m))
met_layer v r (pred_layer.Either p q) =
    met_at v r (pred_layer.Either p.0 q.0) (λ bounds. bounds) (fold-roll-RngPred (List Interval → List Interval) narrow_step (pred_layer.Either p.0 q.0)) (stays v r)

range_met : (v : ℕ) (r : Interval) (p : RngPred) → KeepsMet v r (narrow_range p)
range_met v r = ind-RngPred (λ p. KeepsMet v r (narrow_range p)) (λ x y is. subst (λ z. KeepsMet v r (narrow_range (roll-RngPred z))) is (met_layer v r y))

predicate_met : (v : ℕ) (r : Interval) (o : Option Pred) → KeepsMet v r (narrow_predicate o)
predicate_met v r None bs cs m = m
predicate_met v r (Some (Alg p)) bs cs m = m
predicate_met v r (Some (Rng p)) bs cs m = range_met v r p bs cs m

line_met : (v : ℕ) (r : Interval) (o : Option Line) → KeepsMet v r (narrow_line o)
line_met v r None bs cs m = m
line_met v r (Some l) bs cs m = predicate_met v r (predicate_of l) bs cs m

hyp_met : (v : ℕ) (r : Interval) (lines : List Line) (h : Hyp) (bs cs : List Interval) → IsMet v r bs cs → IsMet v r (narrow_hyp lines bs h) (narrow_hyp lines cs h)
hyp_met v r lines (hyp.Line k) bs cs m = line_met v r (slice_get lines k) bs cs m
hyp_met v r lines (hyp.Lemma n) bs cs m = m

hyps_met : (v : ℕ) (r : Interval) (lines : List Line) (hyps : List Hyp) (bs cs : List Interval) → IsMet v r bs cs → IsMet v r (fold (narrow_hyp lines) bs hyps) (fold (narrow_hyp lines) cs hyps)
hyps_met v r lines [] bs cs m = m
hyps_met v r lines (h ∷ hyps) bs cs m = hyps_met v r lines hyps (narrow_hyp lines bs h) (narrow_hyp lines cs h) (hyp_met v r lines h bs cs m)

-- the intervals of the types
same_type : (a b : Ty) → Some a ≡ Some b → a ≡ b
same_type a b e = cc

whole_at : (vs : List Variable) (v : ℕ) (T : Ty) → slice_get (types_of vs) v ≡ Some T → (v < length (wholes vs)) × (interval_at (wholes vs) v ≡ whole T)
whole_at [] v T e = absurd (cc)
whole_at (x ∷ vs) zero T e = (omega arith, ap whole (same_type x.ty T e))
whole_at (x ∷ vs) (suc v) T e = let others = whole_at vs v T e in (omega (arith, others.0), others.1)

-- an interval within a type is its part in common with the type
meet_whole : (T : Ty) (r : Interval) → is_within T r ≡ true → r ≡ meet r (whole T)
meet_whole T r e =
    let ends = and_parts (int_le (least_value T.signed T.width) r.least) (int_lt r.greatest (values_end T.signed T.width)) e in
    two_ends r.least r.greatest _ _
    (omega (arith, ints, ends.0, int_max_is r.least (least_value T.signed T.width)))
    (omega (arith, ints, ends.1, int_min_is r.greatest (values_end T.signed T.width -ℤ pos 1)))

pub limited : (p : VersionedProgram) (fact : Fact) (v : ℕ) (T : Ty) (r : Interval) → slice_get (types_of p.variables) v ≡ Some T → is_within T r ≡ true → met_with (narrowed_all p fact (wholes p.variables)) v r ≡ narrowed_from p fact v r
limited p fact v T r at e =
    let ws = wholes p.variables in
    let there = whole_at p.variables v T at in
    let start : IsMet v r ws (set ws v r) = record {
      first = there.0;
      second = omega (arith, there.0, length-set ws v r);
      met = get_or-set_same ws v r (point (pos 0)) there.0 ∙ meet_whole T r e ∙ ap (meet r) (sym there.1);
    } in
    sym (hyps_met v r p.lines fact.hyps ws (set ws v r) start).met
