-- The parts of a program in their order: the precondition stands before the goals.
use Rattle.std.proofs.Common.{◌≡◌, ◌<◌, ◌≤◌, ◌⊎◌, inl, inr, ℕ, zero, suc, true, List, [], ◌∷◌, map, refl, subst, arith, nat_le, Option, Some, None}
use Rattle.std.specs.List.{slice_get}
use Rattle.std.proofs.lemmas.Bool.{and_parts}
use Rattle.tcl_lang.specs.declared.pred.Line.{Line}
use Rattle.tcl_lang.specs.declared.pred.Line.TheVariants.{Input, Pre, Step, Assert, Assume, Cut, Post}
use Rattle.tcl_lang.specs.Line.{is_goal, is_precondition}
use Rattle.tcl_lang.specs.Shape.{stage_of, in_stages}
use Rattle.tcl_lang.specs.Goal.{passes, is_goal_at, is_precondition_at}
use Rattle.tcl_lang.proofs.Correctness.{goal_line}

below_stage : (s t : ℕ) → nat_le s t ≡ true → s ≤ t
below_stage s t e = grind (arith)

-- no line stands in an earlier part than the one that the list begins with
from_stage : (s : ℕ) (lines : List Line) (j : ℕ) (m : Line) → in_stages s (map stage_of lines) ≡ true → slice_get lines j ≡ Some m → s ≤ stage_of m
from_stage s [] j m ordered at = absurd (cc)
from_stage s (l ∷ lines) zero m ordered at =
    let same : l ≡ m = cc in
    subst (λ x. s ≤ stage_of x) same (below_stage s (stage_of l) (and_parts (nat_le s (stage_of l)) (in_stages (stage_of l) (map stage_of lines)) ordered).0)
from_stage s (l ∷ lines) (suc j) m ordered at =
    let first = below_stage s (stage_of l) (and_parts (nat_le s (stage_of l)) (in_stages (stage_of l) (map stage_of lines)) ordered).0 in
    let later = from_stage (stage_of l) lines j m (and_parts (nat_le s (stage_of l)) (in_stages (stage_of l) (map stage_of lines)) ordered).1 at in
    omega arith

-- a later line stands in the same part or a later one
pub stage_order : (s : ℕ) (lines : List Line) (k j : ℕ) (l m : Line) → in_stages s (map stage_of lines) ≡ true → slice_get lines k ≡ Some l → slice_get lines j ≡ Some m → k ≤ j → stage_of l ≤ stage_of m
stage_order s [] k j l m ordered at_k at_j h = absurd (cc)
stage_order s (x ∷ lines) zero zero l m ordered at_k at_j h =
    let same : l ≡ m = cc in subst (λ y. stage_of l ≤ stage_of y) same (omega arith)
stage_order s (x ∷ lines) zero (suc j) l m ordered at_k at_j h =
    let same : x ≡ l = cc in
    subst (λ y. stage_of y ≤ stage_of m) same (from_stage (stage_of x) lines j m (and_parts (nat_le s (stage_of x)) (in_stages (stage_of x) (map stage_of lines)) ordered).1 at_j)
stage_order s (x ∷ lines) (suc k) zero l m ordered at_k at_j h = absurd (omega arith)
stage_order s (x ∷ lines) (suc k) (suc j) l m ordered at_k at_j h =
    stage_order (stage_of x) lines k j l m (and_parts (nat_le s (stage_of x)) (in_stages (stage_of x) (map stage_of lines)) ordered).1 at_k at_j (omega arith)

pub goal_stage : (l : Line) → is_goal l ≡ true → 2 ≤ stage_of l
goal_stage (Input T name) g = absurd (cc)
goal_stage (Pre p) g = absurd (cc)
goal_stage (Step i) g = omega arith
goal_stage (Assert p) g = omega arith
goal_stage (Assume p) g = absurd (cc)
goal_stage (Cut p) g = omega arith
goal_stage (Post p) g = omega arith

pub precondition_stage : (l : Line) → is_precondition l ≡ true → stage_of l ≡ 1
precondition_stage (Input T name) g = absurd (cc)
precondition_stage (Pre p) g = refl
precondition_stage (Step i) g = absurd (cc)
precondition_stage (Assert p) g = absurd (cc)
precondition_stage (Assume p) g = absurd (cc)
precondition_stage (Cut p) g = absurd (cc)
precondition_stage (Post p) g = absurd (cc)

precondition_line : (o : Option Line) → passes is_precondition o ≡ true → (l : Line) × (o ≡ Some l) × (is_precondition l ≡ true)
precondition_line None p = absurd (cc)
precondition_line (Some l) p = (l, refl, p)

-- the precondition stands before the goals
pub precondition_earlier : (lines : List Line) (j k : ℕ) → in_stages 0 (map stage_of lines) ≡ true → is_precondition_at lines j ≡ true → is_goal_at lines k ≡ true → j < k
precondition_earlier lines j k ordered pre goal =
    let p = precondition_line (slice_get lines j) pre in
    let g = goal_line lines k goal in
    elim (order j k) [
      | inl less ↦ less
      | inr h ↦ absurd (
          let s = stage_order 0 lines k j g.0 p.0 ordered g.1 p.1 h in
          omega (arith, s, goal_stage g.0 g.2, precondition_stage p.0 p.2))
    ]
  where
    order : (j k : ℕ) → (j < k) ⊎ (k ≤ j)
    order j k = grind arith
