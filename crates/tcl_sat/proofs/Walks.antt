-- The walk down the trail with a count of the literals that are not false below the floor.
use Rattle.std.proofs.Common.{◌≡◌, ℕ, ◌+◌, ◌<◌, ◌≤◌, true, false, List, [], ◌∷◌, ◌++◌, length, take, Option, Some, slice_get, sym, ap, ◌∙◌, arith}
use Rattle.tcl_cnf.specs.Literal.{neg}
use Rattle.tcl_cnf.specs.Clause.{has, union, without, AreClauses}
use Rattle.tcl_cnf.specs.Propagation.{is_false}
use Rattle.tcl_cnf.proofs.Members.{neg-neg}
use Rattle.tcl_trail.specs.declared.entry.Entry.{Entry}
use Rattle.tcl_trail.specs.Assignment.{lits_of, level_of, reason_of}
use Rattle.tcl_trail.specs.Trail.{IsTrail}
use Rattle.tcl_sat.specs.Analysis.{TellsFront, DerivationState, IsPresent, IsPoint, open_count}
use Rattle.tcl_sat.proofs.OpenLiterals.{one_open, more_open}
use Rattle.tcl_sat.proofs.Explains.{pointed, next_at, dropped, apart_point}
use Rattle.tcl_sat.proofs.Floors.{not_in_front, place_below, lt_true}

-- the negation of a literal at the floor or above is not false below it
pub open_here : (clauses : List (List ℕ)) (es : List Entry) (floor place l : ℕ) → IsTrail clauses es → slice_get (lits_of es) place ≡ Some l → floor ≤ place → has (neg (neg l)) (take floor (lits_of es)) ≡ false
open_here clauses es floor place l trail h le = ap (λ t. has t (take floor (lits_of es))) (neg-neg l) ∙ not_in_front clauses es floor place l trail h le

-- where one literal is counted, it is the point
pub point_told : (clauses : List (List ℕ)) (es : List Entry) (d : DerivationState) (floor place l n : ℕ) → IsTrail clauses es → slice_get (lits_of es) place ≡ Some l → floor ≤ place
    → IsPresent clauses es d floor (place + 1) → has (neg l) d.clause ≡ true → n ≡ open_count (take floor (lits_of es)) d.clause → n ≡ 1 → IsPoint clauses es d floor (neg l)
point_told clauses es d floor place l n trail h le present in_c count one =
    pointed clauses es d floor place l present in_c
    (one_open (take floor (lits_of es)) (neg l) n d.clause present.derived.is.increasing in_c (open_here clauses es floor place l trail h le) count one)

-- where more are counted, another one is not false below the floor
pub above_told : (clauses : List (List ℕ)) (es : List Entry) (d : DerivationState) (floor place l n : ℕ) → IsTrail clauses es → slice_get (lits_of es) place ≡ Some l → floor ≤ place
    → IsPresent clauses es d floor (place + 1) → has (neg l) d.clause ≡ true → n ≡ open_count (take floor (lits_of es)) d.clause → (n ≡ 1 → ⊥)
    → is_false (take floor (lits_of es)) (without (neg l) d.clause) ≡ false
above_told clauses es d floor place l n trail h le present in_c count more =
    more_open (take floor (lits_of es)) (neg l) n d.clause present.derived.is.increasing in_c (open_here clauses es floor place l trail h le) count more

-- a literal of a level below the floor's, with its place
pub record IsBelow (es : List Entry) (floor l : ℕ) : Type 0 where
  pub place : ℕ
  pub below : place < floor
  pub there : slice_get (lits_of es) place ≡ Some l

pub below_told : (es : List Entry) (floor level l n : ℕ) → TellsFront es floor level → n ≡ level_of l es → n < level → IsBelow es floor l
below_told es floor level l n tells e h = let r = place_below (lits_of es) floor l (tells.each l ∙ sym (lt_true (level_of l es) level (omega (arith, e, h)))) in record { place = r.0; below = r.1; there = r.2 }

-- a literal below the floor is resolved away
pub dropped_below : (clauses logged : List (List ℕ)) (es : List Entry) (old new : DerivationState) (d : List ℕ) (floor l u r : ℕ) (reason : Option ℕ) → IsTrail clauses es → AreClauses clauses
    → IsPoint clauses es old floor u → IsBelow es floor l → has (neg l) old.clause ≡ true → reason ≡ reason_of l es → reason ≡ Some r → logged ≡ clauses → slice_get logged r ≡ Some d
    → new ≡ record { chain = old.chain ++ r ∷ []; clause = union (without (neg l) old.clause) (without l d) } → IsPoint clauses es new floor u
dropped_below clauses logged es old new d floor l u r reason trail all point below in_c e s agree there made =
    dropped clauses es old new floor below.place l u (omega (arith, below.below)) (apart_point es floor below.place l u below.there below.below point.clear) point
    (next_at clauses logged es old new d (length es) below.place l r reason trail all point.derived below.there in_c e s agree there made)
