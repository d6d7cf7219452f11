-- How the search goes on from product to product.
use Rattle.std.specs.Prelude.{◌≡◌, ℕ, suc, ◌+◌, ◌-◌, ◌*◌, ◌^◌, ◌<◌, ◌≤◌, ◌==◌, if◌then◌else◌, Bool, false, true, List, [], ◌∷◌, ◌++◌, map, ℤ, Option}
use Rattle.tcl_poly.specs.Monomial.{Monomial, IsMonomial}
use Rattle.tcl_poly.specs.Polynomial.{Polynomial, norm_of}
use Rattle.tcl_poly.specs.declared.factor.Unknown.{Unknown}
use Rattle.tcl_poly.specs.Unknown.{key_of}
use Rattle.tcl_port.specs.Polling.{counted}
use Rattle.tcl_reduce.specs.Row.{Pivot}
use Rattle.tcl_reduce.specs.Multiple.{Multiple}
use Rattle.tcl_reduce.specs.Membership as s
use Rattle.tcl_pivots.specs.Held.{rows_shown, AreHeld}
use Rattle.tcl_pivots.specs.TargetState.{target_shown}
use Rattle.std.specs.List.{AllByRecursion}
use Rattle.tcl_pivots.specs.RowState.{IsSound}
use Rattle.tcl_pivots.specs.Aim.{IsAimed}
use Rattle.tcl_member.specs.declared.search.Search.{Search}
use Rattle.tcl_member.specs.declared.search.Turn.{Turn}
use Rattle.tcl_member.specs.declared.search.Turn.TheVariants.{Going, Zero, Spent, Stopped}

-- rows and claim between two products; whether an earlier step was wide is in the notes
abbrev pub stage_shown : {R E : Type 0} → (E → ℤ) → Search R E → s.Stage
stage_shown value search = record { rows = rows_shown value search.rows; target = target_shown value false search.target }

-- the stage without the mark of a wide step, which the next reduction of the claim does not look at
abbrev pub unmarked : s.Stage → s.Stage
unmarked stage = record { rows = stage.rows; target = record { poly = stage.target.poly; cofactors = stage.target.cofactors; noted = false } }

-- what comes after a product
abbrev pub turn_of : Bool → ℕ → ℕ → Turn
turn_of nothing tried budget = if nothing then Zero else (if tried == budget then Spent else Going)

-- the search ends with the turn
abbrev pub is_end : Turn → Bool
is_end Going = false
is_end Zero = true
is_end Spent = true
is_end Stopped = true

-- the end of the search from before some products, where that from after them is given
abbrev pub IsTurn : ℕ → s.Found → s.Found → s.Target → Turn → Type 0
IsTurn budget before after f Going = before ≡ after
IsTurn budget before after f Zero = (f.poly ≡ []) × (before ≡ s.Cofactors f.cofactors)
IsTurn budget before after f Spent = before ≡ s.Spent budget
IsTurn budget before after f Stopped = Unit {0}

-- a cancellation came exactly where the search was stopped
abbrev pub IsStoppedAt : ℕ → ℕ → Turn → Type 0
IsStoppedAt cancels cancels' Going = cancels' ≡ cancels
IsStoppedAt cancels cancels' Zero = cancels' ≡ cancels
IsStoppedAt cancels cancels' Spent = cancels' ≡ cancels
IsStoppedAt cancels cancels' Stopped = cancels' ≡ counted cancels

-- each poll allowed at most 1,000 products, as long as the count of polls did not reach its end
abbrev pub IsPaced : ℕ → ℕ → ℕ → ℕ → ℕ → ℕ → Type 0
IsPaced tried left polls tried' left' polls' =
    polls' < 2 ^ 64 - 1 → (polls ≤ polls') × (tried' + left' ≤ tried + left + 1000 * (polls' - polls))

-- what is known of a search
pub record IsOn {R E : Type 0} (m : Option ℕ) (value : E → ℤ) (es : List Polynomial) (claim : Polynomial) (search : Search R E) : Type 0 where
  pub held : AreHeld m es value search.rows
  pub aimed : IsAimed m es claim (target_shown value false search.target)

-- the search went over these products, or to its end among them
pub record IsGone {R E : Type 0} (m : Option ℕ) (value : E → ℤ) (es : List Polynomial) (claim : Polynomial) (place budget : ℕ) (xs : List Multiple) (old new : Search R E) (polls polls' cancels cancels' : ℕ) (turn : Turn) : Type 0 where
  pub found : (further : List Multiple) → IsTurn budget (s.found_by m es (norm_of claim) place budget (xs ++ further) old.tried (stage_shown value old)) (s.found_by m es (norm_of claim) place budget further new.tried (stage_shown value new)) (target_shown value false new.target) turn
  pub on : IsOn m value es claim new
  pub below : turn ≡ Going → new.tried < budget
  pub spent : turn ≡ Spent → new.tried ≡ budget
  pub paced : IsPaced old.tried old.left polls new.tried new.left polls'
  pub stopped : IsStoppedAt cancels cancels' turn

-- the keys of unknowns
abbrev pub keys_in : List Unknown → List ℕ
keys_in us = map key_of us

-- the products of a row with the monomials that begin with these factors
abbrev pub products_by : Pivot → Monomial → List Monomial → List Multiple
products_by p front ms = map (λ m. (p, front ++ m)) ms

-- a power of the unknown of that key may follow these factors
abbrev pub IsLater : Monomial → ℕ → Type 0
IsLater front u = (e : ℕ) → 0 < e → IsMonomial (front ++ (u, e) ∷ [])

-- keys rise from the least one on
abbrev pub AreKeys : ℕ → List ℕ → Type 0
AreKeys least [] = Unit {0}
AreKeys least (u ∷ us) = (least ≤ u) × AreKeys (suc u) us

-- rows that are multiplied: sound, and none is zero
abbrev pub AreTried : Option ℕ → List Polynomial → List Pivot → Type 0
AreTried m es ps = AllByRecursion (λ p. IsSound m es p.row × (p.row.poly ≡ [] → ⊥)) ps

-- the search for a claim of which that is left before the rows reduce it, over these products
abbrev pub found_from : Option ℕ → List Polynomial → ℕ → ℕ → ℕ → List Multiple → s.Stage → s.Found
found_from m es norm place budget xs start =
    if s.is_nothing start.target.poly then s.Cofactors start.target.cofactors else s.found_by m es norm place budget xs 0 start

-- a whole search, from before the rows reduce the claim
pub record IsRun {R E : Type 0} (m : Option ℕ) (value : E → ℤ) (es : List Polynomial) (claim : Polynomial) (place budget : ℕ) (xs : List Multiple) (old new : Search R E) (polls polls' cancels cancels' : ℕ) (turn : Turn) : Type 0 where
  pub found : IsTurn budget (found_from m es (norm_of claim) place budget xs (s.stage_of m es (norm_of claim) place (rows_shown value old.rows) (target_shown value false old.target))) (s.Open (s.first_note (rows_shown value new.rows).notes)) (target_shown value false new.target) turn
  pub on : IsOn m value es claim new
  pub polled : polls' < 2 ^ 64 - 1 → new.tried ≤ 1000 * (polls' - polls)
  pub spent : turn ≡ Spent → new.tried ≡ budget
  pub stopped : IsStoppedAt cancels cancels' turn
