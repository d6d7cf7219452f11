-- A worker holds one piece at most.
use Rattle.std.proofs.Common.{◌≡◌, sym, ◌∙◌, subst, ◌⊎◌, inl, inr, ℕ, zero, suc, ◌<◌, List, [], ◌∷◌, Some}
use Rattle.std.specs.List.{slice_get, slice_set}
use Rattle.std.proofs.lemmas.Bool.{cases_eq}
use Rattle.tcl_board.specs.declared.event.Status.{Status}
use Rattle.tcl_board.specs.declared.event.Status.TheVariants as status
use Rattle.tcl_board.specs.Kept.{AreHolders}
use Rattle.tcl_board.proofs.OwnLemmas.{some_is, get_set_other}

at_end : {X : Type 0} (xs : List X) (i : ℕ) (y x : X) → slice_get (slice_set xs i y) i ≡ Some x → y ≡ x
at_end [] i y x e = absurd (cc)
at_end (a ∷ xs) zero y x e = some_is y x e
at_end (a ∷ xs) (suc i) y x e = at_end xs i y x e

get_set : {X : Type 0} (xs : List X) (i k : ℕ) (y x : X) → slice_get (slice_set xs i y) k ≡ Some x → ((i ≡ k) × (y ≡ x)) ⊎ ((i ≡ k → ⊥) × (slice_get xs k ≡ Some x))
get_set xs i k y x e = elim (cases_eq i k) [
  | inl same ↦ inl (same, at_end xs i y x (subst (λ j. slice_get (slice_set xs i y) j ≡ Some x) (sym same) e))
  | inr other ↦ inr (other, sym (get_set_other xs i k y other) ∙ e)
]

-- the new status of a piece is not held, or held by a worker that holds nothing
pub record MayHold (statuses : List Status) (w : ℕ) : Type 0 where
  pub worker : w < 64
  pub free : (k : ℕ) → slice_get statuses k ≡ Some (status.Held w) → ⊥

pub holders_set : (statuses : List Status) (q : ℕ) (y : Status) → ((w : ℕ) → y ≡ status.Held w → MayHold statuses w) → AreHolders statuses → AreHolders (slice_set statuses q y)
holders_set statuses q y new h =
    record {
      workers = λ k w e. elim (get_set statuses q k y (status.Held w) e) [
        | inl here ↦ (new w here.1).worker
        | inr old ↦ h.workers k w old.1
      ];
      one = λ j k w e f. elim (get_set statuses q j y (status.Held w) e) [
        | inl here ↦ elim (get_set statuses q k y (status.Held w) f) [
          | inl there ↦ sym here.0 ∙ there.0
          | inr old ↦ absurd ((new w here.1).free k old.1)
        ]
        | inr old ↦ elim (get_set statuses q k y (status.Held w) f) [
          | inl there ↦ absurd ((new w there.1).free j old.1)
          | inr other ↦ h.one j k w old.1 other.1
        ]
      ];
    }
