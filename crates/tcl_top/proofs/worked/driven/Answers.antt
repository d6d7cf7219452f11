-- At first no piece is held.
use Rattle.std.proofs.Common.{◌≡◌, ℕ, zero, suc, replicate, sym, ◌∙◌, ap, subst, Some}
use Rattle.std.specs.List.{slice_get}
use Rattle.tcl_board.specs.declared.event.Status.TheVariants as status
use Rattle.tcl_board.specs.State.{BoardState}
use Rattle.tcl_gate.specs.Alone.{NoneHeld}
use Rattle.tcl_top.proofs.worked.driven.Goals as goal

none_held : (n k w : ℕ) → slice_get (replicate n status.Unclaimed) k ≡ Some (status.Held w) → ⊥
none_held zero k w e = absurd (cc)
none_held (suc n) zero w e = absurd (cc)
none_held (suc n) (suc k) w e = none_held n k w e

pub drive_alone-requires-clause-program : goal.drive_alone-requires-clause-program
drive_alone-requires-clause-program c =
    ap (λ (s : BoardState). s.program) c.in_ok-board.ensures ∙ c.in_ok-own.ensures.form ∙ sym c.in_ok-form.ensures.form ∙ sym c.new.ensures

pub drive_alone-requires-clause-free : goal.drive_alone-requires-clause-free
drive_alone-requires-clause-free c =
    subst (λ (s : BoardState). NoneHeld s.position) (sym c.in_ok-board.ensures) (λ k w e. none_held _ k w e)
