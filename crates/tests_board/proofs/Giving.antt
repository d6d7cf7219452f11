-- What the tests give may be given.
use Rattle.std.proofs.Common.{◌≡◌, refl, sym, ◌∙◌, ap, subst, ℕ, true, false, List, Option, Some, None}
use Rattle.std.specs.Option.{is_some}
use Rattle.tcl_lang.specs.Program.{VersionedProgram}
use Rattle.tcl_goals.specs.declared.lemma.Numbered.{Numbered}
use Rattle.tcl_goals.specs.declared.piece.Piece.{Piece}
use Rattle.tcl_goals.specs.declared.piece.Shown.{Shown}
use Rattle.tcl_goals.specs.declared.piece.Shown.TheVariants as shown
use Rattle.tcl_goals.specs.declared.cause.Cause.TheVariants as cause
use Rattle.tcl_board.specs.declared.evidence.Seen.TheVariants as seen
use Rattle.tcl_board.specs.Shows.{ShownHolds}
use Rattle.tcl_board.specs.State.{BoardState}
use Rattle.tcl_board.specs.Judging.{MayGive}
use Rattle.tests_board.specs.TestCauses.{test_causes, is_placed}

-- a worker that holds nothing
pub none_held : (o : Option ℕ) → is_some o ≡ false → o ≡ None
none_held None e = refl
none_held (Some n) e = absurd (cc)

-- what is shown of the board's program
pub may_show : (s : BoardState) (p : VersionedProgram) (o : Option Piece) (sh : Shown) (cited : List Numbered) → s.program ≡ p → ShownHolds p cited sh → is_placed p.lines sh ≡ true → MayGive test_causes s o (seen.Shown sh cited)
may_show s p o sh cited same holds placed =
    here o sh (subst (λ r. ShownHolds r cited sh) (sym same) holds) (ap (λ r. is_placed r.lines sh) same ∙ placed)
  where
    here : (o : Option Piece) (sh : Shown) → ShownHolds s.program cited sh → is_placed s.program.lines sh ≡ true → MayGive test_causes s o (seen.Shown sh cited)
    here None (shown.Fact fact) holds placed = tt
    here None (shown.Breaks g input) holds placed = tt
    here (Some q) (shown.Fact fact) holds placed = tt
    here (Some q) (shown.Breaks g input) holds placed = λ below. record { line = placed; fits = holds.fits }

-- a lemma
pub may_give_lemma : (s : BoardState) (o : Option Piece) (sh : Shown) (cited : List Numbered) → MayGive test_causes s o (seen.Lemma sh cited)
may_give_lemma s None sh cited = tt
may_give_lemma s (Some q) sh cited = tt

-- the spent budget
pub may_end : (s : BoardState) (n : ℕ) (o : Option Piece) → s.budget ≡ n → MayGive test_causes s o (seen.Ended (cause.Steps n))
may_end s n None same = tt
may_end s n (Some q) same = record { true_of = sym same; not_broken = refl }
