-- Lemmas that are all cited.
use Rattle.std.proofs.Common.{◌≡◌, sym, ◌∙◌, subst, inl, inr, nat_eq, true, List, [], ◌∷◌, Some}
use Rattle.std.specs.List.{list_all}
use Rattle.std.proofs.lemmas.Bool.{and_parts, cases_Bool, eqb-true}
use Rattle.tcl_list.proofs.Booleans.{if_no}
use Rattle.tcl_goals.specs.declared.lemma.Numbered.{Numbered}
use Rattle.tcl_goals.specs.declared.piece.Shown.{Shown}
use Rattle.tcl_goals.specs.LemmaList.{lemma_of}
use Rattle.tcl_lang.specs.Program.{VersionedProgram}
use Rattle.tcl_goals.specs.declared.piece.Shown.TheVariants as shown
use Rattle.tcl_kernel.specs.Shown as kernel
use Rattle.tcl_board.specs.Shows.{cites, AreCited, ShownHolds}

pub all_cited : (cited : List Numbered) (sh : Shown) → list_all (λ m. cites sh m.number) cited ≡ true → AreCited cited sh
unfolding lemma_of
all_cited [] sh all n m e = absurd (cc)
all_cited (a ∷ cited) sh all n m e =
    let parts = and_parts (cites sh a.number) (list_all (λ m. cites sh m.number) cited) all in
    elim (cases_Bool (nat_eq a.number n)) [
      | inl same ↦ subst (λ k. cites sh k ≡ true) (eqb-true a.number n same) parts.0
      | inr other ↦ all_cited cited sh parts.1 n m (sym (if_no (nat_eq a.number n) (Some a.lemma) (lemma_of cited n) other) ∙ e)
    ]

-- what the kernel says of a proof is what the board asks of evidence
pub shown_holds : (p : VersionedProgram) (cited : List Numbered) (sh : Shown) → kernel.ShownHolds p cited sh → ShownHolds p cited sh
unfolding kernel.ShownHolds
shown_holds p cited (shown.Fact fact) h = (h.order, h.holds)
shown_holds p cited (shown.Breaks g input) h = h
