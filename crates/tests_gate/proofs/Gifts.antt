-- What is given for a piece fits it.
use Rattle.std.proofs.Common.{◌≡◌, ℕ, Bool, true, false, ◌||◌, List, [], ◌∷◌, refl, sym, ◌∙◌, ap, subst, nat_eq, eq-eqb, eqb-true, Option, Some, None}
use Rattle.std.specs.Option.{is_some}
use Rattle.std.proofs.lemmas.Bool.{and_from, and_parts}
use Rattle.tcl_lang.specs.Program.{VersionedProgram}
use Rattle.tcl_lang.specs.declared.pred.Line.{Line}
use Rattle.tcl_goals.specs.declared.fact.Fact.{Fact}
use Rattle.tcl_goals.specs.declared.fact.Hyp.{Hyp}
use Rattle.tcl_goals.specs.declared.fact.Hyp.TheVariants as hyp
use Rattle.tcl_goals.specs.declared.lemma.Lemma.{Lemma}
use Rattle.tcl_goals.specs.declared.lemma.Numbered.{Numbered}
use Rattle.tcl_goals.specs.declared.piece.Piece.{Piece}
use Rattle.tcl_goals.specs.LemmaList.{LemmaList, lemma_of}
use Rattle.tcl_goals.specs.Order.{InOrder, has_hyp, has_hyps}
use Rattle.tcl_board.specs.declared.evidence.Outcome.TheVariants as outcome
use Rattle.tcl_board.specs.Shows.{ShownHolds}
use Rattle.tcl_board.specs.Own.{same_bits}
use Rattle.tcl_board.specs.Judging.{proves_piece, is_goal_claim}
use Rattle.tcl_board.proofs.OwnLemmas.{bits_tell}
use Rattle.tcl_gate.specs.Fits.{CitesGiven}
use Rattle.tcl_kernel.specs.Cited.{cites, cited_lemmas, proof_of}
use Rattle.tcl_kernel.specs.Shown.{ProofContent}
use Rattle.tcl_kernel.proofs.CitedLists.{cited_among}
use Rattle.tests_gate.specs.Gifts.{IsGift, IsFactOf}

-- a lemma that hypotheses in order cite is there
found_here : (lines : List Line) (lemmas : List Numbered) (h : Hyp) (hyps : List Hyp) (n : ℕ) → has_hyps lines lemmas (h ∷ hyps) ≡ true → cites (h ∷ hyps) n ≡ true → (has_hyps lines lemmas hyps ≡ true → cites hyps n ≡ true → is_some (lemma_of lemmas n) ≡ true) → is_some (lemma_of lemmas n) ≡ true
found_here lines lemmas (hyp.Line k) hyps n has one later = later (and_parts (has_hyp lines lemmas (hyp.Line k)) (has_hyps lines lemmas hyps) has).1 one
found_here lines lemmas (hyp.Lemma m) hyps n has one later = at (nat_eq m n) refl one
  where
    at : (b : Bool) → nat_eq m n ≡ b → (b || cites hyps n) ≡ true → is_some (lemma_of lemmas n) ≡ true
    at true q e = ap (λ k. is_some (lemma_of lemmas k)) (sym (eqb-true m n q)) ∙ (and_parts (has_hyp lines lemmas (hyp.Lemma m)) (has_hyps lines lemmas hyps) has).0
    at false q e = later (and_parts (has_hyp lines lemmas (hyp.Lemma m)) (has_hyps lines lemmas hyps) has).1 e

found : (lines : List Line) (lemmas : List Numbered) (hyps : List Hyp) (n : ℕ) → has_hyps lines lemmas hyps ≡ true → cites hyps n ≡ true → is_some (lemma_of lemmas n) ≡ true
found lines lemmas [] n has one = absurd (cc)
found lines lemmas (h ∷ hyps) n has one = found_here lines lemmas h hyps n has one (found lines lemmas hyps n)

there : (o : Option Lemma) → is_some o ≡ true → (m : Lemma) × (o ≡ Some m)
there None e = absurd (cc)
there (Some m) e = (m, refl)

-- a proof cites none but the lemmas under which it was made
cites_given : (p : VersionedProgram) (lemmas : List Numbered) (fact : Fact) → InOrder p (cited_lemmas fact.hyps lemmas) fact → CitesGiven lemmas (cited_lemmas fact.hyps lemmas) fact
cites_given p lemmas fact order n one =
    let cited = cited_lemmas fact.hyps lemmas in
    let m = there (lemma_of cited n) (found p.lines cited fact.hyps n order.hyps one) in
    record { lemma = m.0; in_given = cited_among fact.hyps lemmas n m.0 m.1; in_cited = m.1 }

proves_it : (q : Piece) (fact : Fact) → IsFactOf q fact → proves_piece q fact ≡ true
proves_it q fact of =
    and_from (is_goal_claim fact.claim q.goal) (same_bits fact.cube q.cube)
    (ap (λ c. is_goal_claim c q.goal) of.claim ∙ eq-eqb q.goal q.goal refl)
    (sym (bits_tell true fact.cube q.cube (λ t. of.cube, λ e. refl)))

-- the kernel's proof of a fact of the piece
pub proof_fits : (p : VersionedProgram) (q : Piece) (lemmas : LemmaList) (fact : Fact) (w : ProofContent) → IsFactOf q fact → w ≡ proof_of p lemmas.items fact true → ShownHolds w.program w.cited w.shown → IsGift p q lemmas (outcome.Shown w)
proof_fits p q lemmas fact w of is holds =
    subst (λ (x : ProofContent). IsGift p q lemmas (outcome.Shown x)) (sym is) (record {
      speaks = record { program = refl; alone = refl };
      fits = record {
        proves = proves_it q fact of;
        cites = cites_given p lemmas.items fact (subst (λ (x : ProofContent). ShownHolds x.program x.cited x.shown) is holds).0;
      };
    })
