-- The canonical text of a tree by the texts of its parts.
use Rattle.std.proofs.Common.{◌≡◌, ℕ, List, ap, sym, ◌∙◌}
use Rattle.tcl_lang.specs.declared.term.Term.{Term, Term-F, map-Term, roll-Term}
use Rattle.tcl_lang.specs.declared.term.Term.TheFolds.{fold-roll-Term}
use Rattle.tcl_lang.specs.declared.range.RngTerm.{RngTerm, RngTerm-F, map-RngTerm, roll-RngTerm}
use Rattle.tcl_lang.specs.declared.range.RngTerm.TheFolds.{fold-roll-RngTerm}
use Rattle.tcl_lang.specs.declared.range.RngPred.{RngPred, RngPred-F, map-RngPred, roll-RngPred}
use Rattle.tcl_lang.specs.declared.range.RngPred.TheFolds.{fold-roll-RngPred}
use Rattle.tcl_text.specs.Canonical.{term_text, term_text_step, range_term_text, range_term_text_step, range_pred_text_step}
use Rattle.tcl_report.specs.Parts.{range_pred_text}

pub term_is : (names : List (List ℕ)) (place : ℕ) (y : Term-F Term) {t u : Term} → t ≡ u → roll-Term y ≡ u →
    term_text_step names (map-Term Term (ℕ → List ℕ) (term_text names) y) place ≡ term_text names t place
term_is names place y e r =
    sym (ap (λ f. f place) (fold-roll-Term (ℕ → List ℕ) (term_text_step names) y)) ∙ ap (λ t. term_text names t place) (r ∙ sym e)

pub range_is : (names : List (List ℕ)) (place : ℕ) (y : RngTerm-F RngTerm) {t u : RngTerm} → t ≡ u → roll-RngTerm y ≡ u →
    range_term_text_step names (map-RngTerm RngTerm (ℕ → List ℕ) (range_term_text names) y) place ≡ range_term_text names t place
range_is names place y e r =
    sym (ap (λ f. f place) (fold-roll-RngTerm (ℕ → List ℕ) (range_term_text_step names) y)) ∙ ap (λ t. range_term_text names t place) (r ∙ sym e)

pub pred_is : (names : List (List ℕ)) (place : ℕ) (y : RngPred-F RngPred) {p q : RngPred} → p ≡ q → roll-RngPred y ≡ q →
    range_pred_text_step names (map-RngPred RngPred (ℕ → List ℕ) (range_pred_text names) y) place ≡ range_pred_text names p place
pred_is names place y e r =
    sym (ap (λ f. f place) (fold-roll-RngPred (ℕ → List ℕ) (range_pred_text_step names) y)) ∙ ap (λ p. range_pred_text names p place) (r ∙ sym e)
