-- The steps of a report over what is left of the lines.
use Rattle.std.proofs.Common.{◌≡◌, ◌≤◌, ◌+◌, cond, ℕ, ℤ, pos, List, [], ◌∷◌, Bool, true, false, drop, length, ap, subst, ◌∙◌, arith, Some}
use Rattle.std.specs.Prelude.{slice_get, slice_index, slice_index_or, is_some}
use Rattle.std.proofs.lemmas.List.{drop_more, drop_all}
use Rattle.std.proofs.lemmas.Option.{slice_get_within, get_or_from_slice_get}
use Rattle.tcl_lang.specs.declared.pred.Line.{Line}
use Rattle.tcl_lang.specs.Line.{taken_name}
use Rattle.tcl_lang.specs.Program.{ReadProgram}
use Rattle.tcl_goals.specs.declared.goal.Goal.{Goal}
use Rattle.tcl_board.specs.State.{BoardState}
use Rattle.tcl_board.specs.Told.{answer_of}
use Rattle.tcl_report.specs.declared.printer.Printer.{Printer}
use Rattle.tcl_report.specs.Growing.{Grows}
use Rattle.tcl_report.proofs.Growing.{Leaves, joined}
use Rattle.tcl_report.specs.Report.{taken_text, values_text, goal_text, goals_text}

-- an item and what is left after it
pub drop_item : {X : Type 0} (items : List X) (k : ℕ) (x : X) → slice_get items k ≡ Some x → drop k items ≡ x ∷ drop (k + 1) items
drop_item items k x at =
    drop_more items k x (slice_get_within items k x at) ∙ ap (λ y. y ∷ drop (k + 1) items) (get_or_from_slice_get items k x x at)

-- the lines of values
pub values_more : (names : List (List ℕ)) (places : List ℕ) (input : List ℤ) (lines : List Line) (k j : ℕ) (l : Line) {s t u : Printer} {whole : List ℕ} →
    slice_get lines k ≡ Some l → Leaves s whole t (values_text names places input k j (drop k lines)) →
    Grows t (taken_text names (slice_index places k) (slice_index_or input j (pos 0)) l) u →
    Leaves s whole u (values_text names places input (k + 1) (j + cond (is_some (taken_name l)) 1 0) (drop (k + 1) lines))
unfolding values_text
values_more names places input lines k j l {s = s} {t = t} {whole = whole} at h g =
    joined (subst (λ ls. Leaves s whole t (values_text names places input k j ls)) (drop_item lines k l at) h) g

pub values_done : (names : List (List ℕ)) (places : List ℕ) (input : List ℤ) (lines : List Line) (k j : ℕ) → length lines ≤ k →
    values_text names places input k j (drop k lines) ≡ []
unfolding values_text
values_done names places input lines k j h = ap (values_text names places input k j) (drop_all k lines h)

pub count_more : (b : Bool) (i k : ℕ) → i ≤ k → i + cond b 1 0 ≤ k + 1
count_more true i k h = omega arith
count_more false i k h = omega arith

-- the lines of goals
pub goals_more : (p : ReadProgram) (b : BoardState) (goals : List Goal) (k : ℕ) (g : Goal) {s t u : Printer} {whole : List ℕ} →
    slice_get goals k ≡ Some g → Leaves s whole t (goals_text p b (drop k goals)) → Grows t (goal_text p g (answer_of b g.number)) u →
    Leaves s whole u (goals_text p b (drop (k + 1) goals))
unfolding goals_text
goals_more p b goals k g {s = s} {t = t} {whole = whole} at h i =
    joined (subst (λ gs. Leaves s whole t (goals_text p b gs)) (drop_item goals k g at) h) i

pub goals_done : (p : ReadProgram) (s : BoardState) (goals : List Goal) (k : ℕ) → length goals ≤ k → goals_text p s (drop k goals) ≡ []
unfolding goals_text
goals_done p s goals k h = ap (goals_text p s) (drop_all k goals h)
