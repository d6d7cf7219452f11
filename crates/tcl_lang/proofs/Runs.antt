-- Runs line by line: the next store, the number of values taken and of goals passed, and what a line states.
use Rattle.std.proofs.Common.{◌≡◌, ℕ, ◌+◌, ◌≤◌, refl, sym, ◌∙◌, ap, arith, add-one, ℤ, pos, Bool, true, false, cond, List, [], ◌∷◌, length, replicate, Some, get_or, take}
use Rattle.std.specs.List.{slice_get, count_by}
use Rattle.std.specs.Option.{is_some}
use Rattle.std.proofs.lemmas.List.{take_all}
use Rattle.std.proofs.lemmas.List.Sums.{count_by_more_yes, count_by_more_no}
use Rattle.std.proofs.lemmas.Option.{slice_get_within, slice_get_past, get_or_from_slice_get}
use Rattle.tcl_lang.specs.declared.pred.Line.{Line}
use Rattle.tcl_lang.specs.Store.{empty_word}
use Rattle.tcl_lang.specs.Line.{taken_type, is_goal, line_truth}
use Rattle.tcl_lang.specs.Run.{store_after, store_at, taken_before}
use Rattle.tcl_lang.specs.Goal.{goals_before, truth_at, truth_in}

-- the store before the first line
pub store_begins : (names : ℕ) (lines : List Line) (input : List ℤ) → store_at names lines input 0 ≡ replicate names empty_word
unfolding store_at
store_begins names lines input = refl

-- the store after line k
pub store_goes : (names : ℕ) (lines : List Line) (input : List ℤ) (k : ℕ) (l : Line) → slice_get lines k ≡ Some l → store_at names lines input (k + 1) ≡ store_after (Some l) (get_or input (taken_before lines k) (pos 0)) (store_at names lines input k)
unfolding store_at
store_goes names lines input k l e =
    ap (store_at names lines input) (add-one k)
    ∙ ap (λ o. store_after o (get_or input (taken_before lines k) (pos 0)) (store_at names lines input k)) e

-- past the last line the store stays
pub store_stays : (names : ℕ) (lines : List Line) (input : List ℤ) (k : ℕ) → length lines ≤ k → store_at names lines input (k + 1) ≡ store_at names lines input k
unfolding store_at
store_stays names lines input k past =
    ap (store_at names lines input) (add-one k)
    ∙ ap (λ o. store_after o (get_or input (taken_before lines k) (pos 0)) (store_at names lines input k)) (slice_get_past lines k past)

-- what line k states, in the store before it
pub truth_is : (names : ℕ) (lines : List Line) (input : List ℤ) (k : ℕ) (l : Line) → slice_get lines k ≡ Some l → truth_at names lines input k ≡ line_truth (store_at names lines input k) l
unfolding truth_at
truth_is names lines input k l e = ap (truth_in (store_at names lines input k)) e

-- where there is no line nothing false is stated
pub truth_past : (names : ℕ) (lines : List Line) (input : List ℤ) (k : ℕ) → length lines ≤ k → truth_at names lines input k ≡ true
unfolding truth_at
truth_past names lines input k past = ap (truth_in (store_at names lines input k)) (slice_get_past lines k past)

-- one, where the test passes
abbrev pub one_if : Bool → ℕ
one_if b = cond b 1 0

-- a count over the first k lines, and over one more
count_goes : (test : Line → Bool) (lines : List Line) (k : ℕ) (l : Line) (b : Bool) → slice_get lines k ≡ Some l → test l ≡ b → count_by test (take (k + 1) lines) ≡ count_by test (take k lines) + one_if b
count_goes test lines k l true e t =
    count_by_more_yes test lines k l (slice_get_within lines k l e) (ap test (get_or_from_slice_get lines k l l e) ∙ t)
count_goes test lines k l false e t =
    let same = count_by_more_no test lines k l (slice_get_within lines k l e) (ap test (get_or_from_slice_get lines k l l e) ∙ t) in
    omega arith

pub taken_begins : (lines : List Line) → taken_before lines 0 ≡ 0
unfolding taken_before
taken_begins [] = refl
taken_begins (l ∷ lines) = refl

pub taken_goes : (lines : List Line) (k : ℕ) (l : Line) → slice_get lines k ≡ Some l → taken_before lines (k + 1) ≡ taken_before lines k + one_if (is_some (taken_type l))
unfolding taken_before
taken_goes lines k l e = count_goes (λ l. is_some (taken_type l)) lines k l (is_some (taken_type l)) e refl

pub goals_begin : (lines : List Line) → goals_before lines 0 ≡ 0
unfolding goals_before
goals_begin [] = refl
goals_begin (l ∷ lines) = refl

pub goals_go : (lines : List Line) (k : ℕ) (l : Line) → slice_get lines k ≡ Some l → goals_before lines (k + 1) ≡ goals_before lines k + one_if (is_goal l)
unfolding goals_before
goals_go lines k l e = count_goes is_goal lines k l (is_goal l) e refl

-- past the last line no more goals come
pub goals_stay : (lines : List Line) (k : ℕ) → length lines ≤ k → goals_before lines (k + 1) ≡ goals_before lines k
unfolding goals_before
goals_stay lines k past =
    let further : length lines ≤ k + 1 = omega arith in
    ap (count_by is_goal) (take_all (k + 1) lines further ∙ sym (take_all k lines past))
