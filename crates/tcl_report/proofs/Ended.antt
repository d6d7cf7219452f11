-- A text whose bytes all show, ended by a line feed, is one line of what it stands before.
use Rattle.std.proofs.Common.{◌≡◌, ℕ, zero, suc, ◌-◌, List, [], ◌∷◌, ◌++◌, refl, ap, ◌∙◌, arith, length, take, get_or}
use Rattle.std.specs.Prelude.{nat_lt, ◌==◌, true, false, not, if◌then◌else◌, slice_index}
use Rattle.std.specs.List.{list_all}
use Rattle.std.proofs.lemmas.Bool.{lt-ltb, and_parts, and_from, not_from_false, cond-true, cond-false}
use Rattle.std.proofs.lemmas.List.{take_at, length-append}
use Rattle.tcl_text.specs.Lines.{line_length, without_return, first_line, lines_from, lines_of}
use Rattle.tcl_report.proofs.CutTokens.{is_shown, not_byte, run}

-- a text whose bytes all show
abbrev pub AreShown : List ℕ → Type 0
AreShown text = list_all is_shown text ≡ true

no_feeds : (text : List ℕ) → AreShown text → list_all (λ b. not (b == 10)) text ≡ true
no_feeds [] e = refl
no_feeds (b ∷ text) e =
    let parts = and_parts (is_shown b) (list_all is_shown text) e in
    and_from (not (b == 10)) (list_all (λ b. not (b == 10)) text) (not_from_false (b == 10) (not_byte is_shown b 10 parts.0 refl)) (no_feeds text parts.1)

no_return : (text : List ℕ) (k : ℕ) → AreShown text → (get_or text k 0 == 13) ≡ false
no_return [] k e = refl
no_return (b ∷ text) zero e = not_byte is_shown b 13 (and_parts (is_shown b) (list_all is_shown text) e).0 refl
no_return (b ∷ text) (suc k) e = no_return text k (and_parts (is_shown b) (list_all is_shown text) e).1

feed_at : (text rest : List ℕ) → AreShown text → line_length (text ++ (10 ∷ rest)) ≡ length text
feed_at text rest e = run (λ b. not (b == 10)) text (10 ∷ rest) (no_feeds text e) refl

first_is : (text rest : List ℕ) → AreShown text → first_line (text ++ (10 ∷ rest)) ≡ text
unfolding first_line
first_is text rest e =
    ap (λ n. if nat_lt n (length (text ++ (10 ∷ rest))) then without_return (take n (text ++ (10 ∷ rest))) else text ++ (10 ∷ rest)) (feed_at text rest e)
    ∙ (cond-true (nat_lt (length text) (length (text ++ (10 ∷ rest)))) (without_return (take (length text) (text ++ (10 ∷ rest)))) (text ++ (10 ∷ rest))
    (lt-ltb (length text) (length (text ++ (10 ∷ rest))) (let l = length-append text (10 ∷ rest) in omega (arith, l)))
    ∙ (ap without_return (take_at text (10 ∷ rest) (length text) refl)
    ∙ cond-false (slice_index text (length text - 1) == 13) (take (length text - 1) text) text (no_return text (length text - 1) e)))

behind : (text rest : List ℕ) → lines_from (suc (length text)) (text ++ (10 ∷ rest)) ≡ lines_from 0 rest
unfolding lines_from
behind [] rest = refl
behind (b ∷ text) rest = behind text rest

-- a line before others
pub ended : (text rest : List ℕ) → AreShown text → lines_of (text ++ (10 ∷ rest)) ≡ text ∷ lines_of rest
unfolding lines_from
ended [] rest e = ap (λ l. l ∷ lines_from 0 rest) (first_is [] rest e)
ended (b ∷ text) rest e =
    ap (λ l. l ∷ lines_from (line_length (b ∷ (text ++ (10 ∷ rest)))) (text ++ (10 ∷ rest))) (first_is (b ∷ text) rest e)
    ∙ (ap (λ n. (b ∷ text) ∷ lines_from n (text ++ (10 ∷ rest))) (feed_at (b ∷ text) rest e)
    ∙ ap (λ ls. (b ∷ text) ∷ ls) (behind text rest))

pub no_lines : lines_of [] ≡ []
unfolding lines_from
no_lines = refl
