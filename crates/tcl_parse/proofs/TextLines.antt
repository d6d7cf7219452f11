-- The first line of a text and the lines behind it.
use Rattle.std.proofs.Common.{◌≡◌, ℕ, zero, suc, ◌+◌, ◌≤◌, ◌<◌, List, [], ◌∷◌, length, take, drop, refl, sym, ap, ◌∙◌, arith, add-one}
use Rattle.std.proofs.lemmas.Bool.{lt-ltb, le-ltb}
use Rattle.std.proofs.lemmas.List.{drop_all}
use Rattle.std.specs.Prelude.{nat_lt, if◌then◌else◌}
use Rattle.tcl_text.specs.Lines.{line_length, without_return, first_line, lines_from, lines_of}

pub no_lines : (bytes : List ℕ) → length bytes ≡ 0 → lines_of bytes ≡ []
unfolding lines_from
no_lines [] e = refl
no_lines (b ∷ bytes) e = absurd (omega (arith, e))

passed_over : (k : ℕ) (bytes : List ℕ) → lines_from k bytes ≡ lines_of (drop k bytes)
unfolding lines_from
passed_over zero bytes = refl
passed_over (suc k) [] = refl
passed_over (suc k) (b ∷ bytes) = passed_over k bytes

split : (b : ℕ) (bytes : List ℕ) → lines_of (b ∷ bytes) ≡ first_line (b ∷ bytes) ∷ lines_from (line_length (b ∷ bytes)) bytes
unfolding lines_from
split b bytes = refl

behind : (b : ℕ) (bytes : List ℕ) (n : ℕ) → n ≡ line_length (b ∷ bytes) →
    lines_of (b ∷ bytes) ≡ first_line (b ∷ bytes) ∷ lines_of (drop (n + 1) (b ∷ bytes))
behind b bytes n e =
    split b bytes
    ∙ ap (λ lines. first_line (b ∷ bytes) ∷ lines)
    (ap (λ k. lines_from k bytes) (sym e) ∙ (passed_over n bytes ∙ ap (λ k. lines_of (drop k (b ∷ bytes))) (sym (add-one n))))

ended : (bytes : List ℕ) (n : ℕ) → n ≡ line_length bytes → n < length bytes → first_line bytes ≡ without_return (take n bytes)
unfolding first_line
ended bytes n e h =
    ap (λ k. if nat_lt k (length bytes) then without_return (take k bytes) else bytes) (sym e)
    ∙ ap (λ b. if b then without_return (take n bytes) else bytes) (lt-ltb _ _ h)

not_ended : (bytes : List ℕ) (n : ℕ) → n ≡ line_length bytes → length bytes ≤ n → first_line bytes ≡ bytes
unfolding first_line
not_ended bytes n e h =
    ap (λ k. if nat_lt k (length bytes) then without_return (take k bytes) else bytes) (sym e)
    ∙ ap (λ b. if b then without_return (take n bytes) else bytes) (le-ltb _ _ h)

-- a line with its end
pub a_line : (bytes : List ℕ) (n : ℕ) → n ≡ line_length bytes → n < length bytes →
    lines_of bytes ≡ without_return (take n bytes) ∷ lines_of (drop (n + 1) bytes)
a_line [] n e h = absurd (omega arith)
a_line (b ∷ bytes) n e h = behind b bytes n e ∙ ap (λ line. line ∷ lines_of (drop (n + 1) (b ∷ bytes))) (ended (b ∷ bytes) n e h)

-- a last line without its end
pub last_line : (bytes : List ℕ) (n : ℕ) → 0 < length bytes → n ≡ line_length bytes → n ≡ length bytes →
    lines_of bytes ≡ bytes ∷ lines_of (drop n bytes)
last_line [] n some e h = absurd (omega arith)
last_line (b ∷ bytes) n some e h =
    behind b bytes n e
    ∙ (ap (λ line. line ∷ lines_of (drop (n + 1) (b ∷ bytes))) (not_ended (b ∷ bytes) n e (omega arith))
    ∙ ap (λ rest. (b ∷ bytes) ∷ lines_of rest) (drop_all (n + 1) (b ∷ bytes) (omega (arith, h)) ∙ sym (drop_all n (b ∷ bytes) (omega (arith, h)))))
