-- A lemma under a greater number keeps that the numbers of a list rise.
use Rattle.std.proofs.Common.{◌≡◌, ℕ, ◌<◌, ◌≤◌, refl, arith, true, List, [], ◌∷◌, ◌++◌, map, Option, Some, None}
use Rattle.std.proofs.lemmas.Bool.{and_parts, and_from, lt-ltb}
use Rattle.tcl_goals.specs.declared.lemma.Lemma.{Lemma}
use Rattle.tcl_goals.specs.declared.lemma.Numbered.{Numbered}
use Rattle.tcl_goals.specs.Numbers.{is_above, rise_after}
use Rattle.tcl_goals.specs.LemmaList.{are_numbered, next_number}

numbered_last : (last : Option ℕ) (lemmas : List Numbered) (m : Numbered) → rise_after last (map (λ a. a.number) lemmas) ≡ true → next_number lemmas ≤ m.number → is_above last m.number ≡ true → rise_after last (map (λ a. a.number) (lemmas ++ m ∷ [])) ≡ true
unfolding next_number
numbered_last last [] m e h above = and_from (is_above last m.number) true above refl
numbered_last last (a ∷ lemmas) m e h above =
    let parts = and_parts (is_above last a.number) (rise_after (Some a.number) (map (λ b. b.number) lemmas)) e in
    let rest : next_number lemmas ≤ m.number = omega arith in
    let less : a.number < m.number = omega arith in
    and_from _ _ parts.0 (numbered_last (Some a.number) lemmas m parts.1 rest (lt-ltb a.number m.number less))

pub pushed_numbered : (lemmas : List Numbered) (n : ℕ) (m : Lemma) → are_numbered lemmas ≡ true → next_number lemmas ≤ n → are_numbered (lemmas ++ record { number = n; lemma = m } ∷ []) ≡ true
pushed_numbered lemmas n m e h = numbered_last None lemmas (record { number = n; lemma = m }) e h refl
