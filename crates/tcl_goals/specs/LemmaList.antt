-- Lists of lemmas by rising numbers.
use Rattle.std.specs.Prelude.{◌≡◌, ℕ, ◌+◌, max, ◌==◌, Bool, if◌then◌else◌, List, [], ◌∷◌, map, Option, Some, None}
use Rattle.tcl_goals.specs.declared.lemma.Lemma.{Lemma}
use Rattle.tcl_goals.specs.declared.lemma.Numbered.{Numbered}
use Rattle.tcl_goals.specs.Numbers.{numbers_rise}

-- lemmas, and whether more of them are wanted
pub record LemmaList : Type 0 where
  pub items : List Numbered
  pub more : Bool

-- their numbers rise
abbrev pub are_numbered : List Numbered → Bool
are_numbered lemmas = numbers_rise (map (λ m. m.number) lemmas)

-- the lemma of a number
unfoldable pub lemma_of : List Numbered → ℕ → Option Lemma
lemma_of [] n = None
lemma_of (m ∷ lemmas) n = if m.number == n then Some m.lemma else lemma_of lemmas n

-- a number above those of all these lemmas
unfoldable pub next_number : List Numbered → ℕ
next_number [] = 0
next_number (m ∷ lemmas) = max (m.number + 1) (next_number lemmas)

-- each lemma of the one list is in the other, under its number
abbrev pub Extends : List Numbered → List Numbered → Type 0
Extends old new = (n : ℕ) (m : Lemma) → lemma_of old n ≡ Some m → lemma_of new n ≡ Some m
