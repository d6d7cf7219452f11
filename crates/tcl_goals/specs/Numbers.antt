-- Lists of numbers: those that pass a test, and whether they rise.
use Rattle.std.specs.Prelude.{ℕ, zero, suc, nat_lt, Bool, true, ◌&&◌, if◌then◌else◌, List, [], ◌∷◌, ◌++◌, Option, Some, None}

-- the numbers below n that pass the test, in order
unfoldable pub those_below : (ℕ → Bool) → ℕ → List ℕ
those_below test zero = []
those_below test (suc n) = if test n then those_below test n ++ n ∷ [] else those_below test n

-- all numbers below n
abbrev pub numbers_below : ℕ → List ℕ
numbers_below n = those_below (λ k. true) n

-- each number is greater than the one before it
abbrev pub is_above : Option ℕ → ℕ → Bool
is_above None n = true
is_above (Some last) n = nat_lt last n

abbrev pub rise_after : Option ℕ → List ℕ → Bool
rise_after last [] = true
rise_after last (n ∷ ns) = is_above last n && rise_after (Some n) ns

abbrev pub numbers_rise : List ℕ → Bool
numbers_rise ns = rise_after None ns
