-- The least set of numbers that holds given ones and is closed under rules. A set lists for each number whether it is in it.
use Rattle.std.specs.Prelude.{◌≡◌, ◌<◌, ℕ, zero, suc, Bool, true, false, if◌then◌else◌, List, [], ◌∷◌, length, slice_get, slice_set, slice_index_or, Some}
use Rattle.std.specs.List.{list_any}
use Rattle.tcl_lang.specs.Defined.{is_among}

-- where one of `when` is in a set, all of `adds` are
pub record Rule : Type 0 where
  pub when : List ℕ
  pub adds : List ℕ

-- the number is in the set
abbrev pub is_marked : List Bool → ℕ → Bool
is_marked marks v = slice_index_or marks v false

-- the set with one more number, with these numbers
abbrev pub mark_one : List Bool → ℕ → List Bool
mark_one marks v = slice_set marks v true

abbrev pub mark_all : List Bool → List ℕ → List Bool
mark_all marks [] = marks
mark_all marks (v ∷ vs) = mark_all (slice_set marks v true) vs

-- one rule, all rules once, all rules n times
abbrev pub apply : List Bool → Rule → List Bool
apply marks r = if list_any (is_marked marks) r.when then mark_all marks r.adds else marks

abbrev pub round : List Rule → List Bool → List Bool
round [] marks = marks
round (r ∷ rules) marks = round rules (apply marks r)

abbrev pub rounds : ℕ → List Rule → List Bool → List Bool
rounds zero rules marks = marks
rounds (suc n) rules marks = rounds n rules (round rules marks)

-- as many rounds as there are numbers
unfoldable pub closure : List Rule → List Bool → List Bool
closure rules marks = rounds (length marks) rules marks

-- one set holds the other
abbrev pub Below : List Bool → List Bool → Type 0
Below marks others = (v : ℕ) → is_marked marks v ≡ true → is_marked others v ≡ true

-- a set obeys a rule, all rules
abbrev pub Obeys : List Bool → Rule → Type 0
Obeys marks r =
    list_any (is_marked marks) r.when ≡ true →
    (v : ℕ) → is_among r.adds v ≡ true → v < length marks → is_marked marks v ≡ true

abbrev pub IsClosed : List Rule → List Bool → Type 0
IsClosed rules marks = (k : ℕ) (r : Rule) → slice_get rules k ≡ Some r → Obeys marks r

-- the least closed set with these members
pub record IsLeastClosed (rules : List Rule) (start marks : List Bool) : Type 0 where
  pub count : length marks ≡ length start
  pub holds : Below start marks
  pub closed : IsClosed rules marks
  pub least : (others : List Bool) → length others ≡ length start → Below start others → IsClosed rules others → Below marks others

-- the closure is the least closed set
abbrev pub ClosureIsLeast : Type 0
ClosureIsLeast = (rules : List Rule) (start : List Bool) → IsLeastClosed rules start (closure rules start)

-- and there is no other
abbrev pub OneLeastClosed : Type 0
OneLeastClosed = (rules : List Rule) (start marks : List Bool) → IsLeastClosed rules start marks → marks ≡ closure rules start
