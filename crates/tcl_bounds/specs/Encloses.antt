-- The laws: assignments lie in the intervals, so what follows from the intervals holds in them.
use Rattle.std.specs.Prelude.{◌≡◌, ◌↔◌, ℕ, ℤ, true, false, List}
use Rattle.std.specs.List.{list_all}
use Rattle.tcl_lang.specs.declared.range.CmpOp.{CmpOp}
use Rattle.tcl_lang.specs.Range.{compares}
use Rattle.tcl_lang.specs.Program.{VersionedProgram}
use Rattle.tcl_lang.specs.declared.ty.Word.{Word}
use Rattle.tcl_lang.specs.Store.{word_at}
use Rattle.tcl_lang.specs.Values.{words_of}
use Rattle.tcl_lang.specs.Form.{IsWellFormed}
use Rattle.tcl_goals.specs.declared.fact.Claim.{Claim}
use Rattle.tcl_goals.specs.declared.fact.Fact.{Fact}
use Rattle.tcl_goals.specs.declared.lemma.Numbered.{Numbered}
use Rattle.tcl_goals.specs.Assignments.{Assigns, hyp_of, claim_of, HoldsOfAll}
use Rattle.tcl_bounds.specs.declared.interval.Interval.{Interval}
use Rattle.tcl_bounds.specs.Intervals.{In, is_empty}
use Rattle.tcl_bounds.specs.Narrowing.{interval_at}
use Rattle.tcl_bounds.specs.Bounds.{bounds_of}
use Rattle.tcl_bounds.specs.Follows.{always, follows_of}

-- the value of each variable lies in its interval
abbrev pub Encloses : List Interval → List Word → Type 0
Encloses bounds store = (v : ℕ) → In (interval_at bounds v) (word_at store v).value

-- an assignment that meets the hypotheses lies in the intervals
abbrev pub BoundsEnclose : Type 0
BoundsEnclose =
    (p : VersionedProgram) (lemmas : List Numbered) (fact : Fact) (values : List ℤ) → IsWellFormed p → Assigns p fact values →
    list_all (hyp_of p lemmas values) fact.hyps ≡ true → Encloses (bounds_of p fact) (words_of p.variables values)

-- what follows from intervals holds at all values that lie in them
abbrev pub FollowsHolds : Type 0
FollowsHolds =
    (p : VersionedProgram) (bounds : List Interval) (c : Claim) (values : List ℤ) →
    Encloses bounds (words_of p.variables values) → follows_of bounds p c ≡ true → claim_of p values c ≡ true

-- a claim that follows from the intervals of its fact holds in every assignment that meets the hypotheses
abbrev pub BoundsDecide : Type 0
BoundsDecide =
    (p : VersionedProgram) (lemmas : List Numbered) (fact : Fact) → IsWellFormed p →
    follows_of (bounds_of p fact) p fact.claim ≡ true → HoldsOfAll p lemmas fact

-- a comparison is taken to hold exactly where it holds for all pairs of values
abbrev pub AlwaysMeansAllPairs : Type 0
AlwaysMeansAllPairs =
    (op : CmpOp) (i j : Interval) → is_empty i ≡ false → is_empty j ≡ false →
    (always op i j ≡ true) ↔ ((m n : ℤ) → In i m → In j n → compares op m n ≡ true)
