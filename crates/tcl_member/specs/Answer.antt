-- What the answers of the membership search say.
use Rattle.std.specs.Prelude.{◌≡◌, ℕ, ◌-◌, ◌*◌, ◌^◌, ◌<◌, ◌≤◌, List, [], ℤ, Option, None, Some}
use Rattle.tcl_poly.specs.Polynomial.{Polynomial, terms_of}
use Rattle.tcl_poly.specs.Combination.{Terms}
use Rattle.tcl_port.specs.Polling.{counted}
use Rattle.tcl_reduce.specs.Answer.{numbered}
use Rattle.tcl_reduce.specs.Remainder.{pairs_of, IsRemainder}
use Rattle.tcl_reduce.specs.Row as rows
use Rattle.tcl_reduce.specs.Membership as s
use Rattle.tcl_pivots.specs.declared.rows.Note.{Note}
use Rattle.tcl_pivots.specs.Held.{note_shown}
use Rattle.tcl_pivots.specs.declared.row.Target.{Target}
use Rattle.tcl_member.specs.declared.search.Turn.{Turn}
use Rattle.tcl_member.specs.declared.search.Turn.TheVariants as t
use Rattle.tcl_member.specs.declared.answer.Member.{Member}
use Rattle.tcl_member.specs.declared.answer.Member.TheVariants.{Cofactors, Spent, Rest, Stopped, Memory}

-- a note where there is one
abbrev pub note_where : Option Note → Option rows.Note
note_where None = None
note_where (Some n) = Some (note_shown n)

-- the answer is how the search ends for that plain remainder; to be stopped and want of memory say nothing
abbrev pub IsMember : {R E : Type 0} → (E → ℤ) → ℕ → Polynomial → s.Found → Member R E → Type 0
IsMember value budget rest found (Cofactors cs) = found ≡ s.Cofactors (pairs_of value (numbered cs))
IsMember value budget rest found (Spent n) = (n ≡ budget) × (found ≡ s.Spent n)
IsMember value budget rest found (Rest f first) = (terms_of value f ≡ rest) × (found ≡ s.Open (note_where first))
IsMember value budget rest found Stopped = Unit {0}
IsMember value budget rest found Memory = Unit {0}

-- cofactors make the claim, as the exact comparison can show
abbrev pub IsShownBy : {R E : Type 0} → Option ℕ → (E → ℤ) → List (Terms E) → Polynomial → Member R E → Type 0
IsShownBy m value equations claim (Cofactors cs) = IsRemainder m value equations claim [] (numbered cs)
IsShownBy m value equations claim (Spent n) = Unit {0}
IsShownBy m value equations claim (Rest f first) = Unit {0}
IsShownBy m value equations claim Stopped = Unit {0}
IsShownBy m value equations claim Memory = Unit {0}

-- the counts of cancellations before and after: one came exactly where the answer is that the search was stopped
abbrev pub IsStopped : {R E : Type 0} → ℕ → ℕ → Member R E → Type 0
IsStopped cancels cancels' (Cofactors cs) = cancels' ≡ cancels
IsStopped cancels cancels' (Spent n) = cancels' ≡ cancels
IsStopped cancels cancels' (Rest f first) = cancels' ≡ cancels
IsStopped cancels cancels' Stopped = cancels' ≡ counted cancels
IsStopped cancels cancels' Memory = cancels' ≡ cancels

-- the products that a spent search tried are at most 1,000 for each poll, as long as the count of polls did not reach its end
abbrev pub IsPolled : {R E : Type 0} → ℕ → ℕ → Member R E → Type 0
IsPolled polls polls' (Cofactors cs) = Unit {0}
IsPolled polls polls' (Spent n) = polls' < 2 ^ 64 - 1 → n ≤ 1000 * (polls' - polls)
IsPolled polls polls' (Rest f first) = Unit {0}
IsPolled polls polls' Stopped = Unit {0}
IsPolled polls polls' Memory = Unit {0}

-- the answer's kind is that of the search's end
abbrev pub IsEndBy : {R E : Type 0} → Target R E → Turn → Member R E → Type 0
IsEndBy f turn (Cofactors cs) = (turn ≡ t.Zero) × (cs ≡ f.cofactors)
IsEndBy f turn (Spent n) = turn ≡ t.Spent
IsEndBy f turn (Rest g first) = turn ≡ t.Going
IsEndBy f turn Stopped = turn ≡ t.Stopped
IsEndBy f turn Memory = ⊥
