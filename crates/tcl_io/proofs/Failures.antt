-- A call that fails by its number raises the count of failures below the next call, and no call lowers it.
use Rattle.std.proofs.Common.{◌≡◌, ℕ, ◌+◌, ◌-◌, ◌^◌, ◌<◌, ◌≤◌, Bool, true, false, cond, nat_lt, ◌==◌, ◌||◌, ◌&&◌, List, [], ◌∷◌, refl, inl, arith}
use Rattle.std.specs.List.{list_any}
use Rattle.std.proofs.lemmas.List.Sums.{sum_by-cons}
use Rattle.std.proofs.lemmas.Bool.{false≢true}
use Rattle.std.proofs.lemmas.Bool.Decides.{nat_tests}
use Rattle.tcl_io.specs.Faults.{Rose, count_up}
use Rattle.tcl_io.specs.Memory.{fails_at, failures_below}

-- a source with no failing call has no failure
pub failures_below-nil : (n : ℕ) → failures_below [] n ≡ 0
unfolding failures_below
failures_below-nil n = refl

failures_below-cons : (k : ℕ) (ks : List ℕ) (n : ℕ) → failures_below (k ∷ ks) n ≡ cond (nat_lt k n) 1 0 + failures_below ks n
unfolding failures_below
failures_below-cons k ks n = sum_by-cons (λ x. cond (nat_lt x n) 1 0) k ks

or_false : (b : Bool) → (b || false) ≡ true → b ≡ true
or_false true e = refl
or_false false e = e

kept_step : (k m n a b : ℕ) → m ≤ n → a ≤ b → cond (nat_lt k m) 1 0 + a ≤ cond (nat_lt k n) 1 0 + b
kept_step k m n a b le rest = grind (arith, nat_tests)

-- a later call has no fewer failures before it
pub failures_kept : (failing : List ℕ) (m n : ℕ) → m ≤ n → failures_below failing m ≤ failures_below failing n
failures_kept [] m n le = omega (arith, failures_below-nil m, failures_below-nil n)
failures_kept (k ∷ ks) m n le =
    omega (arith, failures_below-cons k ks m, failures_below-cons k ks n, kept_step k m n (failures_below ks m) (failures_below ks n) le (failures_kept ks m n le))

first_step : (k call a b : ℕ) → (k == call) ≡ true → a ≤ b → cond (nat_lt k call) 1 0 + a < cond (nat_lt k (call + 1)) 1 0 + b
first_step k call a b here rest = grind (arith, nat_tests)

later_step : (k call a b : ℕ) → a < b → cond (nat_lt k call) 1 0 + a < cond (nat_lt k (call + 1)) 1 0 + b
later_step k call a b rest = grind (arith, nat_tests)

rose_step : (k call a b : ℕ) (others : Bool) → ((k == call) || others) ≡ true → (others ≡ true → a < b) → a ≤ b → cond (nat_lt k call) 1 0 + a < cond (nat_lt k (call + 1)) 1 0 + b
rose_step k call a b true listed rose kept = later_step k call a b (rose refl)
rose_step k call a b false listed rose kept = first_step k call a b (or_false (k == call) listed) kept

-- a call that is listed counts once it is past
pub failures_rose : (failing : List ℕ) (call : ℕ) → list_any (λ k. k == call) failing ≡ true → failures_below failing call < failures_below failing (call + 1)
failures_rose [] call listed = absurd (false≢true listed)
failures_rose (k ∷ ks) call listed =
    omega (arith, failures_below-cons k ks call, failures_below-cons k ks (call + 1), rose_step k call (failures_below ks call) (failures_below ks (call + 1)) (list_any (λ x. x == call) ks) listed (failures_rose ks call) (failures_kept ks call (call + 1) (omega arith)))

and_right : (a b : Bool) → (a && b) ≡ true → b ≡ true
and_right true b e = e
and_right false b e = absurd (false≢true e)

and_left : (call : ℕ) (b : Bool) → (nat_lt call (2 ^ 64 - 1) && b) ≡ true → call < 2 ^ 64 - 1
and_left call b e = grind (arith, nat_tests)

-- the same at a count that stands still at the end of 64 bits
pub failed_rose : (failing : List ℕ) (call next : ℕ) → fails_at failing call ≡ true → next ≡ count_up call → Rose (failures_below failing call) (failures_below failing next)
failed_rose failing call next fails up =
    let below : call < 2 ^ 64 - 1 = and_left call (list_any (λ k. k == call) failing) fails in
    let listed : list_any (λ k. k == call) failing ≡ true = and_right (nat_lt call (2 ^ 64 - 1)) (list_any (λ k. k == call) failing) fails in
    let step : next ≡ call + 1 = omega arith in
    inl (rw step (failures_rose failing call listed))

pub kept_after : (failing : List ℕ) (call next : ℕ) → call < 2 ^ 64 → next ≡ count_up call → failures_below failing call ≤ failures_below failing next
kept_after failing call next fits up = failures_kept failing call next (omega arith)
