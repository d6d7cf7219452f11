-- The rounds of a search: polls, counts, and the evidence for each end.
use Rattle.std.proofs.Common.{◌≡◌, ℕ, zero, suc, ◌+◌, ◌-◌, ◌*◌, ◌^◌, ◌<◌, ◌≤◌, Bool, true, false, ◌||◌, cond, eqb, List, [], ◌∷◌, ◌++◌, length, take, drop, Some, slice_get, refl, sym, ap, subst, ◌∙◌, arith, ◌⊎◌, inl, inr, length-append, Result, Ok, Err}
use Rattle.std.specs.Result.{OnErr}
use Rattle.std.specs.List.{list_any}
use Rattle.std.proofs.lemmas.Bool.{cases_eq, cases_lt, eq-eqb, ne_eqb, or_right}
use Rattle.std.proofs.lemmas.List.{take_all, take-append-le}
use Rattle.tcl_cnf.specs.Clause.{has}
use Rattle.tcl_cnf.specs.Propagation.{IsFresh, ConflictsAtOnce}
use Rattle.tcl_cnf.specs.Log.{LogState, is_empty, has_empty}
use Rattle.tcl_cnf.proofs.Bools.{true-false}
use Rattle.tcl_cnf.proofs.Freshness.{no_conflict}
use Rattle.tcl_trail.proofs.Growth.{clause_there}
use Rattle.tcl_trail.specs.Trail.{TrailState}
use Rattle.tcl_port.specs.Polling.{counted, Rose}
use Rattle.tcl_sat.specs.Found.{AreFresh, IsLogOf, IsRefutation, IsSpent, IsBounded}
use Rattle.tcl_sat.specs.State.{IsState, AddsOne, GoesOn, IsRunning}

-- nothing was learnt yet
pub running_begun : (log : LogState) (trail : TrailState) (left round polls cancels : ℕ) → IsState log trail → log.given ≡ length log.clauses → left ≡ 0 → IsRunning log.clauses log trail 0 left round polls polls cancels cancels
running_begun log trail left round polls cancels state begun none = record {
  state = state;
  log_of = record { given = begun; formula = take_all log.given log.clauses (omega (arith, begun)) };
  count = omega (arith, begun);
  asked = λ h. absurd (omega (arith, h, none));
  risen = inl refl;
  bounded = λ h. (omega arith, omega (arith, none));
  same = refl;
}

rose_more : (polls before after : ℕ) → (before ≡ polls) ⊎ Rose polls before → after ≡ counted before → Rose polls after
rose_more polls before after (inl same) e = rose (cases_lt (before + 1) (2 ^ 64)) where
  rose : (before + 1 < 2 ^ 64) ⊎ (2 ^ 64 ≤ before + 1) → Rose polls after
  rose (inl below) = inl (omega (arith, same, e, below))
  rose (inr above) = inr (omega (arith, e, above))
rose_more polls before after (inr (inl less)) e = rose (cases_lt (before + 1) (2 ^ 64)) where
  rose : (before + 1 < 2 ^ 64) ⊎ (2 ^ 64 ≤ before + 1) → Rose polls after
  rose (inl below) = inl (omega (arith, less, e, below))
  rose (inr above) = inr (omega (arith, e, above))
rose_more polls before after (inr (inr full)) e = inr (omega (arith, e, full))

-- one more poll allows one more round
bound_more : (learnt round polls before after : ℕ) → after ≡ before + 1 → polls ≤ before → learnt ≤ round * (before - polls) → learnt + round ≤ round * (after - polls)
bound_more learnt round polls before after e le h =
    let gap : after - polls ≡ (before - polls) + 1 = omega (arith, e, le) in
    subst (λ (x : ℕ). learnt + round ≤ round * x) (sym gap) (omega (arith, h))

-- the port was asked, where no conflict was left of the round
pub running_allowed : (cnf : List (List ℕ)) (log : LogState) (trail : TrailState) (learnt left allowed round polls before after cancels cancels' cancels'' : ℕ) → IsRunning cnf log trail learnt left round polls before cancels cancels' → 1 ≤ round
    → after ≡ cond (eqb left 0) (counted before) before → allowed ≡ cond (eqb left 0) round left → cancels'' ≡ cancels' → (0 < allowed) × IsRunning cnf log trail learnt allowed round polls after cancels cancels''
running_allowed cnf log trail learnt left allowed round polls before after cancels cancels' cancels'' r one e a s = elim (cases_eq left 0) [
  | inr some ↦
      let same : after ≡ before = e ∙ ap (λ b. cond b (counted before) before) (ne_eqb left 0 some) in
      let keeps : allowed ≡ left = a ∙ ap (λ b. cond b round left) (ne_eqb left 0 some) in
      let moved : IsRunning cnf log trail learnt allowed round polls before cancels cancels' = subst (λ (n : ℕ). IsRunning cnf log trail learnt n round polls before cancels cancels') (sym keeps) r in
      (omega (arith, keeps, some), subst (λ (n : ℕ). IsRunning cnf log trail learnt allowed round polls n cancels cancels'') (sym same) (subst (λ (n : ℕ). IsRunning cnf log trail learnt allowed round polls before cancels n) (sym s) moved))
  | inl none ↦
      let more : after ≡ counted before = e ∙ ap (λ b. cond b (counted before) before) (eq-eqb left 0 none) in
      let full : allowed ≡ round = a ∙ ap (λ b. cond b round left) (eq-eqb left 0 none) in
      let rose = rose_more polls before after r.risen more in (
        omega (arith, full, one),
        record {
          state = r.state;
          log_of = r.log_of;
          count = r.count;
          asked = λ _. rose;
          risen = inr rose;
          bounded = λ h.
              let step : after ≡ before + 1 = omega (arith, more, h) in
              let b = r.bounded (omega (arith, step, h)) in
              let sum : learnt + round ≤ round * (after - polls) = bound_more learnt round polls before after step b.0 (omega (arith, b.1)) in
              (omega (arith, b.0, step), omega (arith, sum, full));
          same = s ∙ r.same;
        },
      )
]

-- the port answered that the search is to stop
pub stopped_asked : (cnf : List (List ℕ)) (log : LogState) (trail : TrailState) (learnt left round polls before after cancels cancels' : ℕ) → IsRunning cnf log trail learnt left round polls before cancels cancels'
    → after ≡ cond (eqb left 0) (counted before) before → left ≡ 0 → Rose polls after
stopped_asked cnf log trail learnt left round polls before after cancels cancels' r e none =
    rose_more polls before after r.risen (e ∙ ap (λ b. cond b (counted before) before) (eq-eqb left 0 none))

pub stopped_counted : (cnf : List (List ℕ)) (log : LogState) (trail : TrailState) (learnt left round polls polls' cancels cancels' cancels'' : ℕ) → IsRunning cnf log trail learnt left round polls polls' cancels cancels'
    → cancels'' ≡ counted cancels' → cancels'' ≡ counted cancels
stopped_counted cnf log trail learnt left round polls polls' cancels cancels' cancels'' r e = e ∙ ap counted r.same

-- a formula in front of more clauses
front_kept : (cnf : List (List ℕ)) (old new : LogState) (c : List ℕ) → AddsOne old new c → old.given ≤ length old.clauses → IsLogOf cnf old → IsLogOf cnf new
front_kept cnf old new c adds le log_of = record {
  given = adds.given ∙ log_of.given;
  formula = ap (λ (n : ℕ). take n new.clauses) adds.given ∙ ap (take old.given) adds.behind ∙ take-append-le old.given old.clauses (c ∷ []) le ∙ log_of.formula;
}

one_longer : (old new : LogState) (c : List ℕ) → AddsOne old new c → length new.clauses ≡ length old.clauses + 1
one_longer old new c adds = ap (λ (cs : List (List ℕ)). length cs) adds.behind ∙ length-append old.clauses (c ∷ [])

-- a clause was learnt
pub running_learnt : (cnf : List (List ℕ)) (old new : LogState) (trail after : TrailState) (learnt allowed left round polls polls' cancels cancels' : ℕ) → IsRunning cnf old trail learnt allowed round polls polls' cancels cancels' → 0 < allowed
    → left ≡ allowed - 1 → GoesOn old new after → IsRunning cnf new after (learnt + 1) left round polls polls' cancels cancels'
running_learnt cnf old new trail after learnt allowed left round polls polls' cancels cancels' r some e on =
    let long = one_longer old new on.clause on.adds in
    record {
      state = on.state;
      log_of = front_kept cnf old new on.clause on.adds (omega (arith, r.count)) r.log_of;
      count = omega (arith, long, r.count, on.adds.given);
      asked = λ _. r.asked (omega (arith, some));
      risen = r.risen;
      bounded = λ h. let b = r.bounded h in (b.0, omega (arith, b.1, e, some));
      same = r.same;
    }

any_last : (p : List ℕ → Bool) (n : ℕ) (xs : List (List ℕ)) (y : List ℕ) → n ≤ length xs → p y ≡ true → list_any p (drop n (xs ++ y ∷ [])) ≡ true
any_last p zero [] y h t = ap (λ b. b || false) t
any_last p zero (x ∷ xs) y h t = or_right (p x) (list_any p (xs ++ y ∷ [])) (any_last p zero xs y (omega arith) t)
any_last p (suc n) [] y h t = absurd (omega (arith, h))
any_last p (suc n) (x ∷ xs) y h t = any_last p n xs y (omega (arith, h)) t

-- the empty clause was derived
pub refuted : (cnf : List (List ℕ)) (old new : LogState) (trail : TrailState) (learnt allowed round polls polls' cancels cancels' budget : ℕ) → IsRunning cnf old trail learnt allowed round polls polls' cancels cancels' → learnt < budget
    → AddsOne old new [] → IsRefutation cnf budget new
refuted cnf old new trail learnt allowed round polls polls' cancels cancels' budget r below adds = record {
  log_of = front_kept cnf old new [] adds (omega (arith, r.count)) r.log_of;
  before = old.clauses;
  last = adds.behind;
  fewer = omega (arith, r.count, adds.given, below);
  fresh = subst (λ (n : ℕ). AreFresh old.clauses n) (sym adds.given) r.state.fresh;
  refuted = ap (λ (n : ℕ). has_empty (drop n new.clauses)) adds.given ∙ ap (λ (cs : List (List ℕ)). has_empty (drop old.given cs)) adds.behind
      ∙ any_last is_empty old.given old.clauses [] (omega (arith, r.count)) refl;
}

pub refuted_bounded : (cnf : List (List ℕ)) (old new : LogState) (trail : TrailState) (learnt allowed round polls polls' cancels cancels' : ℕ) → IsRunning cnf old trail learnt allowed round polls polls' cancels cancels' → 0 < allowed
    → AddsOne old new [] → IsBounded round polls polls' new
refuted_bounded cnf old new trail learnt allowed round polls polls' cancels cancels' r some adds h =
    let b = r.bounded h in omega (arith, b.1, some, one_longer old new [] adds, r.count, adds.given)

-- all variables have values
pub satisfied : (cnf : List (List ℕ)) (log : LogState) (old trail : TrailState) (learnt allowed round polls polls' cancels cancels' : ℕ) → IsRunning cnf log old learnt allowed round polls polls' cancels cancels'
    → log.clauses ≡ trail.clauses → (take (length cnf) trail.clauses ≡ cnf)
satisfied cnf log old trail learnt allowed round polls polls' cancels cancels' r same =
    ap (λ (cs : List (List ℕ)). take (length cnf) cs) (sym same) ∙ ap (λ (n : ℕ). take n log.clauses) (sym r.log_of.given) ∙ r.log_of.formula

none_any : (p : List ℕ → Bool) (n : ℕ) (xs : List (List ℕ)) → ((k : ℕ) (x : List ℕ) → n ≤ k → slice_get xs k ≡ Some x → p x ≡ false) → list_any p (drop n xs) ≡ false
none_any p zero [] f = refl
none_any p zero (x ∷ xs) f = ap (λ b. b || list_any p xs) (f zero x (omega arith) refl) ∙ none_any p zero xs (λ k y h e. f (suc k) y (omega arith) e)
none_any p (suc n) [] f = refl
none_any p (suc n) (x ∷ xs) f = none_any p n xs (λ k y h e. f (suc k) y (omega (arith, h)) e)

not_empty : (l : ℕ) (c : List ℕ) → has l c ≡ true → is_empty c ≡ false
not_empty l [] h = absurd (true-false false h refl)
not_empty l (m ∷ c) h = ne_eqb (length (m ∷ c)) 0 (λ e. omega (arith, e))

-- the budget is spent
pub spent : (cnf : List (List ℕ)) (log : LogState) (trail : TrailState) (learnt left round polls polls' cancels cancels' budget : ℕ) → IsRunning cnf log trail learnt left round polls polls' cancels cancels' → learnt ≡ budget → IsSpent cnf budget log
spent cnf log trail learnt left round polls polls' cancels cancels' budget r all = record {
  log_of = r.log_of;
  whole = r.count ∙ ap (λ n. log.given + n) all;
  fresh = r.state.fresh;
  none_empty = none_any is_empty log.given log.clauses (λ k c h e. let f = r.state.fresh.each k c h e in not_empty f.literal c f.in_it);
}

pub spent_bounded : (cnf : List (List ℕ)) (log : LogState) (trail : TrailState) (learnt left round polls polls' cancels cancels' : ℕ) → IsRunning cnf log trail learnt left round polls polls' cancels cancels' → IsBounded round polls polls' log
spent_bounded cnf log trail learnt left round polls polls' cancels cancels' r h = let b = r.bounded h in omega (arith, b.1, r.count)

-- where unit propagation alone meets a false clause, no budget is spent
pub spent_no_conflict : (cnf : List (List ℕ)) (budget : ℕ) (log : LogState) → IsSpent cnf budget log → 1 ≤ budget → ConflictsAtOnce cnf → ⊥
spent_no_conflict cnf budget log is one conflict =
    let c = clause_there log.clauses log.given (omega (arith, is.whole, one)) in
    no_conflict cnf c.0 (subst (λ (cs : List (List ℕ)). IsFresh cs c.0) is.log_of.formula (is.fresh.each log.given c.0 (omega arith) c.1)) conflict

-- what holds anyway holds where there is an error
pub on_err : {T E P : Type 0} (r : Result T E) → P → OnErr r P
on_err (Ok x) p = tt
on_err (Err e) p = p
