-- A watch that gets another blocker.
use Rattle.std.proofs.Common.{◌≡◌, ◌≢◌, ℕ, zero, suc, ◌+◌, ◌<◌, ◌≤◌, Bool, true, false, List, [], ◌∷◌, length, set, get_or, Option, Some, None, slice_get, refl, sym, ap, subst, ◌∙◌, arith, ◌⊎◌, inl, inr, get_or-set_same, get_or-set_other}
use Rattle.std.proofs.lemmas.Bool.{cases_eq}
use Rattle.std.proofs.lemmas.List.{get_or_default}
use Rattle.std.proofs.lemmas.Option.{none-some, same_Some, slice_get_within, slice_get-get_or}
use Rattle.tcl_cnf.specs.Clause.{has}
use Rattle.tcl_trail.specs.declared.entry.Entry.{Entry}
use Rattle.tcl_trail.specs.declared.pair.Pair.{Pair}
use Rattle.tcl_trail.specs.declared.pair.Watch.{Watch}
use Rattle.tcl_trail.specs.Assigned.{AssignedState}
use Rattle.tcl_trail.specs.Watching.{WatchState, watches, numbers_of, listed, IsReblocked, BothSeen, IsWatching, IsHeld, AreVisited}
use Rattle.tcl_trail.specs.Visits.{IsOther, Visits, VisitKept}
use Rattle.tcl_trail.proofs.Facts.{get-set_same, get-set_other}
use Rattle.tcl_trail.proofs.Growth.{grown_same}
use Rattle.tcl_trail.proofs.Shifting.{set_there, set_other, numbers-set, numbers-length}
use Rattle.tcl_trail.proofs.TrailLemmas.{watching_lists}
use Rattle.tcl_trail.proofs.VisitLemmas.{other_in}

-- what stands at a place within
pub known_there : (cs : List (List ℕ)) (k : ℕ) → k < length cs → (c : List ℕ) × (slice_get cs k ≡ Some c)
known_there cs k h = (get_or cs k [], slice_get-get_or cs k [] h)

-- what stands there already
set_again : (xs : List ℕ) (i n : ℕ) → slice_get xs i ≡ Some n → set xs i n ≡ xs
set_again [] i n e = refl
set_again (x ∷ xs) zero n e = ap (λ t. t ∷ xs) (sym (same_Some x n e))
set_again (x ∷ xs) (suc i) n e = ap (λ t. x ∷ t) (set_again xs i n e)

pub reblocked_is : (old new : List (List Watch)) (l i : ℕ) (v : Watch) → slice_get (listed old l) i ≡ Some v.number → l < length old → new ≡ set old l (set (watches old l) i v) → IsReblocked old new v
reblocked_is old new l i v at h e =
    let there : watches new l ≡ set (watches old l) i v = ap (λ (x : List (List Watch)). watches x l) e ∙ set_there old l (set (watches old l) i v) h in
    let other : (m : ℕ) → (m ≡ l → ⊥) → watches new m ≡ watches old m = λ m d. ap (λ (x : List (List Watch)). watches x m) e ∙ set_other old l m (set (watches old l) i v) d in
    let within : i < length (watches old l) = omega (arith, slice_get_within (listed old l) i v.number at, numbers-length (watches old l)) in
    record {
      numbers = λ m. elim (cases_eq m l) [
        | inl s ↦ ap (listed new) s ∙ ap numbers_of there ∙ numbers-set (watches old l) i v ∙ set_again (listed old l) i v.number at ∙ ap (listed old) (sym s)
        | inr d ↦ ap numbers_of (other m d)
      ];
      each = λ m j w f. elim (cases_eq m l) [
        | inl s ↦
            let g : slice_get (set (watches old l) i v) j ≡ Some w = ap (λ (x : List Watch). slice_get x j) (sym there) ∙ ap (λ x. slice_get (watches new x) j) (sym s) ∙ f in
            elim (cases_eq i j) [
              | inl t ↦ inr (same_Some w v (sym g ∙ ap (slice_get (set (watches old l) i v)) (sym t) ∙ get-set_same (watches old l) i v within))
              | inr d ↦ inl (ap (λ x. slice_get (watches old x) j) s ∙ sym (get-set_other (watches old l) i j v d) ∙ g)
            ]
        | inr d ↦ inl (ap (λ (x : List Watch). slice_get x j) (sym (other m d)) ∙ f)
      ];
    }

pub reblocked_none : (old : List (List Watch)) (v : Watch) → IsReblocked old old v
reblocked_none old v = record { numbers = λ l. refl; each = λ l j w at. inl at }

-- all that is kept is kept
pub reblocked_visits : (clauses : List (List ℕ)) (a : AssignedState) (w w' : WatchState) (l k other : ℕ) (c : List ℕ) (p : Pair) → IsHeld clauses a → IsWatching clauses a.entries w → slice_get clauses k ≡ Some c → slice_get w.pairs k ≡ Some p → IsOther p l other
    → IsReblocked w.lists w'.lists (record { number = k; blocker = other }) → w' ≡ record w { lists = w'.lists } → Visits clauses a a w w'
reblocked_visits clauses a w w' l k other c p held watching there pair o r same =
    let head : w'.head ≡ w.head = ap (λ (x : WatchState). x.head) same in
    let in_it : has other c ≡ true = (other_in clauses w k l other c p watching.watched there pair o).0 in
    record {
      held = held;
      watching = watching_lists clauses a.entries w w' watching (λ m n h. ap (has n) (r.numbers m) ∙ h)
          (record {
            below = λ m j v at. elim (r.each m j v at) [
              | inl b ↦ watching.blocked.below m j v b
              | inr e ↦ subst (λ (x : Watch). x.number < length clauses) (sym e) (slice_get_within clauses k c there)
            ];
            in_it = λ m j v d at f. elim (r.each m j v at) [
              | inl b ↦ watching.blocked.in_it m j v d b f
              | inr e ↦
                  let same_clause : c ≡ d = same_Some c d (sym there ∙ ap (λ (x : Watch). slice_get clauses x.number) (sym e) ∙ f) in
                  ap (λ (x : Watch). has x.blocker d) e ∙ subst (λ (x : List ℕ). has other x ≡ true) same_clause in_it
            ];
          })
          (ap (λ (x : WatchState). x.pairs) same) (ap (λ (x : WatchState). x.shorts) same) (omega (arith, head));
      grown = grown_same a.entries;
      head = head;
    }

pub reblocked_kept : (clauses : List (List ℕ)) (a : AssignedState) (w w' : WatchState) (l i : ℕ) (v : Watch) → IsReblocked w.lists w'.lists v → w' ≡ record w { lists = w'.lists } → VisitKept clauses a w w l i → VisitKept clauses a w w' l i
reblocked_kept clauses a w w' l i v r same kept = record {
  visited = record {
    each = λ j n c q b at there s pair.
        subst (λ (h : ℕ). BothSeen a.entries (h + 1) c q) (sym (ap (λ (x : WatchState). x.head) same))
        (kept.visited.each j n c q b (ap (λ x. slice_get x j) (sym (r.numbers l)) ∙ at) there (ap (λ (x : WatchState). has n x.shorts) (sym same) ∙ s) (ap (λ (x : WatchState). slice_get x.pairs n) (sym same) ∙ pair));
  };
  count = ap length (r.numbers l);
}

pub reblocked_set : (old new : List (List Watch)) (l i : ℕ) (x v : List Watch) (w : Watch) → slice_get (listed old l) i ≡ Some w.number → l < length old → x ≡ get_or old l x → v ≡ set x i w → new ≡ set old l v → IsReblocked old new w
reblocked_set old new l i x v w at h r s e =
    let there : x ≡ watches old l = r ∙ get_or_default old l x [] h in
    reblocked_is old new l i w at h (e ∙ ap (set old l) (s ∙ ap (λ (y : List Watch). set y i w) there))
