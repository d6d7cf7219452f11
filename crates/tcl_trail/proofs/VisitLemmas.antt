-- One clause that watches a literal which became false.
use Rattle.std.proofs.Common.{◌≡◌, ℕ, zero, suc, ◌+◌, ◌<◌, ◌≤◌, Bool, true, false, List, [], ◌∷◌, ◌++◌, length, take, set, Option, Some, None, slice_get, refl, sym, ap, subst, ◌∙◌, arith, ◌⊎◌, inl, inr, length-take, length-set, take-take}
use Rattle.std.proofs.lemmas.Bool.{cases_Bool, cases_eq, cases_lt}
use Rattle.std.proofs.lemmas.Option.{same_Some, none-some, slice_get_within}
use Rattle.tcl_cnf.specs.Literal.{neg}
use Rattle.tcl_cnf.specs.Clause.{has, without}
use Rattle.tcl_cnf.specs.Propagation.{is_false, IsQuiet, IsClosed}
use Rattle.tcl_cnf.proofs.Bools.{true-false}
use Rattle.tcl_cnf.proofs.Members.{neg-same, neg-neg}
use Rattle.tcl_cnf.proofs.Entries.{get-take, get-in_take}
use Rattle.tcl_cnf.proofs.Freshness.{false_each, each_false, in_without, from_without}
use Rattle.tcl_trail.specs.declared.entry.Entry.{Entry}
use Rattle.tcl_trail.specs.declared.pair.Pair.{Pair}
use Rattle.tcl_trail.specs.declared.pair.Watch.{Watch}
use Rattle.tcl_trail.specs.Assignment.{lits_of}
use Rattle.tcl_trail.specs.Trail.{HasGrown, IsFalseAt, IsEntry, TrailState}
use Rattle.tcl_trail.specs.Assigned.{AssignedState}
use Rattle.tcl_trail.specs.Watching.{WatchState, watches, listed, HasTrue, IsSeen, BothSeen, IsPaired, AreWatched, AreSeen, IsWatching, IsHeld, IsLastLevel, IsNext, AreVisited, IsFree, AreFalseBetween, IsRewatched}
use Rattle.tcl_trail.specs.Visits.{IsOther, HasNoOther, Visits, VisitKept, VisitMoved, IsGiven, GivesFalse, Drains}
use Rattle.tcl_trail.proofs.Entries.{has_get, get_has, get_in_front, has_front, lits-take, lits-append, length-lits, lits-get}
use Rattle.tcl_trail.proofs.Looks.{added}
use Rattle.tcl_trail.proofs.Trails.{consistent}
use Rattle.tcl_trail.proofs.Shifting.{numbers_at}
use Rattle.tcl_trail.proofs.Growth.{grown_same, grown_push, grown_trans}
use Rattle.tcl_trail.proofs.Facts.{get-set_same, get-set_other}
use Rattle.tcl_trail.proofs.Seen.{quiet_seen, seen_grown, seen_less, seen_clear, seen_pass, seen_true}

-- entries appended
pub both_grown : (es es' : List Entry) (head : ℕ) (c : List ℕ) (p : Pair) → head ≤ length es → HasGrown es es' → BothSeen es head c p → BothSeen es' head c p
both_grown es es' head c p h g s = record { first = seen_grown es es' head p.first c h g.kept s.first; second = seen_grown es es' head p.second c h g.kept s.second }

pub watching_grown : (clauses : List (List ℕ)) (es es' : List Entry) (w : WatchState) → HasGrown es es' → IsWatching clauses es w → IsWatching clauses es' w
watching_grown clauses es es' w g i = record {
  watched = i.watched;
  seen = record { each = λ k c p at s there. both_grown es es' w.head c p i.within g (i.seen.each k c p at s there) };
  within = omega (arith, i.within, g.longer);
  blocked = i.blocked;
}

pub next_within : (es : List Entry) (head l : ℕ) → IsNext es head l → head < length es
next_within es head l n = omega (arith, slice_get_within (lits_of es) head (neg l) n.there, length-lits es)

pub last_grown : (es es' : List Entry) (head : ℕ) → head < length es → HasGrown es es' → IsLastLevel es head → IsLastLevel es' head
last_grown es es' head h g n = record {
  reasons = λ k e above at. elim (cases_lt k (length es)) [
    | inl below ↦ n.reasons k e above (ap (λ (x : List Entry). slice_get x k) (sym g.kept) ∙ get-in_take (length es) es' k below ∙ at)
    | inr past ↦ g.reasons k e at past
  ];
}

pub next_grown : (es es' : List Entry) (head l : ℕ) → HasGrown es es' → IsNext es head l → IsNext es' head l
next_grown es es' head l g n =
    let below = next_within es head l n in
    record {
      there = sym (get-in_take (length es) (lits_of es') head below) ∙ ap (λ (x : List ℕ). slice_get x head) (sym (lits-take (length es) es') ∙ ap lits_of g.kept) ∙ n.there;
      last = last_grown es es' head below g n.last;
    }

pub visited_grown : (clauses : List (List ℕ)) (es es' : List Entry) (w : WatchState) (l i : ℕ) → HasGrown es es' → w.head < length es → AreVisited clauses w es l i → AreVisited clauses w es' l i
visited_grown clauses es es' w l i g h v = record { each = λ j k c p b at there s pair. both_grown es es' (w.head + 1) c p (omega (arith, h)) g (v.each j k c p b at there s pair) }

-- before the first clause of a list
pub visited_none : (clauses : List (List ℕ)) (w : WatchState) (es : List Entry) (l : ℕ) → AreVisited clauses w es l 0
visited_none clauses w es l = record { each = λ j k c p b. absurd (omega (arith, b)) }

-- one clause more has seen the entry
pub visited_more : (clauses : List (List ℕ)) (w : WatchState) (es : List Entry) (l i k : ℕ) → AreVisited clauses w es l i → slice_get (listed w.lists l) i ≡ Some k
    → ((c : List ℕ) (p : Pair) → slice_get clauses k ≡ Some c → has k w.shorts ≡ false → slice_get w.pairs k ≡ Some p → BothSeen es (w.head + 1) c p) → AreVisited clauses w es l (i + 1)
visited_more clauses w es l i k v at f = record {
  each = λ j n c p b there clause s pair. elim (cases_lt j i) [
    | inl below ↦ v.each j n c p below there clause s pair
    | inr above ↦
        let same : k ≡ n = same_Some k n (sym at ∙ ap (λ x. slice_get (listed w.lists l) x) (omega (arith, b, above)) ∙ there) in
        f c p (ap (slice_get clauses) same ∙ clause) (ap (λ x. has x w.shorts) same ∙ s) (ap (slice_get w.pairs) same ∙ pair)
  ];
}

-- nothing changes
pub visits_same : (clauses : List (List ℕ)) (a : AssignedState) (w : WatchState) → IsHeld clauses a → IsWatching clauses a.entries w → Visits clauses a a w w
visits_same clauses a w held watching = record { held = held; watching = watching; grown = grown_same a.entries; head = refl }

other_lit : (l m : ℕ) → (m ≡ l → ⊥) → neg l ≡ neg m → ⊥
other_lit l m d e = d (sym (neg-same l m e))

-- no clause of this number
pub kept_no_clause : (clauses : List (List ℕ)) (a : AssignedState) (w : WatchState) (l i k : ℕ) → AreVisited clauses w a.entries l i → slice_get (listed w.lists l) i ≡ Some k → length clauses ≤ k → VisitKept clauses a w w l i
kept_no_clause clauses a w l i k v at h = record {
  visited = visited_more clauses w a.entries l i k v at (λ c p there s pair. absurd (omega (arith, h, slice_get_within clauses k c there)));
  count = refl;
}

pub kept_no_pair : (clauses : List (List ℕ)) (a : AssignedState) (w : WatchState) (l i k : ℕ) → AreVisited clauses w a.entries l i → slice_get (listed w.lists l) i ≡ Some k → slice_get w.pairs k ≡ None → VisitKept clauses a w w l i
kept_no_pair clauses a w l i k v at h = record {
  visited = visited_more clauses w a.entries l i k v at (λ c p there s pair. absurd (none-some p (sym h ∙ pair)));
  count = refl;
}

-- the clause does not watch the literal, or none at all
pub kept_no_other : (clauses : List (List ℕ)) (a : AssignedState) (w : WatchState) (l i k : ℕ) (p : Pair) → IsWatching clauses a.entries w → IsNext a.entries w.head l → AreVisited clauses w a.entries l i → slice_get (listed w.lists l) i ≡ Some k
    → slice_get w.pairs k ≡ Some p → HasNoOther p l → VisitKept clauses a w w l i
kept_no_other clauses a w l i k p watching next v at pair none = record {
  visited = visited_more clauses w a.entries l i k v at (λ c q there s at_pair.
      let same : p ≡ q = same_Some p q (sym pair ∙ at_pair) in
      let seen : BothSeen a.entries w.head c p = watching.seen.each k c p there s pair in
      let paired = watching.watched.paired k c p there s pair in
      subst (λ (x : Pair). BothSeen a.entries (w.head + 1) c x) same (elim none [
        | inl e ↦ absurd (paired.apart e)
        | inr d ↦ record {
          first = seen_pass a.entries w.head p.first (neg l) c next.there (other_lit l p.first d.0) seen.first;
          second = seen_pass a.entries w.head p.second (neg l) c next.there (other_lit l p.second d.1) seen.second;
        }
      ]));
  count = refl;
}

-- a watching clause is not among the others
pub not_short : (clauses : List (List ℕ)) (w : WatchState) (k l other : ℕ) (p : Pair) → AreWatched clauses w → slice_get w.pairs k ≡ Some p → IsOther p l other → has k w.shorts ≡ false
not_short clauses w k l other p watched pair o = elim (cases_Bool (has k w.shorts)) [
  | inl t ↦
      let e = watched.single k p t pair in
      elim o.sides [
        | inl s ↦ absurd (o.apart (sym s.1 ∙ sym e ∙ s.0))
        | inr s ↦ absurd (o.apart (sym s.1 ∙ e ∙ s.0))
      ]
  | inr f ↦ f
]

-- the other watched literal is one of the clause
pub other_in : (clauses : List (List ℕ)) (w : WatchState) (k l other : ℕ) (c : List ℕ) (p : Pair) → AreWatched clauses w → slice_get clauses k ≡ Some c → slice_get w.pairs k ≡ Some p → IsOther p l other → (has other c ≡ true) × (has k (listed w.lists other) ≡ true)
other_in clauses w k l other c p watched there pair o =
    let paired = watched.paired k c p there (not_short clauses w k l other p watched pair o) pair in
    elim o.sides [
      | inl s ↦ (subst (λ (x : ℕ). has x c ≡ true) s.1 paired.second_in, subst (λ (x : ℕ). has k (listed w.lists x) ≡ true) s.1 paired.second_listed)
      | inr s ↦ (subst (λ (x : ℕ). has x c ≡ true) s.1 paired.first_in, subst (λ (x : ℕ). has k (listed w.lists x) ≡ true) s.1 paired.first_listed)
    ]

-- what the other watched literal has seen
other_seen : (es : List Entry) (head l other : ℕ) (c : List ℕ) (p : Pair) → IsOther p l other → BothSeen es head c p → IsSeen es head c other
other_seen es head l other c p o seen = elim o.sides [
  | inl s ↦ subst (λ (x : ℕ). IsSeen es head c x) s.1 seen.second
  | inr s ↦ subst (λ (x : ℕ). IsSeen es head c x) s.1 seen.first
]

both_next : (es : List Entry) (head l other : ℕ) (c : List ℕ) (p : Pair) → IsNext es head l → IsOther p l other → has other c ≡ true → has other (lits_of es) ≡ true → BothSeen es head c p → BothSeen es (head + 1) c p
both_next es head l other c p next o i t seen =
    let holds : HasTrue (lits_of es) c = record { lit = other; in_it = i; holds = t } in
    record { first = seen_true es head p.first c next.last holds seen.first; second = seen_true es head p.second c next.last holds seen.second }

-- the watch's other literal is true
pub kept_blocked : (clauses : List (List ℕ)) (a : AssignedState) (w : WatchState) (l i : ℕ) (v : Watch) → IsWatching clauses a.entries w → IsNext a.entries w.head l → AreVisited clauses w a.entries l i → slice_get (watches w.lists l) i ≡ Some v
    → has v.blocker (lits_of a.entries) ≡ true → VisitKept clauses a w w l i
kept_blocked clauses a w l i v watching next seen at t = record {
  visited = visited_more clauses w a.entries l i v.number seen (numbers_at (watches w.lists l) i v at) (λ c p there s pair.
      let holds : HasTrue (lits_of a.entries) c = record { lit = v.blocker; in_it = watching.blocked.in_it l i v c at there; holds = t } in
      let both = watching.seen.each v.number c p there s pair in
      record { first = seen_true a.entries w.head p.first c next.last holds both.first; second = seen_true a.entries w.head p.second c next.last holds both.second });
  count = refl;
}

-- the other watched literal is true
pub kept_true : (clauses : List (List ℕ)) (a : AssignedState) (w : WatchState) (l i k other : ℕ) (p : Pair) → IsWatching clauses a.entries w → IsNext a.entries w.head l → AreVisited clauses w a.entries l i → slice_get (listed w.lists l) i ≡ Some k
    → slice_get w.pairs k ≡ Some p → IsOther p l other → has other (lits_of a.entries) ≡ true → VisitKept clauses a w w l i
kept_true clauses a w l i k other p watching next v at pair o t = record {
  visited = visited_more clauses w a.entries l i k v at (λ c q there s at_pair.
      subst (λ (x : Pair). BothSeen a.entries (w.head + 1) c x) (same_Some p q (sym pair ∙ at_pair))
      (both_next a.entries w.head l other c p next o (other_in clauses w k l other c p watching.watched there pair o).0 t (watching.seen.each k c p there s pair)));
  count = refl;
}

not_front : (x n : ℕ) (ls : List ℕ) → has x ls ≡ false → has x (take n ls) ≡ false
not_front x n ls f = elim (cases_Bool (has x (take n ls))) [ inl t ↦ absurd (true-false (has x ls) (has_front n ls x t) f) | inr g ↦ g ]

-- the clause watches another literal that is not false
moved_both : (es : List Entry) (head l other lit from : ℕ) (c : List ℕ) (p : Pair) → IsOther p l other → IsFree (lits_of es) c other lit → BothSeen es head c p → BothSeen es head c (record { first = lit; second = other; from = from })
moved_both es head l other lit from c p o free seen = record { first = seen_clear es head lit c (not_front (neg lit) head (lits_of es) free.clear); second = other_seen es head l other c p o seen }

moved_next : (es : List Entry) (head l other lit from : ℕ) (c : List ℕ) (p : Pair) → IsNext es head l → IsOther p l other → IsFree (lits_of es) c other lit → BothSeen es head c p → BothSeen es (head + 1) c (record { first = lit; second = other; from = from })
moved_next es head l other lit from c p next o free seen = record {
  first = seen_clear es (head + 1) lit c (not_front (neg lit) (head + 1) (lits_of es) free.clear);
  second = seen_pass es head other (neg l) c next.there (other_lit l other o.apart) (other_seen es head l other c p o seen);
}

pub record MovedState (clauses : List (List ℕ)) (a : AssignedState) (w w' : WatchState) (l i : ℕ) : Type 0 where
  pub visits : Visits clauses a a w w'
  pub moved : VisitMoved clauses a w w' l i

-- a pair of the new watches is an old one, or the new one
which_pair : (w w' : WatchState) (k j : ℕ) (new q : Pair) → k < length w.pairs → w'.pairs ≡ set w.pairs k new → slice_get w'.pairs j ≡ Some q → ((j ≡ k) × (new ≡ q)) ⊎ ((k ≡ j → ⊥) × (slice_get w.pairs j ≡ Some q))
which_pair w w' k j new q h e at = elim (cases_eq k j) [
  | inl s ↦ inl (sym s, same_Some new q (sym (get-set_same w.pairs k new h) ∙ ap (slice_get (set w.pairs k new)) s ∙ ap (λ (x : List Pair). slice_get x j) (sym e) ∙ at))
  | inr d ↦ inr (d, sym (get-set_other w.pairs k j new d) ∙ ap (λ (x : List Pair). slice_get x j) (sym e) ∙ at)
]

pub moved_is : (clauses : List (List ℕ)) (a : AssignedState) (w w' : WatchState) (l i k other lit from : ℕ) (c : List ℕ) (p : Pair) → IsHeld clauses a → IsWatching clauses a.entries w → IsNext a.entries w.head l → AreVisited clauses w a.entries l i
    → slice_get clauses k ≡ Some c → slice_get w.pairs k ≡ Some p → IsOther p l other → IsFree (lits_of a.entries) c other lit
    → IsRewatched w w' l i k lit (record { first = lit; second = other; from = from }) → MovedState clauses a w w' l i
moved_is clauses a w w' l i k other lit from c p held watching next v there pair o free r =
    let new : Pair = record { first = lit; second = other; from = from } in
    let within = slice_get_within w.pairs k p pair in
    let in_it = other_in clauses w k l other c p watching.watched there pair o in
    let short = not_short clauses w k l other p watching.watched pair o in
    let old_short : (j : ℕ) → has j w'.shorts ≡ has j w.shorts = λ j. ap (has j) r.shorts in
    let seen = watching.seen.each k c p there short pair in
    let same_clause : (j : ℕ) (d : List ℕ) → j ≡ k → slice_get clauses j ≡ Some d → c ≡ d = λ j d e f. same_Some c d (sym there ∙ ap (slice_get clauses) (sym e) ∙ f) in
    let one : IsPaired w'.lists k c new = record {
      first_in = free.in_it;
      second_in = in_it.0;
      apart = free.apart;
      first_listed = r.shifted.got;
      second_listed = r.shifted.others other o.apart in_it.1;
    } in
    record {
      visits = record {
        held = held;
        watching = record {
          watched = record {
            paired = λ j d q f s g. elim (which_pair w w' k j new q within r.pairs g) [
              | inl e ↦ subst (λ (x : Pair). IsPaired w'.lists j d x) e.1 (subst (λ (x : List ℕ). IsPaired w'.lists j x new) (same_clause j d e.0 f) (subst (λ (x : ℕ). IsPaired w'.lists x c new) (sym e.0) one))
              | inr e ↦
                  let t = watching.watched.paired j d q f (sym (old_short j) ∙ s) e.1 in
                  record {
                    first_in = t.first_in;
                    second_in = t.second_in;
                    apart = t.apart;
                    first_listed = r.shifted.kept q.first j t.first_listed (λ x. e.0 (sym x));
                    second_listed = r.shifted.kept q.second j t.second_listed (λ x. e.0 (sym x));
                  }
            ];
            single = λ j q s g. elim (which_pair w w' k j new q within r.pairs g) [
              | inl e ↦ absurd (true-false (has k w.shorts) (ap (λ x. has x w.shorts) (sym e.0) ∙ sym (old_short j) ∙ s) short)
              | inr e ↦ watching.watched.single j q (sym (old_short j) ∙ s) e.1
            ];
            below = λ j s. watching.watched.below j (sym (old_short j) ∙ s);
            counted = ap length r.pairs ∙ length-set w.pairs k new ∙ watching.watched.counted;
          };
          seen = record {
            each = λ j d q f s g.
                subst (λ (x : ℕ). BothSeen a.entries x d q) (sym r.head)
                (elim (which_pair w w' k j new q within r.pairs g) [
                  | inl e ↦ subst (λ (x : Pair). BothSeen a.entries w.head d x) e.1 (subst (λ (x : List ℕ). BothSeen a.entries w.head x new) (same_clause j d e.0 f) (moved_both a.entries w.head l other lit from c p o free seen))
                  | inr e ↦ watching.seen.each j d q f (sym (old_short j) ∙ s) e.1
                ]);
          };
          within = omega (arith, r.head, watching.within);
          blocked = record {
            below = λ m j v at_new. elim (r.shifted.each m j v at_new) [
              | inl q ↦ watching.blocked.below m q.0 v q.1
              | inr e ↦ omega (arith, ap (λ (x : Watch). x.number) e, slice_get_within clauses k c there)
            ];
            in_it = λ m j v d at_new f. elim (r.shifted.each m j v at_new) [
              | inl q ↦ watching.blocked.in_it m q.0 v d q.1 f
              | inr e ↦ ap (λ (x : Watch). has x.blocker d) e ∙ ap (has other) (sym (same_clause v.number d (ap (λ (x : Watch). x.number) e) f)) ∙ in_it.0
            ];
          };
        };
        grown = grown_same a.entries;
        head = r.head;
      };
      moved = record {
        visited = record {
          each = λ j n d q b at f s g.
              subst (λ (x : ℕ). BothSeen a.entries (x + 1) d q) (sym r.head)
              (elim (which_pair w w' k n new q within r.pairs g) [
                | inl e ↦ subst (λ (x : Pair). BothSeen a.entries (w.head + 1) d x) e.1 (subst (λ (x : List ℕ). BothSeen a.entries (w.head + 1) x new) (same_clause n d e.0 f) (moved_next a.entries w.head l other lit from c p next o free seen))
                | inr e ↦ v.each j n d q b (sym (r.shifted.front j b) ∙ at) f (sym (old_short n) ∙ s) e.1
              ]);
        };
        count = r.shifted.shorter;
      };
    }

-- all literals but this one are false, looked at in two parts
pub round_false : (trues c : List ℕ) (other start : ℕ) → AreFalseBetween trues c other start (length c) → AreFalseBetween trues c other 0 start → is_false trues (without other c) ≡ true
round_false trues c other start behind before = each_false trues (without other c) (λ y i.
    let p = from_without other y c i in
    let at = has_get c y p.0 in
    elim (cases_lt at.0 start) [
      | inl below ↦ before.each at.0 y (omega arith) below at.1 p.1
      | inr above ↦ behind.each at.0 y above (slice_get_within c at.0 y at.1) at.1 p.1
    ])

-- all literals are false
pub all_false : (trues c : List ℕ) (other : ℕ) → is_false trues (without other c) ≡ true → has (neg other) trues ≡ true → is_false trues c ≡ true
all_false trues c other f g = each_false trues c (λ m h. elim (cases_eq m other) [
  | inl e ↦ subst (λ (x : ℕ). has (neg x) trues ≡ true) (sym e) g
  | inr d ↦ false_each trues (without other c) m f (in_without other m c h d)
])

-- all clauses that watch the literal have seen the entry
pub seen_next : (clauses : List (List ℕ)) (es : List Entry) (w : WatchState) (l i : ℕ) → IsWatching clauses es w → IsNext es w.head l → AreVisited clauses w es l i → length (listed w.lists l) ≤ i → AreSeen clauses w es (w.head + 1)
seen_next clauses es w l i watching next v h = record {
  each = λ k c p there s pair.
      let seen = watching.seen.each k c p there s pair in
      let paired = watching.watched.paired k c p there s pair in
      let found : has k (listed w.lists l) ≡ true → BothSeen es (w.head + 1) c p = λ t.
      let r = has_get (listed w.lists l) k t in
      v.each r.0 k c p (omega (arith, h, slice_get_within (listed w.lists l) r.0 k r.1)) r.1 there s pair in
      elim (cases_eq p.first l) [
        | inl e ↦ found (subst (λ (x : ℕ). has k (listed w.lists x) ≡ true) e paired.first_listed)
        | inr d ↦ elim (cases_eq p.second l) [
          | inl e ↦ found (subst (λ (x : ℕ). has k (listed w.lists x) ≡ true) e paired.second_listed)
          | inr f ↦ record {
            first = seen_pass es w.head p.first (neg l) c next.there (other_lit l p.first d) seen.first;
            second = seen_pass es w.head p.second (neg l) c next.there (other_lit l p.second f) seen.second;
          }
        ]
      ];
}

pub watching_next : (clauses : List (List ℕ)) (es : List Entry) (w w' : WatchState) (l i : ℕ) → IsWatching clauses es w → IsNext es w.head l → AreVisited clauses w es l i → length (listed w.lists l) ≤ i
    → w' ≡ record w { head = w.head + 1 } → IsWatching clauses es w'
watching_next clauses es w w' l i watching next v h e =
    subst (λ (x : WatchState). IsWatching clauses es x) (sym e)
    (record { watched = record { paired = watching.watched.paired; single = watching.watched.single; below = watching.watched.below; counted = watching.watched.counted }; seen = record { each = (seen_next clauses es w l i watching next v h).each }; within = omega (arith, next_within es w.head l next); blocked = watching.blocked })

-- the literal that became false is not one that is not false
pub next_apart : (es : List Entry) (head l m other : ℕ) (c : List ℕ) → IsNext es head l → IsFree (lits_of es) c other m → l ≡ m → ⊥
next_apart es head l m other c next free e =
    true-false (has (neg m) (lits_of es)) (subst (λ (x : ℕ). has (neg x) (lits_of es) ≡ true) e (get_has (lits_of es) head (neg l) next.there)) free.clear

pub given_is : (clauses : List (List ℕ)) (es : List Entry) (w : WatchState) (l k other : ℕ) (c lits : List ℕ) (p : Pair) → AreWatched clauses w → slice_get clauses k ≡ Some c → slice_get w.pairs k ≡ Some p → IsOther p l other → lits ≡ c
    → is_false (lits_of es) (without other lits) ≡ true → IsGiven clauses (lits_of es) k other
given_is clauses es w l k other c lits p watched there pair o same f = record {
  clause = c;
  there = there;
  in_it = (other_in clauses w k l other c p watched there pair o).0;
  others = ap (λ x. is_false (lits_of es) (without other x)) (sym same) ∙ f;
}

pub given_grown : (a a' : AssignedState) (l k : ℕ) → a'.entries ≡ a.entries ++ record { lit = l; reason = Some k } ∷ [] → HasGrown a.entries a'.entries
given_grown a a' l k e = subst (λ (x : List Entry). HasGrown a.entries x) (sym e) (grown_push a.entries (record { lit = l; reason = Some k }) k refl)

pub given_visits : (clauses : List (List ℕ)) (a a' : AssignedState) (w : WatchState) (l k : ℕ) → IsHeld clauses a' → IsWatching clauses a.entries w → a'.entries ≡ a.entries ++ record { lit = l; reason = Some k } ∷ [] → Visits clauses a a' w w
given_visits clauses a a' w l k held watching e = let g = given_grown a a' l k e in record { held = held; watching = watching_grown clauses a.entries a'.entries w g watching; grown = g; head = refl }

pub given_kept : (clauses : List (List ℕ)) (a a' : AssignedState) (w : WatchState) (l i k other : ℕ) (p : Pair) → IsWatching clauses a.entries w → IsNext a.entries w.head l → AreVisited clauses w a.entries l i → slice_get (listed w.lists l) i ≡ Some k
    → slice_get w.pairs k ≡ Some p → IsOther p l other → a'.entries ≡ a.entries ++ record { lit = other; reason = Some k } ∷ [] → VisitKept clauses a' w w l i
given_kept clauses a a' w l i k other p watching next v at pair o e =
    let g = given_grown a a' other k e in
    let t : has other (lits_of a'.entries) ≡ true = ap (λ (x : List Entry). has other (lits_of x)) e ∙ ap (has other) (lits-append a.entries (record { lit = other; reason = Some k } ∷ [])) ∙ added (lits_of a.entries) other in
    kept_true clauses a' w l i k other p (watching_grown clauses a.entries a'.entries w g watching) (next_grown a.entries a'.entries w.head l g next)
    (visited_grown clauses a.entries a'.entries w l i g (next_within a.entries w.head l next) v) at pair o t

pub gives_false : (clauses : List (List ℕ)) (a : AssignedState) (number l : ℕ) → IsGiven clauses (lits_of a.entries) number l → has (neg l) (lits_of a.entries) ≡ true → GivesFalse clauses a a number
gives_false clauses a number l g h = record { same = refl; falsified = record { clause = g.clause; there = g.there; falsified = all_false (lits_of a.entries) g.clause l g.others h } }

-- one round of visits after another
pub visits_trans : (clauses : List (List ℕ)) (a b c : AssignedState) (u v w : WatchState) → Visits clauses a b u v → Visits clauses b c v w → Visits clauses a c u w
visits_trans clauses a b c u v w f g = record { held = g.held; watching = g.watching; grown = grown_trans a.entries b.entries c.entries f.grown g.grown; head = g.head ∙ f.head }

pub next_kept : (clauses : List (List ℕ)) (a b : AssignedState) (v w : WatchState) (l : ℕ) → Visits clauses a b v w → IsNext a.entries v.head l → IsNext b.entries w.head l
next_kept clauses a b v w l g n = subst (λ (x : ℕ). IsNext b.entries x l) (sym g.head) (next_grown a.entries b.entries v.head l g.grown n)

pub drains_of : (clauses : List (List ℕ)) (a b : AssignedState) (v w : WatchState) → Visits clauses a b v w → Drains clauses a b w
drains_of clauses a b v w g = record { held = g.held; watching = g.watching; grown = g.grown }

pub drains_trans : (clauses : List (List ℕ)) (a b c : AssignedState) (v w : WatchState) → Drains clauses a b v → Drains clauses b c w → Drains clauses a c w
drains_trans clauses a b c v w f g = record { held = g.held; watching = g.watching; grown = grown_trans a.entries b.entries c.entries f.grown g.grown }

pub drains_none : (clauses : List (List ℕ)) (a : AssignedState) (w : WatchState) → IsHeld clauses a → IsWatching clauses a.entries w → Drains clauses a a w
drains_none clauses a w held watching = record { held = held; watching = watching; grown = grown_same a.entries }

-- all clauses of the list are visited
pub drains_next : (clauses : List (List ℕ)) (a b : AssignedState) (u v w : WatchState) (l i : ℕ) → Visits clauses a b u v → IsNext b.entries v.head l → AreVisited clauses v b.entries l i → length (listed v.lists l) ≤ i
    → w ≡ record v { head = v.head + 1 } → Drains clauses a b w
drains_next clauses a b u v w l i g n visited h e = record { held = g.held; watching = watching_next clauses b.entries v w l i g.watching n visited h e; grown = g.grown }

pub last_next : (es es' : List Entry) (head head' : ℕ) → HasGrown es es' → head < length es → head' ≡ head + 1 → IsLastLevel es head → IsLastLevel es' head'
last_next es es' head head' g h e last = let t = last_grown es es' head h g last in record { reasons = λ k d above at. t.reasons k d (omega (arith, above, e)) at }

-- the entry that is next to be seen
pub next_is : (es : List Entry) (head l : ℕ) (e : Entry) → slice_get es head ≡ Some e → l ≡ neg e.lit → IsLastLevel es head → IsNext es head l
next_is es head l e at s last = record { there = lits-get es head e at ∙ ap (λ t. Some t) (sym (ap neg s ∙ neg-neg e.lit)); last = last }

-- no clause is false or unit where all entries are seen
pub closed_seen : (clauses : List (List ℕ)) (a : AssignedState) (w : WatchState) → IsHeld clauses a → IsWatching clauses a.entries w → length a.entries ≤ w.head
    → ((k : ℕ) (c : List ℕ) → slice_get clauses k ≡ Some c → has k w.shorts ≡ true → IsQuiet (lits_of a.entries) c) → IsClosed clauses (lits_of a.entries)
closed_seen clauses a w held watching h shorts k c at = elim (cases_Bool (has k w.shorts)) [
  | inl t ↦ shorts k c at t
  | inr f ↦
      let r = pair_there w.pairs k (omega (arith, slice_get_within clauses k c at, watching.watched.counted)) in
      let seen = watching.seen.each k c r.0 at f r.1 in
      let paired = watching.watched.paired k c r.0 at f r.1 in
      quiet_seen a.entries w.head r.0.first r.0.second c (consistent clauses a.entries held.trail) h paired.first_in paired.second_in paired.apart seen.first seen.second
] where
  pair_there : (ps : List Pair) (k : ℕ) → k < length ps → (p : Pair) × (slice_get ps k ≡ Some p)
  pair_there [] k h = absurd (omega (arith, h))
  pair_there (p ∷ ps) zero h = (p, refl)
  pair_there (p ∷ ps) (suc k) h = pair_there ps k (omega (arith, h))
