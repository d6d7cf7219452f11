-- What a trail keeps through each change of its parts.
use Rattle.std.proofs.Common.{◌≡◌, ℕ, ◌+◌, ◌*◌, ◌/◌, ◌^◌, ◌<◌, ◌≤◌, max, Bool, true, false, List, [], ◌∷◌, ◌++◌, length, take, get_or, set, Option, Some, None, slice_get, refl, sym, ap, subst, ◌∙◌, arith, ◌⊎◌, inl, inr, length-append, length-set, get_or-set_same, get_or-set_other, ◌≢◌}
use Rattle.std.proofs.lemmas.Bool.{cases_Bool, cases_eq, cases_lt}
use Rattle.std.proofs.lemmas.List.{take_more, take_all, take-append-le}
use Rattle.std.proofs.lemmas.Option.{get_or_from_slice_get, slice_get_within, none-some}
use Rattle.tcl_cnf.specs.Literal.{neg}
use Rattle.tcl_cnf.specs.Clause.{has, IsClause}
use Rattle.tcl_cnf.proofs.Bools.{true-false}
use Rattle.tcl_cnf.proofs.Clauses.{are_clauses_push}
use Rattle.tcl_cnf.proofs.Entries.{get-last, get-append}
use Rattle.tcl_trail.specs.declared.entry.Entry.{Entry}
use Rattle.tcl_trail.specs.declared.pair.Pair.{Pair}
use Rattle.tcl_trail.specs.declared.pair.Watch.{Watch}
use Rattle.tcl_trail.specs.Assignment.{lits_of, up_to}
use Rattle.tcl_trail.specs.Trail.{TrailState, IsTrail, lit_variables, variable_count, IsEntry, HasGrown}
use Rattle.tcl_trail.specs.Assigned.{AssignedState}
use Rattle.tcl_trail.specs.Watching.{WatchState, watches, numbers_of, AreBlocked, listed, SameLists, MoreLists, IsCut, IsSeen, BothSeen, IsPaired, AreWatched, AreSeen, IsWatching, IsHeld, IsChosen, IsKept}
use Rattle.tcl_trail.proofs.Entries.{get_has, has_get, lits-append}
use Rattle.tcl_trail.proofs.Looks.{still, added}
use Rattle.tcl_trail.proofs.Trails.{trail_none, lit_counted, trail_more, trail_take, count-append, clause_counted, has_or}
use Rattle.tcl_trail.proofs.Seen.{front_more, seen_grown, seen_cut, seen_less, seen_clear, up_cut}

-- one clause more of the list
pub take_next : (cs : List (List ℕ)) (k : ℕ) (c : List ℕ) → slice_get cs k ≡ Some c → take (k + 1) cs ≡ take k cs ++ c ∷ []
take_next cs k c e = take_more cs k c (slice_get_within cs k c e) ∙ ap (λ d. take k cs ++ d ∷ []) (get_or_from_slice_get cs k c c e)

-- a trail with one clause more of the list
pub clauses_next : (cs : List (List ℕ)) (k : ℕ) (c : List ℕ) (old new : TrailState) → slice_get cs k ≡ Some c → old ≡ record { clauses = take k cs; entries = [] }
    → new ≡ record old { clauses = old.clauses ++ c ∷ [] } → new ≡ record { clauses = take (k + 1) cs; entries = [] }
clauses_next cs k c old new e f g =
    let more : TrailState → TrailState = λ m. record { clauses = m.clauses ++ c ∷ []; entries = m.entries } in
    let made : List (List ℕ) → TrailState = λ x. record { clauses = x; entries = [] } in
    g ∙ ap more f ∙ ap made (sym (take_next cs k c e))

-- a clause more
pub blocked_more : (clauses : List (List ℕ)) (c : List ℕ) (lists : List (List Watch)) → AreBlocked clauses lists → AreBlocked (clauses ++ c ∷ []) lists
blocked_more clauses c lists b = record {
  below = λ l j w at. omega (arith, b.below l j w at, length-append clauses (c ∷ []));
  in_it = λ l j w d at there. b.in_it l j w d at (sym (get-append clauses (c ∷ []) w.number (b.below l j w at)) ∙ there);
}

pub blocked_same : (clauses : List (List ℕ)) (old new : List (List Watch)) → SameLists old new → AreBlocked clauses old → AreBlocked clauses new
blocked_same clauses old new s b =
    let back : (l j : ℕ) → slice_get (watches new l) j ≡ slice_get (watches old l) j = λ l j. ap (λ (x : List Watch). slice_get x j) (s.at_each l) in
    record { below = λ l j w at. b.below l j w (sym (back l j) ∙ at); in_it = λ l j w c at there. b.in_it l j w c (sym (back l j) ∙ at) there }

paired_more : (old new : List (List Watch)) (k : ℕ) (c : List ℕ) (p : Pair) → ((l k : ℕ) → has k (listed old l) ≡ true → has k (listed new l) ≡ true) → IsPaired old k c p → IsPaired new k c p
paired_more old new k c p m i = record {
  first_in = i.first_in;
  second_in = i.second_in;
  apart = i.apart;
  first_listed = m p.first k i.first_listed;
  second_listed = m p.second k i.second_listed;
}

-- lists with more numbers, and fewer entries seen
pub watching_lists : (clauses : List (List ℕ)) (es : List Entry) (w w' : WatchState) → IsWatching clauses es w → ((l k : ℕ) → has k (listed w.lists l) ≡ true → has k (listed w'.lists l) ≡ true) → AreBlocked clauses w'.lists → w'.pairs ≡ w.pairs → w'.shorts ≡ w.shorts
    → w'.head ≤ w.head → IsWatching clauses es w'
watching_lists clauses es w w' i m blocked p s h =
    let short : (k : ℕ) → has k w'.shorts ≡ has k w.shorts = λ k. ap (has k) s in
    let pair : (k : ℕ) → slice_get w'.pairs k ≡ slice_get w.pairs k = λ k. ap (λ (x : List Pair). slice_get x k) p in
    record {
      watched = record {
        paired = λ k c q at t g. paired_more w.lists w'.lists k c q m (i.watched.paired k c q at (sym (short k) ∙ t) (sym (pair k) ∙ g));
        single = λ k q t g. i.watched.single k q (sym (short k) ∙ t) (sym (pair k) ∙ g);
        below = λ k t. i.watched.below k (sym (short k) ∙ t);
        counted = ap length p ∙ i.watched.counted;
      };
      seen = record {
        each = λ k c q at t g.
            let b = i.seen.each k c q at (sym (short k) ∙ t) (sym (pair k) ∙ g) in
            record { first = seen_less es w.head w'.head q.first c h b.first; second = seen_less es w.head w'.head q.second c h b.second };
      };
      within = omega (arith, i.within, h);
      blocked = blocked;
    }

pub same_more : (old new : List (List Watch)) → SameLists old new → (l k : ℕ) → has k (listed old l) ≡ true → has k (listed new l) ≡ true
same_more old new s l k t = ap (has k) (ap numbers_of (s.at_each l)) ∙ t

not_last : (clauses : List (List ℕ)) (k : ℕ) (c : List ℕ) → slice_get clauses k ≡ Some c → k ≡ length clauses → ⊥
not_last clauses k c at e = omega (arith, slice_get_within clauses k c at, e)

pub shorter : (x n m : ℕ) (ls : List ℕ) → n ≤ m → has x (take m ls) ≡ false → has x (take n ls) ≡ false
shorter x n m ls h f = elim (cases_Bool (has x (take n ls))) [ inl t ↦ absurd (true-false (has x (take m ls)) (front_more ls n m x h t) f) | inr g ↦ g ]

-- a clause more that is watched
pub watching_pair : (clauses : List (List ℕ)) (es : List Entry) (w w' : WatchState) (c : List ℕ) (p : Pair) (limit number : ℕ) → IsWatching clauses es w → IsChosen (lits_of es) c p limit → number ≡ length clauses → MoreLists w.lists w'.lists (record { number = number; blocker = p.second }) (record { number = number; blocker = p.first })
    → has number (listed w'.lists p.first) ≡ true → has number (listed w'.lists p.second) ≡ true → w'.pairs ≡ w.pairs ++ p ∷ [] → w'.shorts ≡ w.shorts → w'.head ≤ w.head → w'.head ≤ limit → IsWatching (clauses ++ c ∷ []) es w'
watching_pair clauses es w w' c p limit number i o n m f g e s h low =
    let short : (k : ℕ) → has k w'.shorts ≡ has k w.shorts = λ k. ap (has k) s in
    let which : (k : ℕ) (q : Pair) → slice_get w'.pairs k ≡ Some q → (slice_get w.pairs k ≡ Some q) ⊎ ((k ≡ length clauses) × (q ≡ p)) = λ k q t. elim (get-last w.pairs p k q (ap (λ (x : List Pair). slice_get x k) (sym e) ∙ t)) [
      | inl a ↦ inl a
      | inr b ↦ inr (b.0 ∙ i.watched.counted, b.1)
    ] in
    let within : (k : ℕ) (q : Pair) → slice_get w.pairs k ≡ Some q → k < length clauses = λ k q t. omega (arith, slice_get_within w.pairs k q t, i.watched.counted) in
    let one : IsPaired w'.lists number c p = record { first_in = o.first_in; second_in = o.second_in; apart = o.apart; first_listed = f; second_listed = g } in
    let first : IsSeen es w'.head c p.first = seen_clear es w'.head p.first c (shorter (neg p.first) w'.head limit (lits_of es) low o.first_clear) in
    let second : IsSeen es w'.head c p.second = seen_clear es w'.head p.second c (shorter (neg p.second) w'.head limit (lits_of es) low o.second_clear) in
    let both : BothSeen es w'.head c p = record { first = first; second = second } in
    let new_blocker : (v : Watch) (d : List ℕ) (b : ℕ) → v.number ≡ number → v.blocker ≡ b → has b c ≡ true → slice_get (clauses ++ c ∷ []) v.number ≡ Some d → has v.blocker d ≡ true = λ v d b x y t there. elim (get-last clauses c v.number d there) [
      | inl a ↦ absurd (not_last clauses v.number d a (x ∙ n))
      | inr a ↦ ap (λ z. has z d) y ∙ ap (has b) a.1 ∙ t
    ] in
    record {
      watched = record {
        paired = λ k d q at t x. elim (get-last clauses c k d at) [
          | inl a ↦ elim (which k q x) [
            | inl y ↦ paired_more w.lists w'.lists k d q m.kept (i.watched.paired k d q a (sym (short k) ∙ t) y)
            | inr y ↦ absurd (not_last clauses k d a y.0)
          ]
          | inr b ↦ elim (which k q x) [
            | inl y ↦ absurd (omega (arith, within k q y, b.0))
            | inr y ↦ subst (λ (z : ℕ). IsPaired w'.lists z d q) (n ∙ sym b.0) (subst (λ (z : List ℕ). IsPaired w'.lists number z q) (sym b.1) (subst (λ (z : Pair). IsPaired w'.lists number c z) (sym y.1) one))
          ]
        ];
        single = λ k q t x. elim (which k q x) [
          | inl y ↦ i.watched.single k q (sym (short k) ∙ t) y
          | inr y ↦ absurd (omega (arith, i.watched.below k (sym (short k) ∙ t), y.0))
        ];
        below = λ k t. omega (arith, i.watched.below k (sym (short k) ∙ t), length-append clauses (c ∷ []));
        counted = omega (arith, ap length e, length-append w.pairs (p ∷ []), length-append clauses (c ∷ []), i.watched.counted);
      };
      seen = record {
        each = λ k d q at t x. elim (get-last clauses c k d at) [
          | inl a ↦ elim (which k q x) [
            | inl y ↦
                let b = i.seen.each k d q a (sym (short k) ∙ t) y in
                record { first = seen_less es w.head w'.head q.first d h b.first; second = seen_less es w.head w'.head q.second d h b.second }
            | inr y ↦ absurd (not_last clauses k d a y.0)
          ]
          | inr b ↦ elim (which k q x) [
            | inl y ↦ absurd (omega (arith, within k q y, b.0))
            | inr y ↦ subst (λ (z : List ℕ). BothSeen es w'.head z q) (sym b.1) (subst (λ (z : Pair). BothSeen es w'.head c z) (sym y.1) both)
          ]
        ];
      };
      within = omega (arith, i.within, h);
      blocked = record {
        below = λ l j v at. elim (m.each l j v at) [
          | inl r ↦ omega (arith, i.blocked.below l r.0 v r.1, length-append clauses (c ∷ []))
          | inr r ↦ elim r [
            | inl e ↦ omega (arith, ap (λ (x : Watch). x.number) e, n, length-append clauses (c ∷ []))
            | inr e ↦ omega (arith, ap (λ (x : Watch). x.number) e, n, length-append clauses (c ∷ []))
          ]
        ];
        in_it = λ l j v d at there. elim (m.each l j v at) [
          | inl r ↦ (blocked_more clauses c w.lists i.blocked).in_it l r.0 v d r.1 there
          | inr r ↦ elim r [
            | inl e ↦ new_blocker v d p.second (ap (λ (x : Watch). x.number) e) (ap (λ (x : Watch). x.blocker) e) o.second_in there
            | inr e ↦ new_blocker v d p.first (ap (λ (x : Watch). x.number) e) (ap (λ (x : Watch). x.blocker) e) o.first_in there
          ]
        ];
      };
    }

-- a clause more that is not watched
pub watching_short : (clauses : List (List ℕ)) (es : List Entry) (w w' : WatchState) (c : List ℕ) (p : Pair) (number : ℕ) → IsWatching clauses es w → p.first ≡ p.second → number ≡ length clauses
    → w' ≡ record w { pairs = w.pairs ++ p ∷ []; shorts = w.shorts ++ number ∷ [] } → IsWatching (clauses ++ c ∷ []) es w'
watching_short clauses es w w' c p number i same n e =
    let old : (k : ℕ) → has k (w.shorts ++ number ∷ []) ≡ false → has k w.shorts ≡ false = λ k t. elim (cases_Bool (has k w.shorts)) [ inl y ↦ absurd (true-false (has k (w.shorts ++ number ∷ [])) (still k w.shorts number y) t) | inr y ↦ y ] in
    let which : (k : ℕ) (q : Pair) → slice_get (w.pairs ++ p ∷ []) k ≡ Some q → (slice_get w.pairs k ≡ Some q) ⊎ ((k ≡ length clauses) × (q ≡ p)) = λ k q t. elim (get-last w.pairs p k q t) [
      | inl a ↦ inl a
      | inr b ↦ inr (b.0 ∙ i.watched.counted, b.1)
    ] in
    let new : (k : ℕ) → k ≡ length clauses → has k (w.shorts ++ number ∷ []) ≡ true = λ k b. ap (λ x. has x (w.shorts ++ number ∷ [])) (b ∙ sym n) ∙ added w.shorts number in
    let all : IsWatching (clauses ++ c ∷ []) es (record w { pairs = w.pairs ++ p ∷ []; shorts = w.shorts ++ number ∷ [] }) = record {
      watched = record {
        paired = λ k d q at t x. elim (get-last clauses c k d at) [
          | inl a ↦ elim (which k q x) [
            | inl y ↦ i.watched.paired k d q a (old k t) y
            | inr y ↦ absurd (not_last clauses k d a y.0)
          ]
          | inr b ↦ absurd (true-false (has k (w.shorts ++ number ∷ [])) (new k b.0) t)
        ];
        single = λ k q t x. elim (which k q x) [
          | inl y ↦ elim (has_or k w.shorts number t) [
            | inl z ↦ i.watched.single k q z y
            | inr z ↦ absurd (omega (arith, slice_get_within w.pairs k q y, i.watched.counted, z, n))
          ]
          | inr y ↦ ap (λ (z : Pair). z.first) y.1 ∙ same ∙ sym (ap (λ (z : Pair). z.second) y.1)
        ];
        below = λ k t. elim (has_or k w.shorts number t) [
          | inl z ↦ omega (arith, i.watched.below k z, length-append clauses (c ∷ []))
          | inr z ↦ omega (arith, z, n, length-append clauses (c ∷ []))
        ];
        counted = omega (arith, length-append w.pairs (p ∷ []), length-append clauses (c ∷ []), i.watched.counted);
      };
      seen = record {
        each = λ k d q at t x. elim (get-last clauses c k d at) [
          | inl a ↦ elim (which k q x) [
            | inl y ↦ i.seen.each k d q a (old k t) y
            | inr y ↦ absurd (not_last clauses k d a y.0)
          ]
          | inr b ↦ absurd (true-false (has k (w.shorts ++ number ∷ [])) (new k b.0) t)
        ];
      };
      within = i.within;
      blocked = blocked_more clauses c w.lists i.blocked;
    } in
    subst (λ (x : WatchState). IsWatching (clauses ++ c ∷ []) es x) (sym e) all

-- the entries up to a level
pub watching_back : (clauses : List (List ℕ)) (es es' : List Entry) (level : ℕ) (w w' : WatchState) → IsWatching clauses es w → es' ≡ up_to level es → w' ≡ record w { head = w'.head } → w'.head ≤ w.head → w'.head ≤ length es' → IsWatching clauses es' w'
watching_back clauses es es' level w w' i e s h low =
    let cut = up_cut es level in
    let all : IsWatching clauses (take cut.0 es) (record w { head = w'.head }) = record {
      watched = record { paired = i.watched.paired; single = i.watched.single; below = i.watched.below; counted = i.watched.counted };
      seen = record {
        each = λ k c q at t x.
            let b = i.seen.each k c q at t x in
            record { first = seen_cut es cut.0 w.head w'.head q.first c cut.1 h b.first; second = seen_cut es cut.0 w.head w'.head q.second c cut.1 h b.second };
      };
      within = omega (arith, low, ap length (e ∙ sym cut.2));
      blocked = i.blocked;
    } in
    subst (λ (x : WatchState). IsWatching clauses es' x) (sym s) (subst (λ (x : List Entry). IsWatching clauses x (record w { head = w'.head })) (cut.2 ∙ sym e) all)

pub held_back : (clauses : List (List ℕ)) (a a' : AssignedState) (level : ℕ) → IsHeld clauses a → a' ≡ record a { entries = up_to level a.entries } → IsHeld clauses a'
held_back clauses a a' level i e =
    let cut = up_cut a.entries level in
    subst (λ (x : AssignedState). IsHeld clauses x) (sym e)
    (record { trail = subst (λ (x : List Entry). IsTrail clauses x) cut.2 (trail_take clauses cut.0 a.entries i.trail); are_clauses = i.are_clauses; counted = i.counted; narrow = i.narrow; few = i.few })

-- an entry more
pub watching_push : (clauses : List (List ℕ)) (es es' : List Entry) (e : Entry) (w : WatchState) → IsWatching clauses es w → es' ≡ es ++ e ∷ [] → IsWatching clauses es' w
watching_push clauses es es' e w i s =
    let front : take (length es) (es ++ e ∷ []) ≡ es = take-append-le (length es) es (e ∷ []) (omega arith) ∙ take_all (length es) es (omega arith) in
    subst (λ (x : List Entry). IsWatching clauses x w) (sym s)
    (record {
      watched = i.watched;
      seen = record {
        each = λ k c q at t x.
            let b = i.seen.each k c q at t x in
            record { first = seen_grown es (es ++ e ∷ []) w.head q.first c i.within front b.first; second = seen_grown es (es ++ e ∷ []) w.head q.second c i.within front b.second };
      };
      within = omega (arith, i.within, length-append es (e ∷ []));
      blocked = i.blocked;
    })

-- room for more variables
pub held_wider : (clauses : List (List ℕ)) (a a' : AssignedState) (n : ℕ) → IsHeld clauses a → n ≤ 2 ^ 31 → a' ≡ record a { variables = max a.variables n } → IsHeld clauses a'
held_wider clauses a a' n i h e =
    subst (λ (x : AssignedState). IsHeld clauses x) (sym e)
    (record { trail = i.trail; are_clauses = i.are_clauses; counted = omega (arith, i.counted); narrow = omega (arith, i.narrow, h); few = i.few })

-- a clause more
pub held_clause : (clauses : List (List ℕ)) (a : AssignedState) (c : List ℕ) (n : ℕ) → IsHeld clauses a → IsClause c → lit_variables c ≤ a.variables → length clauses + 1 < 2 ^ 32 → IsHeld (clauses ++ c ∷ []) a
held_clause clauses a c n i is h few = record {
  trail = trail_more clauses c a.entries i.trail;
  are_clauses = are_clauses_push clauses c i.are_clauses is;
  counted = omega (arith, i.counted, h, count-append clauses c);
  narrow = i.narrow;
  few = omega (arith, few, length-append clauses (c ∷ []));
}

pub kept_push : (clauses : List (List ℕ)) (a a' : AssignedState) (e : Entry) (w : WatchState) (n : ℕ) → IsKept clauses a w n → IsHeld clauses a' → a'.entries ≡ a.entries ++ e ∷ [] → IsKept clauses a' w n
kept_push clauses a a' e w n i h s = record { held = h; watching = watching_push clauses a.entries a'.entries e w i.watching s; counted = i.counted }

pub kept_back : (clauses : List (List ℕ)) (a a' : AssignedState) (level limit : ℕ) (w w' : WatchState) (n : ℕ) → IsKept clauses a w n → a' ≡ record a { entries = up_to level a.entries } → w' ≡ record w { head = w'.head } → w'.head ≤ w.head → w'.head ≤ limit → limit ≡ length a'.entries → IsKept clauses a' w' n
kept_back clauses a a' level limit w w' n i e s h low m = record {
  held = held_back clauses a a' level i.held e;
  watching = watching_back clauses a.entries a'.entries level w w' i.watching (ap (λ (x : AssignedState). x.entries) e) s h (omega (arith, low, m));
  counted = i.counted;
}

pub kept_wider : (clauses : List (List ℕ)) (a a' : AssignedState) (w w' : WatchState) (n m : ℕ) → IsKept clauses a w n → m ≤ 2 ^ 31 → a' ≡ record a { variables = max a.variables m } → SameLists w.lists w'.lists → w' ≡ record w { lists = w'.lists } → IsKept clauses a' w' n
kept_wider clauses a a' w w' n m i h e s f = record {
  held = held_wider clauses a a' m i.held h e;
  watching = subst (λ (x : List Entry). IsWatching clauses x w') (sym (ap (λ (x : AssignedState). x.entries) e))
      (watching_lists clauses a.entries w w' i.watching (same_more w.lists w'.lists s) (blocked_same clauses w.lists w'.lists s i.watching.blocked) (ap (λ (x : WatchState). x.pairs) f) (ap (λ (x : WatchState). x.shorts) f) (omega (arith, ap (λ (x : WatchState). x.head) f)));
  counted = i.counted;
}

pub kept_clause : (clauses clauses' : List (List ℕ)) (a : AssignedState) (w : WatchState) (c : List ℕ) (m n : ℕ) → IsHeld clauses a → IsWatching (clauses ++ c ∷ []) a.entries w → IsClause c → m ≤ a.variables → m ≡ max n (lit_variables c) → n ≡ variable_count clauses
    → length clauses + 1 < 2 ^ 32 → clauses' ≡ clauses ++ c ∷ [] → IsKept clauses' a w m
kept_clause clauses clauses' a w c m n held watching is h e k few s =
    subst (λ (x : List (List ℕ)). IsKept x a w m) (sym s)
    (record { held = held_clause clauses a c m held is (omega (arith, h, e)) few; watching = watching; counted = omega (arith, e, k, count-append clauses c) })

-- the variables of a clause have lists
pub clause_wide : (c : List ℕ) (m n len : ℕ) → m ≡ max n (lit_variables c) → 2 * m ≤ len → (l : ℕ) → has l c ≡ true → l < len
clause_wide c m n len e h l t = omega (arith, lit_counted c l t, e, h)

pub chosen_is : (trues c : List ℕ) (first second skip n m limit a b : ℕ) → has first c ≡ true → has second c ≡ true → (second ≡ skip → ⊥) → skip ≡ first → a ≡ neg first → b ≡ neg second → has a (take n trues) ≡ false → has b (take m trues) ≡ false
    → limit ≤ n → limit ≤ m → IsChosen trues c (record { first = first; second = second; from = 0 }) limit
chosen_is trues c first second skip n m limit a b i j d s p q f g h k = record {
  first_in = i;
  second_in = j;
  apart = λ e. d (sym e ∙ sym s);
  first_clear = ap (λ x. has x (take limit trues)) (sym p) ∙ shorter a limit n trues h f;
  second_clear = ap (λ x. has x (take limit trues)) (sym q) ∙ shorter b limit m trues k g;
}

-- before a clause is added, fewer entries count as seen, and it may stand in lists already
pub added_err : (clauses : List (List ℕ)) (es : List Entry) (w v w' : WatchState) → IsWatching clauses es w → v ≡ record w { head = v.head } → v.head ≤ w.head → w' ≡ v → IsWatching clauses es w'
added_err clauses es w v w' i e h f =
    let same : v.lists ≡ w.lists = ap (λ (x : WatchState). x.lists) e in
    subst (λ (x : WatchState). IsWatching clauses es x) (sym f)
    (watching_lists clauses es w v i (λ l k t. ap (λ (x : List (List Watch)). has k (listed x l)) same ∙ t) (subst (λ (x : List (List Watch)). AreBlocked clauses x) (sym same) i.blocked)
    (ap (λ (x : WatchState). x.pairs) e) (ap (λ (x : WatchState). x.shorts) e) h)

pub added_ok : (clauses : List (List ℕ)) (es : List Entry) (w v w' : WatchState) (c : List ℕ) (p : Pair) (limit number : ℕ) → IsWatching clauses es w → IsChosen (lits_of es) c p limit → number ≡ length clauses
    → v ≡ record w { head = v.head } → v.head ≤ w.head → v.head ≤ limit → MoreLists v.lists w'.lists (record { number = number; blocker = p.second }) (record { number = number; blocker = p.first }) → has number (listed w'.lists p.first) ≡ true → has number (listed w'.lists p.second) ≡ true
    → w' ≡ record v { lists = w'.lists; pairs = v.pairs ++ p ∷ [] } → IsWatching (clauses ++ c ∷ []) es w'
added_ok clauses es w v w' c p limit number i o n e h low m f g s =
    let same : w'.head ≡ v.head = ap (λ (x : WatchState). x.head) s in
    watching_pair clauses es w w' c p limit number i o n (subst (λ (x : List (List Watch)). MoreLists x w'.lists (record { number = number; blocker = p.second }) (record { number = number; blocker = p.first })) (ap (λ (x : WatchState). x.lists) e) m) f g
    (ap (λ (x : WatchState). x.pairs) s ∙ ap (λ (x : WatchState). x.pairs ++ p ∷ []) e) (ap (λ (x : WatchState). x.shorts) s ∙ ap (λ (x : WatchState). x.shorts) e) (omega (arith, h, same)) (omega (arith, low, same))

pub pushed_is : (clauses base new : List (List ℕ)) (x c : List ℕ) → new ≡ base ++ x ∷ [] → base ≡ clauses → x ≡ c → new ≡ clauses ++ c ∷ []
pushed_is clauses base new x c e f g = e ∙ ap (λ (y : List (List ℕ)). y ++ x ∷ []) f ∙ ap (λ (y : List ℕ). clauses ++ y ∷ []) g
