-- Resolution with the reasons of a trail: the clash is single, and what is derived stays false.
use Rattle.std.proofs.Common.{◌≡◌, ℕ, zero, suc, ◌+◌, ◌<◌, ◌≤◌, Bool, true, false, ◌||◌, eqb, List, [], ◌∷◌, ◌++◌, length, take, Option, Some, None, is_some, not, slice_get, refl, sym, ap, subst, ◌∙◌, arith, ◌⊎◌, inl, inr}
use Rattle.std.proofs.lemmas.Bool.{cases_Bool, cases_eq, cases_order, or_cases, and_parts, and_from, or_left, eq-eqb, eqb-true}
use Rattle.std.proofs.lemmas.List.{take_all}
use Rattle.std.proofs.lemmas.Option.{same_Some, none-some, slice_get_within}
use Rattle.tcl_cnf.specs.Literal.{neg}
use Rattle.tcl_cnf.specs.Clause.{has, without, union, IsClause, AreClauses}
use Rattle.tcl_cnf.specs.Resolution.{clashes, join, join_step, chain_of}
use Rattle.tcl_cnf.specs.Propagation.{is_false, IsClosed, IsFresh}
use Rattle.tcl_cnf.proofs.Bools.{true-false, same_bool, or-false}
use Rattle.tcl_cnf.proofs.Members.{neg-neg, has-union}
use Rattle.tcl_cnf.proofs.Ordered.{same_increasing, increasing-filter}
use Rattle.tcl_cnf.proofs.Freshness.{false_each, each_false, in_without, from_without, fresh_from}
use Rattle.tcl_cnf.proofs.Joins.{has-clashes, join_is, join_clause}
use Rattle.tcl_cnf.proofs.Chains.{chain_from-push}
use Rattle.tcl_trail.specs.declared.entry.Entry.{Entry}
use Rattle.tcl_trail.specs.Assignment.{lits_of, reason_of}
use Rattle.tcl_trail.specs.Trail.{IsTrail, IsReason, IsUnitAt, IsFalseAt}
use Rattle.tcl_trail.proofs.Looks.{IsConsistent}
use Rattle.tcl_trail.proofs.Trails.{consistent}
use Rattle.tcl_trail.proofs.Entries.{entry_at, get_in_front, has_front, length-lits}
use Rattle.tcl_trail.proofs.LevelLemmas.{reason_here, reason_behind}
use Rattle.tcl_sat.specs.State.{WasQuiet}
use Rattle.tcl_sat.specs.Analysis.{IsFloor, AreGiven, DerivationState, IsDerived, IsPresent, IsPoint}
use Rattle.tcl_sat.proofs.Prefixes.{front_more, false_more, false_whole, not_false, front_last}

-- the reason of a true literal clashes with a false clause that has its negation at this literal alone
pub one_clash : (trues before c d : List ℕ) (l : ℕ) → IsConsistent trues → ((x : ℕ) → has x before ≡ true → has x trues ≡ true) → IsClause c → is_false trues c ≡ true
    → has (neg l) c ≡ true → has l d ≡ true → is_false before (without l d) ≡ true → clashes c d ≡ neg l ∷ []
one_clash trues before c d l ok in_all is falsified in_c in_d others =
    same_increasing (clashes c d) (neg l ∷ []) (increasing-filter (λ m. has (neg m) d) c is.increasing) ((λ m e. absurd (true-false false e refl)), tt)
    (λ x. same_bool (has x (clashes c d)) (has x (neg l ∷ [])) (there x) (back x)) where
      there : (x : ℕ) → has x (clashes c d) ≡ true → has x (neg l ∷ []) ≡ true
      there x h =
          let p = and_parts (has (neg x) d) (has x c) (sym (has-clashes x c d) ∙ h) in
          elim (cases_eq (neg l) x) [
            | inl e ↦ ap (λ b. b || false) (eq-eqb (neg l) x e)
            | inr n ↦ absurd (true-false (has (neg x) trues) (false_each trues c x falsified p.1) (ok.apart x (in_all x
                (subst (λ (t : ℕ). has t before ≡ true) (neg-neg x)
                (false_each before (without l d) (neg x) others (in_without l (neg x) d p.0 (λ s. n (sym (ap neg s) ∙ neg-neg x))))))))
          ]

      back : (x : ℕ) → has x (neg l ∷ []) ≡ true → has x (clashes c d) ≡ true
      back x h =
          let e : neg l ≡ x = eqb-true (neg l) x (sym (or-false (eqb (neg l) x)) ∙ h) in
          subst (λ (t : ℕ). has t (clashes c d) ≡ true) e
          (has-clashes (neg l) c d ∙ and_from (has (neg (neg l)) d) (has (neg l) c) (subst (λ (t : ℕ). has t d ≡ true) (sym (neg-neg l)) in_d) in_c)

-- what resolving with the reason of a true literal gives
pub record IsNext (clauses : List (List ℕ)) (c before : List ℕ) (l : ℕ) (d : DerivationState) : Type 0 where
  pub made : chain_of clauses d.chain ≡ Some d.clause
  pub is : IsClause d.clause
  pub from : (y : ℕ) → has y d.clause ≡ true → ((has y c ≡ true) × (y ≡ neg l → ⊥)) ⊎ (has (neg y) before ≡ true)
  pub still : (y : ℕ) → has y c ≡ true → (y ≡ neg l → ⊥) → has y d.clause ≡ true

chain_more : (clauses : List (List ℕ)) (chain c d next : List ℕ) (r : ℕ) → chain_of clauses chain ≡ Some c → slice_get clauses r ≡ Some d → join c d ≡ Some next → chain_of clauses (chain ++ r ∷ []) ≡ Some next
unfolding chain_of
chain_more clauses [] c d next r h e j = absurd (none-some c h)
chain_more clauses (k ∷ ks) c d next r h e j =
    chain_from-push clauses (slice_get clauses k) ks r ∙ ap (λ o. join_step o (slice_get clauses r)) h ∙ ap (λ o. join_step (Some c) o) e ∙ j

-- one step of a derivation
pub next_step : (clauses : List (List ℕ)) (es : List Entry) (old new : DerivationState) (d : List ℕ) (n p l r : ℕ) → IsTrail clauses es → AreClauses clauses → IsDerived clauses es old n
    → has (neg l) old.clause ≡ true → IsUnitAt clauses (take p (lits_of es)) l r → slice_get clauses r ≡ Some d
    → new ≡ record { chain = old.chain ++ r ∷ []; clause = union (without (neg l) old.clause) (without l d) }
    → IsNext clauses old.clause (take p (lits_of es)) l new
next_step clauses es old new d n p l r trail all derived in_c unit there made =
    let before = take p (lits_of es) in
    let c = old.clause in
    let next = union (without (neg l) c) (without l d) in
    let same : unit.clause ≡ d = same_Some unit.clause d (sym unit.there ∙ there) in
    let in_d : has l d ≡ true = subst (λ (t : List ℕ). has l t ≡ true) same unit.in_it in
    let others : is_false before (without l d) ≡ true = subst (λ (t : List ℕ). is_false before (without l t) ≡ true) same unit.others in
    let falsified = false_whole (lits_of es) c n derived.before in
    let clash = one_clash (lits_of es) before c d l (consistent clauses es trail) (λ x. has_front p (lits_of es) x) derived.is falsified in_c in_d others in
    let joined : join c d ≡ Some next = join_is c d (neg l) clash ∙ ap (λ t. Some (union (without (neg l) c) (without t d))) (neg-neg l) in
    let all_in : IsNext clauses c before l (record { chain = old.chain ++ r ∷ []; clause = next }) = record {
      made = chain_more clauses old.chain c d next r derived.made there joined;
      is = join_clause c d next derived.is (all.each r d there) joined;
      from = λ y h. elim (or_cases (has y (without (neg l) c)) (has y (without l d)) (sym (has-union y (without (neg l) c) (without l d)) ∙ h)) [
        | inl a ↦ inl (from_without (neg l) y c a)
        | inr b ↦ inr (false_each before (without l d) y others b)
      ];
      still = λ y h i. has-union y (without (neg l) c) (without l d) ∙ or_left (has y (without (neg l) c)) (has y (without l d)) (in_without (neg l) y c h i);
    } in
    subst (λ (x : DerivationState). IsNext clauses c before l x) (sym made) all_in

pub reason_at : (es : List Entry) (p : ℕ) (e : Entry) → slice_get es p ≡ Some e → has e.lit (take p (lits_of es)) ≡ false → reason_of e.lit es ≡ e.reason
reason_at [] p e h f = absurd (none-some e h)
reason_at (x ∷ es) zero e h f =
    let same = same_Some x e h in
    reason_here e.lit x es (ap (λ (t : Entry). t.lit) same) ∙ ap (λ (t : Entry). t.reason) same
reason_at (x ∷ es) (suc p) e h f =
    elim (cases_Bool (eqb x.lit e.lit)) [
      | inl s ↦ absurd (true-false true refl (sym (ap (λ b. b || has e.lit (take p (lits_of es))) s) ∙ f))
      | inr n ↦ reason_behind e.lit x es (λ s. true-false (eqb x.lit e.lit) (eq-eqb x.lit e.lit s) n) ∙ reason_at es p e h (sym (ap (λ b. b || has e.lit (take p (lits_of es))) n) ∙ f)
    ]

-- the entry of a literal at a place, with the reason that is read
pub record IsAt (clauses : List (List ℕ)) (es : List Entry) (p l : ℕ) (reason : Option ℕ) : Type 0 where
  pub entry : Entry
  pub there : slice_get es p ≡ Some entry
  pub of : entry.lit ≡ l
  pub read : entry.reason ≡ reason
  pub why : IsReason clauses (take p (lits_of es)) l reason

pub read_at : (clauses : List (List ℕ)) (es : List Entry) (p l : ℕ) (reason : Option ℕ) → IsTrail clauses es → slice_get (lits_of es) p ≡ Some l → reason ≡ reason_of l es → IsAt clauses es p l reason
read_at clauses es p l reason trail h r =
    let e = entry_at es p l h in
    let one = trail.each p e.0 e.1 in
    let read : e.0.reason ≡ reason = sym (reason_at es p e.0 e.1 one.fresh) ∙ ap (λ x. reason_of x es) e.2 ∙ sym r in
    record {
      entry = e.0;
      there = e.1;
      of = e.2;
      read = read;
      why = subst (λ (x : Option ℕ). IsReason clauses (take p (lits_of es)) l x) read (subst (λ (x : ℕ). IsReason clauses (take p (lits_of es)) x e.0.reason) e.2 one.why);
    }

-- a literal with a reason that is read has the clause of this number
pub unit_at : (clauses : List (List ℕ)) (es : List Entry) (p l r : ℕ) (reason : Option ℕ) → IsTrail clauses es → slice_get (lits_of es) p ≡ Some l → reason ≡ reason_of l es → reason ≡ Some r
    → IsUnitAt clauses (take p (lits_of es)) l r
unit_at clauses es p l r reason trail h e s = subst (λ (x : Option ℕ). IsReason clauses (take p (lits_of es)) l x) s (read_at clauses es p l reason trail h e).why

pub number_below : (clauses : List (List ℕ)) (es : List Entry) (p l r : ℕ) (reason : Option ℕ) → IsTrail clauses es → slice_get (lits_of es) p ≡ Some l → reason ≡ reason_of l es → reason ≡ Some r
    → r < length clauses
number_below clauses es p l r reason trail h e s = let u = unit_at clauses es p l r reason trail h e s in slice_get_within clauses r u.clause u.there

-- without its literal at the last place a clause is false before that place
pub others_before : (es : List Entry) (c : List ℕ) (p l : ℕ) → slice_get (lits_of es) p ≡ Some l → is_false (take (p + 1) (lits_of es)) c ≡ true
    → (y : ℕ) → has y c ≡ true → (y ≡ neg l → ⊥) → has (neg y) (take p (lits_of es)) ≡ true
others_before es c p l h f y i n = elim (front_last (lits_of es) p l (neg y) h (false_each (take (p + 1) (lits_of es)) c y f i)) [
  | inl t ↦ t
  | inr e ↦ absurd (n (sym (neg-neg y) ∙ sym (ap neg e)))
]

-- a clause without the literal at the last place is false before it
pub skipped : (clauses : List (List ℕ)) (es : List Entry) (d : DerivationState) (p l : ℕ) → slice_get (lits_of es) p ≡ Some l → IsDerived clauses es d (p + 1) → has (neg l) d.clause ≡ false → IsDerived clauses es d p
skipped clauses es d p l h derived out = record {
  made = derived.made;
  is = derived.is;
  before = each_false (take p (lits_of es)) d.clause
      (λ y i. others_before es d.clause p l h derived.before y i (λ e. true-false (has (neg l) d.clause) (subst (λ (t : ℕ). has t d.clause ≡ true) e i) out));
}

-- resolved at the last place
pub stepped : (clauses : List (List ℕ)) (es : List Entry) (old new : DerivationState) (p l : ℕ) → slice_get (lits_of es) p ≡ Some l → IsDerived clauses es old (p + 1)
    → IsNext clauses old.clause (take p (lits_of es)) l new → IsDerived clauses es new p
stepped clauses es old new p l h derived next = record {
  made = next.made;
  is = next.is;
  before = each_false (take p (lits_of es)) new.clause (λ y i. elim (next.from y i) [
    | inl a ↦ others_before es old.clause p l h derived.before y a.0 a.1
    | inr b ↦ b
  ]);
}

-- something above the floor stays in the clause
pub still_above : (clauses : List (List ℕ)) (es : List Entry) (old new : DerivationState) (floor p l : ℕ) → IsNext clauses old.clause (take p (lits_of es)) l new
    → is_false (take floor (lits_of es)) (without (neg l) old.clause) ≡ false → is_false (take floor (lits_of es)) new.clause ≡ false
still_above clauses es old new floor p l next open' =
    let w = not_false (take floor (lits_of es)) (without (neg l) old.clause) open' in
    let p = from_without (neg l) w.0 old.clause w.1 in
    elim (cases_Bool (is_false (take floor (lits_of es)) new.clause)) [
      | inr e ↦ e
      | inl e ↦ absurd (true-false (has (neg w.0) (take floor (lits_of es))) (false_each (take floor (lits_of es)) new.clause w.0 e (next.still w.0 p.0 p.1)) w.2)
    ]

-- where the walk meets the floor, the clause is one with a single literal above it
pub floor_below : (es : List Entry) (c : List ℕ) (floor p l : ℕ) → slice_get (lits_of es) p ≡ Some l → is_false (take (p + 1) (lits_of es)) c ≡ true
    → is_false (take floor (lits_of es)) (without (neg l) c) ≡ false → floor ≤ p → floor < p
floor_below es c floor p l h f open' le = elim (cases_order floor p) [
  | inl same ↦ absurd (true-false (is_false (take floor (lits_of es)) (without (neg l) c))
      (each_false (take floor (lits_of es)) (without (neg l) c) (λ y i.
      let q = from_without (neg l) y c i in
      subst (λ (n : ℕ). has (neg y) (take n (lits_of es)) ≡ true) (sym same) (others_before es c p l h f y q.0 q.1))) open')
  | inr rest ↦ elim rest [ inl below ↦ below | inr above ↦ absurd (omega (arith, above, le)) ]
]

-- a clause that is false in the whole trail with one literal above the floor
pub pointed : (clauses : List (List ℕ)) (es : List Entry) (d : DerivationState) (floor p l : ℕ) → IsPresent clauses es d floor (p + 1) → has (neg l) d.clause ≡ true
    → is_false (take floor (lits_of es)) (without (neg l) d.clause) ≡ true → IsPoint clauses es d floor (neg l)
pointed clauses es d floor p l present in_c below = record {
  derived = record {
    made = present.derived.made;
    is = present.derived.is;
    before = subst (λ (ls : List ℕ). is_false ls d.clause ≡ true) (sym (take_all (length es) (lits_of es) (omega (arith, length-lits es))))
        (false_whole (lits_of es) d.clause (p + 1) present.derived.before);
  };
  in_it = in_c;
  clear = elim (cases_Bool (has (neg (neg l)) (take floor (lits_of es)))) [
    | inr e ↦ e
    | inl e ↦ absurd (true-false (is_false (take floor (lits_of es)) d.clause) (each_false (take floor (lits_of es)) d.clause (λ y i. elim (cases_eq y (neg l)) [
      | inl s ↦ subst (λ (t : ℕ). has (neg t) (take floor (lits_of es)) ≡ true) (sym s) e
      | inr n ↦ false_each (take floor (lits_of es)) (without (neg l) d.clause) y below (in_without (neg l) y d.clause i n)
    ])) present.above)
  ];
  others = below;
}

-- a literal below the floor that is resolved away by its reason leaves such a clause
pub dropped : (clauses : List (List ℕ)) (es : List Entry) (old new : DerivationState) (floor p l u : ℕ) → p ≤ floor → (u ≡ neg l → ⊥) → IsPoint clauses es old floor u
    → IsNext clauses old.clause (take p (lits_of es)) l new → IsPoint clauses es new floor u
dropped clauses es old new floor p l u le apart point next = record {
  derived = record {
    made = next.made;
    is = next.is;
    before = each_false (take (length es) (lits_of es)) new.clause (λ y i. elim (next.from y i) [
      | inl a ↦ false_each (take (length es) (lits_of es)) old.clause y point.derived.before a.0
      | inr b ↦ subst (λ (ls : List ℕ). has (neg y) ls ≡ true) (sym (take_all (length es) (lits_of es) (omega (arith, length-lits es)))) (has_front p (lits_of es) (neg y) b)
    ]);
  };
  in_it = next.still u point.in_it apart;
  clear = point.clear;
  others = each_false (take floor (lits_of es)) (without u new.clause) (λ y i.
      let q = from_without u y new.clause i in
      elim (next.from y q.0) [
        | inl a ↦ false_each (take floor (lits_of es)) (without u old.clause) y point.others (in_without u y old.clause a.0 q.1)
        | inr b ↦ front_more (lits_of es) p floor (neg y) le b
      ]);
}

-- the closed front below the floor
pub floor_closed : (clauses : List (List ℕ)) (es : List Entry) (floor : ℕ) → WasQuiet clauses es → IsFloor es floor → IsClosed clauses (take floor (lits_of es))
floor_closed clauses es floor quiet is =
    let e = there es floor is.below in
    quiet.each floor e.0 e.1 (is.assumed e.0 e.1) where
      there : (xs : List Entry) (k : ℕ) → k < length xs → (e : Entry) × (slice_get xs k ≡ Some e)
      there [] k h = absurd (omega (arith, h))
      there (x ∷ xs) zero h = (x, refl)
      there (x ∷ xs) (suc k) h = there xs k (omega (arith, h))

-- the learnt clause is fresh
pub point_fresh : (clauses : List (List ℕ)) (es : List Entry) (d : DerivationState) (floor u : ℕ) → IsTrail clauses es → IsClosed clauses (take floor (lits_of es)) → IsPoint clauses es d floor u → IsFresh clauses d.clause
point_fresh clauses es d floor u trail closed point =
    let trues = lits_of es in
    let out : has u (take floor trues) ≡ false = elim (cases_Bool (has u (take floor trues))) [
      | inr e ↦ e
      | inl e ↦ absurd (true-false (has (neg u) trues) (false_each trues d.clause u (false_whole trues d.clause (length es) point.derived.before) point.in_it)
          ((consistent clauses es trail).apart u (has_front floor trues u e)))
    ] in
    fresh_from clauses (take floor trues) d.clause u closed point.in_it out point.others

-- the false clause at the start of a derivation
pub started : (clauses : List (List ℕ)) (es : List Entry) (d : DerivationState) (number : ℕ) (c : List ℕ) → AreClauses clauses → IsFalseAt clauses (lits_of es) number → slice_get clauses number ≡ Some c
    → d ≡ record { chain = number ∷ []; clause = c } → IsDerived clauses es d (length es)
unfolding chain_of
started clauses es d number c all falsified there made =
    let same : falsified.clause ≡ c = same_Some falsified.clause c (sym falsified.there ∙ there) in
    let one : IsDerived clauses es (record { chain = number ∷ []; clause = c }) (length es) = record {
      made = there;
      is = all.each number c there;
      before = subst (λ (ls : List ℕ). is_false ls c ≡ true) (sym (take_all (length es) (lits_of es) (omega (arith, length-lits es))))
          (subst (λ (t : List ℕ). is_false (lits_of es) t ≡ true) same falsified.falsified);
    } in
    subst (λ (x : DerivationState). IsDerived clauses es x (length es)) (sym made) one

-- it is not false below the floor
pub started_above : (clauses : List (List ℕ)) (es : List Entry) (d : DerivationState) (floor number : ℕ) (c : List ℕ) → AreClauses clauses → IsFalseAt clauses (lits_of es) number → slice_get clauses number ≡ Some c
    → d ≡ record { chain = number ∷ []; clause = c } → WasQuiet clauses es → IsFloor es floor → IsPresent clauses es d floor (length es)
started_above clauses es d floor number c all falsified there made quiet is = record {
  derived = started clauses es d number c all falsified there made;
  above = subst (λ (x : DerivationState). is_false (take floor (lits_of es)) x.clause ≡ false) (sym made) (floor_closed clauses es floor quiet is number c there).0;
}

-- the walk ends before the floor
pub never_below : (clauses : List (List ℕ)) (es : List Entry) (d : DerivationState) (floor place : ℕ) → IsPresent clauses es d floor place → place ≤ floor → ⊥
never_below clauses es d floor place present le =
    true-false (is_false (take floor (lits_of es)) d.clause) (false_more (lits_of es) d.clause place floor le present.derived.before) present.above

-- a clause that is false before the first literal is empty
pub nothing_left : (clauses : List (List ℕ)) (es : List Entry) (d : DerivationState) → IsDerived clauses es d 0 → d.clause ≡ []
nothing_left clauses es d derived = none d.clause derived.before where
  none : (c : List ℕ) → is_false [] c ≡ true → c ≡ []
  none [] f = refl
  none (l ∷ c) f = absurd (true-false false f refl)

-- the test of the walk, as its code makes it
pub told : (d : DerivationState) (l negated : ℕ) (answer b : Bool) → negated ≡ neg l → answer ≡ has negated d.clause → answer ≡ b → has (neg l) d.clause ≡ b
told d l negated answer b n h e = sym (ap (λ x. has x d.clause) n) ∙ sym h ∙ e

-- a literal whose negation is not in the clause
pub turn_skipped : (clauses : List (List ℕ)) (es : List Entry) (d : DerivationState) (floor p l : ℕ) → slice_get (lits_of es) p ≡ Some l → IsPresent clauses es d floor (p + 1) → has (neg l) d.clause ≡ false → IsPresent clauses es d floor p
turn_skipped clauses es d floor p l h present out = record { derived = skipped clauses es d p l h present.derived out; above = present.above }

-- a literal that its reason replaces
pub turn_stepped : (clauses : List (List ℕ)) (es : List Entry) (old new : DerivationState) (floor p l : ℕ) → slice_get (lits_of es) p ≡ Some l → IsPresent clauses es old floor (p + 1)
    → is_false (take floor (lits_of es)) (without (neg l) old.clause) ≡ false → IsNext clauses old.clause (take p (lits_of es)) l new → IsPresent clauses es new floor p
turn_stepped clauses es old new floor p l h present open' next = record {
  derived = stepped clauses es old new p l h present.derived next;
  above = still_above clauses es old new floor p l next open';
}

-- the step with the reason that was read
pub next_at : (clauses logged : List (List ℕ)) (es : List Entry) (old new : DerivationState) (d : List ℕ) (n p l r : ℕ) (reason : Option ℕ) → IsTrail clauses es → AreClauses clauses → IsDerived clauses es old n
    → slice_get (lits_of es) p ≡ Some l → has (neg l) old.clause ≡ true → reason ≡ reason_of l es → reason ≡ Some r → logged ≡ clauses → slice_get logged r ≡ Some d
    → new ≡ record { chain = old.chain ++ r ∷ []; clause = union (without (neg l) old.clause) (without l d) } → IsNext clauses old.clause (take p (lits_of es)) l new
next_at clauses logged es old new d n p l r reason trail all derived h in_c e s agree there made =
    next_step clauses es old new d n p l r trail all derived in_c (unit_at clauses es p l r reason trail h e s) (sym (ap (λ (cs : List (List ℕ)). slice_get cs r) agree) ∙ there) made

-- the clause of the reason that was read is there
pub number_there : (clauses logged : List (List ℕ)) (es : List Entry) (p l r : ℕ) (reason : Option ℕ) → IsTrail clauses es → slice_get (lits_of es) p ≡ Some l → reason ≡ reason_of l es → reason ≡ Some r
    → logged ≡ clauses → r < length logged
number_there clauses logged es p l r reason trail h e s agree =
    subst (λ (cs : List (List ℕ)). r < length cs) (sym agree) (number_below clauses es p l r reason trail h e s)

-- above the floor no literal is assumed
pub never_assumed : (clauses : List (List ℕ)) (es : List Entry) (floor p l : ℕ) (reason : Option ℕ) → IsTrail clauses es → IsFloor es floor → floor < p → slice_get (lits_of es) p ≡ Some l
    → reason ≡ reason_of l es → reason ≡ None → ⊥
never_assumed clauses es floor p l reason trail is below h e none =
    let a = read_at clauses es p l reason trail h e in is.last p a.entry a.there below (a.read ∙ none)

pub never_given : (clauses : List (List ℕ)) (es : List Entry) (p l : ℕ) (reason : Option ℕ) → IsTrail clauses es → AreGiven es → slice_get (lits_of es) p ≡ Some l → reason ≡ reason_of l es → reason ≡ None → ⊥
never_given clauses es p l reason trail given h e none = let a = read_at clauses es p l reason trail h e in given.each p a.entry a.there (a.read ∙ none)

-- what a test for no reason says
pub is_none_told : (r : Option ℕ) (answer : Bool) → is_some r ≡ not answer → answer ≡ true → r ≡ None
is_none_told None answer e f = refl
is_none_told (Some k) answer e f = absurd (true-false true refl (e ∙ ap not f))

pub is_some_told : (r : Option ℕ) (answer : Bool) → is_some r ≡ not answer → answer ≡ false → r ≡ None → ⊥
is_some_told r answer e f n = true-false true refl (sym (e ∙ ap not f) ∙ ap is_some n)

-- the point is not below the floor
pub apart_point : (es : List Entry) (floor p l u : ℕ) → slice_get (lits_of es) p ≡ Some l → p < floor → has (neg u) (take floor (lits_of es)) ≡ false → u ≡ neg l → ⊥
apart_point es floor p l u h below clear e =
    true-false (has (neg u) (take floor (lits_of es)))
    (subst (λ (t : ℕ). has t (take floor (lits_of es)) ≡ true) (sym (ap neg e ∙ neg-neg l)) (get_in_front (lits_of es) p floor l h below)) clear
