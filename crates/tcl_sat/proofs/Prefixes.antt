-- Fronts of a trail: what is false there, and which entries are up to a level.
use Rattle.std.proofs.Common.{◌≡◌, ℕ, zero, suc, ◌+◌, ◌<◌, ◌≤◌, true, false, ◌&&◌, eqb, List, [], ◌∷◌, ◌++◌, length, take, Option, Some, None, is_none, slice_get, refl, sym, ap, subst, ◌∙◌, arith, ◌⊎◌, inl, inr, take-take, length-take}
use Rattle.std.proofs.lemmas.Bool.{cases_Bool, cases_eq, cases_lt, or_cases, ne_eqb, eqb-true}
use Rattle.std.proofs.lemmas.List.{take_more, take_all, take-append-le}
use Rattle.std.proofs.lemmas.Option.{same_Some, none-some, slice_get_within, get_or_from_slice_get}
use Rattle.tcl_cnf.specs.Literal.{neg}
use Rattle.tcl_cnf.specs.Clause.{has}
use Rattle.tcl_cnf.specs.Propagation.{is_false, IsClosed}
use Rattle.tcl_cnf.proofs.Bools.{true-false}
use Rattle.tcl_cnf.proofs.Ordered.{has-first, has-rest}
use Rattle.tcl_cnf.proofs.Entries.{get-take, get-in_take, get-last}
use Rattle.tcl_cnf.proofs.Freshness.{false_each, each_false}
use Rattle.tcl_trail.specs.declared.entry.Entry.{Entry}
use Rattle.tcl_trail.specs.Assignment.{lits_of, step_of, level_of, up_to}
use Rattle.tcl_trail.specs.Trail.{HasGrown}
use Rattle.tcl_trail.proofs.Entries.{has_front, lits-take, length-lits, lits-append}
use Rattle.tcl_cnf.proofs.Members.{has-append}
use Rattle.tcl_trail.proofs.LevelLemmas.{up_reason, up_assumed, up_stop, up_none, level_here, level_behind}
use Rattle.tcl_sat.specs.State.{WasQuiet}
use Rattle.tcl_sat.specs.Analysis.{AreGiven}

-- a literal of a shorter front is in the longer one
pub front_more : (ls : List ℕ) (m n l : ℕ) → m ≤ n → has l (take m ls) ≡ true → has l (take n ls) ≡ true
front_more ls m n l h t = has_front m (take n ls) l (subst (λ (x : List ℕ). has l x ≡ true) (sym (take-take m n ls h)) t)

-- what is false under fewer literals is false under more
pub false_more : (ls c : List ℕ) (m n : ℕ) → m ≤ n → is_false (take m ls) c ≡ true → is_false (take n ls) c ≡ true
false_more ls c m n h f = each_false (take n ls) c (λ l i. front_more ls m n (neg l) h (false_each (take m ls) c l f i))

pub false_whole : (ls c : List ℕ) (n : ℕ) → is_false (take n ls) c ≡ true → is_false ls c ≡ true
false_whole ls c n f = each_false ls c (λ l i. has_front n ls (neg l) (false_each (take n ls) c l f i))

-- a clause that is not false has a literal that is not
pub not_false : (trues c : List ℕ) → is_false trues c ≡ false → (l : ℕ) × (has l c ≡ true) × (has (neg l) trues ≡ false)
not_false trues [] f = absurd (true-false true refl f)
not_false trues (l ∷ c) f = elim (cases_Bool (has (neg l) trues)) [
  | inr e ↦ (l, has-first l c, e)
  | inl e ↦ let r = not_false trues c (sym (ap (λ b. b && is_false trues c) e) ∙ f) in (r.0, has-rest l r.0 c r.1, r.2)
]

one_more : (l : ℕ) (ls : List ℕ) (x : ℕ) → has l (ls ++ x ∷ []) ≡ true → (has l ls ≡ true) ⊎ (x ≡ l)
one_more l ls x h = elim (or_cases (has l ls) (has l (x ∷ [])) (sym (has-append l ls (x ∷ [])) ∙ h)) [
  | inl a ↦ inl a
  | inr b ↦ elim (or_cases (eqb x l) false b) [ inl e ↦ inr (eqb-true x l e) | inr e ↦ absurd (true-false false e refl) ]
]

-- a literal of a front is in the shorter one or its last
pub front_last : (ls : List ℕ) (p x l : ℕ) → slice_get ls p ≡ Some x → has l (take (p + 1) ls) ≡ true → (has l (take p ls) ≡ true) ⊎ (x ≡ l)
front_last ls p x l e h =
    one_more l (take p ls) x
    (subst (λ (t : List ℕ). has l t ≡ true) (take_more ls p x (slice_get_within ls p x e) ∙ ap (λ d. take p ls ++ d ∷ []) (get_or_from_slice_get ls p x x e)) h)

none_or_some : (r : Option ℕ) → (is_none r ≡ true) × (r ≡ None) ⊎ ((is_none r ≡ false) × (r ≡ None → ⊥))
none_or_some None = inl (refl, refl)
none_or_some (Some k) = inr (refl, λ e. none-some k (sym e))

told_none : (r : Option ℕ) → r ≡ None → is_none r ≡ true
told_none r e = ap is_none e

step_given : (e : Entry) → is_none e.reason ≡ false → step_of e ≡ 0
step_given e h = rw h refl

pub step_assumed : (e : Entry) → is_none e.reason ≡ true → step_of e ≡ 1
step_assumed e h = rw h refl

-- the entries up to a level are a front
pub up_to_front : (level : ℕ) (es : List Entry) → (n : ℕ) × (up_to level es ≡ take n es)
up_to_front level [] = (0, up_none level)
up_to_front level (e ∷ es) = elim (none_or_some e.reason) [
  | inr p ↦ let r = up_to_front level es in (suc r.0, up_reason level e es p.0 ∙ ap (λ t. e ∷ t) r.1)
  | inl p ↦ assumed (λ n. up_to_front n es) level p.0
] where
  assumed : ((left : ℕ) → (n : ℕ) × (up_to left es ≡ take n es)) → (level : ℕ) → is_none e.reason ≡ true → (n : ℕ) × (up_to level (e ∷ es) ≡ take n (e ∷ es))
  assumed rest zero h = (0, up_stop e es h)
  assumed rest (suc left) h = let r = rest left in (suc r.0, up_assumed (suc left) left e es h refl ∙ ap (λ t. e ∷ t) r.1)

-- an assumed literal is of no level 0
pub assumed_level : (level : ℕ) (es : List Entry) (k : ℕ) (e : Entry) → slice_get (up_to level es) k ≡ Some e → e.reason ≡ None → 0 < level
assumed_level (suc level) es k e h r = omega arith
assumed_level zero [] k e h r = absurd (none-some e (sym (ap (λ t. slice_get t k) (up_none zero)) ∙ h))
assumed_level zero (f ∷ es) k e h r = elim (none_or_some f.reason) [
  | inl p ↦ absurd (none-some e (sym (ap (λ t. slice_get t k) (up_stop f es p.0)) ∙ h))
  | inr p ↦ behind (λ j g. assumed_level zero es j e g r) k (sym (ap (λ t. slice_get t k) (up_reason zero f es p.0)) ∙ h) p.1
] where
  behind : ((j : ℕ) → slice_get (up_to zero es) j ≡ Some e → 0 < zero) → (k : ℕ) → slice_get (f ∷ up_to zero es) k ≡ Some e → (f.reason ≡ None → ⊥) → 0 < zero
  behind below zero g n = absurd (n (ap (λ (x : Entry). x.reason) (same_Some f e g) ∙ r))
  behind below (suc k) g n = below k g

-- what is true before an assumed literal that is up to a level is of a lower level
pub reach : (level : ℕ) (es : List Entry) (k : ℕ) (e : Entry) (l : ℕ) → slice_get (up_to level es) k ≡ Some e → e.reason ≡ None → has l (take k (lits_of es)) ≡ true → level_of l es < level
reach level es zero e l h r t = absurd (true-false false t refl)
reach level [] (suc k) e l h r t = absurd (true-false false t refl)
reach level (f ∷ es) (suc k) e l h r t = elim (none_or_some f.reason) [
  | inr p ↦
      let g : slice_get (up_to level es) k ≡ Some e = sym (ap (λ x. slice_get x (suc k)) (up_reason level f es p.0)) ∙ h in
      elim (cases_eq f.lit l) [
        | inl s ↦ let here = level_here l f es s in let step = step_given f p.0 in omega (arith, here, step, assumed_level level es k e g r)
        | inr n ↦ let behind = level_behind l f es n in let step = step_given f p.0 in
            let below = reach level es k e l g r (rest n) in omega (arith, behind, step, below)
      ]
  | inl p ↦ assumed (λ n g t. reach n es k e l g r t) level p.0 h
] where
  rest : (f.lit ≡ l → ⊥) → has l (take k (lits_of es)) ≡ true
  rest n = elim (or_cases (eqb f.lit l) (has l (take k (lits_of es))) t) [ inl s ↦ absurd (true-false (eqb f.lit l) s (ne_eqb f.lit l n)) | inr u ↦ u ]

  assumed : ((n : ℕ) → slice_get (up_to n es) k ≡ Some e → has l (take k (lits_of es)) ≡ true → level_of l es < n) → (level : ℕ) → is_none f.reason ≡ true → slice_get (up_to level (f ∷ es)) (suc k) ≡ Some e → level_of l (f ∷ es) < level
  assumed lower zero p g = absurd (none-some e (sym (ap (λ x. slice_get x (suc k)) (up_stop f es p)) ∙ g))
  assumed lower (suc left) p g =
      let i : slice_get (up_to left es) k ≡ Some e = sym (ap (λ x. slice_get x (suc k)) (up_assumed (suc left) left f es p refl)) ∙ g in
      let step = step_assumed f p in
      elim (cases_eq f.lit l) [
        | inl s ↦ let here = level_here l f es s in omega (arith, here, step, assumed_level left es k e i r)
        | inr n ↦ let behind = level_behind l f es n in let below = lower left i (rest n) in omega (arith, behind, step, below)
      ]

-- a front of the entries keeps that the trail was quiet
pub quiet_take : (clauses : List (List ℕ)) (es : List Entry) (n : ℕ) → WasQuiet clauses es → WasQuiet clauses (take n es)
quiet_take clauses es n quiet = record {
  each = λ k e h r.
      let within : k < length (take n es) = slice_get_within (take n es) k e h in
      subst (λ (ls : List ℕ). IsClosed clauses ls)
      (sym (ap (take k) (lits-take n es) ∙ take-take k n (lits_of es) (omega (arith, within, length-take n es))))
      (quiet.each k e (get-take n es k e h) r);
}

pub quiet_back : (clauses : List (List ℕ)) (es : List Entry) (level : ℕ) → WasQuiet clauses es → WasQuiet clauses (up_to level es)
quiet_back clauses es level quiet =
    let r = up_to_front level es in
    subst (λ (x : List Entry). WasQuiet clauses x) (sym r.1) (quiet_take clauses es r.0 quiet)

-- entries with reasons appended
pub quiet_grown : (clauses : List (List ℕ)) (old new : List Entry) → WasQuiet clauses old → HasGrown old new → WasQuiet clauses new
quiet_grown clauses old new quiet grown = record {
  each = λ k e h r. elim (cases_lt k (length old)) [
    | inr above ↦ absurd (grown.reasons k e h above r)
    | inl below ↦
        let n = length old in
        let here : slice_get old k ≡ Some e = sym (ap (λ (x : List Entry). slice_get x k) grown.kept) ∙ get-in_take n new k below ∙ h in
        let front : take k (lits_of old) ≡ take k (lits_of new) =
        ap (λ (x : List Entry). take k (lits_of x)) (sym grown.kept) ∙ ap (take k) (lits-take n new) ∙ take-take k n (lits_of new) (omega (arith, below)) in
        subst (λ (ls : List ℕ). IsClosed clauses ls) front (quiet.each k e here r)
  ];
}

-- a literal assumed where no clause is false or unit
pub quiet_assumed : (clauses : List (List ℕ)) (es : List Entry) (e : Entry) → WasQuiet clauses es → IsClosed clauses (lits_of es) → WasQuiet clauses (es ++ e ∷ [])
quiet_assumed clauses es e quiet closed = record {
  each = λ k d h r. elim (get-last es e k d h) [
    | inl f ↦ subst (λ (ls : List ℕ). IsClosed clauses ls)
        (sym (ap (take k) (lits-append es (e ∷ [])) ∙ take-append-le k (lits_of es) (e.lit ∷ []) (omega (arith, slice_get_within es k d f, length-lits es)))) (quiet.each k d f r)
    | inr p ↦ subst (λ (ls : List ℕ). IsClosed clauses ls)
        (sym (ap (take k) (lits-append es (e ∷ [])) ∙ take-append-le k (lits_of es) (e.lit ∷ []) (omega (arith, p.0, length-lits es)) ∙ take_all k (lits_of es) (omega (arith, p.0, length-lits es)))) closed
  ];
}

-- no literal is assumed up to level 0
pub zero_given : (es : List Entry) → AreGiven (up_to 0 es)
zero_given es = record { each = λ k e h r. let below : 0 < 0 = assumed_level 0 es k e h r in omega (arith, below) }

-- before nothing is assumed, nothing has to be quiet
pub given_quiet : (clauses : List (List ℕ)) (es : List Entry) → AreGiven es → WasQuiet clauses es
given_quiet clauses es given = record { each = λ k e h r. absurd (given.each k e h r) }
