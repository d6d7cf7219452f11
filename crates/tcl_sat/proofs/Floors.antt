-- The last assumed literal, what is true below it, and the level to go back to.
use Rattle.std.proofs.Common.{◌≡◌, ℕ, zero, suc, ◌+◌, ◌<◌, ◌≤◌, Bool, true, false, ◌||◌, eqb, List, [], ◌∷◌, length, take, Option, Some, None, is_none, slice_get, refl, sym, ap, subst, ◌∙◌, arith, inl, inr}
use Rattle.std.specs.Prelude.{nat_lt}
use Rattle.std.proofs.lemmas.Bool.{cases_order, cases_eq, cases_lt, eq-eqb, ne_eqb, lt-ltb, le-ltb, cases_Bool}
use Rattle.std.proofs.lemmas.Option.{same_Some, none-some, slice_get_within}
use Rattle.tcl_cnf.specs.Literal.{neg}
use Rattle.tcl_cnf.specs.Clause.{has}
use Rattle.tcl_cnf.proofs.Bools.{true-false}
use Rattle.tcl_cnf.proofs.Ordered.{first_or_rest}
use Rattle.tcl_trail.specs.declared.entry.Entry.{Entry}
use Rattle.tcl_trail.specs.Assignment.{lits_of, step_of, reason_of, level_of}
use Rattle.tcl_trail.specs.Trail.{IsTrail}
use Rattle.tcl_trail.proofs.Entries.{entry_at}
use Rattle.tcl_trail.proofs.LevelLemmas.{level_here, level_behind}
use Rattle.tcl_sat.specs.Analysis.{IsFloor, TellsFront, AreGiven, IsJump}
use Rattle.tcl_sat.proofs.Prefixes.{front_more, step_assumed}
use Rattle.tcl_sat.proofs.Explains.{reason_at}

-- no literal from this place on is assumed
pub record AreGivenFrom (es : List Entry) (place : ℕ) : Type 0 where
  pub each : (k : ℕ) (e : Entry) → slice_get es k ≡ Some e → place ≤ k → (e.reason ≡ None → ⊥)

pub given_none : (es : List Entry) (place : ℕ) → place ≡ length es → AreGivenFrom es place
given_none es place h = record { each = λ k e g le. absurd (omega (arith, slice_get_within es k e g, le, h)) }

pub given_all : (es : List Entry) (place : ℕ) → place ≡ 0 → AreGivenFrom es place → AreGiven es
given_all es place h given = record { each = λ k e g. given.each k e g (omega (arith, h)) }

-- one place down, where the literal has a reason
pub given_more : (es : List Entry) (place : ℕ) (reason : Option ℕ) → ((e : Entry) → slice_get es place ≡ Some e → reason ≡ e.reason) → (reason ≡ None → ⊥)
    → AreGivenFrom es (place + 1) → AreGivenFrom es place
given_more es place reason read some given = record {
  each = λ k e g le. elim (cases_order place k) [
    | inl same ↦ λ n. some (read e (ap (slice_get es) same ∙ g) ∙ n)
    | inr rest ↦ elim rest [ inl below ↦ given.each k e g (omega (arith, below)) | inr above ↦ absurd (omega (arith, above, le)) ]
  ];
}

-- the place of an assumed literal behind which none is assumed
pub floor_found : (es : List Entry) (place : ℕ) (reason : Option ℕ) → place < length es → ((e : Entry) → slice_get es place ≡ Some e → reason ≡ e.reason) → reason ≡ None
    → AreGivenFrom es (place + 1) → IsFloor es place
floor_found es place reason within read none given = record {
  below = within;
  assumed = λ e g. sym (read e g) ∙ none;
  last = λ k e g below. given.each k e g (omega (arith, below));
}

neither : (a b : Bool) → (a || b) ≡ false → (a ≡ false) × (b ≡ false)
neither false b h = (refl, h)
neither true b h = absurd (true-false true refl h)

-- the level of an assumed literal is not 0
assumed_above : (es : List Entry) (floor : ℕ) (e : Entry) → slice_get es floor ≡ Some e → is_none e.reason ≡ true → has e.lit (take floor (lits_of es)) ≡ false → 1 ≤ level_of e.lit es
assumed_above [] floor e h a fresh = absurd (none-some e h)
assumed_above (x ∷ es) zero e h a fresh =
    let same = same_Some x e h in
    let here = level_here e.lit x es (ap (λ (t : Entry). t.lit) same) in
    let one = step_assumed x (ap (λ (t : Entry). is_none t.reason) same ∙ a) in
    omega (arith, here, one)
assumed_above (x ∷ es) (suc floor) e h a fresh =
    let parts = neither (eqb x.lit e.lit) (has e.lit (take floor (lits_of es))) fresh in
    let behind = level_behind e.lit x es (λ s. true-false (eqb x.lit e.lit) (eq-eqb x.lit e.lit s) parts.0) in
    let rest = assumed_above es floor e h a parts.1 in
    omega (arith, behind, rest)

pub lt_true : (a b : ℕ) → a < b → true ≡ nat_lt a b
lt_true a b h = sym (lt-ltb a b h)

lt_false : (a b : ℕ) → b ≤ a → false ≡ nat_lt a b
lt_false a b h = sym (le-ltb a b h)

-- the same added to both
lt_shift : (n a b a' b' : ℕ) → a' ≡ n + a → b' ≡ n + b → nat_lt a b ≡ nat_lt a' b'
lt_shift n a b a' b' e f = elim (cases_lt a b) [
  | inl h ↦ sym (lt_true a b h) ∙ lt_true a' b' (omega (arith, e, f, h))
  | inr h ↦ sym (lt_false a b h) ∙ lt_false a' b' (omega (arith, e, f, h))
]

-- what is not in a front is not in a shorter one
pub not_before : (ls : List ℕ) (k floor l : ℕ) → k ≤ floor → has l (take floor ls) ≡ false → has l (take k ls) ≡ false
not_before ls k floor l le out = elim (cases_Bool (has l (take k ls))) [ inr e ↦ e | inl e ↦ absurd (true-false (has l (take floor ls)) (front_more ls k floor l le e) out) ]

-- what is true before an assumed literal is of a lower level, and nothing else
front_told : (es : List Entry) (floor : ℕ) (e : Entry) (l : ℕ) → slice_get es floor ≡ Some e → is_none e.reason ≡ true → has e.lit (take floor (lits_of es)) ≡ false
    → has l (take floor (lits_of es)) ≡ nat_lt (level_of l es) (level_of e.lit es)
front_told [] floor e l h a fresh = absurd (none-some e h)
front_told (x ∷ es) zero e l h a fresh =
    let same = same_Some x e h in
    let here = level_here e.lit x es (ap (λ (t : Entry). t.lit) same) in
    let one = step_assumed x (ap (λ (t : Entry). is_none t.reason) same ∙ a) in
    elim (cases_eq x.lit l) [
      | inl s ↦ let this = level_here l x es s in lt_false (level_of l (x ∷ es)) (level_of e.lit (x ∷ es)) (omega (arith, here, one, this))
      | inr n ↦ let this = level_behind l x es n in lt_false (level_of l (x ∷ es)) (level_of e.lit (x ∷ es)) (omega (arith, here, one, this))
    ]
front_told (x ∷ es) (suc floor) e l h a fresh =
    let parts = neither (eqb x.lit e.lit) (has e.lit (take floor (lits_of es))) fresh in
    let behind = level_behind e.lit x es (λ s. true-false (eqb x.lit e.lit) (eq-eqb x.lit e.lit s) parts.0) in
    elim (cases_eq x.lit l) [
      | inl s ↦
          let this = level_here l x es s in
          let above = assumed_above es floor e h a parts.1 in
          ap (λ b. b || has l (take floor (lits_of es))) (eq-eqb x.lit l s) ∙ lt_true (level_of l (x ∷ es)) (level_of e.lit (x ∷ es)) (omega (arith, behind, this, above))
      | inr n ↦
          let this = level_behind l x es n in
          ap (λ b. b || has l (take floor (lits_of es))) (ne_eqb x.lit l n) ∙ front_told es floor e l h a parts.1
          ∙ lt_shift (step_of x) (level_of l es) (level_of e.lit es) (level_of l (x ∷ es)) (level_of e.lit (x ∷ es)) this behind
    ]

-- the level of the last assumed literal tells what is true before it
pub told_front : (clauses : List (List ℕ)) (es : List Entry) (floor l level : ℕ) → IsTrail clauses es → IsFloor es floor → slice_get (lits_of es) floor ≡ Some l → level ≡ level_of l es → TellsFront es floor level
told_front clauses es floor l level trail is h r =
    let e = entry_at es floor l h in
    let fresh = (trail.each floor e.0 e.1).fresh in
    record {
      each = λ m. front_told es floor e.0 m e.1 (ap is_none (is.assumed e.0 e.1)) fresh ∙ ap (nat_lt (level_of m es)) (ap (λ x. level_of x es) e.2 ∙ sym r);
    }

-- a literal of the front has a place below the floor
pub place_below : (ls : List ℕ) (floor l : ℕ) → has l (take floor ls) ≡ true → (p : ℕ) × (p < floor) × (slice_get ls p ≡ Some l)
place_below ls zero l h = absurd (true-false false h refl)
place_below [] (suc floor) l h = absurd (true-false false h refl)
place_below (x ∷ ls) (suc floor) l h = elim (first_or_rest x l (take floor ls) h) [
  | inl e ↦ (zero, omega arith, ap (λ t. Some t) e)
  | inr i ↦ let r = place_below ls floor l i in (suc r.0, omega (arith, r.1), r.2)
]

-- a literal at the floor or above is not true below it
pub not_in_front : (clauses : List (List ℕ)) (es : List Entry) (floor place l : ℕ) → IsTrail clauses es → slice_get (lits_of es) place ≡ Some l → floor ≤ place → has l (take floor (lits_of es)) ≡ false
not_in_front clauses es floor place l trail h le =
    let e = entry_at es place l h in
    let fresh : has l (take place (lits_of es)) ≡ false = subst (λ (t : ℕ). has t (take place (lits_of es)) ≡ false) e.2 (trail.each place e.0 e.1).fresh in
    not_before (lits_of es) floor place l le fresh

-- the reason that stands at a place is that of its literal
pub reason_read : (clauses : List (List ℕ)) (es : List Entry) (p l : ℕ) (reason : Option ℕ) → IsTrail clauses es → slice_get (lits_of es) p ≡ Some l
    → ((e : Entry) → slice_get es p ≡ Some e → reason ≡ e.reason) → reason ≡ reason_of l es
reason_read clauses es p l reason trail h r =
    let e = entry_at es p l h in
    r e.0 e.1 ∙ sym (reason_at es p e.0 e.1 (trail.each p e.0 e.1).fresh) ∙ ap (λ x. reason_of x es) e.2

-- a literal of a clause gives a level to go back to
pub jump_to : (es : List Entry) (c : List ℕ) (u m level : ℕ) → has m c ≡ true → (m ≡ u → ⊥) → level ≡ level_of (neg m) es → IsJump es c u level
jump_to es c u m zero h n e = tt
jump_to es c u m (suc level) h n e = (m, h, n, sym e)
