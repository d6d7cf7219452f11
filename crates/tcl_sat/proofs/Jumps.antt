-- What a search keeps when a clause is learnt and the trail goes back.
use Rattle.std.proofs.Common.{◌≡◌, ℕ, zero, suc, ◌<◌, ◌≤◌, false, List, [], ◌∷◌, ◌++◌, length, take, Some, None, slice_get, refl, sym, ap, subst, ◌∙◌, arith, inl, inr, take-take, length-take, length-append}
use Rattle.std.proofs.lemmas.Bool.{cases_Bool, cases_lt}
use Rattle.std.proofs.lemmas.List.{take_at, take-append-le}
use Rattle.std.proofs.lemmas.Option.{same_Some, none-some, slice_get_within}
use Rattle.tcl_cnf.specs.Literal.{neg}
use Rattle.tcl_cnf.specs.Clause.{has}
use Rattle.tcl_cnf.specs.Propagation.{IsFresh, IsQuiet, IsClosed}
use Rattle.tcl_cnf.specs.Log.{LogState}
use Rattle.tcl_cnf.proofs.Entries.{get-take, get-last, get-behind}
use Rattle.tcl_trail.specs.declared.entry.Entry.{Entry}
use Rattle.tcl_trail.specs.Assignment.{lits_of, up_to}
use Rattle.tcl_trail.specs.Trail.{TrailState, IsTrail, HasGrown}
use Rattle.tcl_trail.proofs.Looks.{quiet_two}
use Rattle.tcl_trail.proofs.Entries.{lits-take}
use Rattle.tcl_sat.specs.Found.{AreFresh}
use Rattle.tcl_sat.specs.State.{WasQuiet, IsState, IsBegun, AddsOne, GoesOn}
use Rattle.tcl_sat.specs.Analysis.{IsFloor, DerivationState, IsPoint, IsJump}
use Rattle.tcl_sat.proofs.Prefixes.{up_to_front, assumed_level, reach, quiet_back, quiet_grown, quiet_assumed}
use Rattle.tcl_sat.proofs.Explains.{floor_closed, point_fresh}
use Rattle.tcl_sat.proofs.Floors.{not_before}

-- a quiet clause more
closed_more : (clauses : List (List ℕ)) (c trues : List ℕ) → IsClosed clauses trues → IsQuiet trues c → IsClosed (clauses ++ c ∷ []) trues
closed_more clauses c trues closed one = λ k d e. elim (get-last clauses c k d e) [
  | inl f ↦ closed k d f
  | inr p ↦ subst (λ (x : List ℕ). IsQuiet trues x) (sym p.1) one
]

-- an entry up to a level, seen in the whole trail
front_of_up : (es : List Entry) (level k : ℕ) (e : Entry) → slice_get (up_to level es) k ≡ Some e → (take k (lits_of (up_to level es)) ≡ take k (lits_of es)) × (slice_get es k ≡ Some e)
front_of_up es level k e h =
    let r = up_to_front level es in
    let n = r.0 in
    let g : slice_get (take n es) k ≡ Some e = sym (ap (λ (x : List Entry). slice_get x k) r.1) ∙ h in
    let within : k < length (take n es) = slice_get_within (take n es) k e g in (
      ap (λ (x : List Entry). take k (lits_of x)) r.1 ∙ ap (take k) (lits-take n es) ∙ take-take k n (lits_of es) (omega (arith, within, length-take n es)),
      get-take n es k e g,
    )

-- before an assumed literal up to the level the learnt clause was quiet
learnt_quiet : (clauses : List (List ℕ)) (es : List Entry) (d : DerivationState) (floor u level k : ℕ) (e : Entry) → IsFloor es floor → IsPoint clauses es d floor u → IsJump es d.clause u level
    → slice_get (up_to level es) k ≡ Some e → e.reason ≡ None → IsQuiet (take k (lits_of es)) d.clause
learnt_quiet clauses es d floor u zero k e is point jump h r = let below : 0 < 0 = assumed_level 0 es k e h r in absurd (omega (arith, below))
learnt_quiet clauses es d floor u (suc level) k e is point jump h r =
    let f = front_of_up es (suc level) k e h in
    let le : k ≤ floor = elim (cases_lt floor k) [ inl below ↦ absurd (is.last k e f.1 below r) | inr above ↦ above ] in
    let m = jump.0 in
    let far : has (neg m) (take k (lits_of es)) ≡ false = elim (cases_Bool (has (neg m) (take k (lits_of es)))) [
      | inr g ↦ g
      | inl g ↦ let below = reach (suc level) es k e (neg m) h r g in absurd (omega (arith, below, jump.3))
    ] in
    quiet_two (take k (lits_of es)) d.clause u m point.in_it jump.1 (λ s. jump.2 (sym s)) (not_before (lits_of es) k floor (neg u) le point.clear) far

-- the trail goes back to the level, and has the learnt clause
pub quiet_jump : (clauses : List (List ℕ)) (es : List Entry) (d : DerivationState) (floor u level : ℕ) → WasQuiet clauses es → IsFloor es floor → IsPoint clauses es d floor u → IsJump es d.clause u level
    → WasQuiet (clauses ++ d.clause ∷ []) (up_to level es)
quiet_jump clauses es d floor u level quiet is point jump = record {
  each = λ k e h r.
      let f = front_of_up es level k e h in
      closed_more clauses d.clause (take k (lits_of (up_to level es))) ((quiet_back clauses es level quiet).each k e h r)
      (subst (λ (ls : List ℕ). IsQuiet ls d.clause) (sym f.0) (learnt_quiet clauses es d floor u level k e is point jump h r));
}

-- a fresh clause more
pub fresh_more : (clauses : List (List ℕ)) (c : List ℕ) (given : ℕ) → AreFresh clauses given → IsFresh clauses c → AreFresh (clauses ++ c ∷ []) given
fresh_more clauses c given fresh one = record {
  each = λ k d g h. elim (get-last clauses c k d h) [
    | inl f ↦ let within : k < length clauses = slice_get_within clauses k d f in
        subst (λ (cs : List (List ℕ)). IsFresh cs d) (sym (take-append-le k clauses (c ∷ []) (omega (arith, within)))) (fresh.each k d g f)
    | inr p ↦ subst (λ (x : List ℕ). IsFresh (take k (clauses ++ c ∷ [])) x) (sym p.1)
        (subst (λ (cs : List (List ℕ)). IsFresh cs c) (sym (take_at clauses (c ∷ []) k (sym p.0))) one)
  ];
}

-- a clause is learnt: logged, and appended to the trail that went back
pub learnt : (old new : LogState) (trail back after : TrailState) (d : DerivationState) (c : List ℕ) (floor u level : ℕ) → IsState old trail → IsTrail trail.clauses trail.entries → IsFloor trail.entries floor
    → IsPoint trail.clauses trail.entries d floor u → IsJump trail.entries d.clause u level → AddsOne old new d.clause → back ≡ record trail { entries = up_to level trail.entries }
    → c ≡ d.clause → after ≡ record back { clauses = back.clauses ++ c ∷ [] } → GoesOn old new after
learnt old new trail back after d c floor u level state is_trail is point jump adds gone same added =
    let made : TrailState = record { clauses = trail.clauses ++ d.clause ∷ []; entries = up_to level trail.entries } in
    let more : TrailState → List ℕ → TrailState = λ t x. record { clauses = t.clauses ++ x ∷ []; entries = t.entries } in
    let is_made : after ≡ made = added ∙ ap (more back) same ∙ ap (λ (t : TrailState). more t d.clause) gone in
    let agree : new.clauses ≡ trail.clauses ++ d.clause ∷ [] = adds.behind ∙ ap (λ (cs : List (List ℕ)). cs ++ d.clause ∷ []) state.agree in
    let fresh_old : AreFresh trail.clauses old.given = subst (λ (cs : List (List ℕ)). AreFresh cs old.given) state.agree state.fresh in
    let fresh_one = point_fresh trail.clauses trail.entries d floor u is_trail (floor_closed trail.clauses trail.entries floor state.quiet is) point in
    let fresh_made : AreFresh (trail.clauses ++ d.clause ∷ []) old.given = fresh_more trail.clauses d.clause old.given fresh_old fresh_one in
    let state_made : IsState new made = record {
      agree = agree;
      fresh = subst (λ (cs : List (List ℕ)). AreFresh cs new.given) (sym agree) (subst (λ (n : ℕ). AreFresh (trail.clauses ++ d.clause ∷ []) n) (sym adds.given) fresh_made);
      quiet = quiet_jump trail.clauses trail.entries d floor u level state.quiet is point jump;
    } in
    record { clause = d.clause; adds = adds; state = subst (λ (t : TrailState). IsState new t) (sym is_made) state_made }

-- the trail after propagation
pub quiet_propagated : (old new : TrailState) → new.clauses ≡ old.clauses → HasGrown old.entries new.entries → WasQuiet old.clauses old.entries → WasQuiet new.clauses new.entries
quiet_propagated old new same grown quiet =
    subst (λ (cs : List (List ℕ)). WasQuiet cs new.entries) (sym same) (quiet_grown old.clauses old.entries new.entries quiet grown)

-- the trail after one more assumption
pub quiet_descended : (old new : TrailState) (l : ℕ) → new ≡ record { clauses = old.clauses; entries = old.entries ++ record { lit = l; reason = None } ∷ [] } → WasQuiet old.clauses old.entries
    → IsClosed old.clauses (lits_of old.entries) → WasQuiet new.clauses new.entries
quiet_descended old new l made quiet closed =
    let e : Entry = record { lit = l; reason = None } in
    let t : TrailState = record { clauses = old.clauses; entries = old.entries ++ e ∷ [] } in
    let is_made : new ≡ t = made in
    subst (λ (x : TrailState). WasQuiet x.clauses x.entries) (sym is_made) (quiet_assumed old.clauses old.entries e quiet closed)

-- a clause of the log is one of the trail
pub agreed : (logged clauses : List (List ℕ)) (k : ℕ) (c : List ℕ) → logged ≡ clauses → slice_get logged k ≡ Some c → slice_get clauses k ≡ Some c
agreed logged clauses k c same there = sym (ap (λ (cs : List (List ℕ)). slice_get cs k) same) ∙ there

-- the clause that was added last is the one that is read at its number
pub last_is : (old new : LogState) (d c : List ℕ) (number : ℕ) → AddsOne old new d → number ≡ length old.clauses → slice_get new.clauses number ≡ Some c → c ≡ d
last_is old new d c number adds n there =
    same_Some c d (sym there ∙ ap (λ (cs : List (List ℕ)). slice_get cs number) adds.behind ∙ ap (λ k. slice_get (old.clauses ++ d ∷ []) k) n ∙ get-behind old.clauses d [])

pub last_there : (old new : LogState) (d : List ℕ) (number : ℕ) → AddsOne old new d → number ≡ length old.clauses → number < length new.clauses
last_there old new d number adds n = omega (arith, n, ap (λ (cs : List (List ℕ)). length cs) adds.behind, length-append old.clauses (d ∷ []))

-- the state at the start
pub state_begun : (cnf copy : List (List ℕ)) (log : LogState) (trail : TrailState) → copy ≡ cnf → log ≡ record { clauses = copy; given = length copy; lines = [] } → trail ≡ record { clauses = cnf; entries = [] } → IsBegun cnf log trail
state_begun cnf copy log trail same made begun =
    let l : LogState = record { clauses = copy; given = length copy; lines = [] } in
    let t : TrailState = record { clauses = cnf; entries = [] } in
    let one : IsState l t = record {
      agree = same;
      fresh = record { each = λ k c le h. absurd (omega (arith, le, slice_get_within copy k c h)) };
      quiet = record { each = λ k e h r. absurd (none-some e h) };
    } in
    let all : IsBegun cnf l t = record { logged = same; given = refl; kept = refl; state = one } in
    let is_l : log ≡ l = made in
    let is_t : trail ≡ t = begun in
    subst (λ (x : LogState). IsBegun cnf x trail) (sym is_l) (subst (λ (x : TrailState). IsBegun cnf l x) (sym is_t) all)

-- the state with no literal assumed
pub state_again : (log log' : LogState) (old new : TrailState) → log' ≡ log → new ≡ record { clauses = old.clauses; entries = up_to 0 old.entries } → IsState log old → IsState log' new
state_again log log' old new same made state =
    let t : TrailState = record { clauses = old.clauses; entries = up_to 0 old.entries } in
    let is_t : new ≡ t = made in
    let one : IsState log t = record { agree = state.agree; fresh = state.fresh; quiet = quiet_back old.clauses old.entries 0 state.quiet } in
    subst (λ (x : LogState). IsState x new) (sym same) (subst (λ (x : TrailState). IsState log x) (sym is_t) one)
