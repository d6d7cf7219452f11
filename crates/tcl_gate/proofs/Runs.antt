-- Runs, and what their events fix.
use Rattle.std.proofs.Common.{◌≡◌, refl, sym, ap, ◌∙◌, subst, ℕ, ◌≤◌, arith, Bool, true, false, if◌then◌else◌, List, [], ◌∷◌, ◌++◌, length}
use Rattle.std.specs.List.{slice_get}
use Rattle.std.proofs.lemmas.List.{append_assoc, append-nil, length-append}
use Rattle.tcl_lang.specs.Program.{VersionedProgram}
use Rattle.tcl_goals.specs.declared.piece.Piece.{Piece}
use Rattle.tcl_board.specs.declared.event.Event.{Event}
use Rattle.tcl_board.specs.declared.event.Event.TheVariants as event
use Rattle.tcl_board.specs.declared.event.Word.{Word}
use Rattle.tcl_board.specs.declared.evidence.Seen.{Seen}
use Rattle.tcl_board.specs.Shows.{Causes}
use Rattle.tcl_board.specs.Moves.{Position, moved, drops}
use Rattle.tcl_board.specs.State.{BoardState, opening, given}
use Rattle.tcl_board.specs.Steps.{IsStep, IsRun}
use Rattle.tcl_board.specs.Kept.{IsBoard}
use Rattle.tcl_gate.specs.Extends.{Extends}

-- the position after some events
unfoldable pub positions : Position → List Event → Position
positions p [] = p
positions p (e ∷ events) = positions (moved p e) events

-- what the events of a run fix
pub record RunIs (a : BoardState) (more : List Event) (b : BoardState) : Type 0 where
  pub program : b.program ≡ a.program
  pub same_plan : b.plan ≡ a.plan
  pub same_budget : b.budget ≡ a.budget
  pub appended : b.events ≡ a.events ++ more
  pub position : b.position ≡ positions a.position more

one_is : (a b : BoardState) (e : Event) (kept : List Seen) → b ≡ record a { events = a.events ++ e ∷ []; position = moved a.position e; kept = kept } → RunIs a (e ∷ []) b
unfolding positions
one_is a b e kept same =
    subst (RunIs a (e ∷ [])) (sym same) (record { program = refl; same_plan = refl; same_budget = refl; appended = refl; position = refl })

step_is : (causes : Causes) (a b : BoardState) (e : Event) → IsStep causes a e b → RunIs a (e ∷ []) b
step_is causes a b (event.Claim w q) s = one_is a b (event.Claim w q) a.kept s.earned
step_is causes a b (event.Admit what) s = one_is a b (event.Admit what) a.kept s.earned
step_is causes a b (event.Cancel w q) s = one_is a b (event.Cancel w q) a.kept s.earned
step_is causes a b (event.Submit w q what) s =
    let gift = s.earned.0 in
    one_is a b (event.Submit w q what) (if drops a.position (slice_get a.position.pieces q) what then a.kept else a.kept ++ gift ∷ []) s.earned.2

pub run_is : (causes : Causes) (a : BoardState) (events : List Event) (b : BoardState) → IsRun causes a events b → RunIs a events b
unfolding IsRun positions
run_is causes a [] b r =
    subst (RunIs a []) (sym r) (record { program = refl; same_plan = refl; same_budget = refl; appended = sym (append-nil a.events); position = refl })
run_is causes a (e ∷ events) b r =
    let first = step_is causes a r.0 e r.1 in
    let rest = run_is causes r.0 events b r.2 in
    record {
      program = rest.program ∙ first.program;
      same_plan = rest.same_plan ∙ first.same_plan;
      same_budget = rest.same_budget ∙ first.same_budget;
      appended = rest.appended ∙ (ap (λ l. l ++ events) first.appended ∙ append_assoc a.events (e ∷ []) events);
      position = rest.position ∙ ap (λ p. positions p events) first.position;
    }

-- a run ends with a step
pub record EndsWith (causes : Causes) (a : BoardState) (events : List Event) (e : Event) (b : BoardState) : Type 0 where
  pub mid : BoardState
  pub run : IsRun causes a events mid
  pub step : IsStep causes mid e b

pub run_ends : (causes : Causes) (a : BoardState) (events : List Event) (e : Event) (b : BoardState) → IsRun causes a (events ++ e ∷ []) b → EndsWith causes a events e b
unfolding IsRun
run_ends causes a [] e b r = record { mid = a; run = refl; step = subst (IsStep causes a e) (sym r.2) r.1 }
run_ends causes a (f ∷ events) e b r =
    let rest = run_ends causes r.0 events e b r.2 in
    record { mid = rest.mid; run = (r.0, r.1, rest.run); step = rest.step }

run_append : (causes : Causes) (a : BoardState) (events : List Event) (b : BoardState) (more : List Event) (c : BoardState) → IsRun causes a events b → IsRun causes b more c → IsRun causes a (events ++ more) c
unfolding IsRun
run_append causes a [] b more c r s = subst (λ x. IsRun causes x more c) r s
run_append causes a (e ∷ events) b more c r s = (r.0, r.1, run_append causes r.0 events b more c r.2 s)

extends_run : (causes : Causes) (a : BoardState) (events : List Event) (b : BoardState) → IsRun causes a events b → Extends causes a b
extends_run causes a events b r =
    let is = run_is causes a events b r in
    record { events = events; run = r; appended = is.appended; program = is.program; same_plan = is.same_plan; same_budget = is.same_budget }

pub extends_same : (causes : Causes) (a b : BoardState) → b ≡ a → Extends causes a b
unfolding IsRun
extends_same causes a b e = extends_run causes a [] b e

pub extends_step : (causes : Causes) (a : BoardState) (e : Event) (b : BoardState) → IsStep causes a e b → Extends causes a b
unfolding IsRun
extends_step causes a e b s = extends_run causes a (e ∷ []) b (b, s, refl)

pub extends_trans : (causes : Causes) (a b c : BoardState) → Extends causes a b → Extends causes b c → Extends causes a c
extends_trans causes a b c x y = extends_run causes a (x.events ++ y.events) c (run_append causes a x.events b y.events c x.run y.run)

pub extends_length : (causes : Causes) (a b : BoardState) → Extends causes a b → length a.events ≤ length b.events
extends_length causes a b x = omega (arith, ap length x.appended, length-append a.events x.events)

-- a submission is a step from the state itself
abbrev state_from : VersionedProgram → List Piece → ℕ → List Event → Position → List Seen → BoardState
state_from p plan budget events position kept =
    record { program = p; plan = plan; budget = budget; events = events; position = position; kept = kept }

state_same : (a b : BoardState) → a.program ≡ b.program → a.plan ≡ b.plan → a.budget ≡ b.budget → a.events ≡ b.events → a.position ≡ b.position → a.kept ≡ b.kept → a ≡ b
state_same a b p l u e o k =
    ap (λ x. state_from x a.plan a.budget a.events a.position a.kept) p
    ∙ (ap (λ x. state_from b.program x a.budget a.events a.position a.kept) l
    ∙ (ap (λ x. state_from b.program b.plan x a.events a.position a.kept) u
    ∙ (ap (λ x. state_from b.program b.plan b.budget x a.position a.kept) e
    ∙ (ap (λ x. state_from b.program b.plan b.budget b.events x a.kept) o ∙ ap (λ x. state_from b.program b.plan b.budget b.events b.position x) k))))

kept_same : (b : Bool) (xs ys : List Seen) (x y : Seen) → (if b then xs else xs ++ x ∷ []) ≡ (if b then ys else ys ++ y ∷ []) → xs ≡ ys
kept_same true xs ys x y e = e
kept_same false xs ys x y e = last_same xs ys x y e
  where
    none_here : (y : Seen) (ys : List Seen) → [] ≡ ys ++ y ∷ [] → ⊥
    none_here y [] e = absurd (cc)
    none_here y (z ∷ ys) e = absurd (cc)

    last_same : (xs ys : List Seen) (x y : Seen) → xs ++ x ∷ [] ≡ ys ++ y ∷ [] → xs ≡ ys
    last_same [] [] x y e = refl
    last_same [] (b ∷ ys) x y e = absurd (none_here y ys (tail_same x b [] (ys ++ y ∷ []) e))
      where
        tail_same : (a b : Seen) (xs ys : List Seen) → a ∷ xs ≡ b ∷ ys → xs ≡ ys
        tail_same a b xs ys e = cc
    last_same (a ∷ xs) [] x y e = absurd (none_here x xs (sym (tail_same a y (xs ++ x ∷ []) [] e)))
      where
        tail_same : (a b : Seen) (xs ys : List Seen) → a ∷ xs ≡ b ∷ ys → xs ≡ ys
        tail_same a b xs ys e = cc
    last_same (a ∷ xs) (b ∷ ys) x y e = both (last_same xs ys x y (tail_same a b (xs ++ x ∷ []) (ys ++ y ∷ []) e)) (head_same a b (xs ++ x ∷ []) (ys ++ y ∷ []) e)
      where
        tail_same : (a b : Seen) (xs ys : List Seen) → a ∷ xs ≡ b ∷ ys → xs ≡ ys
        tail_same a b xs ys e = cc

        head_same : (a b : Seen) (xs ys : List Seen) → a ∷ xs ≡ b ∷ ys → a ≡ b
        head_same a b xs ys e = cc

        both : xs ≡ ys → a ≡ b → a ∷ xs ≡ b ∷ ys
        both e f = cc

pub given_steps : (causes : Causes) (s new : BoardState) (w k : ℕ) (what : Word) (gift : Seen) → IsBoard causes s → IsBoard causes new → new ≡ given s w k what gift → IsStep causes s (event.Submit w k what) new
given_steps causes s new w k what gift old b same =
    let e = event.Submit w k what in
    let begun = opening s.program s.plan s.budget in
    let to_new : IsRun causes begun (s.events ++ e ∷ []) new =
    subst (λ x. IsRun causes (opening x.program x.plan x.budget) x.events new) same b.run in
    let ends = run_ends causes begun s.events e new to_new in
    let mid_is = run_is causes begun s.events ends.mid ends.run in
    let old_is = run_is causes begun s.events s old.run in
    let position : ends.mid.position ≡ s.position = mid_is.position ∙ sym old_is.position in
    let gifts = ends.step.earned in
    let dropped = drops s.position (slice_get s.position.pieces k) what in
    let kept : (if dropped then s.kept else s.kept ++ gift ∷ []) ≡ (if dropped then ends.mid.kept else ends.mid.kept ++ gifts.0 ∷ []) =
    subst (λ p. (if dropped then s.kept else s.kept ++ gift ∷ []) ≡ (if drops p (slice_get p.pieces k) what then ends.mid.kept else ends.mid.kept ++ gifts.0 ∷ [])) position
    (ap (λ x. x.kept) (sym same ∙ gifts.2)) in
    let whole : ends.mid ≡ s =
    state_same ends.mid s (mid_is.program ∙ sym old_is.program) (mid_is.same_plan ∙ sym old_is.same_plan) (mid_is.same_budget ∙ sym old_is.same_budget)
    (mid_is.appended ∙ sym old_is.appended) position (sym (kept_same dropped s.kept ends.mid.kept gift gifts.0 kept)) in
    subst (λ x. IsStep causes x e new) whole ends.step
