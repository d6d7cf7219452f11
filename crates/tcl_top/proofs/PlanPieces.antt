-- The pieces of a plan without splits have no cubes, and a board keeps the pieces of its plan.
use Rattle.std.proofs.Common.{◌≡◌, ℕ, zero, suc, ◌+◌, Bool, true, false, List, [], ◌∷◌, ◌++◌, map, take, flat_map, refl, sym, ◌∙◌, ap, Option, Some, if◌then◌else◌}
use Rattle.std.specs.List.{slice_get}
use Rattle.tcl_lang.specs.Program.{VersionedProgram}
use Rattle.tcl_lang.specs.Goal.{goal_count}
use Rattle.tcl_goals.specs.declared.piece.Piece.{Piece}
use Rattle.tcl_goals.specs.declared.piece.Route.{Route}
use Rattle.tcl_goals.specs.declared.piece.Route.TheVariants as route
use Rattle.tcl_goals.specs.declared.fact.Bit.{Bit}
use Rattle.tcl_goals.specs.Numbers.{numbers_below}
use Rattle.tcl_goals.specs.Slices.{route_fact}
use Rattle.tcl_goals.specs.Free.{free_bits}
use Rattle.tcl_goals.specs.Plans.{is_algebraic_goal, split_bits, cube_pieces, goal_pieces, number_from, plan_of}
use Rattle.tcl_board.specs.declared.event.Event.{Event}
use Rattle.tcl_board.specs.declared.event.Event.TheVariants as event
use Rattle.tcl_board.specs.declared.event.Admitted.TheVariants as admitted
use Rattle.tcl_board.specs.declared.event.Word.{Word}
use Rattle.tcl_board.specs.Shows.{Causes}
use Rattle.tcl_board.specs.Moves.{Position, submitted, moved}
use Rattle.tcl_board.specs.State.{BoardState}
use Rattle.tcl_board.specs.Steps.{Earns, IsRun}

-- no piece of the list has a cube
abbrev AreBare : List Piece → Type 0
AreBare pieces = (k : ℕ) (q : Piece) → slice_get pieces k ≡ Some q → q.cube ≡ []

none_bare : AreBare []
none_bare k q e = absurd (cc)

more_bare : (x : Piece) (pieces : List Piece) → x.cube ≡ [] → AreBare pieces → AreBare (x ∷ pieces)
more_bare x pieces e rest zero q at = let same : x ≡ q = cc in ap (λ (y : Piece). y.cube) (sym same) ∙ e
more_bare x pieces e rest (suc k) q at = rest k q at

both_bare : (xs ys : List Piece) → AreBare xs → AreBare ys → AreBare (xs ++ ys)
both_bare [] ys a b = b
both_bare (x ∷ xs) ys a b = more_bare x (xs ++ ys) (a 0 x refl) (both_bare xs ys (λ k q e. a (suc k) q e) b)

mapped_bare : (i : ℕ) (r : Route) (ns : List ℕ) → AreBare (map (λ n. record { number = 0; goal = i; route = r; cube = [] }) ns)
mapped_bare i r [] = none_bare
mapped_bare i r (n ∷ ns) = more_bare _ _ refl (mapped_bare i r ns)

no_bits : (b : Bool) (bits : List Bit) → (if b then [] else take 0 bits) ≡ []
no_bits true bits = refl
no_bits false bits = refl

route_bare : (p : VersionedProgram) (i : ℕ) (r : Route) (bits : List Bit) → bits ≡ [] → AreBare (cube_pieces i r bits)
route_bare p i r [] e = mapped_bare i r (numbers_below 1)
route_bare p i r (b ∷ bits) e = absurd (cc)

goal_bare : (p : VersionedProgram) (i : ℕ) → AreBare (goal_pieces p 0 i)
goal_bare p i =
    both_bare _ _
    (route_bare p i route.Cut (split_bits p 0 i route.Cut) (no_bits (is_algebraic_goal p.lines i) (free_bits p [] (route_fact p i route.Cut))))
    (route_bare p i route.Whole (split_bits p 0 i route.Whole) (no_bits (is_algebraic_goal p.lines i) (free_bits p [] (route_fact p i route.Whole))))

all_bare : (p : VersionedProgram) (ns : List ℕ) → AreBare (flat_map (goal_pieces p 0) ns)
all_bare p [] = none_bare
all_bare p (n ∷ ns) = both_bare (goal_pieces p 0 n) (flat_map (goal_pieces p 0) ns) (goal_bare p n) (all_bare p ns)

numbered_bare : (n : ℕ) (pieces : List Piece) → AreBare pieces → AreBare (number_from n pieces)
numbered_bare n [] a = none_bare
numbered_bare n (q ∷ pieces) a = more_bare _ _ (a 0 q refl) (numbered_bare (n + 1) pieces (λ k x e. a (suc k) x e))

pub plan_bare : (p : VersionedProgram) (k : ℕ) (q : Piece) → slice_get (plan_of p 0) k ≡ Some q → q.cube ≡ []
unfolding plan_of
plan_bare p = numbered_bare 0 _ (all_bare p (numbers_below (goal_count p.lines)))

-- a step keeps the pieces
submitted_keeps : (p : Position) (q : ℕ) (o : Option Piece) (what : Word) → (submitted p q o what).pieces ≡ p.pieces
submitted_keeps p q o what = refl

moved_keeps : (p : Position) (e : Event) → (moved p e).pieces ≡ p.pieces
moved_keeps p (event.Claim w q) = refl
moved_keeps p (event.Submit w q what) = submitted_keeps p q (slice_get p.pieces q) what
moved_keeps p (event.Admit (admitted.Goal g)) = refl
moved_keeps p (event.Admit (admitted.Lemma n)) = refl
moved_keeps p (event.Cancel w q) = refl

step_keeps : (causes : Causes) (old : BoardState) (e : Event) (new : BoardState) → Earns causes old e new → new.position.pieces ≡ old.position.pieces
step_keeps causes old (event.Claim w q) new x = ap (λ (s : BoardState). s.position.pieces) x
step_keeps causes old (event.Submit w q what) new x =
    ap (λ (s : BoardState). s.position.pieces) x.2 ∙ submitted_keeps old.position q (slice_get old.position.pieces q) what
step_keeps causes old (event.Admit (admitted.Goal g)) new x = ap (λ (s : BoardState). s.position.pieces) x
step_keeps causes old (event.Admit (admitted.Lemma n)) new x = ap (λ (s : BoardState). s.position.pieces) x
step_keeps causes old (event.Cancel w q) new x = ap (λ (s : BoardState). s.position.pieces) x

pub run_keeps : (causes : Causes) (old : BoardState) (events : List Event) (new : BoardState) → IsRun causes old events new → new.position.pieces ≡ old.position.pieces
unfolding IsRun
run_keeps causes old [] new x = ap (λ (s : BoardState). s.position.pieces) x
run_keeps causes old (e ∷ events) new x = run_keeps causes x.0 events new x.2 ∙ step_keeps causes old e x.0 x.1.earned
