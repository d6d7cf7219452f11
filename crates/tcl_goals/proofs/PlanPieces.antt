-- Each piece of a plan is of a goal that exists, and its cube gives values to the first free bits of its fact.
use Rattle.std.proofs.Common.{◌≡◌, ℕ, zero, suc, ◌+◌, ◌^◌, ◌<◌, refl, sym, ◌∙◌, ap, subst, arith, true, List, [], ◌∷◌, ◌++◌, length, map, take, flat_map, Some, None}
use Rattle.std.specs.List.{slice_get}
use Rattle.std.proofs.lemmas.Bool.{lt-ltb}
use Rattle.tcl_list.proofs.Booleans.{cond_cases}
use Rattle.tcl_lang.specs.Program.{VersionedProgram}
use Rattle.tcl_lang.specs.Goal.{goal_count}
use Rattle.tcl_goals.specs.declared.fact.Bit.{Bit}
use Rattle.tcl_goals.specs.declared.piece.Route.{Route}
use Rattle.tcl_goals.specs.declared.piece.Route.TheVariants as route
use Rattle.tcl_goals.specs.declared.piece.Piece.{Piece}
use Rattle.tcl_goals.specs.Numbers.{those_below, numbers_below}
use Rattle.tcl_goals.specs.Places.{has_goal}
use Rattle.tcl_goals.specs.Slices.{route_fact}
use Rattle.tcl_goals.specs.Free.{free_bits}
use Rattle.tcl_goals.specs.Plans.{nth_cube, is_algebraic_goal, split_bits, cube_pieces, goal_pieces, number_from, plan_of, bit_at, IsPiece}

-- a fact of each item of a list
abbrev Each : {X : Type 0} → (X → Type 0) → List X → Type 0
Each P [] = Unit {0}
Each P (x ∷ xs) = P x × Each P xs

each_both : {X : Type 0} (P : X → Type 0) (xs ys : List X) → Each P xs → Each P ys → Each P (xs ++ ys)
each_both P [] ys a b = b
each_both P (x ∷ xs) ys a b = (a.0, each_both P xs ys a.1 b)

each_map : {X Y : Type 0} (P : Y → Type 0) (f : X → Y) → ((x : X) → P (f x)) → (xs : List X) → Each P (map f xs)
each_map P f h [] = tt
each_map P f h (x ∷ xs) = (h x, each_map P f h xs)

each_flat : {X Y : Type 0} (Q : X → Type 0) (P : Y → Type 0) (f : X → List Y) → ((x : X) → Q x → Each P (f x)) → (xs : List X) → Each Q xs → Each P (flat_map f xs)
each_flat Q P f h [] a = tt
each_flat Q P f h (x ∷ xs) a = each_both P (f x) (flat_map f xs) (h x a.0) (each_flat Q P f h xs a.1)

each_at : {X : Type 0} (P : X → Type 0) (xs : List X) (n : ℕ) (x : X) → Each P xs → slice_get xs n ≡ Some x → P x
each_at P [] n x a e = absurd (none_some e)
  where
    none_some : {X : Type 0} {x : X} → None ≡ Some x → ⊥
    none_some f = cc
each_at P (y ∷ xs) zero x a e = subst P (some_same y x e) a.0
  where
    some_same : {X : Type 0} (y x : X) → Some y ≡ Some x → y ≡ x
    some_same y x f = cc
each_at P (y ∷ xs) (suc n) x a e = each_at P xs n x a.1 e

-- all numbers below n are
each_longer : (n : ℕ) (ks : List ℕ) → Each (λ k. k < n) ks → Each (λ k. k < suc n) ks
each_longer n [] a = tt
each_longer n (k ∷ ks) a = (omega (arith, a.0), each_longer n ks a.1)

each_below : (n : ℕ) → Each (λ k. k < n) (numbers_below n)
unfolding those_below
each_below zero = tt
each_below (suc n) = each_both (λ k. k < suc n) (numbers_below n) (n ∷ []) (each_longer n (numbers_below n) (each_below n)) (omega arith, tt)

-- the bits of a cube, and how many there are
cube_bits : (bits : List Bit) (n : ℕ) → map bit_at (nth_cube bits n) ≡ bits
cube_bits [] n = refl
cube_bits (b ∷ bits) n = ap (λ bs. b ∷ bs) (cube_bits bits n)

cube_length : (bits : List Bit) (n : ℕ) → length (nth_cube bits n) ≡ length bits
cube_length [] n = refl
cube_length (b ∷ bits) n = ap suc (cube_length bits n)

take_own : (k : ℕ) (bits : List Bit) → take (length (take k bits)) bits ≡ take k bits
take_own zero bits = refl
take_own (suc k) [] = refl
take_own (suc k) (b ∷ bits) = ap (λ bs. b ∷ bs) (take_own k bits)

split_first : (p : VersionedProgram) (split i : ℕ) (r : Route) → take (length (split_bits p split i r)) (free_bits p [] (route_fact p i r)) ≡ split_bits p split i r
split_first p split i r =
    let free = free_bits p [] (route_fact p i r) in
    cond_cases (λ bits. take (length bits) free ≡ bits) (is_algebraic_goal p.lines i) [] (take split free) (λ e. refl) (λ e. take_own split free)

-- the pieces of a route
route_pieces : (p : VersionedProgram) (split i : ℕ) (r : Route) → has_goal p.lines i ≡ true → Each (IsPiece p) (cube_pieces i r (split_bits p split i r))
route_pieces p split i r exists =
    let bits = split_bits p split i r in
    let free = free_bits p [] (route_fact p i r) in
    each_map (IsPiece p) (λ n. record { number = 0; goal = i; route = r; cube = nth_cube bits n })
    (λ n. record {
      goal = exists;
      cube = cube_bits bits n ∙ sym (split_first p split i r) ∙ ap (λ k. take k free) (sym (cube_length bits n));
    })
    (numbers_below (2 ^ length bits))

pieces_of_goal : (p : VersionedProgram) (split i : ℕ) → i < goal_count p.lines → Each (IsPiece p) (goal_pieces p split i)
pieces_of_goal p split i h =
    each_both (IsPiece p) (cube_pieces i route.Cut (split_bits p split i route.Cut)) (cube_pieces i route.Whole (split_bits p split i route.Whole))
    (route_pieces p split i route.Cut (lt-ltb i (goal_count p.lines) h)) (route_pieces p split i route.Whole (lt-ltb i (goal_count p.lines) h))

-- a number changes nothing
numbered : (p : VersionedProgram) (n : ℕ) (pieces : List Piece) → Each (IsPiece p) pieces → Each (IsPiece p) (number_from n pieces)
numbered p n [] a = tt
numbered p n (q ∷ pieces) a = (record { goal = a.0.goal; cube = a.0.cube }, numbered p (n + 1) pieces a.1)

pub plans_have_pieces : (p : VersionedProgram) (split n : ℕ) (q : Piece) → slice_get (plan_of p split) n ≡ Some q → IsPiece p q
unfolding plan_of
plans_have_pieces p split n q at =
    each_at (IsPiece p) (number_from 0 (flat_map (goal_pieces p split) (numbers_below (goal_count p.lines)))) n q
    (numbered p 0 (flat_map (goal_pieces p split) (numbers_below (goal_count p.lines)))
    (each_flat (λ i. i < goal_count p.lines) (IsPiece p) (goal_pieces p split) (λ i h. pieces_of_goal p split i h) (numbers_below (goal_count p.lines)) (each_below (goal_count p.lines))))
    at
