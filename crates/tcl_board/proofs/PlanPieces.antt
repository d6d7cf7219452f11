-- The pieces of a plan are numbered, and the cubes of each route of a goal cover every assignment.
use Rattle.std.proofs.Common.{◌≡◌, refl, sym, ap, ◌∙◌, subst, inl, inr, ℕ, zero, suc, ◌+◌, ◌*◌, ◌/◌, ◌%◌, ◌^◌, ◌<◌, arith, Bool, true, false, not, ◌&&◌, ◌==◌, nat_lt, if◌then◌else◌, List, [], ◌∷◌, ◌++◌, length, map, flat_map, Option, Some, None}
use Rattle.std.specs.List.{slice_get}
use Rattle.std.proofs.lemmas.Bool.{and_from, and_parts}
use Rattle.std.proofs.lemmas.Nat.{div-mul-add}
use Rattle.std.proofs.lemmas.Grind.{flat_map-append}
use Rattle.std.proofs.Math.Nat.{mul_assoc, mul_comm, pow-suc, mul-add-div_right, mul-add-mod_self_right}
use Rattle.tcl_lang.specs.declared.ty.Word.{Word}
use Rattle.tcl_lang.specs.declared.pred.Line.{Line}
use Rattle.tcl_lang.specs.Store.{word_at}
use Rattle.tcl_lang.specs.Program.{VersionedProgram}
use Rattle.tcl_lang.specs.Goal.{goal_count}
use Rattle.tcl_goals.specs.declared.fact.Bit.{Bit}
use Rattle.tcl_goals.specs.declared.fact.BitLit.{BitLit}
use Rattle.tcl_goals.specs.declared.piece.Piece.{Piece}
use Rattle.tcl_goals.specs.declared.piece.Route.{Route}
use Rattle.tcl_goals.specs.declared.piece.Route.TheVariants as route
use Rattle.tcl_goals.specs.Numbers.{those_below, numbers_below}
use Rattle.tcl_goals.specs.Holds.{bit_of, bit_holds, cube_holds}
use Rattle.tcl_goals.specs.Plans.{nth_cube, split_bits, cube_pieces, goal_pieces, number_from, plan_of}
use Rattle.tcl_goals.specs.Laws.{PlansHavePieces}
use Rattle.tcl_board.specs.Covers.{Covers}
use Rattle.tcl_board.specs.Kept.{IsPlan, ArePieces}
use Rattle.tcl_board.proofs.Firsts.{lt_or_same}
use Rattle.tcl_board.proofs.Moving.{below_is}

-- an item of the list has the property
record Has {X : Type 0} (P : X → Type 0) (xs : List X) : Type 0 where
  place : ℕ
  item : X
  at : slice_get xs place ≡ Some item
  is : P item

has_first : {X : Type 0} (P : X → Type 0) (x : X) (xs : List X) → P x → Has P (x ∷ xs)
has_first P x xs t = record { place = 0; item = x; at = refl; is = t }

has_later : {X : Type 0} (P : X → Type 0) (x : X) (xs : List X) → Has P xs → Has P (x ∷ xs)
has_later P x xs h = record { place = suc h.place; item = h.item; at = h.at; is = h.is }

has_right : {X : Type 0} (P : X → Type 0) (xs ys : List X) → Has P ys → Has P (xs ++ ys)
has_right P [] ys h = h
has_right P (x ∷ xs) ys h = has_later P x (xs ++ ys) (has_right P xs ys h)

has_left : {X : Type 0} (P : X → Type 0) (xs ys : List X) → Has P xs → Has P (xs ++ ys)
has_left P xs ys h = record { place = h.place; item = h.item; at = get_left xs ys h.place h.item h.at; is = h.is }
  where
    get_left : {X : Type 0} (xs ys : List X) (k : ℕ) (x : X) → slice_get xs k ≡ Some x → slice_get (xs ++ ys) k ≡ Some x
    get_left [] ys k x e = absurd (cc)
    get_left (a ∷ xs) ys zero x e = e
    get_left (a ∷ xs) ys (suc k) x e = get_left xs ys k x e

-- in a list that is mapped
has_map : {X Y : Type 0} (P : Y → Type 0) (f : X → Y) (xs : List X) (k : ℕ) (x : X) → slice_get xs k ≡ Some x → P (f x) → Has P (map f xs)
has_map P f [] k x e t = absurd (cc)
has_map P f (a ∷ xs) zero x e t = has_first P (f a) (map f xs) (subst (λ y. P (f y)) (sym (some_is a x e)) t)
  where
    some_is : {X : Type 0} (a x : X) → Some a ≡ Some x → a ≡ x
    some_is a x e = cc
has_map P f (a ∷ xs) (suc k) x e t = has_later P (f a) (map f xs) (has_map P f xs k x e t)

has_flat : {X Y : Type 0} (P : Y → Type 0) (f : X → List Y) (xs : List X) (k : ℕ) (x : X) → slice_get xs k ≡ Some x → Has P (f x) → Has P (flat_map f xs)
has_flat P f [] k x e t = absurd (cc)
has_flat P f (a ∷ xs) zero x e t = has_left P (f a) (flat_map f xs) (subst (λ y. Has P (f y)) (sym (some_is a x e)) t)
  where
    some_is : {X : Type 0} (a x : X) → Some a ≡ Some x → a ≡ x
    some_is a x e = cc
has_flat P f (a ∷ xs) (suc k) x e t = has_right P (f a) (flat_map f xs) (has_flat P f xs k x e t)

-- a number below n is one of all numbers below n
below_here : (n k : ℕ) → k < n → Has (λ m. m ≡ k) (numbers_below n)
unfolding those_below
below_here zero k h = absurd (omega arith)
below_here (suc n) k h = elim (lt_or_same k n h) [
  | inl less ↦ has_left (λ m. m ≡ k) (numbers_below n) (n ∷ []) (below_here n k less)
  | inr same ↦ has_right (λ m. m ≡ k) (numbers_below n) (n ∷ []) (has_first (λ m. m ≡ k) n [] (sym same))
]

-- what is said of the pieces of a route, whatever their numbers
record IsOf (g : ℕ) (r : Route) (store : List Word) (q : Piece) : Type 0 where
  goal : q.goal ≡ g
  route : q.route ≡ r
  holds : cube_holds store q.cube ≡ true

has_number : (g : ℕ) (r : Route) (store : List Word) (n : ℕ) (pieces : List Piece) → Has (IsOf g r store) pieces → Has (IsOf g r store) (number_from n pieces)
has_number g r store n pieces h = numbered g r store n pieces h.place h.item h.at h.is
  where
    some_is : {X : Type 0} (a x : X) → Some a ≡ Some x → a ≡ x
    some_is a x e = cc

    renumbered : (g : ℕ) (r : Route) (store : List Word) (n : ℕ) (q : Piece) → IsOf g r store q → IsOf g r store (record q { number = n })
    renumbered g r store n q t = record { goal = t.goal; route = t.route; holds = t.holds }

    numbered : (g : ℕ) (r : Route) (store : List Word) (n : ℕ) (pieces : List Piece) (k : ℕ) (q : Piece) → slice_get pieces k ≡ Some q → IsOf g r store q → Has (IsOf g r store) (number_from n pieces)
    numbered g r store n [] k q e t = absurd (cc)
    numbered g r store n (p ∷ pieces) zero q e t =
        has_first (IsOf g r store) (record p { number = n }) (number_from (n + 1) pieces) (renumbered g r store n p (subst (IsOf g r store) (sym (some_is p q e)) t))
    numbered g r store n (p ∷ pieces) (suc k) q e t =
        has_later (IsOf g r store) (record p { number = n }) (number_from (n + 1) pieces) (numbered g r store (n + 1) pieces k q e t)

-- a multiple of the number of cubes changes no bit
pow_positive : (n : ℕ) → 0 < 2 ^ n
pow_positive zero = omega arith
pow_positive (suc n) = omega (arith, pow-suc 2 n, pow_positive n)

twice : (a n m : ℕ) → a * 2 ^ suc n + m ≡ a * 2 * 2 ^ n + m
twice a n m = ap (λ k. a * k + m) (pow-suc 2 n) ∙ regroup a (2 ^ n) m
  where
    regroup : (a k m : ℕ) → a * (k * 2) + m ≡ a * 2 * k + m
    regroup a k m = ap (λ t. t + m) (ap (λ t. a * t) (mul_comm k 2) ∙ sym (mul_assoc a 2 k))

digit_stays : (a n m : ℕ) → (a * 2 ^ suc n + m) / 2 ^ n % 2 ≡ m / 2 ^ n % 2
digit_stays a n m =
    ap (λ k. k / 2 ^ n % 2) (twice a n m)
    ∙ (ap (λ k. k % 2) (mul-add-div_right (pow_positive n) (a * 2) m) ∙ mul-add-mod_self_right a 2 (m / 2 ^ n))

cube_stays : (bits : List Bit) (a m : ℕ) → nth_cube bits (a * 2 ^ length bits + m) ≡ nth_cube bits m
cube_stays [] a m = refl
cube_stays (b ∷ bits) a m =
    ap (λ d. record { var = b.var; bit = b.bit; value = d == 1 } ∷ nth_cube bits (a * 2 ^ length (b ∷ bits) + m)) (digit_stays a (length bits) m)
    ∙ ap (λ c. record { var = b.var; bit = b.bit; value = m / 2 ^ length bits % 2 == 1 } ∷ c)
    (ap (nth_cube bits) (twice a (length bits) m) ∙ cube_stays bits (a * 2) m)

-- the cube that holds in a store
record Cover (bits : List Bit) (store : List Word) : Type 0 where
  number : ℕ
  below : number < 2 ^ length bits
  holds : cube_holds store (nth_cube bits number) ≡ true

digit_of : Bool → ℕ
digit_of true = 1
digit_of false = 0

digit_few : (v : Bool) → digit_of v < 2
unfolding digit_of
digit_few true = omega arith
digit_few false = omega arith

digit_is : (v : Bool) → (digit_of v % 2 == 1) ≡ v
unfolding digit_of
digit_is true = refl
digit_is false = refl

own_value : (store : List Word) (b : BitLit) → b.value ≡ bit_of (word_at store b.var) b.bit → bit_holds store b ≡ true
own_value store b e = value_holds b.value (bit_of (word_at store b.var) b.bit) e
  where
    value_holds : (v w : Bool) → v ≡ w → (if v then w else not w) ≡ true
    value_holds true true e = refl
    value_holds true false e = absurd (cc)
    value_holds false true e = absurd (cc)
    value_holds false false e = refl

cover_of : (bits : List Bit) (store : List Word) → Cover bits store
cover_of [] store = record { number = 0; below = omega arith; holds = refl }
cover_of (b ∷ bits) store =
    let rest = cover_of bits store in
    let v = bit_of (word_at store b.var) b.bit in
    let d = digit_of v in
    let n = d * 2 ^ length bits + rest.number in
    let first : n / 2 ^ length bits ≡ d = div-mul-add d (2 ^ length bits) rest.number rest.below in
    let value : (n / 2 ^ length bits % 2 == 1) ≡ v = ap (λ k. k % 2 == 1) first ∙ digit_is v in
    record {
      number = n;
      below = bounded d (2 ^ length bits) rest.number (2 ^ suc (length bits)) (digit_few v) rest.below (pow-suc 2 (length bits));
      holds = and_from (bit_holds store (record { var = b.var; bit = b.bit; value = n / 2 ^ length bits % 2 == 1 })) (cube_holds store (nth_cube bits n))
          (own_value store (record { var = b.var; bit = b.bit; value = n / 2 ^ length bits % 2 == 1 }) value)
          (ap (cube_holds store) (cube_stays bits d rest.number) ∙ rest.holds);
    }
  where
    bounded : (d k m p : ℕ) → d < 2 → m < k → p ≡ k * 2 → d * k + m < p
    bounded zero k m p h less e = omega (arith, less, e)
    bounded (suc zero) k m p h less e = omega (arith, less, e)
    bounded (suc (suc d)) k m p h less e = absurd (omega (arith, h))

-- the pieces of a route cover
route_covers : (g : ℕ) (r : Route) (bits : List Bit) (store : List Word) → Has (IsOf g r store) (cube_pieces g r bits)
route_covers g r bits store =
    let c = cover_of bits store in
    let here = below_here (2 ^ length bits) c.number c.below in
    has_map (IsOf g r store) (λ n. record { number = 0; goal = g; route = r; cube = nth_cube bits n }) (numbers_below (2 ^ length bits)) here.place here.item here.at
    (record { goal = refl; route = refl; holds = ap (λ n. cube_holds store (nth_cube bits n)) here.is ∙ c.holds })

goal_covers : (p : VersionedProgram) (split g : ℕ) (r : Route) (store : List Word) → Has (IsOf g r store) (goal_pieces p split g)
goal_covers p split g route.Cut store =
    has_left (IsOf g route.Cut store) (cube_pieces g route.Cut (split_bits p split g route.Cut)) (cube_pieces g route.Whole (split_bits p split g route.Whole))
    (route_covers g route.Cut (split_bits p split g route.Cut) store)
goal_covers p split g route.Whole store =
    has_right (IsOf g route.Whole store) (cube_pieces g route.Cut (split_bits p split g route.Cut)) (cube_pieces g route.Whole (split_bits p split g route.Whole))
    (route_covers g route.Whole (split_bits p split g route.Whole) store)

plan_covers : (p : VersionedProgram) (split g : ℕ) (r : Route) → g < goal_count p.lines → Covers (plan_of p split) g r
unfolding plan_of
plan_covers p split g r h store =
    let goals = numbers_below (goal_count p.lines) in
    let here = below_here (goal_count p.lines) g h in
    let found =
    has_number g r store 0 (flat_map (goal_pieces p split) goals)
    (has_flat (IsOf g r store) (goal_pieces p split) goals here.place here.item here.at (subst (λ i. Has (IsOf g r store) (goal_pieces p split i)) (sym here.is) (goal_covers p split g r store))) in
    record { number = found.place; piece = found.item; at = found.at; goal = found.is.goal; route = found.is.route; holds = found.is.holds }

-- pieces are numbered from 0
numbers_at : (n : ℕ) (pieces : List Piece) (k : ℕ) (q : Piece) → slice_get (number_from n pieces) k ≡ Some q → q.number ≡ n + k
numbers_at n [] k q e = absurd (cc)
numbers_at n (p ∷ pieces) zero q e = sym (first_number n p q e) ∙ none_more n
  where
    none_more : (n : ℕ) → n ≡ n + 0
    none_more n = omega arith

    first_number : (n : ℕ) (p q : Piece) → Some (record p { number = n }) ≡ Some q → n ≡ q.number
    first_number n p q e = ap (λ o. number_in n o) e
      where
        number_in : ℕ → Option Piece → ℕ
        number_in n None = n
        number_in n (Some q) = q.number
numbers_at n (p ∷ pieces) (suc k) q e = numbers_at (n + 1) pieces k q e ∙ next n k
  where
    next : (n k : ℕ) → n + 1 + k ≡ n + suc k
    next n k = omega arith

plan_numbers : (p : VersionedProgram) (split k : ℕ) (q : Piece) → slice_get (plan_of p split) k ≡ Some q → q.number ≡ k
unfolding plan_of
plan_numbers p split k q e = numbers_at 0 (flat_map (goal_pieces p split) (numbers_below (goal_count p.lines))) k q e ∙ omega arith

-- a fact of each item of a list
abbrev Each : {X : Type 0} → (X → Type 0) → List X → Type 0
Each P [] = Unit {0}
Each P (x ∷ xs) = P x × Each P xs

each_both : {X : Type 0} (P : X → Type 0) (xs ys : List X) → Each P xs → Each P ys → Each P (xs ++ ys)
each_both P [] ys a b = b
each_both P (x ∷ xs) ys a b = (a.0, each_both P xs ys a.1 b)

each_map : {X Y : Type 0} (P : Y → Type 0) (f : X → Y) → ((x : X) → P (f x)) → (xs : List X) → Each P (map f xs)
each_map P f h [] = tt
each_map P f h (x ∷ xs) = (h x, each_map P f h xs)

each_imp : {X : Type 0} (P Q : X → Type 0) → ((x : X) → P x → Q x) → (xs : List X) → Each P xs → Each Q xs
each_imp P Q h [] a = tt
each_imp P Q h (x ∷ xs) a = (h x a.0, each_imp P Q h xs a.1)

each_at : {X : Type 0} (P : X → Type 0) (xs : List X) (n : ℕ) (x : X) → Each P xs → slice_get xs n ≡ Some x → P x
each_at P [] n x a e = absurd (cc)
each_at P (y ∷ xs) zero x a e = subst P (some_same y x e) a.0
  where
    some_same : {X : Type 0} (y x : X) → Some y ≡ Some x → y ≡ x
    some_same y x f = cc
each_at P (y ∷ xs) (suc n) x a e = each_at P xs n x a.1 e

-- behind a whole piece the goal has whole pieces alone
abbrev Behind : Piece → Piece → Type 0
Behind q later = q.goal ≡ later.goal → q.route ≡ route.Whole → later.route ≡ route.Whole

abbrev Ordered : List Piece → Type 0
Ordered [] = Unit {0}
Ordered (q ∷ pieces) = Each (Behind q) pieces × Ordered pieces

ordered_apart : (xs ys : List Piece) (n : ℕ) → Each (λ q. q.goal < n) xs → Each (λ q. q.goal ≡ n) ys → Ordered xs → Ordered ys → Ordered (xs ++ ys)
ordered_apart [] ys n few same a b = b
ordered_apart (x ∷ xs) ys n few same a b =
    (each_both (Behind x) xs ys a.0 (each_imp (λ q. q.goal ≡ n) (Behind x) (λ q e f w. absurd (other x.goal q.goal n few.0 e f)) ys same), ordered_apart xs ys n few.1 same a.1 b)
  where
    other : (a b n : ℕ) → a < n → b ≡ n → a ≡ b → ⊥
    other a b n h e f = omega (arith, h, e, f)

-- the pieces of a route
record IsIn (g : ℕ) (r : Route) (q : Piece) : Type 0 where
  goal : q.goal ≡ g
  route : q.route ≡ r

route_in : (g : ℕ) (r : Route) (bits : List Bit) → Each (IsIn g r) (cube_pieces g r bits)
route_in g r bits = each_map (IsIn g r) (λ n. record { number = 0; goal = g; route = r; cube = nth_cube bits n }) (λ n. record { goal = refl; route = refl }) (numbers_below (2 ^ length bits))

ordered_whole : (g : ℕ) (pieces : List Piece) → Each (IsIn g route.Whole) pieces → Ordered pieces
ordered_whole g [] a = tt
ordered_whole g (q ∷ pieces) a = (each_imp (IsIn g route.Whole) (Behind q) (λ p i e w. i.route) pieces a.1, ordered_whole g pieces a.1)

cut_whole : (q : Piece) → q.route ≡ route.Cut → q.route ≡ route.Whole → ⊥
cut_whole q e f = clash (sym e ∙ f)
  where
    clash : route.Cut ≡ route.Whole → ⊥
    clash e = absurd (cc)

ordered_cut : (g : ℕ) (cut whole : List Piece) → Each (IsIn g route.Cut) cut → Ordered whole → Ordered (cut ++ whole)
ordered_cut g [] whole a b = b
ordered_cut g (q ∷ cut) whole a b = (behind_cut (cut ++ whole), ordered_cut g cut whole a.1 b)
  where
    behind_cut : (pieces : List Piece) → Each (Behind q) pieces
    behind_cut [] = tt
    behind_cut (p ∷ pieces) = (λ e w. absurd (cut_whole q a.0.route w), behind_cut pieces)

goal_ordered : (p : VersionedProgram) (split g : ℕ) → Ordered (goal_pieces p split g)
goal_ordered p split g =
    ordered_cut g (cube_pieces g route.Cut (split_bits p split g route.Cut)) (cube_pieces g route.Whole (split_bits p split g route.Whole))
    (route_in g route.Cut (split_bits p split g route.Cut))
    (ordered_whole g (cube_pieces g route.Whole (split_bits p split g route.Whole)) (route_in g route.Whole (split_bits p split g route.Whole)))

goal_same : (p : VersionedProgram) (split g : ℕ) → Each (λ q. q.goal ≡ g) (goal_pieces p split g)
goal_same p split g =
    each_both (λ q. q.goal ≡ g) (cube_pieces g route.Cut (split_bits p split g route.Cut)) (cube_pieces g route.Whole (split_bits p split g route.Whole))
    (each_imp (IsIn g route.Cut) (λ q. q.goal ≡ g) (λ q i. i.goal) (cube_pieces g route.Cut (split_bits p split g route.Cut)) (route_in g route.Cut (split_bits p split g route.Cut)))
    (each_imp (IsIn g route.Whole) (λ q. q.goal ≡ g) (λ q i. i.goal) (cube_pieces g route.Whole (split_bits p split g route.Whole)) (route_in g route.Whole (split_bits p split g route.Whole)))

below_suc : (n : ℕ) → numbers_below (suc n) ≡ numbers_below n ++ n ∷ []
unfolding those_below
below_suc n = refl

append_none : (xs : List Piece) → xs ++ [] ≡ xs
append_none [] = refl
append_none (x ∷ xs) = ap (λ l. x ∷ l) (append_none xs)

upto_more : (p : VersionedProgram) (split n : ℕ) → flat_map (goal_pieces p split) (numbers_below (suc n)) ≡ flat_map (goal_pieces p split) (numbers_below n) ++ goal_pieces p split n
upto_more p split n =
    ap (flat_map (goal_pieces p split)) (below_suc n)
    ∙ (flat_map-append (goal_pieces p split) (numbers_below n) (n ∷ []) ∙ ap (λ l. flat_map (goal_pieces p split) (numbers_below n) ++ l) (append_none (goal_pieces p split n)))

upto_below : (p : VersionedProgram) (split n : ℕ) → Each (λ q. q.goal < n) (flat_map (goal_pieces p split) (numbers_below n))
unfolding those_below
upto_below p split zero = tt
upto_below p split (suc n) =
    let old = flat_map (goal_pieces p split) (numbers_below n) in
    subst (Each (λ q. q.goal < suc n)) (sym (upto_more p split n))
    (each_both (λ q. q.goal < suc n) old (goal_pieces p split n) (each_imp (λ q. q.goal < n) (λ q. q.goal < suc n) (λ q h. omega (arith, h)) old (upto_below p split n))
    (each_imp (λ q. q.goal ≡ n) (λ q. q.goal < suc n) (λ q e. omega (arith, e)) (goal_pieces p split n) (goal_same p split n)))

upto_ordered : (p : VersionedProgram) (split n : ℕ) → Ordered (flat_map (goal_pieces p split) (numbers_below n))
unfolding those_below
upto_ordered p split zero = tt
upto_ordered p split (suc n) =
    subst Ordered (sym (upto_more p split n))
    (ordered_apart (flat_map (goal_pieces p split) (numbers_below n)) (goal_pieces p split n) n (upto_below p split n) (goal_same p split n) (upto_ordered p split n) (goal_ordered p split n))

behind_numbered : (q : Piece) (m n : ℕ) (pieces : List Piece) → Each (Behind q) pieces → Each (Behind (record q { number = m })) (number_from n pieces)
behind_numbered q m n [] a = tt
behind_numbered q m n (p ∷ pieces) a = (λ e w. a.0 e w, behind_numbered q m (n + 1) pieces a.1)

ordered_numbered : (n : ℕ) (pieces : List Piece) → Ordered pieces → Ordered (number_from n pieces)
ordered_numbered n [] a = tt
ordered_numbered n (q ∷ pieces) a = (behind_numbered q n (n + 1) pieces a.0, ordered_numbered (n + 1) pieces a.1)

ordered_at : (pieces : List Piece) (j k : ℕ) (one other : Piece) → Ordered pieces → slice_get pieces j ≡ Some one → slice_get pieces k ≡ Some other → one.goal ≡ other.goal → one.route ≡ route.Whole → other.route ≡ route.Cut → k < j
ordered_at [] j k one other o e f same w c = absurd (none_is one e)
  where
    none_is : (x : Piece) → None ≡ Some x → ⊥
    none_is x e = absurd (cc)
ordered_at (q ∷ pieces) zero zero one other o e f same w c = absurd (cut_whole other c (subst (λ x. x.route ≡ route.Whole) (some_same one other (sym e ∙ f)) w))
  where
    some_same : (x y : Piece) → Some x ≡ Some y → x ≡ y
    some_same x y f = cc
ordered_at (q ∷ pieces) zero (suc k) one other o e f same w c =
    let behind = each_at (Behind q) pieces k other o.0 f in
    let here : q ≡ one = some_same q one e in
    absurd (cut_whole other c (behind (ap (λ x. x.goal) here ∙ same) (ap (λ x. x.route) here ∙ w)))
  where
    some_same : (x y : Piece) → Some x ≡ Some y → x ≡ y
    some_same x y f = cc
ordered_at (q ∷ pieces) (suc j) zero one other o e f same w c = omega arith
ordered_at (q ∷ pieces) (suc j) (suc k) one other o e f same w c = omega (arith, ordered_at pieces j k one other o.1 e f same w c)

plan_ordered : (p : VersionedProgram) (split : ℕ) → Ordered (plan_of p split)
unfolding plan_of
plan_ordered p split = ordered_numbered 0 (flat_map (goal_pieces p split) (numbers_below (goal_count p.lines))) (upto_ordered p split (goal_count p.lines))

pub plan_is : PlansHavePieces → (p : VersionedProgram) (plan : List Piece) → IsPlan p plan → length plan < 2 ^ 20 → goal_count p.lines < 2 ^ 20 → ArePieces p plan
plan_is law p plan h few few_goals =
    record {
      few = few;
      few_goals = few_goals;
      numbers = λ k q e. plan_numbers p h.split k q (sym (ap (λ l. slice_get l k) h.is) ∙ e);
      each = λ k q e. law p h.split k q (sym (ap (λ l. slice_get l k) h.is) ∙ e);
      order = λ j k one other e f same w c. ordered_at plan j k one other (subst Ordered (sym h.is) (plan_ordered p h.split)) e f same w c;
      covers = λ g r exists. subst (λ l. Covers l g r) (sym h.is) (plan_covers p h.split g r (below_is g (goal_count p.lines) exists));
    }

-- as the code tests it
pub small_plan : PlansHavePieces → (p : VersionedProgram) (plan : List Piece) (lines : List Line) (n : ℕ) (small : Bool) → IsPlan p plan → lines ≡ p.lines → n ≡ length plan → small ≡ (nat_lt (goal_count lines) (2 ^ 20) && nat_lt n (2 ^ 20)) → small ≡ true → ArePieces p plan
small_plan law p plan lines n small h e f tests is_small =
    let parts = and_parts (nat_lt (goal_count lines) (2 ^ 20)) (nat_lt n (2 ^ 20)) (sym tests ∙ is_small) in
    plan_is law p plan h (below_is (length plan) (2 ^ 20) (sym (ap (λ k. nat_lt k (2 ^ 20)) f) ∙ parts.1))
    (below_is (goal_count p.lines) (2 ^ 20) (sym (ap (λ l. nat_lt (goal_count l) (2 ^ 20)) e) ∙ parts.0))
