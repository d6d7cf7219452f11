-- Pieces behind pieces, and their numbers.
use Rattle.std.proofs.Common.{◌≡◌, ℕ, suc, ◌+◌, ◌-◌, ◌/◌, ◌%◌, ◌^◌, ◌≤◌, ◌==◌, refl, sym, ◌∙◌, ap, arith, Bool, true, false, List, [], ◌∷◌, ◌++◌, length, map, take, drop, flat_map, Some, if◌then◌else◌}
use Rattle.std.specs.List.{slice_get}
use Rattle.std.proofs.lemmas.List.{length-append, append_assoc, append-nil, map-append, take_all, drop_more, drop_all, length-drop}
use Rattle.std.proofs.lemmas.List.Concat.{flat_map-cons}
use Rattle.std.proofs.lemmas.Option.{slice_get_within, get_or_from_slice_get}
use Rattle.tcl_lang.specs.declared.pred.Line.{Line}
use Rattle.tcl_lang.specs.Goal.{goals_before, goal_count}
use Rattle.tcl_lang.specs.Program.{VersionedProgram}
use Rattle.tcl_goals.specs.declared.fact.Bit.{Bit}
use Rattle.tcl_goals.specs.declared.fact.BitLit.{BitLit}
use Rattle.tcl_goals.specs.declared.piece.Route.{Route}
use Rattle.tcl_goals.specs.declared.piece.Piece.{Piece}
use Rattle.tcl_goals.specs.Numbers.{numbers_below}
use Rattle.tcl_goals.specs.Free.{free_bits}
use Rattle.tcl_goals.specs.Slices.{route_fact}
use Rattle.tcl_goals.specs.Plans.{nth_cube, goal_pieces, number_from, plan_of, split_bits, is_algebraic_goal}
use Rattle.tcl_goals.proofs.Numbers.{those_none, next_yes}

-- numbers of two lists, one behind the other
length-number_from : (n : ℕ) (xs : List Piece) → length (number_from n xs) ≡ length xs
length-number_from n [] = refl
length-number_from n (x ∷ xs) = ap suc (length-number_from (n + 1) xs)

number_append : (n : ℕ) (xs ys : List Piece) → number_from n (xs ++ ys) ≡ number_from n xs ++ number_from (n + length xs) ys
number_append n [] ys = let same : n ≡ n + 0 = omega arith in ap (λ m. number_from m ys) same
number_append n (x ∷ xs) ys =
    let same : (n + 1) + length xs ≡ n + suc (length xs) = omega arith in
    ap (λ qs. record x { number = n } ∷ qs) (number_append (n + 1) xs ys ∙ ap (λ m. number_from (n + 1) xs ++ number_from m ys) same)

pub pieces_joined : (old xs ys : List Piece) → (old ++ number_from (length old) xs) ++ number_from (length (old ++ number_from (length old) xs)) ys ≡ old ++ number_from (length old) (xs ++ ys)
pieces_joined old xs ys =
    let count : length (old ++ number_from (length old) xs) ≡ length old + length xs = length-append old (number_from (length old) xs) ∙ ap (λ n. length old + n) (length-number_from (length old) xs) in
    append_assoc old (number_from (length old) xs) (number_from (length (old ++ number_from (length old) xs)) ys)
    ∙ ap (λ n. old ++ (number_from (length old) xs ++ number_from n ys)) count
    ∙ ap (λ qs. old ++ qs) (sym (number_append (length old) xs ys))

-- one cube more
piece : ℕ → Route → List Bit → ℕ → Piece
piece i r bits n = record { number = 0; goal = i; route = r; cube = nth_cube bits n }

pub cubes_more : (old plan : List Piece) (i : ℕ) (r : Route) (bits : List Bit) (n : ℕ) → plan ≡ old ++ number_from (length old) (map (λ m. record { number = 0; goal = i; route = r; cube = nth_cube bits m }) (numbers_below n))
    → plan ++ record { number = length plan; goal = i; route = r; cube = nth_cube bits n } ∷ [] ≡ old ++ number_from (length old) (map (λ m. record { number = 0; goal = i; route = r; cube = nth_cube bits m }) (numbers_below (n + 1)))
cubes_more old plan i r bits n e =
    let f : ℕ → Piece = λ m. record { number = 0; goal = i; route = r; cube = nth_cube bits m } in
    let xs = map f (numbers_below n) in
    ap (λ (qs : List Piece). qs ++ number_from (length qs) (f n ∷ [])) e
    ∙ pieces_joined old xs (f n ∷ [])
    ∙ ap (λ qs. old ++ number_from (length old) qs) (sym (map-append f (numbers_below n) (n ∷ [])) ∙ ap (map f) (sym (next_yes (λ k. true) n refl)))

pub cubes_none : (old : List Piece) (i : ℕ) (r : Route) (bits : List Bit) → old ≡ old ++ number_from (length old) (map (λ m. record { number = 0; goal = i; route = r; cube = nth_cube bits m }) (numbers_below 0))
cubes_none old i r bits =
    sym (append-nil old) ∙ ap (λ ns. old ++ number_from (length old) (map (λ m. record { number = 0; goal = i; route = r; cube = nth_cube bits m }) ns)) (sym (those_none (λ k. true)))

-- one goal more
flat_append : (f : ℕ → List Piece) (ns : List ℕ) (n : ℕ) → flat_map f (ns ++ n ∷ []) ≡ flat_map f ns ++ f n
flat_append f [] n = flat_map-cons f n [] ∙ append-nil (f n)
flat_append f (m ∷ ns) n =
    flat_map-cons f m (ns ++ n ∷ []) ∙ ap (λ qs. f m ++ qs) (flat_append f ns n) ∙ sym (append_assoc (f m) (flat_map f ns) (f n))
    ∙ ap (λ qs. qs ++ f n) (sym (flat_map-cons f m ns))

pub goals_none : (p : VersionedProgram) (split : ℕ) → [] ≡ number_from 0 (flat_map (goal_pieces p split) (numbers_below 0))
goals_none p split = ap (λ ns. number_from 0 (flat_map (goal_pieces p split) ns)) (sym (those_none (λ k. true)))

pub goals_more : (p : VersionedProgram) (split i : ℕ) (plan : List Piece) → plan ≡ number_from 0 (flat_map (goal_pieces p split) (numbers_below i))
    → plan ++ number_from (length plan) (goal_pieces p split i) ≡ number_from 0 (flat_map (goal_pieces p split) (numbers_below (i + 1)))
goals_more p split i plan e =
    let xs = flat_map (goal_pieces p split) (numbers_below i) in
    ap (λ (qs : List Piece). qs ++ number_from (length qs) (goal_pieces p split i)) e
    ∙ pieces_joined [] xs (goal_pieces p split i)
    ∙ ap (number_from 0) (sym (flat_append (goal_pieces p split) (numbers_below i) i) ∙ ap (flat_map (goal_pieces p split)) (sym (next_yes (λ k. true) i refl)))

pub goals_all : (p : VersionedProgram) (split count : ℕ) (plan : List Piece) → count ≡ goal_count p.lines → plan ≡ number_from 0 (flat_map (goal_pieces p split) (numbers_below count)) → plan ≡ plan_of p split
unfolding plan_of
goals_all p split count plan c e = e ∙ ap (λ n. number_from 0 (flat_map (goal_pieces p split) (numbers_below n))) c

-- all goals are counted at the end
pub counted_all : (lines : List Line) (k : ℕ) → length lines ≤ k → goals_before lines k ≡ goal_count lines
unfolding goals_before
counted_all lines k h = ap goal_count (take_all k lines h)

-- one bit of a cube more
drop_item : {X : Type 0} (items : List X) (k : ℕ) (x : X) → slice_get items k ≡ Some x → drop k items ≡ x ∷ drop (k + 1) items
drop_item items k x at =
    drop_more items k x (slice_get_within items k x at) ∙ ap (λ y. y ∷ drop (k + 1) items) (get_or_from_slice_get items k x x at)

pub cube_more : (bits : List Bit) (n k left : ℕ) (b : Bit) (value : Bool) (done : List BitLit) → slice_get bits k ≡ Some b → left ≡ length bits - 1 - k → value ≡ (n / 2 ^ left % 2 == 1)
    → done ++ nth_cube (drop k bits) n ≡ nth_cube bits n → (done ++ record { var = b.var; bit = b.bit; value = value } ∷ []) ++ nth_cube (drop (k + 1) bits) n ≡ nth_cube bits n
cube_more bits n k left b value done at l v e =
    let rest : left ≡ length (drop (k + 1) bits) = omega (arith, l, length-drop (k + 1) bits, slice_get_within bits k b at) in
    append_assoc done (record { var = b.var; bit = b.bit; value = value } ∷ []) (nth_cube (drop (k + 1) bits) n)
    ∙ ap (λ c. done ++ record { var = b.var; bit = b.bit; value = c } ∷ nth_cube (drop (k + 1) bits) n) (v ∙ ap (λ m. n / 2 ^ m % 2 == 1) rest)
    ∙ ap (λ bs. done ++ nth_cube bs n) (sym (drop_item bits k b at))
    ∙ e

pub cube_done : (bits : List Bit) (n k : ℕ) (done : List BitLit) → length bits ≤ k → done ++ nth_cube (drop k bits) n ≡ nth_cube bits n → done ≡ nth_cube bits n
cube_done bits n k done h e = sym (append-nil done) ∙ ap (λ bs. done ++ nth_cube bs n) (sym (drop_all k bits h)) ∙ e

-- no bit where a goal is not split
pub unsplit : (p : VersionedProgram) (split i : ℕ) (r : Route) → split ≡ 0 → split_bits p split i r ≡ []
unsplit p split i r e = ap (λ n. split_bits p n i r) e ∙ none (is_algebraic_goal p.lines i) (free_bits p [] (route_fact p i r))
  where
    none : (b : Bool) (bits : List Bit) → (if b then [] else take 0 bits) ≡ []
    none true bits = refl
    none false bits = refl

pub algebraic_unsplit : (p : VersionedProgram) (split i : ℕ) (r : Route) → is_algebraic_goal p.lines i ≡ true → split_bits p split i r ≡ []
algebraic_unsplit p split i r e = ap (λ b. if b then [] else take split (free_bits p [] (route_fact p i r))) e

pub split_of : (p : VersionedProgram) (split i : ℕ) (r : Route) (bits : List Bit) → is_algebraic_goal p.lines i ≡ false → bits ≡ take split (free_bits p [] (route_fact p i r)) → bits ≡ split_bits p split i r
split_of p split i r bits e f = f ∙ sym (ap (λ b. if b then [] else take split (free_bits p [] (route_fact p i r))) e)
