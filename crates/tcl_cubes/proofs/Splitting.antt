-- A split decides covering.
use Rattle.std.proofs.Common.{◌≡◌, ◌==◌, ◌↔◌, inl, inr, ◌≤◌, ◌<◌, ℕ, zero, suc, refl, sym, ◌∙◌, ap, subst, arith, Bool, true, false, not, ◌&&◌, ◌||◌, if◌then◌else◌, List, [], ◌∷◌, ◌++◌, length}
use Rattle.std.specs.List.{list_any}
use Rattle.std.proofs.lemmas.Bool.{and_parts, and_from}
use Rattle.std.proofs.lemmas.List.Folds.{list_any-append}
use Rattle.tcl_list.proofs.Booleans.{or_cases, or_left, or_right}
use Rattle.tcl_goals.specs.declared.fact.BitLit.{BitLit}
use Rattle.tcl_goals.specs.Order.{same_bit, bits_differ}
use Rattle.tcl_cubes.specs.Covering.{Assignment, has_value, meets, Covers, differ, contradicts, without, restricted, restricted_by, is_empty, first_literal, on_both, covers_all, are_covering, named_after, named_in, count_bits}
use Rattle.tcl_cubes.proofs.Values.{given, same_parts, itself, at_bit, given_has, given_other, one_of}

-- where a literal has its value, a cube is met exactly where it does not contradict it and the rest of it is met
cube_step : (v : Assignment) (l b : BitLit) (bits : List BitLit) → has_value v l ≡ true → meets v bits ≡ (if list_any (contradicts l) bits then false else meets v (without l bits)) → (s d : Bool) → same_bit l b ≡ s → differ l.value b.value ≡ d → (has_value v b && meets v bits) ≡ (if (s && d) || list_any (contradicts l) bits then false else meets v (if s then without l bits else b ∷ without l bits))
cube_step v l b bits has rest true true same other =
    ap (λ t. t && meets v bits) (at_bit v l b has same ∙ ap not other)
cube_step v l b bits has rest true false same other =
    ap (λ t. t && meets v bits) (at_bit v l b has same ∙ ap not other) ∙ rest
cube_step v l b bits has rest false d same other =
    ap (λ t. has_value v b && t) rest ∙ moved (list_any (contradicts l) bits)
  where
    moved : (c : Bool) → (has_value v b && (if c then false else meets v (without l bits))) ≡ (if c then false else (has_value v b && meets v (without l bits)))
    moved true = none (has_value v b)
      where
        none : (t : Bool) → (t && false) ≡ false
        none true = refl
        none false = refl
    moved false = refl

cube_met : (v : Assignment) (l : BitLit) (bits : List BitLit) → has_value v l ≡ true → meets v bits ≡ (if list_any (contradicts l) bits then false else meets v (without l bits))
unfolding without
cube_met v l [] has = refl
cube_met v l (b ∷ bits) has = cube_step v l b bits has (cube_met v l bits has) (same_bit l b) (differ l.value b.value) refl refl

-- so the cubes that are kept are met where the cubes are
kept_step : (v : Assignment) (l : BitLit) (c : List BitLit) (cubes : List (List BitLit)) → list_any (meets v) cubes ≡ list_any (meets v) (restricted l cubes) → (t : Bool) → list_any (contradicts l) c ≡ t → meets v c ≡ (if t then false else meets v (without l c)) → (meets v c || list_any (meets v) cubes) ≡ list_any (meets v) (if t then restricted l cubes else without l c ∷ restricted l cubes)
kept_step v l c cubes rest true e met = ap (λ b. b || list_any (meets v) cubes) met ∙ rest
kept_step v l c cubes rest false e met = ap (λ b. b || list_any (meets v) cubes) met ∙ ap (λ b. meets v (without l c) || b) rest

any_kept : (v : Assignment) (l : BitLit) (cubes : List (List BitLit)) → has_value v l ≡ true → list_any (meets v) cubes ≡ list_any (meets v) (restricted l cubes)
unfolding restricted
any_kept v l [] has = refl
any_kept v l (c ∷ cubes) has =
    kept_step v l c cubes (any_kept v l cubes has) (list_any (contradicts l) c) refl (cube_met v l c has)

-- which do not look at the bit
rest_step : (v : Assignment) (l b : BitLit) (bits : List BitLit) → meets (given v l) (without l bits) ≡ meets v (without l bits) → (s : Bool) → same_bit l b ≡ s → meets (given v l) (if s then without l bits else b ∷ without l bits) ≡ meets v (if s then without l bits else b ∷ without l bits)
rest_step v l b bits rest true e = rest
rest_step v l b bits rest false e = ap (λ t. t && meets (given v l) (without l bits)) (given_other v l b e) ∙ ap (λ t. has_value v b && t) rest

rest_free : (v : Assignment) (l : BitLit) (bits : List BitLit) → meets (given v l) (without l bits) ≡ meets v (without l bits)
unfolding without
rest_free v l [] = refl
rest_free v l (b ∷ bits) = rest_step v l b bits (rest_free v l bits) (same_bit l b) refl

free_step : (v : Assignment) (l : BitLit) (c : List BitLit) (cubes : List (List BitLit)) → list_any (meets (given v l)) (restricted l cubes) ≡ list_any (meets v) (restricted l cubes) → (t : Bool) → list_any (meets (given v l)) (if t then restricted l cubes else without l c ∷ restricted l cubes) ≡ list_any (meets v) (if t then restricted l cubes else without l c ∷ restricted l cubes)
free_step v l c cubes rest true = rest
free_step v l c cubes rest false =
    ap (λ t. t || list_any (meets (given v l)) (restricted l cubes)) (rest_free v l c) ∙ ap (λ t. meets v (without l c) || t) rest

any_free : (v : Assignment) (l : BitLit) (cubes : List (List BitLit)) → list_any (meets (given v l)) (restricted l cubes) ≡ list_any (meets v) (restricted l cubes)
unfolding restricted
any_free v l [] = refl
any_free v l (c ∷ cubes) = free_step v l c cubes (any_free v l cubes) (list_any (contradicts l) c)

-- the cubes are met by every assignment
abbrev AreAlways : List (List BitLit) → Type 0
AreAlways cubes = (v : Assignment) → list_any (meets v) cubes ≡ true

-- so are those that are kept for a literal, and the other way around where they are for both values
kept_always : (l : BitLit) (cubes : List (List BitLit)) → AreAlways cubes → AreAlways (restricted l cubes)
kept_always l cubes all v =
    sym (any_free v l cubes) ∙ sym (any_kept (given v l) l cubes (given_has v l)) ∙ all (given v l)

abbrev on : BitLit → BitLit
on l = record { var = l.var; bit = l.bit; value = true }

abbrev off : BitLit → BitLit
off l = record { var = l.var; bit = l.bit; value = false }

both_always : (l : BitLit) (cubes : List (List BitLit)) → AreAlways (restricted (on l) cubes) → AreAlways (restricted (off l) cubes) → AreAlways cubes
both_always l cubes first second v =
    elim (one_of v l) [ inl has ↦ any_kept v (on l) cubes has ∙ first v | inr has ↦ any_kept v (off l) cubes has ∙ second v ]

-- all literals of a cube, of cubes, are of these bits
abbrev is_of : List BitLit → BitLit → Bool
is_of bits b = list_any (same_bit b) bits

abbrev AreOf : List BitLit → List BitLit → Type 0
AreOf bits [] = Unit {0}
AreOf bits (b ∷ cube) = (is_of bits b ≡ true) × AreOf bits cube

abbrev AreAllOf : List BitLit → List (List BitLit) → Type 0
AreAllOf bits [] = Unit {0}
AreAllOf bits (c ∷ cubes) = AreOf bits c × AreAllOf bits cubes

-- a bit that is not the literal's is still among those without it
symmetric : (a b : BitLit) → same_bit a b ≡ true → same_bit b a ≡ true
symmetric a b e = let parts = same_parts a b e in subst (λ n. (n == a.var && b.bit == a.bit) ≡ true) parts.0 (subst (λ n. (a.var == a.var && n == a.bit) ≡ true) parts.1 (itself a))

along : (a b c : BitLit) → same_bit a b ≡ true → same_bit a c ≡ true → same_bit b c ≡ true
along a b c e f =
    let first = same_parts a b e in
    subst (λ n. (n == c.var && b.bit == c.bit) ≡ true) first.0 (subst (λ n. (a.var == c.var && n == c.bit) ≡ true) first.1 f)

apart : (l b x : BitLit) → same_bit l b ≡ false → same_bit l x ≡ true → same_bit b x ≡ false
apart l b x other same = apart_by (same_bit b x) refl
  where
    apart_by : (t : Bool) → same_bit b x ≡ t → t ≡ false
    apart_by true e = absurd (clash (same_bit l b) other (along x l b (symmetric l x same) (symmetric b x e)))
      where
        clash : (c : Bool) → c ≡ false → c ≡ true → ⊥
        clash c f g = cc
    apart_by false e = refl

left_step : (l b x : BitLit) (bits : List BitLit) → same_bit l b ≡ false → (is_of bits b ≡ true → is_of (without l bits) b ≡ true) → (s : Bool) → same_bit l x ≡ s → (same_bit b x || is_of bits b) ≡ true → is_of (if s then without l bits else x ∷ without l bits) b ≡ true
left_step l b x bits other rest true e h = rest (ap (λ t. t || is_of bits b) (sym (apart l b x other e)) ∙ h)
left_step l b x bits other rest false e h = elim (or_cases (same_bit b x) (is_of bits b) h) [ inl f ↦ or_left (same_bit b x) (is_of (without l bits) b) f | inr f ↦ or_right (same_bit b x) (is_of (without l bits) b) (rest f) ]

is_left : (l b : BitLit) (bits : List BitLit) → same_bit l b ≡ false → is_of bits b ≡ true → is_of (without l bits) b ≡ true
unfolding without
is_left l b [] other h = absurd (cc)
is_left l b (x ∷ bits) other h = left_step l b x bits other (λ g. is_left l b bits other g) (same_bit l x) refl h

without_none : (l : BitLit) → without l [] ≡ []
unfolding without
without_none l = refl

without_more : (l b : BitLit) (cube : List BitLit) → without l (b ∷ cube) ≡ (if same_bit l b then without l cube else b ∷ without l cube)
unfolding without
without_more l b cube = refl

cube_left_step : (l b : BitLit) (bits cube : List BitLit) → is_of bits b ≡ true → AreOf (without l bits) (without l cube) → (s : Bool) → same_bit l b ≡ s → AreOf (without l bits) (if s then without l cube else b ∷ without l cube)
cube_left_step l b bits cube h rest true e = rest
cube_left_step l b bits cube h rest false e = (is_left l b bits e h, rest)

cube_left : (l : BitLit) (bits cube : List BitLit) → AreOf bits cube → AreOf (without l bits) (without l cube)
cube_left l bits [] h = subst (AreOf (without l bits)) (sym (without_none l)) tt
cube_left l bits (b ∷ cube) h =
    subst (AreOf (without l bits)) (sym (without_more l b cube)) (cube_left_step l b bits cube h.0 (cube_left l bits cube h.1) (same_bit l b) refl)

cubes_left_step : (l : BitLit) (bits c : List BitLit) (cubes : List (List BitLit)) → AreOf bits c → AreAllOf (without l bits) (restricted l cubes) → (t : Bool) → AreAllOf (without l bits) (if t then restricted l cubes else without l c ∷ restricted l cubes)
cubes_left_step l bits c cubes h rest true = rest
cubes_left_step l bits c cubes h rest false = (cube_left l bits c h, rest)

cubes_left : (l : BitLit) (bits : List BitLit) (cubes : List (List BitLit)) → AreAllOf bits cubes → AreAllOf (without l bits) (restricted l cubes)
unfolding restricted
cubes_left l bits [] h = tt
cubes_left l bits (c ∷ cubes) h = cubes_left_step l bits c cubes h.0 (cubes_left l bits cubes h.1) (list_any (contradicts l) c)

-- and there are fewer of them
fewer_step : (l x : BitLit) (bits : List BitLit) → length (without l bits) ≤ length bits → (s : Bool) → length (if s then without l bits else x ∷ without l bits) ≤ suc (length bits)
fewer_step l x bits h true = omega (arith, h)
fewer_step l x bits h false = omega (arith, h)

no_more : (l : BitLit) (bits : List BitLit) → length (without l bits) ≤ length bits
unfolding without
no_more l [] = omega arith
no_more l (x ∷ bits) = fewer_step l x bits (no_more l bits) (same_bit l x)

less_step : (l x : BitLit) (bits : List BitLit) → length (without l bits) ≤ length bits → (is_of bits l ≡ true → length (without l bits) < length bits) → (s : Bool) → same_bit l x ≡ s → (s || is_of bits l) ≡ true → length (if s then without l bits else x ∷ without l bits) < suc (length bits)
less_step l x bits low rest true e h = omega (arith, low)
less_step l x bits low rest false e h = let further = rest h in omega (arith, further)

less : (l : BitLit) (bits : List BitLit) → is_of bits l ≡ true → length (without l bits) < length bits
unfolding without
less l [] h = absurd (cc)
less l (x ∷ bits) h = less_step l x bits (no_more l bits) (λ g. less l bits g) (same_bit l x) refl h

-- an empty cube is met, and where no bit is left each cube is empty
empty_met : (cubes : List (List BitLit)) → list_any is_empty cubes ≡ true → AreAlways cubes
empty_met [] e v = absurd (cc)
empty_met ([] ∷ cubes) e v = refl
empty_met ((b ∷ c) ∷ cubes) e v = or_right (meets v (b ∷ c)) (list_any (meets v) cubes) (empty_met cubes e v)

no_bits : (bits : List BitLit) (cubes : List (List BitLit)) → length bits ≤ zero → AreAllOf bits cubes → AreAlways cubes → list_any is_empty cubes ≡ true
no_bits bits [] few h all = absurd (clash (all (λ x k. true)))
  where
    clash : false ≡ true → ⊥
    clash e = cc
no_bits bits ([] ∷ cubes) few h all = refl
no_bits [] ((b ∷ c) ∷ cubes) few h all = absurd (clash h.0.0)
  where
    clash : false ≡ true → ⊥
    clash e = cc
no_bits (x ∷ bits) ((b ∷ c) ∷ cubes) few h all = absurd (omega (arith, few))

-- the split: no cube, an empty one first, or a literal
split_tells : (n : ℕ) (bits : List BitLit) (cubes : List (List BitLit)) → AreAllOf bits cubes → list_any is_empty cubes ≡ false → ((l : BitLit) → is_of bits l ≡ true → (covers_all n (restricted l cubes) ≡ true) ↔ AreAlways (restricted l cubes)) → (on_both (λ l. covers_all n (restricted l cubes)) (first_literal cubes) ≡ true) ↔ AreAlways cubes
split_tells n bits [] h full rest = (λ e. absurd (clash e), λ all. absurd (clash (all (λ x k. true))))
  where
    clash : false ≡ true → ⊥
    clash e = cc
split_tells n bits ([] ∷ cubes) h full rest = absurd (clash full)
  where
    clash : true ≡ false → ⊥
    clash e = cc
split_tells n bits ((b ∷ c) ∷ cubes) h full rest = (
  λ e. let parts = and_parts (covers_all n (restricted (on b) ((b ∷ c) ∷ cubes))) (covers_all n (restricted (off b) ((b ∷ c) ∷ cubes))) e in
      both_always b ((b ∷ c) ∷ cubes) ((rest (on b) h.0.0).0 parts.0) ((rest (off b) h.0.0).0 parts.1),
  λ all. and_from _ _ ((rest (on b) h.0.0).1 (kept_always (on b) ((b ∷ c) ∷ cubes) all)) ((rest (off b) h.0.0).1 (kept_always (off b) ((b ∷ c) ∷ cubes) all)),
)

split_or : (n : ℕ) (cubes : List (List BitLit)) (t : Bool) → list_any is_empty cubes ≡ t → (t ≡ false → (on_both (λ l. covers_all n (restricted l cubes)) (first_literal cubes) ≡ true) ↔ AreAlways cubes) → ((t || on_both (λ l. covers_all n (restricted l cubes)) (first_literal cubes)) ≡ true) ↔ AreAlways cubes
split_or n cubes true e rest = (λ f. empty_met cubes e, λ all. refl)
split_or n cubes false e rest = rest refl

covers_exact : (n : ℕ) (bits : List BitLit) (cubes : List (List BitLit)) → length bits ≤ n → AreAllOf bits cubes → (covers_all n cubes ≡ true) ↔ AreAlways cubes
unfolding covers_all
covers_exact zero bits cubes few h = (λ e. empty_met cubes e, λ all. no_bits bits cubes few h all)
covers_exact (suc n) bits cubes few h =
    split_or n cubes (list_any is_empty cubes) refl
    (λ full. split_tells n bits cubes h full
    (λ l one. let low = less l bits one in covers_exact n (without l bits) (restricted l cubes) (omega (arith, few, low)) (cubes_left l bits cubes h)))

-- the assignments that meet a cube
others_met : (v : Assignment) (l : BitLit) (cube : List BitLit) → list_any (same_bit l) cube ≡ false → meets (given v l) cube ≡ meets v cube
others_met v l [] none = refl
others_met v l (b ∷ cube) none =
    let parts = or_none (same_bit l b) (list_any (same_bit l) cube) none in
    ap (λ t. t && meets (given v l) cube) (given_other v l b parts.0) ∙ ap (λ t. has_value v b && t) (others_met v l cube parts.1)
  where
    or_none : (s t : Bool) → (s || t) ≡ false → (s ≡ false) × (t ≡ false)
    or_none true t e = absurd (cc)
    or_none false t e = (refl, e)

not_true : (b : Bool) → not b ≡ true → b ≡ false
not_true true e = absurd (cc)
not_true false e = refl

pub covered_by : (cube : List BitLit) (cubes : List (List BitLit)) → bits_differ cube ≡ true → Covers cube cubes ↔ AreAlways (restricted_by cube cubes)
unfolding restricted_by
covered_by [] cubes d = (λ h v. h v refl, λ h v met. h v)
covered_by (l ∷ cube) cubes d =
    let parts = and_parts (not (list_any (same_bit l) cube)) (bits_differ cube) d in
    let none = not_true _ parts.0 in
    let further = covered_by cube (restricted l cubes) parts.1 in (
      λ h. further.0 (λ v met.
          sym (any_free v l cubes) ∙ sym (any_kept (given v l) l cubes (given_has v l))
          ∙ h (given v l) (and_from _ _ (given_has v l) (others_met v l cube none ∙ met))),
      λ h v met. let both = and_parts (has_value v l) (meets v cube) met in
          any_kept v l cubes both.0 ∙ further.1 h v both.1,
    )

-- what cubes name is among the bits that they name
after_stays : (named bits : List BitLit) (b x : BitLit) → is_of named x ≡ true → (t : Bool) → (is_of named x ≡ true → is_of (named_after named bits) x ≡ true) → (is_of (named ++ b ∷ []) x ≡ true → is_of (named_after (named ++ b ∷ []) bits) x ≡ true) → is_of (if t then named_after named bits else named_after (named ++ b ∷ []) bits) x ≡ true
after_stays named bits b x h true kept added = kept h
after_stays named bits b x h false kept added = added (list_any-append (same_bit x) named (b ∷ []) ∙ or_left (is_of named x) (is_of (b ∷ []) x) h)

stays : (named bits : List BitLit) (x : BitLit) → is_of named x ≡ true → is_of (named_after named bits) x ≡ true
unfolding named_after
stays named [] x h = h
stays named (b ∷ bits) x h = after_stays named bits b x h (list_any (same_bit b) named) (stays named bits x) (stays (named ++ b ∷ []) bits x)

added_step : (named bits : List BitLit) (b : BitLit) → (t : Bool) → list_any (same_bit b) named ≡ t → is_of (if t then named_after named bits else named_after (named ++ b ∷ []) bits) b ≡ true
added_step named bits b true e = stays named bits b e
added_step named bits b false e =
    stays (named ++ b ∷ []) bits b (list_any-append (same_bit b) named (b ∷ []) ∙ or_right (is_of named b) (is_of (b ∷ []) b) (or_left (same_bit b b) false (itself b)))

of_after : (named bits : List BitLit) (b : BitLit) (t : Bool) → AreOf (named_after named bits) bits → AreOf (named_after (named ++ b ∷ []) bits) bits → AreOf (if t then named_after named bits else named_after (named ++ b ∷ []) bits) bits
of_after named bits b true kept added = kept
of_after named bits b false kept added = added

all_named : (named bits : List BitLit) → AreOf (named_after named bits) bits
unfolding named_after
all_named named [] = tt
all_named named (b ∷ bits) = (
  added_step named bits b (list_any (same_bit b) named) refl,
  of_after named bits b (list_any (same_bit b) named) (all_named named bits) (all_named (named ++ b ∷ []) bits),
)

in_stays : (named : List BitLit) (cubes : List (List BitLit)) (x : BitLit) → is_of named x ≡ true → is_of (named_in named cubes) x ≡ true
unfolding named_in
in_stays named [] x h = h
in_stays named (c ∷ cubes) x h = in_stays (named_after named c) cubes x (stays named c x h)

of_further : (named : List BitLit) (cubes : List (List BitLit)) (cube : List BitLit) → AreOf named cube → AreOf (named_in named cubes) cube
of_further named cubes [] h = tt
of_further named cubes (b ∷ cube) h = (in_stays named cubes b h.0, of_further named cubes cube h.1)

pub are_named : (named : List BitLit) (cubes : List (List BitLit)) → AreAllOf (named_in named cubes) cubes
unfolding named_in
are_named named [] = tt
are_named named (c ∷ cubes) = (of_further (named_after named c) cubes c (all_named named c), are_named (named_after named c) cubes)

-- restricting names no new bit
cube_kept_step : (l b : BitLit) (bits cube : List BitLit) → is_of bits b ≡ true → AreOf bits (without l cube) → (s : Bool) → AreOf bits (if s then without l cube else b ∷ without l cube)
cube_kept_step l b bits cube h rest true = rest
cube_kept_step l b bits cube h rest false = (h, rest)

cube_kept : (l : BitLit) (bits cube : List BitLit) → AreOf bits cube → AreOf bits (without l cube)
unfolding without
cube_kept l bits [] h = tt
cube_kept l bits (b ∷ cube) h = cube_kept_step l b bits cube h.0 (cube_kept l bits cube h.1) (same_bit l b)

cubes_kept_step : (l : BitLit) (bits c : List BitLit) (cubes : List (List BitLit)) → AreOf bits c → AreAllOf bits (restricted l cubes) → (t : Bool) → AreAllOf bits (if t then restricted l cubes else without l c ∷ restricted l cubes)
cubes_kept_step l bits c cubes h rest true = rest
cubes_kept_step l bits c cubes h rest false = (cube_kept l bits c h, rest)

cubes_kept : (l : BitLit) (bits : List BitLit) (cubes : List (List BitLit)) → AreAllOf bits cubes → AreAllOf bits (restricted l cubes)
unfolding restricted
cubes_kept l bits [] h = tt
cubes_kept l bits (c ∷ cubes) h = cubes_kept_step l bits c cubes h.0 (cubes_kept l bits cubes h.1) (list_any (contradicts l) c)

all_kept : (cube bits : List BitLit) (cubes : List (List BitLit)) → AreAllOf bits cubes → AreAllOf bits (restricted_by cube cubes)
unfolding restricted_by
all_kept [] bits cubes h = h
all_kept (l ∷ cube) bits cubes h = all_kept cube bits (restricted l cubes) (cubes_kept l bits cubes h)

pub splits_decide : (n : ℕ) (cube : List BitLit) (cubes : List (List BitLit)) → bits_differ cube ≡ true → count_bits cubes ≤ n → (are_covering n cube cubes ≡ true) ↔ Covers cube cubes
splits_decide n cube cubes d few =
    let exact = covers_exact n (named_in [] cubes) (restricted_by cube cubes) few (all_kept cube (named_in [] cubes) cubes (are_named [] cubes)) in
    let covered = covered_by cube cubes d in
    (λ e. covered.1 (exact.0 e), λ h. exact.1 (covered.0 h))
