-- Sets of variables as marks: what is among numbers that were added, and the free variables.
use Rattle.std.proofs.Common.{◌≡◌, ◌≢◌, inl, inr, ℕ, zero, suc, ◌+◌, ◌-◌, ◌<◌, ◌≤◌, refl, sym, ◌∙◌, ap, arith, nat_eq, Bool, true, false, not, ◌&&◌, ◌||◌, if◌then◌else◌, List, [], ◌∷◌, ◌++◌, length, replicate, get_or, set, drop, flat_map, add-one}
use Rattle.std.specs.List.{fold}
use Rattle.std.proofs.Math.Seq.{drop-cons}
use Rattle.std.proofs.lemmas.Bool.{cases_eq}
use Rattle.std.proofs.lemmas.List.{length-set, length-replicate, get_or-set_same, get_or-set_other}
use Rattle.tcl_lang.specs.Program.{VersionedProgram}
use Rattle.tcl_lang.specs.declared.pred.Line.{Line}
use Rattle.tcl_lang.specs.Defined.{is_among}
use Rattle.tcl_goals.specs.declared.fact.Bit.{Bit}
use Rattle.tcl_goals.specs.declared.fact.Fact.{Fact}
use Rattle.tcl_goals.specs.declared.lemma.Numbered.{Numbered}
use Rattle.tcl_goals.specs.declared.marks.Marks.{Marks}
use Rattle.tcl_goals.specs.Numbers.{those_below}
use Rattle.tcl_goals.specs.Closure.{is_marked, mark_one, mark_all}
use Rattle.tcl_goals.specs.Free.{marked, fact_variables, computed_variables, is_free, free_variables, bits_down}

-- numbers in two parts, in four
pub mark_append : (xs ys : List ℕ) (m : List Bool) → mark_all m (xs ++ ys) ≡ mark_all (mark_all m xs) ys
mark_append [] ys m = refl
mark_append (x ∷ xs) ys m = mark_append xs ys (mark_one m x)

pub mark_four : (xs ys zs us : List ℕ) (m : List Bool) → mark_all m (xs ++ ys ++ zs ++ us) ≡ mark_all (mark_all (mark_all (mark_all m xs) ys) zs) us
mark_four xs ys zs us m =
    mark_append (xs ++ ys ++ zs) us m ∙ ap (λ n. mark_all n us) (mark_append (xs ++ ys) zs m)
    ∙ ap (λ n. mark_all (mark_all n zs) us) (mark_append xs ys m)

-- numbers told one by one
pub visited : (vs : List ℕ) (m : Marks) → (fold marked m vs).marks ≡ mark_all m.marks vs
visited [] m = refl
visited (v ∷ vs) m = visited vs (marked m v)

-- a number is marked where it was, or is among those that were added
one_marked : (m : List Bool) (w v : ℕ) → v < length m → is_marked (mark_one m w) v ≡ (nat_eq w v || is_marked m v)
one_marked m w v h = elim (cases_eq v w) [
  | inl same ↦
      let within : w < length m = omega arith in
      ap (is_marked (set m w true)) same ∙ get_or-set_same m w true false within ∙ sym (yes_or (nat_eq w v) (is_marked m v) (equal w v (sym same)))
  | inr other ↦ get_or-set_other m w v true false other ∙ sym (no_or (nat_eq w v) (is_marked m v) (unequal w v other))
]
  where
    yes_or : (x y : Bool) → x ≡ true → (x || y) ≡ true
    yes_or true y e = refl
    yes_or false y e = absurd (cc)

    no_or : (x y : Bool) → x ≡ false → (x || y) ≡ y
    no_or true y e = absurd (cc)
    no_or false y e = refl

    equal : (w v : ℕ) → w ≡ v → nat_eq w v ≡ true
    equal w v e = grind arith

    unequal : (w v : ℕ) → v ≢ w → nat_eq w v ≡ false
    unequal w v e = grind arith

or_moved : (x y z : Bool) → ((x || y) || z) ≡ (y || (x || z))
or_moved true true z = refl
or_moved true false z = refl
or_moved false true z = refl
or_moved false false z = refl

all_marked : (vs : List ℕ) (m : List Bool) (v : ℕ) → v < length m → is_marked (mark_all m vs) v ≡ (is_marked m v || is_among vs v)
all_marked [] m v h = or_none (is_marked m v)
  where
    or_none : (x : Bool) → x ≡ (x || false)
    or_none true = refl
    or_none false = refl
all_marked (w ∷ vs) m v h =
    all_marked vs (mark_one m w) v (omega (arith, h, length-set m w true))
    ∙ ap (λ b. b || is_among vs v) (one_marked m w v h)
    ∙ or_moved (nat_eq w v) (is_marked m v) (is_among vs v)

none_marked : (n v : ℕ) → is_marked (replicate n false) v ≡ false
none_marked zero v = refl
none_marked (suc n) zero = refl
none_marked (suc n) (suc v) = none_marked n v

among_marked : (vs : List ℕ) (n v : ℕ) → v < n → is_marked (mark_all (replicate n false) vs) v ≡ is_among vs v
among_marked vs n v h =
    all_marked vs (replicate n false) v (omega (arith, h, length-replicate n false)) ∙ ap (λ b. b || is_among vs v) (none_marked n v)

-- numbers by two tests that agree below the end
those_same : (test other : ℕ → Bool) (n : ℕ) → ((v : ℕ) → v < n → test v ≡ other v) → those_below test n ≡ those_below other n
unfolding those_below
those_same test other zero h = refl
those_same test other (suc n) h =
    let rest = those_same test other n (λ v less. h v (omega (arith, less))) in
    let here : test n ≡ other n = h n (omega arith) in
    ap (λ b. if b then those_below test n ++ n ∷ [] else those_below test n) here
    ∙ ap (λ ns. if other n then ns ++ n ∷ [] else ns) rest

pub free_are : (p : VersionedProgram) (lemmas : List Numbered) (fact : Fact) (named computed : List Bool) (count : ℕ) → count ≡ length p.variables → named ≡ mark_all (replicate count false) (fact_variables p.lines lemmas fact) → computed ≡ mark_all (replicate count false) (computed_variables p.lines fact.uses) → those_below (λ v. is_marked named v && not (is_marked computed v)) count ≡ free_variables p lemmas fact
unfolding free_variables
free_are p lemmas fact named computed count size n c =
    those_same (λ v. is_marked named v && not (is_marked computed v)) (is_free p lemmas fact) count
    (λ v h.
    ap (λ m. is_marked m v && not (is_marked computed v)) n ∙ ap (λ b. b && not (is_marked computed v)) (among_marked (fact_variables p.lines lemmas fact) count v h)
    ∙ ap (λ m. is_among (fact_variables p.lines lemmas fact) v && not (is_marked m v)) c
    ∙ ap (λ b. is_among (fact_variables p.lines lemmas fact) v && not b) (among_marked (computed_variables p.lines fact.uses) count v h))
    ∙ ap (those_below (is_free p lemmas fact)) size

-- one bit further down
pub bits_go : (v w : ℕ) → 0 < w → bits_down v w ≡ record { var = v; bit = w - 1 } ∷ bits_down v (w - 1)
unfolding bits_down
bits_go v zero h = absurd (omega arith)
bits_go v (suc w) h = let same : suc w - 1 ≡ w = omega arith in sym (ap (λ n. record { var = v; bit = n } ∷ bits_down v n) same)

pub bits_end : (v w : ℕ) → w ≤ 0 → bits_down v w ≡ []
unfolding bits_down
bits_end v zero h = refl
bits_end v (suc w) h = absurd (omega arith)

-- one item further: its numbers are added, those of the items after it are left
pub flat_marked : {X : Type 0} (d : X) (f : X → List ℕ) (xs : List X) (j : ℕ) (old new all : List Bool) → j < length xs → new ≡ mark_all old (f (get_or xs j d)) → mark_all old (flat_map f (drop j xs)) ≡ all → mark_all new (flat_map f (drop (j + 1) xs)) ≡ all
flat_marked {X} d f xs j old new all h e i =
    ap (λ m. mark_all m (flat_map f (drop (j + 1) xs))) e
    ∙ sym (mark_append (f (get_or xs j d)) (flat_map f (drop (j + 1) xs)) old)
    ∙ ap (λ n. mark_all old (f (get_or xs j d) ++ flat_map f (drop n xs))) (add-one j)
    ∙ ap (λ ys. mark_all old (flat_map f ys)) (sym (drop-cons xs j d h)) ∙ i

-- a bit more, and the bits after it
pub bit_moved : (bits ys : List Bit) (b : Bit) → (bits ++ b ∷ []) ++ ys ≡ bits ++ (b ∷ ys)
bit_moved [] ys b = refl
bit_moved (c ∷ bits) ys b = ap (λ zs. c ∷ zs) (bit_moved bits ys b)

-- a bit pushed, and none left
pub pushed_bits : (bits new all : List Bit) (v w rest : ℕ) → 0 < w → rest ≡ w - 1 → new ≡ bits ++ record { var = v; bit = rest } ∷ [] → bits ++ bits_down v w ≡ all → new ++ bits_down v rest ≡ all
pushed_bits bits new all v w rest h less e i =
    ap (λ bs. bs ++ bits_down v rest) e
    ∙ bit_moved bits (bits_down v rest) (record { var = v; bit = rest })
    ∙ ap (λ n. bits ++ (record { var = v; bit = n } ∷ bits_down v n)) less
    ∙ ap (λ ys. bits ++ ys) (sym (bits_go v w h)) ∙ i

pub no_bits : (bits ys : List Bit) → ys ≡ [] → bits ++ ys ≡ bits
no_bits [] ys e = e
no_bits (c ∷ bits) ys e = ap (λ zs. c ∷ zs) (no_bits bits ys e)

pub ended_bits : (bits all : List Bit) (v w : ℕ) → w ≤ 0 → bits ++ bits_down v w ≡ all → bits ≡ all
ended_bits bits all v w h i = sym (no_bits bits (bits_down v w) (bits_end v w h)) ∙ i

pub variables_are : (lines : List Line) (lemmas : List Numbered) (fact : Fact) (named : List Bool) (count : ℕ) → named ≡ mark_all (replicate count false) (fact_variables lines lemmas fact) → those_below (is_marked named) count ≡ those_below (is_among (fact_variables lines lemmas fact)) count
variables_are lines lemmas fact named count n =
    those_same (is_marked named) (is_among (fact_variables lines lemmas fact)) count
    (λ v h. ap (λ m. is_marked m v) n ∙ among_marked (fact_variables lines lemmas fact) count v h)
