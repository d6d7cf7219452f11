-- The literals of words that are made of others are of the same gates, and how long such words are.
use Rattle.std.proofs.Common.{◌≡◌, ◌⊎◌, inl, inr, min, ℕ, ◌+◌, ◌-◌, ◌/◌, ◌<◌, ◌≤◌, ℤ, Bool, true, false, List, [], ◌∷◌, ◌++◌, length, map, take, replicate, Result, Ok, Err, Some, slice_get, set, zero, suc, refl, sym, ◌∙◌, ap, subst, arith, take_all, length-append, length-take}
use Rattle.std.specs.Result.{IfOk, OnErr}
use Rattle.std.proofs.lemmas.Bool.{cases_lt}
use Rattle.std.proofs.lemmas.List.{length-map}
use lib.ListN.{length-replicate}
use Rattle.tcl_cnf.specs.Literal.{neg}
use Rattle.tcl_bits.proofs.Cuts.{length-number_bits}
use Rattle.tcl_gates.specs.Meaning.{AreWithin}
use Rattle.tcl_gates.proofs.Shown.{within_none, within_cons, within_tail, within_append, within_take, within_copies, within_negated}
use Rattle.tcl_circuits.specs.Circuits.{top_negated, compared, last_lit, fill_lit, extended, shifted, constant_lit, constant}

pub on_err : {T E P : Type 0} (r : Result T E) → P → OnErr r P
on_err (Ok x) p = tt
on_err (Err e) p = p

pub if_ok_map : {T E : Type 0} {P Q : T → Type 0} (r : Result T E) → ((x : T) → P x → Q x) → IfOk r P → IfOk r Q
if_ok_map (Ok x) f p = f x p
if_ok_map (Err e) f p = tt

pub within_last : (n x : ℕ) (ls : List ℕ) → x / 2 ≤ n → AreWithin n ls → last_lit x ls / 2 ≤ n
within_last n x [] h w = h
within_last n x (l ∷ ls) h w = within_last n l ls (w.each 0 l refl) (within_tail n l ls w)

pub within_fill : (n : ℕ) (signed : Bool) (ls : List ℕ) → AreWithin n ls → fill_lit signed ls / 2 ≤ n
within_fill n true ls w = within_last n 1 ls (omega arith) w
within_fill n false ls w = omega arith

pub within_extended : (n width : ℕ) (signed : Bool) (ls : List ℕ) → AreWithin n ls → AreWithin n (extended signed width ls)
unfolding extended
within_extended n width signed ls w = within_append n (take width ls) _ (within_take n width ls w) (within_copies n (width - length ls) (fill_lit signed ls) (within_fill n signed ls w))

pub length_extended : (signed : Bool) (width : ℕ) (ls : List ℕ) → length (extended signed width ls) ≡ width
unfolding extended
length_extended signed width ls = length-append (take width ls) (replicate (width - length ls) (fill_lit signed ls)) ∙ omega (arith, length-take width ls, length-replicate (width - length ls) (fill_lit signed ls))

-- the shorter of two lists ends at the place
pub short : (m n k : ℕ) → min m n ≤ k → (m ≤ k) ⊎ (n ≤ k)
short m n k h = elim (cases_lt k m) [ inl l ↦ inr (omega (arith, h, l)) | inr g ↦ inl g ]

pub signs_within : (n w m lit : ℕ) (ls low signs : List ℕ) → AreWithin n ls → low ≡ take w ls → lit ≡ last_lit 1 low → signs ≡ replicate m lit → AreWithin n signs
signs_within n w m lit ls low signs h e f g =
    subst (AreWithin n) (sym g) (within_copies n m lit (subst (λ t. t / 2 ≤ n) (sym (f ∙ ap (last_lit 1) e)) (within_last n 1 (take w ls) (omega arith) (within_take n w ls h))))

pub take_own : (ls : List ℕ) → take (length ls) ls ≡ ls
take_own ls = take_all (length ls) ls (omega arith)

within_constants : (n : ℕ) (bs : List Bool) → AreWithin n (map constant_lit bs)
within_constants n [] = within_none n
within_constants n (true ∷ bs) = within_cons n 0 (map constant_lit bs) (omega arith) (within_constants n bs)
within_constants n (false ∷ bs) = within_cons n 1 (map constant_lit bs) (omega arith) (within_constants n bs)

pub constant_within : (n width : ℕ) (v : ℤ) → AreWithin n (constant width v)
unfolding constant
constant_within n width v = within_constants n _

within_top : (n : ℕ) (ls : List ℕ) → AreWithin n ls → AreWithin n (top_negated ls)
within_top n [] w = within_none n
within_top n (l ∷ []) w = within_negated n (l ∷ []) w
within_top n (l ∷ m ∷ ls) w = within_cons n l (top_negated (m ∷ ls)) (w.each 0 l refl) (within_top n (m ∷ ls) (within_tail n l (m ∷ ls) w))

pub within_compared : (n : ℕ) (signed : Bool) (ls : List ℕ) → AreWithin n ls → AreWithin n (compared signed ls)
within_compared n true ls w = within_top n ls w
within_compared n false ls w = w

-- the highest literal negated in its place
pub top_set : (ls : List ℕ) (k l : ℕ) → k + 1 ≡ length ls → slice_get ls k ≡ Some l → set ls k (neg l) ≡ top_negated ls
top_set [] k l h e = absurd (omega (arith, h))
top_set (m ∷ []) zero l h e = ap (λ x. neg x ∷ []) (sym (some_same e))
  where
    some_same : {k l : ℕ} → Some k ≡ Some l → k ≡ l
    some_same e = cc
top_set (m ∷ []) (suc k) l h e = absurd (omega (arith, h))
top_set (m ∷ n ∷ ls) zero l h e = absurd (omega (arith, h))
top_set (m ∷ n ∷ ls) (suc k) l h e = ap (λ t. m ∷ t) (top_set (n ∷ ls) k l (omega (arith, h)) e)

pub top_code : (ls : List ℕ) (k l m : ℕ) → 0 < length ls → k ≡ length ls - 1 → slice_get ls k ≡ Some l → m ≡ neg l → set ls k m ≡ top_negated ls
top_code ls k l m p h e f = ap (set ls k) f ∙ top_set ls k l (omega (arith, p, h)) e

pub top_none : (ls : List ℕ) → length ls ≡ 0 → ls ≡ top_negated ls
top_none [] h = refl
top_none (l ∷ ls) h = absurd (omega (arith, h))

pub within_shifted : (n count : ℕ) (ls : List ℕ) → AreWithin n ls → AreWithin n (shifted count ls)
unfolding shifted
within_shifted n count ls w = within_append n (replicate count 1) _ (within_copies n count 1 (omega arith)) (within_take n (length ls - count) ls w)

pub length_constant : (width : ℕ) (v : ℤ) → length (constant width v) ≡ width
unfolding constant
length_constant width v = length-map _ constant_lit ∙ length-number_bits width _
