-- The admitted lemmas of a board: each is found under its number, and they grow.
use Rattle.std.proofs.Common.{◌≡◌, refl, sym, ap, ◌∙◌, subst, inl, inr, ℕ, zero, suc, ◌+◌, ◌<◌, arith, nat_eq, Bool, true, false, ◌&&◌, ◌==◌, List, [], ◌∷◌, ◌++◌, map, take, Option, Some, None}
use Rattle.std.specs.List.{slice_get, slice_set, list_all, list_any}
use Rattle.std.specs.Prelude.{IsTrue, ◌↔◌}
use Rattle.std.proofs.lemmas.Bool.{and_parts, and_from, or_cases, cases_Bool, cases_eq, eqb-true}
use Rattle.std.proofs.lemmas.Bool.Decides.{nat_tests}
use Rattle.std.proofs.lemmas.Option.{slice_get-map}
use Rattle.std.specs.Option.{option_map}
use Rattle.tcl_list.proofs.Booleans.{if_yes, if_no}
use Rattle.tcl_goals.specs.declared.fact.BitLit.{BitLit}
use Rattle.tcl_goals.specs.declared.fact.Fact.{Fact}
use Rattle.tcl_goals.specs.declared.fact.Hyp.{Hyp}
use Rattle.tcl_goals.specs.declared.fact.Hyp.TheVariants as hyp
use Rattle.tcl_goals.specs.declared.lemma.Lemma.{Lemma}
use Rattle.tcl_goals.specs.declared.lemma.Numbered.{Numbered}
use Rattle.tcl_goals.specs.declared.piece.Shown.TheVariants as shown
use Rattle.tcl_goals.specs.LemmaList.{lemma_of, Extends}
use Rattle.tcl_board.specs.declared.event.LemmaMark.{LemmaMark}
use Rattle.tcl_board.specs.declared.evidence.Seen.{Seen}
use Rattle.tcl_board.specs.Shows.{is_lemma, AreCited}
use Rattle.tcl_board.specs.Moves.{admit_mark}
use Rattle.tcl_board.specs.Own.{lemma_seen, marked_lemma, with_number, lemmas_from, same_value, same_lit, same_bits, same_lemma, is_cited_own, cites_own}

pub some_is : {X : Type 0} (x y : X) → Some x ≡ Some y → x ≡ y
some_is x y e = cc

pub none_some : {X : Type 0} (x : X) → None ≡ Some x → ⊥
none_some x e = absurd (cc)

same_number : (n : ℕ) → nat_eq n n ≡ true
same_number n = grind (arith, nat_tests)

other_number : (m n : ℕ) → (m ≡ n → ⊥) → nat_eq m n ≡ false
other_number m n f = grind (arith, nat_tests)

-- a lemma is found under its number, and those of the others stay
pub listed_here : (i : ℕ) (o : Option Lemma) (others : List Numbered) → lemma_of others i ≡ None → lemma_of (with_number i o others) i ≡ o
unfolding lemma_of
listed_here i (Some m) others e = if_yes (nat_eq i i) (Some m) (lemma_of others i) (same_number i)
listed_here i None others e = e

pub listed_other : (i j : ℕ) (o : Option Lemma) (others : List Numbered) → (i ≡ j → ⊥) → lemma_of (with_number i o others) j ≡ lemma_of others j
unfolding lemma_of
listed_other i j (Some m) others f = if_no (nat_eq i j) (Some m) (lemma_of others j) (other_number i j f)
listed_other i j None others f = refl

lemma_below : (i j : ℕ) (kept : List Seen) (marks : List LemmaMark) → j < i → lemma_of (lemmas_from i kept marks) j ≡ None
unfolding lemmas_from lemma_of
lemma_below i j kept [] h = refl
lemma_below i j kept (m ∷ marks) h =
    listed_other i j (marked_lemma kept (Some m)) (lemmas_from (i + 1) kept marks) (λ e. omega (arith, e, h))
    ∙ lemma_below (i + 1) j kept marks (omega (arith, h))

lemma_at : (i j n : ℕ) (kept : List Seen) (marks : List LemmaMark) → j ≡ i + n → lemma_of (lemmas_from i kept marks) j ≡ marked_lemma kept (slice_get marks n)
unfolding lemmas_from lemma_of
lemma_at i j n kept [] e = refl
lemma_at i j zero kept (m ∷ marks) e =
    let same : i ≡ j = omega (arith, e) in
    subst (λ t. lemma_of (with_number i (marked_lemma kept (Some m)) (lemmas_from (i + 1) kept marks)) t ≡ marked_lemma kept (Some m)) same
    (listed_here i (marked_lemma kept (Some m)) (lemmas_from (i + 1) kept marks) (lemma_below (i + 1) i kept marks (omega arith)))
lemma_at i j (suc n) kept (m ∷ marks) e =
    listed_other i j (marked_lemma kept (Some m)) (lemmas_from (i + 1) kept marks) (λ f. omega (arith, e, f))
    ∙ lemma_at (i + 1) j n kept marks (omega (arith, e))

pub own_at : (kept : List Seen) (marks : List LemmaMark) (n : ℕ) → lemma_of (lemmas_from 0 kept marks) n ≡ marked_lemma kept (slice_get marks n)
own_at kept marks n = lemma_at 0 n n kept marks (omega arith)

-- more marks: an admitted lemma stays
abbrev pub More : List Seen → List Seen → LemmaMark → Option LemmaMark → Type 0
More kept new mark o = (m : Lemma) → marked_lemma kept (Some mark) ≡ Some m → marked_lemma new o ≡ Some m

abbrev pub MoreMarks : List Seen → List Seen → List LemmaMark → List LemmaMark → Type 0
MoreMarks kept new marks others = (j : ℕ) (mark : LemmaMark) → slice_get marks j ≡ Some mark → More kept new mark (slice_get others j)

pub more_extends : (kept new : List Seen) (marks others : List LemmaMark) → MoreMarks kept new marks others → Extends (lemmas_from 0 kept marks) (lemmas_from 0 new others)
more_extends kept new marks others more n m e = own_at new others n ∙ found (slice_get marks n) refl (sym (own_at kept marks n) ∙ e)
  where
    found : (o : Option LemmaMark) → slice_get marks n ≡ o → marked_lemma kept o ≡ Some m → marked_lemma new (slice_get others n) ≡ Some m
    found None f g = absurd (none_some m g)
    found (Some mark) f g = more n mark f m g

pub get_take : {X : Type 0} (n j : ℕ) (xs : List X) → j < n → slice_get (take n xs) j ≡ slice_get xs j
get_take zero j xs h = absurd (omega arith)
get_take (suc n) j [] h = refl
get_take (suc n) zero (x ∷ xs) h = refl
get_take (suc n) (suc j) (x ∷ xs) h = get_take n j xs (omega (arith, h))

take_within : {X : Type 0} (n j : ℕ) (xs : List X) (x : X) → slice_get (take n xs) j ≡ Some x → j < n
take_within zero j xs x e = absurd (none_some x e)
take_within (suc n) j [] x e = absurd (none_some x e)
take_within (suc n) zero (y ∷ xs) x e = omega arith
take_within (suc n) (suc j) (y ∷ xs) x e = omega (arith, take_within n j xs x e)

pub more_take : (kept new : List Seen) (marks others : List LemmaMark) (n : ℕ) → MoreMarks kept new marks others → MoreMarks kept new (take n marks) (take n others)
more_take kept new marks others n more j mark e m f =
    let h = take_within n j marks mark e in
    ap (marked_lemma new) (get_take n j others h) ∙ more j mark (sym (get_take n j marks h) ∙ e) m f

pub get_more : {X : Type 0} (xs : List X) (y : X) (n : ℕ) (x : X) → slice_get xs n ≡ Some x → slice_get (xs ++ y ∷ []) n ≡ Some x
get_more [] y n x e = absurd (none_some x e)
get_more (a ∷ xs) y zero x e = e
get_more (a ∷ xs) y (suc n) x e = get_more xs y n x e

-- more is kept
seen_stays : (kept : List Seen) (gift : Seen) (n : ℕ) (m : Lemma) (o : Option Seen) → slice_get kept n ≡ o → lemma_seen o ≡ Some m → lemma_seen (slice_get (kept ++ gift ∷ []) n) ≡ Some m
seen_stays kept gift n m None e f = absurd (none_some m f)
seen_stays kept gift n m (Some x) e f = ap lemma_seen (get_more kept gift n x e) ∙ f

pub marked_stays : (kept : List Seen) (gift : Seen) (mark : LemmaMark) → More kept (kept ++ gift ∷ []) mark (Some mark)
marked_stays kept gift mark m e = elim (cases_Bool mark.admitted) [
  | inl on ↦
      if_yes mark.admitted (lemma_seen (slice_get (kept ++ gift ∷ []) mark.kept)) None on
      ∙ seen_stays kept gift mark.kept m (slice_get kept mark.kept) refl (sym (if_yes mark.admitted (lemma_seen (slice_get kept mark.kept)) None on) ∙ e)
  | inr off ↦ absurd (none_some m (sym (if_no mark.admitted (lemma_seen (slice_get kept mark.kept)) None off) ∙ e))
]

pub same_more : (kept : List Seen) (marks : List LemmaMark) → MoreMarks kept kept marks marks
same_more kept marks j mark e m f = ap (marked_lemma kept) e ∙ f

pub kept_more : (kept : List Seen) (gift : Seen) (marks : List LemmaMark) → MoreMarks kept (kept ++ gift ∷ []) marks marks
kept_more kept gift marks j mark e m f = ap (marked_lemma (kept ++ gift ∷ [])) e ∙ marked_stays kept gift mark m f

pub mark_more : (kept : List Seen) (gift : Seen) (marks : List LemmaMark) (new : LemmaMark) → MoreMarks kept (kept ++ gift ∷ []) marks (marks ++ new ∷ [])
mark_more kept gift marks new j mark e m f = ap (marked_lemma (kept ++ gift ∷ [])) (get_more marks new j mark e) ∙ marked_stays kept gift mark m f

-- one more is admitted
admit_stays : (kept : List Seen) (mark : LemmaMark) → More kept kept mark (Some (record { kept = mark.kept; admitted = true }))
admit_stays kept mark m e = elim (cases_Bool mark.admitted) [
  | inl on ↦ sym (if_yes mark.admitted (lemma_seen (slice_get kept mark.kept)) None on) ∙ e
  | inr off ↦ absurd (none_some m (sym (if_no mark.admitted (lemma_seen (slice_get kept mark.kept)) None off) ∙ e))
]

pub get_set_here : {X : Type 0} (xs : List X) (i : ℕ) (y x : X) → slice_get xs i ≡ Some x → slice_get (slice_set xs i y) i ≡ Some y
get_set_here [] i y x e = absurd (none_some x e)
get_set_here (a ∷ xs) zero y x e = refl
get_set_here (a ∷ xs) (suc i) y x e = get_set_here xs i y x e

pub get_set_other : {X : Type 0} (xs : List X) (i k : ℕ) (y : X) → (i ≡ k → ⊥) → slice_get (slice_set xs i y) k ≡ slice_get xs k
get_set_other [] i k y f = refl
get_set_other (a ∷ xs) zero zero y f = absurd (f refl)
get_set_other (a ∷ xs) zero (suc k) y f = refl
get_set_other (a ∷ xs) (suc i) zero y f = refl
get_set_other (a ∷ xs) (suc i) (suc k) y f = get_set_other xs i k y (λ e. f (ap suc e))

pub admit_more : (kept : List Seen) (marks : List LemmaMark) (i : ℕ) (o : Option LemmaMark) → slice_get marks i ≡ o → MoreMarks kept kept marks (admit_mark marks i o)
admit_more kept marks i None h j mark e m f = same_more kept marks j mark e m f
admit_more kept marks i (Some x) h j mark e m f = elim (cases_eq i j) [
  | inl same ↦
      let here : x ≡ mark = some_is x mark (sym h ∙ (ap (slice_get marks) same ∙ e)) in
      subst (λ t. marked_lemma kept (slice_get (slice_set marks i (record { kept = t.kept; admitted = true })) j) ≡ Some m) (sym here)
      (subst (λ t. marked_lemma kept (slice_get (slice_set marks i (record { kept = mark.kept; admitted = true })) t) ≡ Some m) same
      (ap (marked_lemma kept) (get_set_here marks i (record { kept = mark.kept; admitted = true }) x h) ∙ admit_stays kept mark m f))
  | inr other ↦ ap (marked_lemma kept) (get_set_other marks i j (record { kept = x.kept; admitted = true }) other ∙ e) ∙ f
]

-- the same bits are equal, and equal bits are the same
value_is : (a b : Bool) → same_value a b ≡ true → a ≡ b
value_is true true e = refl
value_is true false e = absurd (cc)
value_is false true e = absurd (cc)
value_is false false e = refl

lit_is : (a b : BitLit) → same_lit a b ≡ true → a ≡ b
lit_is a b e =
    let one = and_parts (a.var == b.var) (a.bit == b.bit && same_value a.value b.value) e in
    let two = and_parts (a.bit == b.bit) (same_value a.value b.value) one.1 in
    let v = eqb-true a.var b.var one.0 in
    let w = eqb-true a.bit b.bit two.0 in
    let t = value_is a.value b.value two.1 in
    ap (λ n. record { var = n; bit = a.bit; value = a.value }) v
    ∙ (ap (λ n. record { var = b.var; bit = n; value = a.value }) w ∙ ap (λ n. record { var = b.var; bit = b.bit; value = n }) t)

pub bits_are : (a b : List BitLit) → same_bits a b ≡ true → a ≡ b
bits_are [] [] e = refl
bits_are [] (y ∷ ys) e = absurd (cc)
bits_are (x ∷ xs) [] e = absurd (cc)
bits_are (x ∷ xs) (y ∷ ys) e =
    let parts = and_parts (same_lit x y) (same_bits xs ys) e in
    ap (λ z. z ∷ xs) (lit_is x y parts.0) ∙ ap (λ zs. y ∷ zs) (bits_are xs ys parts.1)

lemma_is : (a : Lemma) (o : Option Lemma) → same_lemma (Some a) o ≡ true → o ≡ Some a
lemma_is a None e = absurd (cc)
lemma_is a (Some b) e =
    let parts = and_parts (a.level == b.level) (same_bits a.clause b.clause) e in
    let v = eqb-true a.level b.level parts.0 in
    let w = bits_are a.clause b.clause parts.1 in
    sym (ap Some (ap (λ n. record { level = n; clause = a.clause }) v ∙ ap (λ c. record { level = b.level; clause = c }) w))

-- what is cited is the board's own
cited_hyp : (f : Hyp → Bool) (n : ℕ) (h : Hyp) → is_lemma n h ≡ true → h ≡ hyp.Lemma n
cited_hyp f n (hyp.Line k) e = absurd (cc)
cited_hyp f n (hyp.Lemma m) e = ap hyp.Lemma (eqb-true m n e)

all_cited : (f : Hyp → Bool) (n : ℕ) (hyps : List Hyp) → list_any (is_lemma n) hyps ≡ true → list_all f hyps ≡ true → f (hyp.Lemma n) ≡ true
all_cited f n [] e all = absurd (cc)
all_cited f n (h ∷ hyps) e all =
    let parts = and_parts (f h) (list_all f hyps) all in
    elim (or_cases (is_lemma n h) (list_any (is_lemma n) hyps) e) [
      | inl here ↦ sym (ap f (cited_hyp f n h here)) ∙ parts.0
      | inr later ↦ all_cited f n hyps later parts.1
    ]

pub cited_extends : (cited : List Numbered) (kept : List Seen) (marks : List LemmaMark) (fact : Fact) → AreCited cited (shown.Fact fact) → cites_own cited kept marks fact.hyps ≡ true → Extends cited (lemmas_from 0 kept marks)
cited_extends cited kept marks fact c own n m e =
    let one = all_cited (is_cited_own cited kept marks) n fact.hyps (c n m e) own in
    own_at kept marks n ∙ lemma_is m (marked_lemma kept (slice_get marks n)) (sym (ap (λ o. same_lemma o (marked_lemma kept (slice_get marks n))) e) ∙ one)

-- equal bits are the same bits
same_of : (b : Bool) → same_value b b ≡ true
same_of true = refl
same_of false = refl

lit_same : (a : BitLit) → same_lit a a ≡ true
lit_same a = and_from (a.var == a.var) (a.bit == a.bit && same_value a.value a.value) (same_number a.var) (and_from (a.bit == a.bit) (same_value a.value a.value) (same_number a.bit) (same_of a.value))

bits_same : (a : List BitLit) → same_bits a a ≡ true
bits_same [] = refl
bits_same (x ∷ xs) = and_from (same_lit x x) (same_bits xs xs) (lit_same x) (bits_same xs)

pub bits_tell : (r : Bool) (a b : List BitLit) → IsTrue r ↔ (a ≡ b) → r ≡ same_bits a b
bits_tell true a b h = sym (subst (λ c. same_bits a c ≡ true) (h.0 refl) (bits_same a))
bits_tell false a b h = elim (cases_Bool (same_bits a b)) [ inl same ↦ absurd (false_is (h.1 (bits_are a b same))) | inr other ↦ sym other ]
  where
    false_is : IsTrue false → ⊥
    false_is t = absurd (cc)

-- an item of what is seen
pub get_map : {X Y : Type 0} (f : X → Y) (xs : List X) (k : ℕ) → slice_get (map f xs) k ≡ option_map f (slice_get xs k)
get_map f xs k = slice_get-map f xs k
