-- The raw tokens of a canonical line, numbered under the names so far, are its tokens, and the names grow by those that
-- occur first in it.
use Rattle.std.proofs.Common.{◌≡◌, inl, inr, ℕ, suc, ◌+◌, ◌<◌, ◌≤◌, max, List, [], ◌∷◌, ◌++◌, refl, sym, ap, ◌∙◌, arith, rules, length, take, get_or, map}
use Rattle.std.specs.Prelude.{nat_le, nat_lt, Bool, true, false, not, ◌&&◌, bytes_eq, Some}
use Rattle.std.specs.List.{list_any, list_all}
use Rattle.std.proofs.lemmas.Bool.{leb-true, ltb-true, lt-ltb, and_parts, and_from, or_from, cases_lt, false_from_ne_true, not_from_true, not_from_false, cond-true, cond-false}
use Rattle.std.proofs.lemmas.List.{length-take, get_or-take, take_more}
use Rattle.std.proofs.lemmas.List.Folds.{list_any_at}
use Rattle.std.proofs.lemmas.List.Sums.{prefix_len_is}
use Rattle.std.proofs.lemmas.Slice.Eq.{bytes_eq-Decides}
use Rattle.std.proofs.lemmas.Option.{slice_get-get_or}
use Rattle.tcl_lang.specs.Types.{is_ty}
use Rattle.tcl_lang.specs.Shape.{AreDistinct, is_number, is_numbered}
use Rattle.tcl_text.specs.declared.token.Raw.TheVariants as raw
use Rattle.tcl_text.specs.declared.token.Token.{Token}
use Rattle.tcl_text.specs.declared.token.Token.TheVariants.{Name, Number, Kind, Instruction, Reserved, Sign}
use Rattle.tcl_text.specs.Words.{meaning_of, word_of_op, word_of_keyword}
use Rattle.tcl_text.specs.Canonical.{name_text, type_text}
use Rattle.tcl_text.specs.Numbering.{number_of, with_name, word_token, word_names, token_of, names_after_token, tokens_of, names_after}
use Rattle.tcl_text.proofs.TreeNames.{token_names}
use Rattle.tcl_report.proofs.CutRenderings.{AreNames, are_below, is_sound, raw_of}
use Rattle.tcl_report.proofs.Meanings.{kind_meaning, op_meaning, keyword_meaning}

-- after n names, each of these is one of the names so far or the next
abbrev pub in_order : ℕ → List ℕ → Bool
in_order n [] = true
in_order n (x ∷ xs) = nat_le x n && in_order (max n (x + 1)) xs

-- how many names there are after these
abbrev pub next_after : ℕ → List ℕ → ℕ
next_after n [] = n
next_after n (x ∷ xs) = next_after (max n (x + 1)) xs

pub next_grows : (n : ℕ) (xs : List ℕ) → n ≤ next_after n xs
next_grows n [] = omega arith
next_grows n (x ∷ xs) = let h = next_grows (max n (x + 1)) xs in omega (arith, h)

-- the numbering of a whole program, a part at a time
pub numbered_parts : (count n : ℕ) (xs ys : List ℕ) → is_numbered count n (xs ++ ys) ≡ true →
    (in_order n xs ≡ true) × (is_numbered count (next_after n xs) ys ≡ true)
numbered_parts count n [] ys e = (refl, e)
numbered_parts count n (x ∷ xs) ys e =
    let parts = and_parts (nat_le x n) (is_numbered count (max n (x + 1)) (xs ++ ys)) e in
    let others = numbered_parts count (max n (x + 1)) xs ys parts.1 in
    (and_from (nat_le x n) (in_order (max n (x + 1)) xs) parts.0 others.0, others.1)

pub next_below : (count n : ℕ) (xs : List ℕ) → next_after n xs ≤ count → are_below count xs ≡ true
next_below count n [] h = refl
next_below count n (x ∷ xs) h =
    let grows = next_grows (max n (x + 1)) xs in
    and_from (nat_lt x count) (are_below count xs) (lt-ltb x count (omega (arith, h, grows))) (next_below count (max n (x + 1)) xs h)

-- names that are equal
same : (xs ys : List ℕ) → bytes_eq xs ys ≡ true → xs ≡ ys
same xs ys e = search (rules, bytes_eq-Decides)

itself : (xs : List ℕ) → bytes_eq xs xs ≡ true
itself xs = search (rules, bytes_eq-Decides)

earlier : (names : List (List ℕ)) → AreDistinct names → (x k : ℕ) → k < x → x < length names →
    bytes_eq (get_or names x []) (get_or names k []) ≡ false
earlier names d x k lt h =
    false_from_ne_true (bytes_eq (get_or names x []) (get_or names k [])) (λ e.
    d k x (get_or names x []) lt
    (slice_get-get_or names k [] (omega (arith, lt, h)) ∙ ap Some (sym (same (get_or names x []) (get_or names k []) e)))
    (slice_get-get_or names x [] h))

none_any : (p : List ℕ → Bool) (xs : List (List ℕ)) → ((k : ℕ) → k < length xs → p (get_or xs k []) ≡ false) → list_any p xs ≡ false
none_any p [] h = refl
none_any p (x ∷ xs) h =
    or_from (p x) (list_any p xs) (h 0 (omega arith)) (none_any p xs (λ k l. h (suc k) (omega (arith, l))))

-- a name by its number, after n names
module _ (names : List (List ℕ)) (d : AreDistinct names) (n x : ℕ) (low : x ≤ n) (within : n ≤ length names) (h : x < length names) where
  long : length (take n names) ≡ n
  long = let l = length-take n names in omega (arith, l, within)

  passes : (k : ℕ) → k < x → not (bytes_eq (get_or names x []) (get_or (take n names) k [])) ≡ true
  passes k lt =
      not_from_false (bytes_eq (get_or names x []) (get_or (take n names) k []))
      (ap (bytes_eq (get_or names x [])) (get_or-take n names k [] (omega (arith, lt, low))) ∙ earlier names d x k lt h)

  here : x < n → bytes_eq (get_or names x []) (get_or (take n names) x []) ≡ true
  here lt = ap (bytes_eq (get_or names x [])) (get_or-take n names x [] lt) ∙ itself (get_or names x [])

  placed : number_of (take n names) (get_or names x []) ≡ x
  placed =
      prefix_len_is (λ y. not (bytes_eq (get_or names x []) y)) (take n names) x [] (let l = long in omega (arith, l, low)) passes
      (λ lt. not_from_true (bytes_eq (get_or names x []) (get_or (take n names) x [])) (here (let l = long in omega (arith, l, lt))))

  grown : with_name (take n names) (get_or names x []) ≡ take (max n (x + 1)) names
  grown =
      elim (cases_lt x n) [
        | inl lt ↦
            let keeps : n ≡ max n (x + 1) = omega (arith, lt) in
            cond-true (list_any (bytes_eq (get_or names x [])) (take n names)) (take n names) (take n names ++ get_or names x [] ∷ [])
            (list_any_at (bytes_eq (get_or names x [])) (take n names) x [] (let l = long in omega (arith, l, lt)) (here lt))
            ∙ ap (λ m. take m names) keeps
        | inr ge ↦
            let equal : x ≡ n = omega (arith, low, ge) in
            let next : n + 1 ≡ max n (x + 1) = omega (arith, equal) in
            cond-false (list_any (bytes_eq (get_or names x [])) (take n names)) (take n names) (take n names ++ get_or names x [] ∷ [])
            (none_any (bytes_eq (get_or names x [])) (take n names)
            (λ k lt. let l = long in
            ap (bytes_eq (get_or names x [])) (get_or-take n names k [] (omega (arith, l, lt)))
            ∙ earlier names d x k (omega (arith, l, lt, equal)) h))
            ∙ (ap (λ y. take n names ++ get_or names y [] ∷ []) equal
            ∙ (sym (take_more names n [] (omega (arith, h, equal))) ∙ ap (λ m. take m names) next))
      ]

-- a word that is no name
word_told : (before : List (List ℕ)) (word : List ℕ) (t : Token) → meaning_of word ≡ Some t →
    (token_of before (raw.Word word) ≡ t) × (names_after_token before (raw.Word word) ≡ before)
word_told before word t e = (ap (word_token before word) e, ap (word_names before word) e)

module _ (names : List (List ℕ)) (d : AreDistinct names) (h : AreNames names) where
  -- tokens after n names: numbered, they are themselves, and the names are the first ones up to their last
  abbrev Told : ℕ → List Token → Type 0
  Told n ts =
      (tokens_of (take n names) (map (raw_of names) ts) ≡ ts)
      × (names_after (take n names) (map (raw_of names) ts) ≡ take (next_after n (token_names ts)) names)

  told_more : (n m : ℕ) (t : Token) (ts : List Token) → token_of (take n names) (raw_of names t) ≡ t →
      names_after_token (take n names) (raw_of names t) ≡ take m names → next_after n (token_names (t ∷ ts)) ≡ next_after m (token_names ts) →
      Told m ts → Told n (t ∷ ts)
  unfolding tokens_of names_after
  told_more n m t ts e f same g = (
    ap (λ u. u ∷ tokens_of (names_after_token (take n names) (raw_of names t)) (map (raw_of names) ts)) e
        ∙ (ap (λ ns. t ∷ tokens_of ns (map (raw_of names) ts)) f ∙ ap (λ us. t ∷ us) g.0),
    ap (λ ns. names_after ns (map (raw_of names) ts)) f ∙ (g.1 ∙ ap (λ k. take k names) (sym same)),
  )

  told_none : (n : ℕ) → Told n []
  unfolding tokens_of names_after
  told_none n = (refl, refl)

  name_told : (n x : ℕ) → x ≤ n → n ≤ length names → x < length names →
      (token_of (take n names) (raw.Word (name_text names x)) ≡ Name x)
      × (names_after_token (take n names) (raw.Word (name_text names x)) ≡ take (max n (x + 1)) names)
  name_told n x low within inside =
      let free = h.free x inside in (
        ap (word_token (take n names) (name_text names x)) free ∙ ap Name (placed names d n x low within inside),
        ap (word_names (take n names) (name_text names x)) free ∙ grown names d n x low within inside,
      )

  pub told : (ts : List Token) (n : ℕ) → list_all (is_sound (length names)) ts ≡ true → in_order n (token_names ts) ≡ true →
      next_after n (token_names ts) ≤ length names → Told n ts
  told [] n s e f = told_none n
  told (Name x ∷ ts) n s e f =
      let sound = and_parts (nat_lt x (length names)) (list_all (is_sound (length names)) ts) s in
      let parts = and_parts (nat_le x n) (in_order (max n (x + 1)) (token_names ts)) e in
      let low = leb-true x n parts.0 in
      let grows = next_grows (max n (x + 1)) (token_names ts) in
      let first = name_told n x low (omega (arith, grows, f)) (ltb-true x (length names) sound.0) in
      told_more n (max n (x + 1)) (Name x) ts first.0 first.1 refl (told ts (max n (x + 1)) sound.1 parts.1 f)
  told (Kind T ∷ ts) n s e f =
      let sound = and_parts (is_ty T) (list_all (is_sound (length names)) ts) s in
      let first = word_told (take n names) (type_text T) (Kind T) (kind_meaning T sound.0) in
      told_more n n (Kind T) ts first.0 first.1 refl (told ts n sound.1 e f)
  told (Instruction o ∷ ts) n s e f =
      let first = word_told (take n names) (word_of_op o) (Instruction o) (op_meaning o) in
      told_more n n (Instruction o) ts first.0 first.1 refl (told ts n s e f)
  told (Reserved k ∷ ts) n s e f =
      let first = word_told (take n names) (word_of_keyword k) (Reserved k) (keyword_meaning k) in
      told_more n n (Reserved k) ts first.0 first.1 refl (told ts n s e f)
  told (Number m ∷ ts) n s e f =
      told_more n n (Number m) ts refl refl refl (told ts n (and_parts (is_number m) (list_all (is_sound (length names)) ts) s).1 e f)
  told (Sign c ∷ ts) n s e f = told_more n n (Sign c) ts refl refl refl (told ts n s e f)
