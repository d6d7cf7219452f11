-- The names of a text are distinct, and numbered by first occurrence.
use Rattle.std.proofs.Common.{◌≡◌, ◌<◌, ◌≤◌, ◌+◌, ℕ, zero, suc, max, Bool, true, false, not, cond, ◌||◌, List, [], ◌∷◌, ◌++◌, length, get_or, Option, refl, sym, ap, subst, ◌∙◌, arith, rules}
use Rattle.std.specs.Prelude.{Some, None, if◌then◌else◌, nat_le, bytes_eq, slice_get}
use Rattle.std.specs.List.{list_any}
use Rattle.std.proofs.lemmas.Bool.{and_parts, and_from, eqb-true, eq-eqb, le-leb}
use Rattle.std.proofs.lemmas.List.{length-append}
use Rattle.std.proofs.lemmas.List.Sums.{prefix_len-le-length, fails_before_first}
use Rattle.std.proofs.lemmas.Slice.Eq.{bytes_eq-Decides}
use Rattle.std.proofs.lemmas.Option.{slice_get_within, slice_get-get_or}
use Rattle.tcl_lang.specs.declared.instr.Op.{Op}
use Rattle.tcl_lang.specs.declared.ty.Ty.{Ty}
use Rattle.tcl_lang.specs.Shape.{is_numbered, AreDistinct}
use Rattle.tcl_text.specs.declared.token.Keyword.{Keyword}
use Rattle.tcl_text.specs.declared.token.Raw.{Raw}
use Rattle.tcl_text.specs.declared.token.Raw.TheVariants as raw
use Rattle.tcl_text.specs.declared.token.Token.{Token}
use Rattle.tcl_text.specs.declared.token.Token.TheVariants.{Name, Number, Kind, Instruction, Reserved, Sign}
use Rattle.tcl_text.specs.Words.{meaning_from, meaning_of, op_of_word, keyword_of_word, type_of_word}
use Rattle.tcl_text.specs.Numbering.{number_of, with_name, word_token, word_names, tokens_of, names_after}
use Rattle.tcl_text.proofs.TreeNames.{token_names}

-- a name that is new gets the next number, and another one a number before it
new_step : (b rest : Bool) (k n : ℕ) → (b || rest) ≡ false → (rest ≡ false → k ≡ n) → cond (not b) (1 + k) 0 ≡ suc n
new_step true rest k n e h = absurd cc
new_step false rest k n e h = let q = h e in omega (arith, q)

new_number : (names : List (List ℕ)) (x : List ℕ) → list_any (bytes_eq x) names ≡ false → number_of names x ≡ length names
new_number [] x e = refl
new_number (n ∷ names) x e =
    new_step (bytes_eq x n) (list_any (bytes_eq x) names) (number_of names x) (length names) e (λ h. new_number names x h)

known_step : (b rest : Bool) (k n : ℕ) → (b || rest) ≡ true → (rest ≡ true → k < n) → cond (not b) (1 + k) 0 < suc n
known_step true rest k n e h = omega arith
known_step false rest k n e h = let q = h e in omega (arith, q)

known_number : (names : List (List ℕ)) (x : List ℕ) → list_any (bytes_eq x) names ≡ true → number_of names x < length names
known_number [] x e = absurd cc
known_number (n ∷ names) x e =
    known_step (bytes_eq x n) (list_any (bytes_eq x) names) (number_of names x) (length names) e (λ h. known_number names x h)

within : (names : List (List ℕ)) (x : List ℕ) → number_of names x ≤ length names
within names x = prefix_len-le-length (λ y. not (bytes_eq x y)) names

count : (names : List (List ℕ)) (x : List ℕ) → max (length names) (number_of names x + 1) ≡ length (with_name names x)
count names x = by (list_any (bytes_eq x) names) refl
  where
    by : (b : Bool) → list_any (bytes_eq x) names ≡ b → max (length names) (number_of names x + 1) ≡ length (if b then names else names ++ x ∷ [])
    by true e = let h = known_number names x e in omega (arith, h)
    by false e = let h = new_number names x e in let l = length-append names (x ∷ []) in omega (arith, h, l)

-- no two names are equal
itself : (xs : List ℕ) → bytes_eq xs xs ≡ true
itself xs = search (rules, bytes_eq-Decides)

before : (names : List (List ℕ)) (x : List ℕ) (j : ℕ) → slice_get names j ≡ Some x → number_of names x ≤ j
before names x j e =
    let lt = slice_get_within names j x e in
    let g : slice_get names j ≡ Some (get_or names j x) = slice_get-get_or names j x lt in
    let same_x : get_or names j x ≡ x = cc in
    let hit : bytes_eq x (get_or names j x) ≡ true = rw same_x (itself x) in
    let no : j < number_of names x → ⊥ = λ h. let miss : bytes_eq x (get_or names j x) ≡ false = fails_before_first (bytes_eq x) names j x h in cc in
    omega arith

get_left : (names more : List (List ℕ)) (j : ℕ) → j < length names → slice_get (names ++ more) j ≡ slice_get names j
get_left [] more j h = absurd (omega arith)
get_left (x ∷ names) more zero h = refl
get_left (x ∷ names) more (suc j) h = get_left names more j (omega arith)

get_last : (names : List (List ℕ)) (x : List ℕ) → slice_get (names ++ x ∷ []) (length names) ≡ Some x
get_last [] x = refl
get_last (y ∷ names) x = get_last names x

distinct_one : (names : List (List ℕ)) (x : List ℕ) → AreDistinct names → AreDistinct (with_name names x)
distinct_one names x d = by (list_any (bytes_eq x) names) refl
  where
    pushed : number_of names x ≡ length names → AreDistinct (names ++ x ∷ [])
    pushed e j k y lt at_j at_k =
        let inside : k < length (names ++ x ∷ []) = slice_get_within (names ++ x ∷ []) k y at_k in
        let long : length (names ++ x ∷ []) ≡ length names + 1 = length-append names (x ∷ []) in
        let j_in : j < length names = omega arith in
        let old_j : slice_get names j ≡ Some y = sym (get_left names (x ∷ []) j j_in) ∙ at_j in
        let apart : k < length names → ⊥ = λ h. d j k y lt old_j (sym (get_left names (x ∷ []) k h) ∙ at_k) in
        let last : k ≡ length names = omega arith in
        let at_last : slice_get (names ++ x ∷ []) k ≡ Some x = ap (slice_get (names ++ x ∷ [])) last ∙ get_last names x in
        let y_is : Some y ≡ Some x = sym at_k ∙ at_last in
        let first : number_of names x ≤ j = before names x j (old_j ∙ y_is) in
        omega arith

    by : (b : Bool) → list_any (bytes_eq x) names ≡ b → AreDistinct (if b then names else names ++ x ∷ [])
    by true e = d
    by false e = pushed (new_number names x e)

pub distinct_none : AreDistinct []
distinct_none j k y lt at_j at_k = cc

pub distinct_after : (names : List (List ℕ)) (raws : List Raw) → AreDistinct names → AreDistinct (names_after names raws)
unfolding names_after
distinct_after names [] d = d
distinct_after names (raw.Number n ∷ raws) d = distinct_after names raws d
distinct_after names (raw.Sign s ∷ raws) d = distinct_after names raws d
distinct_after names (raw.Word x ∷ raws) d = distinct_after (word_names names x (meaning_of x)) raws (by (meaning_of x))
  where
    by : (m : Option Token) → AreDistinct (word_names names x m)
    by (Some token) = d
    by None = distinct_one names x d

-- a word that means something else is no name
abbrev IsNoName : Option Token → Type 0
IsNoName (Some (Name x)) = ⊥
IsNoName _ = Unit {0}

no_name_from : (o : Option Op) (k : Option Keyword) (t : Option Ty) → IsNoName (meaning_from o k t)
no_name_from (Some o) k t = tt
no_name_from None (Some k) t = tt
no_name_from None None (Some T) = tt
no_name_from None None None = tt

no_name : (x : List ℕ) → IsNoName (meaning_of x)
unfolding meaning_of
no_name x = no_name_from (op_of_word x) (keyword_of_word x) (type_of_word x)

passed : (token : Token) (ts : List Token) → IsNoName (Some token) → token_names (token ∷ ts) ≡ token_names ts
passed (Name x) ts n = absurd n
passed (Number k) ts n = refl
passed (Kind T) ts n = refl
passed (Instruction o) ts n = refl
passed (Reserved k) ts n = refl
passed (Sign s) ts n = refl

-- the names of a line are numbered from those before it on
pub line_numbered : (names : List (List ℕ)) (raws : List Raw) →
    is_numbered (length (names_after names raws)) (length names) (token_names (tokens_of names raws)) ≡ true
unfolding tokens_of names_after
line_numbered names [] = eq-eqb _ _ refl
line_numbered names (raw.Number n ∷ raws) = line_numbered names raws
line_numbered names (raw.Sign s ∷ raws) = line_numbered names raws
line_numbered names (raw.Word x ∷ raws) = by (meaning_of x) (no_name x) (λ ns. line_numbered ns raws)
  where
    by : (m : Option Token) → IsNoName m →
        ((ns : List (List ℕ)) → is_numbered (length (names_after ns raws)) (length ns) (token_names (tokens_of ns raws)) ≡ true) →
        is_numbered (length (names_after (word_names names x m) raws)) (length names)
        (token_names (word_token names x m ∷ tokens_of (word_names names x m) raws)) ≡ true
    by (Some token) n others =
        ap (is_numbered (length (names_after names raws)) (length names)) (passed token (tokens_of names raws) n)
        ∙ others names
    by None n others =
        and_from _ _ (le-leb _ _ (within names x))
        (ap (λ k. is_numbered (length (names_after (with_name names x) raws)) k (token_names (tokens_of (with_name names x) raws))) (count names x)
        ∙ others (with_name names x))

pub more_numbered : (m n next : ℕ) (xs ys : List ℕ) → is_numbered m next xs ≡ true → is_numbered n m ys ≡ true → is_numbered n next (xs ++ ys) ≡ true
more_numbered m n next [] ys p q = subst (λ k. is_numbered n k ys ≡ true) (sym (eqb-true next m p)) q
more_numbered m n next (x ∷ xs) ys p q =
    let h = and_parts (nat_le x next) (is_numbered m (max next (x + 1)) xs) p in
    and_from _ _ h.0 (more_numbered m n (max next (x + 1)) xs ys h.1 q)
