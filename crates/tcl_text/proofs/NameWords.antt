-- Names are words that mean nothing else.
use Rattle.std.proofs.Common.{◌≡◌, ◌+◌, ℕ, zero, suc, List, [], ◌∷◌, ◌++◌, length, take, Bool, true, false, refl, ap, subst, ◌∙◌, arith}
use Rattle.std.specs.Prelude.{Option, Some, None, is_none, nat_le, nat_lt, ◌^◌, ◌&&◌, ◌==◌, if◌then◌else◌, bytes_eq}
use Rattle.std.specs.List.{list_any, list_all, prefix_len}
use Rattle.std.proofs.lemmas.Bool.{le-leb, leb-true}
use Rattle.std.proofs.lemmas.List.{length-take-le}
use Rattle.std.proofs.lemmas.List.Folds.{list_all-append}
use Rattle.std.proofs.lemmas.List.Sums.{prefix_len-le-length}
use Rattle.tcl_text.specs.declared.symbol.Symbol.{Symbol}
use Rattle.tcl_text.specs.declared.token.Raw.{Raw}
use Rattle.tcl_text.specs.declared.token.Raw.TheVariants as raw
use Rattle.tcl_text.specs.declared.token.Cut.{Cut}
use Rattle.tcl_text.specs.declared.token.Token.{Token}
use Rattle.tcl_text.specs.Tokens.{is_blank, is_digit, is_word_start, is_word_byte, value_of, word_cut, number_cut, symbol_cut, symbol_here, long_symbol, short_symbol, next_byte, cut_of, more_of, attach, raws_from}
use Rattle.tcl_text.specs.Words.{meaning_of}
use Rattle.tcl_text.specs.Numbering.{with_name, word_names, names_after_token, names_after}

-- a letter or `_`, then letters, digits and `_`, at most 64 in all
abbrev pub is_word : List ℕ → Bool
is_word [] = false
is_word (b ∷ others) = is_word_start b && list_all is_word_byte others && nat_le (length others) 63

-- a name
abbrev pub is_proper : List ℕ → Bool
is_proper w = is_word w && is_none (meaning_of w)

-- the words among raw tokens
abbrev pub is_worded : Raw → Bool
is_worded (raw.Word w) = is_word w
is_worded (raw.Number n) = true
is_worded (raw.Sign s) = true

abbrev WordedCut : Option Cut → Type 0
WordedCut None = Unit {0}
WordedCut (Some c) = is_worded c.token ≡ true

abbrev pub Worded : Option (List Raw) → Type 0
Worded None = Unit {0}
Worded (Some raws) = list_all is_worded raws ≡ true

choice : {A : Type 0} (P : A → Type 0) (b : Bool) (x y : A) → P x → P y → P (if b then x else y)
choice P true x y p q = p
choice P false x y p q = q

tested : {A : Type 0} (P : A → Type 0) (b : Bool) (x y : A) → (b ≡ true → P x) → P y → P (if b then x else y)
tested P true x y p q = p refl
tested P false x y p q = q

both : (a b : Bool) → a ≡ true → b ≡ true → (a && b) ≡ true
both true b p q = q
both false b p q = absurd cc

first_of : (a b : Bool) → (a && b) ≡ true → a ≡ true
first_of true b e = refl
first_of false b e = absurd cc

second_of : (a b : Bool) → (a && b) ≡ true → b ≡ true
second_of true b e = e
second_of false b e = absurd cc

prefix_all : {X : Type 0} (p : X → Bool) (xs : List X) → list_all p (take (prefix_len p xs) xs) ≡ true
prefix_all p [] = refl
prefix_all p (x ∷ xs) = by_first (p x) refl (prefix_all p xs)
  where
    by_first : (b : Bool) → p x ≡ b → list_all p (take (prefix_len p xs) xs) ≡ true → list_all p (take (prefix_len p (x ∷ xs)) (x ∷ xs)) ≡ true
    by_first true e r =
        let one : suc (prefix_len p xs) ≡ 1 + prefix_len p xs = omega arith in
        rw e (subst (λ n. list_all p (take n (x ∷ xs)) ≡ true) one (both (p x) (list_all p (take (prefix_len p xs) xs)) e r))
    by_first false e r = rw e refl

word_worded : (b : ℕ) (bs : List ℕ) → is_word_start b ≡ true → WordedCut (word_cut b bs)
unfolding word_cut
word_worded b bs start =
    tested WordedCut (nat_le (prefix_len is_word_byte bs) 63) _ None
    (λ few.
    let long = length-take-le (prefix_len is_word_byte bs) bs (prefix_len-le-length is_word_byte bs) in
    let low = leb-true (prefix_len is_word_byte bs) 63 few in
    both (is_word_start b && list_all is_word_byte (take (prefix_len is_word_byte bs) bs)) (nat_le (length (take (prefix_len is_word_byte bs) bs)) 63)
    (both (is_word_start b) (list_all is_word_byte (take (prefix_len is_word_byte bs) bs)) start (prefix_all is_word_byte bs))
    (le-leb (length (take (prefix_len is_word_byte bs) bs)) 63 (omega (arith, long, low)))) tt

number_worded : (b : ℕ) (bs : List ℕ) → WordedCut (number_cut b bs)
unfolding number_cut
number_worded b bs = choice WordedCut (nat_lt (value_of (b ∷ take (prefix_len is_digit bs) bs)) (2 ^ 127)) _ None refl tt

symbol_worded : (long short : Option Symbol) → WordedCut (symbol_here long short)
symbol_worded (Some s) short = refl
symbol_worded None (Some s) = refl
symbol_worded None None = tt

cut_worded : (b : ℕ) (bs : List ℕ) → WordedCut (cut_of b bs)
unfolding cut_of symbol_cut
cut_worded b bs =
    tested WordedCut (is_word_start b) _ _ (word_worded b bs)
    (choice WordedCut (is_digit b) _ _ (number_worded b bs) (symbol_worded (long_symbol b (next_byte bs)) (short_symbol b)))

attach_worded : (c : Option Cut) (raws : Option (List Raw)) → WordedCut c → Worded raws → Worded (attach c raws)
attach_worded (Some c) (Some raws) p q = both (is_worded c.token) (list_all is_worded raws) p q
attach_worded (Some c) None p q = tt
attach_worded None raws p q = tt

pub raws_worded : (k : ℕ) (bs : List ℕ) → Worded (raws_from k bs)
unfolding raws_from
raws_worded zero [] = refl
raws_worded (suc k) [] = refl
raws_worded (suc k) (b ∷ bs) = raws_worded k bs
raws_worded zero (b ∷ bs) =
    choice Worded (is_blank b) _ _ (raws_worded 0 bs)
    (choice Worded (b == 35) _ _ refl (attach_worded (cut_of b bs) _ (cut_worded b bs) (raws_worded (more_of (cut_of b bs)) bs)))

-- the names after a token, and after a line
with_name_proper : (names : List (List ℕ)) (w : List ℕ) → list_all is_proper names ≡ true → is_proper w ≡ true →
    list_all is_proper (with_name names w) ≡ true
with_name_proper names w p q = by_case (list_any (bytes_eq w) names)
  where
    by_case : (b : Bool) → list_all is_proper (if b then names else names ++ w ∷ []) ≡ true
    by_case true = p
    by_case false = list_all-append is_proper names (w ∷ []) ∙ both (list_all is_proper names) (list_all is_proper (w ∷ [])) p (both (is_proper w) true q refl)

token_proper : (names : List (List ℕ)) (r : Raw) → is_worded r ≡ true → list_all is_proper names ≡ true →
    list_all is_proper (names_after_token names r) ≡ true
token_proper names (raw.Word w) e p = by_meaning (meaning_of w) refl
  where
    by_meaning : (m : Option Token) → meaning_of w ≡ m → list_all is_proper (word_names names w m) ≡ true
    by_meaning (Some token) d = p
    by_meaning None d = with_name_proper names w p (both (is_word w) (is_none (meaning_of w)) e (ap is_none d))
token_proper names (raw.Number n) e p = p
token_proper names (raw.Sign s) e p = p

pub names_proper : (names : List (List ℕ)) (raws : List Raw) → list_all is_worded raws ≡ true → list_all is_proper names ≡ true →
    list_all is_proper (names_after names raws) ≡ true
unfolding names_after
names_proper names [] e p = p
names_proper names (r ∷ raws) e p =
    names_proper (names_after_token names r) raws (second_of (is_worded r) (list_all is_worded raws) e)
    (token_proper names r (first_of (is_worded r) (list_all is_worded raws) e) p)
