-- The numbers of tokens are in range, and their types are types.
use Rattle.std.proofs.Common.{◌≡◌, ℕ, zero, suc, Bool, true, false, ◌&&◌, List, [], ◌∷◌, take, refl, ap, subst, ◌∙◌, arith}
use Rattle.std.proofs.lemmas.Bool.Decides.{nat_tests}
use Rattle.std.specs.Prelude.{if◌then◌else◌, nat_le, nat_lt, ◌==◌, ◌^◌, pos, Option, Some, None, length, slice_index}
use Rattle.std.specs.List.{list_all, prefix_len}
use Rattle.tcl_lang.specs.declared.ty.Ty.{Ty}
use Rattle.tcl_lang.specs.Types.{is_ty}
use Rattle.tcl_lang.specs.Shape.{is_number}
use Rattle.tcl_lang.specs.declared.instr.Op.{Op}
use Rattle.tcl_text.specs.declared.symbol.Symbol.{Symbol}
use Rattle.tcl_text.specs.declared.token.Raw.{Raw}
use Rattle.tcl_text.specs.declared.token.Raw.TheVariants as raw
use Rattle.tcl_text.specs.declared.token.Cut.{Cut}
use Rattle.tcl_text.specs.declared.token.Keyword.{Keyword}
use Rattle.tcl_text.specs.declared.token.Token.{Token}
use Rattle.tcl_text.specs.Tokens.{is_blank, is_digit, is_word_start, is_word_byte, value_of, word_cut, number_cut, symbol_cut, symbol_here, long_symbol, short_symbol, next_byte, cut_of, more_of, attach, raws_from, raws_of}
use Rattle.tcl_text.specs.Words.{checked_type, short_type, long_type, type_of_word, sign_of_byte, meaning_from, meaning_of, op_of_word, keyword_of_word}
use Rattle.tcl_text.specs.Numbering.{token_of, names_after_token, word_token, tokens_of}
use Rattle.tcl_text.proofs.Shapes.{is_fit, Fit}

-- a raw token
abbrev pub is_fit_raw : Raw → Bool
is_fit_raw (raw.Word w) = true
is_fit_raw (raw.Number n) = is_number n
is_fit_raw (raw.Sign s) = true

abbrev FitCut : Option Cut → Type 0
FitCut None = Unit {0}
FitCut (Some c) = is_fit_raw c.token ≡ true

abbrev FitRaws : Option (List Raw) → Type 0
FitRaws None = Unit {0}
FitRaws (Some raws) = list_all is_fit_raw raws ≡ true

abbrev FitType : Option Ty → Type 0
FitType None = Unit {0}
FitType (Some T) = is_ty T ≡ true

abbrev FitMeaning : Option Token → Type 0
FitMeaning None = Unit {0}
FitMeaning (Some token) = is_fit token ≡ true

choice : {A : Type 0} (P : A → Type 0) (b : Bool) (x y : A) → P x → P y → P (if b then x else y)
choice P true x y p q = p
choice P false x y p q = q

tested : {A : Type 0} (P : A → Type 0) (b : Bool) (x y : A) → (b ≡ true → P x) → P y → P (if b then x else y)
tested P true x y p q = p refl
tested P false x y p q = q

word_fit : (b : ℕ) (bs : List ℕ) → FitCut (word_cut b bs)
unfolding word_cut
word_fit b bs = choice FitCut (nat_le (prefix_len is_word_byte bs) 63) _ None refl tt

number_is : (n : ℕ) → nat_lt n (2 ^ 127) ≡ true → is_number (pos n) ≡ true
number_is n e = grind (arith, nat_tests)

number_fit : (b : ℕ) (bs : List ℕ) → FitCut (number_cut b bs)
unfolding number_cut
number_fit b bs = tested FitCut (nat_lt (value_of (b ∷ take (prefix_len is_digit bs) bs)) (2 ^ 127)) _ None (number_is _) tt

symbol_fit : (long short : Option Symbol) → FitCut (symbol_here long short)
symbol_fit (Some s) short = refl
symbol_fit None (Some s) = refl
symbol_fit None None = tt

cut_fit : (b : ℕ) (bs : List ℕ) → FitCut (cut_of b bs)
unfolding cut_of symbol_cut
cut_fit b bs =
    choice FitCut (is_word_start b) _ _ (word_fit b bs)
    (choice FitCut (is_digit b) _ _ (number_fit b bs) (symbol_fit (long_symbol b (next_byte bs)) (short_symbol b)))

attach_fit : (c : Option Cut) (raws : Option (List Raw)) → FitCut c → FitRaws raws → FitRaws (attach c raws)
attach_fit (Some c) (Some raws) p q = ap (λ x. x && list_all is_fit_raw raws) p ∙ q
attach_fit (Some c) None p q = tt
attach_fit None raws p q = tt

pub raws_fit : (k : ℕ) (bs : List ℕ) → FitRaws (raws_from k bs)
unfolding raws_from
raws_fit zero [] = refl
raws_fit (suc k) [] = refl
raws_fit (suc k) (b ∷ bs) = raws_fit k bs
raws_fit zero (b ∷ bs) =
    choice FitRaws (is_blank b) _ _ (raws_fit 0 bs)
    (choice FitRaws (b == 35) _ _ refl (attach_fit (cut_of b bs) _ (cut_fit b bs) (raws_fit (more_of (cut_of b bs)) bs)))

checked_fit : (sign : Option Bool) (w : ℕ) → FitType (checked_type sign w)
checked_fit None w = tt
checked_fit (Some s) w = tested FitType (is_ty (record { signed = s; width = w })) _ None (λ e. e) tt

short_fit : (b d : ℕ) → FitType (short_type b d)
short_fit b d = choice FitType (nat_le 49 d && nat_le d 57) _ None (checked_fit (sign_of_byte b) _) tt

long_fit : (b d e : ℕ) → FitType (long_type b d e)
long_fit b d e =
    choice FitType (nat_le 49 d && nat_le d 57 && nat_le 48 e && nat_le e 57) _ None (checked_fit (sign_of_byte b) _) tt

type_fit : (w : List ℕ) → FitType (type_of_word w)
type_fit w =
    choice FitType (length w == 2) _ _ (short_fit (slice_index w 0) (slice_index w 1))
    (choice FitType (length w == 3) _ None (long_fit (slice_index w 0) (slice_index w 1) (slice_index w 2)) tt)

from_fit : (o : Option Op) (k : Option Keyword) (t : Option Ty) → FitType t → FitMeaning (meaning_from o k t)
from_fit (Some o) k t p = refl
from_fit None (Some k) t p = refl
from_fit None None (Some T) p = p
from_fit None None None p = tt

meaning_fit : (w : List ℕ) → FitMeaning (meaning_of w)
unfolding meaning_of
meaning_fit w = from_fit (op_of_word w) (keyword_of_word w) (type_of_word w) (type_fit w)

word_token_fit : (names : List (List ℕ)) (w : List ℕ) (m : Option Token) → FitMeaning m → is_fit (word_token names w m) ≡ true
word_token_fit names w (Some token) p = p
word_token_fit names w None p = refl

token_fit : (names : List (List ℕ)) (r : Raw) → is_fit_raw r ≡ true → is_fit (token_of names r) ≡ true
token_fit names (raw.Word w) p = word_token_fit names w (meaning_of w) (meaning_fit w)
token_fit names (raw.Number n) p = p
token_fit names (raw.Sign s) p = refl

first_fit : (a b : Bool) → (a && b) ≡ true → a ≡ true
first_fit true b e = refl
first_fit false b e = e

rest_fit : (a b : Bool) → (a && b) ≡ true → b ≡ true
rest_fit true b e = e
rest_fit false b e = absurd cc

pub tokens_fit : (names : List (List ℕ)) (raws : List Raw) → list_all is_fit_raw raws ≡ true → Fit (tokens_of names raws)
unfolding tokens_of
tokens_fit names [] p = refl
tokens_fit names (r ∷ raws) p =
    ap (λ x. x && list_all is_fit (tokens_of (names_after_token names r) raws))
    (token_fit names r (first_fit (is_fit_raw r) (list_all is_fit_raw raws) p))
    ∙ tokens_fit (names_after_token names r) raws (rest_fit (is_fit_raw r) (list_all is_fit_raw raws) p)

-- the tokens of a line
pub line_fit : (line : List ℕ) (raws : List Raw) (names : List (List ℕ)) → raws_of line ≡ Some raws → Fit (tokens_of names raws)
line_fit line raws names e = tokens_fit names raws (subst FitRaws e (raws_fit 0 line))
