-- The rendering of tokens is cut into these tokens: the rule for the space between two neighbours keeps every two of them
-- apart, and so one induction over the list is enough.
use Rattle.std.proofs.Common.{◌≡◌, ℕ, ◌^◌, ◌<◌, List, [], ◌∷◌, ◌++◌, refl, ap, ◌∙◌, arith, length, map}
use Rattle.std.specs.Prelude.{◌==◌, nat_le, nat_lt, ℤ, pos, negsuc, int_le, int_lt, Bool, true, false, not, ◌&&◌, ◌||◌, if◌then◌else◌, decimal, Some, None}
use Rattle.std.specs.List.{list_all}
use Rattle.std.proofs.lemmas.Bool.{leb-true, ltb-true, le-leb, and_from, and_parts}
use Rattle.std.proofs.lemmas.Fmt.{length-decimal-le_wide}
use Rattle.std.proofs.lemmas.List.Folds.{list_all-append}
use Rattle.tcl_lang.specs.declared.ty.Ty.{Ty}
use Rattle.tcl_lang.specs.declared.instr.Op.{Op}
use Rattle.tcl_lang.specs.declared.instr.Op.TheVariants as op
use Rattle.tcl_lang.specs.Types.{is_ty}
use Rattle.tcl_lang.specs.Shape.{is_number}
use Rattle.tcl_text.specs.declared.symbol.Symbol.{Symbol}
use Rattle.tcl_text.specs.declared.symbol.Symbol.TheVariants.{Minus, Star, Ampersand, Bar, Less, Greater, Bang, Close}
use Rattle.tcl_text.specs.declared.token.Keyword.{Keyword}
use Rattle.tcl_text.specs.declared.token.Keyword.TheVariants as keyword
use Rattle.tcl_text.specs.declared.token.Raw.{Raw}
use Rattle.tcl_text.specs.declared.token.Raw.TheVariants as raw
use Rattle.tcl_text.specs.declared.token.Token.{Token}
use Rattle.tcl_text.specs.declared.token.Token.TheVariants.{Name, Number, Kind, Instruction, Reserved, Sign}
use Rattle.tcl_text.specs.Tokens.{is_word_start, is_word_byte, next_byte, raws_from}
use Rattle.tcl_text.specs.Words.{word_of_op, word_of_keyword, meaning_of}
use Rattle.tcl_text.specs.Canonical.{name_text, type_text}
use Rattle.tcl_text.proofs.NameWords.{is_word}
use Rattle.tcl_text.proofs.Shapes.{is_fit, Fit, fit_first, fit_rest}
use Rattle.tcl_text.proofs.TreeNames.{token_names}
use Rattle.tcl_report.specs.Rendering.{Before, tight, loose, ended, symbol_text, token_text, is_tight, is_held, space_unless, gap, behind_symbol, behind, rendered}
use Rattle.tcl_report.proofs.CutTokens.{put, Apart, is_shown, not_byte, IsOne, word_is_one, decimal_is, digit_word_bytes, number_is_one, Follows, symbol_cuts}

-- the names of a program: words that mean nothing else
pub record AreNames (names : List (List ℕ)) : Type 0 where
  pub word : (x : ℕ) → x < length names → is_word (name_text names x) ≡ true
  pub free : (x : ℕ) → x < length names → meaning_of (name_text names x) ≡ None

-- all these names are among the first ones
abbrev pub are_below : ℕ → List ℕ → Bool
are_below count xs = list_all (λ x. nat_lt x count) xs

-- a token whose name is among the first ones, and whose number or type is in range
abbrev pub is_sound : ℕ → Token → Bool
is_sound count (Name x) = nat_lt x count
is_sound count token = is_fit token

pub all_sound : (count : ℕ) (ts : List Token) → Fit ts → are_below count (token_names ts) ≡ true → list_all (is_sound count) ts ≡ true
all_sound count [] f e = refl
all_sound count (Name x ∷ ts) f e =
    let parts = and_parts (nat_lt x count) (are_below count (token_names ts)) e in
    and_from (nat_lt x count) (list_all (is_sound count) ts) parts.0 (all_sound count ts (fit_rest (Name x) ts f) parts.1)
all_sound count (token ∷ ts) f e =
    and_from (is_fit token) (list_all (is_sound count) ts) (fit_first token ts f) (all_sound count ts (fit_rest token ts f) e)

-- the words of types, instructions and lines
sign_start : (b : Bool) → is_word_start (if b then 115 else 117) ≡ true
sign_start true = refl
sign_start false = refl

type_word : (T : Ty) → is_ty T ≡ true → is_word (type_text T) ≡ true
type_word T e =
    let low = leb-true T.width 64 (and_parts (nat_le (if T.signed then 2 else 1) T.width) (nat_le T.width 64) e).1 in
    let short = length-decimal-le_wide 2 T.width (omega arith) (omega (arith, low)) (omega (arith, low)) in
    and_from (is_word_start (if T.signed then 115 else 117) && list_all is_word_byte (decimal T.width)) (nat_le (length (decimal T.width)) 63)
    (and_from (is_word_start (if T.signed then 115 else 117)) (list_all is_word_byte (decimal T.width)) (sign_start T.signed)
    (digit_word_bytes (decimal T.width) (decimal_is T.width (omega (arith, low))).digits))
    (le-leb (length (decimal T.width)) 63 (omega (arith, short)))

op_word : (o : Op) → is_word (word_of_op o) ≡ true
op_word op.Mov = refl
op_word _ = refl

keyword_word : (k : Keyword) → is_word (word_of_keyword k) ≡ true
keyword_word keyword.In = refl
keyword_word _ = refl

integer_is_one : (n : ℤ) → is_number n ≡ true → IsOne (token_text [] (Number n)) (raw.Number n)
integer_is_one (pos k) e = number_is_one k (ltb-true k (2 ^ 127) (and_parts (int_le (pos 0) (pos k)) (int_lt (pos k) (pos (2 ^ 127))) e).1)
integer_is_one (negsuc k) e = absurd cc

symbol_shown : (s : Symbol) → list_all is_shown (symbol_text s) ≡ true
symbol_shown Minus = refl
symbol_shown _ = refl

gap_shown : (b : Bool) → list_all is_shown (space_unless b) ≡ true
gap_shown true = refl
gap_shown false = refl

skipped_space : (b : Bool) (rest : List ℕ) → raws_from 0 (space_unless b ++ rest) ≡ raws_from 0 rest
unfolding raws_from
skipped_space true rest = refl
skipped_space false rest = refl

nothing_cut : raws_from 0 [] ≡ Some []
unfolding raws_from
nothing_cut = refl

-- the bytes that make some symbol longer
abbrev is_calm : ℕ → Bool
is_calm b = not (b == 42 || b == 38 || b == 124 || b == 61)

-- a token as it is cut, before words have their meanings
abbrev pub raw_of : List (List ℕ) → Token → Raw
raw_of names (Name x) = raw.Word (name_text names x)
raw_of names (Number n) = raw.Number n
raw_of names (Kind T) = raw.Word (type_text T)
raw_of names (Instruction o) = raw.Word (word_of_op o)
raw_of names (Reserved k) = raw.Word (word_of_keyword k)
raw_of names (Sign s) = raw.Sign s

module _ (names : List (List ℕ)) (h : AreNames names) where
  abbrev IsSound : Token → Type 0
  IsSound token = is_sound (length names) token ≡ true

  name_is_one : (x : ℕ) → IsSound (Name x) → IsOne (name_text names x) (raw.Word (name_text names x))
  name_is_one x e = word_is_one (name_text names x) (h.word x (ltb-true x (length names) e))

  -- behind an operator or a comma
  calm_behind : (listed : Bool) (ts : List Token) → is_calm (next_byte (rendered names listed loose ts)) ≡ true
  calm_behind listed [] = refl
  calm_behind listed (Sign s ∷ ts) = by s
    where
      by : (s : Symbol) → is_calm (next_byte (rendered names listed loose (Sign s ∷ ts))) ≡ true
      by Close = refl
      by _ = refl
  calm_behind listed (_ ∷ ts) = refl

  -- behind a `!`
  no_equal : (listed : Bool) (ts : List Token) → list_all (is_sound (length names)) ts ≡ true → (next_byte (rendered names listed tight ts) == 61) ≡ false
  no_equal listed [] e = refl
  no_equal listed (Name x ∷ ts) e = (name_is_one x (and_parts (nat_lt x (length names)) (list_all (is_sound (length names)) ts) e).0).first (rendered names listed (if listed then loose else ended) ts)
  no_equal listed (Number n ∷ ts) e = (integer_is_one n (and_parts (is_number n) (list_all (is_sound (length names)) ts) e).0).first (rendered names listed (if listed then loose else ended) ts)
  no_equal listed (Kind T ∷ ts) e = (word_is_one (type_text T) (type_word T (and_parts (is_ty T) (list_all (is_sound (length names)) ts) e).0)).first (rendered names listed (if listed then loose else ended) ts)
  no_equal listed (Instruction o ∷ ts) e = (word_is_one (word_of_op o) (op_word o)).first _
  no_equal listed (Reserved k ∷ ts) e = (word_is_one (word_of_keyword k) (keyword_word k)).first _
  no_equal listed (Sign s ∷ ts) e = by s
    where
      by : (s : Symbol) → (next_byte (rendered names listed tight (Sign s ∷ ts)) == 61) ≡ false
      by Close = refl
      by _ = refl

  -- behind a word or a number
  apart_behind : (listed : Bool) (before : Before) (ts : List Token) → is_tight before ≡ false → Apart (rendered names listed before ts)
  apart_behind listed tight ts e = absurd cc
  apart_behind listed before [] e = refl
  apart_behind listed before (Sign s ∷ ts) e = by before s
    where
      by : (before : Before) (s : Symbol) → Apart (rendered names listed before (Sign s ∷ ts))
      by tight Close = refl
      by loose Close = refl
      by ended Close = refl
      by tight _ = refl
      by loose _ = refl
      by ended _ = refl
  apart_behind listed loose (_ ∷ ts) e = refl
  apart_behind listed ended (_ ∷ ts) e = refl

  word_ends : (listed : Bool) → is_tight (if listed then loose else ended) ≡ false
  word_ends true = refl
  word_ends false = refl

  keyword_ends : (listed : Bool) (before : Before) (k : Keyword) → is_tight (behind listed before (Reserved k)) ≡ false
  keyword_ends listed before keyword.True = refl
  keyword_ends listed before keyword.False = refl
  keyword_ends listed before _ = refl

  -- each symbol and what stands behind it
  follows : (listed : Bool) (before : Before) (s : Symbol) (ts : List Token) → list_all (is_sound (length names)) ts ≡ true →
      Follows s (rendered names listed (behind_symbol s before) ts)
  follows listed before Star ts e = not_byte is_calm (next_byte (rendered names listed loose ts)) 42 (calm_behind listed ts) refl
  follows listed before Ampersand ts e = not_byte is_calm (next_byte (rendered names listed loose ts)) 38 (calm_behind listed ts) refl
  follows listed before Bar ts e = not_byte is_calm (next_byte (rendered names listed loose ts)) 124 (calm_behind listed ts) refl
  follows listed before Less ts e = not_byte is_calm (next_byte (rendered names listed loose ts)) 61 (calm_behind listed ts) refl
  follows listed before Greater ts e = not_byte is_calm (next_byte (rendered names listed loose ts)) 61 (calm_behind listed ts) refl
  follows listed before Bang ts e = no_equal listed ts e
  follows listed before _ ts e = tt

  -- one token, and what stands behind it
  abbrev Rest : Bool → Before → Token → List Token → List ℕ
  Rest listed before token ts = rendered names listed (behind listed before token) ts

  token_cuts : (listed : Bool) (before : Before) (token : Token) (ts : List Token) → IsSound token → list_all (is_sound (length names)) ts ≡ true →
      raws_from 0 (token_text names token ++ Rest listed before token ts) ≡ put (raw_of names token) (raws_from 0 (Rest listed before token ts))
  token_cuts listed before (Name x) ts e f = (name_is_one x e).cut _ (apart_behind listed (if listed then loose else ended) ts (word_ends listed))
  token_cuts listed before (Number n) ts e f = (integer_is_one n e).cut _ (apart_behind listed (if listed then loose else ended) ts (word_ends listed))
  token_cuts listed before (Kind T) ts e f =
      (word_is_one (type_text T) (type_word T e)).cut _ (apart_behind listed (if listed then loose else ended) ts (word_ends listed))
  token_cuts listed before (Instruction o) ts e f =
      (word_is_one (word_of_op o) (op_word o)).cut _ (apart_behind listed (if listed then loose else ended) ts (word_ends listed))
  token_cuts listed before (Reserved k) ts e f =
      (word_is_one (word_of_keyword k) (keyword_word k)).cut _ (apart_behind listed (behind listed before (Reserved k)) ts (keyword_ends listed before k))
  token_cuts listed before (Sign s) ts e f = symbol_cuts s (Rest listed before (Sign s) ts) (follows listed before s ts f)

  token_shown : (token : Token) → IsSound token → list_all is_shown (token_text names token) ≡ true
  token_shown (Name x) e = (name_is_one x e).shown
  token_shown (Number n) e = (integer_is_one n e).shown
  token_shown (Kind T) e = (word_is_one (type_text T) (type_word T e)).shown
  token_shown (Instruction o) e = (word_is_one (word_of_op o) (op_word o)).shown
  token_shown (Reserved k) e = (word_is_one (word_of_keyword k) (keyword_word k)).shown
  token_shown (Sign s) e = symbol_shown s

  -- the whole list
  pub rendered_cuts : (listed : Bool) (before : Before) (ts : List Token) → list_all (is_sound (length names)) ts ≡ true →
      raws_from 0 (rendered names listed before ts) ≡ Some (map (raw_of names) ts)
  rendered_cuts listed before [] e = nothing_cut
  rendered_cuts listed before (token ∷ ts) e =
      let parts = and_parts (is_sound (length names) token) (list_all (is_sound (length names)) ts) e in
      skipped_space (is_held before token) (token_text names token ++ Rest listed before token ts)
      ∙ (token_cuts listed before token ts parts.0 parts.1
      ∙ ap (put (raw_of names token)) (rendered_cuts listed (behind listed before token) ts parts.1))

  pub rendered_shown : (listed : Bool) (before : Before) (ts : List Token) → list_all (is_sound (length names)) ts ≡ true →
      list_all is_shown (rendered names listed before ts) ≡ true
  rendered_shown listed before [] e = refl
  rendered_shown listed before (token ∷ ts) e =
      let parts = and_parts (is_sound (length names) token) (list_all (is_sound (length names)) ts) e in
      let others = Rest listed before token ts in
      list_all-append is_shown (gap before token) (token_text names token ++ others)
      ∙ and_from (list_all is_shown (gap before token)) (list_all is_shown (token_text names token ++ others)) (gap_shown (is_held before token))
      (list_all-append is_shown (token_text names token) others
      ∙ and_from (list_all is_shown (token_text names token)) (list_all is_shown others) (token_shown token parts.0)
      (rendered_shown listed (behind listed before token) ts parts.1))
