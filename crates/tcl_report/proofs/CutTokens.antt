-- Words and numbers are cut as one token where what follows goes on with no word and no number, and symbols where the next
-- byte makes them no longer.
use Rattle.std.proofs.Common.{◌≡◌, inl, inr, ℕ, suc, ◌+◌, ◌-◌, ◌*◌, ◌^◌, ◌<◌, ◌≤◌, List, [], ◌∷◌, ◌++◌, refl, ap, ◌∙◌, arith, length, take}
use Rattle.std.specs.Prelude.{◌==◌, ◌/◌, ◌%◌, nat_le, nat_lt, pos, Bool, true, false, ◌&&◌, ◌||◌, if◌then◌else◌, decimal, Option, Some, None}
use Rattle.std.specs.List.{list_all, prefix_len}
use Rattle.std.proofs.lemmas.Bool.{leb-true, le-leb, lt-ltb, ne_eqb, both_ways, cond-true, cond-false, and_from, and_parts, and_cases, or_from, or_left, or_right, or_parts, cases_lt, agree_below_at}
use Rattle.std.proofs.lemmas.Fmt.{decimal_by_steps_wide}
use Rattle.std.proofs.lemmas.List.{take_at, length-append}
use Rattle.std.proofs.lemmas.List.Folds.{list_all-append}
use Rattle.std.proofs.lemmas.List.Sums.{fold_push}
use Rattle.tcl_text.specs.declared.symbol.Symbol.{Symbol}
use Rattle.tcl_text.specs.declared.symbol.Symbol.TheVariants as symbol
use Rattle.tcl_text.specs.declared.token.Raw.{Raw}
use Rattle.tcl_text.specs.declared.token.Raw.TheVariants.{Word, Number, Sign}
use Rattle.tcl_text.specs.declared.token.Cut.{Cut}
use Rattle.tcl_text.specs.Tokens.{is_blank, is_digit, is_letter, is_word_start, is_word_byte, value_of, next_byte, symbol_here, word_cut, number_cut, symbol_cut, cut_of, more_of, attach, raws_from}
use Rattle.tcl_text.proofs.NameWords.{is_word}
use Rattle.tcl_report.specs.Rendering.{symbol_text}

-- a token before others
abbrev pub put : Raw → Option (List Raw) → Option (List Raw)
put raw None = None
put raw (Some others) = Some (raw ∷ others)

-- no word and no number goes on here
abbrev pub Apart : List ℕ → Type 0
Apart rest = is_word_byte (next_byte rest) ≡ false

-- a byte that ends no line
abbrev pub is_shown : ℕ → Bool
is_shown b = nat_le 32 b

-- bytes
pub not_byte : (p : ℕ → Bool) (b c : ℕ) → p b ≡ true → p c ≡ false → (b == c) ≡ false
not_byte p b c e f = ne_eqb b c (λ s. both_ways (p b) (ap p s ∙ f) e)

shown_byte : (b : ℕ) → is_word_byte b ≡ true → is_shown b ≡ true
shown_byte b e =
    elim (cases_lt b 32) [
      | inl low ↦ absurd (both_ways (is_word_byte b) (agree_below_at is_word_byte (λ _. false) 32 b refl low) e)
      | inr high ↦ le-leb 32 b high
    ]

pub shown_word : (others : List ℕ) → list_all is_word_byte others ≡ true → list_all is_shown others ≡ true
shown_word [] e = refl
shown_word (b ∷ others) e =
    let parts = and_parts (is_word_byte b) (list_all is_word_byte others) e in
    and_from (is_shown b) (list_all is_shown others) (shown_byte b parts.0) (shown_word others parts.1)

digit_no_start : (b : ℕ) → is_digit b ≡ true → is_word_start b ≡ false
digit_no_start b e =
    let below = leb-true b 57 (and_parts (nat_le 48 b) (nat_le b 57) e).1 in
    let none = agree_below_at (λ b. is_word_start b && is_digit b) (λ _. false) 58 b refl (omega (arith, below)) in
    elim (and_cases (is_word_start b) (is_digit b) none) [
      | inl here ↦ here
      | inr there ↦ absurd (both_ways (is_digit b) there e)
    ]

digit_word_byte : (b : ℕ) → is_digit b ≡ true → is_word_byte b ≡ true
digit_word_byte b e = or_right (is_letter b || b == 95) (is_digit b) e

pub digit_word_bytes : (others : List ℕ) → list_all is_digit others ≡ true → list_all is_word_byte others ≡ true
digit_word_bytes [] e = refl
digit_word_bytes (b ∷ others) e =
    let parts = and_parts (is_digit b) (list_all is_digit others) e in
    and_from (is_word_byte b) (list_all is_word_byte others) (digit_word_byte b parts.0) (digit_word_bytes others parts.1)

-- the run of bytes that belong to a token
pub run : (p : ℕ → Bool) (others rest : List ℕ) → list_all p others ≡ true → (p (next_byte rest)) ≡ false →
    prefix_len p (others ++ rest) ≡ length others
run p [] [] e f = refl
run p [] (b ∷ rest) e f = ap (λ t. if t then 1 + prefix_len p rest else 0) f
run p (b ∷ others) rest e f =
    let parts = and_parts (p b) (list_all p others) e in
    ap (λ t. if t then 1 + prefix_len p (others ++ rest) else 0) parts.0 ∙ one_more (prefix_len p (others ++ rest)) (length others) (run p others rest parts.1 f)
  where
    one_more : (m n : ℕ) → m ≡ n → 1 + m ≡ suc n
    one_more m n e = omega (arith, e)

pub skip : (others rest : List ℕ) → raws_from (length others) (others ++ rest) ≡ raws_from 0 rest
unfolding raws_from
skip [] rest = refl
skip (b ∷ others) rest = skip others rest

attach_is : (c : Cut) (x : Option (List Raw)) → attach (Some c) x ≡ put c.token x
attach_is c None = refl
attach_is c (Some others) = refl

cut_step : (b : ℕ) (bytes : List ℕ) (c : Cut) → is_blank b ≡ false → (b == 35) ≡ false → cut_of b bytes ≡ Some c →
    raws_from 0 (b ∷ bytes) ≡ attach (Some c) (raws_from c.more bytes)
unfolding raws_from
cut_step b bytes c e f g =
    cond-false (is_blank b) (raws_from 0 bytes) (if b == 35 then Some [] else attach (cut_of b bytes) (raws_from (more_of (cut_of b bytes)) bytes)) e
    ∙ (cond-false (b == 35) (Some []) (attach (cut_of b bytes) (raws_from (more_of (cut_of b bytes)) bytes)) f
    ∙ ap (λ o. attach o (raws_from (more_of o) bytes)) g)

-- a word
word_step : (b : ℕ) (others rest : List ℕ) → is_word_start b ≡ true → list_all is_word_byte others ≡ true →
    nat_le (length others) 63 ≡ true → Apart rest →
    cut_of b (others ++ rest) ≡ Some (record { token = Word (b ∷ others); more = length others })
unfolding cut_of word_cut
word_step b others rest e f g apart =
    cond-true (is_word_start b) (word_cut b (others ++ rest)) (if is_digit b then number_cut b (others ++ rest) else symbol_cut b (others ++ rest)) e
    ∙ (ap (λ n. if nat_le n 63 then Some (record { token = Word (b ∷ take n (others ++ rest)); more = n }) else None) (run is_word_byte others rest f apart)
    ∙ (cond-true (nat_le (length others) 63) (Some (record { token = Word (b ∷ take (length others) (others ++ rest)); more = length others })) None g
    ∙ ap (λ ys. Some (record { token = Word (b ∷ ys); more = length others })) (take_at others rest (length others) refl)))

-- a text that is cut as one token: its first byte is no `=`, and its bytes end no line
pub record IsOne (text : List ℕ) (raw : Raw) : Type 0 where
  pub cut : (rest : List ℕ) → Apart rest → raws_from 0 (text ++ rest) ≡ put raw (raws_from 0 rest)
  pub first : (rest : List ℕ) → (next_byte (text ++ rest) == 61) ≡ false
  pub shown : list_all is_shown text ≡ true

pub word_is_one : (w : List ℕ) → is_word w ≡ true → IsOne w (Word w)
word_is_one [] e = absurd cc
word_is_one (b ∷ others) h =
    let two = and_parts (is_word_start b && list_all is_word_byte others) (nat_le (length others) 63) h in
    let one = and_parts (is_word_start b) (list_all is_word_byte others) two.0 in
    let e = one.0 in
    let c : Cut = record { token = Word (b ∷ others); more = length others } in
    record {
      cut = λ rest apart.
          cut_step b (others ++ rest) c (or_from (b == 32) (b == 9) (not_byte is_word_start b 32 e refl) (not_byte is_word_start b 9 e refl))
          (not_byte is_word_start b 35 e refl) (word_step b others rest e one.1 two.1 apart)
          ∙ (attach_is c (raws_from (length others) (others ++ rest)) ∙ ap (put (Word (b ∷ others))) (skip others rest));
      first = λ rest. not_byte is_word_start b 61 e refl;
      shown =
          and_from (is_shown b) (list_all is_shown others) (shown_byte b (or_left (is_word_start b) (is_digit b) e)) (shown_word others one.1);
    }

-- a number
pub record IsDecimal (n : ℕ) (ds : List ℕ) : Type 0 where
  pub digits : list_all is_digit ds ≡ true
  pub value : value_of ds ≡ n
  pub some : 0 < length ds

is_digit_of : (n : ℕ) → n < 10 → is_digit (48 + n) ≡ true
is_digit_of n h =
    and_from (nat_le 48 (48 + n)) (nat_le (48 + n) 57) (le-leb 48 (48 + n) (omega arith)) (le-leb (48 + n) 57 (omega (arith, h)))

one_digit : (n : ℕ) → n < 10 → IsDecimal n ((48 + n) ∷ [])
one_digit n h = record {
  digits = and_from (is_digit (48 + n)) true (is_digit_of n h) refl;
  value = omega arith;
  some = omega arith;
}

more_digits : (n : ℕ) (ds : List ℕ) → 10 ≤ n → IsDecimal (n / 10) ds → IsDecimal n (ds ++ ((48 + n % 10) ∷ []))
more_digits n ds h p = record {
  digits =
      list_all-append is_digit ds ((48 + n % 10) ∷ [])
      ∙ and_from (list_all is_digit ds) (is_digit (48 + n % 10) && true) p.digits
      (and_from (is_digit (48 + n % 10)) true (is_digit_of (n % 10) (omega arith)) refl);
  value = fold_push (λ n d. 10 * n + (d - 48)) 0 ds (48 + n % 10) ∙ (ap (λ m. 10 * m + (48 + n % 10 - 48)) p.value ∙ omega arith);
  some = let q = p.some in omega (arith, length-append ds ((48 + n % 10) ∷ []), q);
}

pub decimal_is : (n : ℕ) → n < 2 ^ 127 → IsDecimal n (decimal n)
decimal_is n h = decimal_by_steps_wide IsDecimal one_digit more_digits n (omega (arith, h))

not_digit : (rest : List ℕ) → Apart rest → is_digit (next_byte rest) ≡ false
not_digit rest apart = (or_parts (is_letter (next_byte rest) || next_byte rest == 95) (is_digit (next_byte rest)) apart).1

number_step : (n b : ℕ) (others rest : List ℕ) → n < 2 ^ 127 → IsDecimal n (b ∷ others) → Apart rest →
    cut_of b (others ++ rest) ≡ Some (record { token = Number (pos n); more = length others })
unfolding cut_of number_cut
number_step n b others rest h p apart =
    let parts = and_parts (is_digit b) (list_all is_digit others) p.digits in
    cond-false (is_word_start b) (word_cut b (others ++ rest)) (if is_digit b then number_cut b (others ++ rest) else symbol_cut b (others ++ rest)) (digit_no_start b parts.0)
    ∙ (cond-true (is_digit b) (number_cut b (others ++ rest)) (symbol_cut b (others ++ rest)) parts.0
    ∙ (ap (λ n. if nat_lt (value_of (b ∷ take n (others ++ rest))) (2 ^ 127) then Some (record { token = Number (pos (value_of (b ∷ take n (others ++ rest)))); more = n }) else None)
    (run is_digit others rest parts.1 (not_digit rest apart))
    ∙ (ap (λ ys. if nat_lt (value_of (b ∷ ys)) (2 ^ 127) then Some (record { token = Number (pos (value_of (b ∷ ys))); more = length others }) else None)
    (take_at others rest (length others) refl)
    ∙ (ap (λ v. if nat_lt v (2 ^ 127) then Some (record { token = Number (pos v); more = length others }) else None) p.value
    ∙ cond-true (nat_lt n (2 ^ 127)) (Some (record { token = Number (pos n); more = length others })) None (lt-ltb n (2 ^ 127) h)))))

digits_are_one : (n : ℕ) (ds : List ℕ) → n < 2 ^ 127 → IsDecimal n ds → IsOne ds (Number (pos n))
digits_are_one n [] h p = let q = p.some in absurd (omega (arith, q))
digits_are_one n (b ∷ others) h p =
    let e = (and_parts (is_digit b) (list_all is_digit others) p.digits).0 in
    let c : Cut = record { token = Number (pos n); more = length others } in
    record {
      cut = λ rest apart.
          cut_step b (others ++ rest) c (or_from (b == 32) (b == 9) (not_byte is_digit b 32 e refl) (not_byte is_digit b 9 e refl))
          (not_byte is_digit b 35 e refl) (number_step n b others rest h p apart)
          ∙ (attach_is c (raws_from (length others) (others ++ rest)) ∙ ap (put (Number (pos n))) (skip others rest));
      first = λ rest. not_byte is_digit b 61 e refl;
      shown = shown_word (b ∷ others) (digit_word_bytes (b ∷ others) p.digits);
    }

pub number_is_one : (n : ℕ) → n < 2 ^ 127 → IsOne (decimal n) (Number (pos n))
number_is_one n h = digits_are_one n (decimal n) h (decimal_is n h)

-- the bytes that make a symbol longer do not follow it
abbrev pub Follows : Symbol → List ℕ → Type 0
Follows symbol.Star rest = (next_byte rest == 42) ≡ false
Follows symbol.Ampersand rest = (next_byte rest == 38) ≡ false
Follows symbol.Bar rest = (next_byte rest == 124) ≡ false
Follows symbol.Less rest = (next_byte rest == 61) ≡ false
Follows symbol.Greater rest = (next_byte rest == 61) ≡ false
Follows symbol.Bang rest = (next_byte rest == 61) ≡ false
Follows _ rest = Unit {0}

-- the cut of a symbol
abbrev sign_cut : Symbol → ℕ → Cut
sign_cut s more = record { token = Sign s; more = more }

-- a symbol that a byte would make longer
short_cut : (long short : Symbol) (rest : List ℕ) (b : Bool) → b ≡ false →
    attach (symbol_here (if b then Some long else None) (Some short)) (raws_from (more_of (symbol_here (if b then Some long else None) (Some short))) rest)
    ≡ put (Sign short) (raws_from 0 rest)
short_cut long short rest true e = absurd cc
short_cut long short rest false e = attach_is (sign_cut short 0) (raws_from 0 rest)

pub symbol_cuts : (s : Symbol) (rest : List ℕ) → Follows s rest → raws_from 0 (symbol_text s ++ rest) ≡ put (Sign s) (raws_from 0 rest)
unfolding raws_from cut_of symbol_cut
symbol_cuts symbol.StarStar rest f = attach_is (sign_cut symbol.StarStar 1) (raws_from 0 rest)
symbol_cuts symbol.AndAnd rest f = attach_is (sign_cut symbol.AndAnd 1) (raws_from 0 rest)
symbol_cuts symbol.BarBar rest f = attach_is (sign_cut symbol.BarBar 1) (raws_from 0 rest)
symbol_cuts symbol.NotEqual rest f = attach_is (sign_cut symbol.NotEqual 1) (raws_from 0 rest)
symbol_cuts symbol.LessEqual rest f = attach_is (sign_cut symbol.LessEqual 1) (raws_from 0 rest)
symbol_cuts symbol.GreaterEqual rest f = attach_is (sign_cut symbol.GreaterEqual 1) (raws_from 0 rest)
symbol_cuts symbol.Star rest f = short_cut symbol.StarStar symbol.Star rest (next_byte rest == 42) f
symbol_cuts symbol.Ampersand rest f = short_cut symbol.AndAnd symbol.Ampersand rest (next_byte rest == 38) f
symbol_cuts symbol.Bar rest f = short_cut symbol.BarBar symbol.Bar rest (next_byte rest == 124) f
symbol_cuts symbol.Less rest f = short_cut symbol.LessEqual symbol.Less rest (next_byte rest == 61) f
symbol_cuts symbol.Greater rest f = short_cut symbol.GreaterEqual symbol.Greater rest (next_byte rest == 61) f
symbol_cuts symbol.Bang rest f = short_cut symbol.NotEqual symbol.Bang rest (next_byte rest == 61) f
symbol_cuts s rest f = attach_is (sign_cut s 0) (raws_from 0 rest)
