-- A value in the form is a number that std reads.
use Rattle.std.proofs.Common.{◌≡◌, ◌∙◌, ◌&&◌, ◌<◌, ◌≤◌, ◌^◌, ℕ, true, sym, ap, arith, [], ◌∷◌, length, Result, Ok, Err, true≢false, leb-true}
use Rattle.std.specs.Prelude.{is_ok, nat_le}
use Rattle.std.specs.List.{list_all}
use Rattle.std.specs.Str.Parse.{AllDigits, ParsesUnsigned, digits_value}
use Rattle.std.proofs.lemmas.Str.Parse.{IsNumeralModel, digits_value_short, numerals_by_value, parse_gives, tells_digits}
use Rattle.clap.specs.Lexer.{is_digit}
use Rattle.clap.proofs.WalkLemmas.{both}
use Rattle.tcl_cli.specs.Table.{Word}
use Rattle.tcl_cli.specs.Words.{is_value}

all_are : (v : Word) → list_all is_digit v ≡ true → AllDigits 10 v
all_are [] e = tt
all_are (x ∷ xs) e =
    let parts = both (is_digit x) (list_all is_digit xs) e in
    let ends = both (nat_le 48 x) (nat_le x 57) parts.0 in
    tells_digits.more x xs (leb-true _ _ ends.0, leb-true _ _ ends.1) (all_are xs parts.1)

abbrev model : IsNumeralModel (AllDigits 10) (digits_value 10)
model = numerals_by_value (AllDigits 10) tells_digits

pub value_parses : {E : Type 0} (v : Word) (r : Result ℕ E) → ParsesUnsigned 32 10 v r → is_value v ≡ true → r ≡ Ok (digits_value 10 v)
value_parses v r h e =
    let outer = both (nat_le 1 (length v)) (nat_le (length v) 7 && list_all is_digit v) e in
    let inner = both (nat_le (length v) 7) (list_all is_digit v) outer.1 in
    let digits = all_are v inner.1 in
    let some : 1 ≤ length v = leb-true _ _ outer.0 in
    let short : digits_value 10 v < 10 ^ 7 = digits_value_short model v 7 digits (leb-true _ _ inner.0) in
    parse_gives model 32 v r h digits (omega (arith, some)) (omega (arith, short))

pub value_read : {E : Type 0} (v : Word) (r : Result ℕ E) (fault : E) → ParsesUnsigned 32 10 v r → is_value v ≡ true → r ≡ Err fault → ⊥
value_read v r fault h e is = true≢false (sym (ap is_ok (value_parses v r h e)) ∙ ap is_ok is)
