-- The range test: whether a word's value fits a narrower type.
use Rattle.std.proofs.Common.{◌≡◌, ℕ, zero, suc, ◌-◌, ◌<◌, ◌≤◌, Bool, true, false, List, [], ◌∷◌, ◌++◌, length, take, drop, replicate, refl, sym, ap, subst, ◌∙◌, arith, take-append-drop, length-take, length-drop, length-append, ℤ, pos, Decides}
use lib.ListN.{length-replicate}
use Rattle.std.proofs.lemmas.Int.{ints}
use Rattle.tcl_num.specs.Range.{InRange}
use Rattle.tcl_num.proofs.WrappedValues.{wrapped_fixed}
use Rattle.tcl_bits.specs.Value.{top_bit, signed_value, word_value}
use Rattle.tcl_bits.specs.Circuit.{fill_bit, clear_chain, sign_chain, range_bit}
use Rattle.tcl_bits.proofs.Values.{same_bits}
use Rattle.tcl_bits.proofs.Comparisons.{same_signed}
use Rattle.tcl_bits.proofs.Signs.{signed_extended, unsigned_extended, signed_with_zero}
use Rattle.tcl_bits.proofs.Words.{word_in_range}
use Rattle.tcl_bits.proofs.Widths.{take_word}

-- the chains hold no more once they are false
clear_lost : (xs : List Bool) → clear_chain xs false ≡ false
clear_lost [] = refl
clear_lost (x ∷ xs) = clear_lost xs

sign_lost : (sign : Bool) (xs : List Bool) → sign_chain sign xs false ≡ false
sign_lost sign [] = refl
sign_lost sign (x ∷ xs) = sign_lost sign xs

-- the chain of an unsigned test finds that no bit is set
clear_found : (xs : List Bool) → clear_chain xs true ≡ true → xs ≡ replicate (length xs) false
clear_found [] e = refl
clear_found (true ∷ xs) e = let lost = clear_lost xs in cc
clear_found (false ∷ xs) e = ap (λ ys. false ∷ ys) (clear_found xs e)

-- and holds where none is
clear_all : (n : ℕ) → clear_chain (replicate n false) true ≡ true
clear_all zero = refl
clear_all (suc n) = clear_all n

-- the chain of a signed test finds that each bit is the sign
sign_found : (sign : Bool) (xs : List Bool) → sign_chain sign xs true ≡ true → xs ≡ replicate (length xs) sign
sign_found sign [] e = refl
sign_found true (true ∷ xs) e = ap (λ ys. true ∷ ys) (sign_found true xs e)
sign_found true (false ∷ xs) e = let lost = sign_lost true xs in cc
sign_found false (true ∷ xs) e = let lost = sign_lost false xs in cc
sign_found false (false ∷ xs) e = ap (λ ys. false ∷ ys) (sign_found false xs e)

sign_all : (sign : Bool) (n : ℕ) → sign_chain sign (replicate n sign) true ≡ true
sign_all sign zero = refl
sign_all true (suc n) = sign_all true n
sign_all false (suc n) = sign_all false n

-- the test finds that the bits from the width on are those that the word below would be extended by
pub range_found : (signed : Bool) (width : ℕ) (xs : List Bool) → range_bit signed width xs ≡ true
    → drop width xs ≡ replicate (length (drop width xs)) (fill_bit signed (take width xs))
range_found true width xs e = sign_found (top_bit (take width xs)) (drop width xs) e
range_found false width xs e = clear_found (drop width xs) e

pub range_all : (signed : Bool) (width : ℕ) (xs : List Bool) (n : ℕ) → drop width xs ≡ replicate n (fill_bit signed (take width xs)) → range_bit signed width xs ≡ true
range_all true width xs n e = ap (λ ys. sign_chain (top_bit (take width xs)) ys true) e ∙ sign_all (top_bit (take width xs)) n
range_all false width xs n e = ap (λ ys. clear_chain ys true) e ∙ clear_all n

-- words of one kind and one length with one value are one list of bits
pub same_word : (signed : Bool) (xs ys : List Bool) → length xs ≡ length ys → word_value signed xs ≡ word_value signed ys → xs ≡ ys
same_word true xs ys e h = same_bits xs ys e (same_signed xs ys e h)
same_word false xs ys e h = same_bits xs ys e (omega (arith, ints, h))

same_tail : (front xs ys : List Bool) → front ++ xs ≡ front ++ ys → xs ≡ ys
same_tail [] xs ys e = e
same_tail (x ∷ front) xs ys e = same_tail front xs ys (cons_tail x x (front ++ xs) (front ++ ys) e)
  where
    cons_tail : (x y : Bool) (xs ys : List Bool) → x ∷ xs ≡ y ∷ ys → xs ≡ ys
    cons_tail x y xs ys e = cc

-- the test decides the range of the value, for each reading of the longer word that an extension keeps
range_decides : (signed reading : Bool) (width : ℕ) (xs : List Bool) → 0 < width → width ≤ length xs
    → ((ys : List Bool) → word_value reading (ys ++ replicate (length xs - width) (fill_bit signed ys)) ≡ word_value signed ys)
    → Decides (range_bit signed width xs) (InRange signed width (word_value reading xs))
range_decides signed reading width xs h g keeps =
    let low = take width xs in
    let more = length xs - width in
    let filled = low ++ replicate more (fill_bit signed low) in
    let short : length low ≡ width = length-take width xs ∙ omega arith in
    let fits : InRange signed width (word_value signed low) = subst (λ (n : ℕ). InRange signed n (word_value signed low)) short (word_in_range signed low (omega arith)) in (
      (λ t.
          let e : xs ≡ filled = sym (take-append-drop width xs) ∙ ap (λ ys. low ++ ys) (range_found signed width xs t ∙ ap (λ n. replicate n (fill_bit signed low)) (length-drop width xs)) in
          subst (λ (v : ℤ). InRange signed width v) (sym (ap (λ ys. word_value reading ys) e ∙ keeps low)) fits),
      (λ r.
          let v : word_value reading xs ≡ word_value reading filled = sym (wrapped_fixed signed width (word_value reading xs) h r) ∙ sym (take_word reading signed width xs h g) ∙ sym (keeps low) in
          let long : length xs ≡ length filled = sym (length-append low (replicate more (fill_bit signed low)) ∙ omega (arith, length-replicate more (fill_bit signed low))) in
          range_all signed width xs more (same_tail low (drop width xs) (replicate more (fill_bit signed low)) (take-append-drop width xs ∙ same_word reading xs filled long v))),
    )

-- the test on a word that is read as of the narrower type's kind
pub range_law : (signed : Bool) (width : ℕ) (xs : List Bool) → 0 < width → width ≤ length xs → Decides (range_bit signed width xs) (InRange signed width (word_value signed xs))
range_law true width xs h g = range_decides true true width xs h g (λ ys. signed_extended ys (length xs - width))
range_law false width xs h g = range_decides false false width xs h g (λ ys. ap pos (unsigned_extended ys (length xs - width)))

-- the test on a longer word that is read as signed, for a narrower type of either kind
pub signed_range_law : (signed : Bool) (width : ℕ) (xs : List Bool) → 0 < width → width < length xs → Decides (range_bit signed width xs) (InRange signed width (signed_value xs))
signed_range_law true width xs h g = range_law true width xs h (omega arith)
signed_range_law false width xs h g = range_decides false true width xs h (omega arith) (λ ys. signed_with_zero ys (length xs - width) (omega arith))
