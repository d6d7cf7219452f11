-- Names only grow at their end.
use Rattle.std.proofs.Common.{◌≡◌, ℕ, List, [], ◌∷◌, ◌++◌, Bool, true, false, refl, sym, ap, ◌∙◌, append_assoc, append-nil}
use Rattle.std.specs.Prelude.{Option, Some, None, if◌then◌else◌, bytes_eq}
use Rattle.std.specs.List.{list_any}
use Rattle.tcl_text.specs.declared.token.Raw.{Raw}
use Rattle.tcl_text.specs.declared.token.Raw.TheVariants as raw
use Rattle.tcl_text.specs.declared.token.Token.{Token}
use Rattle.tcl_text.specs.Words.{meaning_of}
use Rattle.tcl_text.specs.Numbering.{with_name, word_names, names_after_token, names_after}

-- these names are the first of those
pub record Grown (names after : List (List ℕ)) : Type 0 where
  pub more : List (List ℕ)
  pub is : after ≡ names ++ more

pub grown_same : (names : List (List ℕ)) → Grown names names
grown_same names = record { more = []; is = sym (append-nil names) }

pub grown_on : (names after last : List (List ℕ)) → Grown names after → Grown after last → Grown names last
grown_on names after last g h = record {
  more = g.more ++ h.more;
  is = h.is ∙ (ap (λ ns. ns ++ h.more) g.is ∙ append_assoc names g.more h.more);
}

with_name_grown : (names : List (List ℕ)) (word : List ℕ) → Grown names (with_name names word)
with_name_grown names word = by_case (list_any (bytes_eq word) names)
  where
    by_case : (b : Bool) → Grown names (if b then names else names ++ word ∷ [])
    by_case true = grown_same names
    by_case false = record { more = word ∷ []; is = refl }

token_grown : (names : List (List ℕ)) (r : Raw) → Grown names (names_after_token names r)
token_grown names (raw.Word w) = by_meaning (meaning_of w)
  where
    by_meaning : (m : Option Token) → Grown names (word_names names w m)
    by_meaning (Some token) = grown_same names
    by_meaning None = with_name_grown names w
token_grown names (raw.Number n) = grown_same names
token_grown names (raw.Sign s) = grown_same names

pub names_grown : (names : List (List ℕ)) (raws : List Raw) → Grown names (names_after names raws)
unfolding names_after
names_grown names [] = grown_same names
names_grown names (r ∷ raws) =
    grown_on names (names_after_token names r) (names_after (names_after_token names r) raws) (token_grown names r) (names_grown (names_after_token names r) raws)
