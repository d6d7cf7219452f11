-- The tokens of a line are numbered one behind the other.
use Rattle.std.proofs.Common.{◌≡◌, ℕ, ◌+◌, ◌<◌, ◌≤◌, List, [], ◌∷◌, ◌++◌, length, drop, get_or, refl, sym, ap, ◌∙◌, append_assoc, append-nil, add-one, drop-cons}
use Rattle.std.proofs.lemmas.List.{drop_all}
use Rattle.tcl_text.specs.declared.token.Raw.{Raw}
use Rattle.tcl_text.specs.declared.token.Token.{Token}
use Rattle.tcl_text.specs.Numbering.{token_of, names_after_token, tokens_of, names_after}

first_token : (names : List (List ℕ)) (r : Raw) (raws : List Raw) →
    tokens_of names (r ∷ raws) ≡ token_of names r ∷ tokens_of (names_after_token names r) raws
unfolding tokens_of
first_token names r raws = refl

first_names : (names : List (List ℕ)) (r : Raw) (raws : List Raw) →
    names_after names (r ∷ raws) ≡ names_after (names_after_token names r) raws
unfolding names_after
first_names names r raws = refl

rest_from : (raws : List Raw) (i : ℕ) (r : Raw) → i < length raws → r ≡ get_or raws i r → drop i raws ≡ r ∷ drop (i + 1) raws
rest_from raws i r h e =
    drop-cons raws i r h ∙ ap (λ n. get_or raws i r ∷ drop n raws) (sym (add-one i)) ∙ ap (λ (x : Raw). x ∷ drop (i + 1) raws) (sym e)

-- what is done and what is left make the whole
pub tokens_on : (done : List Token) (names after : List (List ℕ)) (raws : List Raw) (i : ℕ) (r : Raw) (token : Token) (all : List Token) →
    i < length raws → r ≡ get_or raws i r → token ≡ token_of names r → after ≡ names_after_token names r →
    done ++ tokens_of names (drop i raws) ≡ all → (done ++ token ∷ []) ++ tokens_of after (drop (i + 1) raws) ≡ all
tokens_on done names after raws i r token all h e t a left =
    append_assoc done (token ∷ []) (tokens_of after (drop (i + 1) raws))
    ∙ (ap (λ x. done ++ (x ∷ tokens_of after (drop (i + 1) raws))) t
    ∙ (ap (λ x. done ++ (token_of names r ∷ tokens_of x (drop (i + 1) raws))) a
    ∙ (ap (λ x. done ++ x) (sym (first_token names r (drop (i + 1) raws)))
    ∙ (ap (λ x. done ++ tokens_of names x) (sym (rest_from raws i r h e)) ∙ left))))

pub names_on : (names after : List (List ℕ)) (raws : List Raw) (i : ℕ) (r : Raw) (all : List (List ℕ)) →
    i < length raws → r ≡ get_or raws i r → after ≡ names_after_token names r →
    names_after names (drop i raws) ≡ all → names_after after (drop (i + 1) raws) ≡ all
names_on names after raws i r all h e a left =
    ap (λ x. names_after x (drop (i + 1) raws)) a
    ∙ (sym (first_names names r (drop (i + 1) raws)) ∙ (ap (names_after names) (sym (rest_from raws i r h e)) ∙ left))

no_token : (names : List (List ℕ)) → tokens_of names [] ≡ []
unfolding tokens_of
no_token names = refl

no_name : (names : List (List ℕ)) → names_after names [] ≡ names
unfolding names_after
no_name names = refl

pub tokens_end : (done : List Token) (names : List (List ℕ)) (raws : List Raw) (i : ℕ) (all : List Token) →
    length raws ≤ i → done ++ tokens_of names (drop i raws) ≡ all → done ≡ all
tokens_end done names raws i all h left =
    sym (append-nil done)
    ∙ (ap (λ x. done ++ x) (sym (ap (tokens_of names) (drop_all i raws h) ∙ no_token names)) ∙ left)

pub names_end : (names : List (List ℕ)) (raws : List Raw) (i : ℕ) (all : List (List ℕ)) →
    length raws ≤ i → names_after names (drop i raws) ≡ all → names ≡ all
names_end names raws i all h left = sym (ap (names_after names) (drop_all i raws h) ∙ no_name names) ∙ left
