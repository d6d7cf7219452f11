-- How the number of open brackets goes on, walked by place.
use Rattle.std.proofs.Common.{◌≡◌, ℕ, suc, ◌+◌, ◌≤◌, ◌<◌, Bool, true, false, ◌||◌, List, [], ◌∷◌, length, drop, get_or, refl, sym, ap, subst, ◌∙◌, arith, add-one}
use Rattle.std.proofs.lemmas.Bool.Decides.{nat_tests}
use Rattle.std.proofs.Math.Seq.{drop-cons}
use Rattle.std.proofs.lemmas.List.{drop_all}
use Rattle.std.specs.Prelude.{nat_lt}
use Rattle.tcl_text.specs.declared.token.Token.{Token}
use Rattle.tcl_text.specs.Scan.{depth_after, nests_too_deep}

not_above : (n : ℕ) → n ≤ 64 → nat_lt 64 n ≡ false
not_above n e = grind (arith, nat_tests)

above : (n : ℕ) → 64 < n → nat_lt 64 n ≡ true
above n e = grind (arith, nat_tests)

on : (depth : ℕ) (token : Token) (tokens : List Token) →
    nests_too_deep depth (token ∷ tokens) ≡ (nat_lt 64 (depth_after depth token) || nests_too_deep (depth_after depth token) tokens)
unfolding nests_too_deep
on depth token tokens = refl

-- the tokens from place k on decide, and so do those behind it
pub deep_on : (tokens : List Token) (k depth next : ℕ) (d : Token) (answer : Bool) → k < length tokens →
    next ≡ depth_after depth (get_or tokens k d) → next ≤ 64 →
    nests_too_deep depth (drop k tokens) ≡ answer → nests_too_deep next (drop (k + 1) tokens) ≡ answer
deep_on tokens k depth next d answer h e few left =
    let token = get_or tokens k d in
    let at : nests_too_deep depth (drop k tokens) ≡ nests_too_deep (depth_after depth token) (drop (suc k) tokens) =
    ap (nests_too_deep depth) (drop-cons tokens k d h)
    ∙ (on depth token (drop (suc k) tokens)
    ∙ ap (λ b. b || nests_too_deep (depth_after depth token) (drop (suc k) tokens)) (not_above (depth_after depth token) (subst (λ n. n ≤ 64) e few))) in
    ap (λ n. nests_too_deep next (drop n tokens)) (add-one k)
    ∙ (ap (λ n. nests_too_deep n (drop (suc k) tokens)) e ∙ (sym at ∙ left))

pub deep_here : (tokens : List Token) (k depth next : ℕ) (d : Token) (answer : Bool) → k < length tokens →
    next ≡ depth_after depth (get_or tokens k d) → 64 < next →
    nests_too_deep depth (drop k tokens) ≡ answer → true ≡ answer
deep_here tokens k depth next d answer h e many left =
    let token = get_or tokens k d in
    let at : nests_too_deep depth (drop k tokens) ≡ true =
    ap (nests_too_deep depth) (drop-cons tokens k d h)
    ∙ (on depth token (drop (suc k) tokens)
    ∙ ap (λ b. b || nests_too_deep (depth_after depth token) (drop (suc k) tokens)) (above (depth_after depth token) (subst (λ n. 64 < n) e many))) in
    sym at ∙ left

nothing : (depth : ℕ) → nests_too_deep depth [] ≡ false
unfolding nests_too_deep
nothing depth = refl

pub deep_end : (tokens : List Token) (k depth : ℕ) (answer : Bool) → length tokens ≤ k →
    nests_too_deep depth (drop k tokens) ≡ answer → false ≡ answer
deep_end tokens k depth answer h left =
    sym (ap (nests_too_deep depth) (drop_all k tokens h) ∙ nothing depth) ∙ left
