-- The tokens of a line, as they are found one behind the other.
use Rattle.std.proofs.Common.{◌≡◌, ℕ, zero, suc, true, false, List, [], ◌∷◌, ◌++◌, drop, Option, refl, sym, ap, ◌∙◌, append_assoc, append-nil, eq-eqb, ne_eqb}
use Rattle.std.specs.Prelude.{Some, None, ◌==◌, ◌≢◌, if◌then◌else◌}
use Rattle.tcl_text.specs.declared.token.Raw.{Raw}
use Rattle.tcl_text.specs.declared.token.Cut.{Cut}
use Rattle.tcl_text.specs.Tokens.{is_blank, cut_of, more_of, attach, raws_from, raws_of}

-- what was found before the rest
abbrev pub then_raws : List Raw → Option (List Raw) → Option (List Raw)
then_raws found None = None
then_raws found (Some others) = Some (found ++ others)

passed_over : (k : ℕ) (bytes : List ℕ) → raws_from k bytes ≡ raws_of (drop k bytes)
unfolding raws_from
passed_over zero bytes = refl
passed_over (suc k) [] = refl
passed_over (suc k) (b ∷ bytes) = passed_over k bytes

at_end : raws_of [] ≡ Some []
unfolding raws_from
at_end = refl

at_byte : (b : ℕ) (bytes : List ℕ) → raws_of (b ∷ bytes) ≡
    (if is_blank b then raws_of bytes
    else (if b == 35 then Some [] else attach (cut_of b bytes) (raws_from (more_of (cut_of b bytes)) bytes)))
unfolding raws_from
at_byte b bytes = refl

at_blank : (b : ℕ) (bytes : List ℕ) → is_blank b ≡ true → raws_of (b ∷ bytes) ≡ raws_of bytes
at_blank b bytes e =
    at_byte b bytes
    ∙ ap (λ t. if t then raws_of bytes else (if b == 35 then Some [] else attach (cut_of b bytes) (raws_from (more_of (cut_of b bytes)) bytes))) e

at_comment : (b : ℕ) (bytes : List ℕ) → is_blank b ≡ false → b ≡ 35 → raws_of (b ∷ bytes) ≡ Some []
at_comment b bytes e h =
    at_byte b bytes
    ∙ (ap (λ t. if t then raws_of bytes else (if b == 35 then Some [] else attach (cut_of b bytes) (raws_from (more_of (cut_of b bytes)) bytes))) e
    ∙ ap (λ t. if t then Some [] else attach (cut_of b bytes) (raws_from (more_of (cut_of b bytes)) bytes)) (eq-eqb b 35 h))

at_cut : (b : ℕ) (bytes : List ℕ) (c : Option Cut) → is_blank b ≡ false → b ≢ 35 → c ≡ cut_of b bytes →
    raws_of (b ∷ bytes) ≡ attach c (raws_of (drop (more_of c) bytes))
at_cut b bytes c e h f =
    at_byte b bytes
    ∙ (ap (λ t. if t then raws_of bytes else (if b == 35 then Some [] else attach (cut_of b bytes) (raws_from (more_of (cut_of b bytes)) bytes))) e
    ∙ (ap (λ t. if t then Some [] else attach (cut_of b bytes) (raws_from (more_of (cut_of b bytes)) bytes)) (ne_eqb b 35 h)
    ∙ (ap (λ x. attach x (raws_from (more_of x) bytes)) (sym f) ∙ ap (attach c) (passed_over (more_of c) bytes))))

-- the steps of the loop: `found` stands before `rest`, and both together are the answer
pub blank : (found : List Raw) (rest : List ℕ) (b : ℕ) (bytes : List ℕ) (answer : Option (List Raw)) →
    then_raws found (raws_of rest) ≡ answer → rest ≡ b ∷ bytes → is_blank b ≡ true → then_raws found (raws_of bytes) ≡ answer
blank found rest b bytes answer left e h =
    sym (ap (then_raws found) (ap raws_of e ∙ at_blank b bytes h)) ∙ left

pub comment : (found : List Raw) (rest : List ℕ) (b : ℕ) (bytes : List ℕ) (answer : Option (List Raw)) →
    then_raws found (raws_of rest) ≡ answer → rest ≡ b ∷ bytes → is_blank b ≡ false → b ≡ 35 → Some found ≡ answer
comment found rest b bytes answer left e h c =
    ap (λ x. Some x) (sym (append-nil found)) ∙ (sym (ap (then_raws found) (ap raws_of e ∙ at_comment b bytes h c)) ∙ left)

pub refused : (found : List Raw) (rest : List ℕ) (b : ℕ) (bytes : List ℕ) (answer : Option (List Raw)) →
    then_raws found (raws_of rest) ≡ answer → rest ≡ b ∷ bytes → is_blank b ≡ false → b ≢ 35 → None ≡ cut_of b bytes →
    None ≡ answer
refused found rest b bytes answer left e h c f =
    sym (ap (then_raws found) (ap raws_of e ∙ at_cut b bytes None h c f)) ∙ left

joined : (found : List Raw) (raw : Raw) (others : Option (List Raw)) (k : ℕ) →
    then_raws found (attach (Some (record { token = raw; more = k })) others) ≡ then_raws (found ++ raw ∷ []) others
joined found raw None k = refl
joined found raw (Some others) k = ap (λ x. Some x) (sym (append_assoc found (raw ∷ []) others))

pub token : (found : List Raw) (rest : List ℕ) (b : ℕ) (bytes : List ℕ) (cut : Cut) (answer : Option (List Raw)) →
    then_raws found (raws_of rest) ≡ answer → rest ≡ b ∷ bytes → is_blank b ≡ false → b ≢ 35 → Some cut ≡ cut_of b bytes →
    then_raws (found ++ cut.token ∷ []) (raws_of (drop cut.more bytes)) ≡ answer
token found rest b bytes cut answer left e h c f =
    sym (joined found cut.token (raws_of (drop cut.more bytes)) cut.more)
    ∙ (sym (ap (then_raws found) (ap raws_of e ∙ at_cut b bytes (Some cut) h c f)) ∙ left)

pub ended : (found : List Raw) (rest : List ℕ) (answer : Option (List Raw)) →
    then_raws found (raws_of rest) ≡ answer → rest ≡ [] → Some found ≡ answer
ended found rest answer left e =
    ap (λ x. Some x) (sym (append-nil found)) ∙ (sym (ap (then_raws found) (ap raws_of e ∙ at_end)) ∙ left)
