-- The parts of a modulus, one after the other.
use Rattle.std.proofs.Common.{◌≡◌, ◌<◌, Bool, true, false, List, [], ◌∷◌, ◌++◌, refl, sym, ◌∙◌, ap, subst, arith, append_assoc, append-nil}
use Rattle.std.specs.Prelude.{ℤ, Some, None}
use Rattle.tcl_lang.specs.declared.term.Part.{Part}
use Rattle.tcl_text.specs.declared.symbol.Symbol.TheVariants.{StarStar}
use Rattle.tcl_text.specs.declared.token.Token.{Token}
use Rattle.tcl_text.specs.declared.token.Token.TheVariants.{Number, Sign}
use Rattle.tcl_text.specs.Trees.{alg, next_height}
use Rattle.tcl_text.specs.Grammar.{capped}
use Rattle.tcl_text.specs.Statements as grammar
use Rattle.tcl_text.proofs.OneStatement.{one_part, parts_end}
use Rattle.tcl_parse.specs.StatementReaders.{sign_of, IsPart, NoPart, NoModulus}

-- one part
at_power : {minus : Bool} {n : ℤ} {us vs : List Token} {p : Part} →
    grammar.OnePart minus (Number n ∷ Sign StarStar ∷ us) p vs → 0 < next_height alg vs →
    ((k : ℤ) (ws : List Token) → us ≡ Number k ∷ ws → 0 < next_height alg ws → ⊥) → ⊥
at_power grammar.base s h = absurd (omega arith)
at_power grammar.powered s h = h _ _ refl s

pub no_exponent : {minus : Bool} {n : ℤ} {ts us vs : List Token} → ts ≡ Number n ∷ us → us ≡ Sign StarStar ∷ vs →
    ((k : ℤ) (ws : List Token) → vs ≡ Number k ∷ ws → ⊥) → NoPart minus ts
no_exponent {minus = minus} {n = n} e d h p us r =
    at_power (subst (λ x. grammar.OnePart minus x p us) (e ∙ ap (λ x. Number n ∷ x) d) r.reads) r.stops (λ k ws f s. h k ws f)

pub stops_here : (ts : List Token) → ((us : List Token) → ts ≡ Sign StarStar ∷ us → ⊥) → 0 < next_height alg ts
stops_here [] h = omega arith
stops_here (Sign StarStar ∷ us) h = absurd (h us refl)
stops_here (token ∷ us) h = omega arith

pub is_base : {n : ℤ} {ts us : List Token} (minus : Bool) → ts ≡ Number n ∷ us → ((vs : List Token) → us ≡ Sign StarStar ∷ vs → ⊥) →
    IsPart minus ts (record { minus = minus; base = n; power = None }) us
is_base {n = n} {us = us} minus e h = record {
  reads = subst (λ x. grammar.OnePart minus x (record { minus = minus; base = n; power = None }) us) (sym e) grammar.base;
  stops = stops_here us h;
}

pub is_power : {n k : ℤ} {ts us vs ws : List Token} (minus : Bool) → ts ≡ Number n ∷ us → us ≡ Sign StarStar ∷ vs →
    vs ≡ Number k ∷ ws → ((xs : List Token) → ws ≡ Sign StarStar ∷ xs → ⊥) →
    IsPart minus ts (record { minus = minus; base = n; power = Some (capped k) }) ws
is_power {n = n} {k = k} {ws = ws} minus e d f h = record {
  reads = subst (λ x. grammar.OnePart minus x (record { minus = minus; base = n; power = Some (capped k) }) ws)
      (sym (e ∙ ap (λ x. Number n ∷ x) (d ∙ ap (λ x. Sign StarStar ∷ x) f))) grammar.powered;
  stops = stops_here ws h;
}

-- some parts have been read, and these tokens decide the rest
pub record PartsGo (ts : List Token) (done : List Part) (rest : List Token) : Type 0 where
  pub forth : (ps : List Part) → grammar.MoreParts rest ps → grammar.Modulus ts (done ++ ps)
  pub none : ((ps : List Part) → grammar.MoreParts rest ps → ⊥) → NoModulus ts

moved : {ts us : List Token} {ps : List Part} → ts ≡ us → grammar.MoreParts us ps → grammar.MoreParts ts ps
moved {ps = ps} e m = subst (λ x. grammar.MoreParts x ps) (sym e) m

pub parts_begin : {ts : List Token} (p : Part) (us : List Token) → IsPart false ts p us → PartsGo ts (p ∷ []) us
parts_begin {ts = ts} p us r =
    let none : ((ps : List Part) → grammar.MoreParts us ps → ⊥) → NoModulus ts = λ h m q. other r h q in
    record { forth = λ ps m. grammar.parts r.reads m; none = none }
  where
    other : {ts us : List Token} {p : Part} {m : List Part} →
        IsPart false ts p us → ((ps : List Part) → grammar.MoreParts us ps → ⊥) → grammar.Modulus ts m → ⊥
    other r h (grammar.parts {ps = ps} q w) = h ps (moved (one_part r.reads r.stops q (parts_end w)).1 w)

pub no_first_part : {ts : List Token} → NoPart false ts → NoModulus ts
no_first_part h m (grammar.parts q w) = h _ _ (record { reads = q; stops = parts_end w })

-- one more part
after_sign : (minus : Bool) {ts us : List Token} {p : Part} {ps : List Part} →
    grammar.OnePart minus ts p us → grammar.MoreParts us ps → grammar.MoreParts (Sign (sign_of minus) ∷ ts) (p ∷ ps)
after_sign true q m = grammar.minus q m
after_sign false q m = grammar.plus q m

behind_sign : (minus : Bool) {ts : List Token} {ps : List Part} {P : Type 0} → grammar.MoreParts (Sign (sign_of minus) ∷ ts) ps →
    ((p : Part) (us : List Token) (qs : List Part) → grammar.OnePart minus ts p us → grammar.MoreParts us qs → P) → P
behind_sign true (grammar.minus q m) h = h _ _ _ q m
behind_sign false (grammar.plus q m) h = h _ _ _ q m

pub parts_go_on : {ts : List Token} {done : List Part} {rest vs us : List Token} (minus : Bool) (p : Part) →
    PartsGo ts done rest → rest ≡ Sign (sign_of minus) ∷ vs → IsPart minus vs p us → PartsGo ts (done ++ p ∷ []) us
parts_go_on {ts = ts} {done = done} {rest = rest} {vs = vs} {us = us} minus p g e r =
    let forth : (ps : List Part) → grammar.MoreParts us ps → grammar.Modulus ts ((done ++ p ∷ []) ++ ps) =
    λ ps m. subst (λ x. grammar.Modulus ts x) (sym (append_assoc done (p ∷ []) ps))
    (g.forth (p ∷ ps) (moved e (after_sign minus r.reads m))) in
    let none : ((ps : List Part) → grammar.MoreParts us ps → ⊥) → NoModulus ts =
    λ h. g.none (λ ps m. behind_sign minus (moved (sym e) m)
    (λ q ws qs f w. h qs (moved (one_part r.reads r.stops f (parts_end w)).1 w))) in
    record { forth = forth; none = none }

pub parts_stop : {ts : List Token} {done : List Part} {rest vs : List Token} (minus : Bool) →
    PartsGo ts done rest → rest ≡ Sign (sign_of minus) ∷ vs → NoPart minus vs → NoModulus ts
parts_stop minus g e h =
    g.none (λ ps m. behind_sign minus (moved (sym e) m) (λ q ws qs f w. h q ws (record { reads = f; stops = parts_end w })))

pub parts_end_here : {ts : List Token} {done : List Part} {rest : List Token} → PartsGo ts done rest → rest ≡ [] → grammar.Modulus ts done
parts_end_here {ts = ts} {done = done} g e =
    subst (λ x. grammar.Modulus ts x) (append-nil done) (g.forth [] (moved e grammar.none))

no_sign : {ts : List Token} {ps : List Part} → grammar.MoreParts ts ps →
    ((minus : Bool) (us : List Token) → ts ≡ Sign (sign_of minus) ∷ us → ⊥) → (ts ≡ [] → ⊥) → ⊥
no_sign grammar.none h n = n refl
no_sign (grammar.plus q m) h n = h false _ refl
no_sign (grammar.minus q m) h n = h true _ refl

pub parts_nowhere : {ts : List Token} {done : List Part} {rest : List Token} → PartsGo ts done rest →
    ((minus : Bool) (us : List Token) → rest ≡ Sign (sign_of minus) ∷ us → ⊥) → (rest ≡ [] → ⊥) → NoModulus ts
parts_nowhere g h n = g.none (λ ps m. no_sign m h n)
