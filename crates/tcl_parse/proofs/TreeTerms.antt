-- Algebraic terms: each step of their reader, found and not found.
use Rattle.std.proofs.Common.{◌≡◌, ℕ, ◌<◌, List, [], ◌∷◌, refl, sym, ap, ◌∙◌, subst, arith}
use Rattle.std.specs.Prelude.{ℤ, Option, None}
use Rattle.tcl_lang.specs.declared.ty.Ty.{Ty}
use Rattle.tcl_lang.specs.declared.term.Term.{Term, Var, Num}
use Rattle.tcl_lang.specs.declared.term.Term.TheViews as term
use Rattle.tcl_text.specs.declared.symbol.Symbol.TheVariants.{StarStar, Minus, Open}
use Rattle.tcl_text.specs.declared.token.Token.{Token}
use Rattle.tcl_text.specs.declared.token.Token.TheVariants.{Name, Number, Sign}
use Rattle.tcl_text.specs.Trees.{alg, next_height}
use Rattle.tcl_text.specs.Grammar as grammar
use Rattle.tcl_text.specs.Grammar.{Powered, Prim, capped, plain, raised}
use Rattle.tcl_text.proofs.Uniqueness.{one_base, tail_is}
use Rattle.tcl_parse.specs.Readers.{Ends, NoEnd, NoSign}
use Rattle.tcl_parse.specs.Chains.{SignAt, NoSignAt, minus, Opens, NotOpened, bracket, Closed}

-- signs and brackets
pub sign_first : {ts us : List Token} → ts ≡ Sign Minus ∷ us → SignAt alg ts Minus us
sign_first {us = us} e = subst (λ l. SignAt alg l Minus us) (sym e) minus

pub no_sign : {ts : List Token} → NoSign Minus ts → NoSignAt alg ts
no_sign absent _ us minus = absent us refl

pub bracket_first : {ts us : List Token} → ts ≡ Sign Open ∷ us → Opens alg ts None us
bracket_first {us = us} e = subst (λ l. Opens alg l None us) (sym e) bracket

pub no_bracket : {ts : List Token} → NoSign Open ts → NotOpened alg ts
no_bracket absent _ us bracket = absent us refl

pub read_opened : {ts us vs : List Token} {T : Option Ty} {t : Term} → Opens alg ts T us → Closed alg us t vs → Prim alg ts t vs
read_opened bracket c = grammar.bracket c

-- names and numbers
pub name_first : {ts us : List Token} {x : ℕ} → ts ≡ Name x ∷ us → Prim alg ts (Var x) us
name_first {us = us} {x = x} e = subst (λ l. Prim alg l (Var x) us) (sym e) grammar.variable

pub number_first : {ts us : List Token} {n : ℤ} {t : Term} → ts ≡ Number n ∷ us → t ≡ Num n → Prim alg ts t us
number_first {ts = ts} {us = us} {n = n} e f =
    subst (λ t. Prim alg ts t us) (sym f) (subst (λ l. Prim alg l (Num n) us) (sym e) grammar.number)

no_base : {ts us : List Token} {t : Term} → ((u : Term) (vs : List Token) → Prim alg ts u vs → ⊥) → Powered ts t us → ⊥
no_base none (plain p) = none _ _ p
no_base none (raised p) = none _ _ p

nothing : {us : List Token} {t : Term} → Prim alg [] t us → ⊥
nothing p = elim p [ ]

pub none_at_end : {ts : List Token} → ts ≡ [] → NoEnd alg 0 Powered ts
none_at_end e t us r = no_base (λ u vs p. nothing p) (subst (λ l. Powered l t us) e r.reads)

no_other : {token : Token} {ts us : List Token} {t : Term} → NotOpened alg (token ∷ ts) → ((x : ℕ) → token ≡ Name x → ⊥) →
    ((n : ℤ) → token ≡ Number n → ⊥) → Prim alg (token ∷ ts) t us → ⊥
no_other a b c (grammar.variable {x = x}) = b x refl
no_other a b c (grammar.number {n = n}) = c n refl
no_other a b c (grammar.bracket p) = a _ _ bracket

pub no_primary : {token : Token} {ts us : List Token} → NotOpened alg ts → ts ≡ token ∷ us → ((x : ℕ) → token ≡ Name x → ⊥) →
    ((n : ℤ) → token ≡ Number n → ⊥) → NoEnd alg 0 Powered ts
no_primary a e b c t us r =
    no_base (λ u vs p. no_other (subst (NotOpened alg) e a) b c p) (subst (λ l. Powered l t us) e r.reads)

-- exponents
no_power_next : (us : List Token) → NoSign StarStar us → 0 < next_height alg us
no_power_next [] absent = omega arith
no_power_next (Sign StarStar ∷ us) absent = absurd (absent us refl)
no_power_next (token ∷ us) absent = omega arith

pub unpowered : {ts us : List Token} {t : Term} → Prim alg ts t us → NoSign StarStar us → Ends alg 0 Powered ts t us
unpowered {us = us} p absent = record { reads = plain p; stops = no_power_next us absent }

no_stop : {us vs : List Token} → us ≡ Sign StarStar ∷ vs → 0 < next_height alg us → ⊥
no_stop e h = let k : 0 < 0 = subst (λ ts. 0 < next_height alg ts) e h in omega arith

without_number : {ts us vs ws : List Token} {t u : Term} →
    Prim alg ts t us → us ≡ Sign StarStar ∷ vs → ((n : ℤ) (xs : List Token) → vs ≡ Number n ∷ xs → ⊥) →
    Powered ts u ws → 0 < next_height alg ws → ⊥
without_number p e absent (plain q) h = let d = one_base p q in no_stop (sym d.rest ∙ e) h
without_number {ws = ws} p e absent (raised {n = n} q) h = let d = one_base p q in absent n ws (tail_is (sym e ∙ d.rest))

pub no_exponent : {ts us vs : List Token} {t : Term} →
    Prim alg ts t us → us ≡ Sign StarStar ∷ vs → ((n : ℤ) (xs : List Token) → vs ≡ Number n ∷ xs → ⊥) → NoEnd alg 0 Powered ts
no_exponent p e absent u ws r = without_number p e absent r.reads r.stops

with_two : {ts us vs ws xs : List Token} {t u : Term} {n : ℤ} →
    Prim alg ts t us → us ≡ Sign StarStar ∷ vs → vs ≡ Number n ∷ ws → next_height alg ws ≡ 0 →
    Powered ts u xs → 0 < next_height alg xs → ⊥
with_two p e f z (plain q) h = let d = one_base p q in no_stop (sym d.rest ∙ e) h
with_two {ws = ws} {xs = xs} p e f z (raised q) h =
    let d = one_base p q in
    let same : xs ≡ ws = tail_is (tail_is (sym d.rest ∙ (e ∙ ap (λ l. Sign StarStar ∷ l) f))) in
    let k : 0 < next_height alg ws = subst (λ l. 0 < next_height alg l) same h in
    omega (arith, z)

pub two_exponents : {ts us vs ws : List Token} {t : Term} {n : ℤ} →
    Prim alg ts t us → us ≡ Sign StarStar ∷ vs → vs ≡ Number n ∷ ws → next_height alg ws ≡ 0 → NoEnd alg 0 Powered ts
two_exponents p e f z u xs r = with_two p e f z r.reads r.stops

pub one_exponent : {ts us vs ws : List Token} {t b : Term} {n : ℤ} {k : ℕ} →
    Prim alg ts t us → us ≡ Sign StarStar ∷ vs → vs ≡ Number n ∷ ws → 0 < next_height alg ws → b ≡ t → k ≡ capped n →
    Ends alg 0 Powered ts (term.Pow b k) ws
one_exponent {ts = ts} {ws = ws} {t = t} {n = n} {k = k} p e f h d g =
    let q = raised (subst (λ l. Prim alg ts t l) (e ∙ ap (λ l. Sign StarStar ∷ l) f) p) in
    record {
      reads = subst (λ b. Powered ts (term.Pow b k) ws) (sym d) (subst (λ k. Powered ts (term.Pow t k) ws) (sym g) q);
      stops = h;
    }
