-- Factors: a base with or without a sign, and bases that begin with a bracket.
use Rattle.std.proofs.Common.{◌≡◌, ◌<◌, List, ◌∷◌, subst, sym}
use Rattle.std.specs.Prelude.{Option}
use Rattle.tcl_lang.specs.declared.ty.Ty.{Ty}
use Rattle.tcl_lang.specs.declared.term.Term.{Term}
use Rattle.tcl_lang.specs.declared.range.RngTerm.{RngTerm}
use Rattle.tcl_lang.specs.declared.range.RngPred.{RngPred}
use Rattle.tcl_text.specs.declared.symbol.Symbol.{Symbol}
use Rattle.tcl_text.specs.declared.symbol.Symbol.TheVariants.{Minus, Tilde, Bang, Open, OpenSquare}
use Rattle.tcl_text.specs.declared.token.Token.{Token}
use Rattle.tcl_text.specs.declared.token.Token.TheVariants.{Sign}
use Rattle.tcl_text.specs.Trees.{Sort, alg, wrd, prd, Tree, next_height}
use Rattle.tcl_text.specs.Grammar as grammar
use Rattle.tcl_text.specs.Grammar.{Chain, Powered, Prim, NoLiteral, factor}
use Rattle.tcl_text.proofs.Uniqueness.{no_words, square as square_starts, bang as bang_starts}
use Rattle.tcl_parse.specs.Readers.{NoReading, Ends, NoEnd, IsRead, NoneRead}
use Rattle.tcl_parse.specs.Chains.{Base, SignAt, NoSignAt, minus, minus_word, flip, bang, signed, Opens, bracket, word_bracket, cast, square, Closed}

-- signs
read_sign : {s : Sort} {ts us vs : List Token} {symbol : Symbol} (t : Tree s) →
    SignAt s ts symbol us → Base s us t vs → Chain s 0 ts (signed s symbol t) vs
read_sign t minus p = factor (grammar.minus_power p)
read_sign t (minus_word n) p = factor (grammar.minus_word n p)
read_sign t flip p = factor (grammar.flip_word p)
read_sign t bang p = factor (grammar.not_pred p)

pub read_signed : {s : Sort} {ts us vs : List Token} {symbol : Symbol} {t b : Tree s} →
    SignAt s ts symbol us → Ends s 0 (Base s) us t vs → b ≡ signed s symbol t → IsRead s 0 ts b vs
read_signed {s = s} {ts = ts} {vs = vs} {t = t} a r e =
    subst (λ b. IsRead s 0 ts b vs) (sym e) (record { reads = read_sign t a r.reads; stops = r.stops })

no_minus : {ts us : List Token} {t : Term} → Powered (Sign Minus ∷ ts) t us → ⊥
no_minus (grammar.plain p) = elim p [ ]
no_minus (grammar.raised p) = elim p [ ]

with_literal : {ts us : List Token} {t : RngTerm} → NoLiteral ts → Prim wrd (Sign Minus ∷ ts) t us → ⊥
with_literal absent (grammar.operand (grammar.negative h)) = absent

no_flip : {ts us : List Token} {t : RngTerm} → Prim wrd (Sign Tilde ∷ ts) t us → ⊥
no_flip (grammar.operand o) = elim o [ ]

no_bang : {ts us : List Token} {p : RngPred} → Prim prd (Sign Bang ∷ ts) p us → ⊥
no_bang (grammar.compare c e d) = no_words bang_starts c

no_base : {s : Sort} {ts us vs : List Token} {symbol : Symbol} {t : Tree s} →
    SignAt s ts symbol us → NoEnd s 0 (Base s) us → Chain s 0 ts t vs → 0 < next_height s vs → ⊥
no_base minus none (factor (grammar.power p)) h = no_minus p
no_base minus none (factor (grammar.minus_power p)) h = none _ _ (record { reads = p; stops = h })
no_base (minus_word n) none (factor (grammar.word p)) h = with_literal n p
no_base (minus_word n) none (factor (grammar.minus_word k p)) h = none _ _ (record { reads = p; stops = h })
no_base flip none (factor (grammar.word p)) h = no_flip p
no_base flip none (factor (grammar.flip_word p)) h = none _ _ (record { reads = p; stops = h })
no_base bang none (factor (grammar.pred p)) h = no_bang p
no_base bang none (factor (grammar.not_pred p)) h = none _ _ (record { reads = p; stops = h })

pub none_signed : {s : Sort} {ts us : List Token} {symbol : Symbol} → SignAt s ts symbol us → NoEnd s 0 (Base s) us → NoneRead s 0 ts
none_signed a none t vs r = no_base a none r.reads r.stops

-- no sign
read_base : (s : Sort) {ts us : List Token} {t : Tree s} → Base s ts t us → Chain s 0 ts t us
read_base alg p = factor (grammar.power p)
read_base wrd p = factor (grammar.word p)
read_base prd p = factor (grammar.pred p)

pub read_unsigned : {s : Sort} {ts us : List Token} {t : Tree s} → Ends s 0 (Base s) ts t us → IsRead s 0 ts t us
read_unsigned {s = s} r = record { reads = read_base s r.reads; stops = r.stops }

unsigned : {s : Sort} {ts us : List Token} {t : Tree s} →
    NoSignAt s ts → NoEnd s 0 (Base s) ts → Chain s 0 ts t us → 0 < next_height s us → ⊥
unsigned absent none (factor (grammar.power p)) h = none _ _ (record { reads = p; stops = h })
unsigned absent none (factor (grammar.minus_power p)) h = absent _ _ minus
unsigned absent none (factor (grammar.word p)) h = none _ _ (record { reads = p; stops = h })
unsigned absent none (factor (grammar.minus_word n p)) h = absent _ _ (minus_word n)
unsigned absent none (factor (grammar.flip_word p)) h = absent _ _ flip
unsigned absent none (factor (grammar.pred p)) h = none _ _ (record { reads = p; stops = h })
unsigned absent none (factor (grammar.not_pred p)) h = absent _ _ bang

pub none_unsigned : {s : Sort} {ts : List Token} → NoSignAt s ts → NoEnd s 0 (Base s) ts → NoneRead s 0 ts
none_unsigned absent none t us r = unsigned absent none r.reads r.stops

-- brackets
no_power : {ts us : List Token} {t : Term} → NoReading alg (Closed alg) ts → Powered (Sign Open ∷ ts) t us → ⊥
no_power none (grammar.plain (grammar.bracket c)) = none _ _ c
no_power none (grammar.raised (grammar.bracket c)) = none _ _ c

no_word : {ts us vs : List Token} {T : Option Ty} {t : RngTerm} →
    Opens wrd ts T us → NoReading wrd (Closed wrd) us → Prim wrd ts t vs → ⊥
no_word word_bracket none (grammar.operand o) = elim o [ ]
no_word word_bracket none (grammar.word_bracket c) = none _ _ c
no_word cast none (grammar.operand o) = elim o [ ]
no_word cast none (grammar.cast c) = none _ _ c

no_pred : {ts us : List Token} {p : RngPred} → NoReading prd (Closed prd) ts → Prim prd (Sign OpenSquare ∷ ts) p us → ⊥
no_pred none (grammar.square c) = none _ _ c
no_pred none (grammar.compare c e d) = no_words square_starts c

pub none_opened : {s : Sort} {ts us : List Token} {T : Option Ty} →
    Opens s ts T us → NoReading s (Closed s) us → NoEnd s 0 (Base s) ts
none_opened bracket none t vs r = no_power none r.reads
none_opened word_bracket none t vs r = no_word word_bracket none r.reads
none_opened cast none t vs r = no_word cast none r.reads
none_opened square none t vs r = no_pred none r.reads
