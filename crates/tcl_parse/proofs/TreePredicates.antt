-- Range predicates: each step of their reader, found and not found.
use Rattle.std.proofs.Common.{◌≡◌, ◌<◌, List, [], ◌∷◌, refl, sym, ◌∙◌, ap, subst, arith}
use Rattle.std.specs.Prelude.{Option, Some, None}
use Rattle.tcl_lang.specs.declared.ty.Ty.{Ty}
use Rattle.tcl_lang.specs.declared.range.CmpOp.{CmpOp}
use Rattle.tcl_lang.specs.declared.range.RngTerm.{RngTerm}
use Rattle.tcl_lang.specs.declared.range.RngPred.{RngPred, True as Truth, False as Falsity, Cmp}
use Rattle.tcl_text.specs.declared.symbol.Symbol.TheVariants.{Star, Plus, Minus, Ampersand, Bar, Caret, Bang, OpenSquare}
use Rattle.tcl_text.specs.declared.token.Token.{Token}
use Rattle.tcl_text.specs.declared.token.Token.TheVariants.{Reserved, Sign}
use Rattle.tcl_text.specs.declared.token.Keyword.{Keyword}
use Rattle.tcl_text.specs.declared.token.Keyword.TheVariants.{True, False}
use Rattle.tcl_text.specs.Trees.{wrd, prd, next_height, comparison_of}
use Rattle.tcl_text.specs.Grammar as grammar
use Rattle.tcl_text.specs.Grammar.{Chain, Prim}
use Rattle.tcl_text.proofs.Uniqueness.{one_chain, head_is, tail_is, word_ends, compare_ends, no_words}
use Rattle.tcl_text.proofs.Uniqueness.{truth as true_starts, falsity as false_starts, square as square_starts}
use Rattle.tcl_parse.specs.Readers.{NoReading, Ends, NoEnd, IsRead, NoneRead, NoSign, IsTruth, IsComparison, truth, falsity, compare}
use Rattle.tcl_parse.specs.Chains.{SignAt, NoSignAt, bang, Opens, NotOpened, square, Closed}

-- a predicate stops where a range term stops
pred_ends : (us : List Token) → 5 < next_height wrd us → 0 < next_height prd us
pred_ends [] h = omega arith
pred_ends (Sign Star ∷ us) h = absurd (omega arith)
pred_ends (Sign Plus ∷ us) h = absurd (omega arith)
pred_ends (Sign Minus ∷ us) h = absurd (omega arith)
pred_ends (Sign Ampersand ∷ us) h = absurd (omega arith)
pred_ends (Sign Caret ∷ us) h = absurd (omega arith)
pred_ends (Sign Bar ∷ us) h = absurd (omega arith)
pred_ends (token ∷ us) h = omega arith

-- comparisons
no_left : {ts vs : List Token} {p : RngPred} → NoneRead wrd 5 ts → IsComparison ts p vs → ⊥
no_left none (compare {token = token} {op = op} c e d) = none _ _ (record { reads = c; stops = compare_ends token op e })

pub none_left : {ts : List Token} → NoneRead wrd 5 ts → NoEnd prd 0 IsComparison ts
none_left none p vs r = no_left none r.reads

-- behind the left side stands the comparison
left_rest : {ts us vs : List Token} {token : Token} {op : CmpOp} {t u : RngTerm} →
    IsRead wrd 5 ts t us → Chain wrd 5 ts u (token ∷ vs) → comparison_of token ≡ Some op → us ≡ token ∷ vs
left_rest {token = token} {op = op} r c e = let d = one_chain r.reads r.stops c (compare_ends token op e) in d.rest

left_alone : {ts us vs : List Token} {t : RngTerm} {p : RngPred} → IsRead wrd 5 ts t us → us ≡ [] → IsComparison ts p vs → ⊥
left_alone r a (compare c e d) = let f = left_rest r c e in cc

pub none_behind : {ts us : List Token} {t : RngTerm} → IsRead wrd 5 ts t us → us ≡ [] → NoEnd prd 0 IsComparison ts
none_behind r a p vs q = left_alone r a q.reads

other_sign : {ts us vs ws : List Token} {token : Token} {t : RngTerm} {p : RngPred} →
    IsRead wrd 5 ts t us → us ≡ token ∷ vs → comparison_of token ≡ None → IsComparison ts p ws → ⊥
other_sign r a b (compare c e d) = let f = ap comparison_of (head_is (sym a ∙ left_rest r c e)) in cc

pub none_compared : {ts us vs : List Token} {token : Token} {t : RngTerm} →
    IsRead wrd 5 ts t us → us ≡ token ∷ vs → comparison_of token ≡ None → NoEnd prd 0 IsComparison ts
none_compared r a b p ws q = other_sign r a b q.reads

no_right : {ts us vs ws : List Token} {token : Token} {t : RngTerm} {p : RngPred} →
    IsRead wrd 5 ts t us → us ≡ token ∷ vs → NoneRead wrd 5 vs → IsComparison ts p ws → 0 < next_height prd ws → ⊥
no_right {ws = ws} r a none (compare {u = u} c e d) h =
    let f = tail_is (sym a ∙ left_rest r c e) in
    none u ws (record { reads = subst (λ l. Chain wrd 5 l u ws) (sym f) d; stops = word_ends ws h })

pub none_right : {ts us vs : List Token} {token : Token} {t : RngTerm} →
    IsRead wrd 5 ts t us → us ≡ token ∷ vs → NoneRead wrd 5 vs → NoEnd prd 0 IsComparison ts
none_right r a none p ws q = no_right r a none q.reads q.stops

pub read_comparison : {ts us vs ws : List Token} {token : Token} {op : CmpOp} {t u : RngTerm} →
    IsRead wrd 5 ts t us → us ≡ token ∷ vs → comparison_of token ≡ Some op → IsRead wrd 5 vs u ws →
    Ends prd 0 IsComparison ts (Cmp op t u) ws
read_comparison {ts = ts} {ws = ws} {t = t} r a b q = record {
  reads = compare (subst (λ l. Chain wrd 5 ts t l) a r.reads) b q.reads;
  stops = pred_ends ws q.stops;
}

-- truth values
pub truth_first : {ts us : List Token} {token : Token} {word : Keyword} →
    ts ≡ token ∷ us → token ≡ Reserved word → word ≡ True → IsTruth ts Truth us
truth_first {us = us} e f g = subst (λ l. IsTruth l Truth us) (sym (e ∙ ap (λ k. k ∷ us) (f ∙ ap Reserved g))) truth

pub falsity_first : {ts us : List Token} {token : Token} {word : Keyword} →
    ts ≡ token ∷ us → token ≡ Reserved word → word ≡ False → IsTruth ts Falsity us
falsity_first {us = us} e f g = subst (λ l. IsTruth l Falsity us) (sym (e ∙ ap (λ k. k ∷ us) (f ∙ ap Reserved g))) falsity

prim_truth : {ts us : List Token} {p : RngPred} → IsTruth ts p us → Prim prd ts p us
prim_truth truth = grammar.truth
prim_truth falsity = grammar.falsity

pub read_truth : {ts us : List Token} {p : RngPred} → IsTruth ts p us → 0 < next_height prd us → Ends prd 0 (Prim prd) ts p us
read_truth t h = record { reads = prim_truth t; stops = h }

truth_goes_on : {ts us vs : List Token} {p q : RngPred} → IsTruth ts p us → next_height prd us ≡ 0 →
    Prim prd ts q vs → 0 < next_height prd vs → ⊥
truth_goes_on truth z grammar.truth h = omega (arith, z)
truth_goes_on truth z (grammar.compare c e d) h = no_words true_starts c
truth_goes_on falsity z grammar.falsity h = omega (arith, z)
truth_goes_on falsity z (grammar.compare c e d) h = no_words false_starts c

pub none_behind_truth : {ts us : List Token} {p : RngPred} → IsTruth ts p us → next_height prd us ≡ 0 → NoEnd prd 0 (Prim prd) ts
none_behind_truth t z q vs r = truth_goes_on t z r.reads r.stops

-- signs and brackets
pub sign_first : {ts us : List Token} → ts ≡ Sign Bang ∷ us → SignAt prd ts Bang us
sign_first {us = us} e = subst (λ l. SignAt prd l Bang us) (sym e) bang

pub no_sign : {ts : List Token} → NoSign Bang ts → NoSignAt prd ts
no_sign absent _ us bang = absent us refl

pub bracket_first : {ts us : List Token} → ts ≡ Sign OpenSquare ∷ us → Opens prd ts None us
bracket_first {us = us} e = subst (λ l. Opens prd l None us) (sym e) square

pub no_bracket : {ts : List Token} → NoSign OpenSquare ts → NotOpened prd ts
no_bracket absent _ us square = absent us refl

squared : {ts us vs : List Token} {T : Option Ty} {p : RngPred} → Opens prd ts T us → Closed prd us p vs → Prim prd ts p vs
squared square c = grammar.square c

pub read_squared : {ts us vs : List Token} {T : Option Ty} {p : RngPred} →
    Opens prd ts T us → Closed prd us p vs → 0 < next_height prd vs → Ends prd 0 (Prim prd) ts p vs
read_squared o c h = record { reads = squared o c; stops = h }

square_goes_on : {ts us vs ws : List Token} {T : Option Ty} {p q : RngPred} →
    Opens prd ts T us → Closed prd us p vs → next_height prd vs ≡ 0 → Prim prd ts q ws → 0 < next_height prd ws → ⊥
square_goes_on {vs = vs} {ws = ws} square c z (grammar.square d) h =
    let e = one_chain c (omega arith) d (omega arith) in
    let k : 0 < next_height prd vs = subst (λ l. 0 < next_height prd l) (sym (tail_is e.rest)) h in
    omega (arith, z)
square_goes_on square c z (grammar.compare d e f) h = no_words square_starts d

pub none_behind_square : {ts us vs : List Token} {T : Option Ty} {p : RngPred} →
    Opens prd ts T us → Closed prd us p vs → next_height prd vs ≡ 0 → NoEnd prd 0 (Prim prd) ts
none_behind_square o c z q ws r = square_goes_on o c z r.reads r.stops

-- what is neither is a comparison
prim_compared : {ts us : List Token} {p : RngPred} → IsComparison ts p us → Prim prd ts p us
prim_compared (compare c e d) = grammar.compare c e d

pub read_compared : {ts us : List Token} {p : RngPred} → Ends prd 0 IsComparison ts p us → Ends prd 0 (Prim prd) ts p us
read_compared r = record { reads = prim_compared r.reads; stops = r.stops }

neither : {ts us : List Token} {p : RngPred} → NoReading prd IsTruth ts → NotOpened prd ts → NoEnd prd 0 IsComparison ts →
    Prim prd ts p us → 0 < next_height prd us → ⊥
neither a b none grammar.truth h = a _ _ truth
neither a b none grammar.falsity h = a _ _ falsity
neither a b none (grammar.square c) h = b _ _ square
neither a b none (grammar.compare c e d) h = none _ _ (record { reads = compare c e d; stops = h })

pub none_primary : {ts : List Token} → NoReading prd IsTruth ts → NotOpened prd ts → NoEnd prd 0 IsComparison ts →
    NoEnd prd 0 (Prim prd) ts
none_primary a b none p us r = neither a b none r.reads r.stops
