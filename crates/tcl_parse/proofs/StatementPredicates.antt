-- The two kinds of predicates, and what stands behind the sides of an equation.
use Rattle.std.proofs.Common.{◌≡◌, List, [], ◌∷◌, sym, ◌∙◌, subst, arith}
use Rattle.std.specs.Prelude.{Option, Some, None}
use Rattle.tcl_lang.specs.declared.term.Term.{Term}
use Rattle.tcl_lang.specs.declared.term.Part.{Part}
use Rattle.tcl_lang.specs.declared.range.RngPred.{RngPred}
use Rattle.tcl_lang.specs.declared.pred.Pred.TheVariants.{Rng}
use Rattle.tcl_text.specs.declared.symbol.Symbol.TheVariants.{Equal}
use Rattle.tcl_text.specs.declared.token.Keyword.TheVariants as keyword
use Rattle.tcl_text.specs.declared.token.Token.{Token}
use Rattle.tcl_text.specs.declared.token.Token.TheVariants.{Reserved, Sign}
use Rattle.tcl_text.specs.Trees.{alg, prd}
use Rattle.tcl_text.specs.Grammar.{Chain}
use Rattle.tcl_text.specs.Statements as grammar
use Rattle.tcl_text.proofs.Uniqueness.{one_chain, tail_is}
use Rattle.tcl_parse.specs.Readers.{IsRead, NoneRead}
use Rattle.tcl_parse.specs.StatementReaders as reader

-- a range predicate
pub range_goes_on : {ts us : List Token} {p : RngPred} → IsRead prd 2 ts p us → (us ≡ [] → ⊥) → reader.NoPredicate (Reserved keyword.Rng ∷ ts)
range_goes_on r h q (grammar.range c) = let e = one_chain r.reads r.stops c (omega arith) in h e.rest

pub range_ends : {ts us : List Token} {p : RngPred} → IsRead prd 2 ts p us → us ≡ [] → grammar.Predicate (Reserved keyword.Rng ∷ ts) (Rng p)
range_ends {ts = ts} {p = p} r e = grammar.range (subst (λ x. Chain prd 2 ts p x) e r.reads)

-- an equation
pub no_equal : {ts us : List Token} {t : Term} → IsRead alg 2 ts t us → ((vs : List Token) → us ≡ Sign Equal ∷ vs → ⊥) → reader.NoEquation ts
no_equal r h p (grammar.equation c d) = let e = one_chain r.reads r.stops c (omega arith) in h _ e.rest
no_equal r h p (grammar.congruence c d m) = let e = one_chain r.reads r.stops c (omega arith) in h _ e.rest

-- what follows the sign is the same in every reading
behind : {ts us vs ws : List Token} {t u : Term} → IsRead alg 2 ts t us → us ≡ Sign Equal ∷ vs → Chain alg 2 ts u (Sign Equal ∷ ws) → ws ≡ vs
behind r e c = let d = one_chain r.reads r.stops c (omega arith) in tail_is (sym d.rest ∙ e)

moved : {ts us vs : List Token} {t : Term} → ts ≡ us → Chain alg 2 ts t vs → Chain alg 2 us t vs
moved {vs = vs} {t = t} e p = subst (λ x. Chain alg 2 x t vs) e p

pub no_right : {ts us vs : List Token} {t : Term} → IsRead alg 2 ts t us → us ≡ Sign Equal ∷ vs → NoneRead alg 2 vs → reader.NoEquation ts
no_right r e h p (grammar.equation c d) = h _ _ (record { reads = moved (behind r e c) d; stops = omega arith })
no_right r e h p (grammar.congruence c d m) = h _ _ (record { reads = moved (behind r e c) d; stops = omega arith })

moved_ending : {ts us : List Token} {m : Option (List Part)} → ts ≡ us → reader.Ending us m → reader.Ending ts m
moved_ending {m = m} e p = subst (λ x. reader.Ending x m) (sym e) p

pub no_ending : {ts us vs ws : List Token} {t u : Term} → IsRead alg 2 ts t us → us ≡ Sign Equal ∷ vs → IsRead alg 2 vs u ws →
    reader.NoEnding ws → reader.NoEquation ts
no_ending r e q h p (grammar.equation c d) =
    let f = one_chain q.reads q.stops (moved (behind r e c) d) (omega arith) in h None (moved_ending f.rest reader.nothing)
no_ending r e q h p (grammar.congruence {m = m} c d w) =
    let f = one_chain q.reads q.stops (moved (behind r e c) d) (omega arith) in h (Some m) (moved_ending f.rest (reader.modulus w))

-- from the sides
whole : {ts us vs : List Token} {t u : Term} {m : Option (List Part)} → Chain alg 2 ts t (Sign Equal ∷ us) → Chain alg 2 us u vs →
    reader.Ending vs m → reader.Equation ts (record { left = t; right = u; modulus = m })
whole c d reader.nothing = grammar.equation c d
whole c d (reader.modulus w) = grammar.congruence c d w

pub is_equation : {ts us vs ws : List Token} {t u : Term} {m : Option (List Part)} → IsRead alg 2 ts t us → us ≡ Sign Equal ∷ vs →
    IsRead alg 2 vs u ws → reader.Ending ws m → reader.Equation ts (record { left = t; right = u; modulus = m })
is_equation {ts = ts} {t = t} r e q w = whole (subst (λ x. Chain alg 2 ts t x) e r.reads) q.reads w

-- a modulus
pub nothing_there : {ts : List Token} → ts ≡ [] → reader.Ending ts None
nothing_there e = moved_ending e reader.nothing
