-- Chains of operators, which a loop reads from left to right: the readings from the start are those that go on from here.
use Rattle.std.proofs.Common.{◌≡◌, ℕ, suc, ◌<◌, ◌≤◌, ◌-◌, List, [], ◌∷◌, refl, sym, subst, arith}
use Rattle.std.specs.Prelude.{Some}
use Rattle.tcl_lang.specs.declared.range.RngOp.TheVariants as range_op
use Rattle.tcl_text.specs.declared.operator.TermOp.TheVariants as term_op
use Rattle.tcl_text.specs.declared.operator.PredOp.TheVariants as pred_op
use Rattle.tcl_text.specs.declared.symbol.Symbol.TheVariants.{AndAnd, BarBar, Plus, Minus, Star, Ampersand, Bar, Caret}
use Rattle.tcl_text.specs.declared.token.Token.{Token}
use Rattle.tcl_text.specs.declared.token.Token.TheVariants.{Sign}
use Rattle.tcl_text.specs.Trees.{Sort, alg, wrd, prd, Tree, Joint, top, height, next_height, joint_of, joined}
use Rattle.tcl_text.specs.Grammar.{Chain, More, chain, stop, more}
use Rattle.tcl_text.proofs.Uniqueness.{front, along, along_joint, one_chain}
use Rattle.tcl_parse.specs.Readers.{NoReading, IsRead, NoneRead, NoSign, IsOperator, NoOperator}
use Rattle.tcl_parse.specs.Chains.{loosest, closing, Closed}

-- `left` is read from the start of `ts`, and `rest` follows
pub record Goes (s : Sort) (n : ℕ) (ts : List Token) (left : Tree s) (rest : List Token) : Type 0 where
  pub forth : (u : Tree s) (us : List Token) → More s n left rest u us → Chain s (suc n) ts u us
  pub back : (u : Tree s) (us : List Token) → Chain s (suc n) ts u us → suc n < next_height s us → More s n left rest u us
  pub stops : n < next_height s rest

back_at_start : {s : Sort} {n : ℕ} {ts us vs : List Token} {t u : Tree s} →
    IsRead s n ts t us → Chain s (suc n) ts u vs → suc n < next_height s vs → More s n t us u vs
back_at_start r (chain c m) h = let e = one_chain r.reads r.stops c (front m h) in along e.tree e.rest m

pub begins : {s : Sort} {n : ℕ} {ts us : List Token} {t : Tree s} → IsRead s n ts t us → Goes s n ts t us
begins r = record { forth = λ u vs m. chain r.reads m; back = λ u vs c h. back_at_start r c h; stops = r.stops }

-- an operator that stands next is the one that goes on
back_over : {s : Sort} {n : ℕ} {behind us vs : List Token} {left u v : Tree s} {o : Joint s} (token : Token) →
    height s token ≡ suc n → joint_of s token ≡ Some o → IsRead s n behind u us →
    More s n left (token ∷ behind) v vs → suc n < next_height s vs → More s n (joined s o left u) us v vs
back_over token e j r stop h = absurd (omega (arith, e))
back_over {left = left} token e j r (more e' j' c m) h =
    let d = one_chain r.reads r.stops c (front m h) in along_joint token left j j' d.tree d.rest m

moved_more : {s : Sort} {n : ℕ} {rest ts vs : List Token} {left v : Tree s} → rest ≡ ts → More s n left rest v vs → More s n left ts v vs
moved_more {s = s} {n = n} {vs = vs} {left = left} {v = v} e m = subst (λ l. More s n left l v vs) e m

goes_on : {s : Sort} {n : ℕ} {ts rest behind us : List Token} {left u : Tree s} {o : Joint s} →
    Goes s n ts left rest → IsOperator s (suc n) rest o behind → IsRead s n behind u us → Goes s n ts (joined s o left u) us
goes_on g p r = record {
  forth = λ v vs m. g.forth v vs (moved_more (sym p.first) (more p.tall p.joint r.reads m));
  back = λ v vs c h. back_over p.token p.tall p.joint r (moved_more p.first (g.back v vs c h)) h;
  stops = r.stops;
}

no_more : {s : Sort} {n : ℕ} {behind vs : List Token} {left v : Tree s} (token : Token) →
    height s token ≡ suc n → NoneRead s n behind → More s n left (token ∷ behind) v vs → suc n < next_height s vs → ⊥
no_more token e none stop h = omega (arith, e)
no_more token e none (more e' j c m) h = none _ _ (record { reads = c; stops = front m h })

goes_nowhere : {s : Sort} {n : ℕ} {ts rest behind : List Token} {left : Tree s} {o : Joint s} →
    Goes s n ts left rest → IsOperator s (suc n) rest o behind → NoneRead s n behind → NoneRead s (suc n) ts
goes_nowhere g p none v vs r = no_more p.token p.tall none (moved_more p.first (g.back v vs r.reads r.stops)) r.stops

goes_to_end : {s : Sort} {n : ℕ} {ts rest : List Token} {left : Tree s} →
    Goes s n ts left rest → suc n < next_height s rest → IsRead s (suc n) ts left rest
goes_to_end {rest = rest} {left = left} g h = record { reads = g.forth left rest stop; stops = h }

no_first : {s : Sort} {n : ℕ} {ts us : List Token} {t : Tree s} → NoneRead s n ts → Chain s (suc n) ts t us → suc n < next_height s us → ⊥
no_first none (chain c m) h = none _ _ (record { reads = c; stops = front m h })

no_chain : {s : Sort} {n : ℕ} {ts : List Token} → NoneRead s n ts → NoneRead s (suc n) ts
no_chain none t us r = no_first none r.reads r.stops

-- the same by the level that a loop counts
above : (level : ℕ) → 0 < level → suc (level - 1) ≡ level
above level h = omega arith

pub no_chain_at : {s : Sort} {ts : List Token} (level : ℕ) → 0 < level → NoneRead s (level - 1) ts → NoneRead s level ts
no_chain_at {s = s} {ts = ts} level h none = subst (λ k. NoneRead s k ts) (above level h) (no_chain none)

pub goes_on_at : {s : Sort} {ts rest behind us : List Token} {left u t : Tree s} {o : Joint s} (level : ℕ) → 0 < level →
    Goes s (level - 1) ts left rest → IsOperator s level rest o behind → IsRead s (level - 1) behind u us → t ≡ joined s o left u →
    Goes s (level - 1) ts t us
goes_on_at {s = s} {ts = ts} {rest = rest} {behind = behind} {us = us} {o = o} level h g p r e =
    subst (λ x. Goes s (level - 1) ts x us) (sym e)
    (goes_on g (subst (λ k. IsOperator s k rest o behind) (sym (above level h)) p) r)

pub goes_nowhere_at : {s : Sort} {ts rest behind : List Token} {left : Tree s} {o : Joint s} (level : ℕ) → 0 < level →
    Goes s (level - 1) ts left rest → IsOperator s level rest o behind → NoneRead s (level - 1) behind → NoneRead s level ts
goes_nowhere_at {s = s} {ts = ts} {rest = rest} {behind = behind} {o = o} level h g p none =
    subst (λ k. NoneRead s k ts) (above level h)
    (goes_nowhere g (subst (λ k. IsOperator s k rest o behind) (sym (above level h)) p) none)

pub goes_to_end_at : {s : Sort} {ts rest : List Token} {left : Tree s} (level : ℕ) → 0 < level →
    Goes s (level - 1) ts left rest → level < next_height s rest → IsRead s level ts left rest
goes_to_end_at {s = s} {ts = ts} {rest = rest} {left = left} level h g k =
    subst (λ n. IsRead s n ts left rest) (above level h) (goes_to_end g (omega arith))

-- a token of an operator's height is an operator
joint_known : (s : Sort) (token : Token) → 0 < height s token → height s token < top s → (o : Joint s) × (joint_of s token ≡ Some o)
joint_known alg (Sign Star) h k = (term_op.Times, refl)
joint_known alg (Sign Plus) h k = (term_op.Plus, refl)
joint_known alg (Sign Minus) h k = (term_op.Minus, refl)
joint_known alg token h k = absurd (omega arith)
joint_known wrd (Sign Star) h k = (range_op.Mul, refl)
joint_known wrd (Sign Plus) h k = (range_op.Add, refl)
joint_known wrd (Sign Minus) h k = (range_op.Sub, refl)
joint_known wrd (Sign Ampersand) h k = (range_op.And, refl)
joint_known wrd (Sign Caret) h k = (range_op.Xor, refl)
joint_known wrd (Sign Bar) h k = (range_op.Or, refl)
joint_known wrd token h k = absurd (omega arith)
joint_known prd (Sign AndAnd) h k = (pred_op.And, refl)
joint_known prd (Sign BarBar) h k = (pred_op.Or, refl)
joint_known prd token h k = absurd (omega arith)

-- where no operator of the level stands next, none up to it does
pub level_ends : (s : Sort) (level : ℕ) (rest : List Token) → 0 < level → level < top s → NoOperator s level rest →
    level - 1 < next_height s rest → level < next_height s rest
level_ends s level [] a b absent h = b
level_ends s level (token ∷ us) a b absent h =
    let other : height s token ≡ level → ⊥ =
    λ e. let j = joint_known s token (omega (arith, e)) (omega (arith, e)) in
    absent j.0 us (record { token = token; first = refl; tall = e; joint = j.1 }) in
    omega (arith, other)

-- a tree that something else follows is not closed
closing_ends : (s : Sort) → loosest s < height s (Sign (closing s))
closing_ends alg = omega arith
closing_ends wrd = omega arith
closing_ends prd = omega arith

pub not_closed : {s : Sort} {ts vs : List Token} {u : Tree s} →
    IsRead s (loosest s) ts u vs → NoSign (closing s) vs → NoReading s (Closed s) ts
not_closed {s = s} r absent t us c = let e = one_chain r.reads r.stops c (closing_ends s) in absent us e.rest

pub no_tree_closed : {s : Sort} {ts : List Token} → NoneRead s (loosest s) ts → NoReading s (Closed s) ts
no_tree_closed {s = s} none t us c = none _ _ (record { reads = c; stops = closing_ends s })

pub below_top : (s : Sort) (level : ℕ) → level ≤ loosest s → level < top s
below_top alg level h = omega arith
below_top wrd level h = omega arith
below_top prd level h = omega arith
