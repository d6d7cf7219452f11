-- What the grammar reads has the shape of a program: numbers and literals are in range, types are types, and the forms of
-- instructions are kept. Exponents are in range where the line keeps that limit.
use Rattle.std.proofs.Common.{◌≡◌, ℕ, zero, suc, ◌<◌, Bool, true, false, ◌&&◌, List, ◌∷◌, refl, sym, ap, ◌∙◌, arith}
use Rattle.std.proofs.lemmas.Bool.Decides.{nat_tests}
use Rattle.std.proofs.lemmas.Int.{ints}
use Rattle.std.specs.Prelude.{nat_le, nat_lt, ℤ, pos, negsuc, neg_ℤ, int_le, int_lt, ◌<ℤ◌, ◌-◌, ◌^◌}
use Rattle.std.specs.List.{list_all}
use Rattle.tcl_lang.specs.declared.ty.Ty.{Ty}
use Rattle.tcl_lang.specs.declared.instr.Atom.{Atom}
use Rattle.tcl_lang.specs.declared.range.RngOp.{RngOp}
use Rattle.tcl_lang.specs.declared.range.CmpOp.{CmpOp}
use Rattle.tcl_lang.specs.declared.term.Term.{Term, Var, Num}
use Rattle.tcl_lang.specs.declared.term.Term.TheOpen as term_layer
use Rattle.tcl_lang.specs.declared.term.Term.TheViews as term
use Rattle.tcl_lang.specs.declared.term.Term.TheFolds.{fold-roll-Term}
use Rattle.tcl_lang.specs.declared.term.Term.TheVariants as term_roll
use Rattle.tcl_lang.specs.declared.range.RngTerm.{RngTerm, Leaf}
use Rattle.tcl_lang.specs.declared.range.RngTerm.TheOpen as range_layer
use Rattle.tcl_lang.specs.declared.range.RngTerm.TheViews as range_term
use Rattle.tcl_lang.specs.declared.range.RngTerm.TheFolds.{fold-roll-RngTerm}
use Rattle.tcl_lang.specs.declared.range.RngTerm.TheVariants as range_roll
use Rattle.tcl_lang.specs.declared.range.RngPred.{RngPred, True, False, Cmp}
use Rattle.tcl_lang.specs.declared.range.RngPred.TheOpen as pred_layer
use Rattle.tcl_lang.specs.declared.range.RngPred.TheViews as range_pred
use Rattle.tcl_lang.specs.declared.range.RngPred.TheFolds.{fold-roll-RngPred}
use Rattle.tcl_lang.specs.declared.range.RngPred.TheVariants as pred_roll
use Rattle.tcl_lang.specs.Types.{is_ty}
use Rattle.tcl_lang.specs.Shape.{is_number, is_literal, is_atom, is_term, is_term_step, is_range_term, is_range_term_step, is_range, is_range_step}
use Rattle.tcl_text.specs.declared.operator.TermOp.{TermOp}
use Rattle.tcl_text.specs.declared.operator.TermOp.TheVariants as term_op
use Rattle.tcl_text.specs.declared.operator.PredOp.{PredOp}
use Rattle.tcl_text.specs.declared.operator.PredOp.TheVariants as pred_op
use Rattle.tcl_lang.specs.declared.instr.Op.TheVariants.{Cast}
use Rattle.tcl_text.specs.declared.symbol.Symbol.TheVariants.{StarStar, Minus, Tilde, Bang, Open, Close, OpenSquare, CloseSquare, Comma, At}
use Rattle.tcl_text.specs.declared.token.Keyword.TheVariants as keyword
use Rattle.tcl_text.specs.declared.token.Token.{Token}
use Rattle.tcl_text.specs.declared.token.Token.TheVariants.{Name, Number, Kind, Instruction, Reserved, Sign}
use Rattle.tcl_text.specs.Trees.{Sort, alg, wrd, prd, Tree, Joint, joined}
use Rattle.tcl_text.specs.Scan.{is_low, is_low_step}
use Rattle.tcl_text.specs.Grammar as grammar

-- the numbers and types of tokens
abbrev pub is_fit : Token → Bool
is_fit (Number n) = is_number n
is_fit (Kind T) = is_ty T
is_fit _ = true

abbrev pub Fit : List Token → Type 0
Fit ts = list_all is_fit ts ≡ true

-- a tree has its shape; a term has it where its exponents are in range
abbrev pub Shaped : (s : Sort) → Tree s → Type 0
Shaped alg t = is_low t ≡ true → is_term t ≡ true
Shaped wrd t = is_range_term t ≡ true
Shaped prd p = is_range p ≡ true

pub both_left : (a b : Bool) → (a && b) ≡ true → a ≡ true
both_left true b e = refl
both_left false b e = e

pub both_right : (a b : Bool) → (a && b) ≡ true → b ≡ true
both_right true b e = e
both_right false b e = absurd cc

pub both : {a b : Bool} → a ≡ true → b ≡ true → (a && b) ≡ true
both {b = b} e d = ap (λ x. x && b) e ∙ d

pub fit_rest : (token : Token) (ts : List Token) → Fit (token ∷ ts) → Fit ts
fit_rest token ts f = both_right (is_fit token) (list_all is_fit ts) f

pub fit_first : (token : Token) (ts : List Token) → Fit (token ∷ ts) → is_fit token ≡ true
fit_first token ts f = both_left (is_fit token) (list_all is_fit ts) f

-- layers of terms
var_shape : (x : ℕ) → is_term (Var x) ≡ true
var_shape x = ap is_term (sym (term_roll.rolls-Var x)) ∙ fold-roll-Term Bool is_term_step (term_layer.Var x)

num_shape : (n : ℤ) → is_term (Num n) ≡ is_number n
num_shape n = ap is_term (sym (term_roll.rolls-Num n)) ∙ fold-roll-Term Bool is_term_step (term_layer.Num n)

neg_shape : (t : Term) → is_term (term.Neg t) ≡ is_term t
neg_shape t = ap is_term (sym (term_roll.rolls-Neg t)) ∙ fold-roll-Term Bool is_term_step (term_layer.Neg t)

neg_low : (t : Term) → is_low (term.Neg t) ≡ is_low t
neg_low t = ap is_low (sym (term_roll.rolls-Neg t)) ∙ fold-roll-Term Bool is_low_step (term_layer.Neg t)

pow_shape : (t : Term) (k : ℕ) → is_term (term.Pow t k) ≡ (is_term t && nat_le k 1024)
pow_shape t k = ap is_term (sym (term_roll.rolls-Pow t k)) ∙ fold-roll-Term Bool is_term_step (term_layer.Pow t k)

pow_low : (t : Term) (k : ℕ) → is_low (term.Pow t k) ≡ (is_low t && nat_le k 1024)
pow_low t k = ap is_low (sym (term_roll.rolls-Pow t k)) ∙ fold-roll-Term Bool is_low_step (term_layer.Pow t k)

joined_shape : (o : TermOp) (t u : Term) → is_term (joined alg o t u) ≡ (is_term t && is_term u)
joined_shape term_op.Plus t u = ap is_term (sym (term_roll.rolls-Add t u)) ∙ fold-roll-Term Bool is_term_step (term_layer.Add t u)
joined_shape term_op.Minus t u = ap is_term (sym (term_roll.rolls-Sub t u)) ∙ fold-roll-Term Bool is_term_step (term_layer.Sub t u)
joined_shape term_op.Times t u = ap is_term (sym (term_roll.rolls-Mul t u)) ∙ fold-roll-Term Bool is_term_step (term_layer.Mul t u)

joined_low : (o : TermOp) (t u : Term) → is_low (joined alg o t u) ≡ (is_low t && is_low u)
joined_low term_op.Plus t u = ap is_low (sym (term_roll.rolls-Add t u)) ∙ fold-roll-Term Bool is_low_step (term_layer.Add t u)
joined_low term_op.Minus t u = ap is_low (sym (term_roll.rolls-Sub t u)) ∙ fold-roll-Term Bool is_low_step (term_layer.Sub t u)
joined_low term_op.Times t u = ap is_low (sym (term_roll.rolls-Mul t u)) ∙ fold-roll-Term Bool is_low_step (term_layer.Mul t u)

-- layers of range terms
leaf_shape : (a : Atom) → is_range_term (Leaf a) ≡ is_atom a
leaf_shape a = ap is_range_term (sym (range_roll.rolls-Leaf a)) ∙ fold-roll-RngTerm Bool is_range_term_step (range_layer.Leaf a)

minus_shape : (t : RngTerm) → is_range_term (range_term.Neg t) ≡ is_range_term t
minus_shape t = ap is_range_term (sym (range_roll.rolls-Neg t)) ∙ fold-roll-RngTerm Bool is_range_term_step (range_layer.Neg t)

flip_shape : (t : RngTerm) → is_range_term (range_term.Flip t) ≡ is_range_term t
flip_shape t = ap is_range_term (sym (range_roll.rolls-Flip t)) ∙ fold-roll-RngTerm Bool is_range_term_step (range_layer.Flip t)

cast_shape : (T : Ty) (t : RngTerm) → is_range_term (range_term.Cast T t) ≡ (is_ty T && is_range_term t)
cast_shape T t = ap is_range_term (sym (range_roll.rolls-Cast T t)) ∙ fold-roll-RngTerm Bool is_range_term_step (range_layer.Cast T t)

bin_shape : (o : RngOp) (t u : RngTerm) → is_range_term (range_term.Bin o t u) ≡ (is_range_term t && is_range_term u)
bin_shape o t u = ap is_range_term (sym (range_roll.rolls-Bin o t u)) ∙ fold-roll-RngTerm Bool is_range_term_step (range_layer.Bin o t u)

-- layers of range predicates
true_shape : is_range True ≡ true
true_shape = ap is_range (sym pred_roll.rolls-True) ∙ fold-roll-RngPred Bool is_range_step pred_layer.True

false_shape : is_range False ≡ true
false_shape = ap is_range (sym pred_roll.rolls-False) ∙ fold-roll-RngPred Bool is_range_step pred_layer.False

compare_shape : (op : CmpOp) (t u : RngTerm) → is_range (Cmp op t u) ≡ (is_range_term t && is_range_term u)
compare_shape op t u = ap is_range (sym (pred_roll.rolls-Cmp op t u)) ∙ fold-roll-RngPred Bool is_range_step (pred_layer.Cmp op t u)

not_shape : (p : RngPred) → is_range (range_pred.Not p) ≡ is_range p
not_shape p = ap is_range (sym (pred_roll.rolls-Not p)) ∙ fold-roll-RngPred Bool is_range_step (pred_layer.Not p)

joined_pred_shape : (o : PredOp) (p q : RngPred) → is_range (joined prd o p q) ≡ (is_range p && is_range q)
joined_pred_shape pred_op.And p q = ap is_range (sym (pred_roll.rolls-Both p q)) ∙ fold-roll-RngPred Bool is_range_step (pred_layer.Both p q)
joined_pred_shape pred_op.Or p q = ap is_range (sym (pred_roll.rolls-Either p q)) ∙ fold-roll-RngPred Bool is_range_step (pred_layer.Either p q)

joined_shaped : (s : Sort) (o : Joint s) (t u : Tree s) → Shaped s t → Shaped s u → Shaped s (joined s o t u)
joined_shaped alg o t u p q = λ low.
    let l : (is_low t && is_low u) ≡ true = sym (joined_low o t u) ∙ low in
    joined_shape o t u ∙ both (p (both_left (is_low t) (is_low u) l)) (q (both_right (is_low t) (is_low u) l))
joined_shaped wrd o t u p q = bin_shape o t u ∙ both p q
joined_shaped prd o t u p q = joined_pred_shape o t u ∙ both p q

-- literals
in_range : (n : ℤ) → is_number n ≡ true → (int_lt (neg_ℤ (pos (2 ^ 127))) n && int_lt n (pos (2 ^ 127))) ≡ true
in_range (pos k) e = both_right (int_le (pos 0) (pos k)) (int_lt (pos k) (pos (2 ^ 127))) e
in_range (negsuc k) e = absurd cc

below_step : (k m n : ℕ) → n ≡ suc m → nat_lt (suc k) n ≡ true → (nat_lt k m && true) ≡ true
below_step k m n d e = both (lt_true k m (lt_of (suc k) n e) d) refl
  where
    lt_of : (k n : ℕ) → nat_lt k n ≡ true → k < n
    lt_of k n e = grind (arith, nat_tests)

    lt_true : (k m : ℕ) → suc k < n → n ≡ suc m → nat_lt k m ≡ true
    lt_true k m h d = let q : k < m = omega arith in grind (arith, nat_tests)

below : (n : ℤ) → pos 0 <ℤ n → is_number n ≡ true →
    (int_lt (neg_ℤ (pos (2 ^ 127))) (neg_ℤ n) && int_lt (neg_ℤ n) (pos (2 ^ 127))) ≡ true
below (pos zero) h e = absurd (omega (arith, ints))
below (pos (suc k)) h e =
    below_step k (2 ^ 127 - 1) (2 ^ 127) refl (both_right (int_le (pos 0) (pos (suc k))) (int_lt (pos (suc k)) (pos (2 ^ 127))) e)
below (negsuc k) h e = absurd cc

literal_shape : (T : Ty) (n : ℤ) → is_ty T ≡ true →
    (int_lt (neg_ℤ (pos (2 ^ 127))) n && int_lt n (pos (2 ^ 127))) ≡ true → is_literal T n ≡ true
literal_shape T n e d = three (is_ty T) (int_lt (neg_ℤ (pos (2 ^ 127))) n) (int_lt n (pos (2 ^ 127))) e d
  where
    three : (a b c : Bool) → a ≡ true → (b && c) ≡ true → (a && b && c) ≡ true
    three true b c e d = d
    three false b c e d = absurd cc

raised_shape : (t : Term) (k : ℕ) → Shaped alg t → Shaped alg (term.Pow t k)
raised_shape t k p = λ low.
    let l : (is_low t && nat_le k 1024) ≡ true = sym (pow_low t k) ∙ low in
    pow_shape t k ∙ both (p (both_left (is_low t) (nat_le k 1024) l)) (both_right (is_low t) (nat_le k 1024) l)

pub operand_shape : {ts us : List Token} {a : Atom} → grammar.Operand ts a us → Fit ts → (is_atom a ≡ true) × Fit us
operand_shape (grammar.name {x = x} {us = us}) f = (refl, fit_rest (Name x) us f)
operand_shape (grammar.literal {n = n} {T = T} {us = us}) f =
    let g = fit_rest (Number n) (Sign At ∷ Kind T ∷ us) f in
    let h = fit_rest (Sign At) (Kind T ∷ us) g in
    (literal_shape T n (fit_first (Kind T) us h) (in_range n (fit_first (Number n) (Sign At ∷ Kind T ∷ us) f)), fit_rest (Kind T) us h)
operand_shape (grammar.negative {n = n} {T = T} {us = us} k) f =
    let g = fit_rest (Sign Minus) (Number n ∷ Sign At ∷ Kind T ∷ us) f in
    let h = fit_rest (Sign At) (Kind T ∷ us) (fit_rest (Number n) (Sign At ∷ Kind T ∷ us) g) in
    (literal_shape T (neg_ℤ n) (fit_first (Kind T) us h) (below n k (fit_first (Number n) (Sign At ∷ Kind T ∷ us) g)), fit_rest (Kind T) us h)

mutual
  pub chain_shape : {s : Sort} {n : ℕ} {ts us : List Token} {t : Tree s} → grammar.Chain s n ts t us → Fit ts → Shaped s t × Fit us
  chain_shape (grammar.factor p) f = factor_shape p f
  chain_shape (grammar.chain p m) f = let r = chain_shape p f in more_shape m r.0 r.1

  pub more_shape : {s : Sort} {n : ℕ} {ts us : List Token} {t u : Tree s} →
      grammar.More s n t ts u us → Shaped s t → Fit ts → Shaped s u × Fit us
  more_shape grammar.stop p f = (p, f)
  more_shape {s = s} {t = t} (grammar.more {token = token} {o = o} {ts = ts} {u = u} e j c m) p f =
      let r = chain_shape c (fit_rest token ts f) in more_shape m (joined_shaped s o t u p r.0) r.1

  pub factor_shape : {s : Sort} {ts us : List Token} {t : Tree s} → grammar.Factor s ts t us → Fit ts → Shaped s t × Fit us
  factor_shape (grammar.power p) f = powered_shape p f
  factor_shape (grammar.minus_power {ts = ts} {t = t} p) f =
      let r = powered_shape p (fit_rest (Sign Minus) ts f) in (λ low. neg_shape t ∙ r.0 (sym (neg_low t) ∙ low), r.1)
  factor_shape (grammar.word p) f = prim_shape p f
  factor_shape (grammar.minus_word {ts = ts} {t = t} n p) f =
      let r = prim_shape p (fit_rest (Sign Minus) ts f) in (minus_shape t ∙ r.0, r.1)
  factor_shape (grammar.flip_word {ts = ts} {t = t} p) f =
      let r = prim_shape p (fit_rest (Sign Tilde) ts f) in (flip_shape t ∙ r.0, r.1)
  factor_shape (grammar.pred p) f = prim_shape p f
  factor_shape (grammar.not_pred {ts = ts} {p = q} p) f =
      let r = prim_shape p (fit_rest (Sign Bang) ts f) in (not_shape q ∙ r.0, r.1)

  pub powered_shape : {ts us : List Token} {t : Term} → grammar.Powered ts t us → Fit ts → Shaped alg t × Fit us
  powered_shape (grammar.plain p) f = prim_shape p f
  powered_shape (grammar.raised {us = us} {t = t} {n = n} p) f =
      let r = prim_shape p f in
      (raised_shape t (grammar.capped n) r.0, fit_rest (Number n) us (fit_rest (Sign StarStar) (Number n ∷ us) r.1))

  pub prim_shape : {s : Sort} {ts us : List Token} {t : Tree s} → grammar.Prim s ts t us → Fit ts → Shaped s t × Fit us
  prim_shape (grammar.variable {x = x} {us = us}) f = (λ low. var_shape x, fit_rest (Name x) us f)
  prim_shape (grammar.number {n = n} {us = us}) f =
      (λ low. num_shape n ∙ fit_first (Number n) us f, fit_rest (Number n) us f)
  prim_shape (grammar.bracket {ts = ts} {us = us} p) f =
      let r = chain_shape p (fit_rest (Sign Open) ts f) in (r.0, fit_rest (Sign Close) us r.1)
  prim_shape (grammar.operand {a = a} o) f = let r = operand_shape o f in (leaf_shape a ∙ r.0, r.1)
  prim_shape (grammar.word_bracket {ts = ts} {us = us} p) f =
      let r = chain_shape p (fit_rest (Sign Open) ts f) in (r.0, fit_rest (Sign Close) us r.1)
  prim_shape (grammar.cast {T = T} {ts = ts} {us = us} {t = t} p) f =
      let g =
      fit_rest (Sign Open) (Kind T ∷ Sign Comma ∷ ts) (fit_rest (Instruction Cast) (Sign Open ∷ Kind T ∷ Sign Comma ∷ ts) f) in
      let r = chain_shape p (fit_rest (Sign Comma) ts (fit_rest (Kind T) (Sign Comma ∷ ts) g)) in
      (cast_shape T t ∙ both (fit_first (Kind T) (Sign Comma ∷ ts) g) r.0, fit_rest (Sign Close) us r.1)
  prim_shape (grammar.truth {us = us}) f = (true_shape, fit_rest (Reserved keyword.True) us f)
  prim_shape (grammar.falsity {us = us}) f = (false_shape, fit_rest (Reserved keyword.False) us f)
  prim_shape (grammar.square {ts = ts} {us = us} p) f =
      let r = chain_shape p (fit_rest (Sign OpenSquare) ts f) in (r.0, fit_rest (Sign CloseSquare) us r.1)
  prim_shape (grammar.compare {token = token} {op = op} {us = us} {t = t} {u = u} p e q) f =
      let r = chain_shape p f in
      let w = chain_shape q (fit_rest token us r.1) in
      (compare_shape op t u ∙ both r.0 w.0, w.1)
