-- A list of tokens begins with at most one tree that ends where it cannot go on. Both readings are taken apart together:
-- where one stops and the other goes on, the next token has two heights.
use Rattle.std.proofs.Common.{◌≡◌, ℕ, suc, ◌<◌, List, [], ◌∷◌, refl, sym, ◌∙◌, ap, subst, arith}
use Rattle.std.specs.Prelude.{Option, Some, ℤ}
use Rattle.tcl_lang.specs.declared.instr.Atom.{Atom}
use Rattle.tcl_lang.specs.declared.instr.Op.TheVariants.{Cast}
use Rattle.tcl_lang.specs.declared.range.CmpOp.{CmpOp}
use Rattle.tcl_lang.specs.declared.term.Term.{Term}
use Rattle.tcl_lang.specs.declared.term.Term.TheViews as term
use Rattle.tcl_lang.specs.declared.range.RngTerm.{RngTerm, Leaf}
use Rattle.tcl_lang.specs.declared.range.RngTerm.TheViews as range_term
use Rattle.tcl_lang.specs.declared.range.RngPred.{RngPred, Cmp}
use Rattle.tcl_lang.specs.declared.range.RngPred.TheViews as range_pred
use Rattle.tcl_text.specs.declared.symbol.Symbol.TheVariants.{StarStar, Plus, Minus, Star, Ampersand, Bar, Caret, Tilde, Bang, Open, OpenSquare, Equal, NotEqual, Less, LessEqual, Greater, GreaterEqual}
use Rattle.tcl_text.specs.declared.token.Keyword.TheVariants.{True, False}
use Rattle.tcl_text.specs.declared.token.Token.{Token}
use Rattle.tcl_text.specs.declared.token.Token.TheVariants.{Number, Instruction, Reserved, Sign}
use Rattle.tcl_text.specs.Trees.{Sort, alg, wrd, prd, Tree, Joint, height, next_height, joint_of, joined, comparison_of}
use Rattle.tcl_text.specs.Grammar

-- two readings agree
pub record Same (s : Sort) (t : Tree s) (us : List Token) (u : Tree s) (vs : List Token) : Type 0 where
  pub tree : t ≡ u
  pub rest : us ≡ vs

-- the first part of a chain stops where the chain stops
pub front : {s : Sort} {n : ℕ} {t u : Tree s} {us vs : List Token} →
    Grammar.More s n t us u vs → suc n < next_height s vs → n < next_height s us
front Grammar.stop h = omega arith
front (Grammar.more e j c m) h = omega (arith, e)

pub along : {s : Sort} {n : ℕ} {t t' u : Tree s} {us us' vs : List Token} →
    t ≡ t' → us ≡ us' → Grammar.More s n t' us' u vs → Grammar.More s n t us u vs
along {s = s} {n = n} {t = t} {t' = t'} {u = u} {us = us} {us' = us'} {vs = vs} e d m =
    subst (λ x. Grammar.More s n x us u vs) (sym e) (subst (λ ts. Grammar.More s n t' ts u vs) (sym d) m)

pub some_is : {A : Type 0} {a b : A} {o : Option A} → o ≡ Some a → o ≡ Some b → a ≡ b
some_is p q = cc

pub tail_is : {a b : Token} {us vs : List Token} → a ∷ us ≡ b ∷ vs → us ≡ vs
tail_is e = cc

pub head_is : {a b : Token} {us vs : List Token} → a ∷ us ≡ b ∷ vs → a ≡ b
head_is e = cc

-- the same after one more operator
pub along_joint : {s : Sort} {n : ℕ} {o o' : Joint s} {u u' v : Tree s} {us us' vs : List Token} (token : Token) (t : Tree s) →
    joint_of s token ≡ Some o → joint_of s token ≡ Some o' → u ≡ u' → us ≡ us' →
    Grammar.More s n (joined s o' t u') us' v vs → Grammar.More s n (joined s o t u) us v vs
along_joint {s = s} {o = o} {o' = o'} {u = u} {u' = u'} token t j j' e d m =
    along (ap (λ x. joined s x t u) (some_is j j') ∙ ap (λ x. joined s o' t x) e) d m

-- a predicate stops where no range term goes on
pub word_ends : (us : List Token) → 0 < next_height prd us → 5 < next_height wrd us
word_ends [] h = omega arith
word_ends (Sign Star ∷ us) h = absurd (omega arith)
word_ends (Sign Plus ∷ us) h = absurd (omega arith)
word_ends (Sign Minus ∷ us) h = absurd (omega arith)
word_ends (Sign Ampersand ∷ us) h = absurd (omega arith)
word_ends (Sign Caret ∷ us) h = absurd (omega arith)
word_ends (Sign Bar ∷ us) h = absurd (omega arith)
word_ends (token ∷ us) h = omega arith

-- a range term stops at a comparison
pub compare_ends : (token : Token) (op : CmpOp) → comparison_of token ≡ Some op → 5 < height wrd token
compare_ends (Sign Equal) op e = omega arith
compare_ends (Sign NotEqual) op e = omega arith
compare_ends (Sign Less) op e = omega arith
compare_ends (Sign LessEqual) op e = omega arith
compare_ends (Sign Greater) op e = omega arith
compare_ends (Sign GreaterEqual) op e = omega arith
compare_ends token op e = absurd cc

-- what a primary cannot begin with
no_minus : {ts us : List Token} {t : Term} → Grammar.Powered (Sign Minus ∷ ts) t us → ⊥
no_minus (Grammar.plain p) = elim p [ ]
no_minus (Grammar.raised p) = elim p [ ]

not_literal : {ts us : List Token} {t : RngTerm} → Grammar.Prim wrd (Sign Minus ∷ ts) t us → Grammar.NoLiteral ts → ⊥
not_literal (Grammar.operand (Grammar.negative h)) n = n

no_flip : {ts us : List Token} {t : RngTerm} → Grammar.Prim wrd (Sign Tilde ∷ ts) t us → ⊥
no_flip (Grammar.operand o) = elim o [ ]

no_open : {ts us : List Token} {a : Atom} → Grammar.Operand (Sign Open ∷ ts) a us → ⊥
no_open o = elim o [ ]

no_cast : {ts us : List Token} {a : Atom} → Grammar.Operand (Instruction Cast ∷ ts) a us → ⊥
no_cast o = elim o [ ]

-- what a range term cannot begin with
pub data StartsPred : Token → Type 0 where
  truth : StartsPred (Reserved True)
  falsity : StartsPred (Reserved False)
  square : StartsPred (Sign OpenSquare)
  bang : StartsPred (Sign Bang)

no_operand : {token : Token} {ts us : List Token} {a : Atom} → StartsPred token → Grammar.Operand (token ∷ ts) a us → ⊥
no_operand truth o = elim o [ ]
no_operand falsity o = elim o [ ]
no_operand square o = elim o [ ]
no_operand bang o = elim o [ ]

no_word : {token : Token} {ts us : List Token} {t : RngTerm} → StartsPred token → Grammar.Prim wrd (token ∷ ts) t us → ⊥
no_word w (Grammar.operand o) = no_operand w o
no_word w (Grammar.word_bracket p) = elim w [ ]
no_word w (Grammar.cast p) = elim w [ ]

no_factor : {token : Token} {ts us : List Token} {t : RngTerm} → StartsPred token → Grammar.Factor wrd (token ∷ ts) t us → ⊥
no_factor w (Grammar.word p) = no_word w p
no_factor w (Grammar.minus_word n p) = elim w [ ]
no_factor w (Grammar.flip_word p) = elim w [ ]

pub no_words : {token : Token} {n : ℕ} {ts us : List Token} {t : RngTerm} →
    StartsPred token → Grammar.Chain wrd n (token ∷ ts) t us → ⊥
no_words w (Grammar.factor p) = no_factor w p
no_words w (Grammar.chain p m) = no_words w p

no_bang : {ts us : List Token} {p : RngPred} → Grammar.Prim prd (Sign Bang ∷ ts) p us → ⊥
no_bang (Grammar.compare p e q) = no_words bang p

no_power : {n : ℤ} {us vs : List Token} → us ≡ Sign StarStar ∷ Number n ∷ vs → 0 < next_height alg us → ⊥
no_power e h = let k : 0 < 0 = subst (λ ts. 0 < next_height alg ts) e h in omega arith

same_power : {t t' : Term} {n n' : ℤ} {us us' : List Token} →
    t ≡ t' → Sign StarStar ∷ Number n ∷ us ≡ Sign StarStar ∷ Number n' ∷ us' →
    Same alg (term.Pow t (Grammar.capped n)) us (term.Pow t' (Grammar.capped n')) us'
same_power {t = t} {t' = t'} {n = n} {n' = n'} e d =
    let f : n ≡ n' = cc in
    record { tree = ap (λ x. term.Pow x (Grammar.capped n)) e ∙ ap (λ m. term.Pow t' (Grammar.capped m)) f; rest = cc }

same_compare : {t t' u u' : RngTerm} {token token' : Token} {op op' : CmpOp} {vs vs' : List Token} →
    t ≡ t' → token ≡ token' → comparison_of token ≡ Some op → comparison_of token' ≡ Some op' → Same wrd u vs u' vs' →
    Same prd (Cmp op t u) vs (Cmp op' t' u') vs'
same_compare {t = t} {t' = t'} {u = u} {u' = u'} {token = token} {token' = token'} {op = op} {op' = op'} e f c c' r =
    let d : op ≡ op' = some_is c (ap comparison_of f ∙ c') in
    record {
      tree = ap (λ x. Cmp op x u) e ∙ (ap (λ x. Cmp op t' x) r.tree ∙ ap (λ x. Cmp x t' u') d);
      rest = r.rest;
    }

moved_chain : {ts ts' us : List Token} {t : RngTerm} → ts ≡ ts' → Grammar.Chain wrd 5 ts' t us → Grammar.Chain wrd 5 ts t us
moved_chain {us = us} {t = t} e p = subst (λ x. Grammar.Chain wrd 5 x t us) (sym e) p

pub one_operand : {ts us us' : List Token} {a a' : Atom} →
    Grammar.Operand ts a us → Grammar.Operand ts a' us' → (a ≡ a') × (us ≡ us')
one_operand Grammar.name Grammar.name = (refl, refl)
one_operand Grammar.literal Grammar.literal = (refl, refl)
one_operand (Grammar.negative h) (Grammar.negative k) = (refl, refl)

mutual
  pub one_chain : {s : Sort} {n : ℕ} {ts us us' : List Token} {t t' : Tree s} →
      Grammar.Chain s n ts t us → n < next_height s us → Grammar.Chain s n ts t' us' → n < next_height s us' → Same s t us t' us'
  one_chain (Grammar.factor p) h (Grammar.factor q) k = one_factor p h q k
  one_chain (Grammar.chain p m) h (Grammar.chain q w) k =
      let e = one_chain p (front m h) q (front w k) in one_more m h (along e.tree e.rest w) k

  pub one_more : {s : Sort} {n : ℕ} {ts us us' : List Token} {t u u' : Tree s} →
      Grammar.More s n t ts u us → suc n < next_height s us → Grammar.More s n t ts u' us' → suc n < next_height s us' → Same s u us u' us'
  one_more Grammar.stop h Grammar.stop k = record { tree = refl; rest = refl }
  one_more Grammar.stop h (Grammar.more e j c m) k = absurd (omega (arith, e))
  one_more (Grammar.more e j c m) h Grammar.stop k = absurd (omega (arith, e))
  one_more {t = t} (Grammar.more {token = token} e j c m) h (Grammar.more e' j' c' m') k =
      let r = one_chain c (front m h) c' (front m' k) in
      one_more m h (along_joint token t j j' r.tree r.rest m') k

  pub one_factor : {s : Sort} {ts us us' : List Token} {t t' : Tree s} →
      Grammar.Factor s ts t us → 0 < next_height s us → Grammar.Factor s ts t' us' → 0 < next_height s us' → Same s t us t' us'
  one_factor (Grammar.power p) h (Grammar.power q) k = one_powered p h q k
  one_factor (Grammar.power p) h (Grammar.minus_power q) k = absurd (no_minus p)
  one_factor (Grammar.minus_power p) h (Grammar.power q) k = absurd (no_minus q)
  one_factor (Grammar.minus_power p) h (Grammar.minus_power q) k =
      let e = one_powered p h q k in record { tree = ap term.Neg e.tree; rest = e.rest }
  one_factor (Grammar.word p) h (Grammar.word q) k = one_word p q
  one_factor (Grammar.word p) h (Grammar.minus_word n q) k = absurd (not_literal p n)
  one_factor (Grammar.word p) h (Grammar.flip_word q) k = absurd (no_flip p)
  one_factor (Grammar.minus_word n p) h (Grammar.word q) k = absurd (not_literal q n)
  one_factor (Grammar.minus_word n p) h (Grammar.minus_word n' q) k =
      let e = one_word p q in record { tree = ap range_term.Neg e.tree; rest = e.rest }
  one_factor (Grammar.flip_word p) h (Grammar.word q) k = absurd (no_flip q)
  one_factor (Grammar.flip_word p) h (Grammar.flip_word q) k =
      let e = one_word p q in record { tree = ap range_term.Flip e.tree; rest = e.rest }
  one_factor (Grammar.pred p) h (Grammar.pred q) k = one_pred p h q k
  one_factor (Grammar.pred p) h (Grammar.not_pred q) k = absurd (no_bang p)
  one_factor (Grammar.not_pred p) h (Grammar.pred q) k = absurd (no_bang q)
  one_factor (Grammar.not_pred p) h (Grammar.not_pred q) k =
      let e = one_pred p h q k in record { tree = ap range_pred.Not e.tree; rest = e.rest }

  pub one_powered : {ts us us' : List Token} {t t' : Term} →
      Grammar.Powered ts t us → 0 < next_height alg us → Grammar.Powered ts t' us' → 0 < next_height alg us' → Same alg t us t' us'
  one_powered (Grammar.plain p) h (Grammar.plain q) k = one_base p q
  one_powered (Grammar.plain p) h (Grammar.raised q) k =
      let e = one_base p q in absurd (no_power e.rest h)
  one_powered (Grammar.raised p) h (Grammar.plain q) k =
      let e = one_base p q in absurd (no_power (sym e.rest) k)
  one_powered (Grammar.raised p) h (Grammar.raised q) k =
      let e = one_base p q in same_power e.tree e.rest

  pub one_base : {ts us us' : List Token} {t t' : Term} → Grammar.Prim alg ts t us → Grammar.Prim alg ts t' us' → Same alg t us t' us'
  one_base Grammar.variable Grammar.variable = record { tree = refl; rest = refl }
  one_base Grammar.number Grammar.number = record { tree = refl; rest = refl }
  one_base (Grammar.bracket p) (Grammar.bracket q) =
      let e = one_chain p (omega arith) q (omega arith) in record { tree = e.tree; rest = tail_is e.rest }

  pub one_word : {ts us us' : List Token} {t t' : RngTerm} → Grammar.Prim wrd ts t us → Grammar.Prim wrd ts t' us' → Same wrd t us t' us'
  one_word (Grammar.operand o) (Grammar.operand o') =
      let e = one_operand o o' in record { tree = ap Leaf e.0; rest = e.1 }
  one_word (Grammar.operand o) (Grammar.word_bracket q) = absurd (no_open o)
  one_word (Grammar.operand o) (Grammar.cast q) = absurd (no_cast o)
  one_word (Grammar.word_bracket p) (Grammar.operand o) = absurd (no_open o)
  one_word (Grammar.word_bracket p) (Grammar.word_bracket q) =
      let e = one_chain p (omega arith) q (omega arith) in record { tree = e.tree; rest = tail_is e.rest }
  one_word (Grammar.cast p) (Grammar.operand o) = absurd (no_cast o)
  one_word (Grammar.cast {T = T} p) (Grammar.cast q) =
      let e = one_chain p (omega arith) q (omega arith) in record { tree = ap (range_term.Cast T) e.tree; rest = tail_is e.rest }

  pub one_pred : {ts us us' : List Token} {p p' : RngPred} →
      Grammar.Prim prd ts p us → 0 < next_height prd us → Grammar.Prim prd ts p' us' → 0 < next_height prd us' → Same prd p us p' us'
  one_pred Grammar.truth h Grammar.truth k = record { tree = refl; rest = refl }
  one_pred Grammar.truth h (Grammar.compare q e r) k = absurd (no_words truth q)
  one_pred Grammar.falsity h Grammar.falsity k = record { tree = refl; rest = refl }
  one_pred Grammar.falsity h (Grammar.compare q e r) k = absurd (no_words falsity q)
  one_pred (Grammar.square p) h (Grammar.square q) k =
      let e = one_chain p (omega arith) q (omega arith) in record { tree = e.tree; rest = tail_is e.rest }
  one_pred (Grammar.square p) h (Grammar.compare q e r) k = absurd (no_words square q)
  one_pred (Grammar.compare p e r) h Grammar.truth k = absurd (no_words truth p)
  one_pred (Grammar.compare p e r) h Grammar.falsity k = absurd (no_words falsity p)
  one_pred (Grammar.compare p e r) h (Grammar.square q) k = absurd (no_words square p)
  one_pred {us = vs} {us' = vs'} (Grammar.compare {token = a} {op = op} p e r) h (Grammar.compare {token = b} {op = op'} q e' r') k =
      let f = one_chain p (compare_ends a op e) q (compare_ends b op' e') in
      same_compare f.tree (head_is f.rest) e e' (one_chain r (word_ends vs h) (moved_chain (tail_is f.rest) r') (word_ends vs' k))
