-- From a reading of a tree: the canonical tokens of the tree are leaner than those that were read, and they read as it too,
-- whatever follows. One induction for the three kinds of trees.
use Rattle.std.proofs.Common.{◌≡◌, ℕ, zero, suc, ◌+◌, ◌-◌, ◌≤◌, List, [], ◌∷◌, ◌++◌, refl, sym, ap, subst, ◌∙◌, arith, append_assoc}
use Rattle.std.specs.Prelude.{ℤ, pos, negsuc, neg_ℤ, min, int_lt, ◌<ℤ◌, Bool, true, false, nat_le, if◌then◌else◌, Some}
use Rattle.std.proofs.lemmas.Int.{ints}
use Rattle.std.proofs.lemmas.Bool.{leb-true, le-leb, le-ltb}
use Rattle.tcl_lang.specs.declared.ty.Ty.{Ty}
use Rattle.tcl_lang.specs.declared.instr.Atom.{Atom}
use Rattle.tcl_lang.specs.declared.instr.Atom.TheVariants as atom
use Rattle.tcl_lang.specs.declared.instr.Op.TheVariants.{Cast}
use Rattle.tcl_lang.specs.declared.term.Term.{Term, Term-F, roll-Term, map-Term}
use Rattle.tcl_lang.specs.declared.term.Term.TheOpen as term_layer
use Rattle.tcl_lang.specs.declared.term.Term.TheViews as term
use Rattle.tcl_lang.specs.declared.term.Term.TheFolds.{fold-roll-Term}
use Rattle.tcl_lang.specs.declared.term.Term.TheVariants as term_roll
use Rattle.tcl_lang.specs.declared.range.RngOp.TheVariants as range_op
use Rattle.tcl_lang.specs.declared.range.CmpOp.{CmpOp}
use Rattle.tcl_lang.specs.declared.range.CmpOp.TheVariants as comparison
use Rattle.tcl_lang.specs.declared.range.RngTerm.{RngTerm, RngTerm-F, Leaf, roll-RngTerm, map-RngTerm}
use Rattle.tcl_lang.specs.declared.range.RngTerm.TheOpen as range_layer
use Rattle.tcl_lang.specs.declared.range.RngTerm.TheViews as range_term
use Rattle.tcl_lang.specs.declared.range.RngTerm.TheFolds.{fold-roll-RngTerm}
use Rattle.tcl_lang.specs.declared.range.RngTerm.TheVariants as range_roll
use Rattle.tcl_lang.specs.declared.range.RngPred.{RngPred, RngPred-F, Cmp, roll-RngPred, map-RngPred}
use Rattle.tcl_lang.specs.declared.range.RngPred.TheOpen as pred_layer
use Rattle.tcl_lang.specs.declared.range.RngPred.TheViews as range_pred
use Rattle.tcl_lang.specs.declared.range.RngPred.TheFolds.{fold-roll-RngPred}
use Rattle.tcl_lang.specs.declared.range.RngPred.TheVariants as pred_roll
use Rattle.tcl_text.specs.declared.operator.TermOp.TheVariants as term_op
use Rattle.tcl_text.specs.declared.operator.PredOp.TheVariants as pred_op
use Rattle.tcl_text.specs.declared.symbol.Symbol.{Symbol}
use Rattle.tcl_text.specs.declared.symbol.Symbol.TheVariants.{StarStar, AndAnd, BarBar, NotEqual, LessEqual, GreaterEqual, Plus, Minus, Star, Ampersand, Bar, Caret, Tilde, Equal, Less, Greater, Bang, Open, Close, OpenSquare, Comma, At as AtSign}
use Rattle.tcl_text.specs.declared.token.Token.{Token}
use Rattle.tcl_text.specs.declared.token.Token.TheVariants.{Number, Kind, Instruction, Sign}
use Rattle.tcl_text.specs.Trees.{Sort, alg, wrd, prd, Tree, Joint, height, joint_of, joined, comparison_of}
use Rattle.tcl_text.specs.Canonical.{atom_place}
use Rattle.tcl_text.specs.Grammar as grammar
use Rattle.tcl_text.specs.Grammar.{capped}
use Rattle.tcl_text.proofs.Shapes.{is_fit, Fit, fit_first, fit_rest}
use Rattle.tcl_report.specs.CanonicalTokens.{Written, opening, closing, bracketed, placed, chain_place, joint_symbol, comparison_symbol, joint_height, joint_written, signed_written, plain_written, power_written, literal_tokens, atom_tokens, term_written_step, range_written_step, range_written, pred_written_step, tree_written}
use Rattle.tcl_report.proofs.Leaner.{Plain, Leaner, none, plain, kept, both, around, without, kept_low, leaner_fit}

-- a chain with one operator more at its end
more_snoc : {s : Sort} {n : ℕ} {t u v : Tree s} {ts us vs : List Token} (token : Token) (o : Joint s) →
    grammar.More s n t ts u (token ∷ us) → height s token ≡ suc n → joint_of s token ≡ Some o →
    grammar.Chain s n us v vs → grammar.More s n t ts (joined s o u v) vs
more_snoc token o grammar.stop h j c = grammar.more h j c grammar.stop
more_snoc token o (grammar.more h' j' c' m) h j c = grammar.more h' j' c' (more_snoc token o m h j c)

chain_snoc : {s : Sort} {n : ℕ} {u v : Tree s} {ts us vs : List Token} (token : Token) (o : Joint s) →
    grammar.Chain s (suc n) ts u (token ∷ us) → height s token ≡ suc n → joint_of s token ≡ Some o →
    grammar.Chain s n us v vs → grammar.Chain s (suc n) ts (joined s o u v) vs
chain_snoc token o (grammar.chain c m) h j d = grammar.chain c (more_snoc token o m h j d)

-- what a tree at a place is read as; behind `-` a range term does not begin with a literal
abbrev pub At : (s : Sort) → ℕ → List Token → Tree s → List Token → Type 0
At alg zero ts t us = grammar.Prim alg ts t us
At alg (suc zero) ts t us = grammar.Powered ts t us
At alg (suc (suc n)) ts t us = grammar.Chain alg n ts t us
At wrd zero ts t us = grammar.NoLiteral ts × grammar.Prim wrd ts t us
At wrd (suc zero) ts t us = grammar.Prim wrd ts t us
At wrd (suc (suc n)) ts t us = grammar.Chain wrd n ts t us
At prd zero ts p us = grammar.Prim prd ts p us
At prd (suc n) ts p us = grammar.Chain prd n ts p us

looser : (s : Sort) (k : ℕ) (t : Tree s) (ts us : List Token) → At s k ts t us → At s (suc k) ts t us
looser alg zero t ts us p = grammar.plain p
looser alg (suc zero) t ts us p = grammar.factor (grammar.power p)
looser alg (suc (suc n)) t ts us c = grammar.chain c grammar.stop
looser wrd zero t ts us p = p.1
looser wrd (suc zero) t ts us p = grammar.factor (grammar.word p)
looser wrd (suc (suc n)) t ts us c = grammar.chain c grammar.stop
looser prd zero t ts us p = grammar.factor (grammar.pred p)
looser prd (suc n) t ts us c = grammar.chain c grammar.stop

climb : (s : Sort) (d k m : ℕ) (t : Tree s) (ts us : List Token) → d + k ≡ m → At s k ts t us → At s m ts t us
climb s zero k m t ts us e p = let same : k ≡ m = omega (arith, e) in subst (λ n. At s n ts t us) same p
climb s (suc d) k m t ts us e p = climb s d (suc k) m t ts us (omega (arith, e)) (looser s k t ts us p)

raised_to : (s : Sort) (k m : ℕ) (t : Tree s) (ts us : List Token) → k ≤ m → At s k ts t us → At s m ts t us
raised_to s k m t ts us h p = climb s (m - k) k m t ts us (omega (arith, h)) p

to_chain : (s : Sort) (n : ℕ) (t : Tree s) (ts us : List Token) → At s (chain_place s n) ts t us → grammar.Chain s n ts t us
to_chain alg n t ts us p = p
to_chain wrd n t ts us p = p
to_chain prd n t ts us p = p

of_chain : (s : Sort) (n : ℕ) {t : Tree s} {ts us : List Token} → grammar.Chain s n ts t us → At s (chain_place s n) ts t us
of_chain alg n p = p
of_chain wrd n p = p
of_chain prd n p = p

-- the loosest place, which stands in brackets
abbrev pub top_place : Sort → ℕ
top_place alg = 4
top_place wrd = 7
top_place prd = 3

enclosed : (s : Sort) (t : Tree s) (ts us : List Token) →
    At s (top_place s) ts t (Sign (closing s) ∷ us) → At s 0 (Sign (opening s) ∷ ts) t us
enclosed alg t ts us c = grammar.bracket c
enclosed wrd t ts us c = (tt, grammar.word_bracket c)
enclosed prd t ts us c = grammar.square c

-- a tree that was read at a place or a tighter one, by how it is written
pub record Canonical (s : Sort) (place : ℕ) (w : Written) (t : Tree s) (ts us : List Token) : Type 0 where
  pub low : w.own ≤ top_place s
  pub leaner : (m : ℕ) → place ≤ m → Leaner (placed s w m) us ts
  pub reads : (vs : List Token) → At s w.own (w.body ++ vs) t vs

-- its tokens at each place read as it
placed_by : (s : Sort) (w : Written) (m : ℕ) (b : Bool) (t : Tree s) → nat_le w.own m ≡ b → w.own ≤ top_place s →
    ((vs : List Token) → At s w.own (w.body ++ vs) t vs) → (vs : List Token) →
    At s m ((if b then w.body else bracketed s w.body) ++ vs) t vs
placed_by s w m true t e low reads vs = raised_to s w.own m t (w.body ++ vs) vs (leb-true w.own m e) (reads vs)
placed_by s w m false t e low reads vs =
    raised_to s 0 m t _ vs (omega arith)
    (enclosed s t _ vs (raised_to s w.own (top_place s) t _ (Sign (closing s) ∷ vs) low
    (subst (λ xs. At s w.own xs t (Sign (closing s) ∷ vs)) (sym (append_assoc w.body (Sign (closing s) ∷ []) vs))
    (reads (Sign (closing s) ∷ vs)))))

pub reads_at : {s : Sort} {k : ℕ} {w : Written} {t : Tree s} {ts us : List Token} → Canonical s k w t ts us → (m : ℕ) (vs : List Token) →
    At s m (placed s w m ++ vs) t vs
reads_at {s = s} {w = w} {t = t} c m vs = placed_by s w m (nat_le w.own m) t refl c.low c.reads vs

bare : (s : Sort) (w : Written) (m : ℕ) → w.own ≤ m → placed s w m ≡ w.body
bare s w m h = ap (λ b. if b then w.body else bracketed s w.body) (le-leb w.own m h)

wider : {s : Sort} {k m : ℕ} {w : Written} {t : Tree s} {ts us : List Token} → k ≤ m → Canonical s k w t ts us → Canonical s m w t ts us
wider {k = k} h c = record { low = c.low; leaner = λ n l. c.leaner n (omega (arith, h, l)); reads = c.reads }

-- a tree that stands without brackets where it was read
found : {s : Sort} {w : Written} {t : Tree s} {ts us : List Token} (k : ℕ) → w.own ≤ k → w.own ≤ top_place s → Leaner w.body us ts →
    ((vs : List Token) → At s w.own (w.body ++ vs) t vs) → Canonical s k w t ts us
found {s = s} {w = w} {ts = ts} {us = us} k h low l reads = record {
  low = low;
  leaner = λ m le. subst (λ cs. Leaner cs us ts) (sym (bare s w m (omega (arith, h, le)))) l;
  reads = reads;
}

-- a tree in brackets
in_brackets : {s : Sort} {w : Written} {t : Tree s} {ts us : List Token} (k : ℕ) → Canonical s k w t ts (Sign (closing s) ∷ us) → k ≤ top_place s →
    Canonical s 0 w t (Sign (opening s) ∷ ts) us
in_brackets {s = s} {w = w} {ts = ts} {us = us} k c h = record {
  low = c.low;
  leaner = λ m le. by (nat_le w.own m) (subst (λ cs. Leaner cs (Sign (closing s) ∷ us) ts) (bare s w (top_place s) c.low) (c.leaner (top_place s) h));
  reads = c.reads;
}
  where
    by : (b : Bool) → Leaner w.body (Sign (closing s) ∷ us) ts → Leaner (if b then w.body else bracketed s w.body) us (Sign (opening s) ∷ ts)
    by true l = without s l
    by false l = around s l

-- the trees by their layers
term_built : {k : ℕ} {t : Term} {ts us : List Token} (y : Term-F Term) → roll-Term y ≡ t →
    Canonical alg k (term_written_step (map-Term Term Written (tree_written alg) y)) t ts us → Canonical alg k (tree_written alg t) t ts us
term_built {k = k} {t = t} {ts = ts} {us = us} y e c =
    subst (λ w. Canonical alg k w t ts us) (sym (ap (tree_written alg) (sym e) ∙ fold-roll-Term Written term_written_step y)) c

range_built : {k : ℕ} {t : RngTerm} {ts us : List Token} (y : RngTerm-F RngTerm) → roll-RngTerm y ≡ t →
    Canonical wrd k (range_written_step (map-RngTerm RngTerm Written range_written y)) t ts us → Canonical wrd k (tree_written wrd t) t ts us
range_built {k = k} {t = t} {ts = ts} {us = us} y e c =
    subst (λ w. Canonical wrd k w t ts us) (sym (ap range_written (sym e) ∙ fold-roll-RngTerm Written range_written_step y)) c

pred_built : {k : ℕ} {p : RngPred} {ts us : List Token} (y : RngPred-F RngPred) → roll-RngPred y ≡ p →
    Canonical prd k (pred_written_step (map-RngPred RngPred Written (tree_written prd) y)) p ts us → Canonical prd k (tree_written prd p) p ts us
pred_built {k = k} {p = p} {ts = ts} {us = us} y e c =
    subst (λ w. Canonical prd k w p ts us) (sym (ap (tree_written prd) (sym e) ∙ fold-roll-RngPred Written pred_written_step y)) c

-- operators
joint_at : (s : Sort) (token : Token) (o : Joint s) → joint_of s token ≡ Some o → token ≡ Sign (joint_symbol s o)
joint_at alg (Sign Plus) term_op.Plus e = refl
joint_at alg (Sign Minus) term_op.Minus e = refl
joint_at alg (Sign Star) term_op.Times e = refl
joint_at alg token o e = absurd cc
joint_at wrd (Sign Plus) range_op.Add e = refl
joint_at wrd (Sign Minus) range_op.Sub e = refl
joint_at wrd (Sign Star) range_op.Mul e = refl
joint_at wrd (Sign Ampersand) range_op.And e = refl
joint_at wrd (Sign Bar) range_op.Or e = refl
joint_at wrd (Sign Caret) range_op.Xor e = refl
joint_at wrd token o e = absurd cc
joint_at prd (Sign AndAnd) pred_op.And e = refl
joint_at prd (Sign BarBar) pred_op.Or e = refl
joint_at prd token o e = absurd cc

-- an operator opens nothing, is read as it is written, and stands in brackets alone
record IsJoint (s : Sort) (o : Joint s) : Type 0 where
  plain : Plain (Sign (joint_symbol s o))
  is : joint_of s (Sign (joint_symbol s o)) ≡ Some o
  low : chain_place s (joint_height s o) ≤ top_place s

joint_is : (s : Sort) (o : Joint s) → IsJoint s o
joint_is alg term_op.Plus = record { plain = λ d. refl; is = refl; low = omega arith }
joint_is alg _ = record { plain = λ d. refl; is = refl; low = omega arith }
joint_is wrd range_op.Add = record { plain = λ d. refl; is = refl; low = omega arith }
joint_is wrd _ = record { plain = λ d. refl; is = refl; low = omega arith }
joint_is prd pred_op.And = record { plain = λ d. refl; is = refl; low = omega arith }
joint_is prd pred_op.Or = record { plain = λ d. refl; is = refl; low = omega arith }

joint_tree : (s : Sort) (o : Joint s) (t u : Tree s) →
    tree_written s (joined s o t u) ≡ joint_written s o (tree_written s t) (tree_written s u)
joint_tree alg term_op.Plus t u = ap (tree_written alg) (sym (term_roll.rolls-Add t u)) ∙ fold-roll-Term Written term_written_step (term_layer.Add t u)
joint_tree alg term_op.Minus t u = ap (tree_written alg) (sym (term_roll.rolls-Sub t u)) ∙ fold-roll-Term Written term_written_step (term_layer.Sub t u)
joint_tree alg term_op.Times t u = ap (tree_written alg) (sym (term_roll.rolls-Mul t u)) ∙ fold-roll-Term Written term_written_step (term_layer.Mul t u)
joint_tree wrd o t u = ap range_written (sym (range_roll.rolls-Bin o t u)) ∙ fold-roll-RngTerm Written range_written_step (range_layer.Bin o t u)
joint_tree prd pred_op.And p q = ap (tree_written prd) (sym (pred_roll.rolls-Both p q)) ∙ fold-roll-RngPred Written pred_written_step (pred_layer.Both p q)
joint_tree prd pred_op.Or p q = ap (tree_written prd) (sym (pred_roll.rolls-Either p q)) ∙ fold-roll-RngPred Written pred_written_step (pred_layer.Either p q)

-- an operator of height n + 1 between its sides
joint_found : {s : Sort} {w v : Written} {t u : Tree s} {ts us vs : List Token} (o : Joint s) (n : ℕ) → joint_height s o ≡ suc n →
    Canonical s (chain_place s (suc n)) w t ts (Sign (joint_symbol s o) ∷ us) → Canonical s (chain_place s n) v u us vs →
    Canonical s (chain_place s (suc n)) (joint_written s o w v) (joined s o t u) ts vs
joint_found {s = s} {w = w} {v = v} {t = t} {u = u} {ts = ts} {us = us} {vs = vs} o n e c d =
    let x = Sign (joint_symbol s o) in
    let low : chain_place s (suc n) ≤ top_place s = subst (λ h. chain_place s h ≤ top_place s) e (joint_is s o).low in
    let below : n ≡ suc n - 1 = omega arith in
    let body : ℕ → ℕ → List Token = λ m k. placed s w m ++ (x ∷ placed s v k) in
    subst (λ h. Canonical s (chain_place s (suc n)) (record { own = chain_place s h; body = body (chain_place s h) (chain_place s (h - 1)) }) (joined s o t u) ts vs) (sym e)
    (subst (λ k. Canonical s (chain_place s (suc n)) (record { own = chain_place s (suc n); body = body (chain_place s (suc n)) (chain_place s k) }) (joined s o t u) ts vs) below
    (found (chain_place s (suc n)) (omega arith) low
    (both (c.leaner (chain_place s (suc n)) (omega arith)) (plain (joint_is s o).plain (d.leaner (chain_place s n) (omega arith))))
    (λ zs. subst (λ xs. At s (chain_place s (suc n)) xs (joined s o t u) zs) (sym (append_assoc (placed s w (chain_place s (suc n))) (x ∷ placed s v (chain_place s n)) zs))
    (of_chain s (suc n)
    (chain_snoc x o (to_chain s (suc n) t _ _ (reads_at c (chain_place s (suc n)) (x ∷ (placed s v (chain_place s n) ++ zs)))) e (joint_is s o).is
    (to_chain s n u _ zs (reads_at d (chain_place s n) zs)))))))

-- a sign before a tree
factor_low : (s : Sort) → chain_place s 0 ≤ top_place s
factor_low alg = omega arith
factor_low wrd = omega arith
factor_low prd = omega arith

signed_found : {s : Sort} {w : Written} {t : Tree s} {ts us : List Token} (symbol : Symbol) (place : ℕ) (u : Tree s) → Plain (Sign symbol) → Canonical s place w t ts us →
    ((vs : List Token) → At s place (placed s w place ++ vs) t vs → grammar.Factor s (Sign symbol ∷ (placed s w place ++ vs)) u vs) →
    Canonical s (chain_place s 0) (signed_written s symbol place w) u (Sign symbol ∷ ts) us
signed_found {s = s} symbol place u p c reads =
    found (chain_place s 0) (omega arith) (factor_low s) (plain p (c.leaner place (omega arith)))
    (λ vs. of_chain s 0 (grammar.factor (reads vs (reads_at c place vs))))

-- comparisons
comparison_at : (token : Token) (op : CmpOp) → comparison_of token ≡ Some op → token ≡ Sign (comparison_symbol op)
comparison_at (Sign Equal) comparison.Eq e = refl
comparison_at (Sign NotEqual) comparison.Ne e = refl
comparison_at (Sign Less) comparison.Lt e = refl
comparison_at (Sign LessEqual) comparison.Le e = refl
comparison_at (Sign Greater) comparison.Gt e = refl
comparison_at (Sign GreaterEqual) comparison.Ge e = refl
comparison_at token op e = absurd cc

compared : (op : CmpOp) → comparison_of (Sign (comparison_symbol op)) ≡ Some op
compared comparison.Eq = refl
compared _ = refl

comparison_plain : (op : CmpOp) → Plain (Sign (comparison_symbol op))
comparison_plain comparison.Eq d = refl
comparison_plain _ d = refl

compare_found : {w v : Written} {t u : RngTerm} {ts us vs : List Token} (op : CmpOp) → w ≡ range_written t → v ≡ range_written u →
    Canonical wrd 7 w t ts (Sign (comparison_symbol op) ∷ us) → Canonical wrd 7 v u us vs →
    Canonical prd 0 (plain_written (placed wrd w 7 ++ (Sign (comparison_symbol op) ∷ placed wrd v 7))) (Cmp op t u) ts vs
compare_found {w = w} {v = v} {t = t} {u = u} op e f c d =
    let x = Sign (comparison_symbol op) in
    found 0 (omega arith) (omega arith)
    (both (c.leaner 7 (omega arith)) (plain (comparison_plain op) (d.leaner 7 (omega arith))))
    (λ zs. subst (λ xs. grammar.Prim prd xs (Cmp op t u) zs) (sym (append_assoc (placed wrd w 7) (x ∷ placed wrd v 7) zs))
    (grammar.compare (reads_at c 7 (x ∷ (placed wrd v 7 ++ zs))) (compared op) (reads_at d 7 zs)))

-- operands: a literal from 0 has the place behind `~`, all others that behind `-`
pub record OperandFound (place : ℕ) (tokens : List Token) (a : Atom) (ts us : List Token) : Type 0 where
  pub leaner : Leaner tokens us ts
  pub reads : (vs : List Token) → At wrd place (tokens ++ vs) (Leaf a) vs
  pub operand : (vs : List Token) → grammar.Operand (tokens ++ vs) a vs
  pub low : place ≤ 1

literal_found : {us : List Token} (T : Ty) (n : ℤ) → is_fit (Number n) ≡ true →
    OperandFound (atom_place (atom.Lit T n)) (atom_tokens (atom.Lit T n)) (atom.Lit T n) (Number n ∷ Sign AtSign ∷ Kind T ∷ us) us
literal_found {us = us} T (pos k) f =
    let e : int_lt (pos k) (pos 0) ≡ false = le-ltb k 0 (omega arith) in
    subst (λ b. OperandFound (if b then 0 else 1) (literal_tokens b (pos k) (Sign AtSign ∷ (Kind T ∷ []))) (atom.Lit T (pos k))
    (Number (pos k) ∷ Sign AtSign ∷ Kind T ∷ us) us) (sym e) (record {
      leaner = plain (λ d. refl) (plain (λ d. refl) (plain (λ d. refl) none));
      reads = λ vs. grammar.operand grammar.literal;
      operand = λ vs. grammar.literal;
      low = omega arith;
    })
literal_found T (negsuc k) f = absurd cc

negative_found : {us : List Token} (T : Ty) (n : ℤ) → pos 0 <ℤ n →
    OperandFound (atom_place (atom.Lit T (neg_ℤ n))) (atom_tokens (atom.Lit T (neg_ℤ n))) (atom.Lit T (neg_ℤ n))
    (Sign Minus ∷ Number n ∷ Sign AtSign ∷ Kind T ∷ us) us
negative_found T (pos zero) h = absurd (omega (arith, ints))
negative_found T (pos (suc k)) h = record {
  leaner = plain (λ d. refl) (plain (λ d. refl) (plain (λ d. refl) (plain (λ d. refl) none)));
  reads = λ vs. (tt, grammar.operand (grammar.negative h));
  operand = λ vs. grammar.negative h;
  low = omega arith;
}
negative_found T (negsuc k) h = absurd (omega (arith, ints))

pub operand_found : {ts us : List Token} {a : Atom} → grammar.Operand ts a us → Fit ts → OperandFound (atom_place a) (atom_tokens a) a ts us
operand_found grammar.name f = record {
  leaner = plain (λ d. refl) none;
  reads = λ vs. (tt, grammar.operand grammar.name);
  operand = λ vs. grammar.name;
  low = omega arith;
}
operand_found (grammar.literal {n = n} {T = T} {us = us}) f = literal_found T n (fit_first (Number n) (Sign AtSign ∷ Kind T ∷ us) f)
operand_found (grammar.negative {n = n} {T = T} h) f = negative_found T n h

plain_place : {ts us : List Token} {a : Atom} → grammar.NoLiteral ts → grammar.Operand ts a us → atom_place a ≤ 0
plain_place n grammar.name = omega arith
plain_place n grammar.literal = absurd n
plain_place n (grammar.negative {n = m} h) = below m h
  where
    below : (m : ℤ) → pos 0 <ℤ m → (if int_lt (neg_ℤ m) (pos 0) then 0 else 1) ≤ 0
    below (pos zero) h = absurd (omega (arith, ints))
    below (pos (suc m)) h = omega arith
    below (negsuc m) h = absurd (omega (arith, ints))

leaf_found : {ts us : List Token} {a : Atom} (k : ℕ) → grammar.Operand ts a us → Fit ts → atom_place a ≤ k →
    Canonical wrd k (tree_written wrd (Leaf a)) (Leaf a) ts us
leaf_found {a = a} k o f h =
    let r = operand_found o f in
    let low = r.low in
    range_built (range_layer.Leaf a) (range_roll.rolls-Leaf a) (found k h (omega (arith, low)) r.leaner r.reads)

cast_found : {ts us : List Token} {w : Written} {t : RngTerm} (T : Ty) → w ≡ range_written t → Canonical wrd 7 w t ts (Sign Close ∷ us) →
    Canonical wrd 0 (tree_written wrd (range_term.Cast T t)) (range_term.Cast T t) (Instruction Cast ∷ Sign Open ∷ Kind T ∷ Sign Comma ∷ ts) us
cast_found {ts = ts} {us = us} {w = w} {t = t} T e c =
    range_built (range_layer.Cast T t) (range_roll.rolls-Cast T t)
    (subst (λ w. Canonical wrd 0 (plain_written (Instruction Cast ∷ (Sign Open ∷ (Kind T ∷ (Sign Comma ∷ (placed wrd w 7 ++ (Sign Close ∷ [])))))))
    (range_term.Cast T t) (Instruction Cast ∷ Sign Open ∷ Kind T ∷ Sign Comma ∷ ts) us) e
    (found 0 (omega arith) (omega arith)
    (plain (λ d. refl) (around wrd (plain (λ d. refl) (plain (λ d. refl) (c.leaner 7 (omega arith))))))
    (λ vs. (
      tt,
      grammar.cast (subst (λ xs. grammar.Chain wrd 5 xs t (Sign Close ∷ vs)) (sym (append_assoc (placed wrd w 7) (Sign Close ∷ []) vs))
          (reads_at c 7 (Sign Close ∷ vs))),
    ))))

pub capped_kept : (k : ℕ) → k ≤ 4294967295 → capped (pos k) ≡ k
capped_kept k h = ap (λ b. if b then 0 else min k 4294967295) (le-ltb k 0 (omega arith)) ∙ least k h
  where
    least : (k : ℕ) → k ≤ 4294967295 → min k 4294967295 ≡ k
    least k h = grind arith

power_found : {ts us : List Token} {w : Written} {t : Term} (n : ℤ) → Canonical alg 0 w t ts (Sign StarStar ∷ Number n ∷ us) →
    Canonical alg 1 (power_written w (capped n)) (term.Pow t (capped n)) ts us
power_found {w = w} {t = t} n c =
    let k = capped n in
    let tail = Sign StarStar ∷ (Number (pos k) ∷ []) in
    found 1 (omega arith) (omega arith) (both (c.leaner 0 (omega arith)) (plain (λ d. refl) (kept none)))
    (λ vs. subst (λ xs. grammar.Powered xs (term.Pow t k) vs) (sym (append_assoc (placed alg w 0) tail vs))
    (subst (λ m. grammar.Powered (placed alg w 0 ++ (Sign StarStar ∷ (Number (pos k) ∷ vs))) (term.Pow t m) vs) (capped_kept k (kept_low n))
    (grammar.raised (reads_at c 0 (Sign StarStar ∷ (Number (pos k) ∷ vs))))))

-- the places of what is read
abbrev pub prim_place : Sort → ℕ
prim_place alg = 0
prim_place wrd = 1
prim_place prd = 0

next_place : (s : Sort) (n : ℕ) → chain_place s n ≤ chain_place s (suc n)
next_place alg n = omega arith
next_place wrd n = omega arith
next_place prd n = omega arith

behind_cast : (T : Ty) (ts : List Token) → Fit (Instruction Cast ∷ Sign Open ∷ Kind T ∷ Sign Comma ∷ ts) → Fit ts
behind_cast T ts f =
    fit_rest (Sign Comma) ts (fit_rest (Kind T) (Sign Comma ∷ ts)
    (fit_rest (Sign Open) (Kind T ∷ Sign Comma ∷ ts) (fit_rest (Instruction Cast) (Sign Open ∷ Kind T ∷ Sign Comma ∷ ts) f)))

abbrev pub Found : (s : Sort) → ℕ → Tree s → List Token → List Token → Type 0
Found s k t ts us = Canonical s k (tree_written s t) t ts us

mutual
  pub chain_found : {s : Sort} {n : ℕ} {ts us : List Token} {t : Tree s} → grammar.Chain s n ts t us → Fit ts → Found s (chain_place s n) t ts us
  chain_found (grammar.factor p) f = factor_found p f
  chain_found {s = s} {n = suc n} {ts = ts} (grammar.chain {us = us} p m) f =
      let c = chain_found p f in more_found m (wider (next_place s n) c) (leaner_fit (c.leaner (chain_place s n) (omega arith)) f).1

  more_found : {s : Sort} {n : ℕ} {ts us vs : List Token} {t u : Tree s} → grammar.More s n t us u vs →
      Found s (chain_place s (suc n)) t ts us → Fit us → Found s (chain_place s (suc n)) u ts vs
  more_found grammar.stop c f = c
  more_found {s = s} {n = n} {ts = ts} {t = t} (grammar.more {token = token} {o = o} {ts = us} {us = vs} {u = u} g j p m) c f =
      let same = joint_at s token o j in
      let d = chain_found p (fit_rest token us f) in
      let e : joint_height s o ≡ suc n = ap (height s) (sym same) ∙ g in
      more_found m
      (subst (λ w. Canonical s (chain_place s (suc n)) w (joined s o t u) ts vs) (sym (joint_tree s o t u))
      (joint_found o n e (subst (λ x. Found s (chain_place s (suc n)) t ts (x ∷ us)) same c) d))
      (leaner_fit (d.leaner (chain_place s n) (omega arith)) (fit_rest token us f)).1

  factor_found : {s : Sort} {ts us : List Token} {t : Tree s} → grammar.Factor s ts t us → Fit ts → Found s (chain_place s 0) t ts us
  factor_found (grammar.power p) f = wider (omega arith) (powered_found p f)
  factor_found (grammar.minus_power {ts = ts} {t = t} p) f =
      term_built (term_layer.Neg t) (term_roll.rolls-Neg t)
      (signed_found Minus 1 (term.Neg t) (λ d. refl) (powered_found p (fit_rest (Sign Minus) ts f)) (λ vs r. grammar.minus_power r))
  factor_found (grammar.word p) f = wider (omega arith) (prim_found p f)
  factor_found (grammar.minus_word {ts = ts} {t = t} n p) f =
      range_built (range_layer.Neg t) (range_roll.rolls-Neg t)
      (signed_found Minus 0 (range_term.Neg t) (λ d. refl) (plain_found n p (fit_rest (Sign Minus) ts f)) (λ vs r. grammar.minus_word r.0 r.1))
  factor_found (grammar.flip_word {ts = ts} {t = t} p) f =
      range_built (range_layer.Flip t) (range_roll.rolls-Flip t)
      (signed_found Tilde 1 (range_term.Flip t) (λ d. refl) (prim_found p (fit_rest (Sign Tilde) ts f)) (λ vs r. grammar.flip_word r))
  factor_found (grammar.pred p) f = wider (omega arith) (prim_found p f)
  factor_found (grammar.not_pred {ts = ts} {p = q} p) f =
      pred_built (pred_layer.Not q) (pred_roll.rolls-Not q)
      (signed_found Bang 0 (range_pred.Not q) (λ d. refl) (prim_found p (fit_rest (Sign Bang) ts f)) (λ vs r. grammar.not_pred r))

  powered_found : {ts us : List Token} {t : Term} → grammar.Powered ts t us → Fit ts → Found alg 1 t ts us
  powered_found (grammar.plain p) f = wider (omega arith) (prim_found p f)
  powered_found (grammar.raised {t = t} {n = n} p) f =
      term_built (term_layer.Pow t (capped n)) (term_roll.rolls-Pow t (capped n)) (power_found n (prim_found p f))

  prim_found : {s : Sort} {ts us : List Token} {t : Tree s} → grammar.Prim s ts t us → Fit ts → Found s (prim_place s) t ts us
  prim_found (grammar.variable {x = x}) f =
      term_built (term_layer.Var x) (term_roll.rolls-Var x) (found 0 (omega arith) (omega arith) (plain (λ d. refl) none) (λ vs. grammar.variable))
  prim_found (grammar.number {n = n}) f =
      term_built (term_layer.Num n) (term_roll.rolls-Num n) (found 0 (omega arith) (omega arith) (plain (λ d. refl) none) (λ vs. grammar.number))
  prim_found (grammar.bracket {ts = ts} p) f = in_brackets 4 (chain_found p (fit_rest (Sign Open) ts f)) (omega arith)
  prim_found (grammar.operand o) f = let low = (operand_found o f).low in leaf_found 1 o f (omega (arith, low))
  prim_found (grammar.word_bracket {ts = ts} p) f =
      wider (omega arith) (in_brackets 7 (chain_found p (fit_rest (Sign Open) ts f)) (omega arith))
  prim_found (grammar.cast {T = T} {ts = ts} p) f =
      wider (omega arith) (cast_found T refl (chain_found p (behind_cast T ts f)))
  prim_found grammar.truth f =
      pred_built pred_layer.True pred_roll.rolls-True (found 0 (omega arith) (omega arith) (plain (λ d. refl) none) (λ vs. grammar.truth))
  prim_found grammar.falsity f =
      pred_built pred_layer.False pred_roll.rolls-False (found 0 (omega arith) (omega arith) (plain (λ d. refl) none) (λ vs. grammar.falsity))
  prim_found (grammar.square {ts = ts} p) f = in_brackets 3 (chain_found p (fit_rest (Sign OpenSquare) ts f)) (omega arith)
  prim_found (grammar.compare {token = token} {op = op} {ts = ts} {us = us} {t = t} {u = u} p g q) f =
      let same = comparison_at token op g in
      let c = chain_found p f in
      let d = chain_found q (fit_rest token us (leaner_fit (c.leaner 7 (omega arith)) f).1) in
      pred_built (pred_layer.Cmp op t u) (pred_roll.rolls-Cmp op t u)
      (compare_found op refl refl (subst (λ x. Found wrd 7 t ts (x ∷ us)) same c) d)

  -- behind `-`
  plain_found : {ts us : List Token} {t : RngTerm} → grammar.NoLiteral ts → grammar.Prim wrd ts t us → Fit ts → Found wrd 0 t ts us
  plain_found n (grammar.operand o) f = leaf_found 0 o f (plain_place n o)
  plain_found n (grammar.word_bracket {ts = ts} p) f = in_brackets 7 (chain_found p (fit_rest (Sign Open) ts f)) (omega arith)
  plain_found n (grammar.cast {T = T} {ts = ts} p) f = cast_found T refl (chain_found p (behind_cast T ts f))
