-- The grammar of terms and predicates, by cases on lists of tokens. `Chain s n ts t us`: the tokens ts begin with the tree
-- t, in which operators up to height n stand outside brackets, and us follow.
use Rattle.std.specs.Prelude.{◌≡◌, ℕ, zero, suc, min, ℤ, pos, ◌<ℤ◌, neg_ℤ, int_lt, unsigned_abs, if◌then◌else◌, List, ◌∷◌, Some}
use Rattle.tcl_lang.specs.declared.ty.Ty.{Ty}
use Rattle.tcl_lang.specs.declared.instr.Atom.{Atom}
use Rattle.tcl_lang.specs.declared.instr.Atom.TheVariants.{Var, Lit}
use Rattle.tcl_lang.specs.declared.instr.Op.TheVariants.{Cast}
use Rattle.tcl_lang.specs.declared.range.CmpOp.{CmpOp}
use Rattle.tcl_lang.specs.declared.term.Term.{Term, Var as TermVar, Num as TermNum}
use Rattle.tcl_lang.specs.declared.term.Term.TheViews as term
use Rattle.tcl_lang.specs.declared.range.RngTerm.{RngTerm, Leaf}
use Rattle.tcl_lang.specs.declared.range.RngTerm.TheViews as range_term
use Rattle.tcl_lang.specs.declared.range.RngPred.{RngPred, True as Truth, False as Falsity, Cmp}
use Rattle.tcl_lang.specs.declared.range.RngPred.TheViews as range_pred
use Rattle.tcl_text.specs.declared.symbol.Symbol.TheVariants.{StarStar, Minus, Tilde, Bang, Open, Close, OpenSquare, CloseSquare, Comma, At}
use Rattle.tcl_text.specs.declared.token.Keyword.TheVariants.{True, False}
use Rattle.tcl_text.specs.declared.token.Token.{Token}
use Rattle.tcl_text.specs.declared.token.Token.TheVariants.{Name, Number, Kind, Instruction, Reserved, Sign}
use Rattle.tcl_text.specs.Trees.{Sort, alg, wrd, prd, Tree, Joint, height, joint_of, joined, comparison_of}

-- an exponent or an amount is kept up to 2 ^ 32 - 1
abbrev pub capped : ℤ → ℕ
capped n = if int_lt n (pos 0) then 0 else min (unsigned_abs n) 4294967295

-- an operand: a name, a literal `n @ T`, or `- n @ T` with n from 1
pub data Operand : List Token → Atom → List Token → Type 0 where
  name : {x : ℕ} {us : List Token} → Operand (Name x ∷ us) (Var x) us
  literal : {n : ℤ} {T : Ty} {us : List Token} → Operand (Number n ∷ Sign At ∷ Kind T ∷ us) (Lit T n) us
  negative : {n : ℤ} {T : Ty} {us : List Token} →
      pos 0 <ℤ n → Operand (Sign Minus ∷ Number n ∷ Sign At ∷ Kind T ∷ us) (Lit T (neg_ℤ n)) us

-- the tokens do not begin with a number and `@`
abbrev pub NoLiteral : List Token → Type 0
NoLiteral (Number n ∷ Sign At ∷ ts) = ⊥
NoLiteral _ = Unit {0}

mutual
  -- a chain of operators of height n + 1 over chains of height n, and from its first part on
  pub data Chain : (s : Sort) → ℕ → List Token → Tree s → List Token → Type 0 where
    factor : {s : Sort} {ts us : List Token} {t : Tree s} → Factor s ts t us → Chain s zero ts t us
    chain : {s : Sort} {n : ℕ} {ts us vs : List Token} {t u : Tree s} →
        Chain s n ts t us → More s n t us u vs → Chain s (suc n) ts u vs

  -- what stands to the right of the tree t makes the tree u
  pub data More : (s : Sort) → ℕ → Tree s → List Token → Tree s → List Token → Type 0 where
    stop : {s : Sort} {n : ℕ} {ts : List Token} {t : Tree s} → More s n t ts t ts
    more : {s : Sort} {n : ℕ} {token : Token} {o : Joint s} {ts us vs : List Token} {t u v : Tree s} →
        height s token ≡ suc n → joint_of s token ≡ Some o → Chain s n ts u us → More s n (joined s o t u) us v vs →
        More s n t (token ∷ ts) v vs

  -- a factor with its sign
  pub data Factor : (s : Sort) → List Token → Tree s → List Token → Type 0 where
    power : {ts us : List Token} {t : Term} → Powered ts t us → Factor alg ts t us
    minus_power : {ts us : List Token} {t : Term} → Powered ts t us → Factor alg (Sign Minus ∷ ts) (term.Neg t) us
    word : {ts us : List Token} {t : RngTerm} → Prim wrd ts t us → Factor wrd ts t us
    minus_word : {ts us : List Token} {t : RngTerm} →
        NoLiteral ts → Prim wrd ts t us → Factor wrd (Sign Minus ∷ ts) (range_term.Neg t) us
    flip_word : {ts us : List Token} {t : RngTerm} → Prim wrd ts t us → Factor wrd (Sign Tilde ∷ ts) (range_term.Flip t) us
    pred : {ts us : List Token} {p : RngPred} → Prim prd ts p us → Factor prd ts p us
    not_pred : {ts us : List Token} {p : RngPred} → Prim prd ts p us → Factor prd (Sign Bang ∷ ts) (range_pred.Not p) us

  -- an algebraic primary with at most one exponent
  pub data Powered : List Token → Term → List Token → Type 0 where
    plain : {ts us : List Token} {t : Term} → Prim alg ts t us → Powered ts t us
    raised : {ts us : List Token} {t : Term} {n : ℤ} →
        Prim alg ts t (Sign StarStar ∷ Number n ∷ us) → Powered ts (term.Pow t (capped n)) us

  -- a name, a number, a literal, a comparison, a truth value, or a tree in brackets
  pub data Prim : (s : Sort) → List Token → Tree s → List Token → Type 0 where
    variable : {x : ℕ} {us : List Token} → Prim alg (Name x ∷ us) (TermVar x) us
    number : {n : ℤ} {us : List Token} → Prim alg (Number n ∷ us) (TermNum n) us
    bracket : {ts us : List Token} {t : Term} →
        Chain alg 2 ts t (Sign Close ∷ us) → Prim alg (Sign Open ∷ ts) t us
    operand : {ts us : List Token} {a : Atom} → Operand ts a us → Prim wrd ts (Leaf a) us
    word_bracket : {ts us : List Token} {t : RngTerm} →
        Chain wrd 5 ts t (Sign Close ∷ us) → Prim wrd (Sign Open ∷ ts) t us
    cast : {T : Ty} {ts us : List Token} {t : RngTerm} →
        Chain wrd 5 ts t (Sign Close ∷ us) →
        Prim wrd (Instruction Cast ∷ Sign Open ∷ Kind T ∷ Sign Comma ∷ ts) (range_term.Cast T t) us
    truth : {us : List Token} → Prim prd (Reserved True ∷ us) Truth us
    falsity : {us : List Token} → Prim prd (Reserved False ∷ us) Falsity us
    square : {ts us : List Token} {p : RngPred} →
        Chain prd 2 ts p (Sign CloseSquare ∷ us) → Prim prd (Sign OpenSquare ∷ ts) p us
    compare : {token : Token} {op : CmpOp} {ts us vs : List Token} {t u : RngTerm} →
        Chain wrd 5 ts t (token ∷ us) → comparison_of token ≡ Some op → Chain wrd 5 us u vs →
        Prim prd ts (Cmp op t u) vs
