-- What the readers of trees answer. The grammar is a relation between the tokens of a line, a tree that they begin with, and
-- the tokens behind it; where no operator goes on behind the tree, there is at most one.
use Rattle.std.specs.Prelude.{◌≡◌, ℕ, ◌<◌, List, ◌∷◌, Option, Some, Result, IfOk, IfSome, MatchOption}
use Rattle.tcl_lang.specs.declared.instr.Atom.{Atom}
use Rattle.tcl_lang.specs.declared.range.CmpOp.{CmpOp}
use Rattle.tcl_lang.specs.declared.range.RngTerm.{RngTerm}
use Rattle.tcl_lang.specs.declared.range.RngPred.{RngPred, True as Truth, False as Falsity, Cmp}
use Rattle.tcl_text.specs.declared.token.Keyword.TheVariants.{True, False}
use Rattle.tcl_text.specs.declared.token.Token.{Token}
use Rattle.tcl_text.specs.declared.token.Token.TheVariants.{Reserved, Sign}
use Rattle.tcl_text.specs.declared.symbol.Symbol.{Symbol}
use Rattle.tcl_text.specs.Trees.{Sort, wrd, Tree, Joint, height, next_height, joint_of, comparison_of}
use Rattle.tcl_text.specs.Grammar.{Chain, Operand}

-- out of memory, or what is said where nothing is found and of what is found
abbrev pub Found : {A E : Type 0} → Result (Option A) E → Type 0 → (A → Type 0) → Type 0
Found result none some = IfOk result (λ answer. MatchOption answer none some)

-- what is said of what is found
abbrev pub OnFound : {A E : Type 0} → Result (Option A) E → (A → Type 0) → Type 0
OnFound result some = IfOk result (λ answer. IfSome answer some)

-- the tokens have no reading of one kind
abbrev pub NoReading : (s : Sort) → (List Token → Tree s → List Token → Type 0) → List Token → Type 0
NoReading s Reads ts = (t : Tree s) (us : List Token) → Reads ts t us → ⊥

-- a reading of one kind, behind which no operator up to this height goes on
pub record Ends (s : Sort) (n : ℕ) (Reads : List Token → Tree s → List Token → Type 0)
    (ts : List Token) (t : Tree s) (us : List Token) : Type 0 where
  pub reads : Reads ts t us
  pub stops : n < next_height s us

-- the tokens have no such reading
abbrev pub NoEnd : (s : Sort) → ℕ → (List Token → Tree s → List Token → Type 0) → List Token → Type 0
NoEnd s n Reads ts = NoReading s (Ends s n Reads) ts

-- the tokens begin with the tree, in which operators up to height n stand outside brackets, and which none of them goes on with
abbrev pub IsRead : (s : Sort) → ℕ → List Token → Tree s → List Token → Type 0
IsRead s n = Ends s n (Chain s n)

-- the tokens begin with no such tree
abbrev pub NoneRead : (s : Sort) → ℕ → List Token → Type 0
NoneRead s n = NoEnd s n (Chain s n)

-- the tokens begin with no operand
abbrev pub NoOperand : List Token → Type 0
NoOperand ts = (a : Atom) (us : List Token) → Operand ts a us → ⊥

-- the tokens do not begin with this symbol
abbrev pub NoSign : Symbol → List Token → Type 0
NoSign symbol ts = (us : List Token) → ts ≡ Sign symbol ∷ us → ⊥

-- the tokens begin with an operator of this height
pub record IsOperator (s : Sort) (n : ℕ) (ts : List Token) (o : Joint s) (us : List Token) : Type 0 where
  pub token : Token
  pub first : ts ≡ token ∷ us
  pub tall : height s token ≡ n
  pub joint : joint_of s token ≡ Some o

-- no operator of this height goes on
abbrev pub NoOperator : (s : Sort) → ℕ → List Token → Type 0
NoOperator s n ts = (o : Joint s) (us : List Token) → IsOperator s n ts o us → ⊥

-- a truth value
pub data IsTruth : List Token → RngPred → List Token → Type 0 where
  truth : {us : List Token} → IsTruth (Reserved True ∷ us) Truth us
  falsity : {us : List Token} → IsTruth (Reserved False ∷ us) Falsity us

-- a comparison of range terms
pub data IsComparison : List Token → RngPred → List Token → Type 0 where
  compare : {token : Token} {op : CmpOp} {ts us vs : List Token} {t u : RngTerm} →
      Chain wrd 5 ts t (token ∷ us) → comparison_of token ≡ Some op → Chain wrd 5 us u vs → IsComparison ts (Cmp op t u) vs
