-- The grammar of a line, by cases on its list of tokens.
use Rattle.std.specs.Prelude.{ℕ, zero, suc, ℤ, Bool, true, false, List, [], ◌∷◌, Some, None}
use Rattle.tcl_lang.specs.declared.ty.Ty.{Ty}
use Rattle.tcl_lang.specs.declared.instr.Atom.{Atom}
use Rattle.tcl_lang.specs.declared.instr.Op.{Op}
use Rattle.tcl_lang.specs.declared.instr.Instr.{Instr}
use Rattle.tcl_lang.specs.declared.term.Term.{Term}
use Rattle.tcl_lang.specs.declared.term.Part.{Part}
use Rattle.tcl_lang.specs.declared.range.RngPred.{RngPred}
use Rattle.tcl_lang.specs.declared.pred.Pred.{Pred}
use Rattle.tcl_lang.specs.declared.pred.Pred.TheVariants.{Alg, Rng}
use Rattle.tcl_lang.specs.declared.pred.Line.TheVariants as line
use Rattle.tcl_lang.specs.Instruction.{result_count, operand_count}
use Rattle.tcl_lang.specs.Shape.{has_amount}
use Rattle.tcl_text.specs.declared.symbol.Symbol.TheVariants.{StarStar, Plus, Minus, Equal}
use Rattle.tcl_text.specs.declared.token.Keyword.TheVariants as keyword
use Rattle.tcl_text.specs.declared.token.Token.{Token}
use Rattle.tcl_text.specs.declared.token.Token.TheVariants.{Name, Number, Kind, Instruction, Reserved, Sign}
use Rattle.tcl_text.specs.declared.token.Statement.{Statement}
use Rattle.tcl_text.specs.declared.token.Statement.TheVariants.{Program, End}
use Rattle.tcl_text.specs.Trees.{alg, prd}
use Rattle.tcl_text.specs.Grammar.{capped, Operand, Chain}

-- one part of a modulus: a number, or a power of one
pub data OnePart : Bool → List Token → Part → List Token → Type 0 where
  base : {minus : Bool} {n : ℤ} {us : List Token} →
      OnePart minus (Number n ∷ us) (record { minus = minus; base = n; power = None }) us
  powered : {minus : Bool} {n k : ℤ} {us : List Token} →
      OnePart minus (Number n ∷ Sign StarStar ∷ Number k ∷ us) (record { minus = minus; base = n; power = Some (capped k) }) us

-- further parts up to the end of the line
pub data MoreParts : List Token → List Part → Type 0 where
  none : MoreParts [] []
  plus : {ts us : List Token} {p : Part} {ps : List Part} →
      OnePart false ts p us → MoreParts us ps → MoreParts (Sign Plus ∷ ts) (p ∷ ps)
  minus : {ts us : List Token} {p : Part} {ps : List Part} →
      OnePart true ts p us → MoreParts us ps → MoreParts (Sign Minus ∷ ts) (p ∷ ps)

-- a modulus up to the end of the line
pub data Modulus : List Token → List Part → Type 0 where
  parts : {ts us : List Token} {p : Part} {ps : List Part} →
      OnePart false ts p us → MoreParts us ps → Modulus ts (p ∷ ps)

-- a predicate up to the end of the line
pub data Predicate : List Token → Pred → Type 0 where
  range : {ts : List Token} {p : RngPred} → Chain prd 2 ts p [] → Predicate (Reserved keyword.Rng ∷ ts) (Rng p)
  equation : {ts us : List Token} {f g : Term} →
      Chain alg 2 ts f (Sign Equal ∷ us) → Chain alg 2 us g [] →
      Predicate (Reserved keyword.Alg ∷ ts) (Alg (record { left = f; right = g; modulus = None }))
  congruence : {ts us vs : List Token} {f g : Term} {m : List Part} →
      Chain alg 2 ts f (Sign Equal ∷ us) → Chain alg 2 us g (Reserved keyword.Mod ∷ vs) → Modulus vs m →
      Predicate (Reserved keyword.Alg ∷ ts) (Alg (record { left = f; right = g; modulus = Some m }))

-- so many names
pub data Names : ℕ → List Token → List ℕ → List Token → Type 0 where
  no_name : {us : List Token} → Names zero us [] us
  one_name : {k x : ℕ} {ts us : List Token} {xs : List ℕ} → Names k ts xs us → Names (suc k) (Name x ∷ ts) (x ∷ xs) us

-- so many operands
pub data Operands : ℕ → List Token → List Atom → List Token → Type 0 where
  no_operand : {us : List Token} → Operands zero us [] us
  one_operand : {k : ℕ} {ts us vs : List Token} {a : Atom} {atoms : List Atom} →
      Operand ts a us → Operands k us atoms vs → Operands (suc k) ts (a ∷ atoms) vs

-- an amount at the end of the line where the form has one, and else nothing
pub data Amount : Bool → List Token → ℕ → Type 0 where
  some_amount : {n : ℤ} → Amount true (Number n ∷ []) (capped n)
  no_amount : Amount false [] 0

-- an instruction behind its word and type
pub data Form : Op → Ty → List Token → Instr → Type 0 where
  form : {op : Op} {T : Ty} {ts us vs : List Token} {outs : List ℕ} {args : List Atom} {n : ℕ} →
      Names (result_count op) ts outs us → Operands (operand_count op) us args vs → Amount (has_amount op) vs n →
      Form op T ts (record { op = op; ty = T; outs = outs; args = args; amount = n })

-- the whole line
pub data IsStatement : List Token → Statement → Type 0 where
  input : {T : Ty} {x : ℕ} →
      IsStatement (Reserved keyword.In ∷ Kind T ∷ Name x ∷ []) (Program (line.Input T x))
  pre : {ts : List Token} {p : Pred} → Predicate ts p → IsStatement (Reserved keyword.Pre ∷ ts) (Program (line.Pre p))
  step : {op : Op} {T : Ty} {ts : List Token} {i : Instr} →
      Form op T ts i → IsStatement (Instruction op ∷ Kind T ∷ ts) (Program (line.Step i))
  assert : {ts : List Token} {p : Pred} →
      Predicate ts p → IsStatement (Reserved keyword.Assert ∷ ts) (Program (line.Assert p))
  assume : {ts : List Token} {p : Pred} →
      Predicate ts p → IsStatement (Reserved keyword.Assume ∷ ts) (Program (line.Assume p))
  cut : {ts : List Token} {p : Pred} → Predicate ts p → IsStatement (Reserved keyword.Cut ∷ ts) (Program (line.Cut p))
  post : {ts : List Token} {p : Pred} → Predicate ts p → IsStatement (Reserved keyword.Post ∷ ts) (Program (line.Post p))
  end_line : IsStatement (Reserved keyword.End ∷ []) End
