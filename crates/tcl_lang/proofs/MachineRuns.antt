-- What the plain program of a step reads and writes.
use Rattle.std.proofs.Common.{◌≡◌, ℕ, zero, suc, refl, sym, ◌∙◌, ap, subst, arith, ℤ, pos, List, [], ◌∷◌, length, get_or, Option, Some, None}
use Rattle.std.specs.List.{slice_get}
use Rattle.std.specs.Option.{IfSome}
use Rattle.std.proofs.lemmas.Int.{ints}
use Rattle.tcl_lang.specs.declared.ty.Ty.{Ty}
use Rattle.tcl_lang.specs.declared.ty.Word.{Word}
use Rattle.tcl_lang.specs.declared.instr.Atom.{Atom}
use Rattle.tcl_lang.specs.declared.instr.Op.{Op}
use Rattle.tcl_lang.specs.declared.instr.Op.TheVariants.{Mov, Add, Adds, Adc, Adcs, Sub, Subb, Sbb, Sbbs, Mul, Mull, Mulj, Shl, Split, Join, Cast, Vpc, Cmov, And, Or, Xor, Not, Nondet}
use Rattle.tcl_lang.specs.Types.{IsTy}
use Rattle.tcl_lang.specs.Store.{word_of, set_word}
use Rattle.tcl_lang.specs.Instruction.{nth, result_count}
use Rattle.tcl_lang.specs.Results.{row_results, result_types}
use Rattle.tcl_lang.specs.Line.{values_of}
use Rattle.tcl_lang.specs.Run.{write_all}
use Rattle.tcl_lang.specs.Operands.{IsWordValue, MayStand, AreOperands, asked_types, IsExecutable, HasOperands}
use Rattle.tcl_lang.proofs.StepLaw.{asked}
use Rattle.tcl_lang.proofs.ResultTypes.{bit_is_type, unsigned_is_type}
use Rattle.tcl_lang.proofs.TypedStores.{word_value}

-- each type that is asked is a type of words
abbrev AreAsked : List (Option Ty) → Type 0
AreAsked [] = Unit {0}
AreAsked (T ∷ Ts) = IfSome T IsTy × AreAsked Ts

asked_are_types : (op : Op) (T : Ty) → IsTy T → AreAsked (asked_types op T)
asked_are_types Mov T t = (t, tt)
asked_are_types Add T t = (t, (t, tt))
asked_are_types Adds T t = (t, (t, tt))
asked_are_types Adc T t = (t, (t, (bit_is_type, tt)))
asked_are_types Adcs T t = (t, (t, (bit_is_type, tt)))
asked_are_types Sub T t = (t, (t, tt))
asked_are_types Subb T t = (t, (t, tt))
asked_are_types Sbb T t = (t, (t, (bit_is_type, tt)))
asked_are_types Sbbs T t = (t, (t, (bit_is_type, tt)))
asked_are_types Mul T t = (t, (t, tt))
asked_are_types Mull T t = (t, (t, tt))
asked_are_types Mulj T t = (t, (t, tt))
asked_are_types Shl T t = (t, tt)
asked_are_types Split T t = (t, tt)
asked_are_types Join T t = (t, (unsigned_is_type T t, tt))
asked_are_types Cast T t = (tt, tt)
asked_are_types Vpc T t = (tt, tt)
asked_are_types Cmov T t = (bit_is_type, (t, (t, tt)))
asked_are_types And T t = (t, (t, tt))
asked_are_types Or T t = (t, (t, tt))
asked_are_types Xor T t = (t, (t, tt))
asked_are_types Not T t = (t, tt)
asked_are_types Nondet T t = (t, tt)

-- an operand, or 0 where there is none, is a value of a word
stands_word : (T : Option Ty) (n : ℤ) → IfSome T IsTy → MayStand T n → IsWordValue n
stands_word None n t m = m
stands_word (Some T) n t m = word_value T.signed T.width n t.1 m

operand_word : (Ts : List (Option Ty)) (ns : List ℤ) (k : ℕ) → AreAsked Ts → AreOperands Ts ns → IsWordValue (nth ns k)
operand_word [] [] k t a = record { least = omega (arith, ints); below = omega (arith, ints) }
operand_word [] (n ∷ ns) k t a = absurd a
operand_word (T ∷ Ts) [] k t a = absurd a
operand_word (T ∷ Ts) (n ∷ ns) zero t a = stands_word T n t.0 a.0
operand_word (T ∷ Ts) (n ∷ ns) (suc k) t a = operand_word Ts ns k t.1 a.1

stands_at : (o : Option (Option Ty)) (n : ℤ) → ((U : Option Ty) → o ≡ Some U → MayStand U n) → IfSome o (λ U. MayStand U n)
stands_at None n f = tt
stands_at (Some U) n f = f U refl

-- the operands of an instruction that can be executed, one by one
pub has_operands : (op : Op) (T : Ty) (n : ℕ) (operands : List ℤ) → IsExecutable op T n operands → HasOperands op T n (nth operands 0) (nth operands 1) (nth operands 2)
has_operands op T n operands x =
    let types = asked_are_types op T x.type_of_words in
    record {
      type_of_words = x.type_of_words;
      allowed = x.allowed;
      amount = x.amount;
      words = (operand_word (asked_types op T) operands 0 types x.values, operand_word (asked_types op T) operands 1 types x.values, operand_word (asked_types op T) operands 2 types x.values);
      first = stands_at (slice_get (asked_types op T) 0) (nth operands 0) (λ U e. asked op T n operands x 0 U e);
      second = stands_at (slice_get (asked_types op T) 1) (nth operands 1) (λ U e. asked op T n operands x 1 U e);
      third = stands_at (slice_get (asked_types op T) 2) (nth operands 2) (λ U e. asked op T n operands x 2 U e);
    }

-- the value of operand k, where there is one and where there is none
pub value_there : (store : List Word) (args : List Atom) (k : ℕ) (atom : Atom) → slice_get args k ≡ Some atom → nth (values_of store args) k ≡ (word_of store atom).value
value_there store [] k atom e = absurd (cc)
value_there store (other ∷ args) zero atom e = ap (λ a. (word_of store a).value) (same other atom e)
  where
    same : (a b : Atom) → Some a ≡ Some b → a ≡ b
    same a b e = cc
value_there store (other ∷ args) (suc k) atom e = value_there store args k atom e

pub value_past : (store : List Word) (args : List Atom) (k : ℕ) → slice_get args k ≡ None → nth (values_of store args) k ≡ pos 0
value_past store [] k e = refl
value_past store (other ∷ args) zero e = absurd (cc)
value_past store (other ∷ args) (suc k) e = value_past store args k e

-- how many results there are
pub row_length : (op : Op) (T : Ty) (n : ℕ) (a b c : ℤ) → length (row_results op T n a b c) ≡ result_count op
row_length Mov T n a b c = refl
row_length Add T n a b c = refl
row_length Adds T n a b c = refl
row_length Adc T n a b c = refl
row_length Adcs T n a b c = refl
row_length Sub T n a b c = refl
row_length Subb T n a b c = refl
row_length Sbb T n a b c = refl
row_length Sbbs T n a b c = refl
row_length Mul T n a b c = refl
row_length Mull T n a b c = refl
row_length Mulj T n a b c = refl
row_length Shl T n a b c = refl
row_length Split T n a b c = refl
row_length Join T n a b c = refl
row_length Cast T n a b c = refl
row_length Vpc T n a b c = refl
row_length Cmov T n a b c = refl
row_length And T n a b c = refl
row_length Or T n a b c = refl
row_length Xor T n a b c = refl
row_length Not T n a b c = refl
row_length Nondet T n a b c = refl

pub types_length : (op : Op) (T : Ty) → length (result_types op T) ≡ result_count op
types_length Mov T = refl
types_length Add T = refl
types_length Adds T = refl
types_length Adc T = refl
types_length Adcs T = refl
types_length Sub T = refl
types_length Subb T = refl
types_length Sbb T = refl
types_length Sbbs T = refl
types_length Mul T = refl
types_length Mull T = refl
types_length Mulj T = refl
types_length Shl T = refl
types_length Split T = refl
types_length Join T = refl
types_length Cast T = refl
types_length Vpc T = refl
types_length Cmov T = refl
types_length And T = refl
types_length Or T = refl
types_length Xor T = refl
types_length Not T = refl
types_length Nondet T = refl

-- one result, and two, written to the names of an instruction
pub write_one : (store after : List Word) (outs : List ℕ) (Ts : List Ty) (v : ℤ) → length outs ≡ 1 → length Ts ≡ 1 → ((T : Ty) → slice_get Ts 0 ≡ Some T → after ≡ set_word store (get_or outs 0 0) T v) → after ≡ write_all store outs Ts (v ∷ [])
write_one store after [] Ts v m n f = absurd (omega arith)
write_one store after (name ∷ other ∷ outs) Ts v m n f = absurd (omega arith)
write_one store after (name ∷ []) [] v m n f = absurd (omega arith)
write_one store after (name ∷ []) (T ∷ U ∷ Ts) v m n f = absurd (omega arith)
write_one store after (name ∷ []) (T ∷ []) v m n f = f T refl

pub write_two : (store between after : List Word) (outs : List ℕ) (Ts : List Ty) (v u : ℤ) → length outs ≡ 2 → length Ts ≡ 2 → ((T : Ty) → slice_get Ts 0 ≡ Some T → between ≡ set_word store (get_or outs 0 0) T v) → ((T : Ty) → slice_get Ts 1 ≡ Some T → after ≡ set_word between (get_or outs 1 0) T u) → after ≡ write_all store outs Ts (v ∷ u ∷ [])
write_two store between after [] Ts v u m n f g = absurd (omega arith)
write_two store between after (name ∷ []) Ts v u m n f g = absurd (omega arith)
write_two store between after (name ∷ other ∷ third ∷ outs) Ts v u m n f g = absurd (omega arith)
write_two store between after (name ∷ other ∷ []) [] v u m n f g = absurd (omega arith)
write_two store between after (name ∷ other ∷ []) (T ∷ []) v u m n f g = absurd (omega arith)
write_two store between after (name ∷ other ∷ []) (T ∷ U ∷ X ∷ Ts) v u m n f g = absurd (omega arith)
write_two store between after (name ∷ other ∷ []) (T ∷ U ∷ []) v u m n f g = g U refl ∙ ap (λ s. set_word s other U u) (f T refl)

pub operands_same : (op : Op) (T : Ty) (n : ℕ) (a b c x y z : ℤ) → x ≡ a → y ≡ b → z ≡ c → HasOperands op T n a b c → HasOperands op T n x y z
operands_same op T n a b c x y z p q r h =
    let first : HasOperands op T n x b c = subst (λ (v : ℤ). HasOperands op T n v b c) (sym p) h in
    let second : HasOperands op T n x y c = subst (λ (v : ℤ). HasOperands op T n x v c) (sym q) first in
    subst (λ (v : ℤ). HasOperands op T n x y v) (sym r) second
