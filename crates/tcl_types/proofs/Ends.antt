-- Two lists that are walked side by side: at the end of the shorter one nothing is left to do.
use Rattle.std.proofs.Common.{◌≡◌, ℕ, zero, suc, ◌≤◌, min, true, List, [], ◌∷◌, length, drop, Option, refl, arith}
use Rattle.tcl_lang.specs.declared.ty.Ty.{Ty}
use Rattle.tcl_lang.specs.declared.instr.Atom.{Atom}
use Rattle.tcl_lang.specs.Typing.{define_all, operands_suit}

define_all-none : (types : List (Option Ty)) (names : List ℕ) → define_all types names [] ≡ types
define_all-none types [] = refl
define_all-none types (name ∷ names) = refl

pub define_all-ended : (types : List (Option Ty)) (names : List ℕ) (Ts : List Ty) (k : ℕ) → min (length names) (length Ts) ≤ k → define_all types (drop k names) (drop k Ts) ≡ types
define_all-ended types [] Ts zero h = refl
define_all-ended types [] Ts (suc k) h = refl
define_all-ended types (name ∷ names) [] zero h = refl
define_all-ended types (name ∷ names) [] (suc k) h = define_all-none types (drop k names)
define_all-ended types (name ∷ names) (T ∷ Ts) zero h = absurd (omega arith)
define_all-ended types (name ∷ names) (T ∷ Ts) (suc k) h = define_all-ended types names Ts k (omega arith)

operands_suit-none : (types Ts : List (Option Ty)) → operands_suit types Ts [] ≡ true
operands_suit-none types [] = refl
operands_suit-none types (T ∷ Ts) = refl

pub operands_suit-ended : (types Ts : List (Option Ty)) (atoms : List Atom) (k : ℕ) → min (length Ts) (length atoms) ≤ k → operands_suit types (drop k Ts) (drop k atoms) ≡ true
operands_suit-ended types [] atoms zero h = refl
operands_suit-ended types [] atoms (suc k) h = refl
operands_suit-ended types (T ∷ Ts) [] zero h = refl
operands_suit-ended types (T ∷ Ts) [] (suc k) h = operands_suit-none types (drop k Ts)
operands_suit-ended types (T ∷ Ts) (atom ∷ atoms) zero h = absurd (omega arith)
operands_suit-ended types (T ∷ Ts) (atom ∷ atoms) (suc k) h = operands_suit-ended types Ts atoms k (omega arith)
