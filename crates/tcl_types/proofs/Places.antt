-- The table before each place and the reason at each place. A program has at most one first ill-typed line, and a well
-- typed one has none.
use Rattle.std.proofs.Common.{◌≡◌, ℕ, ◌+◌, ◌<◌, List, length, replicate, Option, Some, None, refl, sym, ◌∙◌, ap, add-one, arith}
use Rattle.std.specs.Prelude.{slice_get}
use Rattle.tcl_lang.specs.declared.ty.Ty.{Ty}
use Rattle.tcl_lang.specs.declared.pred.Line.{Line}
use Rattle.tcl_lang.specs.declared.reason.Reason.{Reason}
use Rattle.tcl_lang.specs.Program.{ReadProgram}
use Rattle.tcl_lang.specs.Typing.{types_at, types_after, reason_of, reason_in, reason_at, IsWellTyped, IsFirstIllTyped}
use Rattle.tcl_types.specs.Fault.{IsTyped, IsIll}

pub types_at-zero : (names : ℕ) (lines : List Line) → types_at names lines 0 ≡ replicate names None
unfolding types_at
types_at-zero names lines = refl

pub types_at-more : (names : ℕ) (lines : List Line) (k : ℕ) (line : Line) → slice_get lines k ≡ Some line → types_at names lines (k + 1) ≡ types_after (types_at names lines k) (Some line)
unfolding types_at
types_at-more names lines k line e = rw add-one (ap (types_after (types_at names lines k)) e)

pub reason_at-line : (names : ℕ) (lines : List Line) (k : ℕ) (line : Line) → slice_get lines k ≡ Some line → reason_at names lines k ≡ reason_of (types_at names lines k) line
unfolding reason_at
reason_at-line names lines k line e = ap (reason_in (types_at names lines k)) e

-- the reason as the table of the loop gives it
pub reason_from : (names : ℕ) (lines : List Line) (k : ℕ) (line : Line) (types : List (Option Ty)) (found : Option Reason) → slice_get lines k ≡ Some line → types ≡ types_at names lines k → found ≡ reason_of types line → reason_at names lines k ≡ found
reason_from names lines k line types found at table e =
    reason_at-line names lines k line at ∙ (ap (λ t. reason_of t line) (sym table) ∙ sym e)

pub not_typed : (names : ℕ) (lines : List Line) (k : ℕ) (reason : Reason) → IsFirstIllTyped names lines k reason → IsWellTyped names lines → ⊥
unfolding IsWellTyped
not_typed names lines k reason first typed =
    let none = typed k first.within in
    let some = first.reason_is in
    cc

not_before : (names : ℕ) (lines : List Line) (j k : ℕ) (r s : Reason) → IsFirstIllTyped names lines j r → IsFirstIllTyped names lines k s → j < k → ⊥
not_before names lines j k r s one other h =
    let none = other.earlier j h in
    let some = one.reason_is in
    cc

first_place : (names : ℕ) (lines : List Line) (j k : ℕ) (r s : Reason) → IsFirstIllTyped names lines j r → IsFirstIllTyped names lines k s → j ≡ k
first_place names lines j k r s one other =
    let after : j < k → ⊥ = not_before names lines j k r s one other in
    let before : k < j → ⊥ = not_before names lines k j s r other one in
    omega arith

-- a program is refused for one line and one reason
pub one_fault : (read : ReadProgram) (n m : ℕ) (r s : Reason) → IsIll read n r → IsIll read m s → (n ≡ m) × (r ≡ s)
one_fault read n m r s one other =
    let same : one.place ≡ other.place = first_place (length read.program.names) read.program.lines one.place other.place r s one.first other.first in
    let number = one.number in
    let number' = other.number in
    let reason = one.first.reason_is in
    let reason' = other.first.reason_is in
    (cc, cc)

-- and a well typed one is not
pub no_fault : (read : ReadProgram) (n : ℕ) (reason : Reason) → IsIll read n reason → IsTyped read → ⊥
no_fault read n reason ill typed =
    not_typed (length read.program.names) read.program.lines ill.place reason ill.first typed
