-- Inputs that are tried: all 0, all greatest, all least, all 1, all -1, and then inputs of a linear congruential generator
-- with the multiplier and the increment of Knuth's MMIX (TAOCP 3.3.4).
use Rattle.std.specs.Prelude.{ℕ, ◌+◌, ◌-◌, ◌*◌, ◌/◌, ◌%◌, ◌^◌, ◌==◌, if◌then◌else◌, ℤ, pos, neg_ℤ, ◌-ℤ◌, List, [], ◌∷◌}
use Rattle.tcl_num.specs.Range.{least_value, values_end}
use Rattle.tcl_lang.specs.declared.ty.Ty.{Ty}
use Rattle.tcl_lang.specs.Types.{wrap_of}

-- the state of the generator after this one
abbrev pub next_state : ℕ → ℕ
next_state z = (z * 6364136223846793005 + 1442695040888963407) % 2 ^ 64

-- the value of a type in trial k, where the generator has this state: its highest bits, as many as the type has
abbrev pub trial_value : ℕ → ℕ → Ty → ℤ
trial_value k z T =
    if k == 0 then pos 0
    else (if k == 1 then values_end T.signed T.width -ℤ pos 1
    else (if k == 2 then least_value T.signed T.width
    else (if k == 3 then wrap_of T (pos 1)
    else (if k == 4 then wrap_of T (neg_ℤ (pos 1))
    else wrap_of T (pos (z / 2 ^ (64 - T.width)))))))

-- the values of trial k from the state z on
abbrev pub trial_from : ℕ → ℕ → List Ty → List ℤ
trial_from k z [] = []
trial_from k z (T ∷ types) = trial_value k (next_state z) T ∷ trial_from k (next_state z) types

-- trial k, of a program whose lines take values of these types
abbrev pub trial_of : ℕ → List Ty → List ℤ
trial_of k types = trial_from k k types
