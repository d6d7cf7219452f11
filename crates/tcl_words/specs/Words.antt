-- Words of literals that stand for the values of typed words.
use Rattle.std.specs.Prelude.{◌≡◌, ℕ, ℤ, Bool, List, [], ◌∷◌, length}
use Rattle.tcl_gates.specs.declared.gate.Gate.{Gate}
use Rattle.tcl_lang.specs.declared.ty.Ty.{Ty}
use Rattle.tcl_lang.specs.declared.instr.Op.{Op}
use Rattle.tcl_lang.specs.declared.instr.Op.TheVariants.{Mov, Adc, Adcs, Sbb, Sbbs, Shl, Split, Join, Cast, Vpc, Cmov, Not, Nondet}
use Rattle.tcl_lang.specs.Types.{bit_type, unsigned_of}
use Rattle.tcl_bits.specs.Value.{word_value}
use Rattle.tcl_gates.specs.Meaning.{Shows, Begins}
use Rattle.tcl_words.specs.Instructions.{Outcome}

-- the bits are those of the value at the type
pub record IsWord (T : Ty) (bits : List Bool) (n : ℤ) : Type 0 where
  pub length : length bits ≡ T.width
  pub value : word_value T.signed bits ≡ n

-- each list of bits is that of the value
pub data AreWords : List Ty → List (List Bool) → List ℤ → Type 0 where
  none : AreWords [] [] []
  word : {T : Ty} {bits : List Bool} {n : ℤ} {Ts : List Ty} {words : List (List Bool)} {ns : List ℤ}
      → IsWord T bits n → AreWords Ts words ns → AreWords (T ∷ Ts) (bits ∷ words) (n ∷ ns)

-- each list of literals shows the bits
pub data ShowsAll (gates : List Gate) (free : List Bool) : List (List ℕ) → List (List Bool) → Type 0 where
  none : ShowsAll gates free [] []
  word : {ls : List ℕ} {ys : List Bool} {lists : List (List ℕ)} {words : List (List Bool)} → Shows gates free ls ys → ShowsAll gates free lists words → ShowsAll gates free (ls ∷ lists) (ys ∷ words)

pub record ShowsOutcome (free : List Bool) (old : List Gate) (o : Outcome) (bits : List (List Bool)) : Type 0 where
  pub grown : Begins old o.gates
  pub words : ShowsAll o.gates free o.words bits

-- the operands have the types that typing asks, S being that of the first
abbrev pub TwoWords : Ty → List Bool → List Bool → ℤ → ℤ → Type 0
TwoWords T xs ys a b = IsWord T xs a × IsWord T ys b

abbrev pub ThreeWords : Ty → List Bool → List Bool → List Bool → ℤ → ℤ → ℤ → Type 0
ThreeWords T xs ys zs a b c = IsWord T xs a × IsWord T ys b × IsWord bit_type zs c

abbrev pub AreOperands : Op → Ty → Ty → List Bool → List Bool → List Bool → ℤ → ℤ → ℤ → Type 0
AreOperands Mov T S xs ys zs a b c = IsWord T xs a
AreOperands Adc T S xs ys zs a b c = ThreeWords T xs ys zs a b c
AreOperands Adcs T S xs ys zs a b c = ThreeWords T xs ys zs a b c
AreOperands Sbb T S xs ys zs a b c = ThreeWords T xs ys zs a b c
AreOperands Sbbs T S xs ys zs a b c = ThreeWords T xs ys zs a b c
AreOperands Shl T S xs ys zs a b c = IsWord T xs a
AreOperands Split T S xs ys zs a b c = IsWord T xs a
AreOperands Join T S xs ys zs a b c = IsWord T xs a × IsWord (unsigned_of T) ys b
AreOperands Cast T S xs ys zs a b c = IsWord S xs a
AreOperands Vpc T S xs ys zs a b c = IsWord S xs a
AreOperands Cmov T S xs ys zs a b c = IsWord bit_type xs a × IsWord T ys b × IsWord T zs c
AreOperands Not T S xs ys zs a b c = IsWord T xs a
AreOperands Nondet T S xs ys zs a b c = IsWord T xs a
AreOperands _ T S xs ys zs a b c = TwoWords T xs ys a b
