-- What the calls over a versioned program rest on: literals stay within the gates, words are narrow, and results that are set are found.
use Rattle.std.proofs.Common.{◌≡◌, ◌≢◌, inl, inr, ℕ, zero, suc, ◌≤◌, ◌==◌, Bool, true, List, [], ◌∷◌, length, get_or, set, Some, None, slice_get, refl, sym, ◌∙◌, ap, subst, arith}
use Rattle.std.proofs.lemmas.Bool.{and_parts, cases_eq, cases_lt, ltb-true, eqb-true}
use Rattle.std.proofs.lemmas.List.{get_or-set_same, get_or-set_other, set_past}
use Rattle.tcl_gates.specs.declared.gate.Gate.{Gate}
use Rattle.tcl_gates.specs.Meaning.{AreWithin, IsPart}
use Rattle.tcl_gates.proofs.Shown.{shows_own, shows_within, begins_length, part_none, within_none}
use Rattle.tcl_circuits.proofs.Within.{constant_within}
use Rattle.tcl_lang.specs.declared.ty.Ty.{Ty}
use Rattle.tcl_lang.specs.declared.instr.Atom.{Atom}
use Rattle.tcl_lang.specs.declared.instr.Atom.TheVariants.{Var, Lit}
use Rattle.tcl_lang.specs.declared.instr.Op.{Op}
use Rattle.tcl_lang.specs.declared.instr.Op.TheVariants.{Adds, Adcs, Subb, Sbbs, Mull, Shl, Split, Nondet}
use Rattle.tcl_lang.specs.declared.instr.Instr.{Instr}
use Rattle.tcl_lang.specs.declared.variable.Variable.{Variable}
use Rattle.tcl_lang.specs.Types.{IsTy}
use Rattle.tcl_lang.specs.Typing.{allows_amount}
use Rattle.tcl_lang.specs.Shape.{is_amount}
use Rattle.tcl_lang.specs.Instruction.{result_count}
use Rattle.tcl_words.specs.Instructions.{result_lits}
use Rattle.tcl_words.specs.Words.{ShowsAll}
use Rattle.tcl_words.specs.Words.ShowsAll.{none as no_lists, word as one_list}
use Rattle.tcl_words.specs.Ranges.{AllWithin, atom_lits}
use Rattle.tcl_words.specs.Steps.{operand_lits, operand_ty, instruction_lits, condition_wire, set_words, words_after}
use Rattle.tcl_words.proofs.Outcomes.{outcome_shows}
use Rattle.tcl_words.proofs.ExactConditions.{exactness_shows}
use Rattle.tcl_words.proofs.Parts.{all_within_grown}

-- the words that an instruction makes are within its gates
abbrev pub EachWithin : ℕ → List (List ℕ) → Type 0
EachWithin n lists = (k : ℕ) (ls : List ℕ) → slice_get lists k ≡ Some ls → AreWithin n ls

some_same : {ls ms : List ℕ} → Some ls ≡ Some ms → ls ≡ ms
some_same e = cc

none_some : {ls : List ℕ} → None ≡ Some ls → ⊥
none_some e = cc

all_shown_within : {gates : List Gate} {free : List Bool} {lists : List (List ℕ)} {words : List (List Bool)} → ShowsAll gates free lists words → EachWithin (length gates) lists
all_shown_within no_lists k ls e = absurd (none_some e)
all_shown_within {gates} (one_list s t) zero ls e = subst (AreWithin (length gates)) (some_same e) (shows_within s)
all_shown_within (one_list s t) (suc k) ls e = all_shown_within t k ls e

pub result_within : (gates : List Gate) (op : Op) (T S : Ty) (n : ℕ) (a b c : List ℕ) → AreWithin (length gates) a → AreWithin (length gates) b → AreWithin (length gates) c
    → (length gates ≤ length (result_lits gates op T S n a b c).gates) × EachWithin (length (result_lits gates op T S n a b c).gates) (result_lits gates op T S n a b c).words
result_within gates op T S n a b c h i j =
    let x = outcome_shows {free = []} op T S n (shows_own gates [] a h) (shows_own gates [] b i) (shows_own gates [] c j) in
    (begins_length x.grown, all_shown_within x.words)

set_one_within : (n : ℕ) (words : List (List ℕ)) (v : ℕ) (ls : List ℕ) → AllWithin n words → AreWithin n ls → AllWithin n (set words v ls)
set_one_within n words v ls w h = record { each = one }
  where
    one : (k : ℕ) → AreWithin n (get_or (set words v ls) k [])
    one k = elim (cases_eq k v) [
      | inl same ↦ elim (cases_lt v (length words)) [
        | inl within ↦ subst (AreWithin n) (sym (ap (λ j. get_or (set words v ls) j []) same ∙ get_or-set_same words v ls [] within)) h
        | inr past ↦ subst (λ ws. AreWithin n (get_or ws k [])) (sym (set_past words v ls past)) (w.each k)
      ]
      | inr other ↦ subst (AreWithin n) (sym (get_or-set_other words v k ls [] other)) (w.each k)
    ]

pub set_within : (n : ℕ) (words : List (List ℕ)) (outs : List ℕ) (lists : List (List ℕ)) → AllWithin n words → EachWithin n lists → AllWithin n (set_words words outs lists)
set_within n words [] lists w h = w
set_within n words (v ∷ outs) [] w h = w
set_within n words (v ∷ outs) (ls ∷ lists) w h = set_within n (set words v ls) outs lists (set_one_within n words v ls w (h 0 ls refl)) (λ k ms e. h (suc k) ms e)

-- an instruction that takes no choice sets its results
pub words_set : (op : Op) (words : List (List ℕ)) (outs : List ℕ) (lists : List (List ℕ)) → op ≢ Nondet → words_after op words outs lists ≡ set_words words outs lists
words_set Nondet words outs lists h = absurd (h refl)
words_set _ words outs lists h = refl

pub words_made : (op : Op) (words now : List (List ℕ)) (outs : List ℕ) (lists made : List (List ℕ)) → (op ≡ Nondet → ⊥) → lists ≡ made → now ≡ set_words words outs lists → now ≡ words_after op words outs made
words_made op words now outs lists made h e f = f ∙ ap (set_words words outs) e ∙ sym (words_set op words outs made h)

-- as many words as results
pub result_words_count : (gates : List Gate) (op : Op) (T S : Ty) (n : ℕ) (a b c : List ℕ) → length (result_lits gates op T S n a b c).words ≡ result_count op
result_words_count gates Adds T S n a b c = refl
result_words_count gates Adcs T S n a b c = refl
result_words_count gates Subb T S n a b c = refl
result_words_count gates Sbbs T S n a b c = refl
result_words_count gates Mull T S n a b c = refl
result_words_count gates Split T S n a b c = refl
result_words_count gates _ T S n a b c = refl

-- the amount of a typed instruction is small
zero_amount : (n : ℕ) → (n == 0) ≡ true → n ≤ 64
zero_amount n e = omega (arith, eqb-true n 0 e)

pub amount_small : (op : Op) (T : Ty) (n : ℕ) → IsTy T → allows_amount op T n ≡ true → is_amount op n ≡ true → n ≤ 64
amount_small Shl T n t a s = omega (arith, t.1, ltb-true n T.width a)
amount_small Split T n t a s = omega (arith, t.1, ltb-true n T.width (and_parts _ _ a).1)
amount_small _ T n t a s = zero_amount n s

-- the literals of the first operand of a typed instruction are at most as many as a word has bits
pub narrow_of : (words : List (List ℕ)) (atoms : List Atom) → ((atom : Atom) → slice_get atoms 0 ≡ Some atom → length (atom_lits words atom) ≤ 64) → length (operand_lits words atoms 0) ≤ 64
narrow_of words [] h = omega arith
narrow_of words (atom ∷ atoms) h = h atom refl

-- a `nondet` makes no gate and sets no word
pub nondet_gates : (gates now : List Gate) (words : List (List ℕ)) (variables : List Variable) (i : Instr) → i.op ≡ Nondet → now ≡ gates → now ≡ (instruction_lits gates words variables i).gates
nondet_gates gates now words variables i e f = f ∙ sym (ap (λ op. (result_lits gates op i.ty (operand_ty variables i.args 0) i.amount (operand_lits words i.args 0) (operand_lits words i.args 1) (operand_lits words i.args 2)).gates) e)

pub nondet_words : (op : Op) (words now : List (List ℕ)) (outs : List ℕ) (lists : List (List ℕ)) → op ≡ Nondet → now ≡ words → now ≡ words_after op words outs lists
nondet_words op words now outs lists e f = f ∙ sym (ap (λ o. words_after o words outs lists) e)

-- literals stay within the gates
operand_within : (n : ℕ) (words : List (List ℕ)) (atoms : List Atom) (k : ℕ) → AllWithin n words → AreWithin n (operand_lits words atoms k)
operand_within n words [] k w = within_none n
operand_within n words (Var v ∷ atoms) zero w = w.each v
operand_within n words (Lit T m ∷ atoms) zero w = constant_within n T.width m
operand_within n words (atom ∷ atoms) (suc k) w = operand_within n words atoms k w

made_within : (gates : List Gate) (words : List (List ℕ)) (variables : List Variable) (i : Instr) → AllWithin (length gates) words
    → (length gates ≤ length (instruction_lits gates words variables i).gates) × EachWithin (length (instruction_lits gates words variables i).gates) (instruction_lits gates words variables i).words
made_within gates words variables i w =
    result_within gates i.op i.ty (operand_ty variables i.args 0) i.amount (operand_lits words i.args 0) (operand_lits words i.args 1) (operand_lits words i.args 2)
    (operand_within (length gates) words i.args 0 w) (operand_within (length gates) words i.args 1 w) (operand_within (length gates) words i.args 2 w)

after_within : (n : ℕ) (op : Op) (words : List (List ℕ)) (outs : List ℕ) (lists : List (List ℕ)) → AllWithin n words → EachWithin n lists → AllWithin n (words_after op words outs lists)
after_within n Nondet words outs lists w h = w
after_within n _ words outs lists w h = set_within n words outs lists w h

pub step_within : (gates gates1 : List Gate) (words words1 : List (List ℕ)) (variables : List Variable) (i : Instr) → AllWithin (length gates) words → gates1 ≡ (instruction_lits gates words variables i).gates
    → words1 ≡ words_after i.op words i.outs (instruction_lits gates words variables i).words → AllWithin (length gates1) words1
step_within gates gates1 words words1 variables i w e f =
    let o = instruction_lits gates words variables i in
    let m = made_within gates words variables i w in
    subst (λ n. AllWithin n words1) (sym (ap length e)) (subst (AllWithin (length o.gates)) (sym f) (after_within (length o.gates) i.op words i.outs o.words (all_within_grown _ _ words m.0 w) m.1))

pub step_longer : (gates gates1 : List Gate) (words : List (List ℕ)) (variables : List Variable) (i : Instr) → AllWithin (length gates) words → gates1 ≡ (instruction_lits gates words variables i).gates → length gates ≤ length gates1
step_longer gates gates1 words variables i w e = omega (arith, (made_within gates words variables i w).0, ap length e)

pub condition_longer : (gates gates1 : List Gate) (words : List (List ℕ)) (variables : List Variable) (i : Instr) → AllWithin (length gates) words → gates1 ≡ (condition_wire gates words variables i).gates → length gates ≤ length gates1
condition_longer gates gates1 words variables i w e =
    let x = exactness_shows {free = []} i.op i.ty (operand_ty variables i.args 0) i.amount
    (shows_own gates [] _ (operand_within (length gates) words i.args 0 w)) (shows_own gates [] _ (operand_within (length gates) words i.args 1 w)) (shows_own gates [] _ (operand_within (length gates) words i.args 2 w)) in
    omega (arith, begins_length x.grown, ap length e)

pub part_longer : (old now whole : List Gate) → IsPart old now whole → length old ≤ length now
part_longer old now whole p = begins_length p.kept

-- no part of a circuit is a part of it
pub none_made : (gates : List Gate) (words : List (List ℕ)) (variables : List Variable) (i : Instr) → AllWithin (length gates) words → IsPart gates gates (instruction_lits gates words variables i).gates
none_made gates words variables i w =
    let x =
    outcome_shows {free = []} i.op i.ty (operand_ty variables i.args 0) i.amount (shows_own gates [] _ (operand_within (length gates) words i.args 0 w)) (shows_own gates [] _ (operand_within (length gates) words i.args 1 w))
    (shows_own gates [] _ (operand_within (length gates) words i.args 2 w)) in
    part_none x.grown

pub none_tested : (gates : List Gate) (words : List (List ℕ)) (variables : List Variable) (i : Instr) → AllWithin (length gates) words → IsPart gates gates (condition_wire gates words variables i).gates
none_tested gates words variables i w =
    let x =
    exactness_shows {free = []} i.op i.ty (operand_ty variables i.args 0) i.amount (shows_own gates [] _ (operand_within (length gates) words i.args 0 w)) (shows_own gates [] _ (operand_within (length gates) words i.args 1 w))
    (shows_own gates [] _ (operand_within (length gates) words i.args 2 w)) in
    part_none x.grown
