-- The value laws of instructions, exactness conditions and range lines: what their literals show, where those of the operands show a store.
use Rattle.std.proofs.Common.{◌≡◌, ℕ, ◌+◌, ◌<◌, ◌≤◌, Bool, true, false, not, ◌||◌, List, [], ◌∷◌, length, map, get_or, set, Option, Some, slice_get, refl, sym, ◌∙◌, ap, ap₂, subst, arith, ℤ}
use Rattle.std.proofs.lemmas.List.{length-set, get_or-set_same, get_or-set_other}
use Rattle.tcl_gates.specs.declared.gate.Gate.{Gate}
use Rattle.tcl_gates.specs.Meaning.{lit_bit, word_bits}
use Rattle.tcl_gates.proofs.Shown.{shows_own, shows_bits, shows_length, shows_within}
use Rattle.tcl_bits.specs.Value.{word_value}
use Rattle.tcl_lang.specs.declared.ty.Ty.{Ty}
use Rattle.tcl_lang.specs.declared.ty.Word.{Word}
use Rattle.tcl_lang.specs.declared.instr.Atom.{Atom}
use Rattle.tcl_lang.specs.declared.instr.Atom.TheVariants.{Var}
use Rattle.tcl_lang.specs.declared.instr.Instr.{Instr}
use Rattle.tcl_lang.specs.declared.range.RngPred.{RngPred}
use Rattle.tcl_lang.specs.declared.variable.Variable.{Variable}
use Rattle.tcl_lang.specs.Types.{IsTy}
use Rattle.tcl_lang.specs.Typing.{type_at, is_sound_literal, sides_agree, allows, allows_amount}
use Rattle.tcl_lang.specs.Shape.{is_range}
use Rattle.tcl_lang.specs.Store.{word_at}
use Rattle.tcl_lang.specs.Names.{range_atoms}
use Rattle.tcl_lang.specs.Line.{values_of}
use Rattle.tcl_lang.specs.Results.{results_of, result_types}
use Rattle.tcl_lang.specs.Exactness.{has_condition, is_exact}
use Rattle.tcl_lang.specs.Range.{range_truth}
use Rattle.tcl_lang.specs.Versions.{numbers_from}
use Rattle.tcl_words.specs.Words.{IsWord, AreWords, ShowsAll}
use Rattle.tcl_words.specs.Words.AreWords.{none as no_words, word as one_word}
use Rattle.tcl_words.specs.Words.ShowsAll.{none as no_lists, word as one_list}
use Rattle.tcl_lang.specs.Values.{types_of}
use Rattle.tcl_words.specs.Ranges.{atom_lits, atom_ty, pred_lit}
use Rattle.tcl_words.specs.Steps.{first_type, instruction_lits, condition_wire, set_words}
use Rattle.tcl_words.specs.Stores.{ShowsOperands, ShowWords}
use Rattle.tcl_words.proofs.Outcomes.{outcome_shows}
use Rattle.tcl_words.proofs.Rows.{results_are}
use Rattle.tcl_words.proofs.ExactConditions.{exactness_shows, exactness_is}
use Rattle.tcl_words.proofs.RangeTerms.{Setting, VarShown, AtomsShown}
use Rattle.tcl_words.proofs.RangePreds.{pred_shows}
use Rattle.tcl_words.proofs.OperandWords.{AreTypedOperands, operands_shown}

abbrev pub setting : List (List ℕ) → List Variable → List (Option Ty) → List Word → Setting
setting words variables types store = record { words = words; variables = types_of variables; types = types; store = store }

-- what typing says of operands: a variable that has a type has its own, which is a type of words, and literal numbers lie in theirs
pub record AreTypedAtoms (variables : List Variable) (types : List (Option Ty)) (atoms : List Atom) : Type 0 where
  pub own : (k v : ℕ) (T : Ty) → slice_get atoms k ≡ Some (Var v) → type_at types v ≡ Some T → IsTy T × (atom_ty (types_of variables) (Var v) ≡ T)
  pub sound : (k : ℕ) (atom : Atom) → slice_get atoms k ≡ Some atom → is_sound_literal atom ≡ true

pub atoms_shown : {gates : List Gate} {free : List Bool} {words : List (List ℕ)} {variables : List Variable} {store : List Word} {atoms : List Atom} (types : List (Option Ty))
    → AreTypedAtoms variables types atoms → ShowsOperands gates free words variables store atoms → AtomsShown gates free (setting words variables types store) atoms
atoms_shown {gates} {free} {words} {variables} {store} {atoms} types typed h = record { each = one; sound = typed.sound }
  where
    one : (k v : ℕ) (T : Ty) → slice_get atoms k ≡ Some (Var v) → type_at types v ≡ Some T → VarShown gates free (setting words variables types store) v T
    one k v T i e =
        let own = typed.own k v T i e in
        let x = h.each k v i in
        let ls = atom_lits words (Var v) in
        record {
          is_type = own.0;
          ty = own.1;
          word_ty = x.ty ∙ own.1;
          bits = word_bits gates free ls;
          shows = shows_own gates free ls x.word.within;
          value = subst (λ U. IsWord U (word_bits gates free ls) (word_at store v).value) own.1
              (record { length = sym (shows_length (shows_own gates free ls x.word.within)) ∙ x.word.count; value = x.word.value });
        }

-- literals that show the bits of words show the words
words_shown : {gates : List Gate} {free : List Bool} {Ts : List Ty} {lists : List (List ℕ)} {words : List (List Bool)} {ns : List ℤ} → ShowsAll gates free lists words → AreWords Ts words ns → ShowWords gates free Ts lists ns
words_shown no_lists no_words = tt
words_shown (one_list s t) (one_word {T = T} w ws) =
    (record { count = shows_length s ∙ w.length; within = shows_within s; value = ap (word_value T.signed) (shows_bits s) ∙ w.value }, words_shown t ws)

-- the literals of an instruction's results show the results
pub results_shown : {gates : List Gate} {free : List Bool} {words : List (List ℕ)} {variables : List Variable} {store : List Word} (types : List (Option Ty)) (i : Instr)
    → AreTypedOperands (setting words variables types store) i.op i.ty (first_type variables i.args) i.args → allows i.op i.ty ≡ true → allows_amount i.op i.ty i.amount ≡ true
    → AreTypedAtoms variables types i.args → ShowsOperands gates free words variables store i.args
    → ShowWords (instruction_lits gates words variables i).gates free (result_types i.op i.ty) (instruction_lits gates words variables i).words (results_of i.op i.ty i.amount (values_of store i.args))
results_shown {gates} {free} {words} {variables} {store} types i operands allowed amount atoms h =
    let S = first_type variables i.args in
    let x = operands_shown i.op i.ty S i.args operands (atoms_shown types atoms h) in
    words_shown (outcome_shows i.op i.ty S i.amount x.first x.second x.third).words
    (results_are x.xs x.ys x.zs _ _ _ i.op i.ty S i.amount operands.of_words allowed amount x.are)

-- words that are set are found
set_keeps : (outs : List ℕ) (lists words : List (List ℕ)) (m v : ℕ) → v < m → get_or (set_words words (numbers_from m outs) lists) v [] ≡ get_or words v []
set_keeps [] lists words m v h = refl
set_keeps (o ∷ outs) [] words m v h = refl
set_keeps (o ∷ outs) (ls ∷ lists) words m v h = set_keeps outs lists (set words m ls) (m + 1) v (omega arith) ∙ get_or-set_other words m v ls [] (λ e. absurd (omega (arith, e, h)))

pub set_found : (outs : List ℕ) (lists words : List (List ℕ)) (m : ℕ) → length outs ≡ length lists → m + length outs ≤ length words
    → map (λ v. get_or (set_words words (numbers_from m outs) lists) v []) (numbers_from m outs) ≡ lists
set_found [] [] words m e h = refl
set_found [] (ls ∷ lists) words m e h = absurd (omega (arith, e))
set_found (o ∷ outs) [] words m e h = absurd (omega (arith, e))
set_found (o ∷ outs) (ls ∷ lists) words m e h =
    ap₂ (λ x xs. x ∷ xs) (set_keeps outs lists (set words m ls) (m + 1) m (omega arith) ∙ get_or-set_same words m ls [] (omega (arith, h)))
    (set_found outs lists (set words m ls) (m + 1) (omega (arith, e)) (omega (arith, h, length-set words m ls)))

-- the literal of an exactness condition shows whether it holds
exact_is : (b : Bool) (x : Bool) → b ≡ true → x ≡ (not b || x)
exact_is true x e = refl
exact_is false x e = absurd (cc)

pub condition_shown : {gates : List Gate} {free : List Bool} {words : List (List ℕ)} {variables : List Variable} {store : List Word} (types : List (Option Ty)) (i : Instr)
    → AreTypedOperands (setting words variables types store) i.op i.ty (first_type variables i.args) i.args → has_condition i.op ≡ true
    → AreTypedAtoms variables types i.args → ShowsOperands gates free words variables store i.args
    → lit_bit (condition_wire gates words variables i).gates free (condition_wire gates words variables i).lit ≡ is_exact i.op i.ty i.amount (values_of store i.args)
condition_shown {gates} {free} {words} {variables} {store} types i operands condition atoms h =
    let S = first_type variables i.args in
    let x = operands_shown i.op i.ty S i.args operands (atoms_shown types atoms h) in
    (exactness_shows i.op i.ty S i.amount x.first x.second x.third).shows.value
    ∙ exactness_is x.xs x.ys x.zs _ _ _ i.op i.ty S i.amount operands.of_words condition x.are
    ∙ exact_is (has_condition i.op) _ condition

-- the literal of a range predicate shows its truth
pub range_shown : {gates : List Gate} {free : List Bool} {words : List (List ℕ)} {variables : List Variable} {store : List Word} (types : List (Option Ty)) (p : RngPred)
    → sides_agree types p ≡ true → is_range p ≡ true → AreTypedAtoms variables types (range_atoms p) → ShowsOperands gates free words variables store (range_atoms p)
    → lit_bit (pred_lit words (types_of variables) p gates).gates free (pred_lit words (types_of variables) p gates).lit ≡ range_truth store p
range_shown {gates} {free} {words} {variables} {store} types p sides shape atoms h =
    (pred_shows (setting words variables types store) p sides shape gates free (atoms_shown types atoms h)).shows.value
