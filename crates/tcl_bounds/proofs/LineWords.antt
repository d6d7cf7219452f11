-- The literals of the lines of a well typed program are values of words.
use Rattle.std.proofs.Common.{◌≡◌, ℕ, ◌^◌, refl, sym, ◌∙◌, ap, subst, pos, neg_ℤ, int_lt, int_le, Bool, true, ◌&&◌, List, [], ◌++◌, Option, Some, None}
use Rattle.std.specs.List.{slice_get, list_all}
use Rattle.std.proofs.lemmas.Bool.{and_parts, not-false}
use Rattle.std.proofs.lemmas.List.Folds.{list_all-append}
use Rattle.tcl_lang.specs.declared.instr.Atom.{Atom}
use Rattle.tcl_lang.specs.declared.instr.Atom.TheVariants.{Var, Lit}
use Rattle.tcl_lang.specs.declared.range.RngTerm.{RngTerm, RngTerm-F, roll-RngTerm, map-RngTerm, ind-RngTerm}
use Rattle.tcl_lang.specs.declared.range.RngTerm.TheOpen as term_layer
use Rattle.tcl_lang.specs.declared.range.RngTerm.TheFolds.{fold-roll-RngTerm}
use Rattle.tcl_lang.specs.declared.range.RngPred.{RngPred, RngPred-F, roll-RngPred, map-RngPred, ind-RngPred}
use Rattle.tcl_lang.specs.declared.range.RngPred.TheOpen as pred_layer
use Rattle.tcl_lang.specs.declared.range.RngPred.TheFolds.{fold-roll-RngPred}
use Rattle.tcl_lang.specs.declared.pred.Pred.{Pred}
use Rattle.tcl_lang.specs.declared.pred.Pred.TheVariants.{Alg, Rng}
use Rattle.tcl_lang.specs.declared.pred.Line.{Line}
use Rattle.tcl_lang.specs.declared.pred.Line.TheVariants.{Input, Pre, Step, Assert, Assume, Cut, Post}
use Rattle.tcl_lang.specs.Types.{is_ty}
use Rattle.tcl_lang.specs.Names.{term_atoms_step, term_atoms, range_atoms_step, range_atoms, line_atoms}
use Rattle.tcl_lang.specs.Typing.{is_sound_literal}
use Rattle.tcl_lang.specs.Shape.{is_atom, is_range_term_step, is_range_term, is_range_step, is_range, is_line}
use Rattle.tcl_lang.specs.Execution.{IsRunnable}
use Rattle.tcl_lang.proofs.TypedStores.{is_ty_sound, is_in_type_sound, word_value}
use Rattle.tcl_lang.proofs.TypedRuns.{line_typed, line_shape}
use Rattle.tcl_bounds.specs.Narrowing.{atom_step, atom_of}
use Rattle.tcl_bounds.specs.Conditions.{LinesHaveWords, is_word_atom, literals_step, has_word_literals, line_has_words}
use Rattle.tcl_bounds.proofs.Ranges.{le_yes, lt_yes, both_yes}

-- a sound literal is a value of a word
literal_word : (a : Atom) → is_sound_literal a ≡ true → is_atom a ≡ true → is_word_atom (Some a) ≡ true
literal_word (Var x) s i = refl
literal_word (Lit T n) s i =
    let first = and_parts (is_ty T && int_lt (neg_ℤ (pos (2 ^ 127))) n) (int_lt n (pos (2 ^ 127))) i in
    let ty = is_ty_sound T (and_parts (is_ty T) (int_lt (neg_ℤ (pos (2 ^ 127))) n) first.0).0 in
    let word = word_value T.signed T.width n ty.1 (is_in_type_sound T n s) in
    both_yes (int_le (neg_ℤ (pos (2 ^ 63))) n) (int_lt n (pos (2 ^ 64))) (le_yes (neg_ℤ (pos (2 ^ 63))) n word.least) (lt_yes n (pos (2 ^ 64)) word.below)

abbrev TermWords : RngTerm → Type 0
TermWords t = list_all is_sound_literal (term_atoms t) ≡ true → is_range_term t ≡ true → is_word_atom (atom_of t) ≡ true

abbrev WordTerm : Type 0
WordTerm = (t : RngTerm) × TermWords t

term_words : (y : RngTerm-F WordTerm) → TermWords (roll-RngTerm (map-RngTerm WordTerm RngTerm (λ e. e.0) y))
term_words (term_layer.Leaf a) s i =
    let sound = and_parts (is_sound_literal a) true (ap (list_all is_sound_literal) (sym (fold-roll-RngTerm (List Atom) term_atoms_step (term_layer.Leaf a))) ∙ s) in
    let shape : is_atom a ≡ true = sym (fold-roll-RngTerm Bool is_range_term_step (term_layer.Leaf a)) ∙ i in
    ap is_word_atom (fold-roll-RngTerm (Option Atom) atom_step (term_layer.Leaf a)) ∙ literal_word a sound.0 shape
term_words (term_layer.Neg t) s i = ap is_word_atom (fold-roll-RngTerm (Option Atom) atom_step (term_layer.Neg t.0))
term_words (term_layer.Flip t) s i = ap is_word_atom (fold-roll-RngTerm (Option Atom) atom_step (term_layer.Flip t.0))
term_words (term_layer.Bin op t u) s i = ap is_word_atom (fold-roll-RngTerm (Option Atom) atom_step (term_layer.Bin op t.0 u.0))
term_words (term_layer.Cast T t) s i = ap is_word_atom (fold-roll-RngTerm (Option Atom) atom_step (term_layer.Cast T t.0))

term_has : (t : RngTerm) → TermWords t
term_has = ind-RngTerm TermWords (λ x y is. subst (λ z. TermWords (roll-RngTerm z)) is (term_words y))

-- range predicates
abbrev PredWords : RngPred → Type 0
PredWords p = list_all is_sound_literal (range_atoms p) ≡ true → is_range p ≡ true → has_word_literals p ≡ true

abbrev WordPred : Type 0
WordPred = (p : RngPred) × PredWords p

pred_words_at : (y : RngPred-F RngPred) (atoms : List Atom) (shape words : Bool) → range_atoms (roll-RngPred y) ≡ atoms → is_range (roll-RngPred y) ≡ shape → has_word_literals (roll-RngPred y) ≡ words → (list_all is_sound_literal atoms ≡ true → shape ≡ true → words ≡ true) → PredWords (roll-RngPred y)
pred_words_at y atoms shape words are shaped holds h s i =
    holds ∙ h (ap (list_all is_sound_literal) (sym are) ∙ s) (sym shaped ∙ i)

all_parts : (xs ys : List Atom) → list_all is_sound_literal (xs ++ ys) ≡ true → (list_all is_sound_literal xs ≡ true) × (list_all is_sound_literal ys ≡ true)
all_parts xs ys e = and_parts (list_all is_sound_literal xs) (list_all is_sound_literal ys) (sym (list_all-append is_sound_literal xs ys) ∙ e)

pred_words : (y : RngPred-F WordPred) → PredWords (roll-RngPred (map-RngPred WordPred RngPred (λ e. e.0) y))
pred_words pred_layer.True =
    pred_words_at pred_layer.True [] true true
    (fold-roll-RngPred (List Atom) range_atoms_step pred_layer.True) (fold-roll-RngPred Bool is_range_step pred_layer.True)
    (fold-roll-RngPred Bool literals_step pred_layer.True) (λ s i. refl)
pred_words pred_layer.False =
    pred_words_at pred_layer.False [] true true
    (fold-roll-RngPred (List Atom) range_atoms_step pred_layer.False) (fold-roll-RngPred Bool is_range_step pred_layer.False)
    (fold-roll-RngPred Bool literals_step pred_layer.False) (λ s i. refl)
pred_words (pred_layer.Cmp op t u) =
    pred_words_at (pred_layer.Cmp op t u) (term_atoms t ++ term_atoms u) (is_range_term t && is_range_term u) (is_word_atom (atom_of t) && is_word_atom (atom_of u))
    (fold-roll-RngPred (List Atom) range_atoms_step (pred_layer.Cmp op t u)) (fold-roll-RngPred Bool is_range_step (pred_layer.Cmp op t u))
    (fold-roll-RngPred Bool literals_step (pred_layer.Cmp op t u))
    (λ s i. let a = all_parts (term_atoms t) (term_atoms u) s in let b = and_parts (is_range_term t) (is_range_term u) i in
    both_yes (is_word_atom (atom_of t)) (is_word_atom (atom_of u)) (term_has t a.0 b.0) (term_has u a.1 b.1))
pred_words (pred_layer.Not p) =
    pred_words_at (pred_layer.Not p.0) (range_atoms p.0) (is_range p.0) true
    (fold-roll-RngPred (List Atom) range_atoms_step (pred_layer.Not p.0)) (fold-roll-RngPred Bool is_range_step (pred_layer.Not p.0))
    (fold-roll-RngPred Bool literals_step (pred_layer.Not p.0)) (λ s i. refl)
pred_words (pred_layer.Both p q) =
    pred_words_at (pred_layer.Both p.0 q.0) (range_atoms p.0 ++ range_atoms q.0) (is_range p.0 && is_range q.0) (has_word_literals p.0 && has_word_literals q.0)
    (fold-roll-RngPred (List Atom) range_atoms_step (pred_layer.Both p.0 q.0)) (fold-roll-RngPred Bool is_range_step (pred_layer.Both p.0 q.0))
    (fold-roll-RngPred Bool literals_step (pred_layer.Both p.0 q.0))
    (λ s i. let a = all_parts (range_atoms p.0) (range_atoms q.0) s in let b = and_parts (is_range p.0) (is_range q.0) i in
    both_yes (has_word_literals p.0) (has_word_literals q.0) (p.1 a.0 b.0) (q.1 a.1 b.1))
pred_words (pred_layer.Either p q) =
    pred_words_at (pred_layer.Either p.0 q.0) (range_atoms p.0 ++ range_atoms q.0) (is_range p.0 && is_range q.0) true
    (fold-roll-RngPred (List Atom) range_atoms_step (pred_layer.Either p.0 q.0)) (fold-roll-RngPred Bool is_range_step (pred_layer.Either p.0 q.0))
    (fold-roll-RngPred Bool literals_step (pred_layer.Either p.0 q.0)) (λ s i. refl)

pred_has : (p : RngPred) → PredWords p
pred_has = ind-RngPred PredWords (λ x y is. subst (λ z. PredWords (roll-RngPred z)) is (pred_words y))

-- lines
stated_has : (p : Pred) → list_all is_sound_literal (line_atoms (Pre p)) ≡ true → is_line (Pre p) ≡ true → line_has_words (Some (Pre p)) ≡ true
stated_has (Alg f) s i = refl
stated_has (Rng f) s i = pred_has f s i

line_words : (l : Line) → list_all is_sound_literal (line_atoms l) ≡ true → is_line l ≡ true → line_has_words (Some l) ≡ true
line_words (Input T x) s i = refl
line_words (Pre p) s i = stated_has p s i
line_words (Step j) s i = refl
line_words (Assert p) s i = stated_has p s i
line_words (Assume p) s i = stated_has p s i
line_words (Cut p) s i = stated_has p s i
line_words (Post p) s i = stated_has p s i

words_at : (names : ℕ) (lines : List Line) (k : ℕ) (o : Option Line) → IsRunnable names lines → slice_get lines k ≡ o → line_has_words o ≡ true
words_at names lines k None r e = refl
words_at names lines k (Some l) r e =
    line_words l
    (not-false (list_all is_sound_literal (line_atoms l)) (line_typed names lines k l r.typed e).literals) (line_shape names lines k l r e)

pub lines_have_words : (names : ℕ) (lines : List Line) → IsRunnable names lines → LinesHaveWords lines
lines_have_words names lines r k = words_at names lines k (slice_get lines k) r refl
