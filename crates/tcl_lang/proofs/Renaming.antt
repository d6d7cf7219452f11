-- What a line says after its names were replaced by variables that hold the same words: the same, and as much of it can be
-- computed.
use Rattle.std.proofs.Common.{◌≡◌, ℕ, refl, sym, ◌∙◌, ap, ℤ, Bool, false, ◌||◌, List, [], ◌∷◌, ◌++◌, map, filter_map, slice_index, Option, Some, None}
use Rattle.std.specs.Option.{option_map}
use Rattle.std.specs.List.{list_any}
use Rattle.std.proofs.lemmas.Bool.{or_parts}
use Rattle.std.proofs.lemmas.List.{map-append}
use Rattle.tcl_lang.specs.declared.ty.Word.{Word}
use Rattle.tcl_lang.specs.declared.instr.Atom.{Atom}
use Rattle.tcl_lang.specs.declared.instr.Atom.TheVariants.{Var, Lit}
use Rattle.tcl_lang.specs.declared.instr.Instr.{Instr}
use Rattle.tcl_lang.specs.declared.term.Term.{Term, Term-F}
use Rattle.tcl_lang.specs.declared.term.Term.TheOpen as layer
use Rattle.tcl_lang.specs.declared.term.Part.{Part}
use Rattle.tcl_lang.specs.declared.range.RngTerm.{RngTerm, RngTerm-F}
use Rattle.tcl_lang.specs.declared.range.RngTerm.TheOpen as range_layer
use Rattle.tcl_lang.specs.declared.range.RngPred.{RngPred, RngPred-F}
use Rattle.tcl_lang.specs.declared.range.RngPred.TheOpen as pred_layer
use Rattle.tcl_lang.specs.declared.pred.Pred.{Pred}
use Rattle.tcl_lang.specs.declared.pred.Pred.TheVariants.{Alg, Rng}
use Rattle.tcl_lang.specs.declared.pred.Line.{Line}
use Rattle.tcl_lang.specs.declared.pred.Line.TheVariants.{Input, Pre, Step, Assert, Assume, Cut, Post}
use Rattle.tcl_lang.specs.Store.{word_at, word_of}
use Rattle.tcl_lang.specs.Names.{name_of, term_names, term_atoms, range_atoms, predicate_names, stated_names, used_names}
use Rattle.tcl_lang.specs.Line.{predicate_of, instruction_of, values_of, stated_truth, line_truth}
use Rattle.tcl_lang.specs.Exactness.{is_exact}
use Rattle.tcl_lang.specs.Term.{value_step, term_value}
use Rattle.tcl_lang.specs.Bound.{greatest_magnitude, size_step, size_in}
use Rattle.tcl_lang.specs.Range.{word_step, range_word, compares, truth_step, range_truth}
use Rattle.tcl_lang.specs.Predicate.{agrees, predicate_truth}
use Rattle.tcl_lang.specs.Truth.{yes_or_no, equation_truth, predicate_computed, stated_computed, line_computed}
use Rattle.tcl_lang.specs.Versions.{Versions, version_atom, version_term, version_range_term, version_range, version_predicate, version_instruction, version_line}
use Rattle.tcl_lang.proofs.TermFolds.{renamed, is_marked, any_parts, term_versions, term_named, term_local}
use Rattle.tcl_lang.proofs.RangeFolds.{renamed_range, is_marked_range, range_versions, range_local, renamed_pred, own_atoms, pred_versions, pred_named, pred_local}

-- each name that is not bad has in the one store the word that its variable has in the other
abbrev pub HoldSame : (ℕ → Bool) → List ℕ → List Word → List Word → Type 0
HoldSame bad current S F = (x : ℕ) → bad x ≡ false → word_at F (slice_index current x) ≡ word_at S x

-- algebraic terms: their values and their sizes
value_agrees : (bad : ℕ → Bool) (current : List ℕ) (S F : List Word) → HoldSame bad current S F → (y : Term-F ℤ) → is_marked bad y ≡ false → value_step F (renamed (slice_index current) y) ≡ value_step S y
value_agrees bad current S F same (layer.Var x) e = ap (λ (w : Word). w.value) (same x e)
value_agrees bad current S F same (layer.Num n) e = refl
value_agrees bad current S F same (layer.Neg a) e = refl
value_agrees bad current S F same (layer.Add a b) e = refl
value_agrees bad current S F same (layer.Sub a b) e = refl
value_agrees bad current S F same (layer.Mul a b) e = refl
value_agrees bad current S F same (layer.Pow a k) e = refl

pub term_same : (bad : ℕ → Bool) (current : List ℕ) (S F : List Word) → HoldSame bad current S F → (t : Term) → list_any bad (term_names t) ≡ false → term_value F (version_term current t) ≡ term_value S t
term_same bad current S F same t e =
    term_versions (value_step F) current t
    ∙ term_local (λ y. value_step F (renamed (slice_index current) y)) (value_step S) bad (value_agrees bad current S F same) t e

size_agrees : (bad : ℕ → Bool) (current : List ℕ) (S F : List Word) → HoldSame bad current S F → (y : Term-F ℕ) → is_marked bad y ≡ false → size_step (λ x. (word_at F x).ty) (renamed (slice_index current) y) ≡ size_step (λ x. (word_at S x).ty) y
size_agrees bad current S F same (layer.Var x) e = ap (λ (w : Word). greatest_magnitude w.ty) (same x e)
size_agrees bad current S F same (layer.Num n) e = refl
size_agrees bad current S F same (layer.Neg a) e = refl
size_agrees bad current S F same (layer.Add a b) e = refl
size_agrees bad current S F same (layer.Sub a b) e = refl
size_agrees bad current S F same (layer.Mul a b) e = refl
size_agrees bad current S F same (layer.Pow a k) e = refl

pub size_same : (bad : ℕ → Bool) (current : List ℕ) (S F : List Word) → HoldSame bad current S F → (t : Term) → list_any bad (term_names t) ≡ false → size_in F (version_term current t) ≡ size_in S t
size_same bad current S F same t e =
    term_versions (size_step (λ x. (word_at F x).ty)) current t
    ∙ term_local (λ y. size_step (λ x. (word_at F x).ty) (renamed (slice_index current) y)) (size_step (λ x. (word_at S x).ty)) bad (size_agrees bad current S F same) t e

-- operands
abbrev pub bad_atom : (ℕ → Bool) → Atom → Bool
bad_atom bad (Var x) = bad x
bad_atom bad (Lit T n) = false

pub any_atoms : (bad : ℕ → Bool) (atoms : List Atom) → list_any (bad_atom bad) atoms ≡ list_any bad (filter_map name_of atoms)
any_atoms bad [] = refl
any_atoms bad (Var x ∷ atoms) = ap (λ b. bad x || b) (any_atoms bad atoms)
any_atoms bad (Lit T n ∷ atoms) = any_atoms bad atoms

atom_same : (bad : ℕ → Bool) (current : List ℕ) (S F : List Word) → HoldSame bad current S F → (atom : Atom) → bad_atom bad atom ≡ false → word_of F (version_atom current atom) ≡ word_of S atom
atom_same bad current S F same (Var x) e = same x e
atom_same bad current S F same (Lit T n) e = refl

values_are : (bad : ℕ → Bool) (current : List ℕ) (S F : List Word) → HoldSame bad current S F → (atoms : List Atom) → list_any (bad_atom bad) atoms ≡ false → values_of F (map (version_atom current) atoms) ≡ values_of S atoms
values_are bad current S F same [] e = refl
values_are bad current S F same (atom ∷ atoms) e =
    let p = or_parts (bad_atom bad atom) (list_any (bad_atom bad) atoms) e in
    ap (λ (w : Word). w.value ∷ values_of F (map (version_atom current) atoms)) (atom_same bad current S F same atom p.0)
    ∙ ap (λ ns. (word_of S atom).value ∷ ns) (values_are bad current S F same atoms p.1)

pub values_same : (bad : ℕ → Bool) (current : List ℕ) (S F : List Word) → HoldSame bad current S F → (atoms : List Atom) → list_any bad (filter_map name_of atoms) ≡ false → values_of F (map (version_atom current) atoms) ≡ values_of S atoms
values_same bad current S F same atoms e = values_are bad current S F same atoms (any_atoms bad atoms ∙ e)

-- range terms and range predicates
word_agrees : (bad : ℕ → Bool) (current : List ℕ) (S F : List Word) → HoldSame bad current S F → (y : RngTerm-F Word) → is_marked_range (bad_atom bad) y ≡ false → word_step F (renamed_range (version_atom current) y) ≡ word_step S y
word_agrees bad current S F same (range_layer.Leaf atom) e = atom_same bad current S F same atom e
word_agrees bad current S F same (range_layer.Neg a) e = refl
word_agrees bad current S F same (range_layer.Flip a) e = refl
word_agrees bad current S F same (range_layer.Bin op a b) e = refl
word_agrees bad current S F same (range_layer.Cast T a) e = refl

pub range_same : (bad : ℕ → Bool) (current : List ℕ) (S F : List Word) → HoldSame bad current S F → (t : RngTerm) → list_any (bad_atom bad) (term_atoms t) ≡ false → range_word F (version_range_term current t) ≡ range_word S t
range_same bad current S F same t e =
    range_versions (word_step F) current t
    ∙ range_local (λ y. word_step F (renamed_range (version_atom current) y)) (word_step S) (bad_atom bad) (word_agrees bad current S F same) t e

truth_agrees : (bad : ℕ → Bool) (current : List ℕ) (S F : List Word) → HoldSame bad current S F → (y : RngPred-F Bool) → list_any (bad_atom bad) (own_atoms y) ≡ false → truth_step F (renamed_pred (version_range_term current) y) ≡ truth_step S y
truth_agrees bad current S F same pred_layer.True e = refl
truth_agrees bad current S F same pred_layer.False e = refl
truth_agrees bad current S F same (pred_layer.Cmp op t u) e =
    let parts = any_parts (bad_atom bad) (term_atoms t) (term_atoms u) e in
    ap (λ (w : Word). compares op w.value (range_word F (version_range_term current u)).value) (range_same bad current S F same t parts.0)
    ∙ ap (λ (w : Word). compares op (range_word S t).value w.value) (range_same bad current S F same u parts.1)
truth_agrees bad current S F same (pred_layer.Not a) e = refl
truth_agrees bad current S F same (pred_layer.Both a b) e = refl
truth_agrees bad current S F same (pred_layer.Either a b) e = refl

pub pred_same : (bad : ℕ → Bool) (current : List ℕ) (S F : List Word) → HoldSame bad current S F → (t : RngPred) → list_any (bad_atom bad) (range_atoms t) ≡ false → range_truth F (version_range current t) ≡ range_truth S t
pred_same bad current S F same t e =
    pred_versions (truth_step F) current t
    ∙ pred_local (λ y. truth_step F (renamed_pred (version_range_term current) y)) (truth_step S) (bad_atom bad) (truth_agrees bad current S F same) t e

-- predicates
pub agrees_same : (S F : List Word) (f g h i : Term) (m : Option (List Part)) → term_value F h ≡ term_value S f → term_value F i ≡ term_value S g → agrees F h i m ≡ agrees S f g m
agrees_same S F f g h i None a b = cc
agrees_same S F f g h i (Some m) a b = cc

pub equation_same : (S F : List Word) (f g h i : Term) (m : Option (List Part)) → term_value F h ≡ term_value S f → term_value F i ≡ term_value S g → size_in F h ≡ size_in S f → size_in F i ≡ size_in S g → equation_truth F h i m ≡ equation_truth S f g m
equation_same S F f g h i None a b c d = cc
equation_same S F f g h i (Some m) a b c d = cc

predicate_same : (bad : ℕ → Bool) (current : List ℕ) (S F : List Word) → HoldSame bad current S F → (p : Pred) → list_any bad (predicate_names p) ≡ false → predicate_truth F (version_predicate current p) ≡ predicate_truth S p
predicate_same bad current S F same (Alg p) e =
    let parts = any_parts bad (term_names p.left) (term_names p.right) e in
    agrees_same S F p.left p.right (version_term current p.left) (version_term current p.right) p.modulus
    (term_same bad current S F same p.left parts.0) (term_same bad current S F same p.right parts.1)
predicate_same bad current S F same (Rng p) e = pred_same bad current S F same p (any_atoms bad (range_atoms p) ∙ e)

computed_same : (bad : ℕ → Bool) (current : List ℕ) (S F : List Word) → HoldSame bad current S F → (p : Pred) → list_any bad (predicate_names p) ≡ false → predicate_computed F (version_predicate current p) ≡ predicate_computed S p
computed_same bad current S F same (Alg p) e =
    let parts = any_parts bad (term_names p.left) (term_names p.right) e in
    equation_same S F p.left p.right (version_term current p.left) (version_term current p.right) p.modulus
    (term_same bad current S F same p.left parts.0) (term_same bad current S F same p.right parts.1)
    (size_same bad current S F same p.left parts.0) (size_same bad current S F same p.right parts.1)
computed_same bad current S F same (Rng p) e = ap yes_or_no (pred_same bad current S F same p (any_atoms bad (range_atoms p) ∙ e))

-- what a versioned line states is what the line states, versioned: whatever is read of a line through its predicate and its
-- instruction is read so
abbrev pub stated_pred : Versions → Option Pred → Option Pred
stated_pred v s = option_map (version_predicate v.current) s

abbrev pub stated_instr : Versions → Option Instr → Option Instr
stated_instr v i = option_map (version_instruction v) i

pub at_versions : {X : Type 0} (f : Option Pred → Option Instr → X) (v : Versions) (l : Line) → f (predicate_of (version_line v l)) (instruction_of (version_line v l)) ≡ f (stated_pred v (predicate_of l)) (stated_instr v (instruction_of l))
at_versions f v (Input T x) = refl
at_versions f v (Pre p) = refl
at_versions f v (Step i) = refl
at_versions f v (Assert p) = refl
at_versions f v (Assume p) = refl
at_versions f v (Cut p) = refl
at_versions f v (Post p) = refl

stated_same : (bad : ℕ → Bool) (v : Versions) (S F : List Word) → HoldSame bad v.current S F → (s : Option Pred) (i : Option Instr) → list_any bad (stated_names s i) ≡ false → stated_truth F (stated_pred v s) (stated_instr v i) ≡ stated_truth S s i
stated_same bad v S F same (Some p) i e = predicate_same bad v.current S F same p e
stated_same bad v S F same None (Some i) e = ap (is_exact i.op i.ty i.amount) (values_same bad v.current S F same i.args e)
stated_same bad v S F same None None e = refl

stated_computed_same : (bad : ℕ → Bool) (v : Versions) (S F : List Word) → HoldSame bad v.current S F → (s : Option Pred) (i : Option Instr) → list_any bad (stated_names s i) ≡ false → stated_computed F (stated_pred v s) (stated_instr v i) ≡ stated_computed S s i
stated_computed_same bad v S F same (Some p) i e = computed_same bad v.current S F same p e
stated_computed_same bad v S F same None (Some i) e = ap (λ ns. yes_or_no (is_exact i.op i.ty i.amount ns)) (values_same bad v.current S F same i.args e)
stated_computed_same bad v S F same None None e = refl

-- a line and its versioned line say the same
pub line_same : (bad : ℕ → Bool) (v : Versions) (S F : List Word) → HoldSame bad v.current S F → (l : Line) → list_any bad (used_names l) ≡ false → line_truth F (version_line v l) ≡ line_truth S l
line_same bad v S F same l e = at_versions (stated_truth F) v l ∙ stated_same bad v S F same (predicate_of l) (instruction_of l) e

pub line_computed_same : (bad : ℕ → Bool) (v : Versions) (S F : List Word) → HoldSame bad v.current S F → (l : Line) → list_any bad (used_names l) ≡ false → line_computed F (version_line v l) ≡ line_computed S l
line_computed_same bad v S F same l e = at_versions (stated_computed F) v l ∙ stated_computed_same bad v S F same (predicate_of l) (instruction_of l) e

-- the names of a versioned line
atoms_named : (current : List ℕ) (atoms : List Atom) → filter_map name_of (map (version_atom current) atoms) ≡ map (slice_index current) (filter_map name_of atoms)
atoms_named current [] = refl
atoms_named current (Var x ∷ atoms) = ap (λ ns. slice_index current x ∷ ns) (atoms_named current atoms)
atoms_named current (Lit T n ∷ atoms) = atoms_named current atoms

predicate_named : (current : List ℕ) (p : Pred) → predicate_names (version_predicate current p) ≡ map (slice_index current) (predicate_names p)
predicate_named current (Alg p) =
    ap (λ ns. ns ++ term_names (version_term current p.right)) (term_named current p.left)
    ∙ ap (λ ns. map (slice_index current) (term_names p.left) ++ ns) (term_named current p.right)
    ∙ sym (map-append (slice_index current) (term_names p.left) (term_names p.right))
predicate_named current (Rng p) = ap (filter_map name_of) (pred_named current p) ∙ atoms_named current (range_atoms p)

stated_named : (v : Versions) (s : Option Pred) (i : Option Instr) → stated_names (stated_pred v s) (stated_instr v i) ≡ map (slice_index v.current) (stated_names s i)
stated_named v (Some p) i = predicate_named v.current p
stated_named v None (Some i) = atoms_named v.current i.args
stated_named v None None = refl

pub line_named : (v : Versions) (l : Line) → used_names (version_line v l) ≡ map (slice_index v.current) (used_names l)
line_named v l = at_versions stated_names v l ∙ stated_named v (predicate_of l) (instruction_of l)
