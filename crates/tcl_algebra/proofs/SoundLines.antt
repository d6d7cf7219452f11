-- Typing makes the predicates and the instructions of a form sound.
use Rattle.std.proofs.Common.{◌≡◌, ℕ, zero, suc, ◌^◌, ◌≤◌, refl, sym, ◌∙◌, ap, subst, arith, ℤ, pos, neg_ℤ, unsigned_abs, Bool, true, ◌&&◌, nat_le, nat_lt, List, [], ◌∷◌, ◌++◌, length, Option, Some, None, IfSome}
use Rattle.std.specs.Prelude.{All, int_lt}
use Rattle.std.specs.List.{slice_get, list_all}
use Rattle.std.proofs.lemmas.Int.{ints}
use Rattle.std.proofs.lemmas.Bool.{and_parts, and_from, not-false}
use Rattle.std.proofs.lemmas.Bool.Decides.{nat_tests}
use Rattle.std.proofs.lemmas.List.Folds.{list_all-append}
use Rattle.tcl_lang.specs.declared.ty.Ty.{Ty}
use Rattle.tcl_lang.specs.declared.instr.Atom.{Atom}
use Rattle.tcl_lang.specs.declared.instr.Atom.TheVariants as atom
use Rattle.tcl_lang.specs.declared.instr.Op.{Op}
use Rattle.tcl_lang.specs.declared.instr.Op.TheVariants.{Shl, Split}
use Rattle.tcl_lang.specs.declared.instr.Instr.{Instr}
use Rattle.tcl_lang.specs.declared.range.CmpOp.{CmpOp}
use Rattle.tcl_lang.specs.declared.range.CmpOp.TheVariants as cmp
use Rattle.tcl_lang.specs.declared.range.RngTerm.{RngTerm, RngTerm-F, roll-RngTerm, map-RngTerm, ind-RngTerm}
use Rattle.tcl_lang.specs.declared.range.RngTerm.TheOpen as term_layer
use Rattle.tcl_lang.specs.declared.range.RngTerm.TheFolds.{fold-roll-RngTerm}
use Rattle.tcl_lang.specs.declared.range.RngPred.{RngPred, RngPred-F, roll-RngPred, map-RngPred, ind-RngPred}
use Rattle.tcl_lang.specs.declared.range.RngPred.TheOpen as pred_layer
use Rattle.tcl_lang.specs.declared.range.RngPred.TheFolds.{fold-roll-RngPred}
use Rattle.tcl_lang.specs.declared.pred.Pred.{Pred}
use Rattle.tcl_lang.specs.declared.pred.Pred.TheVariants.{Alg, Rng}
use Rattle.tcl_lang.specs.declared.pred.Line.{Line}
use Rattle.tcl_lang.specs.declared.pred.Line.TheVariants.{Input, Pre, Step, Assert, Assume, Cut, Post}
use Rattle.tcl_lang.specs.declared.variable.Variable.{Variable}
use Rattle.tcl_lang.specs.Program.{VersionedProgram}
use Rattle.tcl_lang.specs.Types.{IsTy, is_ty}
use Rattle.tcl_lang.specs.Names.{term_atoms_step, term_atoms, range_atoms_step, range_atoms, line_atoms}
use Rattle.tcl_lang.specs.Typing.{is_sound_literal, allows_amount}
use Rattle.tcl_lang.specs.Shape.{is_atom, is_range_term_step, is_range_term, is_range_step, is_range, is_stated, is_amount, is_instruction, is_line}
use Rattle.tcl_lang.specs.Form.{IsWellFormed}
use Rattle.tcl_lang.proofs.TypedStores.{is_ty_sound, is_in_type_sound, word_value}
use Rattle.tcl_lang.proofs.TypedRuns.{line_typed, line_shape, instruction_shape}
use Rattle.tcl_measure.specs.SoundModulus.{StatesSound, HasSoundModulus}
use Rattle.tcl_measure.proofs.Moduli.{modulus_at}
use Rattle.tcl_algebra.specs.Row.{atom_at, type_in, type_of}
use Rattle.tcl_algebra.specs.Equations.{instruction_in, predicate_in, operand_step, operand_of, pair_of, equalities_step, equalities_of}
use Rattle.tcl_algebra.specs.Sound.{is_small, are_small, IsSoundPredicate, IsSoundInstruction}

-- a sound literal is a word's value, and so small
literal_ty : (T : Ty) (n : ℤ) → is_atom (atom.Lit T n) ≡ true → IsTy T
literal_ty T n e =
    let first = and_parts (is_ty T && int_lt (neg_ℤ (pos (2 ^ 127))) n) (int_lt n (pos (2 ^ 127))) e in
    is_ty_sound T (and_parts (is_ty T) (int_lt (neg_ℤ (pos (2 ^ 127))) n) first.0).0

le_test : (a b : ℕ) → a ≤ b → nat_le a b ≡ true
le_test a b h = grind (arith, nat_tests)

atom_small : (a : Atom) → is_sound_literal a ≡ true → is_atom a ≡ true → is_small a ≡ true
atom_small (atom.Var v) s i = refl
atom_small (atom.Lit T n) s i =
    let word = word_value T.signed T.width n (literal_ty T n i).1 (is_in_type_sound T n s) in
    le_test (unsigned_abs n) (2 ^ 64) (omega (arith, ints, word.least, word.below))

-- the operand that a range term is
small_operand : Option Atom → Bool
small_operand None = true
small_operand (Some a) = is_small a

abbrev TermSmall : RngTerm → Type 0
TermSmall t = list_all is_sound_literal (term_atoms t) ≡ true → is_range_term t ≡ true → small_operand (operand_of t) ≡ true

abbrev SmallTerm : Type 0
SmallTerm = (t : RngTerm) × TermSmall t

term_small : (y : RngTerm-F SmallTerm) → TermSmall (roll-RngTerm (map-RngTerm SmallTerm RngTerm (λ e. e.0) y))
unfolding small_operand
term_small (term_layer.Leaf a) s i =
    let sound = and_parts (is_sound_literal a) true (ap (list_all is_sound_literal) (sym (fold-roll-RngTerm (List Atom) term_atoms_step (term_layer.Leaf a))) ∙ s) in
    let shape : is_atom a ≡ true = sym (fold-roll-RngTerm Bool is_range_term_step (term_layer.Leaf a)) ∙ i in
    ap small_operand (fold-roll-RngTerm (Option Atom) operand_step (term_layer.Leaf a)) ∙ atom_small a sound.0 shape
term_small (term_layer.Neg t) s i = ap small_operand (fold-roll-RngTerm (Option Atom) operand_step (term_layer.Neg t.0))
term_small (term_layer.Flip t) s i = ap small_operand (fold-roll-RngTerm (Option Atom) operand_step (term_layer.Flip t.0))
term_small (term_layer.Bin op t u) s i = ap small_operand (fold-roll-RngTerm (Option Atom) operand_step (term_layer.Bin op t.0 u.0))
term_small (term_layer.Cast T t) s i = ap small_operand (fold-roll-RngTerm (Option Atom) operand_step (term_layer.Cast T t.0))

term_has : (t : RngTerm) → TermSmall t
term_has = ind-RngTerm TermSmall (λ x y is. subst (λ z. TermSmall (roll-RngTerm z)) is (term_small y))

-- the pairs of a range predicate
pair_small : (op : CmpOp) (a b : Option Atom) → small_operand a ≡ true → small_operand b ≡ true → list_all are_small (pair_of op a b) ≡ true
unfolding small_operand
pair_small cmp.Eq (Some a) (Some b) h k = and_from (is_small a && is_small b) true (and_from (is_small a) (is_small b) h k) refl
pair_small cmp.Eq (Some a) None h k = refl
pair_small cmp.Eq None b h k = refl
pair_small _ a b h k = refl

abbrev PredSmall : RngPred → Type 0
PredSmall p = list_all is_sound_literal (range_atoms p) ≡ true → is_range p ≡ true → list_all are_small (equalities_of p) ≡ true

abbrev SmallPred : Type 0
SmallPred = (p : RngPred) × PredSmall p

small_at : (y : RngPred-F RngPred) (atoms : List Atom) (shape : Bool) (pairs : List (Atom × Atom)) → range_atoms (roll-RngPred y) ≡ atoms → is_range (roll-RngPred y) ≡ shape → equalities_of (roll-RngPred y) ≡ pairs → (list_all is_sound_literal atoms ≡ true → shape ≡ true → list_all are_small pairs ≡ true) → PredSmall (roll-RngPred y)
small_at y atoms shape pairs are shaped is h s i =
    ap (list_all are_small) is ∙ h (ap (list_all is_sound_literal) (sym are) ∙ s) (sym shaped ∙ i)

all_parts : (xs ys : List Atom) → list_all is_sound_literal (xs ++ ys) ≡ true → (list_all is_sound_literal xs ≡ true) × (list_all is_sound_literal ys ≡ true)
all_parts xs ys e = and_parts (list_all is_sound_literal xs) (list_all is_sound_literal ys) (sym (list_all-append is_sound_literal xs ys) ∙ e)

pred_small : (y : RngPred-F SmallPred) → PredSmall (roll-RngPred (map-RngPred SmallPred RngPred (λ e. e.0) y))
pred_small pred_layer.True =
    small_at pred_layer.True [] true [] (fold-roll-RngPred (List Atom) range_atoms_step pred_layer.True) (fold-roll-RngPred Bool is_range_step pred_layer.True)
    (fold-roll-RngPred (List (Atom × Atom)) equalities_step pred_layer.True) (λ s i. refl)
pred_small pred_layer.False =
    small_at pred_layer.False [] true [] (fold-roll-RngPred (List Atom) range_atoms_step pred_layer.False) (fold-roll-RngPred Bool is_range_step pred_layer.False)
    (fold-roll-RngPred (List (Atom × Atom)) equalities_step pred_layer.False) (λ s i. refl)
pred_small (pred_layer.Cmp op t u) =
    small_at (pred_layer.Cmp op t u) (term_atoms t ++ term_atoms u) (is_range_term t && is_range_term u) (pair_of op (operand_of t) (operand_of u))
    (fold-roll-RngPred (List Atom) range_atoms_step (pred_layer.Cmp op t u)) (fold-roll-RngPred Bool is_range_step (pred_layer.Cmp op t u))
    (fold-roll-RngPred (List (Atom × Atom)) equalities_step (pred_layer.Cmp op t u))
    (λ s i. let a = all_parts (term_atoms t) (term_atoms u) s in let b = and_parts (is_range_term t) (is_range_term u) i in
    pair_small op (operand_of t) (operand_of u) (term_has t a.0 b.0) (term_has u a.1 b.1))
pred_small (pred_layer.Not p) =
    small_at (pred_layer.Not p.0) (range_atoms p.0) (is_range p.0) [] (fold-roll-RngPred (List Atom) range_atoms_step (pred_layer.Not p.0)) (fold-roll-RngPred Bool is_range_step (pred_layer.Not p.0))
    (fold-roll-RngPred (List (Atom × Atom)) equalities_step (pred_layer.Not p.0)) (λ s i. refl)
pred_small (pred_layer.Both p q) =
    small_at (pred_layer.Both p.0 q.0) (range_atoms p.0 ++ range_atoms q.0) (is_range p.0 && is_range q.0) (equalities_of p.0 ++ equalities_of q.0)
    (fold-roll-RngPred (List Atom) range_atoms_step (pred_layer.Both p.0 q.0)) (fold-roll-RngPred Bool is_range_step (pred_layer.Both p.0 q.0))
    (fold-roll-RngPred (List (Atom × Atom)) equalities_step (pred_layer.Both p.0 q.0))
    (λ s i. let a = all_parts (range_atoms p.0) (range_atoms q.0) s in let b = and_parts (is_range p.0) (is_range q.0) i in
    list_all-append are_small (equalities_of p.0) (equalities_of q.0) ∙ and_from (list_all are_small (equalities_of p.0)) (list_all are_small (equalities_of q.0)) (p.1 a.0 b.0) (q.1 a.1 b.1))
pred_small (pred_layer.Either p q) =
    small_at (pred_layer.Either p.0 q.0) (range_atoms p.0 ++ range_atoms q.0) (is_range p.0 && is_range q.0) []
    (fold-roll-RngPred (List Atom) range_atoms_step (pred_layer.Either p.0 q.0)) (fold-roll-RngPred Bool is_range_step (pred_layer.Either p.0 q.0))
    (fold-roll-RngPred (List (Atom × Atom)) equalities_step (pred_layer.Either p.0 q.0)) (λ s i. refl)

pred_has : (p : RngPred) → PredSmall p
pred_has = ind-RngPred PredSmall (λ x y is. subst (λ z. PredSmall (roll-RngPred z)) is (pred_small y))

-- the predicate of a line
stated_sound : (q : Pred) → list_all is_sound_literal (line_atoms (Pre q)) ≡ true → is_stated (Some q) ≡ true → StatesSound (Some q) → IsSoundPredicate q
stated_sound (Alg f) s i m = m
stated_sound (Rng p) s i m = pred_has p s i

line_sound : (l : Line) → list_all is_sound_literal (line_atoms l) ≡ true → is_line l ≡ true → HasSoundModulus l → IfSome (predicate_in (Some l)) IsSoundPredicate
line_sound (Input T x) s i m = tt
line_sound (Pre q) s i m = stated_sound q s i m
line_sound (Step j) s i m = tt
line_sound (Assert q) s i m = stated_sound q s i m
line_sound (Assume q) s i m = stated_sound q s i m
line_sound (Cut q) s i m = stated_sound q s i m
line_sound (Post q) s i m = stated_sound q s i m

pub predicate_sound : (p : VersionedProgram) (k : ℕ) (o : Option Line) → IsWellFormed p → slice_get p.lines k ≡ o → IfSome (predicate_in o) IsSoundPredicate
predicate_sound p k None w at = tt
predicate_sound p k (Some l) w at =
    line_sound l (not-false (list_all is_sound_literal (line_atoms l)) (line_typed (length p.variables) p.lines k l w.runnable.typed at).literals)
    (line_shape (length p.variables) p.lines k l w.runnable at) (modulus_at p k l w at)

-- the instruction of a line
amount_small : (op : Op) (T : Ty) (n : ℕ) → allows_amount op T n ≡ true → is_amount op n ≡ true → T.width ≤ 64 → n ≤ 64
amount_small Shl T n a i h = grind (arith, nat_tests)
amount_small Split T n a i h = grind (arith, nat_tests, and_parts (nat_lt 0 n) (nat_lt n T.width) a)
amount_small _ T n a i h = grind (arith, nat_tests)

variable_ty : (vs : List Variable) (v : ℕ) → All (λ x. IsTy x.ty) vs → IsTy (type_in (slice_get vs v))
variable_ty [] v h = (omega arith, omega arith)
variable_ty (x ∷ vs) zero h = h 0 x (omega arith)
variable_ty (x ∷ vs) (suc v) h = variable_ty vs v (λ k d less. h (suc k) d (omega arith))

source_ty : (vs : List Variable) (atoms : List Atom) → All (λ x. IsTy x.ty) vs → list_all is_atom atoms ≡ true → IsTy (type_of vs (atom_at atoms 0))
source_ty vs [] h a = (omega arith, omega arith)
source_ty vs (atom.Var v ∷ atoms) h a = variable_ty vs v h
source_ty vs (atom.Lit T n ∷ atoms) h a = literal_ty T n (and_parts (is_atom (atom.Lit T n)) (list_all is_atom atoms) a).0

shape_amount : (i : Instr) → is_instruction i ≡ true → is_amount i.op i.amount ≡ true
shape_amount i e = (and_parts _ (is_amount i.op i.amount) e).1

pub instruction_sound : (p : VersionedProgram) (k : ℕ) (o : Option Line) → IsWellFormed p → slice_get p.lines k ≡ o → IfSome (instruction_in o) (IsSoundInstruction p.variables)
instruction_sound p k None w at = tt
instruction_sound p k (Some (Step i)) w at =
    let shaped = line_shape (length p.variables) p.lines k (Step i) w.runnable at in
    let shape = instruction_shape i shaped in
    let typed = line_typed (length p.variables) p.lines k (Step i) w.runnable.typed at in
    record {
      word = shape.ty;
      amount = amount_small i.op i.ty i.amount typed.amount (shape_amount i shaped) shape.ty.1;
      source = source_ty p.variables i.args w.words shape.atoms;
    }
instruction_sound p k (Some (Input T x)) w at = tt
instruction_sound p k (Some (Pre q)) w at = tt
instruction_sound p k (Some (Assert q)) w at = tt
instruction_sound p k (Some (Assume q)) w at = tt
instruction_sound p k (Some (Cut q)) w at = tt
instruction_sound p k (Some (Post q)) w at = tt
