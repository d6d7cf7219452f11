-- A versioned line has the shape of its line, and is well typed where the line is.
use Rattle.std.proofs.Common.{◌≡◌, ℕ, suc, ◌+◌, ◌<◌, refl, ◌∙◌, ap, arith, Bool, true, false, not, cond, ◌&&◌, ◌||◌, nat_eq, List, [], ◌∷◌, length, map, slice_index, Option, Some, None}
use Rattle.std.specs.Option.{is_some, is_none}
use Rattle.std.specs.List.{list_all, list_any}
use Rattle.std.proofs.lemmas.Bool.{or_parts}
use Rattle.std.proofs.lemmas.Bool.Decides.{nat_tests}
use Rattle.std.proofs.lemmas.List.{length-map}
use Rattle.tcl_lang.specs.declared.ty.Ty.{Ty}
use Rattle.tcl_lang.specs.declared.instr.Atom.{Atom}
use Rattle.tcl_lang.specs.declared.instr.Atom.TheVariants.{Var, Lit}
use Rattle.tcl_lang.specs.declared.instr.Instr.{Instr}
use Rattle.tcl_lang.specs.declared.reason.Reason.{Reason}
use Rattle.tcl_lang.specs.declared.term.Term.{Term, Term-F}
use Rattle.tcl_lang.specs.declared.term.Term.TheOpen as layer
use Rattle.tcl_lang.specs.declared.range.RngTerm.{RngTerm, RngTerm-F}
use Rattle.tcl_lang.specs.declared.range.RngTerm.TheOpen as range_layer
use Rattle.tcl_lang.specs.declared.range.RngPred.{RngPred, RngPred-F}
use Rattle.tcl_lang.specs.declared.range.RngPred.TheOpen as pred_layer
use Rattle.tcl_lang.specs.declared.pred.Pred.{Pred}
use Rattle.tcl_lang.specs.declared.pred.Pred.TheVariants.{Alg, Rng}
use Rattle.tcl_lang.specs.declared.pred.Line.{Line}
use Rattle.tcl_lang.specs.declared.pred.Line.TheVariants.{Input, Pre, Step, Assert, Assume, Cut, Post}
use Rattle.tcl_lang.specs.Types.{is_ty}
use Rattle.tcl_lang.specs.Line.{predicate_of, instruction_of}
use Rattle.tcl_lang.specs.Names.{term_names, term_atoms, range_atoms, predicate_atoms, predicate_names, stated_atoms, stated_names, line_atoms, used_names}
use Rattle.tcl_lang.specs.Instruction.{result_count, operand_count}
use Rattle.tcl_lang.specs.Shape.{is_atom, is_term_step, is_term, is_range_term_step, is_range_term, is_range_step, is_range, is_parts, is_predicate, is_amount, is_line, stage_of}
use Rattle.tcl_lang.specs.Typing.{type_at, atom_type, allows_line, allows_line_amount, has_undefined, is_sound_literal, has_unsound_literal, operand_types, suits, operands_suit, common_type, type_step, range_type, sides_step, sides_agree, predicate_agrees, stated_agrees, agrees_in_types, has_twice, repeats, has_sound_modulus, reason_of}
use Rattle.tcl_lang.specs.Versions.{Versions, version_atom, version_term, version_range_term, version_range, version_predicate, version_line, numbers_from}
use Rattle.tcl_lang.proofs.TypedRuns.{HasNoReason}
use Rattle.tcl_lang.proofs.TermFolds.{renamed, any_parts, term_versions, term_local}
use Rattle.tcl_lang.proofs.RangeFolds.{renamed_range, is_marked_range, range_versions, range_local, renamed_pred, own_atoms, pred_versions, pred_named, pred_local}
use Rattle.tcl_lang.proofs.Renaming.{bad_atom, any_atoms, stated_pred, stated_instr, at_versions, line_named}
use Rattle.tcl_lang.proofs.Versioning.{undefined}

-- the shape
any_none : {X : Type 0} (xs : List X) → list_any (λ x. false) xs ≡ false
any_none [] = refl
any_none (x ∷ xs) = any_none xs

term_kept : (y : Term-F Bool) (current : List ℕ) → is_term_step (renamed (slice_index current) y) ≡ is_term_step y
term_kept (layer.Var x) current = refl
term_kept (layer.Num n) current = refl
term_kept (layer.Neg a) current = refl
term_kept (layer.Add a b) current = refl
term_kept (layer.Sub a b) current = refl
term_kept (layer.Mul a b) current = refl
term_kept (layer.Pow a k) current = refl

term_shape : (current : List ℕ) (t : Term) → is_term (version_term current t) ≡ is_term t
term_shape current t =
    term_versions is_term_step current t
    ∙ term_local (λ y. is_term_step (renamed (slice_index current) y)) is_term_step (λ x. false) (λ y e. term_kept y current) t (any_none (term_names t))

atom_kept : (current : List ℕ) (atom : Atom) → is_atom (version_atom current atom) ≡ is_atom atom
atom_kept current (Var x) = refl
atom_kept current (Lit T n) = refl

range_kept : (current : List ℕ) (y : RngTerm-F Bool) → is_range_term_step (renamed_range (version_atom current) y) ≡ is_range_term_step y
range_kept current (range_layer.Leaf atom) = atom_kept current atom
range_kept current (range_layer.Neg a) = refl
range_kept current (range_layer.Flip a) = refl
range_kept current (range_layer.Bin op a b) = refl
range_kept current (range_layer.Cast T a) = refl

range_term_shape : (current : List ℕ) (t : RngTerm) → is_range_term (version_range_term current t) ≡ is_range_term t
range_term_shape current t =
    range_versions is_range_term_step current t
    ∙ range_local (λ y. is_range_term_step (renamed_range (version_atom current) y)) is_range_term_step (λ x. false) (λ y e. range_kept current y) t (any_none (term_atoms t))

pred_kept : (current : List ℕ) (y : RngPred-F Bool) → is_range_step (renamed_pred (version_range_term current) y) ≡ is_range_step y
pred_kept current pred_layer.True = refl
pred_kept current pred_layer.False = refl
pred_kept current (pred_layer.Cmp op t u) =
    ap (λ b. b && is_range_term (version_range_term current u)) (range_term_shape current t) ∙ ap (λ b. is_range_term t && b) (range_term_shape current u)
pred_kept current (pred_layer.Not a) = refl
pred_kept current (pred_layer.Both a b) = refl
pred_kept current (pred_layer.Either a b) = refl

range_shape : (current : List ℕ) (t : RngPred) → is_range (version_range current t) ≡ is_range t
range_shape current t =
    pred_versions is_range_step current t
    ∙ pred_local (λ y. is_range_step (renamed_pred (version_range_term current) y)) is_range_step (λ x. false) (λ y e. pred_kept current y) t (any_none (range_atoms t))

predicate_shape : (current : List ℕ) (p : Pred) → is_predicate (version_predicate current p) ≡ is_predicate p
predicate_shape current (Alg p) =
    ap (λ b. b && is_term (version_term current p.right) && is_parts p.modulus) (term_shape current p.left)
    ∙ ap (λ b. is_term p.left && b && is_parts p.modulus) (term_shape current p.right)
predicate_shape current (Rng p) = range_shape current p

numbers_length : (n : ℕ) (xs : List ℕ) → length (numbers_from n xs) ≡ length xs
numbers_length n [] = refl
numbers_length n (x ∷ xs) = ap suc (numbers_length (n + 1) xs)

all_kept : {X : Type 0} (p : X → Bool) (r : X → X) → ((x : X) → p (r x) ≡ p x) → (xs : List X) → list_all p (map r xs) ≡ list_all p xs
all_kept p r e [] = refl
all_kept p r e (x ∷ xs) = ap (λ b. b && list_all p (map r xs)) (e x) ∙ ap (λ b. p x && b) (all_kept p r e xs)

pub version_shape : (v : Versions) (l : Line) → is_line (version_line v l) ≡ is_line l
version_shape v (Input T x) = refl
version_shape v (Pre p) = predicate_shape v.current p
version_shape v (Step i) =
    let m = length v.variables in
    let args = map (version_atom v.current) i.args in
    ap (λ n. is_ty i.ty && nat_eq n (result_count i.op) && nat_eq (length args) (operand_count i.op) && list_all is_atom args && is_amount i.op i.amount) (numbers_length m i.outs)
    ∙ ap (λ n. is_ty i.ty && nat_eq (length i.outs) (result_count i.op) && nat_eq n (operand_count i.op) && list_all is_atom args && is_amount i.op i.amount) (length-map i.args (version_atom v.current))
    ∙ ap (λ b. is_ty i.ty && nat_eq (length i.outs) (result_count i.op) && nat_eq (length i.args) (operand_count i.op) && b && is_amount i.op i.amount) (all_kept is_atom (version_atom v.current) (atom_kept v.current) i.args)
version_shape v (Assert p) = predicate_shape v.current p
version_shape v (Assume p) = predicate_shape v.current p
version_shape v (Cut p) = predicate_shape v.current p
version_shape v (Post p) = predicate_shape v.current p

pub version_stage : (v : Versions) (l : Line) → stage_of (version_line v l) ≡ stage_of l
version_stage v (Input T x) = refl
version_stage v (Pre p) = refl
version_stage v (Step i) = refl
version_stage v (Assert p) = refl
version_stage v (Assume p) = refl
version_stage v (Cut p) = refl
version_stage v (Post p) = refl

-- typing: variables have the types of the names that mean them
abbrev pub HaveTypes : List (Option Ty) → List ℕ → List (Option Ty) → Type 0
HaveTypes types current own = (x : ℕ) → undefined types x ≡ false → type_at own (slice_index current x) ≡ type_at types x

atom_types : (types : List (Option Ty)) (current : List ℕ) (own : List (Option Ty)) → HaveTypes types current own → (atom : Atom) → bad_atom (undefined types) atom ≡ false → atom_type own (version_atom current atom) ≡ atom_type types atom
atom_types types current own same (Var x) e = same x e
atom_types types current own same (Lit T n) e = refl

type_agrees : (types : List (Option Ty)) (current : List ℕ) (own : List (Option Ty)) → HaveTypes types current own → (y : RngTerm-F (Option Ty)) → is_marked_range (bad_atom (undefined types)) y ≡ false → type_step own (renamed_range (version_atom current) y) ≡ type_step types y
type_agrees types current own same (range_layer.Leaf atom) e = atom_types types current own same atom e
type_agrees types current own same (range_layer.Neg a) e = refl
type_agrees types current own same (range_layer.Flip a) e = refl
type_agrees types current own same (range_layer.Bin op a b) e = refl
type_agrees types current own same (range_layer.Cast T a) e = refl

range_types : (types : List (Option Ty)) (current : List ℕ) (own : List (Option Ty)) → HaveTypes types current own → (t : RngTerm) → list_any (bad_atom (undefined types)) (term_atoms t) ≡ false → range_type own (version_range_term current t) ≡ range_type types t
range_types types current own same t e =
    range_versions (type_step own) current t
    ∙ range_local (λ y. type_step own (renamed_range (version_atom current) y)) (type_step types) (bad_atom (undefined types)) (type_agrees types current own same) t e

sides_kept : (types : List (Option Ty)) (current : List ℕ) (own : List (Option Ty)) → HaveTypes types current own → (y : RngPred-F Bool) → list_any (bad_atom (undefined types)) (own_atoms y) ≡ false → sides_step own (renamed_pred (version_range_term current) y) ≡ sides_step types y
sides_kept types current own same pred_layer.True e = refl
sides_kept types current own same pred_layer.False e = refl
sides_kept types current own same (pred_layer.Cmp op t u) e =
    let parts = any_parts (bad_atom (undefined types)) (term_atoms t) (term_atoms u) e in
    ap (λ o. is_some (common_type o (range_type own (version_range_term current u)))) (range_types types current own same t parts.0)
    ∙ ap (λ o. is_some (common_type (range_type types t) o)) (range_types types current own same u parts.1)
sides_kept types current own same (pred_layer.Not a) e = refl
sides_kept types current own same (pred_layer.Both a b) e = refl
sides_kept types current own same (pred_layer.Either a b) e = refl

sides_same : (types : List (Option Ty)) (current : List ℕ) (own : List (Option Ty)) → HaveTypes types current own → (t : RngPred) → list_any (bad_atom (undefined types)) (range_atoms t) ≡ false → sides_agree own (version_range current t) ≡ sides_agree types t
sides_same types current own same t e =
    pred_versions (sides_step own) current t
    ∙ pred_local (λ y. sides_step own (renamed_pred (version_range_term current) y)) (sides_step types) (bad_atom (undefined types)) (sides_kept types current own same) t e

predicate_kept : (types : List (Option Ty)) (current : List ℕ) (own : List (Option Ty)) → HaveTypes types current own → (p : Pred) → list_any (undefined types) (predicate_names p) ≡ false → predicate_agrees own (version_predicate current p) ≡ predicate_agrees types p
predicate_kept types current own same (Alg p) e = refl
predicate_kept types current own same (Rng p) e = sides_same types current own same p (any_atoms (undefined types) (range_atoms p) ∙ e)

suits_kept : (types : List (Option Ty)) (current : List ℕ) (own : List (Option Ty)) → HaveTypes types current own → (Ts : List (Option Ty)) (atoms : List Atom) → list_any (bad_atom (undefined types)) atoms ≡ false → operands_suit own Ts (map (version_atom current) atoms) ≡ operands_suit types Ts atoms
suits_kept types current own same [] atoms e = refl
suits_kept types current own same (T ∷ Ts) [] e = refl
suits_kept types current own same (T ∷ Ts) (atom ∷ atoms) e =
    let parts = or_parts (bad_atom (undefined types) atom) (list_any (bad_atom (undefined types)) atoms) e in
    ap (λ o. suits T o && operands_suit own Ts (map (version_atom current) atoms)) (atom_types types current own same atom parts.0)
    ∙ ap (λ b. suits T (atom_type types atom) && b) (suits_kept types current own same Ts atoms parts.1)

stated_agree : (types : List (Option Ty)) (v : Versions) (own : List (Option Ty)) → HaveTypes types v.current own → (s : Option Pred) (i : Option Instr) → list_any (undefined types) (stated_names s i) ≡ false → stated_agrees own (stated_pred v s) (stated_instr v i) ≡ stated_agrees types s i
stated_agree types v own same (Some p) i e = predicate_kept types v.current own same p e
stated_agree types v own same None (Some i) e = suits_kept types v.current own same (operand_types i.op i.ty) i.args (any_atoms (undefined types) i.args ∙ e)
stated_agree types v own same None None e = refl

agrees_kept : (types : List (Option Ty)) (v : Versions) (own : List (Option Ty)) → HaveTypes types v.current own → (l : Line) → has_undefined types l ≡ false → agrees_in_types own (version_line v l) ≡ agrees_in_types types l
agrees_kept types v own same l e = at_versions (stated_agrees own) v l ∙ stated_agree types v own same (predicate_of l) (instruction_of l) e

-- kind, amount and modulus say nothing of names
kind_kept : (v : Versions) (l : Line) → allows_line (version_line v l) ≡ allows_line l
kind_kept v (Input T x) = refl
kind_kept v (Pre p) = refl
kind_kept v (Step i) = refl
kind_kept v (Assert p) = refl
kind_kept v (Assume p) = refl
kind_kept v (Cut p) = refl
kind_kept v (Post p) = refl

amount_kept : (v : Versions) (l : Line) → allows_line_amount (version_line v l) ≡ allows_line_amount l
amount_kept v (Input T x) = refl
amount_kept v (Pre p) = refl
amount_kept v (Step i) = refl
amount_kept v (Assert p) = refl
amount_kept v (Assume p) = refl
amount_kept v (Cut p) = refl
amount_kept v (Post p) = refl

sound_kept : (current : List ℕ) (p : Pred) → has_sound_modulus (Some (version_predicate current p)) ≡ has_sound_modulus (Some p)
sound_kept current (Alg p) = refl
sound_kept current (Rng p) = refl

none_kept : (v : Versions) (s : Option Pred) → has_sound_modulus (stated_pred v s) ≡ has_sound_modulus s
none_kept v None = refl
none_kept v (Some p) = sound_kept v.current p

modulus_kept : (v : Versions) (l : Line) → has_sound_modulus (predicate_of (version_line v l)) ≡ has_sound_modulus (predicate_of l)
modulus_kept v l = at_versions (λ s i. has_sound_modulus s) v l ∙ none_kept v (predicate_of l)

-- literals stay
literal_kept : (current : List ℕ) (atom : Atom) → is_sound_literal (version_atom current atom) ≡ is_sound_literal atom
literal_kept current (Var x) = refl
literal_kept current (Lit T n) = refl

predicate_literals : (current : List ℕ) (p : Pred) → list_all is_sound_literal (predicate_atoms (version_predicate current p)) ≡ list_all is_sound_literal (predicate_atoms p)
predicate_literals current (Alg p) = refl
predicate_literals current (Rng p) = ap (list_all is_sound_literal) (pred_named current p) ∙ all_kept is_sound_literal (version_atom current) (literal_kept current) (range_atoms p)

stated_literals : (v : Versions) (s : Option Pred) (i : Option Instr) → list_all is_sound_literal (stated_atoms (stated_pred v s) (stated_instr v i)) ≡ list_all is_sound_literal (stated_atoms s i)
stated_literals v (Some p) i = predicate_literals v.current p
stated_literals v None (Some i) = all_kept is_sound_literal (version_atom v.current) (literal_kept v.current) i.args
stated_literals v None None = refl

literals_kept : (v : Versions) (l : Line) → list_all is_sound_literal (line_atoms (version_line v l)) ≡ list_all is_sound_literal (line_atoms l)
literals_kept v l = at_versions (λ s i. list_all is_sound_literal (stated_atoms s i)) v l ∙ stated_literals v (predicate_of l) (instruction_of l)

-- the names that a line reads are defined
still_defined : (types : List (Option Ty)) (current : List ℕ) (own : List (Option Ty)) → HaveTypes types current own → (xs : List ℕ) → list_any (undefined types) xs ≡ false → list_any (undefined own) (map (slice_index current) xs) ≡ false
still_defined types current own same [] e = refl
still_defined types current own same (x ∷ xs) e =
    let parts = or_parts (undefined types x) (list_any (undefined types) xs) e in
    ap (λ o. is_none o || list_any (undefined own) (map (slice_index current) xs)) (same x parts.0)
    ∙ ap (λ b. b || list_any (undefined own) (map (slice_index current) xs)) parts.0
    ∙ still_defined types current own same xs parts.1

-- no variable is defined twice
later_number : (m n : ℕ) (xs : List ℕ) → m < n → list_any (λ other. nat_eq m other) (numbers_from n xs) ≡ false
later_number m n [] h = refl
later_number m n (x ∷ xs) h = ap (λ b. b || list_any (λ other. nat_eq m other) (numbers_from (n + 1) xs)) (apart m n h) ∙ later_number m (n + 1) xs (omega arith)
  where
    apart : (m n : ℕ) → m < n → nat_eq m n ≡ false
    apart m n h = grind (arith, nat_tests)

no_twice : (n : ℕ) (xs : List ℕ) → has_twice (numbers_from n xs) ≡ false
no_twice n [] = refl
no_twice n (x ∷ xs) = ap (λ b. b || has_twice (numbers_from (n + 1) xs)) (later_number n (n + 1) xs (omega arith)) ∙ no_twice (n + 1) xs

once_kept : (own : List (Option Ty)) (v : Versions) (l : Line) → type_at own (length v.variables) ≡ None → repeats own (version_line v l) ≡ false
once_kept own v (Input T x) e = ap is_some e
once_kept own v (Pre p) e = refl
once_kept own v (Step i) e = no_twice (length v.variables) i.outs
once_kept own v (Assert p) e = refl
once_kept own v (Assume p) e = refl
once_kept own v (Cut p) e = refl
once_kept own v (Post p) e = refl

pub version_typed : (types : List (Option Ty)) (v : Versions) (own : List (Option Ty)) (l : Line) → HaveTypes types v.current own → type_at own (length v.variables) ≡ None → HasNoReason types l → HasNoReason own (version_line v l)
version_typed types v own l same fresh n = record {
  kind = kind_kept v l ∙ n.kind;
  amount = amount_kept v l ∙ n.amount;
  defined = ap (list_any (undefined own)) (line_named v l) ∙ still_defined types v.current own same (used_names l) n.defined;
  literals = ap not (literals_kept v l) ∙ n.literals;
  agrees = agrees_kept types v own same l n.defined ∙ n.agrees;
  once = once_kept own v l fresh;
  modulus = modulus_kept v l ∙ n.modulus;
}

-- a line that has none of the reasons has no reason
pass_over : (b : Bool) (r : Reason) (o : Option Reason) → b ≡ false → cond b (Some r) o ≡ o
pass_over true r o e = absurd (cc)
pass_over false r o e = refl

pub none_of : (types : List (Option Ty)) (l : Line) → HasNoReason types l → reason_of types l ≡ None
unfolding reason_of
none_of types l n =
    pass_over (not (allows_line l)) _ _ (ap not n.kind)
    ∙ pass_over (not (allows_line_amount l)) _ _ (ap not n.amount)
    ∙ pass_over (has_undefined types l) _ _ n.defined
    ∙ pass_over (has_unsound_literal l) _ _ n.literals
    ∙ pass_over (not (agrees_in_types types l)) _ _ (ap not n.agrees)
    ∙ pass_over (repeats types l) _ _ n.once
    ∙ pass_over (not (has_sound_modulus (predicate_of l))) _ _ (ap not n.modulus)
