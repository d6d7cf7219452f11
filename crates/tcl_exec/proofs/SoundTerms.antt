-- Range terms and predicates of a well typed line can be computed.
use Rattle.std.proofs.Common.{◌≡◌, ℕ, ◌^◌, refl, sym, ◌∙◌, ap, subst, arith, pos, neg_ℤ, Bool, true, false, ◌&&◌, cond, nat_eq, List, [], ◌∷◌, ◌++◌, Option, Some, None}
use Rattle.std.specs.Prelude.{int_lt}
use Rattle.std.specs.Option.{is_some}
use Rattle.std.specs.List.{slice_get, list_all}
use Rattle.std.proofs.lemmas.Bool.{and_parts, and_from}
use Rattle.std.proofs.lemmas.Bool.Decides.{nat_tests}
use Rattle.std.proofs.lemmas.List.Folds.{list_all-append}
use Rattle.tcl_lang.specs.declared.ty.Ty.{Ty}
use Rattle.tcl_lang.specs.declared.instr.Atom.{Atom}
use Rattle.tcl_lang.specs.declared.instr.Atom.TheVariants.{Var, Lit}
use Rattle.tcl_lang.specs.declared.range.RngTerm.{RngTerm, RngTerm-F, roll-RngTerm, map-RngTerm, ind-RngTerm}
use Rattle.tcl_lang.specs.declared.range.RngTerm.TheOpen as layer
use Rattle.tcl_lang.specs.declared.range.RngTerm.TheFolds.{fold-roll-RngTerm}
use Rattle.tcl_lang.specs.declared.range.RngPred.{RngPred, RngPred-F, roll-RngPred, map-RngPred, ind-RngPred}
use Rattle.tcl_lang.specs.declared.range.RngPred.TheOpen as pred_layer
use Rattle.tcl_lang.specs.declared.range.RngPred.TheFolds.{fold-roll-RngPred}
use Rattle.tcl_lang.specs.Types.{is_ty, is_in_type, same_sign, same_type}
use Rattle.tcl_lang.specs.Names.{term_atoms_step, term_atoms, range_atoms_step, range_atoms}
use Rattle.tcl_lang.specs.Shape.{is_atom, is_range_term_step, is_range_term, is_range_step, is_range}
use Rattle.tcl_lang.specs.Typing as typing
use Rattle.tcl_lang.specs.Typing.{type_at, common_type, type_step, range_type, sides_step, sides_agree, is_sound_literal}
use Rattle.tcl_lang.proofs.TypedStores.{same_type_is, some_same}
use Rattle.tcl_exec.specs.Sound.{atom_type, sound_step, sound_type, sound_pred_step, is_sound_pred}

-- each name that has a type before a line is a variable of that type
abbrev pub AreTold : List (Option Ty) → List Ty → Type 0
AreTold types Ts = (v : ℕ) (T : Ty) → type_at types v ≡ Some T → slice_get Ts v ≡ Some T

-- tests of types
same_sign_self : (s : Bool) → same_sign s s ≡ true
same_sign_self true = refl
same_sign_self false = refl

nat_self : (n : ℕ) → nat_eq n n ≡ true
nat_self n = grind (arith, nat_tests)

same_type_self : (T : Ty) → same_type T T ≡ true
same_type_self T = and_from (same_sign T.signed T.signed) (nat_eq T.width T.width) (same_sign_self T.signed) (nat_self T.width)

-- two sides of one type
same_given : (b : Bool) (U T : Ty) → cond b (Some U) None ≡ Some T → (b ≡ true) × (U ≡ T)
same_given true U T e = (refl, some_same U T e)
same_given false U T e = absurd (cc)

common_at : (o p : Option Ty) (T : Ty) → common_type o p ≡ Some T → (o ≡ Some T) × (p ≡ Some T)
common_at None p T e = absurd (cc)
common_at (Some U) None T e = absurd (cc)
common_at (Some U) (Some V) T e =
    let g = same_given (same_type U V) U T e in
    (ap (λ (x : Ty). Some x) g.1, ap (λ (x : Ty). Some x) (sym (same_type_is U V g.0) ∙ g.1))

common_same : (o p : Option Ty) (T : Ty) → o ≡ Some T → p ≡ Some T → common_type o p ≡ Some T
common_same o p T e f =
    ap (λ (x : Option Ty). common_type x p) e ∙ ap (λ (x : Option Ty). common_type (Some T) x) f
    ∙ ap (λ (b : Bool). cond b (Some T) None) (same_type_self T)

some_of : (o : Option Ty) → is_some o ≡ true → (T : Ty) × (o ≡ Some T)
some_of None e = absurd (cc)
some_of (Some T) e = (T, refl)

is_some_of : (o : Option Ty) (T : Ty) → o ≡ Some T → is_some o ≡ true
is_some_of o T e = ap is_some e

-- operands
leaf_sound : (types : List (Option Ty)) (Ts : List Ty) → AreTold types Ts → (atom : Atom) (T : Ty) → is_atom atom ≡ true → list_all is_sound_literal (atom ∷ []) ≡ true → typing.atom_type types atom ≡ Some T → atom_type Ts atom ≡ Some T
leaf_sound types Ts told (Var v) T s a e = told v T e
leaf_sound types Ts told (Lit U n) T s a e =
    let outer = and_parts (is_ty U && int_lt (neg_ℤ (pos (2 ^ 127))) n) (int_lt n (pos (2 ^ 127))) s in
    let shape = and_parts (is_ty U) (int_lt (neg_ℤ (pos (2 ^ 127))) n) outer.0 in
    let value = and_parts (is_in_type U n) true a in
    ap (λ (b : Bool). cond b (Some U) None) (and_from (is_ty U) (is_in_type U n) shape.0 value.0) ∙ e

-- range terms
abbrev With : (RngTerm → Type 0) → Type 0
With P = (t : RngTerm) × P t

abbrev bare : (P : RngTerm → Type 0) → RngTerm-F (With P) → RngTerm-F RngTerm
bare P y = map-RngTerm (With P) RngTerm (λ e. e.0) y

abbrev TermSound : List (Option Ty) → List Ty → RngTerm → Type 0
TermSound types Ts t =
    (T : Ty) → is_range_term t ≡ true → list_all is_sound_literal (term_atoms t) ≡ true → range_type types t ≡ Some T → sound_type Ts t ≡ Some T

cast_type : (b : Bool) (U T : Ty) → cond b (Some U) None ≡ Some T → (b ≡ true) × (U ≡ T)
cast_type b U T e = same_given b U T e

-- what the folds say of a layer
layer_sound : (types : List (Option Ty)) (Ts : List Ty) → AreTold types Ts → (y : RngTerm-F (With (TermSound types Ts))) (T : Ty) → is_range_term_step (map-RngTerm RngTerm Bool is_range_term (bare (TermSound types Ts) y)) ≡ true → list_all is_sound_literal (term_atoms_step (map-RngTerm RngTerm (List Atom) term_atoms (bare (TermSound types Ts) y))) ≡ true → type_step types (map-RngTerm RngTerm (Option Ty) (range_type types) (bare (TermSound types Ts) y)) ≡ Some T → sound_step Ts (map-RngTerm RngTerm (Option Ty) (sound_type Ts) (bare (TermSound types Ts) y)) ≡ Some T
layer_sound types Ts told (layer.Leaf atom) T s a e = leaf_sound types Ts told atom T s a e
layer_sound types Ts told (layer.Neg t) T s a e = t.1 T s a e
layer_sound types Ts told (layer.Flip t) T s a e = t.1 T s a e
layer_sound types Ts told (layer.Bin op t u) T s a e =
    let shapes = and_parts (is_range_term t.0) (is_range_term u.0) s in
    let literals = and_parts (list_all is_sound_literal (term_atoms t.0)) (list_all is_sound_literal (term_atoms u.0)) (sym (list_all-append is_sound_literal (term_atoms t.0) (term_atoms u.0)) ∙ a) in
    let both = common_at (range_type types t.0) (range_type types u.0) T e in
    common_same (sound_type Ts t.0) (sound_type Ts u.0) T (t.1 T shapes.0 literals.0 both.0) (u.1 T shapes.1 literals.1 both.1)
layer_sound types Ts told (layer.Cast U t) T s a e =
    let shapes = and_parts (is_ty U) (is_range_term t.0) s in
    let given = cast_type (is_some (range_type types t.0)) U T e in
    let inner = some_of (range_type types t.0) given.0 in
    ap (λ (b : Bool). cond b (Some U) None) (and_from (is_ty U) (is_some (sound_type Ts t.0)) shapes.0 (is_some_of (sound_type Ts t.0) inner.0 (t.1 inner.0 shapes.1 a inner.1)))
    ∙ ap (λ (x : Ty). Some x) given.1

rolled_sound : (types : List (Option Ty)) (Ts : List Ty) → AreTold types Ts → (y : RngTerm-F (With (TermSound types Ts))) → TermSound types Ts (roll-RngTerm (bare (TermSound types Ts) y))
rolled_sound types Ts told y T s a e =
    let z = bare (TermSound types Ts) y in
    fold-roll-RngTerm (Option Ty) (sound_step Ts) z
    ∙ layer_sound types Ts told y T
    (sym (fold-roll-RngTerm Bool is_range_term_step z) ∙ s)
    (ap (list_all is_sound_literal) (sym (fold-roll-RngTerm (List Atom) term_atoms_step z)) ∙ a)
    (sym (fold-roll-RngTerm (Option Ty) (type_step types) z) ∙ e)

pub term_sound : (types : List (Option Ty)) (Ts : List Ty) → AreTold types Ts → (t : RngTerm) → TermSound types Ts t
term_sound types Ts told = ind-RngTerm (TermSound types Ts) (λ x y is. subst (λ z. TermSound types Ts (roll-RngTerm z)) is (rolled_sound types Ts told y))

-- range predicates
abbrev WithPred : (RngPred → Type 0) → Type 0
WithPred P = (t : RngPred) × P t

abbrev bare_pred : (P : RngPred → Type 0) → RngPred-F (WithPred P) → RngPred-F RngPred
bare_pred P y = map-RngPred (WithPred P) RngPred (λ e. e.0) y

abbrev PredSound : List (Option Ty) → List Ty → RngPred → Type 0
PredSound types Ts p =
    is_range p ≡ true → list_all is_sound_literal (range_atoms p) ≡ true → sides_agree types p ≡ true → is_sound_pred Ts p ≡ true

two_sound : (types : List (Option Ty)) (Ts : List Ty) (p q : WithPred (PredSound types Ts)) → (is_range p.0 && is_range q.0) ≡ true → list_all is_sound_literal (range_atoms p.0 ++ range_atoms q.0) ≡ true → (sides_agree types p.0 && sides_agree types q.0) ≡ true → (is_sound_pred Ts p.0 && is_sound_pred Ts q.0) ≡ true
two_sound types Ts p q s a e =
    let shapes = and_parts (is_range p.0) (is_range q.0) s in
    let literals = and_parts (list_all is_sound_literal (range_atoms p.0)) (list_all is_sound_literal (range_atoms q.0)) (sym (list_all-append is_sound_literal (range_atoms p.0) (range_atoms q.0)) ∙ a) in
    let sides = and_parts (sides_agree types p.0) (sides_agree types q.0) e in
    and_from (is_sound_pred Ts p.0) (is_sound_pred Ts q.0) (p.1 shapes.0 literals.0 sides.0) (q.1 shapes.1 literals.1 sides.1)

layer_told : (types : List (Option Ty)) (Ts : List Ty) → AreTold types Ts → (y : RngPred-F (WithPred (PredSound types Ts))) → is_range_step (map-RngPred RngPred Bool is_range (bare_pred (PredSound types Ts) y)) ≡ true → list_all is_sound_literal (range_atoms_step (map-RngPred RngPred (List Atom) range_atoms (bare_pred (PredSound types Ts) y))) ≡ true → sides_step types (map-RngPred RngPred Bool (sides_agree types) (bare_pred (PredSound types Ts) y)) ≡ true → sound_pred_step Ts (map-RngPred RngPred Bool (is_sound_pred Ts) (bare_pred (PredSound types Ts) y)) ≡ true
layer_told types Ts told pred_layer.True s a e = refl
layer_told types Ts told pred_layer.False s a e = refl
layer_told types Ts told (pred_layer.Cmp op t u) s a e =
    let shapes = and_parts (is_range_term t) (is_range_term u) s in
    let literals = and_parts (list_all is_sound_literal (term_atoms t)) (list_all is_sound_literal (term_atoms u)) (sym (list_all-append is_sound_literal (term_atoms t) (term_atoms u)) ∙ a) in
    let common = some_of (common_type (range_type types t) (range_type types u)) e in
    let both = common_at (range_type types t) (range_type types u) common.0 common.1 in
    and_from (is_some (sound_type Ts t)) (is_some (sound_type Ts u))
    (is_some_of (sound_type Ts t) common.0 (term_sound types Ts told t common.0 shapes.0 literals.0 both.0))
    (is_some_of (sound_type Ts u) common.0 (term_sound types Ts told u common.0 shapes.1 literals.1 both.1))
layer_told types Ts told (pred_layer.Not p) s a e = p.1 s a e
layer_told types Ts told (pred_layer.Both p q) s a e = two_sound types Ts p q s a e
layer_told types Ts told (pred_layer.Either p q) s a e = two_sound types Ts p q s a e

rolled_told : (types : List (Option Ty)) (Ts : List Ty) → AreTold types Ts → (y : RngPred-F (WithPred (PredSound types Ts))) → PredSound types Ts (roll-RngPred (bare_pred (PredSound types Ts) y))
rolled_told types Ts told y s a e =
    let z = bare_pred (PredSound types Ts) y in
    fold-roll-RngPred Bool (sound_pred_step Ts) z
    ∙ layer_told types Ts told y
    (sym (fold-roll-RngPred Bool is_range_step z) ∙ s)
    (ap (list_all is_sound_literal) (sym (fold-roll-RngPred (List Atom) range_atoms_step z)) ∙ a)
    (sym (fold-roll-RngPred Bool (sides_step types) z) ∙ e)

pub pred_sound : (types : List (Option Ty)) (Ts : List Ty) → AreTold types Ts → (p : RngPred) → PredSound types Ts p
pred_sound types Ts told = ind-RngPred (PredSound types Ts) (λ x y is. subst (λ z. PredSound types Ts (roll-RngPred z)) is (rolled_told types Ts told y))
