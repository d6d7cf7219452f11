-- Folds over range terms and range predicates, as over algebraic terms: a fold over a versioned one is a fold over the one
-- itself, and folds that differ at some operands alone agree where these do not stand.
use Rattle.std.proofs.Common.{◌≡◌, ℕ, refl, sym, ◌∙◌, ap, subst, Bool, false, List, [], ◌++◌, map}
use Rattle.std.specs.List.{list_any}
use Rattle.std.proofs.lemmas.Bool.{or_parts}
use Rattle.std.proofs.lemmas.List.{map-append}
use Rattle.tcl_lang.specs.declared.instr.Atom.{Atom}
use Rattle.tcl_lang.specs.declared.range.RngTerm.{RngTerm, RngTerm-F, fold-RngTerm, roll-RngTerm, map-RngTerm, ind-RngTerm}
use Rattle.tcl_lang.specs.declared.range.RngTerm.TheOpen as layer
use Rattle.tcl_lang.specs.declared.range.RngTerm.TheFolds.{fold-roll-RngTerm}
use Rattle.tcl_lang.specs.declared.range.RngTerm.TheVariants as rolled
use Rattle.tcl_lang.specs.declared.range.RngPred.{RngPred, RngPred-F, fold-RngPred, roll-RngPred, map-RngPred, ind-RngPred}
use Rattle.tcl_lang.specs.declared.range.RngPred.TheOpen as pred_layer
use Rattle.tcl_lang.specs.declared.range.RngPred.TheFolds.{fold-roll-RngPred}
use Rattle.tcl_lang.specs.declared.range.RngPred.TheVariants as pred_rolled
use Rattle.tcl_lang.specs.Names.{term_atoms_step, term_atoms, range_atoms_step, range_atoms}
use Rattle.tcl_lang.specs.Versions.{version_atom, version_range_term_step, version_range_term, version_range_step, version_range}
use Rattle.tcl_lang.proofs.TermFolds.{any_parts}

-- range terms: a fact with the term
abbrev With : (RngTerm → Type 0) → Type 0
With P = (t : RngTerm) × P t

abbrev bare : (P : RngTerm → Type 0) → RngTerm-F (With P) → RngTerm-F RngTerm
bare P y = map-RngTerm (With P) RngTerm (λ e. e.0) y

layers : {A : Type 0} (h k : RngTerm → A) (y : RngTerm-F (With (λ t. h t ≡ k t))) → map-RngTerm RngTerm A h (bare (λ t. h t ≡ k t) y) ≡ map-RngTerm RngTerm A k (bare (λ t. h t ≡ k t) y)
layers h k (layer.Leaf atom) = refl
layers h k (layer.Neg a) = ap (λ n. layer.Neg n) a.1
layers h k (layer.Flip a) = ap (λ n. layer.Flip n) a.1
layers h k (layer.Bin op a b) = ap (λ n. layer.Bin op n (h b.0)) a.1 ∙ ap (λ n. layer.Bin op (k a.0) n) b.1
layers h k (layer.Cast T a) = ap (λ n. layer.Cast T n) a.1

-- what computes layer by layer is the fold
pub range_unique : {A : Type 0} (h : RngTerm → A) (g : RngTerm-F A → A) → ((y : RngTerm-F RngTerm) → h (roll-RngTerm y) ≡ g (map-RngTerm RngTerm A h y)) → (t : RngTerm) → h t ≡ fold-RngTerm A g t
range_unique {A} h g e =
    ind-RngTerm (λ t. h t ≡ fold-RngTerm A g t)
    (λ x y is. subst (λ z. h (roll-RngTerm z) ≡ fold-RngTerm A g (roll-RngTerm z)) is
    (e (bare (λ t. h t ≡ fold-RngTerm A g t) y) ∙ ap g (layers h (fold-RngTerm A g) y) ∙ sym (fold-roll-RngTerm A g (bare (λ t. h t ≡ fold-RngTerm A g t) y))))

-- a layer with other operands
abbrev pub renamed_range : {A : Type 0} → (Atom → Atom) → RngTerm-F A → RngTerm-F A
renamed_range r (layer.Leaf atom) = layer.Leaf (r atom)
renamed_range r (layer.Neg a) = layer.Neg a
renamed_range r (layer.Flip a) = layer.Flip a
renamed_range r (layer.Bin op a b) = layer.Bin op a b
renamed_range r (layer.Cast T a) = layer.Cast T a

version_layer : (current : List ℕ) (y : RngTerm-F RngTerm) → version_range_term_step current y ≡ roll-RngTerm (renamed_range (version_atom current) y)
version_layer current (layer.Leaf atom) = sym (rolled.rolls-Leaf (version_atom current atom))
version_layer current (layer.Neg a) = sym (rolled.rolls-Neg a)
version_layer current (layer.Flip a) = sym (rolled.rolls-Flip a)
version_layer current (layer.Bin op a b) = sym (rolled.rolls-Bin op a b)
version_layer current (layer.Cast T a) = sym (rolled.rolls-Cast T a)

renamed_parts : {A : Type 0} (r : Atom → Atom) (v : RngTerm → RngTerm) (g : RngTerm → A) (y : RngTerm-F RngTerm) → map-RngTerm RngTerm A g (renamed_range r (map-RngTerm RngTerm RngTerm v y)) ≡ renamed_range r (map-RngTerm RngTerm A (λ t. g (v t)) y)
renamed_parts r v g (layer.Leaf atom) = refl
renamed_parts r v g (layer.Neg a) = refl
renamed_parts r v g (layer.Flip a) = refl
renamed_parts r v g (layer.Bin op a b) = refl
renamed_parts r v g (layer.Cast T a) = refl

-- a fold over a versioned range term
pub range_versions : {A : Type 0} (g : RngTerm-F A → A) (current : List ℕ) (t : RngTerm) → fold-RngTerm A g (version_range_term current t) ≡ fold-RngTerm A (λ y. g (renamed_range (version_atom current) y)) t
range_versions {A} g current = range_unique (λ t. fold-RngTerm A g (version_range_term current t)) (λ y. g (renamed_range (version_atom current) y)) step
  where
    step : (y : RngTerm-F RngTerm) → fold-RngTerm A g (version_range_term current (roll-RngTerm y)) ≡ g (renamed_range (version_atom current) (map-RngTerm RngTerm A (λ t. fold-RngTerm A g (version_range_term current t)) y))
    step y =
        let z = map-RngTerm RngTerm RngTerm (version_range_term current) y in
        ap (fold-RngTerm A g) (fold-roll-RngTerm RngTerm (version_range_term_step current) y ∙ version_layer current z)
        ∙ fold-roll-RngTerm A g (renamed_range (version_atom current) z)
        ∙ ap g (renamed_parts (version_atom current) (version_range_term current) (fold-RngTerm A g) y)

-- the operands of a versioned range term
pub range_named : (current : List ℕ) (t : RngTerm) → term_atoms (version_range_term current t) ≡ map (version_atom current) (term_atoms t)
range_named current t =
    range_versions term_atoms_step current t
    ∙ sym (range_unique (λ t. map (version_atom current) (term_atoms t)) (λ y. term_atoms_step (renamed_range (version_atom current) y)) step t)
  where
    parts : (y : RngTerm-F RngTerm) → map (version_atom current) (term_atoms_step (map-RngTerm RngTerm (List Atom) term_atoms y)) ≡ term_atoms_step (renamed_range (version_atom current) (map-RngTerm RngTerm (List Atom) (λ t. map (version_atom current) (term_atoms t)) y))
    parts (layer.Leaf atom) = refl
    parts (layer.Neg a) = refl
    parts (layer.Flip a) = refl
    parts (layer.Bin op a b) = map-append (version_atom current) (term_atoms a) (term_atoms b)
    parts (layer.Cast T a) = refl

    step : (y : RngTerm-F RngTerm) → map (version_atom current) (term_atoms (roll-RngTerm y)) ≡ term_atoms_step (renamed_range (version_atom current) (map-RngTerm RngTerm (List Atom) (λ t. map (version_atom current) (term_atoms t)) y))
    step y = ap (map (version_atom current)) (fold-roll-RngTerm (List Atom) term_atoms_step y) ∙ parts y

-- the layer is not an operand that the test marks
abbrev pub is_marked_range : {A : Type 0} → (Atom → Bool) → RngTerm-F A → Bool
is_marked_range bad (layer.Leaf atom) = bad atom
is_marked_range bad _ = false

abbrev Agree : (A : Type 0) → (RngTerm-F A → A) → (RngTerm-F A → A) → (Atom → Bool) → RngTerm → Type 0
Agree A f g bad t = list_any bad (term_atoms t) ≡ false → fold-RngTerm A f t ≡ fold-RngTerm A g t

-- folds that agree but at marked operands
pub range_local : {A : Type 0} (f g : RngTerm-F A → A) (bad : Atom → Bool) → ((y : RngTerm-F A) → is_marked_range bad y ≡ false → f y ≡ g y) → (t : RngTerm) → list_any bad (term_atoms t) ≡ false → fold-RngTerm A f t ≡ fold-RngTerm A g t
range_local {A} f g bad same = ind-RngTerm (Agree A f g bad) (λ x y is. subst (λ z. Agree A f g bad (roll-RngTerm z)) is (λ e. both (bare (Agree A f g bad) y) (step y (ap (list_any bad) (sym (fold-roll-RngTerm (List Atom) term_atoms_step (bare (Agree A f g bad) y))) ∙ e))))
  where
    both : (x : RngTerm-F RngTerm) → f (map-RngTerm RngTerm A (fold-RngTerm A f) x) ≡ g (map-RngTerm RngTerm A (fold-RngTerm A g) x) → fold-RngTerm A f (roll-RngTerm x) ≡ fold-RngTerm A g (roll-RngTerm x)
    both x e = fold-roll-RngTerm A f x ∙ e ∙ sym (fold-roll-RngTerm A g x)

    step : (y : RngTerm-F (With (Agree A f g bad))) → list_any bad (term_atoms_step (map-RngTerm RngTerm (List Atom) term_atoms (bare (Agree A f g bad) y))) ≡ false → f (map-RngTerm RngTerm A (fold-RngTerm A f) (bare (Agree A f g bad) y)) ≡ g (map-RngTerm RngTerm A (fold-RngTerm A g) (bare (Agree A f g bad) y))
    step (layer.Leaf atom) e = same (layer.Leaf atom) (or_parts (bad atom) false e).0
    step (layer.Neg a) e = ap (λ n. f (layer.Neg n)) (a.1 e) ∙ same (layer.Neg (fold-RngTerm A g a.0)) refl
    step (layer.Flip a) e = ap (λ n. f (layer.Flip n)) (a.1 e) ∙ same (layer.Flip (fold-RngTerm A g a.0)) refl
    step (layer.Bin op a b) e =
        let parts = any_parts bad (term_atoms a.0) (term_atoms b.0) e in
        ap (λ m. f (layer.Bin op m (fold-RngTerm A f b.0))) (a.1 parts.0)
        ∙ ap (λ n. f (layer.Bin op (fold-RngTerm A g a.0) n)) (b.1 parts.1)
        ∙ same (layer.Bin op (fold-RngTerm A g a.0) (fold-RngTerm A g b.0)) refl
    step (layer.Cast T a) e = ap (λ n. f (layer.Cast T n)) (a.1 e) ∙ same (layer.Cast T (fold-RngTerm A g a.0)) refl

-- range predicates: the same
abbrev WithPred : (RngPred → Type 0) → Type 0
WithPred P = (t : RngPred) × P t

abbrev bare_pred : (P : RngPred → Type 0) → RngPred-F (WithPred P) → RngPred-F RngPred
bare_pred P y = map-RngPred (WithPred P) RngPred (λ e. e.0) y

pred_layers : {A : Type 0} (h k : RngPred → A) (y : RngPred-F (WithPred (λ t. h t ≡ k t))) → map-RngPred RngPred A h (bare_pred (λ t. h t ≡ k t) y) ≡ map-RngPred RngPred A k (bare_pred (λ t. h t ≡ k t) y)
pred_layers h k pred_layer.True = refl
pred_layers h k pred_layer.False = refl
pred_layers h k (pred_layer.Cmp op t u) = refl
pred_layers h k (pred_layer.Not a) = ap (λ n. pred_layer.Not n) a.1
pred_layers h k (pred_layer.Both a b) = ap (λ n. pred_layer.Both n (h b.0)) a.1 ∙ ap (λ n. pred_layer.Both (k a.0) n) b.1
pred_layers h k (pred_layer.Either a b) = ap (λ n. pred_layer.Either n (h b.0)) a.1 ∙ ap (λ n. pred_layer.Either (k a.0) n) b.1

pub pred_unique : {A : Type 0} (h : RngPred → A) (g : RngPred-F A → A) → ((y : RngPred-F RngPred) → h (roll-RngPred y) ≡ g (map-RngPred RngPred A h y)) → (t : RngPred) → h t ≡ fold-RngPred A g t
pred_unique {A} h g e =
    ind-RngPred (λ t. h t ≡ fold-RngPred A g t)
    (λ x y is. subst (λ z. h (roll-RngPred z) ≡ fold-RngPred A g (roll-RngPred z)) is
    (e (bare_pred (λ t. h t ≡ fold-RngPred A g t) y) ∙ ap g (pred_layers h (fold-RngPred A g) y) ∙ sym (fold-roll-RngPred A g (bare_pred (λ t. h t ≡ fold-RngPred A g t) y))))

-- a layer with other range terms
abbrev pub renamed_pred : {A : Type 0} → (RngTerm → RngTerm) → RngPred-F A → RngPred-F A
renamed_pred r pred_layer.True = pred_layer.True
renamed_pred r pred_layer.False = pred_layer.False
renamed_pred r (pred_layer.Cmp op t u) = pred_layer.Cmp op (r t) (r u)
renamed_pred r (pred_layer.Not a) = pred_layer.Not a
renamed_pred r (pred_layer.Both a b) = pred_layer.Both a b
renamed_pred r (pred_layer.Either a b) = pred_layer.Either a b

version_pred_layer : (current : List ℕ) (y : RngPred-F RngPred) → version_range_step current y ≡ roll-RngPred (renamed_pred (version_range_term current) y)
version_pred_layer current pred_layer.True = sym pred_rolled.rolls-True
version_pred_layer current pred_layer.False = sym pred_rolled.rolls-False
version_pred_layer current (pred_layer.Cmp op t u) = sym (pred_rolled.rolls-Cmp op (version_range_term current t) (version_range_term current u))
version_pred_layer current (pred_layer.Not a) = sym (pred_rolled.rolls-Not a)
version_pred_layer current (pred_layer.Both a b) = sym (pred_rolled.rolls-Both a b)
version_pred_layer current (pred_layer.Either a b) = sym (pred_rolled.rolls-Either a b)

renamed_pred_parts : {A : Type 0} (r : RngTerm → RngTerm) (v : RngPred → RngPred) (g : RngPred → A) (y : RngPred-F RngPred) → map-RngPred RngPred A g (renamed_pred r (map-RngPred RngPred RngPred v y)) ≡ renamed_pred r (map-RngPred RngPred A (λ t. g (v t)) y)
renamed_pred_parts r v g pred_layer.True = refl
renamed_pred_parts r v g pred_layer.False = refl
renamed_pred_parts r v g (pred_layer.Cmp op t u) = refl
renamed_pred_parts r v g (pred_layer.Not a) = refl
renamed_pred_parts r v g (pred_layer.Both a b) = refl
renamed_pred_parts r v g (pred_layer.Either a b) = refl

-- a fold over a versioned range predicate
pub pred_versions : {A : Type 0} (g : RngPred-F A → A) (current : List ℕ) (t : RngPred) → fold-RngPred A g (version_range current t) ≡ fold-RngPred A (λ y. g (renamed_pred (version_range_term current) y)) t
pred_versions {A} g current = pred_unique (λ t. fold-RngPred A g (version_range current t)) (λ y. g (renamed_pred (version_range_term current) y)) step
  where
    step : (y : RngPred-F RngPred) → fold-RngPred A g (version_range current (roll-RngPred y)) ≡ g (renamed_pred (version_range_term current) (map-RngPred RngPred A (λ t. fold-RngPred A g (version_range current t)) y))
    step y =
        let z = map-RngPred RngPred RngPred (version_range current) y in
        ap (fold-RngPred A g) (fold-roll-RngPred RngPred (version_range_step current) y ∙ version_pred_layer current z)
        ∙ fold-roll-RngPred A g (renamed_pred (version_range_term current) z)
        ∙ ap g (renamed_pred_parts (version_range_term current) (version_range current) (fold-RngPred A g) y)

-- the operands of a versioned range predicate
pub pred_named : (current : List ℕ) (t : RngPred) → range_atoms (version_range current t) ≡ map (version_atom current) (range_atoms t)
pred_named current t =
    pred_versions range_atoms_step current t
    ∙ sym (pred_unique (λ t. map (version_atom current) (range_atoms t)) (λ y. range_atoms_step (renamed_pred (version_range_term current) y)) step t)
  where
    parts : (y : RngPred-F RngPred) → map (version_atom current) (range_atoms_step (map-RngPred RngPred (List Atom) range_atoms y)) ≡ range_atoms_step (renamed_pred (version_range_term current) (map-RngPred RngPred (List Atom) (λ t. map (version_atom current) (range_atoms t)) y))
    parts pred_layer.True = refl
    parts pred_layer.False = refl
    parts (pred_layer.Cmp op t u) =
        map-append (version_atom current) (term_atoms t) (term_atoms u)
        ∙ ap (λ atoms. atoms ++ map (version_atom current) (term_atoms u)) (sym (range_named current t))
        ∙ ap (λ atoms. term_atoms (version_range_term current t) ++ atoms) (sym (range_named current u))
    parts (pred_layer.Not a) = refl
    parts (pred_layer.Both a b) = map-append (version_atom current) (range_atoms a) (range_atoms b)
    parts (pred_layer.Either a b) = map-append (version_atom current) (range_atoms a) (range_atoms b)

    step : (y : RngPred-F RngPred) → map (version_atom current) (range_atoms (roll-RngPred y)) ≡ range_atoms_step (renamed_pred (version_range_term current) (map-RngPred RngPred (List Atom) (λ t. map (version_atom current) (range_atoms t)) y))
    step y = ap (map (version_atom current)) (fold-roll-RngPred (List Atom) range_atoms_step y) ∙ parts y

-- the operands of a layer's range terms
abbrev pub own_atoms : {A : Type 0} → RngPred-F A → List Atom
own_atoms (pred_layer.Cmp op t u) = term_atoms t ++ term_atoms u
own_atoms _ = []

abbrev AgreePred : (A : Type 0) → (RngPred-F A → A) → (RngPred-F A → A) → (Atom → Bool) → RngPred → Type 0
AgreePred A f g bad t = list_any bad (range_atoms t) ≡ false → fold-RngPred A f t ≡ fold-RngPred A g t

-- folds that agree but at marked operands
pub pred_local : {A : Type 0} (f g : RngPred-F A → A) (bad : Atom → Bool) → ((y : RngPred-F A) → list_any bad (own_atoms y) ≡ false → f y ≡ g y) → (t : RngPred) → list_any bad (range_atoms t) ≡ false → fold-RngPred A f t ≡ fold-RngPred A g t
pred_local {A} f g bad same = ind-RngPred (AgreePred A f g bad) (λ x y is. subst (λ z. AgreePred A f g bad (roll-RngPred z)) is (λ e. both (bare_pred (AgreePred A f g bad) y) (step y (ap (list_any bad) (sym (fold-roll-RngPred (List Atom) range_atoms_step (bare_pred (AgreePred A f g bad) y))) ∙ e))))
  where
    both : (x : RngPred-F RngPred) → f (map-RngPred RngPred A (fold-RngPred A f) x) ≡ g (map-RngPred RngPred A (fold-RngPred A g) x) → fold-RngPred A f (roll-RngPred x) ≡ fold-RngPred A g (roll-RngPred x)
    both x e = fold-roll-RngPred A f x ∙ e ∙ sym (fold-roll-RngPred A g x)

    two : (node : A → A → RngPred-F A) (a b : WithPred (AgreePred A f g bad)) → list_any bad (range_atoms a.0 ++ range_atoms b.0) ≡ false → ((m n : A) → f (node m n) ≡ g (node m n)) → f (node (fold-RngPred A f a.0) (fold-RngPred A f b.0)) ≡ g (node (fold-RngPred A g a.0) (fold-RngPred A g b.0))
    two node a b e h =
        let parts = any_parts bad (range_atoms a.0) (range_atoms b.0) e in
        ap (λ m. f (node m (fold-RngPred A f b.0))) (a.1 parts.0) ∙ ap (λ n. f (node (fold-RngPred A g a.0) n)) (b.1 parts.1) ∙ h (fold-RngPred A g a.0) (fold-RngPred A g b.0)

    step : (y : RngPred-F (WithPred (AgreePred A f g bad))) → list_any bad (range_atoms_step (map-RngPred RngPred (List Atom) range_atoms (bare_pred (AgreePred A f g bad) y))) ≡ false → f (map-RngPred RngPred A (fold-RngPred A f) (bare_pred (AgreePred A f g bad) y)) ≡ g (map-RngPred RngPred A (fold-RngPred A g) (bare_pred (AgreePred A f g bad) y))
    step pred_layer.True e = same pred_layer.True refl
    step pred_layer.False e = same pred_layer.False refl
    step (pred_layer.Cmp op t u) e = same (pred_layer.Cmp op t u) e
    step (pred_layer.Not a) e = ap (λ n. f (pred_layer.Not n)) (a.1 e) ∙ same (pred_layer.Not (fold-RngPred A g a.0)) refl
    step (pred_layer.Both a b) e = two (λ m n. pred_layer.Both m n) a b e (λ m n. same (pred_layer.Both m n) refl)
    step (pred_layer.Either a b) e = two (λ m n. pred_layer.Either m n) a b e (λ m n. same (pred_layer.Either m n) refl)
