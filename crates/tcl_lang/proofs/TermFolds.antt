-- Folds over algebraic terms. A function that computes layer by layer is a fold; so a fold over a versioned term is a fold
-- over the term itself, and two folds that differ at some names alone agree on terms without these names.
use Rattle.std.proofs.Common.{◌≡◌, ℕ, refl, sym, ◌∙◌, ap, subst, Bool, false, List, ◌++◌, map, slice_index}
use Rattle.std.specs.List.{list_any}
use Rattle.std.proofs.lemmas.Bool.{or_parts}
use Rattle.std.proofs.lemmas.List.{map-append}
use Rattle.std.proofs.lemmas.List.Folds.{list_any-append}
use Rattle.tcl_lang.specs.declared.term.Term.{Term, Term-F, fold-Term, roll-Term, map-Term, ind-Term}
use Rattle.tcl_lang.specs.declared.term.Term.TheOpen as layer
use Rattle.tcl_lang.specs.declared.term.Term.TheFolds.{fold-roll-Term}
use Rattle.tcl_lang.specs.declared.term.Term.TheVariants as rolled
use Rattle.tcl_lang.specs.Names.{term_names_step, term_names}
use Rattle.tcl_lang.specs.Versions.{version_term_step, version_term}

-- a fact of a term with the term
abbrev With : (Term → Type 0) → Type 0
With P = (t : Term) × P t

abbrev bare : (P : Term → Type 0) → Term-F (With P) → Term-F Term
bare P y = map-Term (With P) Term (λ e. e.0) y

layers : {A : Type 0} (h k : Term → A) (y : Term-F (With (λ t. h t ≡ k t))) → map-Term Term A h (bare (λ t. h t ≡ k t) y) ≡ map-Term Term A k (bare (λ t. h t ≡ k t) y)
layers h k (layer.Var x) = refl
layers h k (layer.Num n) = refl
layers h k (layer.Neg a) = ap (λ n. layer.Neg n) a.1
layers h k (layer.Add a b) = ap (λ n. layer.Add n (h b.0)) a.1 ∙ ap (λ n. layer.Add (k a.0) n) b.1
layers h k (layer.Sub a b) = ap (λ n. layer.Sub n (h b.0)) a.1 ∙ ap (λ n. layer.Sub (k a.0) n) b.1
layers h k (layer.Mul a b) = ap (λ n. layer.Mul n (h b.0)) a.1 ∙ ap (λ n. layer.Mul (k a.0) n) b.1
layers h k (layer.Pow a n) = ap (λ m. layer.Pow m n) a.1

-- what computes layer by layer is the fold
pub term_unique : {A : Type 0} (h : Term → A) (g : Term-F A → A) → ((y : Term-F Term) → h (roll-Term y) ≡ g (map-Term Term A h y)) → (t : Term) → h t ≡ fold-Term A g t
term_unique {A} h g e =
    ind-Term (λ t. h t ≡ fold-Term A g t)
    (λ x y is. subst (λ z. h (roll-Term z) ≡ fold-Term A g (roll-Term z)) is
    (e (bare (λ t. h t ≡ fold-Term A g t) y) ∙ ap g (layers h (fold-Term A g) y) ∙ sym (fold-roll-Term A g (bare (λ t. h t ≡ fold-Term A g t) y))))

-- a layer with other names
abbrev pub renamed : {A : Type 0} → (ℕ → ℕ) → Term-F A → Term-F A
renamed r (layer.Var x) = layer.Var (r x)
renamed r (layer.Num n) = layer.Num n
renamed r (layer.Neg a) = layer.Neg a
renamed r (layer.Add a b) = layer.Add a b
renamed r (layer.Sub a b) = layer.Sub a b
renamed r (layer.Mul a b) = layer.Mul a b
renamed r (layer.Pow a k) = layer.Pow a k

version_layer : (current : List ℕ) (y : Term-F Term) → version_term_step current y ≡ roll-Term (renamed (slice_index current) y)
version_layer current (layer.Var x) = sym (rolled.rolls-Var (slice_index current x))
version_layer current (layer.Num n) = sym (rolled.rolls-Num n)
version_layer current (layer.Neg a) = sym (rolled.rolls-Neg a)
version_layer current (layer.Add a b) = sym (rolled.rolls-Add a b)
version_layer current (layer.Sub a b) = sym (rolled.rolls-Sub a b)
version_layer current (layer.Mul a b) = sym (rolled.rolls-Mul a b)
version_layer current (layer.Pow a k) = sym (rolled.rolls-Pow a k)

-- renaming and computing parts, in either order
renamed_parts : {A : Type 0} (r : ℕ → ℕ) (v : Term → Term) (g : Term → A) (y : Term-F Term) → map-Term Term A g (renamed r (map-Term Term Term v y)) ≡ renamed r (map-Term Term A (λ t. g (v t)) y)
renamed_parts r v g (layer.Var x) = refl
renamed_parts r v g (layer.Num n) = refl
renamed_parts r v g (layer.Neg a) = refl
renamed_parts r v g (layer.Add a b) = refl
renamed_parts r v g (layer.Sub a b) = refl
renamed_parts r v g (layer.Mul a b) = refl
renamed_parts r v g (layer.Pow a k) = refl

-- a fold over a versioned term
pub term_versions : {A : Type 0} (g : Term-F A → A) (current : List ℕ) (t : Term) → fold-Term A g (version_term current t) ≡ fold-Term A (λ y. g (renamed (slice_index current) y)) t
term_versions {A} g current = term_unique (λ t. fold-Term A g (version_term current t)) (λ y. g (renamed (slice_index current) y)) step
  where
    step : (y : Term-F Term) → fold-Term A g (version_term current (roll-Term y)) ≡ g (renamed (slice_index current) (map-Term Term A (λ t. fold-Term A g (version_term current t)) y))
    step y =
        let z = map-Term Term Term (version_term current) y in
        ap (fold-Term A g) (fold-roll-Term Term (version_term_step current) y ∙ version_layer current z)
        ∙ fold-roll-Term A g (renamed (slice_index current) z)
        ∙ ap g (renamed_parts (slice_index current) (version_term current) (fold-Term A g) y)

-- the names of a versioned term
pub term_named : (current : List ℕ) (t : Term) → term_names (version_term current t) ≡ map (slice_index current) (term_names t)
term_named current t =
    term_versions term_names_step current t
    ∙ sym (term_unique (λ t. map (slice_index current) (term_names t)) (λ y. term_names_step (renamed (slice_index current) y)) step t)
  where
    parts : (y : Term-F Term) → map (slice_index current) (term_names_step (map-Term Term (List ℕ) term_names y)) ≡ term_names_step (renamed (slice_index current) (map-Term Term (List ℕ) (λ t. map (slice_index current) (term_names t)) y))
    parts (layer.Var x) = refl
    parts (layer.Num n) = refl
    parts (layer.Neg a) = refl
    parts (layer.Add a b) = map-append (slice_index current) (term_names a) (term_names b)
    parts (layer.Sub a b) = map-append (slice_index current) (term_names a) (term_names b)
    parts (layer.Mul a b) = map-append (slice_index current) (term_names a) (term_names b)
    parts (layer.Pow a k) = refl

    step : (y : Term-F Term) → map (slice_index current) (term_names (roll-Term y)) ≡ term_names_step (renamed (slice_index current) (map-Term Term (List ℕ) (λ t. map (slice_index current) (term_names t)) y))
    step y = ap (map (slice_index current)) (fold-roll-Term (List ℕ) term_names_step y) ∙ parts y

-- the layer is not a name that the test marks
abbrev pub is_marked : {A : Type 0} → (ℕ → Bool) → Term-F A → Bool
is_marked bad (layer.Var x) = bad x
is_marked bad _ = false

pub any_parts : {X : Type 0} (p : X → Bool) (xs ys : List X) → list_any p (xs ++ ys) ≡ false → (list_any p xs ≡ false) × (list_any p ys ≡ false)
any_parts p xs ys e = or_parts (list_any p xs) (list_any p ys) (sym (list_any-append p xs ys) ∙ e)

abbrev Agree : (A : Type 0) → (Term-F A → A) → (Term-F A → A) → (ℕ → Bool) → Term → Type 0
Agree A f g bad t = list_any bad (term_names t) ≡ false → fold-Term A f t ≡ fold-Term A g t

-- folds that agree but at marked names
pub term_local : {A : Type 0} (f g : Term-F A → A) (bad : ℕ → Bool) → ((y : Term-F A) → is_marked bad y ≡ false → f y ≡ g y) → (t : Term) → list_any bad (term_names t) ≡ false → fold-Term A f t ≡ fold-Term A g t
term_local {A} f g bad same = ind-Term (Agree A f g bad) (λ x y is. subst (λ z. Agree A f g bad (roll-Term z)) is (λ e. both (bare (Agree A f g bad) y) (step y (ap (list_any bad) (sym (fold-roll-Term (List ℕ) term_names_step (bare (Agree A f g bad) y))) ∙ e))))
  where
    both : (x : Term-F Term) → f (map-Term Term A (fold-Term A f) x) ≡ g (map-Term Term A (fold-Term A g) x) → fold-Term A f (roll-Term x) ≡ fold-Term A g (roll-Term x)
    both x e = fold-roll-Term A f x ∙ e ∙ sym (fold-roll-Term A g x)

    two : (node : A → A → Term-F A) (a b : With (Agree A f g bad)) → list_any bad (term_names a.0 ++ term_names b.0) ≡ false → ((m n : A) → f (node m n) ≡ g (node m n)) → f (node (fold-Term A f a.0) (fold-Term A f b.0)) ≡ g (node (fold-Term A g a.0) (fold-Term A g b.0))
    two node a b e h =
        let parts = any_parts bad (term_names a.0) (term_names b.0) e in
        ap (λ m. f (node m (fold-Term A f b.0))) (a.1 parts.0) ∙ ap (λ n. f (node (fold-Term A g a.0) n)) (b.1 parts.1) ∙ h (fold-Term A g a.0) (fold-Term A g b.0)

    step : (y : Term-F (With (Agree A f g bad))) → list_any bad (term_names_step (map-Term Term (List ℕ) term_names (bare (Agree A f g bad) y))) ≡ false → f (map-Term Term A (fold-Term A f) (bare (Agree A f g bad) y)) ≡ g (map-Term Term A (fold-Term A g) (bare (Agree A f g bad) y))
    step (layer.Var x) e = same (layer.Var x) (or_parts (bad x) false e).0
    step (layer.Num n) e = same (layer.Num n) refl
    step (layer.Neg a) e = ap (λ n. f (layer.Neg n)) (a.1 e) ∙ same (layer.Neg (fold-Term A g a.0)) refl
    step (layer.Add a b) e = two (λ m n. layer.Add m n) a b e (λ m n. same (layer.Add m n) refl)
    step (layer.Sub a b) e = two (λ m n. layer.Sub m n) a b e (λ m n. same (layer.Sub m n) refl)
    step (layer.Mul a b) e = two (λ m n. layer.Mul m n) a b e (λ m n. same (layer.Mul m n) refl)
    step (layer.Pow a k) e = ap (λ n. f (layer.Pow n k)) (a.1 e) ∙ same (layer.Pow (fold-Term A g a.0) k) refl
