-- What visitors have seen after all names of a list.
use Rattle.std.proofs.Common.{◌≡◌, ℕ, zero, suc, refl, ◌∙◌, Bool, true, false, List, [], ◌∷◌, ◌++◌, filter_map, Some, None, nat_eq}
use Rattle.std.specs.Prelude.{◌||◌, ◌==◌}
use Rattle.std.specs.List.{fold, list_any, slice_get}
use Rattle.std.proofs.lemmas.List.Sums.{fold-append}
use Rattle.tcl_lang.specs.declared.instr.Atom.{Atom}
use Rattle.tcl_lang.specs.declared.instr.Atom.TheVariants.{Var, Lit}
use Rattle.tcl_lang.specs.declared.names.Search.{Search}
use Rattle.tcl_lang.specs.Names.{name_of}
use Rattle.tcl_lang.specs.Told.{after_operand, looked, counted_down}

-- the names of two lists, one list after the other
pub names_append : {V : Type 0} (after : V → ℕ → V) (v : V) (xs ys : List ℕ) → fold after v (xs ++ ys) ≡ fold after (fold after v xs) ys
names_append after v xs ys = fold-append after v xs ys

-- the operands of two lists, one list after the other
pub told_append : {V : Type 0} (after : V → ℕ → V) (v : V) (xs ys : List Atom) → fold (after_operand after) v (xs ++ ys) ≡ fold (after_operand after) (fold (after_operand after) v xs) ys
told_append after v xs ys = fold-append (after_operand after) v xs ys

-- operands are told by their names
pub told_operands : {V : Type 0} (after : V → ℕ → V) (v : V) (atoms : List Atom) → fold (after_operand after) v atoms ≡ fold after v (filter_map name_of atoms)
told_operands after v [] = refl
told_operands after v (Var name ∷ atoms) = told_operands after (after v name) atoms
told_operands after v (Lit T n ∷ atoms) = told_operands after v atoms

-- a name that is looked for
or_none : (b : Bool) → b ≡ (b || false)
or_none true = refl
or_none false = refl

or_more : (b c d : Bool) → ((b || c) || d) ≡ (b || (c || d))
or_more true c d = refl
or_more false c d = refl

pub looked_through : (s : Search) (names : List ℕ) → (fold looked s names).found ≡ (s.found || list_any (λ other. s.name == other) names)
looked_through s [] = or_none s.found
looked_through s (name ∷ names) =
    looked_through (looked s name) names ∙ or_more s.found (nat_eq s.name name) (list_any (λ other. s.name == other) names)

-- a name of this number
counted_kept : (left name : ℕ) (names : List ℕ) → (fold counted_down (record { left = left; found = Some name }) names).found ≡ Some name
counted_kept left name [] = refl
counted_kept left name (other ∷ names) = counted_kept left name names

pub counted_through : (left : ℕ) (names : List ℕ) → (fold counted_down (record { left = left; found = None }) names).found ≡ slice_get names left
counted_through zero [] = refl
counted_through (suc left) [] = refl
counted_through zero (name ∷ names) = counted_kept 0 name names
counted_through (suc left) (name ∷ names) = counted_through left names
