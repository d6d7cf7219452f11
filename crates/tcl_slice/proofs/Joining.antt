-- Names behind names.
use Rattle.std.proofs.Common.{◌≡◌, ◌+◌, ◌++◌, ℕ, List, [], ◌∷◌, filter_map, map, drop, refl, ap, sym, ◌∙◌, Some}
use Rattle.std.specs.List.{fold, slice_get}
use Rattle.std.proofs.lemmas.List.{append_assoc, append-nil, drop_more}
use Rattle.std.proofs.lemmas.Option.{slice_get_within, get_or_from_slice_get}
use Rattle.std.proofs.lemmas.List.Sums.{fold-append}
use Rattle.tcl_lang.specs.declared.instr.Atom.{Atom}
use Rattle.tcl_lang.specs.declared.instr.Atom.TheVariants.{Var, Lit}
use Rattle.tcl_lang.specs.declared.pred.Line.{Line}
use Rattle.tcl_lang.specs.Names.{name_of, used_names}
use Rattle.tcl_goals.specs.Slices.{named_in}
use Rattle.tcl_slice.specs.declared.search.Search.{Search}
use Rattle.tcl_slice.specs.Naming.{with_operand}
use Rattle.tcl_slice.specs.Touching.{reached, touched, touched_all, rows_from}

pub joined : (old xs ys : List ℕ) → (old ++ xs) ++ ys ≡ old ++ (xs ++ ys)
joined old xs ys = append_assoc old xs ys

pub operands_append : (old : List ℕ) (xs ys : List Atom) → fold with_operand old (xs ++ ys) ≡ fold with_operand (fold with_operand old xs) ys
operands_append old xs ys = fold-append with_operand old xs ys

-- operands are named by their names
pub operands_named : (old : List ℕ) (atoms : List Atom) → fold with_operand old atoms ≡ old ++ filter_map name_of atoms
operands_named old [] = sym (append-nil old)
operands_named old (Var name ∷ atoms) = operands_named (old ++ name ∷ []) atoms ∙ append_assoc old (name ∷ []) (filter_map name_of atoms)
operands_named old (Lit T n ∷ atoms) = operands_named old atoms

-- what is reached by two lists
pub reached_append : (s : Search) (xs ys : List ℕ) → fold reached s (xs ++ ys) ≡ fold reached (fold reached s xs) ys
reached_append s xs ys = fold-append reached s xs ys

pub touched_append : (rows : List (List ℕ)) (j : ℕ) (xs ys : List ℕ) → touched_all rows j (xs ++ ys) ≡ touched_all (touched_all rows j xs) j ys
touched_append rows j [] ys = refl
touched_append rows j (x ∷ xs) ys = touched_append (touched rows j x) j xs ys

-- one line further
drop_item : {X : Type 0} (items : List X) (k : ℕ) (x : X) → slice_get items k ≡ Some x → drop k items ≡ x ∷ drop (k + 1) items
drop_item items k x at =
    drop_more items k x (slice_get_within items k x at) ∙ ap (λ y. y ∷ drop (k + 1) items) (get_or_from_slice_get items k x x at)

pub names_more : (lines : List Line) (k : ℕ) (l : Line) (done whole : List (List ℕ)) → slice_get lines k ≡ Some l → done ++ map used_names (drop k lines) ≡ whole
    → (done ++ used_names l ∷ []) ++ map used_names (drop (k + 1) lines) ≡ whole
names_more lines k l done whole at e =
    append_assoc done (used_names l ∷ []) (map used_names (drop (k + 1) lines)) ∙ ap (λ ls. done ++ map used_names ls) (sym (drop_item lines k l at)) ∙ e

pub rows_more : (lines : List Line) (k : ℕ) (l : Line) (rows whole : List (List ℕ)) → slice_get lines k ≡ Some l → rows_from rows k (drop k lines) ≡ whole
    → rows_from (touched_all rows k (named_in (Some l))) (k + 1) (drop (k + 1) lines) ≡ whole
unfolding rows_from
rows_more lines k l rows whole at e = sym (ap (rows_from rows k) (drop_item lines k l at)) ∙ e
