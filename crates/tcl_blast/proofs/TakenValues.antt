-- The input of values, one line on.
use Rattle.std.proofs.Common.{◌≡◌, ◌≤◌, ◌+◌, ◌++◌, ℕ, ℤ, List, ◌∷◌, length, drop, map, refl, ap, sym, ◌∙◌, Option, Some, None}
use Rattle.std.specs.List.{slice_get, cons_option}
use Rattle.std.proofs.lemmas.List.{drop_more, drop_all, append-nil, append_assoc}
use Rattle.std.proofs.lemmas.Option.{slice_get_within, get_or_from_slice_get}
use Rattle.tcl_lang.specs.declared.pred.Line.{Line}
use Rattle.tcl_lang.specs.Line.{taken_name}
use Rattle.tcl_lang.specs.Values.{value_at}
use Rattle.tcl_slice.specs.Runs.{taken_names, input_from}
use Rattle.tcl_blast.specs.FreeBits.{taken_value}

drop_item : {X : Type 0} (items : List X) (k : ℕ) (x : X) → slice_get items k ≡ Some x → drop k items ≡ x ∷ drop (k + 1) items
drop_item items k x at =
    drop_more items k x (slice_get_within items k x at) ∙ ap (λ y. y ∷ drop (k + 1) items) (get_or_from_slice_get items k x x at)

one_value : (values : List ℤ) (o : Option ℕ) (vs : List ℕ) → map (λ v. value_at values v) (cons_option o vs) ≡ taken_value values o ++ map (λ v. value_at values v) vs
one_value values None vs = refl
one_value values (Some v) vs = refl

pub input_more : (values : List ℤ) (lines : List Line) (k : ℕ) (l : Line) (done whole : List ℤ) → slice_get lines k ≡ Some l →
    done ++ input_from (drop k lines) values ≡ whole →
    (done ++ taken_value values (taken_name l)) ++ input_from (drop (k + 1) lines) values ≡ whole
unfolding input_from
input_more values lines k l done whole at e =
    append_assoc done (taken_value values (taken_name l)) (map (λ v. value_at values v) (taken_names (drop (k + 1) lines)))
    ∙ ap (λ vs. done ++ vs) (sym (one_value values (taken_name l) (taken_names (drop (k + 1) lines))))
    ∙ ap (λ ls. done ++ map (λ v. value_at values v) (taken_names ls)) (sym (drop_item lines k l at))
    ∙ e

pub input_done : (values : List ℤ) (lines : List Line) (k : ℕ) (done whole : List ℤ) → length lines ≤ k → done ++ input_from (drop k lines) values ≡ whole → done ≡ whole
unfolding input_from
input_done values lines k done whole h e =
    sym (append-nil done) ∙ ap (λ ls. done ++ map (λ v. value_at values v) (taken_names ls)) (sym (drop_all k lines h)) ∙ e
