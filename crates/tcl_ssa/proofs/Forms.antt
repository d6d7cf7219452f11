-- One line more of a form, and one result more of an instruction.
use Rattle.std.proofs.Common.{◌≡◌, ℕ, zero, suc, ◌+◌, ◌<◌, ◌≤◌, refl, sym, ◌∙◌, ap, arith, add-one, append_assoc, Bool, true, false, List, [], ◌∷◌, ◌++◌, length, drop, get_or, Option, Some, None}
use Rattle.std.specs.List.{slice_get, list_all}
use Rattle.std.proofs.lemmas.Bool.{and_parts}
use Rattle.std.proofs.Math.Seq.{drop-cons}
use Rattle.tcl_lang.specs.declared.ty.Ty.{Ty}
use Rattle.tcl_lang.specs.declared.pred.Line.{Line}
use Rattle.tcl_lang.specs.Program.{NamedProgram}
use Rattle.tcl_lang.specs.Shape.{is_line}
use Rattle.tcl_lang.specs.Versions.{Versions, version_line, versions_after, versions_step, versions_at, version_lines, define, define_results, no_versions, form_of, numbers_from}
use Rattle.tcl_lang.proofs.Versioning.{versions_go, versions_begin}

-- a line of a list of lines of that shape
pub line_in : (lines : List Line) (k : ℕ) (l : Line) → list_all is_line lines ≡ true → slice_get lines k ≡ Some l → is_line l ≡ true
line_in [] k l a e = absurd (cc)
line_in (m ∷ lines) zero l a e = ap is_line (sym (same m l e)) ∙ (and_parts (is_line m) (list_all is_line lines) a).0
  where
    same : (m l : Line) → Some m ≡ Some l → m ≡ l
    same m l e = cc
line_in (m ∷ lines) (suc k) l a e = line_in lines k l (and_parts (is_line m) (list_all is_line lines) a).1 e

-- the items from a place on
pub lines_from : (lines : List Line) (k : ℕ) (l : Line) → slice_get lines k ≡ Some l → drop k lines ≡ l ∷ drop (k + 1) lines
lines_from lines k l e = from lines k e ∙ ap (λ j. l ∷ drop j lines) (sym (add-one k))
  where
    same : (m : Line) → Some m ≡ Some l → m ≡ l
    same m e = cc

    from : (lines : List Line) (k : ℕ) → slice_get lines k ≡ Some l → drop k lines ≡ l ∷ drop (suc k) lines
    from [] k e = absurd (cc)
    from (m ∷ lines) zero e = ap (λ (x : Line). x ∷ lines) (same m e)
    from (m ∷ lines) (suc k) e = from lines k e

pub types_from : (Ts : List Ty) (k : ℕ) (T : Ty) → slice_get Ts k ≡ Some T → drop k Ts ≡ T ∷ drop (k + 1) Ts
types_from Ts k T e = from Ts k e ∙ ap (λ j. T ∷ drop j Ts) (sym (add-one k))
  where
    same : (U : Ty) → Some U ≡ Some T → U ≡ T
    same U e = cc

    from : (Ts : List Ty) (k : ℕ) → slice_get Ts k ≡ Some T → drop k Ts ≡ T ∷ drop (suc k) Ts
    from [] k e = absurd (cc)
    from (U ∷ Ts) zero e = ap (λ (x : Ty). x ∷ Ts) (same U e)
    from (U ∷ Ts) (suc k) e = from Ts k e

pub names_from : (outs : List ℕ) (k name : ℕ) → slice_get outs k ≡ Some name → drop k outs ≡ name ∷ drop (k + 1) outs
names_from outs k name e = from outs k e ∙ ap (λ j. name ∷ drop j outs) (sym (add-one k))
  where
    same : (m : ℕ) → Some m ≡ Some name → m ≡ name
    same m e = cc

    from : (outs : List ℕ) (k : ℕ) → slice_get outs k ≡ Some name → drop k outs ≡ name ∷ drop (suc k) outs
    from [] k e = absurd (cc)
    from (m ∷ outs) zero e = ap (λ x. x ∷ outs) (same m e)
    from (m ∷ outs) (suc k) e = from outs k e

pub nothing_left : {X : Type 0} (xs : List X) (k : ℕ) → length xs ≤ k → drop k xs ≡ []
nothing_left [] zero h = refl
nothing_left [] (suc k) h = refl
nothing_left (x ∷ xs) zero h = absurd (omega arith)
nothing_left (x ∷ xs) (suc k) h = nothing_left xs k (omega arith)

-- the versions after one line more
pub versions_turn : (p : NamedProgram) (k : ℕ) (l : Line) (v w : Versions) → slice_get p.lines k ≡ Some l → v ≡ versions_at p k → w ≡ versions_after p.names v l → w ≡ versions_at p (k + 1)
versions_turn p k l v w at e f =
    f ∙ ap (λ (x : Versions). versions_after p.names x l) e
    ∙ ap (versions_step p.names (versions_at p k)) (sym at)
    ∙ sym (ap (versions_at p) (add-one k) ∙ versions_go p k)

-- the lines so far and those of the lines that are left
pub lines_turn : (names : List (List ℕ)) (v w : Versions) (lines : List Line) (k : ℕ) (l m : Line) (done all : List Line) → slice_get lines k ≡ Some l → m ≡ version_line v l → w ≡ versions_after names v l → done ++ version_lines names v (drop k lines) ≡ all → (done ++ m ∷ []) ++ version_lines names w (drop (k + 1) lines) ≡ all
lines_turn names v w lines k l m done all at e f h =
    append_assoc done (m ∷ []) (version_lines names w (drop (k + 1) lines))
    ∙ ap (λ (x : Line). done ++ x ∷ version_lines names w (drop (k + 1) lines)) e
    ∙ ap (λ (x : Versions). done ++ version_line v l ∷ version_lines names x (drop (k + 1) lines)) f
    ∙ ap (λ (xs : List Line). done ++ version_lines names v xs) (sym (lines_from lines k l at))
    ∙ h

pub lines_done : (names : List (List ℕ)) (v : Versions) (lines : List Line) (k : ℕ) (done all : List Line) → length lines ≤ k → done ++ version_lines names v (drop k lines) ≡ all → done ≡ all
lines_done names v lines k done all h e = sym (append_nil done) ∙ ap (λ (xs : List Line). done ++ version_lines names v xs) (sym (nothing_left lines k h)) ∙ e
  where
    append_nil : (xs : List Line) → xs ++ [] ≡ xs
    append_nil [] = refl
    append_nil (x ∷ xs) = ap (λ ys. x ∷ ys) (append_nil xs)

-- the form, from the versions at the end and the lines
pub form_is : (p : NamedProgram) (v : Versions) (form : List Line) → v ≡ versions_at p (length p.lines) → form ≡ version_lines p.names (no_versions (length p.names)) p.lines → record { variables = v.variables; lines = form } ≡ form_of p
unfolding form_of
form_is p v form e f =
    ap (λ (x : Versions). record { variables = x.variables; lines = form }) e
    ∙ ap (λ (xs : List Line). record { variables = (versions_at p (length p.lines)).variables; lines = xs }) f

-- the results so far and those that are left
pub results_turn : (names : List (List ℕ)) (v w all : Versions) (outs : List ℕ) (Ts : List Ty) (k name : ℕ) (T : Ty) → slice_get outs k ≡ Some name → slice_get Ts k ≡ Some T → w ≡ define names v name T → define_results names v (drop k outs) (drop k Ts) ≡ all → define_results names w (drop (k + 1) outs) (drop (k + 1) Ts) ≡ all
results_turn names v w all outs Ts k name T at typed e h =
    ap (λ (x : Versions). define_results names x (drop (k + 1) outs) (drop (k + 1) Ts)) e
    ∙ ap (λ (ts : List Ty). define_results names v (name ∷ drop (k + 1) outs) ts) (sym (types_from Ts k T typed))
    ∙ ap (λ (xs : List ℕ). define_results names v xs (drop k Ts)) (sym (names_from outs k name at))
    ∙ h

pub results_done : (names : List (List ℕ)) (v all : Versions) (outs : List ℕ) (Ts : List Ty) (k : ℕ) → length outs ≤ k → define_results names v (drop k outs) (drop k Ts) ≡ all → v ≡ all
results_done names v all outs Ts k h e = ap (λ (xs : List ℕ). define_results names v xs (drop k Ts)) (sym (nothing_left outs k h)) ∙ e

-- the numbers so far and those of the results that are left
pub numbers_turn : (n m : ℕ) (outs : List ℕ) (k : ℕ) (done new all : List ℕ) → k < length outs → new ≡ done ++ n ∷ [] → m ≡ n + 1 → done ++ numbers_from n (drop k outs) ≡ all → new ++ numbers_from m (drop (k + 1) outs) ≡ all
numbers_turn n m outs k done new all h e f g =
    ap (λ xs. xs ++ numbers_from m (drop (k + 1) outs)) e
    ∙ append_assoc done (n ∷ []) (numbers_from m (drop (k + 1) outs))
    ∙ ap (λ j. done ++ n ∷ numbers_from j (drop (k + 1) outs)) f
    ∙ ap (λ xs. done ++ numbers_from n xs) (sym (drop-cons outs k 0 h ∙ ap (λ j. get_or outs k 0 ∷ drop j outs) (sym (add-one k))))
    ∙ g
