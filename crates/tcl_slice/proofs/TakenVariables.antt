-- A variable for which a line takes a value is no result that an instruction computes.
use Rattle.std.proofs.Common.{◌≡◌, ◌<◌, ◌≤◌, ◌+◌, ◌-◌, inl, inr, ℕ, Bool, true, false, ◌||◌, nat_eq, List, [], ◌∷◌, ◌++◌, length, refl, sym, ◌∙◌, ap, subst, arith, Option, Some, None}
use Rattle.std.specs.List.{slice_get}
use Rattle.std.specs.Prelude.{is_some}
use Rattle.std.proofs.lemmas.Bool.{cases_lt}
use Rattle.std.proofs.lemmas.Bool.Decides.{nat_tests}
use Rattle.std.proofs.lemmas.Option.{slice_get_within}
use Rattle.std.proofs.lemmas.List.Concat.{flat_map-cons}
use Rattle.tcl_lang.specs.declared.ty.Ty.{Ty}
use Rattle.tcl_lang.specs.declared.instr.Op.{Op}
use Rattle.tcl_lang.specs.declared.instr.Op.TheVariants.{Nondet}
use Rattle.tcl_lang.specs.declared.pred.Line.{Line}
use Rattle.tcl_lang.specs.declared.pred.Line.TheVariants.{Input, Pre, Step, Assert, Assume, Cut, Post}
use Rattle.tcl_lang.specs.Program.{VersionedProgram}
use Rattle.tcl_lang.specs.Names.{defined_names}
use Rattle.tcl_lang.specs.Line.{taken_type, taken_name, choice_name}
use Rattle.tcl_lang.specs.Limit.{definitions_before}
use Rattle.tcl_lang.specs.Shape.{is_line}
use Rattle.tcl_lang.specs.Versions.{numbers_from}
use Rattle.tcl_lang.specs.Defined.{is_among}
use Rattle.tcl_lang.specs.Form.{IsWellFormed}
use Rattle.tcl_lang.proofs.TypedRuns.{line_shape}
use Rattle.tcl_lang.proofs.FormFacts.{definitions_go, all_definitions}
use Rattle.tcl_lang.proofs.FormEnds.{none_before, definitions_grow}
use Rattle.tcl_goals.specs.Free.{computed_results, computed_in, computed_variables}
use Rattle.tcl_slice.proofs.WholeRuns.{line_takes, taking}

-- the variable is the next one
pub taken_first : (f : VersionedProgram) (j v : ℕ) (l : Line) → IsWellFormed f → slice_get f.lines j ≡ Some l → taken_name l ≡ Some v → (v ≡ definitions_before f.lines j) × (definitions_before f.lines (j + 1) ≡ v + 1)
taken_first f j v l w at n =
    let shape = line_shape (length f.variables) f.lines j l w.runnable at in
    let d = definitions_before f.lines j in
    let names = names_of l v shape (taken_type l) refl n in
    let listed : v ∷ [] ≡ d ∷ [] = sym names ∙ w.defines j l at ∙ ap (numbers_from d) names in
    let first : v ≡ d = cc in
    let one : length (defined_names l) ≡ 1 = ap length names in
    (first, omega (arith, first, one, definitions_go f.lines j l at))
  where
    names_of : (l : Line) (v : ℕ) → is_line l ≡ true → (o : Option Ty) → taken_type l ≡ o → taken_name l ≡ Some v → defined_names l ≡ v ∷ []
    names_of l v shape None t n = absurd (none_some (sym (ap is_some t) ∙ line_takes l shape ∙ ap is_some n))
      where
        none_some : false ≡ true → ⊥
        none_some e = cc
    names_of l v shape (Some T) t n = (taking l T v shape t n).names

-- numbers from n on reach up to their count
none_past : (n v : ℕ) (xs : List ℕ) → n + length xs ≤ v → is_among (numbers_from n xs) v ≡ false
none_past n v [] h = refl
none_past n v (x ∷ xs) h = ap (λ b. b || is_among (numbers_from (n + 1) xs) v) (apart n v (omega arith)) ∙ none_past (n + 1) v xs (omega arith)
  where
    apart : (n v : ℕ) → n < v → nat_eq n v ≡ false
    apart n v h = grind (arith, nat_tests)

-- what an instruction computes is among its results, and a taken variable is not computed by its own line
fewer : (op : Op) (outs : List ℕ) (v : ℕ) → is_among outs v ≡ false → is_among (computed_results op outs) v ≡ false
fewer Nondet outs v e = refl
fewer _ outs v e = e

own : (op : Op) (outs : List ℕ) (v : ℕ) → choice_name op outs ≡ Some v → is_among (computed_results op outs) v ≡ false
own Nondet outs v e = refl
own _ outs v e = absurd (cc)

own_line : (l : Line) (v : ℕ) → taken_name l ≡ Some v → is_among (computed_in (Some l)) v ≡ false
own_line (Input T x) v n = refl
own_line (Pre p) v n = refl
own_line (Step s) v n = own s.op s.outs v n
own_line (Assert p) v n = refl
own_line (Assume p) v n = refl
own_line (Cut p) v n = refl
own_line (Post p) v n = refl

other_line : (m : Line) (v : ℕ) → is_among (defined_names m) v ≡ false → is_among (computed_in (Some m)) v ≡ false
other_line (Input T x) v e = refl
other_line (Pre p) v e = refl
other_line (Step s) v e = fewer s.op s.outs v e
other_line (Assert p) v e = refl
other_line (Assume p) v e = refl
other_line (Cut p) v e = refl
other_line (Post p) v e = refl

grown : (f : VersionedProgram) (j k : ℕ) → j ≤ k → k ≤ length f.lines → definitions_before f.lines j ≤ definitions_before f.lines k
grown f j k h within =
    let same : j + (k - j) ≡ k = omega arith in
    let grow = definitions_grow f.lines j (k - j) (omega arith) in
    omega (arith, grow, ap (definitions_before f.lines) same)

another : (f : VersionedProgram) (j k v : ℕ) (l m : Line) → IsWellFormed f → slice_get f.lines j ≡ Some l → taken_name l ≡ Some v → slice_get f.lines k ≡ Some m → is_among (computed_in (Some m)) v ≡ false
another f j k v l m w at n there =
    let first = taken_first f j v l w at n in
    let inside = slice_get_within f.lines j l at in
    let within = slice_get_within f.lines k m there in
    let same_names : (names : List ℕ) → numbers_from (definitions_before f.lines k) (defined_names m) ≡ names → is_among names v ≡ false → is_among (defined_names m) v ≡ false =
    λ names e none. ap (λ ns. is_among ns v) (w.defines k m there ∙ e) ∙ none in
    elim (cases_lt k j) [
      | inl before ↦
          let grow = grown f (k + 1) j (omega (arith, before)) (omega (arith, inside)) in
          other_line m v (same_names _ refl (none_past (definitions_before f.lines k) v (defined_names m) (omega (arith, grow, first.0, definitions_go f.lines k m there))))
      | inr h ↦ elim (cases_lt j k) [
        | inl after ↦
            let grow = grown f (j + 1) k (omega (arith, after)) (omega (arith, within)) in
            other_line m v (same_names _ refl (none_before (definitions_before f.lines k) v (defined_names m) (omega (arith, grow, first.1))))
        | inr g ↦
            let equal : j ≡ k = omega (arith, h, g) in
            let line : l ≡ m = same_line l m (sym at ∙ ap (slice_get f.lines) equal ∙ there) in
            subst (λ x. is_among (computed_in (Some x)) v ≡ false) line (own_line l v n)
      ]
    ]
  where
    same_line : (l m : Line) → Some l ≡ Some m → l ≡ m
    same_line l m e = cc

either : (xs ys : List ℕ) (v : ℕ) → is_among xs v ≡ false → is_among ys v ≡ false → is_among (xs ++ ys) v ≡ false
either [] ys v e h = h
either (x ∷ xs) ys v e h = at (nat_eq x v) (is_among xs v) e (λ g. either xs ys v g h)
  where
    at : (a b : Bool) → (a || b) ≡ false → (b ≡ false → is_among (xs ++ ys) v ≡ false) → (a || is_among (xs ++ ys) v) ≡ false
    at true b e g = absurd (cc)
    at false b e g = g e

pub taken_not_computed : (f : VersionedProgram) (j v : ℕ) (l : Line) (uses : List ℕ) → IsWellFormed f → slice_get f.lines j ≡ Some l → taken_name l ≡ Some v → is_among (computed_variables f.lines uses) v ≡ false
taken_not_computed f j v l [] w at n = refl
taken_not_computed f j v l (k ∷ uses) w at n =
    ap (λ vs. is_among vs v) (flat_map-cons (λ m. computed_in (slice_get f.lines m)) k uses)
    ∙ either (computed_in (slice_get f.lines k)) (computed_variables f.lines uses) v (here (slice_get f.lines k) refl) (taken_not_computed f j v l uses w at n)
  where
    here : (o : Option Line) → slice_get f.lines k ≡ o → is_among (computed_in o) v ≡ false
    here None e = refl
    here (Some m) e = another f j k v l m w at n e

-- it is a variable of the form
pub taken_within : (f : VersionedProgram) (j v : ℕ) (l : Line) → IsWellFormed f → slice_get f.lines j ≡ Some l → taken_name l ≡ Some v → v < length f.variables
taken_within f j v l w at n =
    let first = taken_first f j v l w at n in
    let inside = slice_get_within f.lines j l at in
    let grow = grown f (j + 1) (length f.lines) (omega (arith, inside)) (omega arith) in
    omega (arith, first.1, grow, all_definitions f.lines, w.count)
