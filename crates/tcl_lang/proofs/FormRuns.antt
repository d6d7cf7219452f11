-- The form of a program is correct where the program is, and is refuted by the same inputs.
use Rattle.std.proofs.Common.{◌≡◌, inl, inr, ℕ, zero, suc, ◌+◌, ◌-◌, ◌<◌, ◌≤◌, refl, sym, ◌∙◌, ap, subst, arith, ℤ, pos, false, List, length, replicate, get_or, slice_index, Option, Some, None}
use Rattle.std.specs.Option.{option_map}
use Rattle.std.specs.List.{slice_get}
use Rattle.std.proofs.lemmas.Bool.{cases_lt}
use Rattle.std.proofs.lemmas.List.{length-replicate, get_or-replicate, get_or_past}
use Rattle.std.proofs.lemmas.Option.{slice_get_within, slice_get-get_or}
use Rattle.tcl_lang.specs.declared.ty.Ty.{Ty}
use Rattle.tcl_lang.specs.declared.ty.Word.{Word}
use Rattle.tcl_lang.specs.declared.pred.Line.{Line}
use Rattle.tcl_lang.specs.declared.pred.Line.TheVariants.{Input, Pre, Step, Assert, Assume, Cut, Post}
use Rattle.tcl_lang.specs.Program.{NamedProgram}
use Rattle.tcl_lang.specs.Store.{empty_word, word_at}
use Rattle.tcl_lang.specs.Line.{is_goal, is_precondition, is_assumption}
use Rattle.tcl_lang.specs.Results.{result_types}
use Rattle.tcl_lang.specs.Run.{Fits, taken_before, store_at, store_after}
use Rattle.tcl_lang.specs.Goal.{truth_at, truth_in}
use Rattle.tcl_lang.specs.Checked.{computed_in, computed_at}
use Rattle.tcl_lang.specs.Correct.{IsCorrect, IsCounterexample}
use Rattle.tcl_lang.specs.Typing.{type_at, types_at, types_after, IsWellTyped}
use Rattle.tcl_lang.specs.Versions.{Versions, version_line, versions_after, versions_step, versions_at, no_versions, form_of}
use Rattle.tcl_lang.proofs.TypedStores.{type_is}
use Rattle.tcl_lang.proofs.TypedRuns.{line_typed}
use Rattle.tcl_lang.proofs.Renaming.{line_same, line_computed_same}
use Rattle.tcl_lang.proofs.Versioning.{Goes, hold_same, undefined, versions_go, versions_begin, form_line, form_passes, form_types, form_taken, form_goals, goals_ignore, preconditions_ignore, assumptions_ignore, variables_more, results_grow, line_goes}

-- variables are only added
line_grows : (names : List (List ℕ)) (v : Versions) (l : Line) → length v.variables ≤ length (versions_after names v l).variables
line_grows names v (Input T x) = omega (arith, variables_more names v x T)
line_grows names v (Pre p) = omega arith
line_grows names v (Step i) = results_grow names v i.outs (result_types i.op i.ty)
line_grows names v (Assert p) = omega arith
line_grows names v (Assume p) = omega arith
line_grows names v (Cut p) = omega arith
line_grows names v (Post p) = omega arith

step_grows : (names : List (List ℕ)) (v : Versions) (o : Option Line) → length v.variables ≤ length (versions_step names v o).variables
step_grows names v None = omega arith
step_grows names v (Some l) = line_grows names v l

abbrev pub variable_count : NamedProgram → ℕ → ℕ
variable_count p k = length (versions_at p k).variables

versions_grow : (p : NamedProgram) (k n : ℕ) → variable_count p k ≤ variable_count p (k + n)
versions_grow p k zero = let same : k + 0 ≡ k = omega arith in omega (arith, ap (variable_count p) same)
versions_grow p k (suc n) =
    let same : k + suc n ≡ suc (k + n) = omega arith in
    let more : variable_count p (suc (k + n)) ≡ length (versions_step p.names (versions_at p (k + n)) (slice_get p.lines (k + n))).variables = ap (λ (v : Versions). length v.variables) (versions_go p (k + n)) in
    omega (arith, ap (variable_count p) same, more, step_grows p.names (versions_at p (k + n)) (slice_get p.lines (k + n)), versions_grow p k n)

pub counts_grow : (p : NamedProgram) (j k : ℕ) → j ≤ k → variable_count p j ≤ variable_count p k
counts_grow p j k h = let same : j + (k - j) ≡ k = omega arith in omega (arith, ap (variable_count p) same, versions_grow p j (k - j))

pub form_variables : (p : NamedProgram) → (form_of p).variables ≡ (versions_at p (length p.lines)).variables
unfolding form_of
form_variables p = refl

pub form_count : (p : NamedProgram) → length (form_of p).variables ≡ variable_count p (length p.lines)
form_count p = ap length (form_variables p)

-- the two runs, from line to line
pub types_begin : (names : ℕ) (lines : List Line) → types_at names lines 0 ≡ replicate names None
unfolding types_at
types_begin names lines = refl

pub types_go : (names : ℕ) (lines : List Line) (k : ℕ) → types_at names lines (suc k) ≡ types_after (types_at names lines k) (slice_get lines k)
unfolding types_at
types_go names lines k = refl

pub store_begin : (names : ℕ) (lines : List Line) (input : List ℤ) → store_at names lines input 0 ≡ replicate names empty_word
unfolding store_at
store_begin names lines input = refl

pub store_go : (names : ℕ) (lines : List Line) (input : List ℤ) (k : ℕ) → store_at names lines input (suc k) ≡ store_after (slice_get lines k) (get_or input (taken_before lines k) (pos 0)) (store_at names lines input k)
unfolding store_at
store_go names lines input k = refl

moved : (N M : ℕ) (t u : List (Option Ty)) (v w : Versions) (S R F G : List Word) → t ≡ u → v ≡ w → S ≡ R → F ≡ G → Goes N M u w R G → Goes N M t v S F
moved N M t u v w S R F G a b c d g =
    subst (λ (x : List (Option Ty)). Goes N M x v S F) (sym a)
    (subst (λ (x : Versions). Goes N M u x S F) (sym b)
    (subst (λ (x : List Word). Goes N M u w x F) (sym c)
    (subst (λ (x : List Word). Goes N M u w R x) (sym d) g)))

none_typed : (names x : ℕ) (T : Ty) → type_at (replicate names None) x ≡ Some T → ⊥
none_typed names x T e = elim (cases_lt x names) [
  | inl h ↦ clash (sym (get_or-replicate names x None None h) ∙ sym (type_is (replicate names None) x) ∙ e)
  | inr h ↦ clash (sym (get_or_past (replicate names None) x None (omega (arith, length-replicate {A = Option Ty} names None))) ∙ sym (type_is (replicate names None) x) ∙ e)
]
  where
    clash : None ≡ Some T → ⊥
    clash e = cc

begin : (N M : ℕ) → Goes N M (replicate N None) (no_versions N) (replicate N empty_word) (replicate M empty_word)
begin N M = record {
  types_count = length-replicate N None;
  current_count = length-replicate N 0;
  words_count = length-replicate N empty_word;
  room = length-replicate M empty_word;
  same = λ x T e. absurd (none_typed N x T e);
}

next : (p : NamedProgram) (input : List ℤ) (M k : ℕ) (l : Line) → IsWellTyped (length p.names) p.lines → slice_get p.lines k ≡ Some l → variable_count p (suc k) ≤ M → Goes (length p.names) M (types_at (length p.names) p.lines k) (versions_at p k) (store_at (length p.names) p.lines input k) (store_at M (form_of p).lines input k) → Goes (length p.names) M (types_at (length p.names) p.lines (suc k)) (versions_at p (suc k)) (store_at (length p.names) p.lines input (suc k)) (store_at M (form_of p).lines input (suc k))
next p input M k l typed at room g =
    let N = length p.names in
    let n = get_or input (taken_before p.lines k) (pos 0) in
    let types = types_at N p.lines k in
    let v = versions_at p k in
    let S = store_at N p.lines input k in
    let F = store_at M (form_of p).lines input k in
    let here : versions_at p (suc k) ≡ versions_after p.names v l = versions_go p k ∙ ap (versions_step p.names v) at in
    let line : slice_get (form_of p).lines k ≡ Some (version_line v l) = form_line p k ∙ ap (option_map (version_line v)) at in
    let taken : get_or input (taken_before (form_of p).lines k) (pos 0) ≡ n = ap (λ i. get_or input i (pos 0)) (form_taken p k) in
    moved N M (types_at N p.lines (suc k)) (types_after types (Some l)) (versions_at p (suc k)) (versions_after p.names v l)
    (store_at N p.lines input (suc k)) (store_after (Some l) n S) (store_at M (form_of p).lines input (suc k)) (store_after (Some (version_line v l)) n F)
    (types_go N p.lines k ∙ ap (types_after types) at) here
    (store_go N p.lines input k ∙ ap (λ o. store_after o n S) at)
    (store_go M (form_of p).lines input k ∙ ap (λ o. store_after o (get_or input (taken_before (form_of p).lines k) (pos 0)) F) line ∙ ap (λ (m : ℤ). store_after (Some (version_line v l)) m F) taken)
    (line_goes N M p.names types v S F l n g (line_typed N p.lines k l typed at).defined (omega (arith, room, ap (λ (w : Versions). length w.variables) here)))

-- before each line the runs go together
pub goes_at : (p : NamedProgram) (input : List ℤ) (k : ℕ) → IsWellTyped (length p.names) p.lines → k ≤ length p.lines → Goes (length p.names) (length (form_of p).variables) (types_at (length p.names) p.lines k) (versions_at p k) (store_at (length p.names) p.lines input k) (store_at (length (form_of p).variables) (form_of p).lines input k)
goes_at p input zero typed h =
    let N = length p.names in
    let M = length (form_of p).variables in
    moved N M (types_at N p.lines 0) (replicate N None) (versions_at p 0) (no_versions N) (store_at N p.lines input 0) (replicate N empty_word) (store_at M (form_of p).lines input 0) (replicate M empty_word)
    (types_begin N p.lines) (versions_begin p) (store_begin N p.lines input) (store_begin M (form_of p).lines input) (begin N M)
goes_at p input (suc k) typed h =
    let less : k < length p.lines = omega arith in
    let at = slice_get-get_or p.lines k (Input (record { signed = false; width = 0 }) 0) less in
    let room : variable_count p (suc k) ≤ length (form_of p).variables = omega (arith, counts_grow p (suc k) (length p.lines) less, form_count p) in
    next p input (length (form_of p).variables) k (get_or p.lines k (Input (record { signed = false; width = 0 }) 0)) typed at room (goes_at p input k typed (omega arith))

-- each line says the same in the runs
pub truth_same : (p : NamedProgram) (input : List ℤ) (k : ℕ) → IsWellTyped (length p.names) p.lines → truth_at (length (form_of p).variables) (form_of p).lines input k ≡ truth_at (length p.names) p.lines input k
unfolding truth_at
truth_same p input k typed = ap (truth_in (store_at (length (form_of p).variables) (form_of p).lines input k)) (form_line p k) ∙ at (slice_get p.lines k) refl
  where
    at : (o : Option Line) → slice_get p.lines k ≡ o → truth_in (store_at (length (form_of p).variables) (form_of p).lines input k) (option_map (version_line (versions_at p k)) o) ≡ truth_in (store_at (length p.names) p.lines input k) o
    at None e = refl
    at (Some l) e =
        let g = goes_at p input k typed (omega (arith, slice_get_within p.lines k l e)) in
        line_same (undefined (types_at (length p.names) p.lines k)) (versions_at p k) (store_at (length p.names) p.lines input k) (store_at (length (form_of p).variables) (form_of p).lines input k)
        (hold_same (length p.names) (length (form_of p).variables) (types_at (length p.names) p.lines k) (versions_at p k) (store_at (length p.names) p.lines input k) (store_at (length (form_of p).variables) (form_of p).lines input k) g)
        l (line_typed (length p.names) p.lines k l typed e).defined

-- as much of each line can be computed in both
pub computed_at_same : (p : NamedProgram) (input : List ℤ) (k : ℕ) → IsWellTyped (length p.names) p.lines → computed_at (length (form_of p).variables) (form_of p).lines input k ≡ computed_at (length p.names) p.lines input k
unfolding computed_at
computed_at_same p input k typed = ap (computed_in (store_at (length (form_of p).variables) (form_of p).lines input k)) (form_line p k) ∙ at (slice_get p.lines k) refl
  where
    at : (o : Option Line) → slice_get p.lines k ≡ o → computed_in (store_at (length (form_of p).variables) (form_of p).lines input k) (option_map (version_line (versions_at p k)) o) ≡ computed_in (store_at (length p.names) p.lines input k) o
    at None e = refl
    at (Some l) e =
        let g = goes_at p input k typed (omega (arith, slice_get_within p.lines k l e)) in
        line_computed_same (undefined (types_at (length p.names) p.lines k)) (versions_at p k) (store_at (length p.names) p.lines input k) (store_at (length (form_of p).variables) (form_of p).lines input k)
        (hold_same (length p.names) (length (form_of p).variables) (types_at (length p.names) p.lines k) (versions_at p k) (store_at (length p.names) p.lines input k) (store_at (length (form_of p).variables) (form_of p).lines input k) g)
        l (line_typed (length p.names) p.lines k l typed e).defined

-- the word of a name is the word of its current version
pub words_same : (p : NamedProgram) (input : List ℤ) (k name : ℕ) (T : Ty) → IsWellTyped (length p.names) p.lines → k ≤ length p.lines → type_at (types_at (length p.names) p.lines k) name ≡ Some T → word_at (store_at (length (form_of p).variables) (form_of p).lines input k) (slice_index (versions_at p k).current name) ≡ word_at (store_at (length p.names) p.lines input k) name
words_same p input k name T typed h e = ((goes_at p input k typed h).same name T e).1

-- the program is correct where its form is, and the other way round
pub correct_by_form : (p : NamedProgram) → IsWellTyped (length p.names) p.lines → IsCorrect (length (form_of p).variables) (form_of p).lines → IsCorrect (length p.names) p.lines
unfolding IsCorrect
correct_by_form p typed correct input fits pre k goal keeps =
    sym (truth_same p input k typed)
    ∙ correct input (subst (λ Ts. Fits Ts input) (sym (form_types p)) fits)
    (λ j a. truth_same p input j typed ∙ pre j (sym (form_passes is_precondition preconditions_ignore p j) ∙ a)) k
    (form_passes is_goal goals_ignore p k ∙ goal)
    (λ j less a. truth_same p input j typed ∙ keeps j less (sym (form_passes is_assumption assumptions_ignore p j) ∙ a))

pub form_correct : (p : NamedProgram) → IsWellTyped (length p.names) p.lines → IsCorrect (length p.names) p.lines → IsCorrect (length (form_of p).variables) (form_of p).lines
unfolding IsCorrect
form_correct p typed correct input fits pre k goal keeps =
    truth_same p input k typed
    ∙ correct input (subst (λ Ts. Fits Ts input) (form_types p) fits)
    (λ j a. sym (truth_same p input j typed) ∙ pre j (form_passes is_precondition preconditions_ignore p j ∙ a)) k
    (sym (form_passes is_goal goals_ignore p k) ∙ goal)
    (λ j less a. sym (truth_same p input j typed) ∙ keeps j less (form_passes is_assumption assumptions_ignore p j ∙ a))

-- an input that refutes a goal of the form refutes that goal of the program
pub refutes_by_form : (p : NamedProgram) (input : List ℤ) (i : ℕ) → IsWellTyped (length p.names) p.lines → IsCounterexample (length (form_of p).variables) (form_of p).lines input i → IsCounterexample (length p.names) p.lines input i
refutes_by_form p input i typed c = record {
  place = c.place;
  at = record { goal = sym (form_passes is_goal goals_ignore p c.place) ∙ c.at.goal; number = sym (form_goals p c.place) ∙ c.at.number };
  fits = subst (λ Ts. Fits Ts input) (form_types p) c.fits;
  precondition = λ j a. sym (truth_same p input j typed) ∙ c.precondition j (form_passes is_precondition preconditions_ignore p j ∙ a);
  assumptions = λ j less a. sym (truth_same p input j typed) ∙ c.assumptions j less (form_passes is_assumption assumptions_ignore p j ∙ a);
  goals = λ j less a. sym (truth_same p input j typed) ∙ c.goals j less (form_passes is_goal goals_ignore p j ∙ a);
  fails = sym (truth_same p input c.place typed) ∙ c.fails;
}

-- and the other way round
pub form_refutes : (p : NamedProgram) (input : List ℤ) (i : ℕ) → IsWellTyped (length p.names) p.lines → IsCounterexample (length p.names) p.lines input i → IsCounterexample (length (form_of p).variables) (form_of p).lines input i
form_refutes p input i typed c = record {
  place = c.place;
  at = record { goal = form_passes is_goal goals_ignore p c.place ∙ c.at.goal; number = form_goals p c.place ∙ c.at.number };
  fits = subst (λ Ts. Fits Ts input) (sym (form_types p)) c.fits;
  precondition = λ j a. truth_same p input j typed ∙ c.precondition j (sym (form_passes is_precondition preconditions_ignore p j) ∙ a);
  assumptions = λ j less a. truth_same p input j typed ∙ c.assumptions j less (sym (form_passes is_assumption assumptions_ignore p j) ∙ a);
  goals = λ j less a. truth_same p input j typed ∙ c.goals j less (sym (form_passes is_goal goals_ignore p j) ∙ a);
  fails = truth_same p input c.place typed ∙ c.fails;
}
