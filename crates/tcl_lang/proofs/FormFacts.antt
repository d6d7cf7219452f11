-- The form of a well typed program of the right shape is well formed.
use Rattle.std.proofs.Common.{pos, ◌≡◌, ℕ, zero, suc, ◌+◌, ◌-◌, ◌^◌, ◌<◌, ◌≤◌, refl, sym, ◌∙◌, ap, subst, arith, add-one, Bool, true, false, ◌&&◌, List, [], ◌∷◌, ◌++◌, length, map, take, get_or, slice_index, Option, Some, None}
use Rattle.std.specs.Option.{option_map, is_none}
use Rattle.std.specs.List.{slice_get, list_all, list_any, All, sum_by}
use Rattle.std.proofs.lemmas.Int.{ints}
use Rattle.std.proofs.lemmas.Nat.{pow_pos}
use Rattle.std.proofs.lemmas.Bool.{or_parts}
use Rattle.std.proofs.lemmas.List.{take_all, append-nil, append_assoc, length-map}
use Rattle.std.proofs.lemmas.List.Elements.{All-append}
use Rattle.std.proofs.lemmas.List.Sums.{sum_by_more}
use Rattle.std.proofs.lemmas.Option.{slice_get_within, slice_get-get_or, get_or_from_slice_get}
use Rattle.std.proofs.Math.Seq.{take-append_seam}
use Rattle.tcl_lang.specs.declared.ty.Ty.{Ty}
use Rattle.tcl_lang.specs.declared.pred.Line.{Line}
use Rattle.tcl_lang.specs.declared.pred.Line.TheVariants.{Input, Pre, Step, Assert, Assume, Cut, Post}
use Rattle.tcl_lang.specs.declared.variable.Variable.{Variable}
use Rattle.tcl_lang.specs.Program.{NamedProgram, VersionedProgram}
use Rattle.tcl_num.specs.Range.{InRange}
use Rattle.tcl_lang.specs.Types.{IsTy}
use Rattle.tcl_lang.specs.Run.{Fits, taken_types}
use Rattle.tcl_lang.specs.Names.{defined_names, used_names, occurrences}
use Rattle.tcl_lang.specs.Results.{result_types}
use Rattle.tcl_lang.specs.Shape.{stage_of, in_stages, is_line, HasShape}
use Rattle.tcl_lang.specs.Typing.{type_at, types_at, reason_in, reason_at, IsWellTyped}
use Rattle.tcl_lang.specs.Values.{types_of}
use Rattle.tcl_lang.specs.Limit.{definition_count, definitions_before}
use Rattle.tcl_lang.specs.Execution.{IsRunnable}
use Rattle.tcl_lang.specs.Form.{IsWellFormed}
use Rattle.tcl_lang.specs.Versions.{Versions, version_line, version_lines, versions_after, versions_step, versions_at, no_versions, define, define_results, numbers_from, form_of, IsForm}
use Rattle.tcl_lang.proofs.MachineRuns.{types_length}
use Rattle.tcl_lang.proofs.TypedRuns.{typed_run, line_shape, line_typed, instruction_shape, shape_runnable}
use Rattle.tcl_lang.proofs.Renaming.{line_named}
use Rattle.tcl_lang.proofs.Versioning.{versions_go, versions_begin, form_line, variables_more, undefined}
use Rattle.tcl_lang.proofs.FormRuns.{variable_count, counts_grow, form_count, form_variables}
use Rattle.tcl_lang.proofs.FormTypes.{no_type_yet, types_go_at}
use Rattle.tcl_lang.proofs.FormShapes.{HaveTypes, version_shape, version_stage, version_typed, none_of}

-- the form has as many lines as the program
length-version_lines : (names : List (List ℕ)) (v : Versions) (lines : List Line) → length (version_lines names v lines) ≡ length lines
length-version_lines names v [] = refl
length-version_lines names v (l ∷ lines) = ap suc (length-version_lines names (versions_after names v l) lines)

pub form_length : (p : NamedProgram) → length (form_of p).lines ≡ length p.lines
unfolding form_of
form_length p = length-version_lines p.names (no_versions (length p.names)) p.lines

-- lines of the same shape, in the same parts
shapes_same : (names : List (List ℕ)) (v : Versions) (lines : List Line) → list_all is_line (version_lines names v lines) ≡ list_all is_line lines
shapes_same names v [] = refl
shapes_same names v (l ∷ lines) =
    ap (λ b. b && list_all is_line (version_lines names (versions_after names v l) lines)) (version_shape v l)
    ∙ ap (λ b. is_line l && b) (shapes_same names (versions_after names v l) lines)

form_shapes : (p : NamedProgram) → list_all is_line (form_of p).lines ≡ list_all is_line p.lines
unfolding form_of
form_shapes p = shapes_same p.names (no_versions (length p.names)) p.lines

stages_same : (names : List (List ℕ)) (v : Versions) (lines : List Line) → map stage_of (version_lines names v lines) ≡ map stage_of lines
stages_same names v [] = refl
stages_same names v (l ∷ lines) =
    ap (λ n. n ∷ map stage_of (version_lines names (versions_after names v l) lines)) (version_stage v l)
    ∙ ap (λ ns. stage_of l ∷ ns) (stages_same names (versions_after names v l) lines)

form_stages : (p : NamedProgram) → map stage_of (form_of p).lines ≡ map stage_of p.lines
unfolding form_of
form_stages p = stages_same p.names (no_versions (length p.names)) p.lines

-- line k of the form is the versioned line k of the program
record IsVersioned (p : NamedProgram) (k : ℕ) (m : Line) : Type 0 where
  line : Line
  at : slice_get p.lines k ≡ Some line
  is : m ≡ version_line (versions_at p k) line

of_program : (p : NamedProgram) (k : ℕ) (m : Line) → slice_get (form_of p).lines k ≡ Some m → IsVersioned p k m
of_program p k m e = at (slice_get p.lines k) refl
  where
    same : (a b : Line) → Some a ≡ Some b → b ≡ a
    same a b e = cc

    none_some : (m : Line) → None ≡ Some m → ⊥
    none_some m e = cc

    at : (o : Option Line) → slice_get p.lines k ≡ o → IsVersioned p k m
    at None q = absurd (none_some m (sym (ap (option_map (version_line (versions_at p k))) q) ∙ sym (form_line p k) ∙ e))
    at (Some l) q = record {
      line = l;
      at = q;
      is = same (version_line (versions_at p k) l) m (sym (ap (option_map (version_line (versions_at p k))) q) ∙ sym (form_line p k) ∙ e);
    }

-- variables are only added at the end
abbrev Extends : List Variable → List Variable → Type 0
Extends xs ys = (ws : List Variable) × (ys ≡ xs ++ ws)

extends_same : (xs : List Variable) → Extends xs xs
extends_same xs = ([], sym (append-nil xs))

extends_on : (xs ys zs : List Variable) → Extends xs ys → Extends ys zs → Extends xs zs
extends_on xs ys zs a b = (a.0 ++ b.0, b.1 ∙ ap (λ vs. vs ++ b.0) a.1 ∙ append_assoc xs a.0 b.0)

results_extend : (names : List (List ℕ)) (v : Versions) (outs : List ℕ) (Ts : List Ty) → Extends v.variables (define_results names v outs Ts).variables
results_extend names v [] Ts = extends_same v.variables
results_extend names v (x ∷ outs) [] = extends_same v.variables
results_extend names v (x ∷ outs) (T ∷ Ts) =
    extends_on v.variables (define names v x T).variables (define_results names v (x ∷ outs) (T ∷ Ts)).variables (_, refl) (results_extend names (define names v x T) outs Ts)

step_extends : (names : List (List ℕ)) (v : Versions) (o : Option Line) → Extends v.variables (versions_step names v o).variables
step_extends names v None = extends_same v.variables
step_extends names v (Some (Input T x)) = (_, refl)
step_extends names v (Some (Pre p)) = extends_same v.variables
step_extends names v (Some (Step i)) = results_extend names v i.outs (result_types i.op i.ty)
step_extends names v (Some (Assert p)) = extends_same v.variables
step_extends names v (Some (Assume p)) = extends_same v.variables
step_extends names v (Some (Cut p)) = extends_same v.variables
step_extends names v (Some (Post p)) = extends_same v.variables

runs_extend : (p : NamedProgram) (k n : ℕ) → Extends (versions_at p k).variables (versions_at p (k + n)).variables
runs_extend p k zero =
    let same : k ≡ k + 0 = omega arith in
    subst (λ m. Extends (versions_at p k).variables (versions_at p m).variables) same (extends_same (versions_at p k).variables)
runs_extend p k (suc n) =
    let same : suc (k + n) ≡ k + suc n = omega arith in
    let next = subst (λ (w : Versions). Extends (versions_at p (k + n)).variables w.variables) (sym (versions_go p (k + n))) (step_extends p.names (versions_at p (k + n)) (slice_get p.lines (k + n))) in
    subst (λ m. Extends (versions_at p k).variables (versions_at p m).variables) same
    (extends_on (versions_at p k).variables (versions_at p (k + n)).variables (versions_at p (suc (k + n))).variables (runs_extend p k n) next)

-- the variables before line k are the first of the form
variables_so_far : (p : NamedProgram) (k : ℕ) → k ≤ length p.lines → take (variable_count p k) (form_of p).variables ≡ (versions_at p k).variables
variables_so_far p k h =
    let same : k + (length p.lines - k) ≡ length p.lines = omega arith in
    let all = subst (λ m. Extends (versions_at p k).variables (versions_at p m).variables) same (runs_extend p k (length p.lines - k)) in
    ap (take (variable_count p k)) (form_variables p ∙ all.1) ∙ take-append_seam (versions_at p k).variables all.0

-- a line defines the next variables
numbers_again : (n m : ℕ) (xs : List ℕ) → numbers_from n (numbers_from m xs) ≡ numbers_from n xs
numbers_again n m [] = refl
numbers_again n m (x ∷ xs) = ap (λ ns. n ∷ ns) (numbers_again (n + 1) (m + 1) xs)

numbers_length : (n : ℕ) (xs : List ℕ) → length (numbers_from n xs) ≡ length xs
numbers_length n [] = refl
numbers_length n (x ∷ xs) = ap suc (numbers_length (n + 1) xs)

defines_next : (v : Versions) (l : Line) → defined_names (version_line v l) ≡ numbers_from (length v.variables) (defined_names (version_line v l))
defines_next v (Input T x) = refl
defines_next v (Pre p) = refl
defines_next v (Step i) = sym (numbers_again (length v.variables) (length v.variables) i.outs)
defines_next v (Assert p) = refl
defines_next v (Assume p) = refl
defines_next v (Cut p) = refl
defines_next v (Post p) = refl

pub counts_by : (names : List (List ℕ)) (v : Versions) (outs : List ℕ) (Ts : List Ty) → length outs ≡ length Ts → length (define_results names v outs Ts).variables ≡ length v.variables + length outs
counts_by names v [] Ts e = omega arith
counts_by names v (x ∷ outs) [] e = absurd (omega arith)
counts_by names v (x ∷ outs) (T ∷ Ts) e = omega (arith, variables_more names v x T, counts_by names (define names v x T) outs Ts (omega arith))

line_counts : (names : List (List ℕ)) (v : Versions) (l : Line) → is_line l ≡ true → length (versions_after names v l).variables ≡ length v.variables + length (defined_names (version_line v l))
line_counts names v (Input T x) s = variables_more names v x T
line_counts names v (Pre p) s = omega arith
line_counts names v (Step i) s =
    omega (arith, counts_by names v i.outs (result_types i.op i.ty) ((instruction_shape i s).outs ∙ sym (types_length i.op i.ty)), numbers_length (length v.variables) i.outs)
line_counts names v (Assert p) s = omega arith
line_counts names v (Assume p) s = omega arith
line_counts names v (Cut p) s = omega arith
line_counts names v (Post p) s = omega arith

-- definitions before the next place
pub definitions_go : (lines : List Line) (k : ℕ) (l : Line) → slice_get lines k ≡ Some l → definitions_before lines (k + 1) ≡ definitions_before lines k + length (defined_names l)
definitions_go lines k l e =
    sum_by_more (λ l. length (defined_names l)) lines k l (slice_get_within lines k l e)
    ∙ ap (λ m. sum_by (λ l. length (defined_names l)) (take k lines) + length (defined_names m)) (get_or_from_slice_get lines k l l e)

pub definitions_begin : (lines : List Line) → definitions_before lines 0 ≡ 0
definitions_begin [] = refl
definitions_begin (l ∷ lines) = refl

pub all_definitions : (lines : List Line) → definitions_before lines (length lines) ≡ definition_count lines
all_definitions lines = ap definition_count (take_all (length lines) lines (omega arith))

-- the definitions before line k are the variables so far
definitions_are : (p : NamedProgram) (k : ℕ) → IsRunnable (length p.names) p.lines → k ≤ length p.lines → definitions_before (form_of p).lines k ≡ variable_count p k
definitions_are p zero r h = definitions_begin (form_of p).lines ∙ ap (λ (v : Versions). length v.variables) (sym (versions_begin p))
definitions_are p (suc k) r h =
    let less : k < length p.lines = omega arith in
    let l = get_or p.lines k (Input (record { signed = false; width = 0 }) 0) in
    let at : slice_get p.lines k ≡ Some l = slice_get-get_or p.lines k (Input (record { signed = false; width = 0 }) 0) less in
    let v = versions_at p k in
    let line : slice_get (form_of p).lines k ≡ Some (version_line v l) = form_line p k ∙ ap (option_map (version_line v)) at in
    let next : versions_at p (suc k) ≡ versions_after p.names v l = versions_go p k ∙ ap (versions_step p.names v) at in
    ap (definitions_before (form_of p).lines) (sym (add-one k))
    ∙ definitions_go (form_of p).lines k (version_line v l) line
    ∙ ap (λ n. n + length (defined_names (version_line v l))) (definitions_are p k r (omega arith))
    ∙ sym (line_counts p.names v l (line_shape (length p.names) p.lines k l r at))
    ∙ ap (λ (w : Versions). length w.variables) (sym next)

-- variables that names of a type mean are defined
type_within : (vs : List Variable) (u : ℕ) (T : Ty) → slice_get (types_of vs) u ≡ Some T → u < length vs
type_within vs u T e = omega (arith, slice_get_within (types_of vs) u T e, length-map vs (λ (v : Variable). v.ty))

have_types : (p : NamedProgram) (k : ℕ) → k ≤ length p.lines → HaveTypes (types_at (length p.names) p.lines k) (versions_at p k).current (types_at (length (form_of p).variables) (form_of p).lines k)
have_types p k h x e = at (type_at (types_at (length p.names) p.lines k) x) refl e
  where
    at : (o : Option Ty) → type_at (types_at (length p.names) p.lines k) x ≡ o → is_none o ≡ false → type_at (types_at (length (form_of p).variables) (form_of p).lines k) (slice_index (versions_at p k).current x) ≡ type_at (types_at (length p.names) p.lines k) x
    at None q n = absurd (cc)
    at (Some T) q n = (types_go_at p k h).same x T q ∙ sym q

all_below : (bad : ℕ → Bool) (current : List ℕ) (n : ℕ) → ((x : ℕ) → bad x ≡ false → slice_index current x < n) → (xs : List ℕ) → list_any bad xs ≡ false → All (λ u. u < n) (map (slice_index current) xs)
all_below bad current n h [] e k d less = absurd (omega arith)
all_below bad current n h (x ∷ xs) e zero d less = h x (or_parts (bad x) (list_any bad xs) e).0
all_below bad current n h (x ∷ xs) e (suc k) d less = all_below bad current n h xs (or_parts (bad x) (list_any bad xs) e).1 k d (omega arith)

means_defined : (p : NamedProgram) (k x : ℕ) → k ≤ length p.lines → undefined (types_at (length p.names) p.lines k) x ≡ false → slice_index (versions_at p k).current x < variable_count p k
means_defined p k x h e = at (type_at (types_at (length p.names) p.lines k) x) refl e
  where
    at : (o : Option Ty) → type_at (types_at (length p.names) p.lines k) x ≡ o → is_none o ≡ false → slice_index (versions_at p k).current x < variable_count p k
    at None q n = absurd (cc)
    at (Some T) q n =
        let g = types_go_at p k h in
        type_within (versions_at p k).variables (slice_index (versions_at p k).current x) T (sym (g.own_types (slice_index (versions_at p k).current x)) ∙ g.same x T q)

-- a line reads variables that are defined before it
reads_so_far : (p : NamedProgram) (k : ℕ) (l : Line) → IsWellTyped (length p.names) p.lines → slice_get p.lines k ≡ Some l → All (λ u. u < variable_count p k) (used_names (version_line (versions_at p k) l))
reads_so_far p k l typed at =
    let h : k ≤ length p.lines = omega (arith, slice_get_within p.lines k l at) in
    subst (λ names. All (λ u. u < variable_count p k) names) (sym (line_named (versions_at p k) l))
    (all_below (undefined (types_at (length p.names) p.lines k)) (versions_at p k).current (variable_count p k) (λ x e. means_defined p k x h e) (used_names l) (line_typed (length p.names) p.lines k l typed at).defined)

-- no line of the form has a reason
form_typed : (p : NamedProgram) → IsWellTyped (length p.names) p.lines → IsWellTyped (length (form_of p).variables) (form_of p).lines
unfolding IsWellTyped reason_at
form_typed p typed k h =
    let less : k < length p.lines = omega (arith, h, form_length p) in
    let l = get_or p.lines k (Input (record { signed = false; width = 0 }) 0) in
    let at : slice_get p.lines k ≡ Some l = slice_get-get_or p.lines k (Input (record { signed = false; width = 0 }) 0) less in
    let v = versions_at p k in
    let own = types_at (length (form_of p).variables) (form_of p).lines k in
    let line : slice_get (form_of p).lines k ≡ Some (version_line v l) = form_line p k ∙ ap (option_map (version_line v)) at in
    let fresh : type_at own (length v.variables) ≡ None = (types_go_at p k (omega arith)).own_types (length v.variables) ∙ no_type_yet v.variables in
    ap (reason_in own) line
    ∙ none_of own (version_line v l) (version_typed (types_at (length p.names) p.lines k) v own l (have_types p k (omega arith)) fresh (line_typed (length p.names) p.lines k l typed at))

-- names from a number on
numbers_below : (n m : ℕ) (xs : List ℕ) → n + length xs ≤ m → All (λ u. u < m) (numbers_from n xs)
numbers_below n m [] h k d less = absurd (omega arith)
numbers_below n m (x ∷ xs) h zero d less = omega arith
numbers_below n m (x ∷ xs) h (suc k) d less = numbers_below (n + 1) m xs (omega arith) k d (omega arith)

all_weaker : (n m : ℕ) (xs : List ℕ) → n ≤ m → All (λ u. u < n) xs → All (λ u. u < m) xs
all_weaker n m xs h a k d less = let small : get_or xs k d < n = a k d less in omega arith

form_named : (p : NamedProgram) → IsRunnable (length p.names) p.lines → (k : ℕ) (m : Line) → slice_get (form_of p).lines k ≡ Some m → All (λ u. u < length (form_of p).variables) (occurrences m)
form_named p r k m e =
    let o = of_program p k m e in
    let M = length (form_of p).variables in
    let v = versions_at p k in
    let l = o.line in
    let within : k < length p.lines = slice_get_within p.lines k l o.at in
    let next : variable_count p (suc k) ≡ variable_count p k + length (defined_names (version_line v l)) =
    ap (λ (w : Versions). length w.variables) (versions_go p k ∙ ap (versions_step p.names v) o.at) ∙ line_counts p.names v l (line_shape (length p.names) p.lines k l r o.at) in
    let room : variable_count p (suc k) ≤ M = omega (arith, counts_grow p (suc k) (length p.lines) within, form_count p) in
    let defined : All (λ u. u < M) (defined_names (version_line v l)) =
    subst (λ names. All (λ u. u < M) names) (sym (defines_next v l)) (numbers_below (length v.variables) M (defined_names (version_line v l)) (omega (arith, next, room))) in
    let used = all_weaker (variable_count p k) M (used_names (version_line v l)) (omega (arith, next, room)) (reads_so_far p k l r.typed o.at) in
    subst (λ x. All (λ u. u < M) (occurrences x)) (sym o.is) (All-append (λ u. u < M) (defined_names (version_line v l)) (used_names (version_line v l)) defined used)

-- the types of variables are types of words: some input fits, and its run is typed
pub zero_in : (s : Bool) (w : ℕ) → InRange s w (pos 0)
zero_in true w = (omega (arith, ints), omega (arith, ints, pow_pos (w - 1)))
zero_in false w = (omega (arith, ints), omega (arith, ints, pow_pos w))

zeros_fit : (Ts : List Ty) → Fits Ts (map (λ T. pos 0) Ts)
zeros_fit [] = tt
zeros_fit (T ∷ Ts) = (zero_in T.signed T.width, zeros_fit Ts)

typed_words : (names : ℕ) (lines : List Line) (u : ℕ) (T : Ty) → IsRunnable names lines → type_at (types_at names lines (length lines)) u ≡ Some T → IsTy T
typed_words names lines u T r e = ((typed_run names lines (map (λ T. pos 0) (taken_types lines)) r (zeros_fit (taken_types lines)) (length lines)).typed u T e).0

each_typed : (vs : List Variable) (u : ℕ) (d : Variable) → u < length vs → slice_get (types_of vs) u ≡ Some (get_or vs u d).ty
each_typed [] u d h = absurd (omega arith)
each_typed (v ∷ vs) zero d h = refl
each_typed (v ∷ vs) (suc u) d h = each_typed vs u d (omega arith)

form_words : (p : NamedProgram) → IsRunnable (length (form_of p).variables) (form_of p).lines → All (λ x. IsTy x.ty) (form_of p).variables
form_words p r u d h =
    let g = types_go_at p (length p.lines) (omega arith) in
    typed_words (length (form_of p).variables) (form_of p).lines u (get_or (form_of p).variables u d).ty r
    (ap (λ k. type_at (types_at (length (form_of p).variables) (form_of p).lines k) u) (form_length p)
    ∙ g.own_types u ∙ ap (λ vs. slice_get (types_of vs) u) (sym (form_variables p)) ∙ each_typed (form_of p).variables u d h)

form_runs : (p : NamedProgram) → IsRunnable (length p.names) p.lines → IsRunnable (length (form_of p).variables) (form_of p).lines
form_runs p r = record {
  shapes = form_shapes p ∙ r.shapes;
  named = form_named p r;
  typed = form_typed p r.typed;
}

-- the form of a program
pub form_well_formed : (p : NamedProgram) → HasShape p.names p.lines → IsWellTyped (length p.names) p.lines → length (form_of p).variables < 2 ^ 32 → IsWellFormed (form_of p)
form_well_formed p shape typed few =
    let r = shape_runnable p.names p.lines shape typed in
    record {
      runnable = form_runs p r;
      words = form_words p (form_runs p r);
      stages = ap (in_stages 0) (form_stages p) ∙ shape.stages;
      few_lines = omega (arith, form_length p, shape.few);
      few_variables = few;
      count = sym (all_definitions (form_of p).lines) ∙ ap (definitions_before (form_of p).lines) (form_length p) ∙ definitions_are p (length p.lines) r (omega arith) ∙ sym (form_count p);
      defines = λ k m e.
          let o = of_program p k m e in
          let within : k < length p.lines = slice_get_within p.lines k o.line o.at in
          ap defined_names o.is ∙ defines_next (versions_at p k) o.line
          ∙ ap (λ n. numbers_from n (defined_names (version_line (versions_at p k) o.line))) (sym (definitions_are p k r (omega arith)))
          ∙ ap (λ x. numbers_from (definitions_before (form_of p).lines k) (defined_names x)) (sym o.is);
      reads = λ k m e.
          let o = of_program p k m e in
          let within : k < length p.lines = slice_get_within p.lines k o.line o.at in
          subst (λ x. All (λ u. u < definitions_before (form_of p).lines k) (used_names x)) (sym o.is)
          (subst (λ n. All (λ u. u < n) (used_names (version_line (versions_at p k) o.line))) (sym (definitions_are p k r (omega arith))) (reads_so_far p k o.line typed o.at));
      types = λ k u h.
          let within : k ≤ length p.lines = omega (arith, h, form_length p) in
          (types_go_at p k within).own_types u
          ∙ ap (λ vs. slice_get (types_of vs) u) (sym (variables_so_far p k within))
          ∙ ap (λ n. slice_get (types_of (take n (form_of p).variables)) u) (sym (definitions_are p k r within));
    }

-- each form
pub well_formed : (f : VersionedProgram) → IsForm f → IsWellFormed f
well_formed f form =
    subst IsWellFormed (sym form.form)
    (form_well_formed form.source form.shape form.typed (omega (arith, ap (λ (g : VersionedProgram). length g.variables) form.form, form.few)))
