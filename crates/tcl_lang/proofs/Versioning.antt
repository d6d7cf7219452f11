-- The run of the versioned form goes with the run of the program: before each line each name that has a type holds the
-- word of the variable that it means.
use Rattle.std.proofs.Common.{◌≡◌, ◌≢◌, inl, inr, ℕ, zero, suc, ◌+◌, ◌<◌, ◌≤◌, refl, sym, ◌∙◌, ap, subst, arith, ℤ, Bool, false, cond, List, [], ◌∷◌, length, take, get_or, set, slice_index, Option, Some, None}
use Rattle.std.specs.Option.{option_map, is_some, is_none}
use Rattle.std.specs.List.{slice_get, count_by, cons_option}
use Rattle.std.proofs.lemmas.Bool.{cases_eq, cases_lt}
use Rattle.std.proofs.lemmas.List.{length-set, length-append, get_or-set_same, get_or-set_other}
use Rattle.std.proofs.lemmas.List.Sums.{sum_by-cons}
use Rattle.tcl_lang.specs.declared.ty.Ty.{Ty}
use Rattle.tcl_lang.specs.declared.ty.Word.{Word}
use Rattle.tcl_lang.specs.declared.instr.Op.{Op}
use Rattle.tcl_lang.specs.declared.instr.Op.TheVariants.{Mov, Add, Adds, Adc, Adcs, Sub, Subb, Sbb, Sbbs, Mul, Mull, Mulj, Shl, Split, Join, Cast, Vpc, Cmov, And, Or, Xor, Not, Nondet}
use Rattle.tcl_lang.specs.declared.pred.Line.{Line}
use Rattle.tcl_lang.specs.declared.pred.Line.TheVariants.{Input, Pre, Step, Assert, Assume, Cut, Post}
use Rattle.tcl_lang.specs.Program.{NamedProgram}
use Rattle.tcl_lang.specs.Store.{empty_word, word_at, set_word}
use Rattle.tcl_lang.specs.Line.{taken_type, values_of, is_goal, is_precondition, is_assumption}
use Rattle.tcl_lang.specs.Results.{results_of, result_types}
use Rattle.tcl_lang.specs.Run.{taken_types, taken_before, store_after, write_all, operands_of}
use Rattle.tcl_lang.specs.Goal.{passes, goals_before}
use Rattle.tcl_lang.specs.Typing.{type_at, types_after, define_all, has_undefined}
use Rattle.tcl_lang.specs.Versions.{Versions, version_line, version_lines, versions_after, versions_step, versions_at, no_versions, define, define_results, numbers_from, form_of}
use Rattle.tcl_lang.proofs.TypedStores.{type_is}
use Rattle.tcl_lang.proofs.Renaming.{HoldSame, values_same}

-- the versions before the next line
pub versions_go : (p : NamedProgram) (k : ℕ) → versions_at p (suc k) ≡ versions_step p.names (versions_at p k) (slice_get p.lines k)
unfolding versions_at
versions_go p k = refl

pub versions_begin : (p : NamedProgram) → versions_at p zero ≡ no_versions (length p.names)
unfolding versions_at
versions_begin p = refl

-- a line of the form is the versioned line
lines_at : (names : List (List ℕ)) (lines : List Line) (W : ℕ → Versions) (v : Versions) → W zero ≡ v → ((k : ℕ) → W (suc k) ≡ versions_step names (W k) (slice_get lines k)) → (k : ℕ) → slice_get (version_lines names v lines) k ≡ option_map (version_line (W k)) (slice_get lines k)
lines_at names [] W v b h zero = refl
lines_at names [] W v b h (suc k) = refl
lines_at names (l ∷ lines) W v b h zero = ap (λ (w : Versions). Some (version_line w l)) (sym b)
lines_at names (l ∷ lines) W v b h (suc k) =
    lines_at names lines (λ n. W (suc n)) (versions_after names v l) (h zero ∙ ap (λ (w : Versions). versions_after names w l) b) (λ n. h (suc n)) k

pub form_line : (p : NamedProgram) (k : ℕ) → slice_get (form_of p).lines k ≡ option_map (version_line (versions_at p k)) (slice_get p.lines k)
unfolding form_of
form_line p k = lines_at p.names p.lines (versions_at p) (no_versions (length p.names)) (versions_begin p) (versions_go p) k

-- a test that does not look at names says the same of both lines
abbrev pub Ignores : (Line → Bool) → Type 0
Ignores test = (v : Versions) (l : Line) → test (version_line v l) ≡ test l

passes_same : (test : Line → Bool) → Ignores test → (v : Versions) (o : Option Line) → passes test (option_map (version_line v) o) ≡ passes test o
passes_same test h v None = refl
passes_same test h v (Some l) = h v l

pub form_passes : (test : Line → Bool) → Ignores test → (p : NamedProgram) (k : ℕ) → passes test (slice_get (form_of p).lines k) ≡ passes test (slice_get p.lines k)
form_passes test h p k = ap (passes test) (form_line p k) ∙ passes_same test h (versions_at p k) (slice_get p.lines k)

pub goals_ignore : Ignores is_goal
goals_ignore v (Input T x) = refl
goals_ignore v (Pre p) = refl
goals_ignore v (Step i) = refl
goals_ignore v (Assert p) = refl
goals_ignore v (Assume p) = refl
goals_ignore v (Cut p) = refl
goals_ignore v (Post p) = refl

pub preconditions_ignore : Ignores is_precondition
preconditions_ignore v (Input T x) = refl
preconditions_ignore v (Pre p) = refl
preconditions_ignore v (Step i) = refl
preconditions_ignore v (Assert p) = refl
preconditions_ignore v (Assume p) = refl
preconditions_ignore v (Cut p) = refl
preconditions_ignore v (Post p) = refl

pub assumptions_ignore : Ignores is_assumption
assumptions_ignore v (Input T x) = refl
assumptions_ignore v (Pre p) = refl
assumptions_ignore v (Step i) = refl
assumptions_ignore v (Assert p) = refl
assumptions_ignore v (Assume p) = refl
assumptions_ignore v (Cut p) = refl
assumptions_ignore v (Post p) = refl

taken_same : (v : Versions) (l : Line) → taken_type (version_line v l) ≡ taken_type l
taken_same v (Input T x) = refl
taken_same v (Pre p) = refl
taken_same v (Step i) = refl
taken_same v (Assert p) = refl
taken_same v (Assume p) = refl
taken_same v (Cut p) = refl
taken_same v (Post p) = refl

types_same : (names : List (List ℕ)) (v : Versions) (lines : List Line) → taken_types (version_lines names v lines) ≡ taken_types lines
types_same names v [] = refl
types_same names v (l ∷ lines) =
    ap (λ o. cons_option o (taken_types (version_lines names (versions_after names v l) lines))) (taken_same v l)
    ∙ ap (λ ts. cons_option (taken_type l) ts) (types_same names (versions_after names v l) lines)

pub form_types : (p : NamedProgram) → taken_types (form_of p).lines ≡ taken_types p.lines
unfolding form_of
form_types p = types_same p.names (no_versions (length p.names)) p.lines

count_same : (test : Line → Bool) → Ignores test → (names : List (List ℕ)) (v : Versions) (lines : List Line) (k : ℕ) → count_by test (take k (version_lines names v lines)) ≡ count_by test (take k lines)
count_same test h names v [] zero = refl
count_same test h names v [] (suc k) = refl
count_same test h names v (l ∷ lines) zero = refl
count_same test h names v (l ∷ lines) (suc k) =
    sum_by-cons (λ x. cond (test x) 1 0) (version_line v l) (take k (version_lines names (versions_after names v l) lines))
    ∙ ap (λ b. cond b 1 0 + count_by test (take k (version_lines names (versions_after names v l) lines))) (h v l)
    ∙ ap (λ n. cond (test l) 1 0 + n) (count_same test h names (versions_after names v l) lines k)
    ∙ sym (sum_by-cons (λ x. cond (test x) 1 0) l (take k lines))

pub form_goals : (p : NamedProgram) (k : ℕ) → goals_before (form_of p).lines k ≡ goals_before p.lines k
unfolding form_of goals_before
form_goals p k = count_same is_goal goals_ignore p.names (no_versions (length p.names)) p.lines k

pub form_taken : (p : NamedProgram) (k : ℕ) → taken_before (form_of p).lines k ≡ taken_before p.lines k
unfolding form_of taken_before
form_taken p k = count_same (λ l. is_some (taken_type l)) (λ v l. ap is_some (taken_same v l)) p.names (no_versions (length p.names)) p.lines k

-- what stands in the two stores
pub record Goes (N M : ℕ) (types : List (Option Ty)) (v : Versions) (S F : List Word) : Type 0 where
  pub types_count : length types ≡ N
  pub current_count : length v.current ≡ N
  pub words_count : length S ≡ N
  pub room : length F ≡ M
  pub same : (x : ℕ) (T : Ty) → type_at types x ≡ Some T → (slice_index v.current x < length v.variables) × (word_at F (slice_index v.current x) ≡ word_at S x)

-- one more definition
pub variables_more : (names : List (List ℕ)) (v : Versions) (x : ℕ) (T : Ty) → length (define names v x T).variables ≡ length v.variables + 1
variables_more names v x T = length-append v.variables _

set_here : {X : Type 0} (xs : List X) (i j : ℕ) (a d : X) → j ≡ i → i < length xs → get_or (set xs i a) j d ≡ a
set_here xs i j a d e h = ap (λ k. get_or (set xs i a) k d) e ∙ get_or-set_same xs i a d h

not_none : (T : Ty) → None ≡ Some T → ⊥
not_none T e = cc

define_same : (N M : ℕ) (names : List (List ℕ)) (types : List (Option Ty)) (v : Versions) (S F : List Word) (x : ℕ) (T : Ty) (n : ℤ) → Goes N M types v S F → length v.variables < M → (y : ℕ) (U : Ty) → type_at (set types x (Some T)) y ≡ Some U → (slice_index (set v.current x (length v.variables)) y < length v.variables + 1) × (word_at (set_word F (length v.variables) T n) (slice_index (set v.current x (length v.variables)) y) ≡ word_at (set_word S x T n) y)
define_same N M names types v S F x T n g room y U e = elim (cases_eq y x) [
  | inl here ↦ elim (cases_lt x N) [
    | inl within ↦
        let now : slice_index (set v.current x (length v.variables)) y ≡ length v.variables = set_here v.current x y (length v.variables) 0 here (omega (arith, g.current_count)) in
        let form : word_at (set_word F (length v.variables) T n) (slice_index (set v.current x (length v.variables)) y) ≡ record { ty = T; value = n } = set_here F (length v.variables) _ (record { ty = T; value = n }) empty_word now (omega (arith, g.room)) in
        let named : word_at (set_word S x T n) y ≡ record { ty = T; value = n } = set_here S x y (record { ty = T; value = n }) empty_word here (omega (arith, g.words_count)) in
        (omega (arith, now), form ∙ sym named)
    | inr past ↦
        let out : length (set types x (Some T)) ≤ y = omega (arith, length-set types x (Some T), g.types_count) in
        absurd (not_none U (sym (past_none (set types x (Some T)) y out) ∙ e))
  ]
  | inr other ↦
      let old = g.same y U (type_is types y ∙ sym (get_or-set_other types x y (Some T) None other) ∙ sym (type_is (set types x (Some T)) y) ∙ e) in
      let now : slice_index (set v.current x (length v.variables)) y ≡ slice_index v.current y = get_or-set_other v.current x y (length v.variables) 0 other in
      let apart : slice_index v.current y ≢ length v.variables = λ q. absurd (omega (arith, q, old.0)) in
      let form : word_at (set_word F (length v.variables) T n) (slice_index v.current y) ≡ word_at F (slice_index v.current y) = get_or-set_other F (length v.variables) (slice_index v.current y) (record { ty = T; value = n }) empty_word apart in
      let named : word_at (set_word S x T n) y ≡ word_at S y = get_or-set_other S x y (record { ty = T; value = n }) empty_word other in
      (omega (arith, now, old.0), ap (word_at (set_word F (length v.variables) T n)) now ∙ form ∙ old.1 ∙ sym named)
]
  where
    past_none : (types : List (Option Ty)) (y : ℕ) → length types ≤ y → type_at types y ≡ None
    past_none [] y h = refl
    past_none (t ∷ types) zero h = absurd (omega arith)
    past_none (t ∷ types) (suc y) h = past_none types y (omega arith)

pub define_goes : (N M : ℕ) (names : List (List ℕ)) (types : List (Option Ty)) (v : Versions) (S F : List Word) (x : ℕ) (T : Ty) (n : ℤ) → Goes N M types v S F → length v.variables < M → Goes N M (set types x (Some T)) (define names v x T) (set_word S x T n) (set_word F (length v.variables) T n)
define_goes N M names types v S F x T n g room = record {
  types_count = length-set types x (Some T) ∙ g.types_count;
  current_count = length-set v.current x (length v.variables) ∙ g.current_count;
  words_count = length-set S x (record { ty = T; value = n }) ∙ g.words_count;
  room = length-set F (length v.variables) (record { ty = T; value = n }) ∙ g.room;
  same = λ y U e. let s = define_same N M names types v S F x T n g room y U e in (omega (arith, s.0, variables_more names v x T), s.1);
}

-- the definitions of results
pub results_grow : (names : List (List ℕ)) (v : Versions) (outs : List ℕ) (Ts : List Ty) → length v.variables ≤ length (define_results names v outs Ts).variables
results_grow names v [] Ts = omega arith
results_grow names v (x ∷ outs) [] = omega arith
results_grow names v (x ∷ outs) (T ∷ Ts) = omega (arith, variables_more names v x T, results_grow names (define names v x T) outs Ts)

results_go : (N M : ℕ) (names : List (List ℕ)) (outs : List ℕ) (Ts : List Ty) (ns : List ℤ) (types : List (Option Ty)) (v : Versions) (S F : List Word) → length Ts ≡ length ns → Goes N M types v S F → length (define_results names v outs Ts).variables ≤ M → Goes N M (define_all types outs Ts) (define_results names v outs Ts) (write_all S outs Ts ns) (write_all F (numbers_from (length v.variables) outs) Ts ns)
results_go N M names [] Ts ns types v S F c g room = g
results_go N M names (x ∷ outs) [] ns types v S F c g room = g
results_go N M names (x ∷ outs) (T ∷ Ts) [] types v S F c g room = absurd (omega arith)
results_go N M names (x ∷ outs) (T ∷ Ts) (n ∷ ns) types v S F c g room =
    let small : length v.variables < M = omega (arith, variables_more names v x T, results_grow names (define names v x T) outs Ts, room) in
    let step = define_goes N M names types v S F x T n g small in
    let rest = results_go N M names outs Ts ns (set types x (Some T)) (define names v x T) (set_word S x T n) (set_word F (length v.variables) T n) (omega arith) step room in
    subst (λ m. Goes N M (define_all types (x ∷ outs) (T ∷ Ts)) (define_results names v (x ∷ outs) (T ∷ Ts)) (write_all S (x ∷ outs) (T ∷ Ts) (n ∷ ns)) (write_all (set_word F (length v.variables) T n) (numbers_from m outs) Ts ns))
    (variables_more names v x T) rest

-- an instruction has as many results as it has types of results
pub results_count : (op : Op) (T : Ty) (n : ℕ) (operands : List ℤ) → length (result_types op T) ≡ length (results_of op T n operands)
results_count Mov T n operands = refl
results_count Add T n operands = refl
results_count Adds T n operands = refl
results_count Adc T n operands = refl
results_count Adcs T n operands = refl
results_count Sub T n operands = refl
results_count Subb T n operands = refl
results_count Sbb T n operands = refl
results_count Sbbs T n operands = refl
results_count Mul T n operands = refl
results_count Mull T n operands = refl
results_count Mulj T n operands = refl
results_count Shl T n operands = refl
results_count Split T n operands = refl
results_count Join T n operands = refl
results_count Cast T n operands = refl
results_count Vpc T n operands = refl
results_count Cmov T n operands = refl
results_count And T n operands = refl
results_count Or T n operands = refl
results_count Xor T n operands = refl
results_count Not T n operands = refl
results_count Nondet T n operands = refl

-- names that are not undefined hold the same
abbrev pub undefined : List (Option Ty) → ℕ → Bool
undefined types x = is_none (type_at types x)

pub hold_same : (N M : ℕ) (types : List (Option Ty)) (v : Versions) (S F : List Word) → Goes N M types v S F → HoldSame (undefined types) v.current S F
hold_same N M types v S F g x e = at (type_at types x) refl e
  where
    at : (o : Option Ty) → type_at types x ≡ o → is_none o ≡ false → word_at F (slice_index v.current x) ≡ word_at S x
    at None q h = absurd (cc)
    at (Some T) q h = (g.same x T q).1

pub line_goes : (N M : ℕ) (names : List (List ℕ)) (types : List (Option Ty)) (v : Versions) (S F : List Word) (l : Line) (n : ℤ) → Goes N M types v S F → has_undefined types l ≡ false → length (versions_after names v l).variables ≤ M → Goes N M (types_after types (Some l)) (versions_after names v l) (store_after (Some l) n S) (store_after (Some (version_line v l)) n F)
line_goes N M names types v S F (Input T x) n g d room = define_goes N M names types v S F x T n g (omega (arith, variables_more names v x T))
line_goes N M names types v S F (Pre p) n g d room = g
line_goes N M names types v S F (Step i) n g d room =
    let same = values_same (undefined types) v.current S F (hold_same N M types v S F g) i.args d in
    let results = results_of i.op i.ty i.amount (operands_of i.op (values_of S i.args) n) in
    let step = results_go N M names i.outs (result_types i.op i.ty) results types v S F (results_count i.op i.ty i.amount (operands_of i.op (values_of S i.args) n)) g room in
    subst (λ (values : List ℤ). Goes N M (types_after types (Some (Step i))) (versions_after names v (Step i)) (store_after (Some (Step i)) n S) (write_all F (numbers_from (length v.variables) i.outs) (result_types i.op i.ty) (results_of i.op i.ty i.amount (operands_of i.op values n))))
    (sym same) step
line_goes N M names types v S F (Assert p) n g d room = g
line_goes N M names types v S F (Assume p) n g d room = g
line_goes N M names types v S F (Cut p) n g d room = g
line_goes N M names types v S F (Post p) n g d room = g
