-- The types of the variables of a form go with the types of the names of its program: before each line a name has the type
-- of the variable that it means, and exactly the variables so far have a type, their own.
use Rattle.std.proofs.Common.{◌≡◌, ◌≢◌, inl, inr, ℕ, zero, suc, ◌<◌, ◌≤◌, refl, sym, ◌∙◌, ap, subst, arith, false, List, [], ◌∷◌, ◌++◌, length, replicate, get_or, set, slice_index, Option, Some, None}
use Rattle.std.specs.Option.{option_map}
use Rattle.std.specs.List.{slice_get}
use Rattle.std.proofs.lemmas.Bool.{cases_eq, cases_lt}
use Rattle.std.proofs.lemmas.List.{length-set, length-replicate, get_or-set_same, get_or-set_other, get_or-replicate, get_or_past}
use Rattle.std.proofs.lemmas.Option.{slice_get-get_or}
use Rattle.tcl_lang.specs.declared.ty.Ty.{Ty}
use Rattle.tcl_lang.specs.declared.pred.Line.{Line}
use Rattle.tcl_lang.specs.declared.pred.Line.TheVariants.{Input, Pre, Step, Assert, Assume, Cut, Post}
use Rattle.tcl_lang.specs.declared.variable.Variable.{Variable}
use Rattle.tcl_lang.specs.Program.{NamedProgram}
use Rattle.tcl_lang.specs.Results.{result_types}
use Rattle.tcl_lang.specs.Typing.{type_at, types_at, types_after, define_all}
use Rattle.tcl_lang.specs.Values.{types_of}
use Rattle.tcl_lang.specs.Versions.{Versions, version_line, versions_after, versions_step, versions_at, no_versions, define, define_results, numbers_from, form_of}
use Rattle.tcl_lang.proofs.TypedStores.{type_is}
use Rattle.tcl_lang.proofs.Versioning.{versions_go, versions_begin, form_line, variables_more, results_grow}
use Rattle.tcl_lang.proofs.FormRuns.{counts_grow, form_count, types_begin, types_go}

-- what stands in the types of names, the versions, and the types of variables
pub record TypesGo (N M : ℕ) (types : List (Option Ty)) (v : Versions) (own : List (Option Ty)) : Type 0 where
  pub types_count : length types ≡ N
  pub current_count : length v.current ≡ N
  pub own_count : length own ≡ M
  pub own_types : (u : ℕ) → type_at own u ≡ slice_get (types_of v.variables) u
  pub same : (x : ℕ) (T : Ty) → type_at types x ≡ Some T → type_at own (slice_index v.current x) ≡ Some T

-- a type that was set, and the others
set_type : (types : List (Option Ty)) (x : ℕ) (T : Ty) → x < length types → type_at (set types x (Some T)) x ≡ Some T
set_type types x T h = type_is (set types x (Some T)) x ∙ get_or-set_same types x (Some T) None h

other_type : (types : List (Option Ty)) (x y : ℕ) (T : Ty) → y ≢ x → type_at (set types x (Some T)) y ≡ type_at types y
other_type types x y T n = type_is (set types x (Some T)) y ∙ get_or-set_other types x y (Some T) None n ∙ sym (type_is types y)

past_type : (types : List (Option Ty)) (y : ℕ) → length types ≤ y → type_at types y ≡ None
past_type types y h = type_is types y ∙ get_or_past types y None h

-- one more variable
last_type : (vs : List Variable) (w : Variable) → slice_get (types_of (vs ++ w ∷ [])) (length vs) ≡ Some w.ty
last_type [] w = refl
last_type (v ∷ vs) w = last_type vs w

earlier_type : (vs : List Variable) (w : Variable) (u : ℕ) → u ≢ length vs → slice_get (types_of (vs ++ w ∷ [])) u ≡ slice_get (types_of vs) u
earlier_type [] w zero n = absurd (n refl)
earlier_type [] w (suc u) n = refl
earlier_type (v ∷ vs) w zero n = refl
earlier_type (v ∷ vs) w (suc u) n = earlier_type vs w u (λ e. n (ap suc e))

pub no_type_yet : (vs : List Variable) → slice_get (types_of vs) (length vs) ≡ None
no_type_yet [] = refl
no_type_yet (v ∷ vs) = no_type_yet vs

some_none : {X : Type 0} (T : X) → Some T ≡ None → ⊥
some_none T e = cc

define_types : (N M : ℕ) (names : List (List ℕ)) (types : List (Option Ty)) (v : Versions) (own : List (Option Ty)) (x : ℕ) (T : Ty) → TypesGo N M types v own → length v.variables < M → TypesGo N M (set types x (Some T)) (define names v x T) (set own (length v.variables) (Some T))
define_types N M names types v own x T g room =
    let m = length v.variables in
    let small : m < length own = omega (arith, g.own_count) in
    record {
      types_count = length-set types x (Some T) ∙ g.types_count;
      current_count = length-set v.current x m ∙ g.current_count;
      own_count = length-set own m (Some T) ∙ g.own_count;
      own_types = λ u. elim (cases_eq u m) [
        | inl here ↦
            ap (type_at (set own m (Some T))) here ∙ set_type own m T small
            ∙ sym (last_type v.variables _) ∙ ap (slice_get (types_of (define names v x T).variables)) (sym here)
        | inr other ↦ other_type own m u T other ∙ g.own_types u ∙ sym (earlier_type v.variables _ u other)
      ];
      same = λ y U e. elim (cases_eq y x) [
        | inl here ↦ elim (cases_lt x N) [
          | inl within ↦
              let now : slice_index (set v.current x m) y ≡ m = ap (slice_index (set v.current x m)) here ∙ get_or-set_same v.current x m 0 (omega (arith, g.current_count)) in
              let named : type_at (set types x (Some T)) y ≡ Some T = ap (type_at (set types x (Some T))) here ∙ set_type types x T (omega (arith, g.types_count)) in
              ap (type_at (set own m (Some T))) now ∙ set_type own m T small ∙ sym named ∙ e
          | inr past ↦ absurd (some_none U (sym e ∙ past_type (set types x (Some T)) y (omega (arith, length-set types x (Some T), g.types_count))))
        ]
        | inr other ↦
            let now : slice_index (set v.current x m) y ≡ slice_index v.current y = get_or-set_other v.current x y m 0 other in
            let old = g.same y U (sym (other_type types x y T other) ∙ e) in
            let apart : slice_index v.current y ≢ m = λ q. some_none U (sym old ∙ ap (type_at own) q ∙ g.own_types m ∙ no_type_yet v.variables) in
            ap (type_at (set own m (Some T))) now ∙ other_type own m (slice_index v.current y) T apart ∙ old
      ];
    }

results_types : (N M : ℕ) (names : List (List ℕ)) (outs : List ℕ) (Ts : List Ty) (types : List (Option Ty)) (v : Versions) (own : List (Option Ty)) → TypesGo N M types v own → length (define_results names v outs Ts).variables ≤ M → TypesGo N M (define_all types outs Ts) (define_results names v outs Ts) (define_all own (numbers_from (length v.variables) outs) Ts)
results_types N M names [] Ts types v own g room = g
results_types N M names (x ∷ outs) [] types v own g room = g
results_types N M names (x ∷ outs) (T ∷ Ts) types v own g room =
    let small : length v.variables < M = omega (arith, variables_more names v x T, results_grow names (define names v x T) outs Ts, room) in
    let step = define_types N M names types v own x T g small in
    let rest = results_types N M names outs Ts (set types x (Some T)) (define names v x T) (set own (length v.variables) (Some T)) step room in
    subst (λ m. TypesGo N M (define_all types (x ∷ outs) (T ∷ Ts)) (define_results names v (x ∷ outs) (T ∷ Ts)) (define_all (set own (length v.variables) (Some T)) (numbers_from m outs) Ts))
    (variables_more names v x T) rest

line_types : (N M : ℕ) (names : List (List ℕ)) (types : List (Option Ty)) (v : Versions) (own : List (Option Ty)) (l : Line) → TypesGo N M types v own → length (versions_after names v l).variables ≤ M → TypesGo N M (types_after types (Some l)) (versions_after names v l) (types_after own (Some (version_line v l)))
line_types N M names types v own (Input T x) g room = define_types N M names types v own x T g (omega (arith, room, variables_more names v x T))
line_types N M names types v own (Pre p) g room = g
line_types N M names types v own (Step i) g room = results_types N M names i.outs (result_types i.op i.ty) types v own g room
line_types N M names types v own (Assert p) g room = g
line_types N M names types v own (Assume p) g room = g
line_types N M names types v own (Cut p) g room = g
line_types N M names types v own (Post p) g room = g

moved : (N M : ℕ) (t u : List (Option Ty)) (v w : Versions) (s r : List (Option Ty)) → t ≡ u → v ≡ w → s ≡ r → TypesGo N M u w r → TypesGo N M t v s
moved N M t u v w s r a b c g =
    subst (λ (x : List (Option Ty)). TypesGo N M x v s) (sym a)
    (subst (λ (x : Versions). TypesGo N M u x s) (sym b)
    (subst (λ (x : List (Option Ty)). TypesGo N M u w x) (sym c) g))

none_at : (n u : ℕ) → type_at (replicate n None) u ≡ None
none_at n u = type_is (replicate n None) u ∙ elim (cases_lt u n) [
  | inl h ↦ get_or-replicate n u None None h
  | inr h ↦ get_or_past (replicate n None) u None (omega (arith, length-replicate {A = Option Ty} n None))
]

begin : (N M : ℕ) → TypesGo N M (replicate N None) (no_versions N) (replicate M None)
begin N M = record {
  types_count = length-replicate N None;
  current_count = length-replicate N 0;
  own_count = length-replicate M None;
  own_types = λ u. none_at M u;
  same = λ x T e. absurd (some_none T (sym e ∙ none_at N x));
}

-- before each line
pub types_go_at : (p : NamedProgram) (k : ℕ) → k ≤ length p.lines → TypesGo (length p.names) (length (form_of p).variables) (types_at (length p.names) p.lines k) (versions_at p k) (types_at (length (form_of p).variables) (form_of p).lines k)
types_go_at p zero h =
    let N = length p.names in let M = length (form_of p).variables in
    moved N M (types_at N p.lines 0) (replicate N None) (versions_at p 0) (no_versions N) (types_at M (form_of p).lines 0) (replicate M None)
    (types_begin N p.lines) (versions_begin p) (types_begin M (form_of p).lines) (begin N M)
types_go_at p (suc k) h =
    let N = length p.names in let M = length (form_of p).variables in
    let less : k < length p.lines = omega arith in
    let l = get_or p.lines k (Input (record { signed = false; width = 0 }) 0) in
    let at : slice_get p.lines k ≡ Some l = slice_get-get_or p.lines k (Input (record { signed = false; width = 0 }) 0) less in
    let v = versions_at p k in
    let own = types_at M (form_of p).lines k in
    let types = types_at N p.lines k in
    let here : versions_at p (suc k) ≡ versions_after p.names v l = versions_go p k ∙ ap (versions_step p.names v) at in
    let line : slice_get (form_of p).lines k ≡ Some (version_line v l) = form_line p k ∙ ap (option_map (version_line v)) at in
    let room : length (versions_after p.names v l).variables ≤ M = omega (arith, ap (λ (w : Versions). length w.variables) here, counts_grow p (suc k) (length p.lines) less, form_count p) in
    moved N M (types_at N p.lines (suc k)) (types_after types (Some l)) (versions_at p (suc k)) (versions_after p.names v l) (types_at M (form_of p).lines (suc k)) (types_after own (Some (version_line v l)))
    (types_go N p.lines k ∙ ap (types_after types) at) here (types_go M (form_of p).lines k ∙ ap (types_after own) line)
    (line_types N M p.names types v own l (types_go_at p k (omega arith)) room)
