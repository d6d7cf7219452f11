-- Members of lists of variables, and where the variables of a line are defined.
use Rattle.std.proofs.Common.{◌≡◌, ◌⊎◌, ℕ, zero, suc, ◌+◌, ◌-◌, ◌<◌, ◌≤◌, inl, inr, refl, sym, ◌∙◌, ap, subst, arith, Bool, true, false, ◌||◌, nat_eq, nat_lt, List, [], ◌∷◌, ◌++◌, length, filter_map, Option, Some, None}
use Rattle.std.specs.List.{slice_get, flat_map}
use Rattle.std.proofs.lemmas.Bool.{cases_lt, and_parts, eqb-true, ltb-true}
use Rattle.std.proofs.lemmas.Bool.Decides.{nat_tests}
use Rattle.std.proofs.lemmas.List.Folds.{list_any-append}
use Rattle.std.proofs.lemmas.List.Concat.{flat_map-cons}
use Rattle.std.proofs.lemmas.Option.{slice_get_within}
use Rattle.tcl_list.proofs.Booleans.{or_cases, or_left, or_right}
use Rattle.tcl_lang.specs.declared.instr.Atom.{Atom}
use Rattle.tcl_lang.specs.declared.instr.Atom.TheVariants.{Var, Lit}
use Rattle.tcl_lang.specs.declared.instr.Op.{Op}
use Rattle.tcl_lang.specs.declared.instr.Op.TheVariants as op
use Rattle.tcl_lang.specs.declared.pred.Line.{Line}
use Rattle.tcl_lang.specs.declared.pred.Line.TheVariants.{Input, Pre, Step, Assert, Assume, Cut, Post}
use Rattle.tcl_lang.specs.Program.{VersionedProgram}
use Rattle.tcl_lang.specs.Names.{name_of, used_names, defined_names}
use Rattle.tcl_lang.specs.Defined.{is_among}
use Rattle.tcl_lang.specs.Limit.{definitions_before}
use Rattle.tcl_lang.specs.Form.{IsWellFormed}
use Rattle.tcl_lang.proofs.Locality.{all_among}
use Rattle.tcl_lang.proofs.FormEnds.{none_before, definitions_grow}
use Rattle.tcl_goals.specs.Numbers.{is_above, rise_after}
use Rattle.tcl_goals.specs.Free.{computed_results, computed_in}

among_append : (xs ys : List ℕ) (v : ℕ) → is_among (xs ++ ys) v ≡ (is_among xs v || is_among ys v)
among_append xs ys v = list_any-append (λ u. nat_eq u v) xs ys

pub among_left : (xs ys : List ℕ) (v : ℕ) → is_among xs v ≡ true → is_among (xs ++ ys) v ≡ true
among_left xs ys v e = among_append xs ys v ∙ or_left (is_among xs v) (is_among ys v) e

pub among_right : (xs ys : List ℕ) (v : ℕ) → is_among ys v ≡ true → is_among (xs ++ ys) v ≡ true
among_right xs ys v e = among_append xs ys v ∙ or_right (is_among xs v) (is_among ys v) e

pub among_parts : (xs ys : List ℕ) (v : ℕ) → is_among (xs ++ ys) v ≡ true → (is_among xs v ≡ true) ⊎ (is_among ys v ≡ true)
among_parts xs ys v e = or_cases (is_among xs v) (is_among ys v) (sym (among_append xs ys v) ∙ e)

pub among_first : (v : ℕ) (vs : List ℕ) → is_among (v ∷ vs) v ≡ true
among_first v vs = or_left (nat_eq v v) (is_among vs v) (self v)
  where
    self : (n : ℕ) → nat_eq n n ≡ true
    self n = grind (arith, nat_tests)

pub among_at : (xs : List ℕ) (k : ℕ) → is_among xs k ≡ true → (n : ℕ) × (slice_get xs n ≡ Some k)
among_at [] k e = absurd (cc)
among_at (x ∷ xs) k e = elim (or_cases (nat_eq x k) (is_among xs k) e) [
  | inl here ↦ (0, ap (λ y. Some y) (eqb-true x k here))
  | inr rest ↦ let found = among_at xs k rest in (suc found.0, found.1)
]

pub at_among : (xs : List ℕ) (n k : ℕ) → slice_get xs n ≡ Some k → is_among xs k ≡ true
at_among [] n k e = absurd (cc)
at_among (x ∷ xs) zero k e = subst (λ y. is_among (x ∷ xs) y ≡ true) (same x k e) (among_first x xs)
  where
    same : (a b : ℕ) → Some a ≡ Some b → a ≡ b
    same a b f = cc
at_among (x ∷ xs) (suc n) k e = among_right (x ∷ []) xs k (at_among xs n k e)

pub flat_from : (f : ℕ → List ℕ) (ks : List ℕ) (v : ℕ) → is_among (flat_map f ks) v ≡ true → (k : ℕ) × (is_among ks k ≡ true) × (is_among (f k) v ≡ true)
flat_from f [] v e = absurd (cc)
flat_from f (k ∷ ks) v e =
    elim (or_cases (is_among (f k) v) (is_among (flat_map f ks) v) (sym (ap (λ vs. is_among vs v) (flat_map-cons f k ks) ∙ list_any-append (λ u. nat_eq u v) (f k) (flat_map f ks)) ∙ e)) [
      | inl here ↦ (k, among_first k ks, here)
      | inr rest ↦ let found = flat_from f ks v rest in (found.0, among_right (k ∷ []) ks found.0 found.1, found.2)
    ]

-- what one member gives is among what all give
pub flat_at : {X : Type 0} (f : X → List ℕ) (xs : List X) (n v : ℕ) (x : X) → slice_get xs n ≡ Some x → is_among (f x) v ≡ true → is_among (flat_map f xs) v ≡ true
flat_at f [] n v x e m = absurd (cc)
flat_at f (y ∷ xs) zero v x e m =
    ap (λ vs. is_among vs v) (flat_map-cons f y xs) ∙ among_left (f y) (flat_map f xs) v (ap (λ z. is_among (f z) v) (same e) ∙ m)
  where
    same : {X : Type 0} {x y : X} → Some y ≡ Some x → y ≡ x
    same e = cc
flat_at f (y ∷ xs) (suc n) v x e m = ap (λ vs. is_among vs v) (flat_map-cons f y xs) ∙ among_right (f y) (flat_map f xs) v (flat_at f xs n v x e m)

pub flat_into : (f : ℕ → List ℕ) (ks : List ℕ) (k v : ℕ) → is_among ks k ≡ true → is_among (f k) v ≡ true → is_among (flat_map f ks) v ≡ true
flat_into f ks k v m e = let found = among_at ks k m in flat_at f ks found.0 v k found.1 e

-- a variable among operands is among their names
pub named_atom : (atoms : List Atom) (k v : ℕ) → slice_get atoms k ≡ Some (Var v) → is_among (filter_map name_of atoms) v ≡ true
named_atom [] k v e = absurd (cc)
named_atom (Var u ∷ atoms) zero v e = subst (λ x. is_among (u ∷ filter_map name_of atoms) x ≡ true) (same e) (among_first u (filter_map name_of atoms))
  where
    same : {u v : ℕ} → Some (Var u) ≡ Some (Var v) → u ≡ v
    same e = cc
named_atom (Lit T n ∷ atoms) zero v e = absurd (cc)
named_atom (Var u ∷ atoms) (suc k) v e = among_right (u ∷ []) (filter_map name_of atoms) v (named_atom atoms k v e)
named_atom (Lit T n ∷ atoms) (suc k) v e = named_atom atoms k v e

-- an instruction that computes a result is no `nondet`
pub computes_result : (o : Op) (outs : List ℕ) (v : ℕ) → is_among (computed_results o outs) v ≡ true → (o ≡ op.Nondet → ⊥) × (is_among outs v ≡ true)
computes_result op.Nondet outs v e = absurd (cc)
computes_result op.Mov outs v e = (λ h. absurd (cc), e)
computes_result op.Add outs v e = (λ h. absurd (cc), e)
computes_result op.Adds outs v e = (λ h. absurd (cc), e)
computes_result op.Adc outs v e = (λ h. absurd (cc), e)
computes_result op.Adcs outs v e = (λ h. absurd (cc), e)
computes_result op.Sub outs v e = (λ h. absurd (cc), e)
computes_result op.Subb outs v e = (λ h. absurd (cc), e)
computes_result op.Sbb outs v e = (λ h. absurd (cc), e)
computes_result op.Sbbs outs v e = (λ h. absurd (cc), e)
computes_result op.Mul outs v e = (λ h. absurd (cc), e)
computes_result op.Mull outs v e = (λ h. absurd (cc), e)
computes_result op.Mulj outs v e = (λ h. absurd (cc), e)
computes_result op.Shl outs v e = (λ h. absurd (cc), e)
computes_result op.Split outs v e = (λ h. absurd (cc), e)
computes_result op.Join outs v e = (λ h. absurd (cc), e)
computes_result op.Cast outs v e = (λ h. absurd (cc), e)
computes_result op.Vpc outs v e = (λ h. absurd (cc), e)
computes_result op.Cmov outs v e = (λ h. absurd (cc), e)
computes_result op.And outs v e = (λ h. absurd (cc), e)
computes_result op.Or outs v e = (λ h. absurd (cc), e)
computes_result op.Xor outs v e = (λ h. absurd (cc), e)
computes_result op.Not outs v e = (λ h. absurd (cc), e)

pub computed_outs : (o : Op) (outs : List ℕ) → (o ≡ op.Nondet → ⊥) → computed_results o outs ≡ outs
computed_outs op.Nondet outs h = absurd (h refl)
computed_outs _ outs h = refl

pub computed_defined : (l : Line) (v : ℕ) → is_among (computed_in (Some l)) v ≡ true → is_among (defined_names l) v ≡ true
computed_defined (Input T u) v e = absurd (cc)
computed_defined (Pre p) v e = absurd (cc)
computed_defined (Step i) v e = (computes_result i.op i.outs v e).1
computed_defined (Assert p) v e = absurd (cc)
computed_defined (Assume p) v e = absurd (cc)
computed_defined (Cut p) v e = absurd (cc)
computed_defined (Post p) v e = absurd (cc)

clash : (b : Bool) → b ≡ true → b ≡ false → ⊥
clash b e f = cc

pub defined_least : (f : VersionedProgram) (k v : ℕ) (l : Line) → IsWellFormed f → slice_get f.lines k ≡ Some l → is_among (defined_names l) v ≡ true → definitions_before f.lines k ≤ v
defined_least f k v l w at m =
    elim (cases_lt v (definitions_before f.lines k)) [
      | inl less ↦
          absurd (clash (is_among (defined_names l) v) m
          (ap (λ names. is_among names v) (w.defines k l at) ∙ none_before (definitions_before f.lines k) v (defined_names l) less))
      | inr least ↦ least
    ]

pub used_below : (f : VersionedProgram) (k v : ℕ) (l : Line) → IsWellFormed f → slice_get f.lines k ≡ Some l → is_among (used_names l) v ≡ true → v < definitions_before f.lines k
used_below f k v l w at m = all_among (λ x. x < definitions_before f.lines k) (used_names l) (w.reads k l at) v m

pub places_grow : (lines : List Line) (j k : ℕ) → j ≤ k → k ≤ length lines → definitions_before lines j ≤ definitions_before lines k
places_grow lines j k h g =
    let same : j + (k - j) ≡ k = omega (arith, h) in
    subst (λ n. definitions_before lines j ≤ definitions_before lines n) same (definitions_grow lines j (k - j) (omega (arith, same, g)))

-- a line reads what instructions before it compute
pub computed_before : (f : VersionedProgram) (j k v : ℕ) (m : Line) → IsWellFormed f → slice_get f.lines k ≡ Some m → is_among (used_names m) v ≡ true → is_among (computed_in (slice_get f.lines j)) v ≡ true → j < k
computed_before f j k v m w at read made = from (slice_get f.lines j) refl made
  where
    from : (o : Option Line) → slice_get f.lines j ≡ o → is_among (computed_in o) v ≡ true → j < k
    from None e g = absurd (cc)
    from (Some l) e g = elim (cases_lt j k) [
      | inl less ↦ less
      | inr least ↦
          absurd (omega (arith, used_below f k v m w at read, defined_least f j v l w e (computed_defined l v g), places_grow f.lines k j least (omega (arith, slice_get_within f.lines j l e))))
    ]

-- numbers that rise
rise_least : (last : ℕ) (ns : List ℕ) (j : ℕ) → rise_after (Some last) ns ≡ true → is_among ns j ≡ true → last < j
rise_least last [] j r m = absurd (cc)
rise_least last (n ∷ ns) j r m =
    let parts = and_parts (nat_lt last n) (rise_after (Some n) ns) r in
    let less = ltb-true last n parts.0 in
    elim (or_cases (nat_eq n j) (is_among ns j) m) [
      | inl here ↦ omega (arith, less, eqb-true n j here)
      | inr rest ↦ omega (arith, less, rise_least n ns j parts.1 rest)
    ]

pub risen_first : (o : Option ℕ) (k : ℕ) (rest : List ℕ) (j : ℕ) → rise_after o (k ∷ rest) ≡ true → is_among (k ∷ rest) j ≡ true → k ≤ j
risen_first o k rest j r m =
    elim (or_cases (nat_eq k j) (is_among rest j) m) [
      | inl here ↦ omega (arith, eqb-true k j here)
      | inr more ↦ omega (arith, rise_least k rest j (and_parts (is_above o k) (rise_after (Some k) rest) r).1 more)
    ]

pub risen_rest : (o : Option ℕ) (done rest : List ℕ) → rise_after o (done ++ rest) ≡ true → (last : Option ℕ) × (rise_after last rest ≡ true)
risen_rest o [] rest r = (o, r)
risen_rest o (n ∷ done) rest r = risen_rest (Some n) done rest (and_parts (is_above o n) (rise_after (Some n) (done ++ rest)) r).1
