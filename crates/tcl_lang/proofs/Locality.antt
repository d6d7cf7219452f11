-- What a line says, and what can be computed of it, depends on the words of its own names alone.
use Rattle.std.proofs.Common.{◌≡◌, ℕ, suc, refl, ◌∙◌, ap, subst, arith, ℤ, Bool, true, false, not, ◌||◌, nat_eq, List, [], ◌∷◌, filter_map, Option, Some, None}
use Rattle.std.specs.List.{list_any, All}
use Rattle.std.proofs.lemmas.Bool.{or_parts, eqb-true}
use Rattle.std.proofs.lemmas.Bool.Decides.{nat_tests}
use Rattle.tcl_lang.specs.declared.ty.Ty.{Ty}
use Rattle.tcl_lang.specs.declared.ty.Word.{Word}
use Rattle.tcl_lang.specs.declared.instr.Atom.{Atom}
use Rattle.tcl_lang.specs.declared.instr.Atom.TheVariants.{Var, Lit}
use Rattle.tcl_lang.specs.declared.instr.Instr.{Instr}
use Rattle.tcl_lang.specs.declared.term.Term.{Term, Term-F}
use Rattle.tcl_lang.specs.declared.term.Term.TheOpen as layer
use Rattle.tcl_lang.specs.declared.range.RngTerm.{RngTerm, RngTerm-F}
use Rattle.tcl_lang.specs.declared.range.RngTerm.TheOpen as range_layer
use Rattle.tcl_lang.specs.declared.range.RngPred.{RngPred, RngPred-F}
use Rattle.tcl_lang.specs.declared.range.RngPred.TheOpen as pred_layer
use Rattle.tcl_lang.specs.declared.pred.Pred.{Pred}
use Rattle.tcl_lang.specs.declared.pred.Pred.TheVariants.{Alg, Rng}
use Rattle.tcl_lang.specs.declared.pred.Line.{Line}
use Rattle.tcl_lang.specs.Store.{word_at, word_of}
use Rattle.tcl_lang.specs.Names.{name_of, term_names, term_atoms, range_atoms, predicate_names, stated_names, used_names}
use Rattle.tcl_lang.specs.Line.{predicate_of, instruction_of, values_of, stated_truth, line_truth}
use Rattle.tcl_lang.specs.Exactness.{is_exact}
use Rattle.tcl_lang.specs.Term.{value_step, term_value}
use Rattle.tcl_lang.specs.Bound.{greatest_magnitude, size_step, size_over, size_in}
use Rattle.tcl_lang.specs.Range.{word_step, range_word, compares, truth_step, range_truth}
use Rattle.tcl_lang.specs.Predicate.{predicate_truth}
use Rattle.tcl_lang.specs.Defined.{is_among}
use Rattle.tcl_lang.specs.Truth.{yes_or_no, predicate_computed, stated_computed, line_computed}
use Rattle.tcl_lang.proofs.TermFolds.{is_marked, any_parts, term_local}
use Rattle.tcl_lang.proofs.RangeFolds.{is_marked_range, range_local, own_atoms, pred_local}
use Rattle.tcl_lang.proofs.Renaming.{bad_atom, any_atoms, agrees_same, equation_same}

-- each name that is not bad has the same word in both stores
abbrev pub AgreeBut : (ℕ → Bool) → List Word → List Word → Type 0
AgreeBut bad S F = (x : ℕ) → bad x ≡ false → word_at F x ≡ word_at S x

value_agrees : (bad : ℕ → Bool) (S F : List Word) → AgreeBut bad S F → (y : Term-F ℤ) → is_marked bad y ≡ false → value_step F y ≡ value_step S y
value_agrees bad S F same (layer.Var x) e = ap (λ (w : Word). w.value) (same x e)
value_agrees bad S F same (layer.Num n) e = refl
value_agrees bad S F same (layer.Neg a) e = refl
value_agrees bad S F same (layer.Add a b) e = refl
value_agrees bad S F same (layer.Sub a b) e = refl
value_agrees bad S F same (layer.Mul a b) e = refl
value_agrees bad S F same (layer.Pow a k) e = refl

term_is : (bad : ℕ → Bool) (S F : List Word) → AgreeBut bad S F → (t : Term) → list_any bad (term_names t) ≡ false → term_value F t ≡ term_value S t
term_is bad S F same t e = term_local (value_step F) (value_step S) bad (value_agrees bad S F same) t e

size_agrees : (bad : ℕ → Bool) (T U : ℕ → Ty) → ((x : ℕ) → bad x ≡ false → U x ≡ T x) → (y : Term-F ℕ) → is_marked bad y ≡ false → size_step U y ≡ size_step T y
size_agrees bad T U same (layer.Var x) e = ap greatest_magnitude (same x e)
size_agrees bad T U same (layer.Num n) e = refl
size_agrees bad T U same (layer.Neg a) e = refl
size_agrees bad T U same (layer.Add a b) e = refl
size_agrees bad T U same (layer.Sub a b) e = refl
size_agrees bad T U same (layer.Mul a b) e = refl
size_agrees bad T U same (layer.Pow a k) e = refl

-- the size of a term depends on the types of its own names alone
pub size_is : (bad : ℕ → Bool) (T U : ℕ → Ty) → ((x : ℕ) → bad x ≡ false → U x ≡ T x) → (t : Term) → list_any bad (term_names t) ≡ false → size_over U t ≡ size_over T t
size_is bad T U same t e = term_local (size_step U) (size_step T) bad (size_agrees bad T U same) t e

any_none : {X : Type 0} (xs : List X) → list_any (λ x. false) xs ≡ false
any_none [] = refl
any_none (x ∷ xs) = any_none xs

pub size_everywhere : (T U : ℕ → Ty) → ((x : ℕ) → U x ≡ T x) → (t : Term) → size_over U t ≡ size_over T t
size_everywhere T U same t = size_is (λ x. false) T U (λ x e. same x) t (any_none (term_names t))

stored_size : (bad : ℕ → Bool) (S F : List Word) → AgreeBut bad S F → (t : Term) → list_any bad (term_names t) ≡ false → size_in F t ≡ size_in S t
stored_size bad S F same t e = size_is bad (λ x. (word_at S x).ty) (λ x. (word_at F x).ty) (λ x n. ap (λ (w : Word). w.ty) (same x n)) t e

atom_is : (bad : ℕ → Bool) (S F : List Word) → AgreeBut bad S F → (atom : Atom) → bad_atom bad atom ≡ false → word_of F atom ≡ word_of S atom
atom_is bad S F same (Var x) e = same x e
atom_is bad S F same (Lit T n) e = refl

operands_are : (bad : ℕ → Bool) (S F : List Word) → AgreeBut bad S F → (atoms : List Atom) → list_any (bad_atom bad) atoms ≡ false → values_of F atoms ≡ values_of S atoms
operands_are bad S F same [] e = refl
operands_are bad S F same (atom ∷ atoms) e =
    let p = or_parts (bad_atom bad atom) (list_any (bad_atom bad) atoms) e in
    ap (λ (w : Word). w.value ∷ values_of F atoms) (atom_is bad S F same atom p.0) ∙ ap (λ ns. (word_of S atom).value ∷ ns) (operands_are bad S F same atoms p.1)

word_agrees : (bad : ℕ → Bool) (S F : List Word) → AgreeBut bad S F → (y : RngTerm-F Word) → is_marked_range (bad_atom bad) y ≡ false → word_step F y ≡ word_step S y
word_agrees bad S F same (range_layer.Leaf atom) e = atom_is bad S F same atom e
word_agrees bad S F same (range_layer.Neg a) e = refl
word_agrees bad S F same (range_layer.Flip a) e = refl
word_agrees bad S F same (range_layer.Bin op a b) e = refl
word_agrees bad S F same (range_layer.Cast T a) e = refl

range_is : (bad : ℕ → Bool) (S F : List Word) → AgreeBut bad S F → (t : RngTerm) → list_any (bad_atom bad) (term_atoms t) ≡ false → range_word F t ≡ range_word S t
range_is bad S F same t e = range_local (word_step F) (word_step S) (bad_atom bad) (word_agrees bad S F same) t e

truth_agrees : (bad : ℕ → Bool) (S F : List Word) → AgreeBut bad S F → (y : RngPred-F Bool) → list_any (bad_atom bad) (own_atoms y) ≡ false → truth_step F y ≡ truth_step S y
truth_agrees bad S F same pred_layer.True e = refl
truth_agrees bad S F same pred_layer.False e = refl
truth_agrees bad S F same (pred_layer.Cmp op t u) e =
    let parts = any_parts (bad_atom bad) (term_atoms t) (term_atoms u) e in
    ap (λ (w : Word). compares op w.value (range_word F u).value) (range_is bad S F same t parts.0)
    ∙ ap (λ (w : Word). compares op (range_word S t).value w.value) (range_is bad S F same u parts.1)
truth_agrees bad S F same (pred_layer.Not a) e = refl
truth_agrees bad S F same (pred_layer.Both a b) e = refl
truth_agrees bad S F same (pred_layer.Either a b) e = refl

pred_is : (bad : ℕ → Bool) (S F : List Word) → AgreeBut bad S F → (t : RngPred) → list_any (bad_atom bad) (range_atoms t) ≡ false → range_truth F t ≡ range_truth S t
pred_is bad S F same t e = pred_local (truth_step F) (truth_step S) (bad_atom bad) (truth_agrees bad S F same) t e

predicate_is : (bad : ℕ → Bool) (S F : List Word) → AgreeBut bad S F → (p : Pred) → list_any bad (predicate_names p) ≡ false → predicate_truth F p ≡ predicate_truth S p
predicate_is bad S F same (Alg p) e =
    let parts = any_parts bad (term_names p.left) (term_names p.right) e in
    agrees_same S F p.left p.right p.left p.right p.modulus (term_is bad S F same p.left parts.0) (term_is bad S F same p.right parts.1)
predicate_is bad S F same (Rng p) e = pred_is bad S F same p (any_atoms bad (range_atoms p) ∙ e)

computed_is : (bad : ℕ → Bool) (S F : List Word) → AgreeBut bad S F → (p : Pred) → list_any bad (predicate_names p) ≡ false → predicate_computed F p ≡ predicate_computed S p
computed_is bad S F same (Alg p) e =
    let parts = any_parts bad (term_names p.left) (term_names p.right) e in
    equation_same S F p.left p.right p.left p.right p.modulus (term_is bad S F same p.left parts.0) (term_is bad S F same p.right parts.1)
    (stored_size bad S F same p.left parts.0) (stored_size bad S F same p.right parts.1)
computed_is bad S F same (Rng p) e = ap yes_or_no (pred_is bad S F same p (any_atoms bad (range_atoms p) ∙ e))

stated_is : (bad : ℕ → Bool) (S F : List Word) → AgreeBut bad S F → (s : Option Pred) (i : Option Instr) → list_any bad (stated_names s i) ≡ false → stated_truth F s i ≡ stated_truth S s i
stated_is bad S F same (Some p) i e = predicate_is bad S F same p e
stated_is bad S F same None (Some i) e = ap (is_exact i.op i.ty i.amount) (operands_are bad S F same i.args (any_atoms bad i.args ∙ e))
stated_is bad S F same None None e = refl

stated_computes : (bad : ℕ → Bool) (S F : List Word) → AgreeBut bad S F → (s : Option Pred) (i : Option Instr) → list_any bad (stated_names s i) ≡ false → stated_computed F s i ≡ stated_computed S s i
stated_computes bad S F same (Some p) i e = computed_is bad S F same p e
stated_computes bad S F same None (Some i) e = ap (λ ns. yes_or_no (is_exact i.op i.ty i.amount ns)) (operands_are bad S F same i.args (any_atoms bad i.args ∙ e))
stated_computes bad S F same None None e = refl

-- names that are in a list, and those that are not
abbrev pub outside : List ℕ → ℕ → Bool
outside names x = not (is_among names x)

tail_of : (P : ℕ → Type 0) (x : ℕ) (xs : List ℕ) → All P (x ∷ xs) → All P xs
tail_of P x xs a k d h = a (suc k) d (omega arith)

first_or_rest : (P : ℕ → Type 0) (x y : ℕ) (b : Bool) → P y → (b ≡ true → P x) → (nat_eq y x || b) ≡ true → P x
first_or_rest P x y b here rest e = at (nat_eq y x) refl e
  where
    at : (c : Bool) → nat_eq y x ≡ c → (c || b) ≡ true → P x
    at true q e = subst P (eqb-true y x q) here
    at false q e = rest e

pub all_among : (P : ℕ → Type 0) (xs : List ℕ) → All P xs → (x : ℕ) → is_among xs x ≡ true → P x
all_among P [] a x e = absurd (cc)
all_among P (y ∷ xs) a x e = first_or_rest P x y (is_among xs x) (a 0 y (omega arith)) (λ r. all_among P xs (tail_of P y xs a) x r) e

-- no name of the list is outside it
pub none_outside : (names xs : List ℕ) → ((x : ℕ) → is_among xs x ≡ true → is_among names x ≡ true) → list_any (outside names) xs ≡ false
none_outside names [] h = refl
none_outside names (y ∷ xs) h =
    let here : outside names y ≡ false = ap not (h y (first y xs)) in
    let rest : list_any (outside names) xs ≡ false = none_outside names xs (λ x e. h x (later y x xs e)) in
    cc (here, rest)
  where
    first : (y : ℕ) (xs : List ℕ) → is_among (y ∷ xs) y ≡ true
    first y xs = ap (λ b. b || is_among xs y) (same y)
      where
        same : (y : ℕ) → nat_eq y y ≡ true
        same y = grind (arith, nat_tests)

    later : (y x : ℕ) (xs : List ℕ) → is_among xs x ≡ true → is_among (y ∷ xs) x ≡ true
    later y x xs e = ap (λ b. nat_eq y x || b) e ∙ or_true (nat_eq y x)
      where
        or_true : (b : Bool) → (b || true) ≡ true
        or_true true = refl
        or_true false = refl

pub inside : (names : List ℕ) (x : ℕ) → outside names x ≡ false → is_among names x ≡ true
inside names x e = turn (is_among names x) e
  where
    turn : (b : Bool) → not b ≡ false → b ≡ true
    turn true e = refl
    turn false e = absurd (cc)

agree_but : (S F : List Word) (names : List ℕ) → All (λ x. word_at F x ≡ word_at S x) names → AgreeBut (outside names) S F
agree_but S F names a x e = all_among (λ x. word_at F x ≡ word_at S x) names a x (inside names x e)

-- stores that agree on the names that a line reads
pub line_local : (S F : List Word) (l : Line) → All (λ x. word_at F x ≡ word_at S x) (used_names l) → line_truth F l ≡ line_truth S l
line_local S F l a =
    stated_is (outside (used_names l)) S F (agree_but S F (used_names l) a) (predicate_of l) (instruction_of l) (none_outside (used_names l) (used_names l) (λ x e. e))

pub line_computed_local : (S F : List Word) (l : Line) → All (λ x. word_at F x ≡ word_at S x) (used_names l) → line_computed F l ≡ line_computed S l
line_computed_local S F l a =
    stated_computes (outside (used_names l)) S F (agree_but S F (used_names l) a) (predicate_of l) (instruction_of l) (none_outside (used_names l) (used_names l) (λ x e. e))

pub values_local : (S F : List Word) (atoms : List Atom) → All (λ x. word_at F x ≡ word_at S x) (filter_map name_of atoms) → values_of F atoms ≡ values_of S atoms
values_local S F atoms a =
    let names = filter_map name_of atoms in
    operands_are (outside names) S F (agree_but S F names a) atoms (any_atoms (outside names) atoms ∙ none_outside names names (λ x e. e))
