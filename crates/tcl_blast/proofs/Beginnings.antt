-- The free bits of an assignment, and what the literals of the free variables show where the circuit begins.
use Rattle.std.proofs.Common.{◌≡◌, ℕ, zero, suc, ◌+◌, ◌*◌, ◌<◌, ◌≤◌, inl, inr, Bool, true, false, not, ◌&&◌, List, [], ◌∷◌, ◌++◌, length, replicate, get_or, Some, slice_get, flat_map, fold, All, refl, sym, ◌∙◌, ap, ap₂, subst, arith, ℤ, nat_eq, length-append}
use Rattle.std.proofs.lemmas.Bool.{cases_eq, cases_Bool, eqb-true}
use Rattle.std.proofs.lemmas.List.{append-nil, append_assoc, length-set, get_or-set_same, get_or-set_other, replicate-append-replicate}
use Rattle.std.proofs.lemmas.List.Concat.{flat_map-cons}
use Rattle.std.proofs.lemmas.Option.{slice_get_within, get_or_from_slice_get}
use Rattle.std.proofs.Math.Seq.{get_or-append_seam}
use lib.ListN.{length-replicate}
use Rattle.tcl_list.proofs.Booleans.{or_cases}
use Rattle.tcl_bits.specs.Value.{word_value}
use Rattle.tcl_bits.proofs.Cuts.{length-number_bits}
use Rattle.tcl_gates.specs.declared.gate.Gate.{Gate}
use Rattle.tcl_gates.specs.declared.gate.Gate.TheVariants.{Free}
use Rattle.tcl_gates.specs.Gates.{BeginsFree, IsBelow, AreGates, value_at, values_of as circuit_values}
use Rattle.tcl_gates.specs.Meaning.{lit_bit, word_bits, AreWithin}
use Rattle.tcl_gates.proofs.Appending.{leading_bits}
use Rattle.tcl_gates.proofs.Table.{literal_of}
use Rattle.tcl_gates.proofs.Shown.{within_none, within_cons}
use Rattle.tcl_lang.specs.declared.ty.Ty.{Ty}
use Rattle.tcl_lang.specs.declared.instr.Atom.TheVariants.{Var}
use Rattle.tcl_lang.specs.declared.variable.Variable.{Variable}
use Rattle.tcl_lang.specs.Program.{VersionedProgram}
use Rattle.tcl_lang.specs.Types.{IsTy, InType}
use Rattle.tcl_lang.specs.Store.{word_at}
use Rattle.tcl_lang.specs.Values.{value_at as value_of_variable, AreValues, types_of, words_of}
use Rattle.tcl_lang.specs.Defined.{is_among}
use Rattle.tcl_lang.specs.Form.{IsWellFormed}
use Rattle.tcl_goals.specs.declared.fact.Fact.{Fact}
use Rattle.tcl_goals.specs.declared.lemma.Numbered.{Numbered}
use Rattle.tcl_goals.specs.Numbers.{those_below}
use Rattle.tcl_goals.proofs.Numbers.{those_none, those_yes, those_no}
use Rattle.tcl_goals.specs.Free.{fact_variables, computed_variables, is_free, free_variables, width_in}
use Rattle.tcl_words.specs.Ranges.{atom_ty}
use Rattle.tcl_words.specs.Stores.{ShowsWord, ShowsVariable}
use Rattle.tcl_words.proofs.Parts.{type_found}
use Rattle.tcl_words.proofs.Rows.{width_positive}
use Rattle.tcl_words.proofs.RangeTerms.{constant_bits, constant_is}
use Rattle.tcl_blast.specs.declared.blasted.Begun.{Begun}
use Rattle.tcl_blast.specs.Begin.{lits_from, free_step, begun_with, begun}
use Rattle.tcl_blast.specs.Blasted.{blank}
use Rattle.tcl_blast.proofs.Meeting.{meets_first}
use Rattle.tcl_blast.proofs.Members.{among_left, among_right, among_first, among_parts}
use Rattle.tcl_blast.proofs.States.{IsState}

-- members of the numbers that pass a test
pub those_member : (test : ℕ → Bool) (n v : ℕ) → v < n → test v ≡ true → is_among (those_below test n) v ≡ true
those_member test zero v h e = absurd (omega (arith, h))
those_member test (suc n) v h e = elim (cases_eq v n) [
  | inl same ↦
      ap (λ xs. is_among xs v) (those_yes test n (ap test (sym same) ∙ e))
      ∙ among_right (those_below test n) (n ∷ []) v (subst (λ x. is_among (x ∷ []) v ≡ true) same (among_first v []))
  | inr other ↦ by (test n) refl (those_member test n v (omega (arith, h, other)) e)
] where
  by : (b : Bool) → test n ≡ b → is_among (those_below test n) v ≡ true → is_among (those_below test (suc n)) v ≡ true
  by true f m = ap (λ xs. is_among xs v) (those_yes test n f) ∙ among_left (those_below test n) (n ∷ []) v m
  by false f m = ap (λ xs. is_among xs v) (those_no test n f) ∙ m

-- literals of variables in a row
pub length-lits_from : (n w : ℕ) → length (lits_from n w) ≡ w
unfolding lits_from
length-lits_from n zero = refl
length-lits_from n (suc w) = ap suc (length-lits_from (n + 1) w)

pub lits_within : (n w m : ℕ) → n + w ≤ m + 1 → AreWithin m (lits_from n w)
unfolding lits_from
lits_within n zero m h = within_none m
lits_within n (suc w) m h = within_cons m (2 * n) (lits_from (n + 1) w) (omega (arith, h)) (lits_within (n + 1) w m (omega (arith, h)))

pub read_bits : (gates : List Gate) (front bs back : List Bool) → BeginsFree (length (front ++ (bs ++ back))) gates → word_bits gates (front ++ (bs ++ back)) (lits_from (length front + 1) (length bs)) ≡ bs
unfolding lits_from
read_bits gates front [] back lead = refl
read_bits gates front (b ∷ bs) back lead =
    let free = front ++ (b ∷ bs ++ back) in
    let next : (front ++ b ∷ []) ++ (bs ++ back) ≡ free = append_assoc front (b ∷ []) (bs ++ back) in
    let n : length (front ++ b ∷ []) ≡ length front + 1 = length-append front (b ∷ []) ∙ omega arith in
    let here : lit_bit gates free (2 * (length front + 1)) ≡ b =
    literal_of (value_at (circuit_values gates free)) (length front + 1) ∙ leading_bits (length free) (length front) gates free lead (omega (arith, length-append front (b ∷ bs ++ back))) ∙ get_or-append_seam front b (bs ++ back) false in
    ap₂ (λ x xs. x ∷ xs) here
    (ap₂ (λ f m. word_bits gates f (lits_from (m + 1) (length bs))) (sym next) (sym n) ∙ read_bits gates (front ++ b ∷ []) bs back (subst (λ f. BeginsFree (length f) gates) (sym next) lead))

-- the literals of a variable stand for a part of the free bits
pub record IsPlaced (free : List Bool) (ls : List ℕ) (bs : List Bool) : Type 0 where
  pub front : List Bool
  pub back : List Bool
  pub all : free ≡ front ++ (bs ++ back)
  pub lits : ls ≡ lits_from (length front + 1) (length bs)

flat_next : (bits : ℕ → List Bool) (front : List Bool) (v : ℕ) (vs : List ℕ) → (front ++ bits v) ++ flat_map bits vs ≡ front ++ flat_map bits (v ∷ vs)
flat_next bits front v vs = append_assoc front (bits v) (flat_map bits vs) ∙ ap (λ t. front ++ t) (sym (flat_map-cons bits v vs))

step_free : (variables : List Variable) (bits : ℕ → List Bool) → ((v : ℕ) → length (bits v) ≡ width_in (slice_get variables v)) → (s : Begun) (front : List Bool) (v : ℕ) → s.gates ≡ replicate (length front) Free
    → (free_step variables s v).gates ≡ replicate (length (front ++ bits v)) Free
step_free variables bits lens s front v e =
    ap₂ (λ (gs : List Gate) (w : ℕ). gs ++ replicate w Free) e (sym (lens v)) ∙ replicate-append-replicate (length front) (length (bits v)) Free ∙ ap (λ n. replicate n Free) (sym (length-append front (bits v)))

pub all_free : (variables : List Variable) (bits : ℕ → List Bool) → ((v : ℕ) → length (bits v) ≡ width_in (slice_get variables v)) → (frees : List ℕ) (s : Begun) (front : List Bool) → s.gates ≡ replicate (length front) Free
    → (fold (free_step variables) s frees).gates ≡ replicate (length (front ++ flat_map bits frees)) Free
all_free variables bits lens [] s front e = e ∙ ap (λ t. replicate (length t) Free) (sym (append-nil front))
all_free variables bits lens (v ∷ frees) s front e =
    all_free variables bits lens frees (free_step variables s v) (front ++ bits v) (step_free variables bits lens s front v e) ∙ ap (λ t. replicate (length t) Free) (flat_next bits front v frees)

pub word_count : (variables : List Variable) (frees : List ℕ) (s : Begun) → length (fold (free_step variables) s frees).words ≡ length s.words
word_count variables [] s = refl
word_count variables (v ∷ frees) s = word_count variables frees (free_step variables s v) ∙ length-set s.words v _

among_not : (x v : ℕ) (xs : List ℕ) → is_among (x ∷ xs) v ≡ false → (v ≡ x → ⊥) × (is_among xs v ≡ false)
among_not x v xs e = (λ same. absurd (clash (is_among (x ∷ xs) v) (subst (λ y. is_among (y ∷ xs) v ≡ true) same (among_first v xs)) e), rest (is_among xs v) refl)
  where
    clash : (b : Bool) → b ≡ true → b ≡ false → ⊥
    clash b e f = cc

    rest : (b : Bool) → is_among xs v ≡ b → is_among xs v ≡ false
    rest false f = f
    rest true f = absurd (clash (is_among (x ∷ xs) v) (among_right (x ∷ []) xs v f) e)

pub others_stay : (variables : List Variable) (frees : List ℕ) (s : Begun) (v : ℕ) → is_among frees v ≡ false → get_or (fold (free_step variables) s frees).words v [] ≡ get_or s.words v []
others_stay variables [] s v e = refl
others_stay variables (x ∷ frees) s v e =
    let parts = among_not x v frees e in
    others_stay variables frees (free_step variables s x) v parts.1 ∙ get_or-set_other s.words x v _ [] parts.0

pub placed : (variables : List Variable) (bits : ℕ → List Bool) → ((v : ℕ) → length (bits v) ≡ width_in (slice_get variables v)) → (frees : List ℕ) (s : Begun) (front : List Bool) → s.gates ≡ replicate (length front) Free
    → (v : ℕ) → is_among frees v ≡ true → v < length s.words → IsPlaced (front ++ flat_map bits frees) (get_or (fold (free_step variables) s frees).words v []) (bits v)
placed variables bits lens [] s front e v m h = absurd (cc)
placed variables bits lens (x ∷ frees) s front e v m h = elim (cases_Bool (is_among frees v)) [
  | inl later ↦
      subst (λ t. IsPlaced t (get_or (fold (free_step variables) (free_step variables s x) frees).words v []) (bits v)) (flat_next bits front x frees)
      (placed variables bits lens frees (free_step variables s x) (front ++ bits x) (step_free variables bits lens s front x e) v later (omega (arith, h, length-set s.words x (lits_from (length s.gates + 1) (width_in (slice_get variables x))))))
  | inr not_later ↦ elim (or_cases (nat_eq x v) (is_among frees v) m) [
    | inl here ↦ now (eqb-true x v here) not_later
    | inr later ↦ clash (is_among frees v) later not_later
  ]
] where
  clash : {P : Type 0} (b : Bool) → b ≡ true → b ≡ false → P
  clash b e f = absurd (cc)

  now : x ≡ v → is_among frees v ≡ false → IsPlaced (front ++ flat_map bits (x ∷ frees)) (get_or (fold (free_step variables) (free_step variables s x) frees).words v []) (bits v)
  now same away =
      subst (λ y. IsPlaced (front ++ flat_map bits (x ∷ frees)) (get_or (fold (free_step variables) (free_step variables s x) frees).words y []) (bits y)) same
      (record {
        front = front;
        back = flat_map bits frees;
        all = ap (λ t. front ++ t) (flat_map-cons bits x frees);
        lits =
            others_stay variables frees (free_step variables s x) x (ap (is_among frees) same ∙ away)
            ∙ get_or-set_same s.words x _ [] (subst (λ y. y < length s.words) (sym same) h)
            ∙ ap₂ (λ n w. lits_from (n + 1) w) (ap length e ∙ length-replicate (length front) Free) (sym (lens x));
      })

-- the free bits of values: those of the free variables in order, the lowest bit first
pub bits_at : List Variable → List ℤ → ℕ → List Bool
bits_at variables values v = constant_bits (width_in (slice_get variables v)) (value_of_variable values v)

bits_are : (variables : List Variable) (values : List ℤ) (v : ℕ) → bits_at variables values v ≡ constant_bits (width_in (slice_get variables v)) (value_of_variable values v)
unfolding bits_at
bits_are variables values v = refl

bits_length : (variables : List Variable) (values : List ℤ) (v : ℕ) → length (bits_at variables values v) ≡ width_in (slice_get variables v)
unfolding bits_at
bits_length variables values v = length-number_bits (width_in (slice_get variables v)) _

pub free_of_values : VersionedProgram → List Numbered → Fact → List ℤ → List Bool
free_of_values p lemmas fact values = flat_map (bits_at p.variables values) (free_variables p lemmas fact)

-- words of values
pub word_type : (vs : List Variable) (a : List ℤ) (v : ℕ) → AreValues vs a → (word_at (words_of vs a) v).ty ≡ atom_ty (types_of vs) (Var v)
word_type [] [] v p = refl
word_type [] (m ∷ a) v p = absurd p
word_type (x ∷ vs) [] v p = absurd p
word_type (x ∷ vs) (m ∷ a) zero p = refl
word_type (x ∷ vs) (m ∷ a) (suc v) p = word_type vs a v p.1

pub word_number : (vs : List Variable) (a : List ℤ) (v : ℕ) → AreValues vs a → (word_at (words_of vs a) v).value ≡ value_of_variable a v
word_number [] [] v p = refl
word_number [] (m ∷ a) v p = absurd p
word_number (x ∷ vs) [] v p = absurd p
word_number (x ∷ vs) (m ∷ a) zero p = refl
word_number (x ∷ vs) (m ∷ a) (suc v) p = word_number vs a v p.1

pub value_typed : (vs : List Variable) (a : List ℤ) (v : ℕ) (x : Variable) → AreValues vs a → slice_get vs v ≡ Some x → InType x.ty (value_of_variable a v)
value_typed [] a v x p e = absurd (cc)
value_typed (y ∷ vs) [] v x p e = absurd p
value_typed (y ∷ vs) (m ∷ a) zero x p e = subst (λ (z : Variable). InType z.ty m) (same e) p.0
  where
    same : {x y : Variable} → Some y ≡ Some x → y ≡ x
    same e = cc
value_typed (y ∷ vs) (m ∷ a) (suc v) x p e = value_typed vs a v x p.1 e

pub there : {X : Type 0} (xs : List X) (k : ℕ) → k < length xs → (x : X) × (slice_get xs k ≡ Some x)
there [] k h = absurd (omega (arith, h))
there (x ∷ xs) zero h = (x, refl)
there (x ∷ xs) (suc k) h = there xs k (omega (arith, h))

free_item : (n k : ℕ) (gate : Gate) → slice_get (replicate n Free) k ≡ Some gate → gate ≡ Free
free_item zero k gate e = absurd (cc)
free_item (suc n) zero gate e = sym (same e)
  where
    same : {x y : Gate} → Some y ≡ Some x → y ≡ x
    same e = cc
free_item (suc n) (suc k) gate e = free_item n k gate e

free_there : (n k : ℕ) → k < n → slice_get (replicate n Free) k ≡ Some Free
free_there zero k h = absurd (omega (arith, h))
free_there (suc n) zero h = refl
free_there (suc n) (suc k) h = free_there n k (omega (arith, h))

no_words : (n v : ℕ) → ◌≡◌ {A = List ℕ} (get_or (replicate n []) v []) []
no_words zero v = refl
no_words (suc n) zero = refl
no_words (suc n) (suc v) = no_words n v

less_by : (test : ℕ → Bool) (n v : ℕ) (b : Bool) → test n ≡ b → (is_among (those_below test n) v ≡ true → v < n) → is_among (those_below test (suc n)) v ≡ true → v < suc n
less_by test n v true e rest m = elim (among_parts (those_below test n) (n ∷ []) v (sym (ap (λ xs. is_among xs v) (those_yes test n e)) ∙ m)) [
  | inl f ↦ let less = rest f in omega (arith, less)
  | inr f ↦ elim (or_cases (nat_eq n v) false f) [ inl here ↦ let same = eqb-true n v here in omega (arith, same) | inr none ↦ absurd (cc) ]
]
less_by test n v false e rest m = let less = rest (sym (ap (λ xs. is_among xs v) (those_no test n e)) ∙ m) in omega (arith, less)

no_member : {P : Type 0} (v : ℕ) → is_among [] v ≡ true → P
no_member v e = absurd (cc)

those_less : (test : ℕ → Bool) (n v : ℕ) → is_among (those_below test n) v ≡ true → v < n
those_less test zero v m = no_member v (sym (ap (λ xs. is_among xs v) (those_none test)) ∙ m)
those_less test (suc n) v m = less_by test n v (test n) refl (λ f. those_less test n v f) m

placed_within : (n : ℕ) (free : List Bool) (ls : List ℕ) (bs : List Bool) → IsPlaced free ls bs → length free ≡ n → AreWithin n ls
placed_within n free ls bs pl e =
    let long : length free ≡ length pl.front + (length bs + length pl.back) = ap length pl.all ∙ length-append pl.front (bs ++ pl.back) ∙ ap (λ k. length pl.front + k) (length-append bs pl.back) in
    subst (AreWithin n) (sym pl.lits) (lits_within (length pl.front + 1) (length bs) n (omega (arith, long, e)))

placed_shows : (gates : List Gate) (free : List Bool) (T : Ty) (ls : List ℕ) (bs : List Bool) (n : ℤ) → IsPlaced free ls bs → gates ≡ replicate (length free) Free → length bs ≡ T.width → word_value T.signed bs ≡ n → ShowsWord gates free T ls n
placed_shows gates free T ls bs n pl e h v =
    let many : length gates ≡ length free = ap length e ∙ length-replicate (length free) Free in
    let lead : BeginsFree (length (pl.front ++ (bs ++ pl.back))) gates =
    record { each = λ k less. ap (λ gs. slice_get gs k) e ∙ free_there (length free) k (subst (λ m. k < m) (sym (ap length pl.all)) less) } in
    record {
      count = ap length pl.lits ∙ length-lits_from (length pl.front + 1) (length bs) ∙ h;
      within = placed_within (length gates) free ls bs pl (sym many);
      value = ap (word_value T.signed) (ap₂ (λ f l. word_bits gates f l) pl.all pl.lits ∙ read_bits gates pl.front bs pl.back lead) ∙ v;
    }

pub typed_variable : (variables : List Variable) (v : ℕ) (x : Variable) → All (λ y. IsTy y.ty) variables → slice_get variables v ≡ Some x → IsTy x.ty
typed_variable variables v x a e =
    subst (λ (y : Variable). IsTy y.ty) (get_or_from_slice_get variables v x x e) (a v x (slice_get_within variables v x e))

-- where the circuit begins, the free variables are known
pub begun_free : (variables : List Variable) (values : List ℤ) (frees : List ℕ) → (begun_with variables frees).gates ≡ replicate (length (flat_map (bits_at variables values) frees)) Free
begun_free variables values frees = all_free variables (bits_at variables values) (bits_length variables values) frees (record { gates = []; words = replicate (length variables) [] }) [] refl

begun_placed : (variables : List Variable) (values : List ℤ) (frees : List ℕ) (v : ℕ) → is_among frees v ≡ true → v < length variables
    → IsPlaced (flat_map (bits_at variables values) frees) (get_or (begun_with variables frees).words v []) (bits_at variables values v)
begun_placed variables values frees v m h =
    let many : length (replicate {A = List ℕ} (length variables) []) ≡ length variables = length-replicate (length variables) [] in
    placed variables (bits_at variables values) (bits_length variables values) frees (record { gates = []; words = replicate (length variables) [] }) [] refl v m (omega (arith, h, many))

pub begun_other : (variables : List Variable) (frees : List ℕ) (v : ℕ) → is_among frees v ≡ false → get_or (begun_with variables frees).words v [] ≡ []
begun_other variables frees v e = others_stay variables frees (record { gates = []; words = replicate (length variables) [] }) v e ∙ no_words (length variables) v

begun_within : (variables : List Variable) (values : List ℤ) (frees : List ℕ) → ((v : ℕ) → is_among frees v ≡ true → v < length variables) → (v : ℕ) → AreWithin (length (begun_with variables frees).gates) (get_or (begun_with variables frees).words v [])
begun_within variables values frees less v =
    let free = flat_map (bits_at variables values) frees in
    let many : length free ≡ length (begun_with variables frees).gates = sym (ap length (begun_free variables values frees) ∙ length-replicate (length free) Free) in
    elim (cases_Bool (is_among frees v)) [
      | inl here ↦ placed_within (length (begun_with variables frees).gates) free _ (bits_at variables values v) (begun_placed variables values frees v here (less v here)) many
      | inr away ↦ subst (AreWithin (length (begun_with variables frees).gates)) (sym (begun_other variables frees v away)) (within_none _)
    ]

begun_shown : (p : VersionedProgram) (values : List ℤ) (frees : List ℕ) → IsWellFormed p → AreValues p.variables values → (v : ℕ) → is_among frees v ≡ true → v < length p.variables
    → ShowsVariable (begun_with p.variables frees).gates (flat_map (bits_at p.variables values) frees) (begun_with p.variables frees).words p.variables (words_of p.variables values) v
begun_shown p values frees w a v m h =
    let found = there p.variables v h in
    let x = found.0 in
    let gates = (begun_with p.variables frees).gates in
    let free = flat_map (bits_at p.variables values) frees in
    let ls = get_or (begun_with p.variables frees).words v [] in
    let width : width_in (slice_get p.variables v) ≡ x.ty.width = ap width_in found.1 in
    let word = constant_is x.ty (value_of_variable values v) (width_positive x.ty (typed_variable p.variables v x w.words found.1)) (value_typed p.variables values v x a found.1) in
    let same : bits_at p.variables values v ≡ constant_bits x.ty.width (value_of_variable values v) = bits_are p.variables values v ∙ ap (λ n. constant_bits n (value_of_variable values v)) width in
    let shows : ShowsWord gates free x.ty ls (value_of_variable values v) =
    placed_shows gates free x.ty ls (bits_at p.variables values v) (value_of_variable values v) (begun_placed p.variables values frees v m h) (begun_free p.variables values frees)
    (bits_length p.variables values v ∙ width) (ap (word_value x.ty.signed) same ∙ word.value) in
    record {
      ty = word_type p.variables values v a;
      word = subst (λ n. ShowsWord gates free (atom_ty (types_of p.variables) (Var v)) ls n) (sym (word_number p.variables values v a))
          (subst (λ T. ShowsWord gates free T ls (value_of_variable values v)) (sym (type_found p.variables v x _ found.1)) shows);
    }

ordered_free : (gates : List Gate) (n : ℕ) → gates ≡ replicate n Free → AreGates gates
ordered_free gates n e = subst AreGates (sym e) (record { each = λ k g h. subst (IsBelow (k + 1)) (sym (free_item n k g h)) tt })

blank_with : (p : VersionedProgram) (values : List ℤ) (frees : List ℕ) → IsWellFormed p → AreValues p.variables values → ((v : ℕ) → is_among frees v ≡ true → v < length p.variables)
    → IsState p.variables (words_of p.variables values) (flat_map (bits_at p.variables values) frees) (is_among frees) (blank (begun_with p.variables frees))
blank_with p values frees w a less = record {
  ordered = ordered_free _ (length (flat_map (bits_at p.variables values) frees)) (begun_free p.variables values frees);
  count = word_count p.variables frees (record { gates = []; words = replicate (length p.variables) [] }) ∙ length-replicate (length p.variables) [];
  within = record { each = begun_within p.variables values frees less };
  shown = λ v m. begun_shown p values frees w a v m (less v m);
  met = meets_first (begun_with p.variables frees).gates (flat_map (bits_at p.variables values) frees);
}

pub free_less : (p : VersionedProgram) (lemmas : List Numbered) (fact : Fact) (v : ℕ) → is_among (free_variables p lemmas fact) v ≡ true → v < length p.variables
unfolding free_variables
free_less p lemmas fact v m = those_less (is_free p lemmas fact) (length p.variables) v m

pass_by : (test : ℕ → Bool) (n v : ℕ) (b : Bool) → test n ≡ b → (is_among (those_below test n) v ≡ true → test v ≡ true) → is_among (those_below test (suc n)) v ≡ true → test v ≡ true
pass_by test n v true e rest m = elim (among_parts (those_below test n) (n ∷ []) v (sym (ap (λ xs. is_among xs v) (those_yes test n e)) ∙ m)) [
  | inl f ↦ rest f
  | inr f ↦ elim (or_cases (nat_eq n v) false f) [ inl here ↦ ap test (sym (eqb-true n v here)) ∙ e | inr none ↦ absurd (cc) ]
]
pass_by test n v false e rest m = rest (sym (ap (λ xs. is_among xs v) (those_no test n e)) ∙ m)

pub those_pass : (test : ℕ → Bool) (n v : ℕ) → is_among (those_below test n) v ≡ true → test v ≡ true
those_pass test zero v m = no_member v (sym (ap (λ xs. is_among xs v) (those_none test)) ∙ m)
those_pass test (suc n) v m = pass_by test n v (test n) refl (λ f. those_pass test n v f) m

not_true : (a b : Bool) → (a && not b) ≡ true → b ≡ false
not_true true false e = refl
not_true true true e = absurd (cc)
not_true false b e = absurd (cc)

pub free_passes : (p : VersionedProgram) (lemmas : List Numbered) (fact : Fact) (v : ℕ) → is_among (free_variables p lemmas fact) v ≡ true → is_among (computed_variables p.lines fact.uses) v ≡ false
unfolding free_variables
free_passes p lemmas fact v m = not_true (is_among (fact_variables p.lines lemmas fact) v) (is_among (computed_variables p.lines fact.uses) v) (those_pass (is_free p lemmas fact) (length p.variables) v m)

pub free_member : (p : VersionedProgram) (lemmas : List Numbered) (fact : Fact) (v : ℕ) → v < length p.variables → is_free p lemmas fact v ≡ true → is_among (free_variables p lemmas fact) v ≡ true
unfolding free_variables
free_member p lemmas fact v h e = those_member (is_free p lemmas fact) (length p.variables) v h e

pub blank_state : (p : VersionedProgram) (lemmas : List Numbered) (fact : Fact) (values : List ℤ) → IsWellFormed p → AreValues p.variables values
    → IsState p.variables (words_of p.variables values) (free_of_values p lemmas fact values) (is_among (free_variables p lemmas fact)) (blank (begun p lemmas fact))
unfolding begun free_of_values
blank_state p lemmas fact values w a = blank_with p values (free_variables p lemmas fact) w a (free_less p lemmas fact)
