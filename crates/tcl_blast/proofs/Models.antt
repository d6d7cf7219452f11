-- Values that meet the clauses of a fact give an assignment of it.
use Rattle.std.proofs.Common.{◌≡◌, ◌⊎◌, inl, inr, ℕ, zero, suc, ◌/◌, ◌<◌, ◌≤◌, Bool, true, false, List, [], ◌∷◌, length, map, get_or, Some, refl, sym, ◌∙◌, ap, ap₂, subst, arith, pos}
use Rattle.std.specs.List.{slice_get}
use Rattle.std.proofs.lemmas.List.{length-map}
use Rattle.tcl_cnf.specs.Literal.{literal_true}
use Rattle.tcl_cnf.specs.Clause.{Satisfies}
use Rattle.tcl_bits.specs.Value.{word_value}
use Rattle.tcl_bits.proofs.Words.{word_in_range}
use Rattle.tcl_gates.specs.declared.gate.Gate.{Gate}
use Rattle.tcl_gates.specs.Gates.{AreGates, value_at as bit_at, values_of as circuit_values, free_of, clauses_of as gate_clauses}
use Rattle.tcl_gates.specs.Meaning.{lit_bit, word_bits, AreWithin, Begins}
use Rattle.tcl_gates.proofs.Circuit.{extends_from}
use Rattle.tcl_gates.proofs.Values.{value_at-append, literal_same}
use Rattle.tcl_gates.proofs.Shown.{begins_length, within_tail}
use Rattle.tcl_lang.specs.declared.ty.Ty.{Ty}
use Rattle.tcl_lang.specs.declared.instr.Atom.TheVariants.{Var}
use Rattle.tcl_lang.specs.declared.variable.Variable.{Variable}
use Rattle.tcl_lang.specs.Types.{IsTy, InType}
use Rattle.tcl_lang.specs.Store.{word_at}
use Rattle.tcl_lang.specs.Values.{value_at, types_of, AreValues, words_of}
use Rattle.tcl_words.specs.Ranges.{atom_ty}
use Rattle.tcl_words.specs.Stores.{ShowsVariable}
use Rattle.tcl_words.proofs.Parts.{type_found}
use Rattle.tcl_words.proofs.Rows.{width_positive}
use Rattle.tcl_lang.proofs.FormFacts.{zero_in}
use Rattle.tcl_blast.specs.Models.{literals_value, literals_values}
use Rattle.tcl_blast.proofs.Beginnings.{there, word_type, word_number}

-- literals of gates at the beginning have the values of the variables of the clauses
pub literal_is : (v : ℕ → Bool) (gates all : List Gate) (l : ℕ) → AreGates all → Satisfies v (gate_clauses all) → Begins gates all → l / 2 ≤ length gates → lit_bit gates (free_of v all) l ≡ literal_true v l
literal_is v gates all l g s b h =
    let free = free_of v all in
    let longer = begins_length b in
    let here : bit_at (circuit_values gates free) (l / 2) ≡ v (l / 2) =
    sym (value_at-append gates b.more free (l / 2) h) ∙ ap (λ t. bit_at (circuit_values t free) (l / 2)) (sym b.is) ∙ sym ((extends_from v all g s).each (l / 2) (omega (arith, h, longer))) in
    literal_same (bit_at (circuit_values gates free)) v l here

pub word_is : (v : ℕ → Bool) (gates all : List Gate) (ls : List ℕ) → AreGates all → Satisfies v (gate_clauses all) → Begins gates all → AreWithin (length gates) ls → word_bits gates (free_of v all) ls ≡ map (literal_true v) ls
word_is v gates all [] g s b w = refl
word_is v gates all (l ∷ ls) g s b w = ap₂ (λ x xs. x ∷ xs) (literal_is v gates all l g s b (w.each 0 l refl)) (word_is v gates all ls g s b (within_tail (length gates) l ls w))

-- the values of variables
pub literals_there : (v : ℕ → Bool) (vs : List Variable) (words : List (List ℕ)) (u : ℕ) (x : Variable) → length words ≡ length vs → slice_get vs u ≡ Some x → value_at (literals_values v vs words) u ≡ literals_value v x (get_or words u [])
literals_there v [] words u x c e = absurd (cc)
literals_there v (y ∷ vs) [] u x c e = absurd (omega (arith, c))
literals_there v (y ∷ vs) (ls ∷ words) zero x c e = ap (λ (z : Variable). literals_value v z ls) (same e)
  where
    same : {x y : Variable} → Some y ≡ Some x → y ≡ x
    same e = cc
literals_there v (y ∷ vs) (ls ∷ words) (suc u) x c e = literals_there v vs words u x (omega (arith, c)) e

-- a variable has no literal or as many as its type has bits
abbrev pub AreSized : List Variable → List (List ℕ) → Type 0
AreSized vs words = (u : ℕ) (x : Variable) → slice_get vs u ≡ Some x → (get_or words u [] ≡ []) ⊎ (length (get_or words u []) ≡ x.ty.width)

no_bits : (s : Bool) → word_value s [] ≡ pos 0
no_bits true = refl
no_bits false = refl

value_in_type : (v : ℕ → Bool) (x : Variable) (ls : List ℕ) → IsTy x.ty → (ls ≡ []) ⊎ (length ls ≡ x.ty.width) → InType x.ty (literals_value v x ls)
value_in_type v x ls t (inl none) = subst (InType x.ty) (sym (ap (literals_value v x) none ∙ no_bits x.ty.signed)) (zero_in x.ty.signed x.ty.width)
value_in_type v x ls t (inr many) =
    let long : length (map (literal_true v) ls) ≡ x.ty.width = length-map ls (literal_true v) ∙ many in
    let wide = width_positive x.ty t in
    subst (λ n. InType (record { signed = x.ty.signed; width = n }) (literals_value v x ls)) long (word_in_range x.ty.signed (map (literal_true v) ls) (omega (arith, long, wide)))

pub literals_typed : (v : ℕ → Bool) (vs : List Variable) (words : List (List ℕ)) → length words ≡ length vs → ((u : ℕ) (x : Variable) → slice_get vs u ≡ Some x → IsTy x.ty) → AreSized vs words → AreValues vs (literals_values v vs words)
literals_typed v [] words c t s = tt
literals_typed v (x ∷ vs) [] c t s = absurd (omega (arith, c))
literals_typed v (x ∷ vs) (ls ∷ words) c t s =
    (value_in_type v x ls (t 0 x refl) (s 0 x refl), literals_typed v vs words (omega (arith, c)) (λ u y e. t (suc u) y e) (λ u y e. s (suc u) y e))

-- the literals of a variable at some state show its value
pub variable_is : (v : ℕ → Bool) (gates all : List Gate) (vs : List Variable) (final words : List (List ℕ)) (u : ℕ) → AreGates all → Satisfies v (gate_clauses all) → Begins gates all → length final ≡ length vs → AreValues vs (literals_values v vs final)
    → u < length vs → get_or words u [] ≡ get_or final u [] → AreWithin (length gates) (get_or words u []) → length (get_or words u []) ≡ (atom_ty (types_of vs) (Var u)).width
    → ShowsVariable gates (free_of v all) words vs (words_of vs (literals_values v vs final)) u
variable_is v gates all vs final words u g s b c typed less same within many =
    let values = literals_values v vs final in
    let found = there vs u less in
    let x = found.0 in
    let ls = get_or words u [] in
    let ty : atom_ty (types_of vs) (Var u) ≡ x.ty = type_found vs u x _ found.1 in
    let value : word_value x.ty.signed (word_bits gates (free_of v all) ls) ≡ (word_at (words_of vs values) u).value =
    ap (word_value x.ty.signed) (word_is v gates all ls g s b within) ∙ ap (literals_value v x) same ∙ sym (literals_there v vs final u x c found.1) ∙ sym (word_number vs values u typed) in
    record {
      ty = word_type vs values u typed;
      word = record {
        count = many;
        within = within;
        value = ap (λ (T : Ty). word_value T.signed (word_bits gates (free_of v all) ls)) ty ∙ value;
      };
    }
