-- The values of free variables that are read bit by bit are those of their literals.
use Rattle.std.proofs.Common.{◌≡◌, ℕ, zero, suc, ◌+◌, ◌*◌, ◌^◌, ◌<◌, ◌≤◌, Bool, true, false, List, [], ◌∷◌, ◌++◌, length, map, replicate, fold, Some, refl, sym, ◌∙◌, ap, ap₂, subst, arith, pos}
use Rattle.std.specs.List.{slice_get, slice_set, All}
use Rattle.std.proofs.lemmas.List.{length-append}
use Rattle.std.proofs.lemmas.Option.{slice_get_within, get_or_from_slice_get}
use Rattle.std.proofs.Math.Pow.{pow_mono}
use lib.ListN.{length-replicate}
use Rattle.tcl_num.proofs.Congruences.{congruent_same}
use Rattle.tcl_cnf.specs.Literal.{value_at, literal_true}
use Rattle.tcl_bits.specs.Value.{bit_value, unsigned_value, word_value}
use Rattle.tcl_bits.proofs.Values.{unsigned_below}
use Rattle.tcl_bits.proofs.Words.{word_at}
use Rattle.tcl_gates.specs.declared.gate.Gate.{Gate}
use Rattle.tcl_gates.specs.declared.gate.Gate.TheVariants.{Free}
use Rattle.tcl_gates.proofs.Table.{literal_of}
use Rattle.tcl_lang.specs.declared.variable.Variable.{Variable}
use Rattle.tcl_lang.specs.Types.{IsTy}
use Rattle.tcl_lang.specs.Program.{VersionedProgram}
use Rattle.tcl_goals.specs.declared.fact.Fact.{Fact}
use Rattle.tcl_goals.specs.declared.lemma.Numbered.{Numbered}
use Rattle.tcl_goals.specs.Numbers.{those_below}
use Rattle.tcl_goals.specs.Free.{width_in, free_variables, is_free}
use Rattle.tcl_goals.proofs.Numbers.{those_none, those_yes, those_no}
use Rattle.tcl_words.proofs.Rows.{width_positive}
use Rattle.tcl_blast.specs.declared.blasted.Begun.{Begun}
use Rattle.tcl_blast.specs.Begin.{lits_from, free_step, begun_with, begun}
use Rattle.tcl_blast.specs.Models.{literals_value, literals_values}
use Rattle.tcl_blast.specs.FreeBits.{bits_from, value_from, given_from}
use Rattle.tcl_blast.specs.Inputs.{free_values}

-- bits in a row
pub length-bits_from : (bits : List Bool) (n w : ℕ) → length (bits_from bits n w) ≡ w
unfolding bits_from
length-bits_from bits n zero = refl
length-bits_from bits n (suc w) = ap suc (length-bits_from bits (n + 1) w)

pub no_bits : (bits : List Bool) (n w : ℕ) → w ≡ 0 → unsigned_value (bits_from bits n w) ≡ 0
unfolding bits_from
no_bits bits n zero e = refl
no_bits bits n (suc w) e = absurd (omega (arith, e))

pub one_before : (bits : List Bool) (n m w u : ℕ) → n + 1 ≡ m → u ≡ w + 1 → unsigned_value (bits_from bits n u) ≡ bit_value (value_at bits n) + 2 * unsigned_value (bits_from bits m w)
unfolding bits_from
one_before bits n m w zero e f = absurd (omega (arith, f))
one_before bits n m w (suc u) e f =
    let same : u ≡ w = omega (arith, f) in
    ap₂ (λ k x. bit_value (value_at bits n) + 2 * unsigned_value (bits_from bits k x)) e same

pub small_number : (bits : List Bool) (n w : ℕ) → w < 64 → unsigned_value (bits_from bits n w) < 2 ^ 63
small_number bits n w h =
    let below = unsigned_below (bits_from bits n w) in
    let long = ap (λ k. 2 ^ k) (length-bits_from bits n w) in
    let least : w ≤ 63 = omega (arith, h) in
    omega (arith, below, long, pow_mono least)

-- the bits of literals in a row
literal_bits : (bits : List Bool) (n w : ℕ) → map (literal_true (value_at bits)) (lits_from n w) ≡ bits_from bits n w
unfolding bits_from lits_from
literal_bits bits n zero = refl
literal_bits bits n (suc w) = ap₂ (λ x xs. x ∷ xs) (literal_of (value_at bits) n) (literal_bits bits (n + 1) w)

value_is : (bits : List Bool) (x : Variable) (n : ℕ) → IsTy x.ty → literals_value (value_at bits) x (lits_from n x.ty.width) ≡ value_from (Some x) bits n
value_is bits x n t =
    let w = x.ty.width in
    ap (word_value x.ty.signed) (literal_bits bits n w)
    ∙ word_at x.ty.signed w (bits_from bits n w) (pos (unsigned_value (bits_from bits n w))) (length-bits_from bits n w) (width_positive x.ty t)
    (congruent_same (pos (2 ^ w)) (pos (unsigned_value (bits_from bits n w))))

-- one variable gets its literals, so one value is set
set_one : (bits : List Bool) (vs : List Variable) (words : List (List ℕ)) (v n : ℕ) → ((u : ℕ) (x : Variable) → slice_get vs u ≡ Some x → IsTy x.ty)
    → slice_set (literals_values (value_at bits) vs words) v (value_from (slice_get vs v) bits n) ≡ literals_values (value_at bits) vs (slice_set words v (lits_from n (width_in (slice_get vs v))))
set_one bits [] words v n t = refl
set_one bits (x ∷ vs) [] v n t = refl
set_one bits (x ∷ vs) (ls ∷ words) zero n t = ap (λ m. m ∷ literals_values (value_at bits) vs words) (sym (value_is bits x n (t 0 x refl)))
set_one bits (x ∷ vs) (ls ∷ words) (suc v) n t =
    ap (λ ms. literals_value (value_at bits) x ls ∷ ms) (set_one bits vs words v n (λ u y e. t (suc u) y e))

gates_more : (gates : List Gate) (w : ℕ) → length gates + 1 + w ≡ length (gates ++ replicate w Free) + 1
gates_more gates w = omega (arith, length-append gates (replicate w Free), length-replicate w Free)

given_are : (bits : List Bool) (vs : List Variable) (frees : List ℕ) (s : Begun) → ((u : ℕ) (x : Variable) → slice_get vs u ≡ Some x → IsTy x.ty)
    → given_from vs bits (length s.gates + 1) frees (literals_values (value_at bits) vs s.words) ≡ literals_values (value_at bits) vs (fold (free_step vs) s frees).words
unfolding given_from
given_are bits vs [] s t = refl
given_are bits vs (v ∷ frees) s t =
    let w = width_in (slice_get vs v) in
    ap₂ (λ n ms. given_from vs bits n frees ms) (gates_more s.gates w) (set_one bits vs s.words v (length s.gates + 1) t)
    ∙ given_are bits vs frees (free_step vs s v) t

no_value : (s : Bool) → word_value s [] ≡ pos 0
no_value true = refl
no_value false = refl

zeros_are : (bits : List Bool) (vs : List Variable) → replicate (length vs) (pos 0) ≡ literals_values (value_at bits) vs (replicate (length vs) [])
zeros_are bits [] = refl
zeros_are bits (x ∷ vs) = ap₂ (λ m ms. m ∷ ms) (sym (no_value x.ty.signed)) (zeros_are bits vs)

typed_at : (vs : List Variable) → All (λ x. IsTy x.ty) vs → (u : ℕ) (x : Variable) → slice_get vs u ≡ Some x → IsTy x.ty
typed_at vs a u x e = subst (λ (y : Variable). IsTy y.ty) (get_or_from_slice_get vs u x x e) (a u x (slice_get_within vs u x e))

pub given_free : (p : VersionedProgram) (lemmas : List Numbered) (fact : Fact) (bits : List Bool) (frees : List ℕ) → All (λ x. IsTy x.ty) p.variables → frees ≡ free_variables p lemmas fact
    → given_from p.variables bits 1 frees (replicate (length p.variables) (pos 0)) ≡ free_values p lemmas fact bits
unfolding free_values begun
given_free p lemmas fact bits frees a e =
    let start : Begun = record { gates = []; words = replicate (length p.variables) [] } in
    ap (given_from p.variables bits 1 frees) (zeros_are bits p.variables)
    ∙ given_are bits p.variables frees start (typed_at p.variables a)
    ∙ ap (λ fs. literals_values (value_at bits) p.variables (begun_with p.variables fs).words) e

-- a program has no more free variables than variables
those_few : (test : ℕ → Bool) (n : ℕ) → length (those_below test n) ≤ n
those_few test zero = omega (arith, ap length (those_none test))
those_few test (suc n) = by (test n) refl (those_few test n)
  where
    by : (b : Bool) → test n ≡ b → length (those_below test n) ≤ n → length (those_below test (suc n)) ≤ suc n
    by true e few = omega (arith, few, ap length (those_yes test n e), length-append (those_below test n) (n ∷ []))
    by false e few = omega (arith, few, ap length (those_no test n e))

pub free_few : (p : VersionedProgram) (lemmas : List Numbered) (fact : Fact) → length (free_variables p lemmas fact) ≤ length p.variables
unfolding free_variables
free_few p lemmas fact = those_few (is_free p lemmas fact) (length p.variables)
