-- Clauses that the values of gates meet, and of all gates that begin with these.
use Rattle.std.proofs.Common.{◌≡◌, ℕ, ◌+◌, ◌/◌, ◌<◌, Bool, true, List, [], ◌∷◌, ◌++◌, length, refl, sym, ◌∙◌, ap, subst, arith, length-append}
use Rattle.std.specs.Option.{option_to_list}
use Rattle.std.proofs.lemmas.Bool.{and_parts, and_from}
use Rattle.tcl_cnf.specs.Literal.{literal_true}
use Rattle.tcl_cnf.specs.Clause.{clause_of, clause_true, all_true, Satisfies}
use Rattle.tcl_cnf.proofs.Truth.{satisfies-append, kept_true}
use Rattle.tcl_cnf.proofs.Bools.{or-false}
use Rattle.tcl_gates.specs.declared.gate.Gate.{Gate}
use Rattle.tcl_gates.specs.declared.gate.Gate.TheVariants.{And, Xor, Major, Choice, Free}
use Rattle.tcl_gates.specs.Gates.{gate_value, value_at, next_value, bits_behind, values_from, values_of, clauses_of, clauses_behind, IsBelow, AreGates}
use Rattle.tcl_gates.specs.Meaning.{Begins, ShowsBit}
use Rattle.tcl_gates.proofs.Table.{agree, agree_same, literal_of, is_value}
use Rattle.tcl_gates.proofs.Values.{values_from-cons, value_kept, value_first, literal_same, value_at-zero}
use Rattle.tcl_gates.proofs.Circuit.{all_values, clauses_of_true, AllBelow, all_below, AgreesBelow}
use Rattle.tcl_gates.proofs.Appending.{clauses_of-append}
use Rattle.tcl_gates.proofs.Shown.{begins_trans, bit_kept}

literal_agrees : (v : ℕ → Bool) (values : List Bool) → AgreesBelow v values → (l : ℕ) → l / 2 < length values → literal_true v l ≡ literal_true (value_at values) l
literal_agrees v values a l h = literal_same v (value_at values) l (a (l / 2) h)

gate_agrees : (v : ℕ → Bool) (values : List Bool) → AgreesBelow v values → (gate : Gate) → IsBelow (length values) gate → gate_value v gate ≡ gate_value (value_at values) gate
gate_agrees v values a Free h = refl
gate_agrees v values a (And x y) h = rw (literal_agrees v values a x h.0, literal_agrees v values a y h.1) refl
gate_agrees v values a (Xor x y) h = rw (literal_agrees v values a x h.0, literal_agrees v values a y h.1) refl
gate_agrees v values a (Major x y z) h = rw (literal_agrees v values a x h.0, literal_agrees v values a y h.1, literal_agrees v values a z h.2) refl
gate_agrees v values a (Choice z x y) h = rw (literal_agrees v values a z h.0, literal_agrees v values a x h.1, literal_agrees v values a y h.2) refl

agree_from : (x y : Bool) → x ≡ y → agree x y ≡ true
agree_from x y e = ap (agree x) (sym e) ∙ agree_same x

next_is : (v : ℕ → Bool) (values free : List Bool) (gate : Gate) → AgreesBelow v values → IsBelow (length values) gate → v (length values) ≡ next_value values free gate → is_value v (v (length values)) gate ≡ true
next_is v values free Free a h e = refl
next_is v values free (And x y) a h e = agree_from _ _ (e ∙ sym (gate_agrees v values a (And x y) h))
next_is v values free (Xor x y) a h e = agree_from _ _ (e ∙ sym (gate_agrees v values a (Xor x y) h))
next_is v values free (Major x y z) a h e = agree_from _ _ (e ∙ sym (gate_agrees v values a (Major x y z) h))
next_is v values free (Choice z x y) a h e = agree_from _ _ (e ∙ sym (gate_agrees v values a (Choice z x y) h))

-- the values of gates are values of each gate, whatever the free bits are
values_meet : (v : ℕ → Bool) (values free : List Bool) (gates : List Gate) → ((k : ℕ) → v k ≡ value_at (values_from values free gates) k) → AllBelow (length values) gates → all_values v (length values) gates ≡ true
values_meet v values free [] e h = refl
values_meet v values free (gate ∷ gates) e h =
    let b = next_value values free gate in
    let next : length (values ++ b ∷ []) ≡ length values + 1 = length-append values (b ∷ []) ∙ omega arith in
    let a : AgreesBelow v values = λ k less. e k ∙ value_kept values free (gate ∷ gates) k less in
    let here : v (length values) ≡ b = e (length values) ∙ value_first values free gate gates in
    and_from (is_value v (v (length values)) gate) (all_values v (length values + 1) gates) (next_is v values free gate a h.0 here)
    (ap (λ m. all_values v m gates) (sym next) ∙ values_meet v (values ++ b ∷ []) (bits_behind free gate) gates
    (λ k. e k ∙ ap (λ t. value_at t k) (values_from-cons values free gate gates)) (subst (λ m. AllBelow m gates) (sym next) h.1))

pub own_meet : (gates : List Gate) (free : List Bool) → AreGates gates → Satisfies (value_at (values_of gates free)) (clauses_of gates)
unfolding values_of
own_meet gates free g =
    clauses_of_true (value_at (values_of gates free)) gates
    ∙ and_from (value_at (values_of gates free) 0) (all_values (value_at (values_of gates free)) 1 gates) (value_at-zero gates free)
    (values_meet (value_at (values_of gates free)) (true ∷ []) free gates (λ k. refl) (all_below gates g))

-- the values of all gates that begin with these meet the clauses
pub record Meets (gates : List Gate) (free : List Bool) (clauses : List (List ℕ)) : Type 0 where
  pub each : (all : List Gate) → Begins gates all → AreGates all → Satisfies (value_at (values_of all free)) clauses

pub meets_grown : {gs hs : List Gate} {free : List Bool} {cs : List (List ℕ)} → Begins gs hs → Meets gs free cs → Meets hs free cs
meets_grown b m = record { each = λ all c g. m.each all (begins_trans b c) g }

pub meets_append : {gs : List Gate} {free : List Bool} (cs ds : List (List ℕ)) → Meets gs free cs → Meets gs free ds → Meets gs free (cs ++ ds)
meets_append {gs} {free} cs ds m n = record {
  each = λ all b g. satisfies-append (value_at (values_of all free)) cs ds ∙ and_from _ _ (m.each all b g) (n.each all b g);
}

left_part : (v : ℕ → Bool) (cs ds : List (List ℕ)) → Satisfies v (cs ++ ds) → Satisfies v cs
left_part v cs ds s = (and_parts (all_true v cs) (all_true v ds) (sym (satisfies-append v cs ds) ∙ s)).0

right_part : (v : ℕ → Bool) (cs ds : List (List ℕ)) → Satisfies v (cs ++ ds) → Satisfies v ds
right_part v cs ds s = (and_parts (all_true v cs) (all_true v ds) (sym (satisfies-append v cs ds) ∙ s)).1

begun_clauses : (v : ℕ → Bool) (gates all : List Gate) → Begins gates all → Satisfies v (clauses_of all) → Satisfies v (clauses_of gates)
begun_clauses v gates all b s =
    left_part v (clauses_of gates) (clauses_behind (length gates) (gates ++ b.more)) (subst (Satisfies v) (ap clauses_of b.is ∙ clauses_of-append gates b.more) s)

behind_clauses : (v : ℕ → Bool) (old gates : List Gate) → Begins old gates → Satisfies v (clauses_of gates) → Satisfies v (clauses_behind (length old) gates)
behind_clauses v old gates b s =
    subst (λ t. Satisfies v (clauses_behind (length old) t)) (sym b.is)
    (right_part v (clauses_of old) (clauses_behind (length old) (old ++ b.more)) (subst (Satisfies v) (ap clauses_of b.is ∙ clauses_of-append old b.more) s))

-- the clauses of new gates
pub meets_behind : {free : List Bool} (old gates : List Gate) → Begins old gates → Meets gates free (clauses_behind (length old) gates)
meets_behind {free} old gates b = record {
  each = λ all c g. behind_clauses (value_at (values_of all free)) old gates b (begun_clauses (value_at (values_of all free)) gates all c (own_meet all free g));
}

-- the clause that variable 0 is true
pub meets_first : (gates : List Gate) (free : List Bool) → Meets gates free ((0 ∷ []) ∷ [])
meets_first gates free = record {
  each = λ all b g. and_from _ _ (or-false (literal_true (value_at (values_of all free)) 0) ∙ literal_of (value_at (values_of all free)) 0 ∙ value_at-zero all free) refl;
}

-- the clause of literals that are true somewhere
pub meets_clause : {gates : List Gate} {free : List Bool} (ls : List ℕ) → ((all : List Gate) → Begins gates all → clause_true (value_at (values_of all free)) ls ≡ true) → Meets gates free (option_to_list (clause_of ls))
meets_clause {gates} {free} ls h = record { each = λ all b g. kept_true (value_at (values_of all free)) ls ∙ h all b }

pub meets_unit : {gates : List Gate} {free : List Bool} {l : ℕ} → ShowsBit gates free l true → Meets gates free (option_to_list (clause_of (l ∷ [])))
meets_unit {gates} {free} {l} s = meets_clause (l ∷ []) (λ all b. or-false (literal_true (value_at (values_of all free)) l) ∙ (bit_kept b s).value)
