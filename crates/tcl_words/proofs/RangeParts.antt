-- The circuits of range terms grow, part by part.
use Rattle.std.proofs.Common.{◌≡◌, ℕ, List, sym, ◌∙◌, ap, subst}
use Rattle.tcl_gates.specs.declared.gate.Gate.{Gate}
use Rattle.tcl_lang.specs.declared.ty.Ty.{Ty}
use Rattle.tcl_lang.specs.declared.range.RngOp.{RngOp}
use Rattle.tcl_lang.specs.declared.range.RngOp.TheVariants.{Add, Sub, Mul, And, Or, Xor}
use Rattle.tcl_lang.specs.declared.range.RngTerm.{RngTerm, RngTerm-F, roll-RngTerm, map-RngTerm, ind-RngTerm}
use Rattle.tcl_lang.specs.declared.range.RngTerm.TheFolds.{fold-roll-RngTerm}
use Rattle.tcl_lang.specs.declared.range.RngTerm.TheOpen as layer
use Rattle.tcl_lang.specs.declared.range.RngTerm.TheViews as range_term
use Rattle.tcl_lang.specs.declared.range.RngTerm.TheVariants as range_roll
use Rattle.tcl_circuits.proofs.Adders.{adder_begins}
use Rattle.tcl_circuits.proofs.Loops.{or_begins, negation_begins, difference_begins, and_begins, xor_begins}
use Rattle.tcl_circuits.proofs.Rows.{product_begins}
use Rattle.tcl_circuits.specs.Circuits.{negation}
use Rattle.tcl_gates.proofs.Shown.{begins_same, begins_trans, part_first, part_second, part_all}
use Rattle.tcl_gates.specs.Meaning.{Begins, IsPart}
use Rattle.tcl_words.specs.Ranges.{Typed, combined_lits, term_step, term_lits}

combined_begins : (op : RngOp) (gates : List Gate) (xs ys : List ℕ) → Begins gates (combined_lits gates op xs ys).gates
combined_begins Add gates xs ys = adder_begins gates xs ys 1
combined_begins Sub gates xs ys = difference_begins gates xs ys 1
combined_begins Mul gates xs ys = product_begins gates xs ys
combined_begins And gates xs ys = and_begins gates xs ys
combined_begins Or gates xs ys = or_begins gates xs ys
combined_begins Xor gates xs ys = xor_begins gates xs ys

abbrev Grows : List (List ℕ) → List Ty → RngTerm → Type 0
Grows words types t = (gates : List Gate) → Begins gates (term_lits words types t gates).gates

abbrev Grown : List (List ℕ) → List Ty → Type 0
Grown words types = (t : RngTerm) × Grows words types t

at_layer : (words : List (List ℕ)) (types : List Ty) (y : RngTerm-F RngTerm) (f : List Gate → Typed) → term_lits words types (roll-RngTerm y) ≡ f → ((gates : List Gate) → Begins gates (f gates).gates) → Grows words types (roll-RngTerm y)
at_layer words types y f e h gates = subst (λ k. Begins gates (k gates).gates) (sym e) (h gates)

step : (words : List (List ℕ)) (types : List Ty) (y : RngTerm-F (Grown words types)) → Grows words types (roll-RngTerm (map-RngTerm (Grown words types) RngTerm (λ e. e.0) y))
step words types (layer.Leaf atom) = at_layer words types (layer.Leaf atom) _ (fold-roll-RngTerm (List Gate → Typed) (term_step words types) (layer.Leaf atom)) (λ gates. begins_same gates)
step words types (layer.Neg a) = at_layer words types (layer.Neg a.0) _ (fold-roll-RngTerm (List Gate → Typed) (term_step words types) (layer.Neg a.0)) (λ gates. begins_trans (a.1 gates) (negation_begins _ _))
step words types (layer.Flip a) = at_layer words types (layer.Flip a.0) _ (fold-roll-RngTerm (List Gate → Typed) (term_step words types) (layer.Flip a.0)) a.1
step words types (layer.Bin op a b) =
    at_layer words types (layer.Bin op a.0 b.0) _ (fold-roll-RngTerm (List Gate → Typed) (term_step words types) (layer.Bin op a.0 b.0)) (λ gates. begins_trans (a.1 gates) (begins_trans (b.1 (term_lits words types a.0 gates).gates) (combined_begins op _ _ _)))
step words types (layer.Cast T a) = at_layer words types (layer.Cast T a.0) _ (fold-roll-RngTerm (List Gate → Typed) (term_step words types) (layer.Cast T a.0)) a.1

pub term_begins : (words : List (List ℕ)) (types : List Ty) (t : RngTerm) (gates : List Gate) → Begins gates (term_lits words types t gates).gates
term_begins words types = ind-RngTerm (Grows words types) (λ x y is. subst (λ z. Grows words types (roll-RngTerm z)) is (step words types y))

-- the circuit of each form of term
neg_is : (words : List (List ℕ)) (types : List Ty) (t : RngTerm) → term_lits words types (range_term.Neg t) ≡ term_step words types (layer.Neg (term_lits words types t))
neg_is words types t = ap (term_lits words types) (sym (range_roll.rolls-Neg t)) ∙ fold-roll-RngTerm (List Gate → Typed) (term_step words types) (layer.Neg t)

bin_is : (words : List (List ℕ)) (types : List Ty) (op : RngOp) (t u : RngTerm) → term_lits words types (range_term.Bin op t u) ≡ term_step words types (layer.Bin op (term_lits words types t) (term_lits words types u))
bin_is words types op t u = ap (term_lits words types) (sym (range_roll.rolls-Bin op t u)) ∙ fold-roll-RngTerm (List Gate → Typed) (term_step words types) (layer.Bin op t u)

flip_is : (words : List (List ℕ)) (types : List Ty) (t : RngTerm) → term_lits words types (range_term.Flip t) ≡ term_step words types (layer.Flip (term_lits words types t))
flip_is words types t = ap (term_lits words types) (sym (range_roll.rolls-Flip t)) ∙ fold-roll-RngTerm (List Gate → Typed) (term_step words types) (layer.Flip t)

cast_is : (words : List (List ℕ)) (types : List Ty) (T : Ty) (t : RngTerm) → term_lits words types (range_term.Cast T t) ≡ term_step words types (layer.Cast T (term_lits words types t))
cast_is words types T t = ap (term_lits words types) (sym (range_roll.rolls-Cast T t)) ∙ fold-roll-RngTerm (List Gate → Typed) (term_step words types) (layer.Cast T t)

-- a term in part, in the words of the code
whole_of : (words : List (List ℕ)) (types : List Ty) (term t : RngTerm) (f : List Gate → Typed) (gates now : List Gate) → term ≡ t → term_lits words types t ≡ f → IsPart gates now (f gates).gates → IsPart gates now (term_lits words types term gates).gates
whole_of words types term t f gates now e g p = subst (λ x. IsPart gates now (term_lits words types x gates).gates) (sym e) (subst (λ k. IsPart gates now (k gates).gates) (sym g) p)

pub neg_first : (words : List (List ℕ)) (types : List Ty) (term t : RngTerm) (gates now : List Gate) → term ≡ range_term.Neg t → IsPart gates now (term_lits words types t gates).gates → IsPart gates now (term_lits words types term gates).gates
neg_first words types term t gates now e p = whole_of words types term (range_term.Neg t) _ gates now e (neg_is words types t) (part_first (negation_begins _ _) p)

pub neg_second : (words : List (List ℕ)) (types : List Ty) (term t : RngTerm) (gates middle now : List Gate) (word : List ℕ) → term ≡ range_term.Neg t → middle ≡ (term_lits words types t gates).gates → word ≡ (term_lits words types t gates).word
    → IsPart middle now (negation middle word).gates → IsPart gates now (term_lits words types term gates).gates
neg_second words types term t gates middle now word e f g p =
    whole_of words types term (range_term.Neg t) _ gates now e (neg_is words types t)
    (part_second (term_begins words types t gates) (subst (λ w. IsPart (term_lits words types t gates).gates now (negation (term_lits words types t gates).gates w).gates) g (subst (λ m. IsPart m now (negation m word).gates) f p)))

pub flip_all : (words : List (List ℕ)) (types : List Ty) (term t : RngTerm) (gates now : List Gate) → term ≡ range_term.Flip t → now ≡ (term_lits words types t gates).gates → IsPart gates now (term_lits words types term gates).gates
flip_all words types term t gates now e f = whole_of words types term (range_term.Flip t) _ gates now e (flip_is words types t) (part_all (term_begins words types t gates) f)

pub cast_all : (words : List (List ℕ)) (types : List Ty) (term t : RngTerm) (T : Ty) (gates now : List Gate) → term ≡ range_term.Cast T t → now ≡ (term_lits words types t gates).gates → IsPart gates now (term_lits words types term gates).gates
cast_all words types term t T gates now e f = whole_of words types term (range_term.Cast T t) _ gates now e (cast_is words types T t) (part_all (term_begins words types t gates) f)

pub bin_first : (words : List (List ℕ)) (types : List Ty) (term t u : RngTerm) (op : RngOp) (gates now : List Gate) → term ≡ range_term.Bin op t u → IsPart gates now (term_lits words types t gates).gates → IsPart gates now (term_lits words types term gates).gates
bin_first words types term t u op gates now e p =
    whole_of words types term (range_term.Bin op t u) _ gates now e (bin_is words types op t u) (part_first (begins_trans (term_begins words types u _) (combined_begins op _ _ _)) p)

pub bin_second : (words : List (List ℕ)) (types : List Ty) (term t u : RngTerm) (op : RngOp) (gates middle now : List Gate) → term ≡ range_term.Bin op t u → middle ≡ (term_lits words types t gates).gates → IsPart middle now (term_lits words types u middle).gates
    → IsPart gates now (term_lits words types term gates).gates
bin_second words types term t u op gates middle now e f p =
    whole_of words types term (range_term.Bin op t u) _ gates now e (bin_is words types op t u)
    (part_second (term_begins words types t gates) (part_first (combined_begins op _ _ _) (subst (λ m. IsPart m now (term_lits words types u m).gates) f p)))

-- the gates and the words of both parts
pub record BothMade (words : List (List ℕ)) (types : List Ty) (t u : RngTerm) (gates middle last : List Gate) (x y : List ℕ) : Type 0 where
  pub first : middle ≡ (term_lits words types t gates).gates
  pub second : last ≡ (term_lits words types u middle).gates
  pub one : x ≡ (term_lits words types t gates).word
  pub other : y ≡ (term_lits words types u middle).word

pub bin_third : (words : List (List ℕ)) (types : List Ty) (term t u : RngTerm) (op : RngOp) (gates middle last now : List Gate) (x y : List ℕ) → term ≡ range_term.Bin op t u → BothMade words types t u gates middle last x y
    → IsPart last now (combined_lits last op x y).gates → IsPart gates now (term_lits words types term gates).gates
bin_third words types term t u op gates middle last now x y e b p =
    let m = (term_lits words types t gates).gates in
    let v = term_lits words types u m in
    let w = (term_lits words types t gates).word in
    let g : last ≡ v.gates = b.second ∙ ap (λ k. (term_lits words types u k).gates) b.first in
    let h : y ≡ v.word = b.other ∙ ap (λ k. (term_lits words types u k).word) b.first in
    let q : IsPart v.gates now (combined_lits v.gates op w v.word).gates =
    subst (λ z. IsPart v.gates now (combined_lits v.gates op w z).gates) h (subst (λ z. IsPart v.gates now (combined_lits v.gates op z y).gates) b.one (subst (λ l. IsPart l now (combined_lits l op x y).gates) g p)) in
    whole_of words types term (range_term.Bin op t u) _ gates now e (bin_is words types op t u) (part_second (begins_trans (term_begins words types t gates) (term_begins words types u m)) q)
