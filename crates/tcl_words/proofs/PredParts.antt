-- The circuits of range predicates grow, part by part.
use Rattle.std.proofs.Common.{◌≡◌, ℕ, Bool, List, sym, ◌∙◌, ap, subst}
use Rattle.tcl_gates.specs.declared.gate.Gate.{Gate}
use Rattle.tcl_gates.specs.Meaning.{Begins, IsPart}
use Rattle.tcl_gates.proofs.Shown.{begins_same, begins_push, begins_trans, part_first, part_second, part_all}
use Rattle.tcl_lang.specs.declared.ty.Ty.{Ty}
use Rattle.tcl_lang.specs.declared.range.CmpOp.{CmpOp}
use Rattle.tcl_lang.specs.declared.range.CmpOp.TheVariants.{Eq, Ne, Lt, Le, Gt, Ge}
use Rattle.tcl_lang.specs.declared.range.RngTerm.{RngTerm}
use Rattle.tcl_lang.specs.declared.range.RngPred.{RngPred, RngPred-F, roll-RngPred, map-RngPred, ind-RngPred}
use Rattle.tcl_lang.specs.declared.range.RngPred.TheFolds.{fold-roll-RngPred}
use Rattle.tcl_lang.specs.declared.range.RngPred.TheOpen as layer
use Rattle.tcl_lang.specs.declared.range.RngPred.TheViews as range_pred
use Rattle.tcl_lang.specs.declared.range.RngPred.TheVariants as range_roll
use Rattle.tcl_circuits.specs.Wires.{Wire}
use Rattle.tcl_circuits.proofs.Loops.{less_begins, equal_begins}
use Rattle.tcl_words.specs.Ranges.{term_lits, compared_lits, both_sides, pred_step, pred_lit}
use Rattle.tcl_words.proofs.RangeParts.{term_begins}

pub compared_begins : (op : CmpOp) (gates : List Gate) (signed : Bool) (xs ys : List ℕ) → Begins gates (compared_lits gates op signed xs ys).gates
compared_begins Eq gates signed xs ys = equal_begins gates xs ys
compared_begins Ne gates signed xs ys = equal_begins gates xs ys
compared_begins Lt gates signed xs ys = less_begins gates signed xs ys
compared_begins Le gates signed xs ys = less_begins gates signed ys xs
compared_begins Gt gates signed xs ys = less_begins gates signed ys xs
compared_begins Ge gates signed xs ys = less_begins gates signed xs ys

-- the circuit of a comparison of two terms
abbrev pub sides : List (List ℕ) → List Ty → CmpOp → RngTerm → RngTerm → List Gate → Wire
sides words types op t u gates = both_sides op (term_lits words types u) (term_lits words types t gates)

pub sides_begin : (words : List (List ℕ)) (types : List Ty) (op : CmpOp) (t u : RngTerm) (gates : List Gate) → Begins gates (sides words types op t u gates).gates
sides_begin words types op t u gates = begins_trans (term_begins words types t gates) (begins_trans (term_begins words types u _) (compared_begins op _ _ _ _))

pub sides_first : (words : List (List ℕ)) (types : List Ty) (op : CmpOp) (t u : RngTerm) (gates now : List Gate) → IsPart gates now (term_lits words types t gates).gates → IsPart gates now (sides words types op t u gates).gates
sides_first words types op t u gates now p = part_first (begins_trans (term_begins words types u _) (compared_begins op _ _ _ _)) p

pub sides_second : (words : List (List ℕ)) (types : List Ty) (op : CmpOp) (t u : RngTerm) (gates middle now : List Gate) → middle ≡ (term_lits words types t gates).gates → IsPart middle now (term_lits words types u middle).gates
    → IsPart gates now (sides words types op t u gates).gates
sides_second words types op t u gates middle now f p =
    part_second (term_begins words types t gates) (part_first (compared_begins op _ _ _ _) (subst (λ m. IsPart m now (term_lits words types u m).gates) f p))

-- the gates, the words and the first type of both terms
pub record TermsMade (words : List (List ℕ)) (types : List Ty) (t u : RngTerm) (gates middle last : List Gate) (x y : List ℕ) (T : Ty) : Type 0 where
  pub first : middle ≡ (term_lits words types t gates).gates
  pub second : last ≡ (term_lits words types u middle).gates
  pub one : x ≡ (term_lits words types t gates).word
  pub other : y ≡ (term_lits words types u middle).word
  pub ty : T ≡ (term_lits words types t gates).ty

pub sides_third : (words : List (List ℕ)) (types : List Ty) (op : CmpOp) (t u : RngTerm) (gates middle last now : List Gate) (x y : List ℕ) (T : Ty) → TermsMade words types t u gates middle last x y T
    → IsPart last now (compared_lits last op T.signed x y).gates → IsPart gates now (sides words types op t u gates).gates
sides_third words types op t u gates middle last now x y T b p =
    let r = term_lits words types t gates in
    let v = term_lits words types u r.gates in
    let g : last ≡ v.gates = b.second ∙ ap (λ k. (term_lits words types u k).gates) b.first in
    let h : y ≡ v.word = b.other ∙ ap (λ k. (term_lits words types u k).word) b.first in
    let q : IsPart v.gates now (compared_lits v.gates op r.ty.signed r.word v.word).gates =
    subst (λ (W : Ty). IsPart v.gates now (compared_lits v.gates op W.signed r.word v.word).gates) b.ty
    (subst (λ z. IsPart v.gates now (compared_lits v.gates op T.signed r.word z).gates) h
    (subst (λ z. IsPart v.gates now (compared_lits v.gates op T.signed z y).gates) b.one
    (subst (λ l. IsPart l now (compared_lits l op T.signed x y).gates) g p))) in
    part_second (begins_trans (term_begins words types t gates) (term_begins words types u r.gates)) q

-- predicates grow
abbrev Grows : List (List ℕ) → List Ty → RngPred → Type 0
Grows words types p = (gates : List Gate) → Begins gates (pred_lit words types p gates).gates

abbrev Grown : List (List ℕ) → List Ty → Type 0
Grown words types = (p : RngPred) × Grows words types p

at_layer : (words : List (List ℕ)) (types : List Ty) (y : RngPred-F RngPred) (f : List Gate → Wire) → pred_lit words types (roll-RngPred y) ≡ f → ((gates : List Gate) → Begins gates (f gates).gates) → Grows words types (roll-RngPred y)
at_layer words types y f e h gates = subst (λ k. Begins gates (k gates).gates) (sym e) (h gates)

step : (words : List (List ℕ)) (types : List Ty) (y : RngPred-F (Grown words types)) → Grows words types (roll-RngPred (map-RngPred (Grown words types) RngPred (λ e. e.0) y))
step words types layer.True = at_layer words types layer.True _ (fold-roll-RngPred (List Gate → Wire) (pred_step words types) layer.True) (λ gates. begins_same gates)
step words types layer.False = at_layer words types layer.False _ (fold-roll-RngPred (List Gate → Wire) (pred_step words types) layer.False) (λ gates. begins_same gates)
step words types (layer.Cmp op t u) = at_layer words types (layer.Cmp op t u) _ (fold-roll-RngPred (List Gate → Wire) (pred_step words types) (layer.Cmp op t u)) (λ gates. sides_begin words types op t u gates)
step words types (layer.Not a) = at_layer words types (layer.Not a.0) _ (fold-roll-RngPred (List Gate → Wire) (pred_step words types) (layer.Not a.0)) a.1
step words types (layer.Both a b) =
    at_layer words types (layer.Both a.0 b.0) _ (fold-roll-RngPred (List Gate → Wire) (pred_step words types) (layer.Both a.0 b.0)) (λ gates. begins_trans (a.1 gates) (begins_trans (b.1 (pred_lit words types a.0 gates).gates) (begins_push _ _)))
step words types (layer.Either a b) =
    at_layer words types (layer.Either a.0 b.0) _ (fold-roll-RngPred (List Gate → Wire) (pred_step words types) (layer.Either a.0 b.0)) (λ gates. begins_trans (a.1 gates) (begins_trans (b.1 (pred_lit words types a.0 gates).gates) (begins_push _ _)))

pub pred_begins : (words : List (List ℕ)) (types : List Ty) (p : RngPred) (gates : List Gate) → Begins gates (pred_lit words types p gates).gates
pred_begins words types = ind-RngPred (Grows words types) (λ x y is. subst (λ z. Grows words types (roll-RngPred z)) is (step words types y))

-- the circuit of each form of predicate
not_is : (words : List (List ℕ)) (types : List Ty) (p : RngPred) → pred_lit words types (range_pred.Not p) ≡ pred_step words types (layer.Not (pred_lit words types p))
not_is words types p = ap (pred_lit words types) (sym (range_roll.rolls-Not p)) ∙ fold-roll-RngPred (List Gate → Wire) (pred_step words types) (layer.Not p)

both_is : (words : List (List ℕ)) (types : List Ty) (p q : RngPred) → pred_lit words types (range_pred.Both p q) ≡ pred_step words types (layer.Both (pred_lit words types p) (pred_lit words types q))
both_is words types p q = ap (pred_lit words types) (sym (range_roll.rolls-Both p q)) ∙ fold-roll-RngPred (List Gate → Wire) (pred_step words types) (layer.Both p q)

either_is : (words : List (List ℕ)) (types : List Ty) (p q : RngPred) → pred_lit words types (range_pred.Either p q) ≡ pred_step words types (layer.Either (pred_lit words types p) (pred_lit words types q))
either_is words types p q = ap (pred_lit words types) (sym (range_roll.rolls-Either p q)) ∙ fold-roll-RngPred (List Gate → Wire) (pred_step words types) (layer.Either p q)

-- a predicate in part, in the words of the code
whole_of : (words : List (List ℕ)) (types : List Ty) (pred p : RngPred) (f : List Gate → Wire) (gates now : List Gate) → pred ≡ p → pred_lit words types p ≡ f → IsPart gates now (f gates).gates → IsPart gates now (pred_lit words types pred gates).gates
whole_of words types pred p f gates now e g h = subst (λ x. IsPart gates now (pred_lit words types x gates).gates) (sym e) (subst (λ k. IsPart gates now (k gates).gates) (sym g) h)

pub not_first : (words : List (List ℕ)) (types : List Ty) (pred p : RngPred) (gates now : List Gate) → pred ≡ range_pred.Not p → IsPart gates now (pred_lit words types p gates).gates → IsPart gates now (pred_lit words types pred gates).gates
not_first words types pred p gates now e h = whole_of words types pred (range_pred.Not p) _ gates now e (not_is words types p) h

pub both_first : (words : List (List ℕ)) (types : List Ty) (pred p q : RngPred) (gates now : List Gate) → pred ≡ range_pred.Both p q → IsPart gates now (pred_lit words types p gates).gates → IsPart gates now (pred_lit words types pred gates).gates
both_first words types pred p q gates now e h = whole_of words types pred (range_pred.Both p q) _ gates now e (both_is words types p q) (part_first (begins_trans (pred_begins words types q _) (begins_push _ _)) h)

pub both_second : (words : List (List ℕ)) (types : List Ty) (pred p q : RngPred) (gates middle now : List Gate) → pred ≡ range_pred.Both p q → middle ≡ (pred_lit words types p gates).gates → IsPart middle now (pred_lit words types q middle).gates
    → IsPart gates now (pred_lit words types pred gates).gates
both_second words types pred p q gates middle now e f h =
    whole_of words types pred (range_pred.Both p q) _ gates now e (both_is words types p q)
    (part_second (pred_begins words types p gates) (part_first (begins_push _ _) (subst (λ m. IsPart m now (pred_lit words types q m).gates) f h)))

pub both_third : (words : List (List ℕ)) (types : List Ty) (pred p q : RngPred) (gates middle last now : List Gate) → pred ≡ range_pred.Both p q → middle ≡ (pred_lit words types p gates).gates → last ≡ (pred_lit words types q middle).gates → now ≡ last
    → IsPart gates now (pred_lit words types pred gates).gates
both_third words types pred p q gates middle last now e f g h =
    let second : now ≡ (pred_lit words types q (pred_lit words types p gates).gates).gates = h ∙ g ∙ ap (λ k. (pred_lit words types q k).gates) f in
    whole_of words types pred (range_pred.Both p q) _ gates now e (both_is words types p q)
    (part_first (begins_push _ _) (part_all (begins_trans (pred_begins words types p gates) (pred_begins words types q _)) second))

pub either_first : (words : List (List ℕ)) (types : List Ty) (pred p q : RngPred) (gates now : List Gate) → pred ≡ range_pred.Either p q → IsPart gates now (pred_lit words types p gates).gates → IsPart gates now (pred_lit words types pred gates).gates
either_first words types pred p q gates now e h = whole_of words types pred (range_pred.Either p q) _ gates now e (either_is words types p q) (part_first (begins_trans (pred_begins words types q _) (begins_push _ _)) h)

pub either_second : (words : List (List ℕ)) (types : List Ty) (pred p q : RngPred) (gates middle now : List Gate) → pred ≡ range_pred.Either p q → middle ≡ (pred_lit words types p gates).gates → IsPart middle now (pred_lit words types q middle).gates
    → IsPart gates now (pred_lit words types pred gates).gates
either_second words types pred p q gates middle now e f h =
    whole_of words types pred (range_pred.Either p q) _ gates now e (either_is words types p q)
    (part_second (pred_begins words types p gates) (part_first (begins_push _ _) (subst (λ m. IsPart m now (pred_lit words types q m).gates) f h)))

pub either_third : (words : List (List ℕ)) (types : List Ty) (pred p q : RngPred) (gates middle last now : List Gate) → pred ≡ range_pred.Either p q → middle ≡ (pred_lit words types p gates).gates → last ≡ (pred_lit words types q middle).gates → now ≡ last
    → IsPart gates now (pred_lit words types pred gates).gates
either_third words types pred p q gates middle last now e f g h =
    let second : now ≡ (pred_lit words types q (pred_lit words types p gates).gates).gates = h ∙ g ∙ ap (λ k. (pred_lit words types q k).gates) f in
    whole_of words types pred (range_pred.Either p q) _ gates now e (either_is words types p q)
    (part_first (begins_push _ _) (part_all (begins_trans (pred_begins words types p gates) (pred_begins words types q _)) second))
