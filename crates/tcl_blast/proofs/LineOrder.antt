-- Instructions, exactness conditions and range predicates keep the order of gates.
use Rattle.std.proofs.Common.{◌≡◌, ℕ, zero, suc, ◌+◌, ◌*◌, ◌/◌, ◌≤◌, max, Bool, List, [], ◌∷◌, length, map, Option, Some, None, refl, sym, subst, arith, length-append}
use Rattle.tcl_cnf.specs.Literal.{neg}
use Rattle.tcl_gates.specs.declared.gate.Gate.{Gate}
use Rattle.tcl_gates.specs.declared.gate.Gate.TheVariants as gate
use Rattle.tcl_gates.specs.Meaning.{AreWithin}
use Rattle.tcl_gates.proofs.Shown.{within_grown, within_negated, within_none}
use Rattle.tcl_circuits.specs.Wires.{Wire, Wires, Carried}
use Rattle.tcl_circuits.specs.Circuits.{adder, difference, negation, extended}
use Rattle.tcl_circuits.proofs.Within.{within_extended, within_shifted, constant_within}
use Rattle.tcl_lang.specs.declared.ty.Ty.{Ty}
use Rattle.tcl_lang.specs.declared.instr.Atom.{Atom}
use Rattle.tcl_lang.specs.declared.instr.Atom.TheVariants.{Var, Lit}
use Rattle.tcl_lang.specs.declared.instr.Op.{Op}
use Rattle.tcl_lang.specs.declared.instr.Op.TheVariants as op
use Rattle.tcl_lang.specs.declared.pred.Line.{Line}
use Rattle.tcl_lang.specs.declared.pred.Line.TheVariants as line
use Rattle.tcl_lang.specs.declared.range.RngOp.{RngOp}
use Rattle.tcl_lang.specs.declared.range.RngOp.TheVariants as rng
use Rattle.tcl_lang.specs.declared.range.CmpOp.{CmpOp}
use Rattle.tcl_lang.specs.declared.range.CmpOp.TheVariants as cmp
use Rattle.tcl_lang.specs.declared.range.RngTerm.{RngTerm, RngTerm-F, roll-RngTerm, map-RngTerm, ind-RngTerm}
use Rattle.tcl_lang.specs.declared.range.RngTerm.TheFolds.{fold-roll-RngTerm}
use Rattle.tcl_lang.specs.declared.range.RngTerm.TheOpen as term_layer
use Rattle.tcl_lang.specs.declared.range.RngPred.{RngPred, RngPred-F, roll-RngPred, map-RngPred, ind-RngPred}
use Rattle.tcl_lang.specs.declared.range.RngPred.TheFolds.{fold-roll-RngPred}
use Rattle.tcl_lang.specs.declared.range.RngPred.TheOpen as pred_layer
use Rattle.tcl_lang.specs.declared.variable.Variable.{Variable}
use Rattle.tcl_words.specs.Instructions.{first_lit, wide_product, result_lits}
use Rattle.tcl_words.specs.Exactness.{plain, fits, exact_lit}
use Rattle.tcl_words.specs.Ranges.{AllWithin, Typed, typed, atom_lits, atom_ty, made_typed, combined_lits, both_terms, term_step, term_lits, compared_lits, both_sides, and_lit, and_lits, or_lits, pred_step, pred_lit}
use Rattle.tcl_words.specs.Steps.{operand_lits, operand_ty, step_gates, step_words, step_condition}
use Rattle.tcl_words.proofs.Parts.{within_first, all_within_grown}
use Rattle.tcl_words.proofs.CallFacts.{step_within}
use Rattle.tcl_blast.proofs.GateOrder.{Grows, grows_same, grows_trans, grows_push, grows_length, CarryMade, WordMade, LitMade, half_neg, adder_made, difference_made, negation_made, and_made, xor_made, or_made, choose_made, negated_made, less_made, equal_made, range_made, product_made}

-- the operands of a line are within the gates
pub operand_within : (n : ℕ) (words : List (List ℕ)) (atoms : List Atom) (k : ℕ) → AllWithin n words → AreWithin n (operand_lits words atoms k)
operand_within n words [] k w = within_none n
operand_within n words (Var v ∷ atoms) zero w = w.each v
operand_within n words (Lit T m ∷ atoms) zero w = constant_within n T.width m
operand_within n words (atom ∷ atoms) (suc k) w = operand_within n words atoms k w

wide_made : (gates : List Gate) (signed : Bool) (xs ys : List ℕ) → AreWithin (length gates) xs → AreWithin (length gates) ys → WordMade gates (wide_product gates signed xs ys)
wide_made gates signed xs ys a b = product_made gates _ _ (within_extended _ (2 * length xs) signed xs a) (within_extended _ (2 * length xs) signed ys b)

-- the rows
pub result_grows : (gates : List Gate) (o : Op) (T S : Ty) (n : ℕ) (a b c : List ℕ) → AreWithin (length gates) a → AreWithin (length gates) b → AreWithin (length gates) c → Grows gates (result_lits gates o T S n a b c).gates
result_grows gates op.Mov T S n a b c h i j = grows_same gates
result_grows gates op.Add T S n a b c h i j = (adder_made gates a b 1 h i (omega arith)).grows
result_grows gates op.Adds T S n a b c h i j = (adder_made gates a b 1 h i (omega arith)).grows
result_grows gates op.Adc T S n a b c h i j = (adder_made gates a b (first_lit c) h i (within_first _ c j)).grows
result_grows gates op.Adcs T S n a b c h i j = (adder_made gates a b (first_lit c) h i (within_first _ c j)).grows
result_grows gates op.Sub T S n a b c h i j = (difference_made gates a b 1 h i (omega arith)).grows
result_grows gates op.Subb T S n a b c h i j = (difference_made gates a b 1 h i (omega arith)).grows
result_grows gates op.Sbb T S n a b c h i j = (difference_made gates a b (first_lit c) h i (within_first _ c j)).grows
result_grows gates op.Sbbs T S n a b c h i j = (difference_made gates a b (first_lit c) h i (within_first _ c j)).grows
result_grows gates op.Mul T S n a b c h i j = (product_made gates a b h i).grows
result_grows gates op.Mull T S n a b c h i j = (wide_made gates T.signed a b h i).grows
result_grows gates op.Mulj T S n a b c h i j = (wide_made gates T.signed a b h i).grows
result_grows gates op.Shl T S n a b c h i j = grows_same gates
result_grows gates op.Split T S n a b c h i j = grows_same gates
result_grows gates op.Join T S n a b c h i j = grows_same gates
result_grows gates op.Cast T S n a b c h i j = grows_same gates
result_grows gates op.Vpc T S n a b c h i j = grows_same gates
result_grows gates op.Cmov T S n a b c h i j = (choose_made gates (first_lit a) b c (within_first _ a h) i j).grows
result_grows gates op.And T S n a b c h i j = (and_made gates a b h i).grows
result_grows gates op.Or T S n a b c h i j = (or_made gates a b h i).grows
result_grows gates op.Xor T S n a b c h i j = (xor_made gates a b h i).grows
result_grows gates op.Not T S n a b c h i j = grows_same gates
result_grows gates op.Nondet T S n a b c h i j = grows_same gates

-- exactness conditions
fits_made : {gates : List Gate} (signed : Bool) (width : ℕ) (s : Wires) → WordMade gates s → LitMade gates (fits signed width s)
fits_made signed width s m = let r = range_made s.gates signed width s.word m.word in record { grows = grows_trans m.grows r.grows; lit = r.lit }

plain_made : {gates : List Gate} {s : Carried} → CarryMade gates s → WordMade gates (plain s)
plain_made m = record { grows = m.grows; word = m.word }

pub exact_made : (gates : List Gate) (o : Op) (T S : Ty) (n : ℕ) (a b c : List ℕ) → AreWithin (length gates) a → AreWithin (length gates) b → AreWithin (length gates) c → LitMade gates (exact_lit gates o T S n a b c)
exact_made gates op.Add T S n a b c h i j =
    let w = length a + 2 in
    fits_made T.signed (length a) (plain (adder gates (extended T.signed w a) (extended T.signed w b) 1))
    (plain_made (adder_made gates _ _ 1 (within_extended _ w T.signed a h) (within_extended _ w T.signed b i) (omega arith)))
exact_made gates op.Adc T S n a b c h i j =
    let w = length a + 2 in
    fits_made T.signed (length a) (plain (adder gates (extended T.signed w a) (extended T.signed w b) (first_lit c)))
    (plain_made (adder_made gates _ _ (first_lit c) (within_extended _ w T.signed a h) (within_extended _ w T.signed b i) (within_first _ c j)))
exact_made gates op.Sub T S n a b c h i j =
    let w = length a + 2 in
    fits_made T.signed (length a) (plain (difference gates (extended T.signed w a) (extended T.signed w b) 1))
    (plain_made (difference_made gates _ _ 1 (within_extended _ w T.signed a h) (within_extended _ w T.signed b i) (omega arith)))
exact_made gates op.Sbb T S n a b c h i j =
    let w = length a + 2 in
    fits_made T.signed (length a) (plain (difference gates (extended T.signed w a) (extended T.signed w b) (first_lit c)))
    (plain_made (difference_made gates _ _ (first_lit c) (within_extended _ w T.signed a h) (within_extended _ w T.signed b i) (within_first _ c j)))
exact_made gates op.Mul T S n a b c h i j = fits_made T.signed (length a) (wide_product gates T.signed a b) (wide_made gates T.signed a b h i)
exact_made gates op.Shl T S n a b c h i j = range_made gates T.signed (length a) _ (within_shifted _ n _ (within_extended _ (length a + n) T.signed a h))
exact_made gates op.Vpc T S n a b c h i j = range_made gates T.signed T.width _ (within_extended _ (max (length a) T.width + 1) S.signed a h)
exact_made gates _ T S n a b c h i j = record { grows = grows_same gates; lit = omega arith }

-- a line's instruction and its exactness condition
pub step_grows : (gates : List Gate) (words : List (List ℕ)) (variables : List Variable) (o : Option Line) → AllWithin (length gates) words → Grows gates (step_gates gates words variables o)
step_grows gates words variables None w = grows_same gates
step_grows gates words variables (Some (line.Step i)) w =
    result_grows gates i.op i.ty (operand_ty variables i.args 0) i.amount (operand_lits words i.args 0) (operand_lits words i.args 1) (operand_lits words i.args 2)
    (operand_within _ words i.args 0 w) (operand_within _ words i.args 1 w) (operand_within _ words i.args 2 w)
step_grows gates words variables (Some _) w = grows_same gates

pub step_words_within : (gates : List Gate) (words : List (List ℕ)) (variables : List Variable) (o : Option Line) → AllWithin (length gates) words → AllWithin (length (step_gates gates words variables o)) (step_words gates words variables o)
step_words_within gates words variables None w = w
step_words_within gates words variables (Some (line.Step i)) w = step_within gates _ words _ variables i w refl refl
step_words_within gates words variables (Some _) w = w

pub condition_made : (gates : List Gate) (words : List (List ℕ)) (variables : List Variable) (o : Option Line) → AllWithin (length gates) words → LitMade gates (step_condition gates words variables o)
condition_made gates words variables None w = record { grows = grows_same gates; lit = omega arith }
condition_made gates words variables (Some (line.Step i)) w =
    exact_made gates i.op i.ty (operand_ty variables i.args 0) i.amount (operand_lits words i.args 0) (operand_lits words i.args 1) (operand_lits words i.args 2)
    (operand_within _ words i.args 0 w) (operand_within _ words i.args 1 w) (operand_within _ words i.args 2 w)
condition_made gates words variables (Some _) w = record { grows = grows_same gates; lit = omega arith }

-- range terms
pub record TermMade (old : List Gate) (s : Typed) : Type 0 where
  pub grows : Grows old s.gates
  pub word : AreWithin (length s.gates) s.word

abbrev TermGrows : List (List ℕ) → (List Gate → Typed) → Type 0
TermGrows words f = (gates : List Gate) → AllWithin (length gates) words → TermMade gates (f gates)

combined_made : (gates : List Gate) (o : RngOp) (a b : List ℕ) → AreWithin (length gates) a → AreWithin (length gates) b → WordMade gates (combined_lits gates o a b)
combined_made gates rng.Add a b h i = plain_made (adder_made gates a b 1 h i (omega arith))
combined_made gates rng.Sub a b h i = plain_made (difference_made gates a b 1 h i (omega arith))
combined_made gates rng.Mul a b h i = product_made gates a b h i
combined_made gates rng.And a b h i = and_made gates a b h i
combined_made gates rng.Or a b h i = or_made gates a b h i
combined_made gates rng.Xor a b h i = xor_made gates a b h i

leaf_grows : (words : List (List ℕ)) (types : List Ty) (atom : Atom) → TermGrows words (λ gates. typed gates (atom_lits words atom) (atom_ty types atom))
leaf_grows words types (Var v) gates w = record { grows = grows_same gates; word = w.each v }
leaf_grows words types (Lit T n) gates w = record { grows = grows_same gates; word = constant_within _ T.width n }

neg_grows : (words : List (List ℕ)) (f : List Gate → Typed) → TermGrows words f → TermGrows words (λ gates. made_typed (negation (f gates).gates (f gates).word) (f gates).ty)
neg_grows words f g gates w =
    let x = g gates w in
    let n = negation_made (f gates).gates (f gates).word x.word in
    record { grows = grows_trans x.grows n.grows; word = n.word }

flip_grows : (words : List (List ℕ)) (f : List Gate → Typed) → TermGrows words f → TermGrows words (λ gates. typed (f gates).gates (map neg (f gates).word) (f gates).ty)
flip_grows words f g gates w = let x = g gates w in record { grows = x.grows; word = within_negated _ _ x.word }

bin_grows : (words : List (List ℕ)) (o : RngOp) (f g : List Gate → Typed) → TermGrows words f → TermGrows words g → TermGrows words (λ gates. both_terms o g (f gates))
bin_grows words o f g p q gates w =
    let x = p gates w in
    let y = q (f gates).gates (all_within_grown _ _ words (grows_length x.grows) w) in
    let c = combined_made (g (f gates).gates).gates o (f gates).word (g (f gates).gates).word (within_grown _ _ _ (grows_length y.grows) x.word) y.word in
    record { grows = grows_trans x.grows (grows_trans y.grows c.grows); word = c.word }

cast_grows : (words : List (List ℕ)) (T : Ty) (f : List Gate → Typed) → TermGrows words f → TermGrows words (λ gates. typed (f gates).gates (extended (f gates).ty.signed T.width (f gates).word) T)
cast_grows words T f g gates w = let x = g gates w in record { grows = x.grows; word = within_extended _ T.width (f gates).ty.signed _ x.word }

abbrev TermGood : List (List ℕ) → List Ty → RngTerm → Type 0
TermGood words types t = TermGrows words (term_lits words types t)

abbrev TermPair : List (List ℕ) → List Ty → Type 0
TermPair words types = (t : RngTerm) × TermGood words types t

term_to : (words : List (List ℕ)) (types : List Ty) (y : RngTerm-F RngTerm) (f : List Gate → Typed) → term_lits words types (roll-RngTerm y) ≡ f → TermGrows words f → TermGood words types (roll-RngTerm y)
term_to words types y f e g gates w = subst (λ k. TermMade gates (k gates)) (sym e) (g gates w)

term_layer_good : (words : List (List ℕ)) (types : List Ty) (y : RngTerm-F (TermPair words types)) → TermGood words types (roll-RngTerm (map-RngTerm (TermPair words types) RngTerm (λ e. e.0) y))
term_layer_good words types (term_layer.Leaf atom) =
    term_to words types (term_layer.Leaf atom) _ (fold-roll-RngTerm (List Gate → Typed) (term_step words types) (term_layer.Leaf atom)) (leaf_grows words types atom)
term_layer_good words types (term_layer.Neg a) =
    term_to words types (term_layer.Neg a.0) _ (fold-roll-RngTerm (List Gate → Typed) (term_step words types) (term_layer.Neg a.0)) (neg_grows words _ a.1)
term_layer_good words types (term_layer.Flip a) =
    term_to words types (term_layer.Flip a.0) _ (fold-roll-RngTerm (List Gate → Typed) (term_step words types) (term_layer.Flip a.0)) (flip_grows words _ a.1)
term_layer_good words types (term_layer.Bin o a b) =
    term_to words types (term_layer.Bin o a.0 b.0) _ (fold-roll-RngTerm (List Gate → Typed) (term_step words types) (term_layer.Bin o a.0 b.0)) (bin_grows words o _ _ a.1 b.1)
term_layer_good words types (term_layer.Cast T a) =
    term_to words types (term_layer.Cast T a.0) _ (fold-roll-RngTerm (List Gate → Typed) (term_step words types) (term_layer.Cast T a.0)) (cast_grows words T _ a.1)

term_grows : (words : List (List ℕ)) (types : List Ty) (t : RngTerm) → TermGood words types t
term_grows words types = ind-RngTerm (TermGood words types) (λ x y is. subst (λ z. TermGood words types (roll-RngTerm z)) is (term_layer_good words types y))

-- range predicates
abbrev PredGrows : List (List ℕ) → (List Gate → Wire) → Type 0
PredGrows words f = (gates : List Gate) → AllWithin (length gates) words → LitMade gates (f gates)

compared_made : (gates : List Gate) (o : CmpOp) (signed : Bool) (a b : List ℕ) → AreWithin (length gates) a → AreWithin (length gates) b → LitMade gates (compared_lits gates o signed a b)
compared_made gates cmp.Eq signed a b h i = equal_made gates a b h i
compared_made gates cmp.Ne signed a b h i = negated_made (equal_made gates a b h i)
compared_made gates cmp.Lt signed a b h i = less_made gates signed a b h i
compared_made gates cmp.Le signed a b h i = negated_made (less_made gates signed b a i h)
compared_made gates cmp.Gt signed a b h i = less_made gates signed b a i h
compared_made gates cmp.Ge signed a b h i = negated_made (less_made gates signed a b h i)

sides_grow : (words : List (List ℕ)) (types : List Ty) (o : CmpOp) (t u : RngTerm) → PredGrows words (λ gates. both_sides o (term_lits words types u) (term_lits words types t gates))
sides_grow words types o t u gates w =
    let first = term_lits words types t gates in
    let x = term_grows words types t gates w in
    let y = term_grows words types u first.gates (all_within_grown _ _ words (grows_length x.grows) w) in
    let second = term_lits words types u first.gates in
    let c = compared_made second.gates o first.ty.signed first.word second.word (within_grown _ _ _ (grows_length y.grows) x.word) y.word in
    record { grows = grows_trans x.grows (grows_trans y.grows c.grows); lit = c.lit }

pub record TwoMade (old : List Gate) (p q : Wire) : Type 0 where
  pub grows : Grows old q.gates
  pub first : p.lit / 2 ≤ length q.gates
  pub second : q.lit / 2 ≤ length q.gates

two_made : (words : List (List ℕ)) (f g : List Gate → Wire) → PredGrows words f → PredGrows words g → (gates : List Gate) → AllWithin (length gates) words → TwoMade gates (f gates) (g (f gates).gates)
two_made words f g p q gates w =
    let x = p gates w in
    let y = q (f gates).gates (all_within_grown _ _ words (grows_length x.grows) w) in
    let a = x.lit in
    let longer = grows_length y.grows in
    record { grows = grows_trans x.grows y.grows; first = omega (arith, a, longer); second = y.lit }

joined_made : {old : List Gate} (gates : List Gate) (l m : ℕ) → Grows old gates → l / 2 ≤ length gates → m / 2 ≤ length gates → LitMade old (and_lit gates l m)
joined_made gates l m g a b = record {
  grows = grows_trans g (grows_push gates (gate.And l m) refl (omega (arith, a), omega (arith, b)));
  lit = omega (arith, length-append gates (gate.And l m ∷ []));
}

both_grow : (words : List (List ℕ)) (f g : List Gate → Wire) → PredGrows words f → PredGrows words g → PredGrows words (λ gates. and_lits g (f gates))
both_grow words f g p q gates w = let x = two_made words f g p q gates w in joined_made _ _ _ x.grows x.first x.second

either_grow : (words : List (List ℕ)) (f g : List Gate → Wire) → PredGrows words f → PredGrows words g → PredGrows words (λ gates. or_lits g (f gates))
either_grow words f g p q gates w = let x = two_made words f g p q gates w in negated_made (joined_made _ _ _ x.grows (half_neg _ _ x.first) (half_neg _ _ x.second))

abbrev PredGood : List (List ℕ) → List Ty → RngPred → Type 0
PredGood words types p = PredGrows words (pred_lit words types p)

abbrev PredPair : List (List ℕ) → List Ty → Type 0
PredPair words types = (p : RngPred) × PredGood words types p

pred_to : (words : List (List ℕ)) (types : List Ty) (y : RngPred-F RngPred) (f : List Gate → Wire) → pred_lit words types (roll-RngPred y) ≡ f → PredGrows words f → PredGood words types (roll-RngPred y)
pred_to words types y f e g gates w = subst (λ k. LitMade gates (k gates)) (sym e) (g gates w)

pred_layer_good : (words : List (List ℕ)) (types : List Ty) (y : RngPred-F (PredPair words types)) → PredGood words types (roll-RngPred (map-RngPred (PredPair words types) RngPred (λ e. e.0) y))
pred_layer_good words types pred_layer.True =
    pred_to words types pred_layer.True _ (fold-roll-RngPred (List Gate → Wire) (pred_step words types) pred_layer.True) (λ gates w. record { grows = grows_same gates; lit = omega arith })
pred_layer_good words types pred_layer.False =
    pred_to words types pred_layer.False _ (fold-roll-RngPred (List Gate → Wire) (pred_step words types) pred_layer.False) (λ gates w. record { grows = grows_same gates; lit = omega arith })
pred_layer_good words types (pred_layer.Cmp o t u) =
    pred_to words types (pred_layer.Cmp o t u) _ (fold-roll-RngPred (List Gate → Wire) (pred_step words types) (pred_layer.Cmp o t u)) (sides_grow words types o t u)
pred_layer_good words types (pred_layer.Not p) =
    pred_to words types (pred_layer.Not p.0) _ (fold-roll-RngPred (List Gate → Wire) (pred_step words types) (pred_layer.Not p.0)) (λ gates w. negated_made (p.1 gates w))
pred_layer_good words types (pred_layer.Both p q) =
    pred_to words types (pred_layer.Both p.0 q.0) _ (fold-roll-RngPred (List Gate → Wire) (pred_step words types) (pred_layer.Both p.0 q.0)) (both_grow words _ _ p.1 q.1)
pred_layer_good words types (pred_layer.Either p q) =
    pred_to words types (pred_layer.Either p.0 q.0) _ (fold-roll-RngPred (List Gate → Wire) (pred_step words types) (pred_layer.Either p.0 q.0)) (either_grow words _ _ p.1 q.1)

pub pred_made : (words : List (List ℕ)) (types : List Ty) (p : RngPred) → PredGood words types p
pred_made words types = ind-RngPred (PredGood words types) (λ x y is. subst (λ z. PredGood words types (roll-RngPred z)) is (pred_layer_good words types y))
