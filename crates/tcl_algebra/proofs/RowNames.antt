-- The term of a row has only variables of small numbers where its operands and the first result have.
use Rattle.std.proofs.Common.{◌≡◌, ℕ, ◌^◌, ◌-◌, refl, sym, ◌∙◌, ap, ℤ, pos, negsuc, Bool, true, false, if◌then◌else◌, nat_eq, nat_lt, List, ◌++◌, Some, None, IfSome}
use Rattle.std.specs.List.{list_all}
use Rattle.std.proofs.lemmas.Bool.{and_from}
use Rattle.tcl_lang.specs.declared.ty.Ty.{Ty}
use Rattle.tcl_lang.specs.declared.instr.Op.{Op}
use Rattle.tcl_lang.specs.declared.instr.Op.TheVariants.{Mov, Add, Adds, Adc, Adcs, Sub, Subb, Sbb, Sbbs, Mul, Mull, Mulj, Shl, Split, Join, Cast, Vpc, Cmov, And, Or, Xor, Not, Nondet}
use Rattle.tcl_lang.specs.declared.term.Term.{Term, fold-roll-Term}
use Rattle.tcl_lang.specs.declared.term.Term as plain_term
use Rattle.tcl_lang.specs.declared.term.Term.TheViews as term
use Rattle.tcl_lang.specs.declared.term.Term.TheOpen as layer
use Rattle.tcl_lang.specs.declared.term.Term.TheVariants as term_roll
use Rattle.tcl_lang.specs.Names.{term_names, term_names_step}
use Rattle.tcl_term_poly.specs.TermPolynomial.{are_narrow}
use Rattle.tcl_algebra.specs.Row.{on_bit, shifted, flipped_term, row_term}
use Rattle.tcl_term_poly.proofs.TermValues.{both}

abbrev IsNarrow : Term → Type 0
IsNarrow t = are_narrow t ≡ true

pub narrow_var : (v : ℕ) → nat_lt v (2 ^ 32) ≡ true → IsNarrow (plain_term.Var v)
narrow_var v e =
    ap (list_all (λ v. nat_lt v (2 ^ 32))) (ap term_names (sym (term_roll.rolls-Var v)) ∙ fold-roll-Term (List ℕ) term_names_step (layer.Var v))
    ∙ and_from _ _ e refl

pub narrow_num : (n : ℤ) → IsNarrow (plain_term.Num n)
narrow_num n = ap (list_all (λ v. nat_lt v (2 ^ 32))) (ap term_names (sym (term_roll.rolls-Num n)) ∙ fold-roll-Term (List ℕ) term_names_step (layer.Num n))

two : (t a b : Term) → term_names t ≡ term_names a ++ term_names b → IsNarrow a → IsNarrow b → IsNarrow t
two t a b e ha hb =
    ap (list_all (λ v. nat_lt v (2 ^ 32))) e ∙ both (λ v. nat_lt v (2 ^ 32)) (term_names a) (term_names b) ∙ and_from _ _ ha hb

add : (a b : Term) → IsNarrow a → IsNarrow b → IsNarrow (term.Add a b)
add a b = two (term.Add a b) a b (ap term_names (sym (term_roll.rolls-Add a b)) ∙ fold-roll-Term (List ℕ) term_names_step (layer.Add a b))

sub : (a b : Term) → IsNarrow a → IsNarrow b → IsNarrow (term.Sub a b)
sub a b = two (term.Sub a b) a b (ap term_names (sym (term_roll.rolls-Sub a b)) ∙ fold-roll-Term (List ℕ) term_names_step (layer.Sub a b))

mul : (a b : Term) → IsNarrow a → IsNarrow b → IsNarrow (term.Mul a b)
mul a b = two (term.Mul a b) a b (ap term_names (sym (term_roll.rolls-Mul a b)) ∙ fold-roll-Term (List ℕ) term_names_step (layer.Mul a b))

shift : (k : ℕ) (a : Term) → IsNarrow a → IsNarrow (shifted k a)
shift k a = mul (plain_term.Num (pos (2 ^ k))) a (narrow_num (pos (2 ^ k)))

bit : (T : Ty) (t : Term) → IsNarrow t → IfSome (on_bit T t) IsNarrow
bit T t h = at (nat_eq T.width 1)
  where
    at : (b : Bool) → IfSome (if b then Some t else None) IsNarrow
    at true = h
    at false = tt

flip : (s : Bool) (w : ℕ) (a : Term) → IsNarrow a → IsNarrow (flipped_term (record { signed = s; width = w }) a)
flip true w a = sub (plain_term.Num (negsuc 0)) a (narrow_num (negsuc 0))
flip false w a = sub (plain_term.Num (pos (2 ^ w - 1))) a (narrow_num (pos (2 ^ w - 1)))

pub row_narrow : (op : Op) (T : Ty) (n : ℕ) (a b c h : Term) → IsNarrow a → IsNarrow b → IsNarrow c → IsNarrow h → IfSome (row_term op T n a b c h) IsNarrow
row_narrow Mov T n a b c h p q r s = p
row_narrow Add T n a b c h p q r s = add a b p q
row_narrow Adds T n a b c h p q r s = sub (term.Add a b) (shifted T.width h) (add a b p q) (shift T.width h s)
row_narrow Adc T n a b c h p q r s = add (term.Add a b) c (add a b p q) r
row_narrow Adcs T n a b c h p q r s = sub (term.Add (term.Add a b) c) (shifted T.width h) (add (term.Add a b) c (add a b p q) r) (shift T.width h s)
row_narrow Sub T n a b c h p q r s = sub a b p q
row_narrow Subb T n a b c h p q r s = add (term.Sub a b) (shifted T.width h) (sub a b p q) (shift T.width h s)
row_narrow Sbb T n a b c h p q r s = sub (term.Sub a b) c (sub a b p q) r
row_narrow Sbbs T n a b c h p q r s = add (term.Sub (term.Sub a b) c) (shifted T.width h) (sub (term.Sub a b) c (sub a b p q) r) (shift T.width h s)
row_narrow Mul T n a b c h p q r s = mul a b p q
row_narrow Mull T n a b c h p q r s = sub (term.Mul a b) (shifted T.width h) (mul a b p q) (shift T.width h s)
row_narrow Mulj T n a b c h p q r s = mul a b p q
row_narrow Shl T n a b c h p q r s = shift n a p
row_narrow Split T n a b c h p q r s = sub a (shifted n h) p (shift n h s)
row_narrow Join T n a b c h p q r s = add (shifted T.width a) b (shift T.width a p) q
row_narrow Cast T n a b c h p q r s = p
row_narrow Vpc T n a b c h p q r s = p
row_narrow Cmov T n a b c h p q r s = sub (term.Add (term.Mul a b) c) (term.Mul a c) (add (term.Mul a b) c (mul a b p q) r) (mul a c p r)
row_narrow And T n a b c h p q r s = bit T (term.Mul a b) (mul a b p q)
row_narrow Or T n a b c h p q r s = bit T (term.Sub (term.Add a b) (term.Mul a b)) (sub (term.Add a b) (term.Mul a b) (add a b p q) (mul a b p q))
row_narrow Xor T n a b c h p q r s =
    bit T (term.Sub (term.Add a b) (shifted 1 (term.Mul a b))) (sub (term.Add a b) (shifted 1 (term.Mul a b)) (add a b p q) (shift 1 (term.Mul a b) (mul a b p q)))
row_narrow Not T n a b c h p q r s = flip T.signed T.width a p
row_narrow Nondet T n a b c h p q r s = tt
