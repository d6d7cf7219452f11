-- The polynomial of a term has names for its unknowns where the term's variables have small numbers; so has that of each row.
use Rattle.std.proofs.Common.{◌≡◌, ℕ, ◌-◌, ◌^◌, ◌<◌, refl, sym, ◌∙◌, ap, subst, arith, ℤ, pos, negsuc, Bool, true, false, if◌then◌else◌, nat_lt, nat_eq, List, [], ◌∷◌, ◌++◌, Some, None, IfSome}
use Rattle.std.specs.List.{list_all}
use Rattle.std.proofs.lemmas.Bool.{and_parts, and_from, lt-ltb}
use Rattle.std.proofs.lemmas.Bool.Decides.{nat_tests}
use Rattle.tcl_lang.specs.declared.ty.Ty.{Ty}
use Rattle.tcl_lang.specs.declared.instr.Op.{Op}
use Rattle.tcl_lang.specs.declared.instr.Op.TheVariants.{Mov, Add, Adds, Adc, Adcs, Sub, Subb, Sbb, Sbbs, Mul, Mull, Mulj, Shl, Split, Join, Cast, Vpc, Cmov, And, Or, Xor, Not, Nondet}
use Rattle.tcl_lang.specs.declared.term.Term.{Term, Term-F, fold-roll-Term, roll-Term, map-Term, ind-Term}
use Rattle.tcl_lang.specs.declared.term.Term as plain_term
use Rattle.tcl_lang.specs.declared.term.Term.TheViews as term
use Rattle.tcl_lang.specs.declared.term.Term.TheOpen as layer
use Rattle.tcl_lang.specs.declared.term.Term.TheVariants as rolled
use Rattle.tcl_lang.specs.Names.{term_names, term_names_step}
use Rattle.tcl_poly.specs.Unknown.{variable_key}
use Rattle.tcl_poly.specs.Polynomial.{Polynomial, sum_of, scaled, product_of, number_of, raised_by, power_of}
use Rattle.tcl_term_poly.specs.TermPolynomial.{difference_of, variable_of, polynomial_step, polynomial_of, quotient_key, less_multiple, are_narrow}
use Rattle.tcl_term_poly.proofs.TermValues.{parts}
use Rattle.tcl_term_poly.proofs.TermArms.{made_add, made_sub, made_mul}
use Rattle.tcl_algebra.specs.Row.{on_bit, shifted, flipped_term, row_term}
use Rattle.tcl_remainder.specs.Names.{has_name}
use Rattle.tcl_plain.specs.Named.{AreNamed}
use Rattle.tcl_plain.proofs.Naming.{number_named, power_named, sum_named, scaled_named, product_named, raised_named}

-- ---- unknowns

pub variable_named : (v : ℕ) → nat_lt v (2 ^ 32) ≡ true → has_name (variable_key v) ≡ true
variable_named v e =
    let narrow : v < 2 ^ 32 = grind (arith, nat_tests) in
    and_from (nat_lt 0 (variable_key v)) (nat_lt (variable_key v) (2 ^ 33)) (lt-ltb 0 (variable_key v) (omega arith)) (lt-ltb (variable_key v) (2 ^ 33) (omega (arith, narrow)))

quotient_named : (place : ℕ) → place < 2 ^ 32 - 1 → has_name (quotient_key place) ≡ true
quotient_named place h =
    and_from (nat_lt 0 (quotient_key place)) (nat_lt (quotient_key place) (2 ^ 33)) (lt-ltb 0 (quotient_key place) (omega arith)) (lt-ltb (quotient_key place) (2 ^ 33) (omega (arith, h)))

-- ---- differences

pub difference_named : (r : ℤ → ℤ) (p q : Polynomial) → AreNamed p → AreNamed q → AreNamed (difference_of r p q)
difference_named r p q h i = sum_named r p (scaled r ([], negsuc 0) q) h (scaled_named r ([], negsuc 0) q tt i)

pub multiple_named : (r : ℤ → ℤ) (p : Polynomial) (m : ℤ) (place : ℕ) → place < 2 ^ 32 - 1 → AreNamed p → AreNamed (less_multiple r p m place)
multiple_named r p m place l h =
    let u = power_of r (quotient_key place) 1 in
    difference_named r p (scaled r ([], r m) u) h (scaled_named r ([], r m) u tt (power_named r (quotient_key place) 1 (quotient_named place l)))

-- ---- terms

abbrev IsNamed : (ℤ → ℤ) → Term → Type 0
IsNamed r t = are_narrow t ≡ true → AreNamed (polynomial_of r t)

abbrev NamedPart : (ℤ → ℤ) → Type 0
NamedPart r = (t : Term) × IsNamed r t

at_layer : (r : ℤ → ℤ) (y : Term-F Term) (p : Polynomial) (names : List ℕ) → polynomial_of r (roll-Term y) ≡ p → term_names (roll-Term y) ≡ names → (list_all (λ v. nat_lt v (2 ^ 32)) names ≡ true → AreNamed p) → IsNamed r (roll-Term y)
at_layer r y p names made are h narrow = subst AreNamed (sym made) (h (sym (ap (list_all (λ v. nat_lt v (2 ^ 32))) are) ∙ narrow))

named_step : (r : ℤ → ℤ) (y : Term-F (NamedPart r)) → IsNamed r (roll-Term (map-Term (NamedPart r) Term (λ e. e.0) y))
named_step r (layer.Var v) =
    at_layer r (layer.Var v) (variable_of r v) (v ∷ []) (fold-roll-Term Polynomial (polynomial_step r) (layer.Var v)) (fold-roll-Term (List ℕ) term_names_step (layer.Var v))
    (λ e. power_named r (variable_key v) 1 (variable_named v (and_parts (nat_lt v (2 ^ 32)) true e).0))
named_step r (layer.Num n) =
    at_layer r (layer.Num n) (number_of r n) [] (fold-roll-Term Polynomial (polynomial_step r) (layer.Num n)) (fold-roll-Term (List ℕ) term_names_step (layer.Num n))
    (λ e. number_named r n)
named_step r (layer.Neg t) =
    at_layer r (layer.Neg t.0) (scaled r ([], negsuc 0) (polynomial_of r t.0)) (term_names t.0) (fold-roll-Term Polynomial (polynomial_step r) (layer.Neg t.0)) (fold-roll-Term (List ℕ) term_names_step (layer.Neg t.0))
    (λ e. scaled_named r ([], negsuc 0) (polynomial_of r t.0) tt (t.1 e))
named_step r (layer.Add t u) =
    at_layer r (layer.Add t.0 u.0) (sum_of r (polynomial_of r t.0) (polynomial_of r u.0)) (term_names t.0 ++ term_names u.0) (fold-roll-Term Polynomial (polynomial_step r) (layer.Add t.0 u.0)) (fold-roll-Term (List ℕ) term_names_step (layer.Add t.0 u.0))
    (λ e. let both = parts (term_names t.0) (term_names u.0) e in sum_named r (polynomial_of r t.0) (polynomial_of r u.0) (t.1 both.0) (u.1 both.1))
named_step r (layer.Sub t u) =
    at_layer r (layer.Sub t.0 u.0) (difference_of r (polynomial_of r t.0) (polynomial_of r u.0)) (term_names t.0 ++ term_names u.0) (fold-roll-Term Polynomial (polynomial_step r) (layer.Sub t.0 u.0)) (fold-roll-Term (List ℕ) term_names_step (layer.Sub t.0 u.0))
    (λ e. let both = parts (term_names t.0) (term_names u.0) e in difference_named r (polynomial_of r t.0) (polynomial_of r u.0) (t.1 both.0) (u.1 both.1))
named_step r (layer.Mul t u) =
    at_layer r (layer.Mul t.0 u.0) (product_of r (polynomial_of r t.0) (polynomial_of r u.0)) (term_names t.0 ++ term_names u.0) (fold-roll-Term Polynomial (polynomial_step r) (layer.Mul t.0 u.0)) (fold-roll-Term (List ℕ) term_names_step (layer.Mul t.0 u.0))
    (λ e. let both = parts (term_names t.0) (term_names u.0) e in product_named r (polynomial_of r t.0) (polynomial_of r u.0) (t.1 both.0) (u.1 both.1))
named_step r (layer.Pow t k) =
    at_layer r (layer.Pow t.0 k) (raised_by r (polynomial_of r t.0) k) (term_names t.0) (fold-roll-Term Polynomial (polynomial_step r) (layer.Pow t.0 k)) (fold-roll-Term (List ℕ) term_names_step (layer.Pow t.0 k))
    (λ e. raised_named r (polynomial_of r t.0) k (t.1 e))

pub term_named : (r : ℤ → ℤ) (t : Term) → are_narrow t ≡ true → AreNamed (polynomial_of r t)
term_named r = ind-Term (IsNamed r) (λ x y is. subst (λ z. IsNamed r (roll-Term z)) is (named_step r y))

-- ---- rows

abbrev pub HasNamed : (ℤ → ℤ) → Term → Type 0
HasNamed r t = AreNamed (polynomial_of r t)

pub var : (r : ℤ → ℤ) (v : ℕ) → nat_lt v (2 ^ 32) ≡ true → HasNamed r (plain_term.Var v)
var r v e =
    subst AreNamed (sym (ap (polynomial_of r) (sym (rolled.rolls-Var v)) ∙ fold-roll-Term Polynomial (polynomial_step r) (layer.Var v)))
    (power_named r (variable_key v) 1 (variable_named v e))

pub num : (r : ℤ → ℤ) (n : ℤ) → HasNamed r (plain_term.Num n)
num r n =
    subst AreNamed (sym (ap (polynomial_of r) (sym (rolled.rolls-Num n)) ∙ fold-roll-Term Polynomial (polynomial_step r) (layer.Num n))) (number_named r n)

add : (r : ℤ → ℤ) (a b : Term) → HasNamed r a → HasNamed r b → HasNamed r (term.Add a b)
add r a b h i = subst AreNamed (sym (made_add r (term.Add a b) a b refl)) (sum_named r (polynomial_of r a) (polynomial_of r b) h i)

sub : (r : ℤ → ℤ) (a b : Term) → HasNamed r a → HasNamed r b → HasNamed r (term.Sub a b)
sub r a b h i = subst AreNamed (sym (made_sub r (term.Sub a b) a b refl)) (difference_named r (polynomial_of r a) (polynomial_of r b) h i)

mul : (r : ℤ → ℤ) (a b : Term) → HasNamed r a → HasNamed r b → HasNamed r (term.Mul a b)
mul r a b h i = subst AreNamed (sym (made_mul r (term.Mul a b) a b refl)) (product_named r (polynomial_of r a) (polynomial_of r b) h i)

shift : (r : ℤ → ℤ) (k : ℕ) (a : Term) → HasNamed r a → HasNamed r (shifted k a)
shift r k a = mul r (plain_term.Num (pos (2 ^ k))) a (num r (pos (2 ^ k)))

bit : (r : ℤ → ℤ) (T : Ty) (t : Term) → HasNamed r t → IfSome (on_bit T t) (HasNamed r)
bit r T t h = at (nat_eq T.width 1)
  where
    at : (b : Bool) → IfSome (if b then Some t else None) (HasNamed r)
    at true = h
    at false = tt

flip : (r : ℤ → ℤ) (s : Bool) (w : ℕ) (a : Term) → HasNamed r a → HasNamed r (flipped_term (record { signed = s; width = w }) a)
flip r true w a = sub r (plain_term.Num (negsuc 0)) a (num r (negsuc 0))
flip r false w a = sub r (plain_term.Num (pos (2 ^ w - 1))) a (num r (pos (2 ^ w - 1)))

pub row_named : (r : ℤ → ℤ) (op : Op) (T : Ty) (n : ℕ) (a b c h : Term) → HasNamed r a → HasNamed r b → HasNamed r c → HasNamed r h → IfSome (row_term op T n a b c h) (HasNamed r)
row_named r Mov T n a b c h i j k l = i
row_named r Add T n a b c h i j k l = add r a b i j
row_named r Adds T n a b c h i j k l = sub r (term.Add a b) (shifted T.width h) (add r a b i j) (shift r T.width h l)
row_named r Adc T n a b c h i j k l = add r (term.Add a b) c (add r a b i j) k
row_named r Adcs T n a b c h i j k l = sub r (term.Add (term.Add a b) c) (shifted T.width h) (add r (term.Add a b) c (add r a b i j) k) (shift r T.width h l)
row_named r Sub T n a b c h i j k l = sub r a b i j
row_named r Subb T n a b c h i j k l = add r (term.Sub a b) (shifted T.width h) (sub r a b i j) (shift r T.width h l)
row_named r Sbb T n a b c h i j k l = sub r (term.Sub a b) c (sub r a b i j) k
row_named r Sbbs T n a b c h i j k l = add r (term.Sub (term.Sub a b) c) (shifted T.width h) (sub r (term.Sub a b) c (sub r a b i j) k) (shift r T.width h l)
row_named r Mul T n a b c h i j k l = mul r a b i j
row_named r Mull T n a b c h i j k l = sub r (term.Mul a b) (shifted T.width h) (mul r a b i j) (shift r T.width h l)
row_named r Mulj T n a b c h i j k l = mul r a b i j
row_named r Shl T n a b c h i j k l = shift r n a i
row_named r Split T n a b c h i j k l = sub r a (shifted n h) i (shift r n h l)
row_named r Join T n a b c h i j k l = add r (shifted T.width a) b (shift r T.width a i) j
row_named r Cast T n a b c h i j k l = i
row_named r Vpc T n a b c h i j k l = i
row_named r Cmov T n a b c h i j k l = sub r (term.Add (term.Mul a b) c) (term.Mul a c) (add r (term.Mul a b) c (mul r a b i j) k) (mul r a c i k)
row_named r And T n a b c h i j k l = bit r T (term.Mul a b) (mul r a b i j)
row_named r Or T n a b c h i j k l = bit r T (term.Sub (term.Add a b) (term.Mul a b)) (sub r (term.Add a b) (term.Mul a b) (add r a b i j) (mul r a b i j))
row_named r Xor T n a b c h i j k l =
    bit r T (term.Sub (term.Add a b) (shifted 1 (term.Mul a b))) (sub r (term.Add a b) (shifted 1 (term.Mul a b)) (add r a b i j) (shift r 1 (term.Mul a b) (mul r a b i j)))
row_named r Not T n a b c h i j k l = flip r T.signed T.width a i
row_named r Nondet T n a b c h i j k l = tt
