-- The bits of the gates that circuits are made of, by the functions of binary words.
use Rattle.std.proofs.Common.{◌≡◌, ℕ, Bool, true, false, not, ◌&&◌, cond, List, [], ◌∷◌, ◌++◌, refl, ◌∙◌, ap, ap₂}
use Rattle.tcl_bits.specs.Circuit.{xor_bit, major_bit, choice_bit}
use Rattle.tcl_gates.specs.Gates.{majority}
use Rattle.tcl_gates.specs.Meaning.{next_lit, lit_bit, ShowsBit}
use Rattle.tcl_gates.specs.declared.gate.Gate.{Gate}
use Rattle.tcl_gates.specs.declared.gate.Gate.TheVariants.{And, Xor, Major, Choice}
use Rattle.tcl_gates.proofs.Shown.{new_shows}

xor_is : (x y : Bool) → cond x (not y) y ≡ xor_bit x y
xor_is true y = refl
xor_is false y = refl

major_is : (x y z : Bool) → majority x y z ≡ major_bit x y z
major_is true true z = refl
major_is true false true = refl
major_is true false false = refl
major_is false true z = refl
major_is false false z = refl

choice_is : (c x y : Bool) → cond c x y ≡ choice_bit c x y
choice_is true x y = refl
choice_is false x y = refl

pub and_shows : {gs : List Gate} {free : List Bool} {a b : ℕ} {x y : Bool} → ShowsBit gs free a x → ShowsBit gs free b y → ShowsBit (gs ++ And a b ∷ []) free (next_lit gs) (x && y)
and_shows {gs} {free} {a} {b} {x} {y} s t = new_shows gs free (And a b) (x && y) refl (ap₂ (λ u v. u && v) s.value t.value)

pub xor_shows : {gs : List Gate} {free : List Bool} {a b : ℕ} {x y : Bool} → ShowsBit gs free a x → ShowsBit gs free b y → ShowsBit (gs ++ Xor a b ∷ []) free (next_lit gs) (xor_bit x y)
xor_shows {gs} {free} {a} {b} {x} {y} s t = new_shows gs free (Xor a b) (xor_bit x y) refl (ap₂ (λ u v. cond u (not v) v) s.value t.value ∙ xor_is x y)

pub major_shows : {gs : List Gate} {free : List Bool} {a b c : ℕ} {x y z : Bool} → ShowsBit gs free a x → ShowsBit gs free b y → ShowsBit gs free c z → ShowsBit (gs ++ Major a b c ∷ []) free (next_lit gs) (major_bit x y z)
major_shows {gs} {free} {a} {b} {c} {x} {y} {z} s t u =
    new_shows gs free (Major a b c) (major_bit x y z) refl (ap₂ (λ u v. majority u v (lit_bit gs free c)) s.value t.value ∙ ap (λ w. majority x y w) u.value ∙ major_is x y z)

pub choice_shows : {gs : List Gate} {free : List Bool} {c a b : ℕ} {k x y : Bool} → ShowsBit gs free c k → ShowsBit gs free a x → ShowsBit gs free b y → ShowsBit (gs ++ Choice c a b ∷ []) free (next_lit gs) (choice_bit k x y)
choice_shows {gs} {free} {c} {a} {b} {k} {x} {y} u s t =
    new_shows gs free (Choice c a b) (choice_bit k x y) refl (ap₂ (λ p q. cond (lit_bit gs free c) p q) s.value t.value ∙ ap (λ w. cond w x y) u.value ∙ choice_is k x y)
