-- Disjunctions that are known.
use Rattle.std.proofs.Common.{◌≡◌, Bool, true, false, ◌||◌, sym, ◌∙◌}

pub neither : (a b : Bool) → a ≡ false → b ≡ false → (a || b) ≡ false
neither true b h i = h
neither false b h i = i

pub first_is : (a b : Bool) → a ≡ true → (a || b) ≡ true
first_is true b h = h
first_is false b h = absurd (clash h) where
  clash : false ≡ true → ⊥
  clash z = cc

pub true_not_false : (b : Bool) → b ≡ true → b ≡ false → ⊥
true_not_false b h i = clash (sym h ∙ i) where
  clash : true ≡ false → ⊥
  clash z = cc

pub never : false ≡ true → ⊥
never e = cc
