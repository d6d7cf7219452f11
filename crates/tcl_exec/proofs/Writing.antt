-- What is written for one result and for two.
use Rattle.std.proofs.Common.{◌≡◌, ℕ, refl, ℤ, List, [], ◌∷◌}
use Rattle.std.specs.List.{slice_get}
use Rattle.tcl_lang.specs.Values.{write_values}
use Rattle.tcl_exec.specs.Written.{set_named}

pub write_one : (values : List ℤ) (outs : List ℕ) (n : ℤ) → write_values values outs (n ∷ []) ≡ set_named values (slice_get outs 0) n
write_one values [] n = refl
write_one values (v ∷ []) n = refl
write_one values (v ∷ w ∷ vs) n = refl

pub write_two : (values : List ℤ) (outs : List ℕ) (m n : ℤ) → write_values values outs (m ∷ n ∷ []) ≡ set_named (set_named values (slice_get outs 0) m) (slice_get outs 1) n
write_two values [] m n = refl
write_two values (v ∷ []) m n = refl
write_two values (v ∷ w ∷ []) m n = refl
write_two values (v ∷ w ∷ x ∷ vs) m n = refl
