-- The bits of variables are as many as their widths say.
use Rattle.std.proofs.Common.{◌≡◌, ℕ, zero, suc, ◌+◌, ◌-◌, ◌<◌, ◌≤◌, refl, ◌∙◌, ap, arith, List, [], ◌∷◌, length, drop, get_or}
use Rattle.std.specs.List.{slice_get, flat_map}
use Rattle.std.proofs.lemmas.List.{length-append}
use Rattle.std.proofs.lemmas.List.Concat.{flat_map-cons}
use Rattle.tcl_lang.specs.declared.variable.Variable.{Variable}
use Rattle.tcl_lang.specs.Program.{VersionedProgram}
use Rattle.tcl_goals.specs.declared.fact.Fact.{Fact}
use Rattle.tcl_goals.specs.declared.lemma.Numbered.{Numbered}
use Rattle.tcl_goals.specs.Free.{width_in, bits_down, bits_of, free_variables, free_bits}
use Rattle.tcl_enum.specs.Patterns.{bit_count}

down_count : (v w : ℕ) → length (bits_down v w) ≡ w
unfolding bits_down
down_count v zero = refl
down_count v (suc w) = ap suc (down_count v w)

pub bits_counted : (variables : List Variable) (vs : List ℕ) → length (flat_map (bits_of variables) vs) ≡ bit_count variables vs
unfolding bit_count
bits_counted variables [] = refl
bits_counted variables (v ∷ vs) =
    ap length (flat_map-cons (bits_of variables) v vs)
    ∙ length-append (bits_of variables v) (flat_map (bits_of variables) vs)
    ∙ ap (λ n. n + length (flat_map (bits_of variables) vs)) (down_count v (width_in (slice_get variables v)))
    ∙ ap (λ n. width_in (slice_get variables v) + n) (bits_counted variables vs)

pub free_count : (p : VersionedProgram) (lemmas : List Numbered) (fact : Fact) → length (free_bits p lemmas fact) ≡ bit_count p.variables (free_variables p lemmas fact)
unfolding free_bits
free_count p lemmas fact = bits_counted p.variables (free_variables p lemmas fact)

-- fewer variables have no more bits
pub fewer_bits : (variables : List Variable) (vs : List ℕ) (k : ℕ) → bit_count variables (drop k vs) ≤ bit_count variables vs
unfolding bit_count
fewer_bits variables [] zero = omega arith
fewer_bits variables [] (suc k) = omega arith
fewer_bits variables (v ∷ vs) zero = omega arith
fewer_bits variables (v ∷ vs) (suc k) = omega (arith, fewer_bits variables vs k)

-- one variable before
bits_at : (variables : List Variable) (vs : List ℕ) (j d : ℕ) → j < length vs → bit_count variables (drop j vs) ≡ width_in (slice_get variables (get_or vs j d)) + bit_count variables (drop (suc j) vs)
unfolding bit_count
bits_at variables [] j d h = absurd (omega (arith, h))
bits_at variables (v ∷ vs) zero d h = refl
bits_at variables (v ∷ vs) (suc j) d h = bits_at variables vs j d (omega (arith, h))

pub bits_before : (variables : List Variable) (vs : List ℕ) (k d : ℕ) → 0 < k → k ≤ length vs → bit_count variables (drop (k - 1) vs) ≡ width_in (slice_get variables (get_or vs (k - 1) d)) + bit_count variables (drop k vs)
bits_before variables vs k d h g =
    let same : suc (k - 1) ≡ k = omega (arith, h) in
    bits_at variables vs (k - 1) d (omega (arith, h, g))
    ∙ ap (λ n. width_in (slice_get variables (get_or vs (k - 1) d)) + bit_count variables (drop n vs)) same

pub few_bits : (p : VersionedProgram) (lemmas : List Numbered) (fact : Fact) (vs : List ℕ) → vs ≡ free_variables p lemmas fact → length (free_bits p lemmas fact) ≤ 20 → bit_count p.variables vs ≤ 20
few_bits p lemmas fact vs e h = omega (arith, ap (bit_count p.variables) e, free_count p lemmas fact, h)
