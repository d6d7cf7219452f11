-- What the walk finds, and what it ends with.
use Rattle.std.proofs.Common.{◌≡◌, ℕ, ◌^◌, ◌<◌, refl, sym, ◌∙◌, ap, ℤ, Bool, true, false, cond, List, length, Some, None}
use Rattle.std.specs.Prelude.{find}
use Rattle.tcl_lang.specs.Program.{VersionedProgram}
use Rattle.tcl_lang.specs.Values.{AreValues}
use Rattle.tcl_lang.specs.Form.{IsWellFormed}
use Rattle.tcl_goals.specs.declared.fact.Fact.{Fact}
use Rattle.tcl_goals.specs.declared.lemma.Numbered.{Numbered}
use Rattle.tcl_goals.specs.Numbers.{numbers_below}
use Rattle.tcl_goals.specs.Free.{free_variables, free_bits}
use Rattle.tcl_goals.specs.Order.{InOrder}
use Rattle.tcl_enum.specs.declared.ended.Ended.{Ended}
use Rattle.tcl_enum.specs.declared.ended.Ended.TheVariants.{All, Fails, Wide, Memory}
use Rattle.tcl_enum.specs.NarrowFact.{is_narrow_fact}
use Rattle.tcl_enum.specs.Patterns.{values_numbered, given, recomputed_all, assignment_count}
use Rattle.tcl_enum.specs.Enumeration.{is_denied, is_denied_at, first_denial, ended_by, ended_of, IsEnd}
use Rattle.tcl_enum.proofs.FirstDenial.{found_first}
use Rattle.tcl_enum.proofs.Denials.{denied_at}

pub first_is : (p : VersionedProgram) (lemmas : List Numbered) (fact : Fact) → first_denial p lemmas fact ≡ find (is_denied_at p lemmas fact) (numbers_below (assignment_count p lemmas fact))
unfolding first_denial
first_is p lemmas fact = refl

-- one turn: what is found of values that were made over others
pub turn : (p : VersionedProgram) (lemmas items : List Numbered) (fact : Fact) (free : List ℕ) (n : ℕ) (old new : List ℤ) (b : Bool) → IsWellFormed p → InOrder p lemmas fact → AreValues p.variables old → free ≡ free_variables p lemmas fact → items ≡ lemmas → new ≡ recomputed_all p.lines fact.uses (given (values_numbered p.variables free n) old) → b ≡ is_denied p items fact new → b ≡ is_denied_at p lemmas fact n
turn p lemmas items fact free n old new b w order a e same is found =
    found ∙ ap (λ ms. is_denied p ms fact new) same
    ∙ ap (λ (ns : List ℤ). is_denied p lemmas fact ns) (is ∙ ap (λ vs. recomputed_all p.lines fact.uses (given (values_numbered p.variables vs n) old)) e)
    ∙ denied_at p lemmas fact n old w order a

pub first_found : (p : VersionedProgram) (lemmas : List Numbered) (fact : Fact) (n bits : ℕ) → bits ≡ length (free_bits p lemmas fact) → n < 2 ^ bits → find (is_denied_at p lemmas fact) (numbers_below n) ≡ None → is_denied_at p lemmas fact n ≡ true → Some n ≡ first_denial p lemmas fact
first_found p lemmas fact n bits e h none denied =
    sym (ap (λ k. find (is_denied_at p lemmas fact) (numbers_below (2 ^ k))) (sym e) ∙ found_first (is_denied_at p lemmas fact) n (2 ^ bits) h none denied)
    ∙ sym (first_is p lemmas fact)

pub none_found : (p : VersionedProgram) (lemmas : List Numbered) (fact : Fact) (n bits : ℕ) → bits ≡ length (free_bits p lemmas fact) → n ≡ 2 ^ bits → find (is_denied_at p lemmas fact) (numbers_below n) ≡ None → None ≡ first_denial p lemmas fact
none_found p lemmas fact n bits e same none =
    sym (ap (λ k. find (is_denied_at p lemmas fact) (numbers_below (2 ^ k))) (sym e) ∙ ap (λ k. find (is_denied_at p lemmas fact) (numbers_below k)) (sym same) ∙ none)
    ∙ sym (first_is p lemmas fact)

pub ends_wide : (p : VersionedProgram) (lemmas : List Numbered) (fact : Fact) → is_narrow_fact p fact ≡ false → Wide ≡ ended_of p lemmas fact
unfolding ended_of
ends_wide p lemmas fact e = ap (λ b. cond b (ended_by p lemmas fact (first_denial p lemmas fact)) Wide) (sym e)

pub ends_by : (p : VersionedProgram) (lemmas : List Numbered) (fact : Fact) → is_narrow_fact p fact ≡ true → ended_by p lemmas fact (first_denial p lemmas fact) ≡ ended_of p lemmas fact
unfolding ended_of
ends_by p lemmas fact e = ap (λ b. cond b (ended_by p lemmas fact (first_denial p lemmas fact)) Wide) (sym e)

pub is_end : (told ended : Ended) → ended ≡ told → IsEnd told ended
is_end told All e = e
is_end told (Fails values) e = e
is_end told Wide e = e
is_end told Memory e = tt
