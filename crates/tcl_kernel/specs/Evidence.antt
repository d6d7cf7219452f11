-- What earlier facts gain from a proof.
use Rattle.std.specs.Prelude.{◌≡◌, ◌≤◌, ℕ, ◌+◌, max, List, [], ◌∷◌, ◌++◌, Option, Some, None}
use Rattle.tcl_goals.specs.declared.fact.BitLit.{BitLit}
use Rattle.tcl_goals.specs.declared.fact.Claim.{Claim}
use Rattle.tcl_goals.specs.declared.fact.Claim.TheVariants as claim
use Rattle.tcl_goals.specs.declared.fact.Fact.{Fact}
use Rattle.tcl_goals.specs.declared.lemma.Lemma.{Lemma}
use Rattle.tcl_goals.specs.declared.lemma.Numbered.{Numbered}
use Rattle.tcl_goals.specs.declared.piece.Shown.{Shown}
use Rattle.tcl_goals.specs.declared.piece.Shown.TheVariants as shown
use Rattle.tcl_goals.specs.LemmaList.{next_number, Extends}
use Rattle.tcl_kernel.specs.declared.facts.NumberedFact.{NumberedFact}
use Rattle.tcl_kernel.specs.Shown.{ProofContent, Stands}
use Rattle.tcl_kernel.specs.Earlier.{Earlier}

-- a number above those of all these facts
unfoldable pub next_fact : List NumberedFact → ℕ
next_fact [] = 0
next_fact (f ∷ facts) = max (f.number + 1) (next_fact facts)

-- the lemma of a fact, one that is claimed under no cube, and the same under a number
abbrev pub claimed_lemma : Claim → List BitLit → Option Lemma
claimed_lemma (claim.Lemma m) [] = Some m
claimed_lemma _ _ = None

abbrev pub numbered : ℕ → Option Lemma → List Numbered
numbered n None = []
numbered n (Some m) = record { number = n; lemma = m } ∷ []

-- what was shown earlier, and a fact under a number
abbrev pub with_fact : Earlier → ℕ → Fact → Earlier
with_fact earlier n fact =
    record {
      program = earlier.program;
      lemmas = earlier.lemmas ++ numbered n (claimed_lemma fact.claim fact.cube);
      facts = earlier.facts ++ record { number = n; fact = fact } ∷ [];
    }

abbrev pub with_shown : Earlier → ℕ → Shown → Earlier
with_shown earlier n (shown.Fact fact) = with_fact earlier n fact
with_shown earlier n (shown.Breaks goal input) = earlier

-- The number is above all before it, and the proof is of a fact of this program whose lemmas are among these.
abbrev pub IsFact : Shown → Type 0
IsFact (shown.Fact fact) = Unit {0}
IsFact (shown.Breaks goal input) = ⊥

pub record MayAdd (earlier : Earlier) (n : ℕ) (proof : ProofContent) : Type 0 where
  pub lemmas_below : next_number earlier.lemmas ≤ n
  pub facts_below : next_fact earlier.facts ≤ n
  pub fact : IsFact proof.shown
  pub program : proof.program ≡ earlier.program
  pub cited : Extends proof.cited earlier.lemmas

-- the number is above all before it, and the fact stands under the lemmas
pub record MayAddFact (earlier : Earlier) (n : ℕ) (fact : Fact) : Type 0 where
  pub lemmas_below : next_number earlier.lemmas ≤ n
  pub facts_below : next_fact earlier.facts ≤ n
  pub stands : Stands earlier.program earlier.lemmas fact
