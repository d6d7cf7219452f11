-- The lemmas that a board has admitted.
use Rattle.std.specs.Prelude.{◌≡◌, ◌≤◌, ℕ, ◌+◌, ◌==◌, nat_le, Bool, true, false, ◌&&◌, if◌then◌else◌, List, [], ◌∷◌, slice_get, Option, Some, None}
use Rattle.std.specs.List.{list_all}
use Rattle.tcl_lang.specs.Program.{VersionedProgram}
use Rattle.tcl_goals.specs.declared.fact.BitLit.{BitLit}
use Rattle.tcl_goals.specs.declared.fact.Hyp.{Hyp}
use Rattle.tcl_goals.specs.declared.fact.Hyp.TheVariants as hyp
use Rattle.tcl_goals.specs.declared.fact.Claim.{Claim}
use Rattle.tcl_goals.specs.declared.fact.Claim.TheVariants as claim
use Rattle.tcl_goals.specs.declared.lemma.Lemma.{Lemma}
use Rattle.tcl_goals.specs.declared.lemma.Numbered.{Numbered}
use Rattle.tcl_goals.specs.declared.piece.Shown.{Shown}
use Rattle.tcl_goals.specs.declared.piece.Shown.TheVariants as shown
use Rattle.tcl_goals.specs.LemmaList.{lemma_of}
use Rattle.tcl_goals.specs.Order.{has_claim}
use Rattle.tcl_goals.specs.Holds.{IsSound}
use Rattle.tcl_board.specs.declared.event.LemmaMark.{LemmaMark}
use Rattle.tcl_board.specs.declared.evidence.Seen.{Seen}
use Rattle.tcl_board.specs.declared.evidence.Seen.TheVariants as seen
use Rattle.tcl_board.specs.State.{BoardState}

-- the lemma that a kept thing shows
abbrev pub claimed_lemma : Claim → Option Lemma
claimed_lemma (claim.Lemma m) = Some m
claimed_lemma (claim.Goal i) = None

abbrev pub lemma_shown : Shown → Option Lemma
lemma_shown (shown.Fact fact) = claimed_lemma fact.claim
lemma_shown (shown.Breaks g input) = None

abbrev pub lemma_seen : Option Seen → Option Lemma
lemma_seen (Some (seen.Lemma sh cited)) = lemma_shown sh
lemma_seen _ = None

-- the admitted lemma of a mark
abbrev pub marked_lemma : List Seen → Option LemmaMark → Option Lemma
marked_lemma kept (Some m) = if m.admitted then lemma_seen (slice_get kept m.kept) else None
marked_lemma kept None = None

-- the admitted lemmas with their numbers, from n on
abbrev pub with_number : ℕ → Option Lemma → List Numbered → List Numbered
with_number n (Some m) others = record { number = n; lemma = m } ∷ others
with_number n None others = others

unfoldable pub lemmas_from : ℕ → List Seen → List LemmaMark → List Numbered
lemmas_from n kept [] = []
lemmas_from n kept (m ∷ marks) = with_number n (marked_lemma kept (Some m)) (lemmas_from (n + 1) kept marks)

abbrev pub lemmas_of : BoardState → List Numbered
lemmas_of s = lemmas_from 0 s.kept s.position.lemmas

-- the same bits in the same order, the same lemma
abbrev pub same_value : Bool → Bool → Bool
same_value true true = true
same_value false false = true
same_value _ _ = false

abbrev pub same_lit : BitLit → BitLit → Bool
same_lit a b = a.var == b.var && (a.bit == b.bit && same_value a.value b.value)

abbrev pub same_bits : List BitLit → List BitLit → Bool
same_bits [] [] = true
same_bits (a ∷ bits) (b ∷ others) = same_lit a b && same_bits bits others
same_bits _ _ = false

abbrev pub same_lemma : Option Lemma → Option Lemma → Bool
same_lemma (Some a) (Some b) = a.level == b.level && same_bits a.clause b.clause
same_lemma _ _ = false

-- each lemma that the hypotheses cite is the board's admitted lemma of that number
abbrev pub is_cited_own : List Numbered → List Seen → List LemmaMark → Hyp → Bool
is_cited_own cited kept marks (hyp.Line k) = true
is_cited_own cited kept marks (hyp.Lemma n) = same_lemma (lemma_of cited n) (marked_lemma kept (slice_get marks n))

abbrev pub cites_own : List Numbered → List Seen → List LemmaMark → List Hyp → Bool
cites_own cited kept marks hyps = list_all (is_cited_own cited kept marks) hyps

-- the admitted lemmas whose level is at most a goal, with their numbers, from n on
abbrev pub fitting : ℕ → Option Lemma → Option Lemma
fitting g (Some m) = if nat_le m.level g then Some m else None
fitting g None = None

unfoldable pub fitting_from : ℕ → ℕ → List Seen → List LemmaMark → List Numbered
fitting_from g n kept [] = []
fitting_from g n kept (m ∷ marks) = with_number n (fitting g (marked_lemma kept (Some m))) (fitting_from g (n + 1) kept marks)

-- a lemma that is given for a piece of the goal: it is sound, its level is at most the goal, and each bit of its clause is of
-- a variable that is defined before its level
pub record IsGiven (p : VersionedProgram) (g : ℕ) (m : Lemma) : Type 0 where
  pub sound : IsSound p m
  pub claim : has_claim p (claim.Lemma m) ≡ true
  pub level : m.level ≤ g

abbrev pub AreGiven : VersionedProgram → ℕ → List Numbered → Type 0
AreGiven p g lemmas = (n : ℕ) (m : Lemma) → lemma_of lemmas n ≡ Some m → IsGiven p g m
