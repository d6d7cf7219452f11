-- Answers of checks.
use Rattle.std.specs.Prelude.{◌≡◌, Option, Some, None}
use Rattle.tcl_kernel.specs.declared.reason.Reason.{Reason}
use Rattle.tcl_kernel.specs.declared.answer.Answer.{Answer}
use Rattle.tcl_kernel.specs.declared.answer.Answer.TheVariants as answer
use Rattle.tcl_kernel.specs.Shown.{ProofContent}

-- the answer where this is the first reason, if there is one, and this the proof: the proof exactly where there is no
-- reason, the reason exactly where there is one. Memory may run out
abbrev pub IsAnswer : Option Reason → ProofContent → Answer → Type 0
IsAnswer reason content (answer.Proof p) = (reason ≡ None) × (p ≡ content)
IsAnswer reason content (answer.Bad r) = reason ≡ Some r
IsAnswer reason content answer.Memory = Unit {0}

-- this proof, unless memory ran out
abbrev pub IsProof : ProofContent → Answer → Type 0
IsProof content (answer.Proof p) = p ≡ content
IsProof content (answer.Bad r) = ⊥
IsProof content answer.Memory = Unit {0}
