-- A fact whose cases cover it holds.
use Rattle.std.proofs.Common.{rules, ◌≡◌, true}
use Rattle.tcl_kernel.specs.CasesCertificate.{are_cases}
use Rattle.tcl_kernel.proofs.CaseLists.{cases_shown}
use Rattle.tcl_kernel.proofs.cases.cases_reason.Goals as goal

pub returns-then-branch-clause-holds : goal.returns-then-branch-clause-holds
returns-then-branch-clause-holds c = λ none.
    let all : are_cases c.args.earlier.now.facts c.args.fact.now c.args.items.now ≡ true = search rules in
    cases_shown c.args.earlier.now.program c.args.earlier.now.lemmas c.args.earlier.now.facts c.args.fact.now c.args.items.now c.requires c.facts-facts.ensures.stand all
