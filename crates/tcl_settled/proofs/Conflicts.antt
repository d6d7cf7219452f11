-- Where unit propagation alone meets a false clause no fresh clause is derived.
use Rattle.std.proofs.Common.{◌≡◌, ◌<◌, ℕ, List, [], length, take, ◌∙◌, ap, subst, arith, get_or}
use Rattle.std.proofs.lemmas.List.{take-append-le, take_all}
use Rattle.std.proofs.lemmas.Option.{slice_get-get_or}
use Rattle.tcl_cnf.specs.Propagation.{ConflictsAtOnce, IsFresh}
use Rattle.tcl_cnf.specs.FreshLogs.{DeriveFresh}
use Rattle.tcl_cnf.proofs.Freshness.{no_conflict}
use Rattle.tcl_cnf.proofs.LogLemmas.{derived_behind}

pub spent_no_conflict : (clauses lines : List (List ℕ)) (n : ℕ) → 0 < n → DeriveFresh clauses n lines → ConflictsAtOnce clauses → ⊥
spent_no_conflict clauses lines n some d conflict =
    let behind = derived_behind clauses lines d.all d.chains in
    let less : length clauses < length d.all = omega (arith, d.whole, some) in
    let first = get_or d.all (length clauses) [] in
    let fresh = d.fresh.each (length clauses) first (omega arith) (slice_get-get_or d.all (length clauses) [] less) in
    let front : take (length clauses) d.all ≡ clauses =
    ap (take (length clauses)) behind.1 ∙ take-append-le (length clauses) clauses behind.0 (omega arith) ∙ take_all (length clauses) clauses (omega arith) in
    no_conflict clauses first (subst (λ cs. IsFresh cs first) front fresh) conflict
