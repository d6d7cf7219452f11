-- Answers of readers in other words.
use Rattle.std.proofs.Common.{◌≡◌, sym, subst}
use Rattle.std.specs.Prelude.{Option, Some, None, Result, Ok, Err, MatchOption, IfOk}

pub mapped : {A E P P' : Type 0} {Q Q' : A → Type 0} (answer : Result (Option A) E) →
    IfOk answer (λ o. MatchOption o P Q) → (P → P') → ((r : A) → Q r → Q' r) → IfOk answer (λ o. MatchOption o P' Q')
mapped (Ok None) h f g = f h
mapped (Ok (Some r)) h f g = g r h
mapped (Err e) h f g = h

some_is : {A : Type 0} {x y : A} → (let o : Option A = Some x in o ≡ Some y) → x ≡ y
some_is e = cc

none_some : {A : Type 0} {y : A} {P : Type 0} → (let o : Option A = None in o ≡ Some y) → P
none_some e = absurd cc

-- what is found is this
pub found_is : {A E : Type 0} (N : Type 0) (P : A → Type 0) {x : A} (answer : Result (Option A) E) → IfOk answer (λ o. o ≡ Some x) → P x →
    IfOk answer (λ o. MatchOption o N P)
found_is N P (Ok (Some y)) e p = subst P (sym (some_is e)) p
found_is N P (Ok None) e p = none_some e
found_is N P (Err f) e p = e
