-- What holds of a value that is lent holds of the value.
use Rattle.std.proofs.Common.{◌≡◌, sym, subst, Option, Some, None, IfSome, Bor}
use Rattle.std.specs.Prelude.{option_copied}

pub copied_fact : {A : Type 0} (o : Option (Bor A)) (q : Option A) (P : A → Type 0) → option_copied o ≡ q → IfSome q P → IfSome o (λ x. P x.now)
copied_fact None q P e h = tt
copied_fact (Some x) q P e h = subst (λ z. IfSome z P) (sym e) h
