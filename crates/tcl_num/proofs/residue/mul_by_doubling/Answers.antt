-- One digit more is read, which the doubled product takes up.
use Rattle.std.proofs.Common.{◌≡◌, ℕ, suc, ◌<◌, ◌*◌, ◌%◌, ◌/◌, ◌^◌, ◌-◌, sym, ◌∙◌, ap, subst, arith}
use Rattle.std.proofs.lemmas.Nat.{mod_below}
use Rattle.tcl_num.proofs.ResidueProducts.{doubled_residue, next_digit}
use Rattle.tcl_num.proofs.residue.mul_by_doubling.Goals as goal

pub loop-digits-preserved : goal.loop-digits-preserved
loop-digits-preserved c =
    let a = c.args.a in let b = c.args.b in let m = c.args.m in
    let k = c.loop-digits.digits - 1 in
    let p = c.loop-digits.product in
    let more : c.loop-digits.digits ≡ suc k = omega arith in
    let before : p ≡ (a * (b / 2 ^ suc k)) % m = c.loop-digits.invariant.2 ∙ ap (λ j. (a * (b / 2 ^ j)) % m) more in
    let now : c.doubled_and_added-product.result ≡ (a * (b / 2 ^ k)) % m =
    c.doubled_and_added-product.ensures ∙ doubled_residue p a (b / 2 ^ suc k) (b / 2 ^ k % 2) m before ∙ ap (λ x. (a * x) % m) (next_digit b k) in
    let P : ℕ → Type 0 = λ x. x < m in
    (omega (arith, c.loop-digits.invariant.0), subst P (sym now) (mod_below (a * (b / 2 ^ k)) m (omega arith)), now)
