-- One step keeps the invariant, and at the end the divisor is the greatest common one.
use Rattle.std.proofs.Common.{◌≡◌, ℕ, ◌<◌, ◌+◌, ◌-◌, ◌*◌, ◌/◌, ◌%◌, sym, ◌∙◌, ap, subst, arith}
use Rattle.std.proofs.lemmas.Nat.{mod_below}
use Rattle.std.proofs.lemmas.Nat.Gcd.{IsGcd-from_mod, IsGcd-from_zero}
use Rattle.tcl_ring.proofs.Inverses.{euclid_step, one_from_inverse}
use Rattle.tcl_ring.proofs.euclid.inverse_of.Goals as goal

pub loop-next-preserved : goal.loop-next-preserved
loop-next-preserved c =
    let m = c.args.m in let a = c.args.a in
    let i = c.loop-next.invariant in
    let x = c.loop-next.divisor in let y = c.loop-next.next in
    let s = c.loop-next.cofactor in let t = c.loop-next.next_cofactor in
    let p : 0 < m = omega arith in
    let below : x % y < y = mod_below x y (omega (arith, c.loop-next-test.true)) in
    let following : c.sub_mod-following.result ≡ (s + (m - (x / y * t) % m)) % m = c.sub_mod-following.ensures ∙ ap (λ z. (s + (m - z)) % m) c.mul_mod.ensures in
    let L : ℕ → Type 0 = λ z. z < m in
    let E : ℕ → Type 0 = λ z. (z * a) % m ≡ x % y % m in (
      omega (arith, below, i.0),
      omega (arith, i.0),
      i.3,
      subst L (sym following) (mod_below (s + (m - (x / y * t) % m)) m p),
      i.5,
      subst E (sym following) (euclid_step m a x y s t p i.4 i.5),
      λ g h. i.6 g (IsGcd-from_mod x y g h),
    )

pub returns-else-divisor-eq1 : goal.returns-else-divisor-eq1
returns-else-divisor-eq1 c n e =
    let i = c.loop-next.invariant in
    let x = c.loop-next.divisor in let y = c.loop-next.next in
    let end : y ≡ 0 = omega (arith, c.loop-next-test.false) in
    c.if-divisor-eq1.false (one_from_inverse c.args.m c.args.a x n (omega arith) (i.6 x (IsGcd-from_zero x y end)) e)
