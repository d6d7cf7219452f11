-- Each turn tries the monomials with one power more of the unknown at j.
use Rattle.std.proofs.Common.{rules, ◌≡◌, ℕ, ◌+◌, ◌-◌, ◌<◌, ◌≤◌, length, drop, get_or, refl, sym, ◌∙◌, ap, subst, arith}
use Rattle.std.specs.Prelude.{IfOk}
use Rattle.tcl_poly.specs.Monomial as mono
use Rattle.tcl_poly.specs.Polynomial as p
use Rattle.tcl_poly.specs.declared.factor.Unknown.TheVariants.{Var}
use Rattle.tcl_poly.specs.Unknown.{key_of}
use Rattle.tcl_reduce.specs.Multiple.{monomials_over}
use Rattle.tcl_pivots.specs.CofactorLists.{equations_of}
use Rattle.tcl_pivots.specs.RowState.{pivot_shown}
use Rattle.tcl_member.specs.declared.search.Turn.TheVariants.{Going}
use Rattle.tcl_member.specs.Course.{keys_in, products_by, IsGone, IsLater, IsOn}
use Rattle.tcl_member.proofs.Courses.{gone_next, gone_last}
use Rattle.tcl_member.proofs.KeyLists.{key_or, keys_count}
use Rattle.tcl_member.proofs.Listings.{up_to, products_none, powers_first, powers_turn, powers_whole, front_degree, later_more, keys_rise}
use Rattle.tcl_member.proofs.search.Search.+try_monomials.Goals as goal

pub returns-then-by-eq0-clause-gone : goal.returns-then-by-eq0-clause-gone
returns-then-by-eq0-clause-gone g t c =
    let m = g.R.Ring.modulus_of c.args.ring.now in let value = g.R.Ring.amount c.args.ring.now in
    let us = keys_in c.args.unknowns.now in let x = pivot_shown value c.args.pivot.now in let front = c.args.front.now in
    subst (λ z. IfOk c.try_product.result (λ turn. IsGone m value (equations_of value c.args.equations.now) (p.terms_of value c.args.claim.now) c.args.place c.args.budget z c.args.self.now c.try_product.new.self (g.P.Port.polls c.args.port.now) (g.P.Port.polls c.try_product.new.port) (g.P.Port.cancels c.args.port.now) (g.P.Port.cancels c.try_product.new.port) turn))
    (sym (ap (λ n. products_by x front (monomials_over (drop c.args.from us) n)) c.if-by-eq0.true ∙ products_none x front (drop c.args.from us))) c.try_product.ensures.gone

pub powers-init : goal.powers-init
powers-init g t c =
    let m = g.R.Ring.modulus_of c.args.ring.now in let value = g.R.Ring.amount c.args.ring.now in
    let us = keys_in c.args.unknowns.now in let x = pivot_shown value c.args.pivot.now in let front = c.args.front.now in
    let j = c.unknowns.j - 1 in
    let place : c.unknowns.j ≡ j + 1 = omega (arith, c.unknowns-test.true) in (
      omega (arith, c.unknowns-test.true),
      omega (arith, c.unknowns-test.true, c.unknowns.invariant.1),
      subst (λ z. IsGone m value (equations_of value c.args.equations.now) (p.terms_of value c.args.claim.now) c.args.place c.args.budget z c.args.self.now c.unknowns.self (g.P.Port.polls c.args.port.now) (g.P.Port.polls c.unknowns.port) (g.P.Port.cancels c.args.port.now) (g.P.Port.cancels c.unknowns.port) Going)
          (ap (λ n. products_by x front (monomials_over (drop n us) c.args.by)) place ∙ powers_first x front us c.args.by j) c.unknowns.invariant.2,
    )

pub try_monomials-requires : goal.try_monomials-requires
try_monomials-requires g t c κs within =
    let m = g.R.Ring.modulus_of c.args.ring.now in let value = g.R.Ring.amount c.args.ring.now in
    let us = keys_in c.args.unknowns.now in let front = c.args.front.now in
    let j = c.unknowns.j - 1 in
    let u = key_of (get_or c.args.unknowns.now j (Var 0)) in
    let key = key_or c.args.unknowns.now j (Var 0) c.powers.invariant.1 in
    let mine : IsLater front u = subst (IsLater front) key (c.requires.later j c.powers.invariant.0 c.powers.invariant.1) in
    let made = c.in_ok-power.ensures in
    let less : c.args.by - c.powers.lower - 1 < t = omega (arith, c.decreases, c.powers-test.true) in
    let from : j + 1 ≤ length c.args.unknowns.now = omega (arith, c.powers.invariant.1) in
    let later : (k : ℕ) → j + 1 ≤ k → k < length c.args.unknowns.now → IsLater c.in_ok-power.power (get_or us k 0) = λ k after below.
    subst (λ z. IsLater z (get_or us k 0)) (sym made)
    (later_more front u (c.powers.lower + 1) (get_or us k 0) mine (omega arith) (omega (arith, ap (λ z. z) key, keys_rise 0 us j k c.requires.keys (omega (arith, after)) (omega (arith, below, keys_count c.args.unknowns.now))))) in
    let degree : mono.degree c.in_ok-power.power + (c.args.by - c.powers.lower - 1) + p.degree_of c.args.pivot.now.row.poly ≤ 1024 =
    omega (arith, c.requires.degree, c.powers-test.true, ap (λ z. mono.degree z) made, front_degree front u (c.powers.lower + 1)) in
    let on : IsOn m value (equations_of value c.args.equations.now) (p.terms_of value c.args.claim.now) c.powers.self = c.powers.invariant.2.on in
    let below : c.powers.self.tried < c.args.budget = c.powers.invariant.2.below refl in
    search rules

pub returns-then-is_end-clause-gone : goal.returns-then-is_end-clause-gone
returns-then-is_end-clause-gone g t c =
    let m = g.R.Ring.modulus_of c.args.ring.now in let value = g.R.Ring.amount c.args.ring.now in
    let us = keys_in c.args.unknowns.now in let x = pivot_shown value c.args.pivot.now in let front = c.args.front.now in
    let j = c.unknowns.j - 1 in let d = c.args.by in let k = c.powers.lower in
    let u = key_of (get_or c.args.unknowns.now j (Var 0)) in
    let key = key_or c.args.unknowns.now j (Var 0) c.powers.invariant.1 in
    let power = c.in_ok-power.power in
    gone_last m value (equations_of value c.args.equations.now) (p.terms_of value c.args.claim.now) c.args.place c.args.budget (products_by x front (up_to us d j k)) (products_by x power (monomials_over (drop (j + 1) us) (d - k - 1))) (products_by x front (up_to us d j (k + 1))) (products_by x front (monomials_over (drop c.args.from us) d)) c.args.self.now c.powers.self c.try_monomials.new.self
    (g.P.Port.polls c.args.port.now) (g.P.Port.polls c.powers.port) (g.P.Port.polls c.try_monomials.new.port) (g.P.Port.cancels c.args.port.now) (g.P.Port.cancels c.powers.port) (g.P.Port.cancels c.try_monomials.new.port) c.in_ok-turn.turn c.powers.invariant.2 c.in_ok-turn.ensures.gone (sym c.is_end.ensures ∙ c.if-is_end.true) (powers_turn x front power us d j k u key c.in_ok-power.ensures)
    (powers_whole x front us d c.args.from j (k + 1) c.powers.invariant.0 (omega (arith, c.powers.invariant.1, keys_count c.args.unknowns.now)) (omega (arith, c.powers-test.true)))

pub powers-preserved : goal.powers-preserved
powers-preserved g t c =
    let m = g.R.Ring.modulus_of c.args.ring.now in let value = g.R.Ring.amount c.args.ring.now in
    let us = keys_in c.args.unknowns.now in let x = pivot_shown value c.args.pivot.now in let front = c.args.front.now in
    let j = c.unknowns.j - 1 in let d = c.args.by in let k = c.powers.lower in
    let u = key_of (get_or c.args.unknowns.now j (Var 0)) in
    let key = key_or c.args.unknowns.now j (Var 0) c.powers.invariant.1 in
    let power = c.in_ok-power.power in (
      c.powers.invariant.0,
      c.powers.invariant.1,
      gone_next m value (equations_of value c.args.equations.now) (p.terms_of value c.args.claim.now) c.args.place c.args.budget (products_by x front (up_to us d j k)) (products_by x power (monomials_over (drop (j + 1) us) (d - k - 1))) (products_by x front (up_to us d j (k + 1))) c.args.self.now c.powers.self c.try_monomials.new.self
          (g.P.Port.polls c.args.port.now) (g.P.Port.polls c.powers.port) (g.P.Port.polls c.try_monomials.new.port) (g.P.Port.cancels c.args.port.now) (g.P.Port.cancels c.powers.port) (g.P.Port.cancels c.try_monomials.new.port) c.in_ok-turn.turn c.powers.invariant.2 c.in_ok-turn.ensures.gone (sym c.is_end.ensures ∙ c.if-is_end.false) (powers_turn x front power us d j k u key c.in_ok-power.ensures),
    )
