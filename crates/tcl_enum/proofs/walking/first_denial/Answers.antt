-- One assignment further.
use Rattle.std.proofs.Common.{rules, arith, ◌≡◌, ◌<◌, ◌^◌, ◌∙◌, sym}
use Rattle.tcl_enum.specs.Enumeration.{is_denied_at}
use Rattle.tcl_enum.proofs.FirstDenial.{found_none, next_none}
use Rattle.tcl_enum.proofs.FreeBits.{few_bits}
use Rattle.tcl_enum.proofs.Endings.{turn, first_found, none_found}
use Rattle.tcl_enum.proofs.walking.first_denial.Goals as goal

pub loop-n-init : goal.loop-n-init
loop-n-init c = record {
  none = found_none (is_denied_at c.args.ssa.now c.args.lemmas.now.items c.args.fact.now);
  typed = c.requires.values;
}

pub assign-requires-clause-few : goal.assign-requires-clause-few
assign-requires-clause-few c =
    few_bits c.args.ssa.now c.args.lemmas.now.items c.args.fact.now c.args.free.now c.requires.free (omega (arith, c.requires.bits, c.requires.few))

pub returns-then-is_denied : goal.returns-then-is_denied
returns-then-is_denied c =
    let f = c.args.ssa.now in
    let lemmas = c.args.lemmas.now.items in
    let fact = c.args.fact.now in
    let less : c.loop-n.n < 2 ^ c.args.bits = search rules in
    let denied : c.is_denied.result ≡ is_denied_at f lemmas fact c.loop-n.n =
    turn f lemmas c.as_slice.result.now fact c.args.free.now c.loop-n.n c.loop-n.values c.assign.new.values c.is_denied.result c.requires.formed
    c.requires.order c.loop-n.invariant.typed c.requires.free (c.as_slice.ensures ∙ c.items.ensures.items) c.assign.ensures.values c.is_denied.ensures in
    first_found f lemmas fact c.loop-n.n c.args.bits c.requires.bits less c.loop-n.invariant.none (sym denied ∙ c.if-is_denied.true)

pub loop-n-preserved : goal.loop-n-preserved
loop-n-preserved c =
    let f = c.args.ssa.now in
    let lemmas = c.args.lemmas.now.items in
    let fact = c.args.fact.now in
    let denied : c.is_denied.result ≡ is_denied_at f lemmas fact c.loop-n.n =
    turn f lemmas c.as_slice.result.now fact c.args.free.now c.loop-n.n c.loop-n.values c.assign.new.values c.is_denied.result c.requires.formed
    c.requires.order c.loop-n.invariant.typed c.requires.free (c.as_slice.ensures ∙ c.items.ensures.items) c.assign.ensures.values c.is_denied.ensures in
    record {
      none = next_none (is_denied_at f lemmas fact) c.loop-n.n c.loop-n.invariant.none (sym denied ∙ c.if-is_denied.false);
      typed = c.assign.ensures.typed;
    }

pub returns : goal.returns
returns c =
    let last : c.loop-n.n ≡ 2 ^ c.args.bits = search rules in
    none_found c.args.ssa.now c.args.lemmas.now.items c.args.fact.now c.loop-n.n c.args.bits c.requires.bits last c.loop-n.invariant.none
