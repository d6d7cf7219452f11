use Rattle.std.proofs.Common.{arith, ◌∙◌, ap, length, length-append, ◌∷◌, [], ◌++◌, ◌+◌, true, drop}
use Rattle.tcl_gates.specs.Gates.{values_of, next_value}
use Rattle.tcl_gates.proofs.Rows.{values_begun, values_more, values_end}
use Rattle.tcl_gates.proofs.Circuit.{values_meet_at}
use Rattle.tcl_gates.proofs.evaluation.value_of.Goals as goal

pub loop-k-init : goal.loop-k-init
loop-k-init c = (
  values_begun c.push.new.self.items c.args.free.now c.args.gates.now (c.in_ok-push.ensures.items ∙ ap (λ t. t ++ true ∷ []) c.new-values.ensures.items),
  ap length (c.in_ok-push.ensures.items ∙ ap (λ t. t ++ true ∷ []) c.new-values.ensures.items),
  omega arith,
)

pub loop-k-preserved : goal.loop-k-preserved
loop-k-preserved c = (
  values_more c.loop-k.values.items c.push-in-loop-k.new.self.items c.args.free.now (values_of c.args.gates.now c.args.free.now) c.value_of_gate-value.result
      c.loop-k.next c.bits_used-next.result c.loop-k.k c.at-gate.result.now c.args.gates.now c.loop-k.invariant.0 c.at-gate.ensures
      (c.value_of_gate-value.ensures ∙ ap (λ t. next_value t (drop c.loop-k.next c.args.free.now) c.at-gate.result.now) c.deref.ensures.value)
      c.in_ok-push-2.ensures.items c.bits_used-next.ensures.behind,
  ap length c.in_ok-push-2.ensures.items ∙ length-append c.loop-k.values.items (c.value_of_gate-value.result ∷ []) ∙ ap (λ n. n + 1) c.loop-k.invariant.1,
  omega (arith, c.loop-k.invariant.2, c.bits_used-next.ensures.few),
)

pub returns-clause-values : goal.returns-clause-values
returns-clause-values c =
    c.from_vec.ensures ∙ values_end c.loop-k.values.items c.args.free.now (values_of c.args.gates.now c.args.free.now) c.loop-k.next c.loop-k.k c.args.gates.now c.loop-k.invariant.0 (omega arith)

pub returns-clause-meets : goal.returns-clause-meets
returns-clause-meets c =
    values_meet_at c.args.gates.now c.args.free.now c.from_vec.result (record { each = c.known.ensures.gates.each }) c.requires
    (c.from_vec.ensures ∙ values_end c.loop-k.values.items c.args.free.now (values_of c.args.gates.now c.args.free.now) c.loop-k.next c.loop-k.k c.args.gates.now c.loop-k.invariant.0 (omega arith))
