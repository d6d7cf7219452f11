-- Status 0 of a whole text, and what a write fault says.
use Rattle.std.proofs.Common.{◌≡◌, ◌⊎◌, inl, inr, ℕ, sym, subst, ◌∙◌, arith}
use Rattle.tcl_top.specs.Headline.{ReadsCorrect}
use Rattle.tcl_top.proofs.Verdict.{answered_correct, answered_known}
use Rattle.tcl_top.proofs.solo.solo_run.Goals as goal

-- a status that is not that of a write fault is the one that was handed over
handed : (answer status : ℕ) → (answer ≡ status) ⊎ (answer ≡ 6) → answer ≡ 0 → status ≡ 0
handed answer status (inl e) zero_is = sym e ∙ zero_is
handed answer status (inr e) zero_is = absurd (omega (arith, e, zero_is))

pub returns-in-Ok-reply_to-clause-verified : goal.returns-in-Ok-reply_to-clause-verified
returns-in-Ok-reply_to-clause-verified g c = λ zero_is.
    let reply = c.in-Ok-reply_to.reply in
    record {
      bytes = c.in-Ok.bytes.items;
      read = record { told = c.in-Ok.ensures.all; emptied = c.in-Ok.ensures.end; counted = c.in-Ok.ensures.given; within = c.in-Ok.ensures.within };
      correct = subst ReadsCorrect c.deref.ensures.value
          (answered_correct c.deref.result.now reply.status reply.text.items reply.events c.in-Ok-reply_to.ensures
          (handed c.answer.result.status reply.status c.answer.ensures.status zero_is));
    }

pub returns-in-Ok-reply_to-clause-write_fault : goal.returns-in-Ok-reply_to-clause-write_fault
returns-in-Ok-reply_to-clause-write_fault g c = λ six.
    let reply = c.in-Ok-reply_to.reply in
    elim (c.answer.ensures.fault six) [
      | inl e ↦ absurd (answered_known c.deref.result.now reply.status reply.text.items reply.events c.in-Ok-reply_to.ensures e)
      | inr rose ↦ rose
    ]
