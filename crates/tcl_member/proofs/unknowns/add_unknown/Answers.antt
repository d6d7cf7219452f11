-- The place is where the key is or comes.
use Rattle.std.proofs.Common.{◌<◌, length, get_or, arith, sym, ◌∙◌}
use Rattle.tcl_poly.specs.Unknown.{key_of}
use Rattle.tcl_member.specs.Course.{keys_in}
use Rattle.tcl_member.proofs.KeyLists.{key_at, keys_count, inserted_there, inserted_new, key_put}
use Rattle.tcl_member.proofs.unknowns.add_unknown.Goals as goal
use Rattle.tcl_member.proofs.unknowns.add_unknown.Goals.{else-place-len-via-then-place-len+else-key, else-place-len-via-else-place-len}

pub returns-then-key : goal.returns-then-key
returns-then-key c =
    let us = c.args.unknowns.now.items in let i = c.place_of-place.result in
    let below : i < length us = omega (arith, c.if-place-len.true, c.len.ensures, c.as_slice.ensures.len) in
    let passed = rw c.as_slice.ensures.value at c.place_of-place.ensures.passed in
    let same = key_at us i c.index.result.now c.index.ensures below in
    sym (inserted_there (key_of c.args.unknown) (keys_in us) i (omega (arith, below, keys_count us)) passed (sym (same ∙ sym c.key.ensures ∙ c.if-key.true ∙ c.key-then-place-len.ensures)))

pub returns : goal.returns
returns c =
    let us = c.args.unknowns.now.items in let i = c.place_of-place.result in
    let passed = rw c.as_slice.ensures.value at c.place_of-place.ensures.passed in
    let there = rw c.as_slice.ensures.value at c.place_of-place.ensures.there in
    let bound = rw c.as_slice.ensures.value at c.place_of-place.ensures.bound in
    let less : i < length (keys_in us) → key_of c.args.unknown < get_or (keys_in us) i 0 = λ l. elim c.else-place-len.branch [
      | else-place-len-via-then-place-len+else-key w ↦
          let below : i < length us = omega (arith, l, keys_count us) in
          omega (arith, there below, key_at us i w.index.result.now w.index.ensures below, w.key.ensures, w.key-then-place-len.ensures, w.if-key.false)
      | else-place-len-via-else-place-len w ↦ absurd (omega (arith, l, keys_count us, w.if-place-len.false, c.len.ensures, c.as_slice.ensures.len))
    ] in
    key_put us c.insert.new.self.items i c.args.unknown c.in_ok-insert.ensures.items
    ∙ sym (inserted_new (key_of c.args.unknown) (keys_in us) i (omega (arith, bound, keys_count us)) passed less)
