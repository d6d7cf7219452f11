use Rattle.std.proofs.Common.{◌≡◌, ◌++◌, ◌∷◌, [], sym, ap, ◌∙◌}
use Rattle.tcl_text.specs.Tokens.{raws_of}
use Rattle.tcl_parse.proofs.TextTokens.{then_raws, blank, comment, refused, token, ended}
use Rattle.tcl_parse.proofs.text.tokens.raws_of.Goals as goal

pub loop-first-preserved-then-is_blank : goal.loop-first-preserved-then-is_blank
loop-first-preserved-then-is_blank c =
    blank c.loop-first.raws c.loop-first.rest.now c.in-Some.first c.in-Some.others.now _ c.loop-first.invariant c.in-Some.ensures
    (sym c.if-is_blank.ensures)

pub returns-then-first-eq35 : goal.returns-then-first-eq35
returns-then-first-eq35 c =
    comment c.loop-first.raws c.loop-first.rest.now c.in-Some.first c.in-Some.others.now _ c.loop-first.invariant c.in-Some.ensures
    (sym c.if-is_blank.ensures) c.if-first-eq35.true

pub returns-in_default-2 : goal.returns-in_default-2
returns-in_default-2 c =
    refused c.loop-first.raws c.loop-first.rest.now c.in-Some.first c.in-Some.others.now _ c.loop-first.invariant c.in-Some.ensures
    (sym c.if-is_blank.ensures) c.if-first-eq35.false (rw c.in_default-2.is at c.in_ok-cut.ensures.cut)

pub loop-first-preserved : goal.loop-first-preserved
loop-first-preserved c =
    let is : then_raws (c.loop-first.raws ++ c.in-Some-2.cut.token ∷ []) (raws_of c.behind-rest.result.now) ≡ raws_of c.args.line.now =
    ap (λ bytes. then_raws (c.loop-first.raws ++ c.in-Some-2.cut.token ∷ []) (raws_of bytes)) c.behind-rest.ensures
    ∙ token c.loop-first.raws c.loop-first.rest.now c.in-Some.first c.in-Some.others.now c.in-Some-2.cut _ c.loop-first.invariant
    c.in-Some.ensures (sym c.if-is_blank.ensures) c.if-first-eq35.false (rw c.in-Some-2.is at c.in_ok-cut.ensures.cut) in
    let e : c.push.new.self ≡ c.loop-first.raws ++ c.in-Some-2.cut.token ∷ [] = c.in_ok-push.ensures.pushed in
    rw e is

pub returns : goal.returns
returns c = ended c.loop-first.raws c.loop-first.rest.now _ c.loop-first.invariant c.in_default.ensures
