-- Each turn takes the first factor of the product of what is left.
use Rattle.std.proofs.Common.{rules, ◌≡◌, ◌+◌, ◌≤◌, ◌++◌, length, drop, get_or, refl, ◌∙◌, ap, arith, ◌⊎◌, inl, inr, Less, Equal, Greater, nat_cmp}
use Rattle.std.proofs.lemmas.Cmp.{ranked}
use Rattle.tcl_poly.specs.Unknown.{key_of, factors_of}
use Rattle.tcl_poly.specs.declared.factor.Factor.{Factor}
use Rattle.tcl_poly.specs.declared.factor.Unknown.TheVariants.{Var}
use Rattle.tcl_poly.proofs.FactorMerging.{merged, turn_less, turn_greater, turn_equal, exponent_at, last_part}
use Rattle.tcl_poly.proofs.mono.merge_factors.Goals as goal
use Rattle.tcl_poly.proofs.mono.merge_factors.Goals.{then-loop-i-test+else-j-b, else-loop-i-test}

-- any factor, for the reading past the end
abbrev spare : Factor
spare = record { unknown = Var 0; exponent = 0 }

pub loop-i-preserved-in-Less : goal.loop-i-preserved-in-Less
loop-i-preserved-in-Less c =
    let a = c.args.a.now in let b = c.args.b.now in let i = c.loop-i.i in let j = c.loop-i.j in
    let keys : Less ≡ nat_cmp (key_of (get_or a i spare).unknown) (key_of (get_or b j spare).unknown) = search rules in
    let less = ranked _ _ Less keys in
    let turn = turn_less c.loop-i.product.items a b i j spare spare (omega arith) (omega arith) c.requires.first c.requires.second less in
    (omega arith, c.loop-i.invariant.1, ap (λ x. merged x (drop (i + 1) a) (drop j b)) c.in_ok-push-in-Less.ensures.ok ∙ turn ∙ c.loop-i.invariant.2)

pub loop-i-preserved-in-Greater : goal.loop-i-preserved-in-Greater
loop-i-preserved-in-Greater c =
    let a = c.args.a.now in let b = c.args.b.now in let i = c.loop-i.i in let j = c.loop-i.j in
    let keys : Greater ≡ nat_cmp (key_of (get_or a i spare).unknown) (key_of (get_or b j spare).unknown) = search rules in
    let less = ranked _ _ Greater keys in
    let turn = turn_greater c.loop-i.product.items a b i j spare spare (omega arith) (omega arith) c.requires.first c.requires.second less in
    (c.loop-i.invariant.0, omega arith, ap (λ x. merged x (drop i a) (drop (j + 1) b)) c.in_ok-push-in-Greater.ensures.ok ∙ turn ∙ c.loop-i.invariant.2)

pub overflow_add-f : goal.overflow_add-f
overflow_add-f c =
    let a = c.args.a.now in let b = c.args.b.now in
    omega (arith, c.requires.narrow, exponent_at a c.loop-i.i spare (omega arith), exponent_at b c.loop-i.j spare (omega arith))

pub loop-i-preserved : goal.loop-i-preserved
loop-i-preserved c =
    let a = c.args.a.now in let b = c.args.b.now in let i = c.loop-i.i in let j = c.loop-i.j in
    let keys : Equal ≡ nat_cmp (key_of (get_or a i spare).unknown) (key_of (get_or b j spare).unknown) = search rules in
    let same = ranked _ _ Equal keys in
    let sum : Factor = record { unknown = (get_or b j spare).unknown; exponent = (get_or a i spare).exponent + (get_or b j spare).exponent } in
    let turn = turn_equal c.loop-i.product.items a b i j spare spare sum (omega arith) (omega arith) c.requires.first c.requires.second same refl in
    (omega arith, omega arith, ap (λ x. merged x (drop (i + 1) a) (drop (j + 1) b)) c.in_ok-push-in-Equal.ensures.ok ∙ turn ∙ c.loop-i.invariant.2)

pub returns : goal.returns
returns c =
    let a = c.args.a.now in let b = c.args.b.now in let i = c.loop-i.i in let j = c.loop-i.j in
    let done = c.loop-i.product.items in
    let ended : (length a ≤ i) ⊎ (length b ≤ j) = elim c.loop-i-test.branch [
      | then-loop-i-test+else-j-b w ↦ inr (omega arith)
      | else-loop-i-test w ↦ inl (omega arith)
    ] in
    let items : c.append_factors-2.new.product.items ≡ (done ++ drop i a) ++ drop j b = c.in_ok-append_factors-2.ensures ∙ ap (λ x. x ++ drop j b) c.in_ok-append_factors.ensures in
    ap factors_of items ∙ last_part done a b i j c.requires.first c.requires.second ended ∙ c.loop-i.invariant.2
