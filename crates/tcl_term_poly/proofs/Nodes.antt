-- How many operators, variables and numbers a term has: each of its parts has fewer.
use Rattle.std.proofs.Common.{◌≡◌, ℕ, suc, ◌+◌, ◌<◌, sym, ◌∙◌, ap, arith}
use Rattle.tcl_lang.specs.declared.term.Term.{Term, Term-F, fold-Term}
use Rattle.tcl_lang.specs.declared.term.Term.TheViews as term
use Rattle.tcl_lang.specs.declared.term.Term.TheOpen as layer
use Rattle.tcl_lang.specs.declared.term.Term.TheVariants as rolled
use Rattle.tcl_lang.specs.declared.term.Term.TheFolds.{fold-roll-Term}

unfoldable pub node_step : Term-F ℕ → ℕ
node_step (layer.Var v) = 1
node_step (layer.Num n) = 1
node_step (layer.Neg t) = suc t
node_step (layer.Add t u) = suc (t + u)
node_step (layer.Sub t u) = suc (t + u)
node_step (layer.Mul t u) = suc (t + u)
node_step (layer.Pow t k) = suc t

unfoldable pub nodes : Term → ℕ
nodes t = fold-Term ℕ node_step t

pub nodes_neg : (t a : Term) → t ≡ term.Neg a → nodes a < nodes t
unfolding nodes node_step
nodes_neg t a is = omega (arith, ap nodes (is ∙ sym (rolled.rolls-Neg a)) ∙ fold-roll-Term ℕ node_step (layer.Neg a))

pub nodes_add : (t a b : Term) → t ≡ term.Add a b → (nodes a < nodes t) × (nodes b < nodes t)
unfolding nodes node_step
nodes_add t a b is =
    let e : nodes t ≡ suc (nodes a + nodes b) = ap nodes (is ∙ sym (rolled.rolls-Add a b)) ∙ fold-roll-Term ℕ node_step (layer.Add a b) in
    (omega (arith, e), omega (arith, e))

pub nodes_sub : (t a b : Term) → t ≡ term.Sub a b → (nodes a < nodes t) × (nodes b < nodes t)
unfolding nodes node_step
nodes_sub t a b is =
    let e : nodes t ≡ suc (nodes a + nodes b) = ap nodes (is ∙ sym (rolled.rolls-Sub a b)) ∙ fold-roll-Term ℕ node_step (layer.Sub a b) in
    (omega (arith, e), omega (arith, e))

pub nodes_mul : (t a b : Term) → t ≡ term.Mul a b → (nodes a < nodes t) × (nodes b < nodes t)
unfolding nodes node_step
nodes_mul t a b is =
    let e : nodes t ≡ suc (nodes a + nodes b) = ap nodes (is ∙ sym (rolled.rolls-Mul a b)) ∙ fold-roll-Term ℕ node_step (layer.Mul a b) in
    (omega (arith, e), omega (arith, e))

pub nodes_pow : (t a : Term) (k : ℕ) → t ≡ term.Pow a k → nodes a < nodes t
unfolding nodes node_step
nodes_pow t a k is = omega (arith, ap nodes (is ∙ sym (rolled.rolls-Pow a k)) ∙ fold-roll-Term ℕ node_step (layer.Pow a k))
