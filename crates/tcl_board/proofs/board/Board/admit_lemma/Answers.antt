use Rattle.std.proofs.Common.{◌<◌, sym, subst, length}
use Rattle.tcl_board.proofs.Keeping.{lemma_admits}
use Rattle.tcl_board.proofs.Indexing.{index_lemma}
use Rattle.tcl_board.proofs.board.Board.admit_lemma.Goals as goal

pub push-requires : goal.push-requires
push-requires g c =
    subst (λ n. length c.self.inside.events.0 < n) (sym c.self.invariant.1)
    (lemma_admits c.fact_laws.ensures _ _ _ c.args.number c.in-Some.kept _ c.self.view_is c.self.invariant.0 c.waiting.ensures c.in-Some.is).admits.room

pub invariant_of-self : goal.invariant_of-self
invariant_of-self g c =
    rw (c.set.ensures, c.push.ensures)
    ((lemma_admits c.fact_laws.ensures _ _ _ c.args.number c.in-Some.kept _ c.self.view_is c.self.invariant.0 c.waiting.ensures c.in-Some.is).keeps, c.self.invariant.1, c.self.invariant.2, c.self.invariant.3, c.self.invariant.4, index_lemma _ _ _ _ _ c.self.invariant.5)
