use Rattle.tests_board.proofs.bench.Bench.same_pieces.Goals as goal

pub returns : goal.returns
returns c = c.known.ensures.pieces
