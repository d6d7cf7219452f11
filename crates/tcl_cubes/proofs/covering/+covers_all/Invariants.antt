-- The splits that are left.
use Rattle.tcl_cubes.proofs.covering.+covers_all.Given as goal

abbrev pub decreases-covers_all : goal.decreases-covers_all
decreases-covers_all r = r.splits
