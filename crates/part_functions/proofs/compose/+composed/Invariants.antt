use Rattle.part_functions.proofs.compose.+composed.Given as goal

abbrev pub decreases-composed : goal.decreases-composed
decreases-composed l = l.f.0
