use Rattle.diagram_lists.proofs.list.+visit.Given as goal

abbrev pub decreases-visit : goal.decreases-visit
decreases-visit l = l.f.0
