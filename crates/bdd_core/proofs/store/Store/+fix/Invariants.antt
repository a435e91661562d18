use Rattle.bdd_core.proofs.store.Store.+fix.Given as goal

abbrev pub decreases-fix : goal.decreases-fix
decreases-fix l = l.f.0
