use Rattle.std.proofs.Common.{◌<◌, ℕ, subst, sym, ◌∙◌}
use Rattle.net_places.proofs.GlobalLaws.{marked_alone}
use Rattle.net_places.specs.Globals.{all_nets}
use Rattle.net_places.proofs.globals.marks_of.Goals as goal

pub returns-clause-len : goal.returns-clause-len
returns-clause-len c = c.mark_all.ensures.len ∙ c.in_ok-marks.ensures.len

pub returns-clause-marked : goal.returns-clause-marked
returns-clause-marked c j lt =
    marked_alone (all_nets c.args.tables.now c.args.cell) c.in_ok-marks.marks.items c.mark_all.new.marks.items c.in_ok-marks.ensures.none c.mark_all.ensures j
    (subst (λ (n : ℕ). j < n) (sym c.in_ok-marks.ensures.len) lt)
