use Rattle.std.proofs.Common.{◌≡◌, Bool, List, true, drop, length, arith, subst, sym}
use Rattle.std.specs.Prelude.{◌↔◌}
use Rattle.std.proofs.lemmas.List.{take_at}
use Rattle.vrt_model.specs.Lists.{mark_at}
use Rattle.vrt_model.specs.Response.{Reaches}
use Rattle.plain_paths.proofs.marks.reached.Goals as goal

pub returns-clause-reached : goal.returns-clause-reached
returns-clause-reached c w over given held bounded has strong n =
    subst (λ (t : List Bool). (mark_at t n ≡ true) ↔ Reaches w n c.args.value)
    (sym (take_at c.mark_reached.new.marks (drop (length c.mark_reached.new.marks) c.in_ok-marks.marks.items) c.in_ok-marks.marks.len (omega arith)))
    (c.mark_reached.ensures w over given held bounded has strong n)
