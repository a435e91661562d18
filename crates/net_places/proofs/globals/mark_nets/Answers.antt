use Rattle.std.proofs.Common.{◌∷◌, []}
use Rattle.net_places.proofs.GlobalLaws.{begun, done, one, step}
use Rattle.net_places.proofs.globals.mark_nets.Goals as goal
use Rattle.vrt_model.proofs.Lists.{no_items}

pub nets-init : goal.nets-init
nets-init c = begun c.args.nets.now c.args.marks.now.items

pub nets-preserved : goal.nets-preserved
nets-preserved c =
    step c.args.nets.now (c.in-Some.net.now ∷ []) c.in-Some.behind.now c.nets.left.now c.args.marks.now.items c.nets.marks.items c.mark.new.marks.items c.in-Some.ensures.cases.0 c.nets.invariant
    (one c.in-Some.net.now c.nets.marks.items c.mark.new.marks.items c.mark.ensures.len c.mark.ensures.marked)

pub returns : goal.returns
returns c = done c.args.nets.now c.nets.left.now c.args.marks.now.items c.nets.marks.items (no_items _ c.in_default.ensures.cases) c.nets.invariant
