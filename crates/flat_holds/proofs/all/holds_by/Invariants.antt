use Rattle.std.proofs.Common.{◌≡◌, ◌++◌, ◌-◌, List}
use Rattle.flat_holds.specs.Falls.{holds_from}
use Rattle.net_places.specs.Whole.{whole_of}
use Rattle.vrt_model.specs.declared.pairing.PortRole.{PortRole}
use Rattle.flat_holds.proofs.all.holds_by.Given as goal

-- the holds so far, and those of the nets that are left
abbrev pub invariant-nets : goal.invariant-nets
invariant-nets l = (roles : List PortRole) → l.holds ++ holds_from (whole_of l.design l.rules l.cell roles) l.net (l.nets - l.net) ≡ holds_from (whole_of l.design l.rules l.cell roles) 0 l.nets

abbrev pub decreases-nets : goal.decreases-nets
decreases-nets l = l.nets - l.net
