use Rattle.std.proofs.Common.{◌≡◌, true, Some, ap, sym, ◌∙◌}
use Rattle.known_nets.proofs.SpreadLaws.{end_is}
use Rattle.known_nets.specs.Conduction.{conduction_of}
use Rattle.known_nets.proofs.spread.end_over.Goals as goal

pub returns : goal.returns
returns c =
    let on : conduction_of c.args.known.now c.args.device.now ≡ Some true = sym c.in-Some.ensures ∙ ap Some c.if-not-on.false in
    end_is c.args.known.now c.args.device.now c.args.net c.other_end.result c.if-device.false on c.other_end.ensures
