use Rattle.net_places.proofs.WholeLaws.{named_by, nets_by}
use Rattle.net_places.proofs.whole.Unrolled.net.Goals as goal

pub returns : goal.returns
returns c t n at name is here there named same =
    c.place_net.ensures.net t at name (nets_by t c.args.self.now is n c.args.place.now at here there c.as_slice.result.now c.as_slice-2.result.now c.as_slice.ensures c.as_slice-2.ensures)
    (named_by t n at name there named) same
