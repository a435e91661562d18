use Rattle.std.proofs.Common.{None, ap, false}
use Rattle.blif_reader.specs.Refused.{known_by}
use Rattle.blif_reader.specs.declared.known.Known.{Known}
use Rattle.blif_reader.proofs.check.read_cards.Goals as goal

pub take_text-requires-clause-known : goal.take_text-requires-clause-known
unfolding known_by
take_text-requires-clause-known c = ap (λ models. let k : Known = record { models = models; is_inside = false; in_network = false; cover = None } in k) c.new.ensures
