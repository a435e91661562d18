use Rattle.std.proofs.Common.{ap, ◌∙◌}
use Rattle.std.specs.Prelude.{option_and_then, slice_get}
use Rattle.name_tables.proofs.FirstNotes.{first_is}
use Rattle.name_tables.proofs.firsts.FirstValues.get.Goals as goal

pub returns-in-Some : goal.returns-in-Some
returns-in-Some g c =
    c.get.ensures ∙ ap (option_and_then (slice_get c.args.self.now.values)) c.in-Some.ensures
    ∙ first_is c.args.self.now.names c.args.self.now.values c.args.name.now

pub returns-in-None : goal.returns-in-None
returns-in-None g c =
    ap (option_and_then (slice_get c.args.self.now.values)) c.in-None.ensures
    ∙ first_is c.args.self.now.names c.args.self.now.values c.args.name.now
