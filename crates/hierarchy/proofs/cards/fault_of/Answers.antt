use Rattle.std.proofs.Common.{inr, sym, ◌∙◌}
use Rattle.hierarchy.proofs.CardLaws.{fault_found, fault_unknown}
use Rattle.hierarchy.proofs.cards.fault_of.Goals as goal

pub returns-in-Some : goal.returns-in-Some
returns-in-Some c =
    inr (fault_found c.args.design.now c.args.names.now c.args.card.now c.as_bytes.result.now c.in-Some.number _ _ c.requires.names c.as_bytes.ensures (sym c.in-Some.ensures) (c.small.ensures ∙ c.len.ensures)
    (c.small-in-Some.ensures ∙ c.port_count.ensures))

pub returns-in-Ok : goal.returns-in-Ok
returns-in-Ok c =
    inr (fault_unknown c.args.design.now c.args.names.now c.args.card.now c.as_bytes.result.now c.in-Ok.name c.requires.names c.as_bytes.ensures (sym c.in_default.ensures) (c.in-Ok.ensures ∙ c.as_bytes-2.ensures))
