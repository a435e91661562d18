use Rattle.std.proofs.Common.{ap, not, sym, ◌∙◌}
use Rattle.vrt_model.specs.Hierarchy.{is_good_card}
use Rattle.hierarchy.proofs.CardLaws.{bad_in, fault_told, few_nets}
use Rattle.hierarchy.proofs.cards.check_cards.Goals as goal

pub fault_of-requires-clause-nets : goal.fault_of-requires-clause-nets
fault_of-requires-clause-nets c =
    few_nets c.args.design.now c.in-Some.card.now c.requires.design (sym (c.in-Some.ensures ∙ ap (bad_in (λ i. not (is_good_card c.args.design.now i))) c.as_slice.ensures))

pub returns-in-Some : goal.returns-in-Some
returns-in-Some c =
    fault_told c.args.design.now c.in-Some.card.now c.fault_of.result (sym (c.in-Some.ensures ∙ ap (bad_in (λ i. not (is_good_card c.args.design.now i))) c.as_slice.ensures)) c.fault_of.ensures
