-- Comparisons over the circuits of a chain.
use Rattle.std.proofs.Common.{ℕ, Bool, Option, ap, sym, ◌∙◌}
use Rattle.checked_chain.proofs.SettingLaws.{constraints_are_same, enter_same, groups_of_chain, holds_of_chain, settings_are_same}
use Rattle.replaced_cells.specs.Chain.{ChainKeepsValuations}

pub chain_keeps_valuations : ChainKeepsValuations
chain_keeps_valuations k blif facts cut next c d one two =
    let first = holds_of_chain k blif facts cut c one in
    let last = holds_of_chain k blif facts next d two in (
      record {
        nets = last.nets ∙ sym first.nets;
        enters = λ phase i. ap (λ (f : ℕ → Option Bool). f i) (enter_same d k.circuit last phase ∙ sym (enter_same c k.circuit first phase));
        held_groups = groups_of_chain k blif facts next d two ∙ sym (groups_of_chain k blif facts cut c one);
      },
      record {
        settings = λ phase bits. (settings_are_same k blif facts next d two phase bits).1 ∙ sym (settings_are_same k blif facts cut c one phase bits).1;
        meets = λ phase bits.
            let here = constraints_are_same k blif facts cut c one phase bits in
            let there = constraints_are_same k blif facts next d two phase bits in
            (λ m. here.1 (there.0 m), λ m. there.1 (here.0 m));
      },
    )
