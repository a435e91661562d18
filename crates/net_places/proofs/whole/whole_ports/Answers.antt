use Rattle.std.proofs.Common.{◌∙◌, ◌≤◌, List, ℕ, ap, length, sym, subst}
use Rattle.std.proofs.lemmas.Result.{IfOk-weaker}
use Rattle.net_places.proofs.WholeLaws.{few_ports}
use Rattle.net_places.specs.Ports.{IsNumbered}
use Rattle.net_places.proofs.whole.whole_ports.Goals as goal

pub port_nets-requires : goal.port_nets-requires
port_nets-requires c =
    subst (λ (names : List (List ℕ)). length names ≤ 4096) (sym (c.as_slice-names.ensures ∙ ap (λ cell. cell.ports) c.cell_of.ensures))
    (few_ports c.args.design.now c.args.cell c.requires.netlist c.requires.there)

pub returns : goal.returns
returns c =
    IfOk-weaker c.port_nets.result _ _ (λ ports numbered.
    subst (λ (names : List (List ℕ)). IsNumbered c.args.rules.now names ports.nets ports.next) (c.as_slice-names.ensures ∙ ap (λ cell. cell.ports) c.cell_of.ensures)
    (numbered c.args.design.now c.args.rules.now c.requires.tables c.requires.there)) c.port_nets.ensures
