use Rattle.std.proofs.Common.{ℕ, ◌∙◌, ap}
use Rattle.constraints.proofs.PortLaws.{port_by_port}
use Rattle.constraints.specs.Handles.{handle_of_net}
use Rattle.constraints.proofs.given_ports.given_handle.Goals as goal

pub returns : goal.returns
returns c =
    let given = c.args.given in
    c.handle_of_net.ensures
    ∙ ap (λ (n : ℕ). handle_of_net c.args.store.now.words given.circuit.now given.bits.now given.values n) (c.port_net-net.ensures ∙ port_by_port given.rules.now c.args.name.now given.names.now)
