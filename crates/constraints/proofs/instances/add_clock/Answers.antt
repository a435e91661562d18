use Rattle.std.proofs.Common.{◌≡◌, ℕ, List, true, ap, sym, ◌∙◌}
use Rattle.std.specs.Prelude.{bytes_eq}
use Rattle.constraints.proofs.StepLaws.{clock_added}
use Rattle.constraints.specs.Handles.{handle_in}
use Rattle.constraints.proofs.instances.add_clock.Goals as goal

pub returns : goal.returns
returns c =
    let handle : List ℕ → ℕ = handle_in c.args.store.now.words c.args.ports in
    let ours : bytes_eq c.args.rule.now.cell c.args.cell.now ≡ true = sym c.is_of.ensures ∙ c.if-not-is_of.false in
    clock_added c.args.store.now c.add_bit.new.store handle c.args.cell.now c.args.bits.now c.args.rule.now c.args.all c.handle_of-port.result c.clock_in.result c.add_bit.result ours
    (c.handle_of-port.ensures ∙ ap handle c.as_bytes.ensures) c.clock_in.ensures c.add_bit.ensures.gives c.add_bit.ensures.counts
