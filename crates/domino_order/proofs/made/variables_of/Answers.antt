use Rattle.std.proofs.Common.{◌∙◌}
use Rattle.std.proofs.lemmas.Option.{slice_get-get_or}
use Rattle.phase_open.specs.Given.{variable_at}
use Rattle.domino_order.proofs.MadeLaws.{variables_more}
use Rattle.domino_order.proofs.made.variables_of.Goals as goal

pub loop-net-preserved : goal.loop-net-preserved
loop-net-preserved c =
    c.in_ok-append.ensures
    ∙ variables_more (variable_at c.args.circuit.now) c.args.nets.now c.loop-net.net-index _ _ c.loop-net.variables
    (slice_get-get_or c.args.nets.now c.loop-net.net-index _ c.loop-net-test.true) c.loop-net.invariant c.in_ok-variable_of.ensures
