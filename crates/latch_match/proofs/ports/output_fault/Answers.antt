use Rattle.std.proofs.Common.{ap, option_map, sym, ◌∙◌}
use Rattle.vrt_model.specs.Elements.{signal_name}
use Rattle.latch_match.specs.Paired.{output_in}
use Rattle.latch_match.proofs.GivenLaws.{tells_output}
use Rattle.latch_match.proofs.ports.output_fault.Goals as goal

pub returns-in-Some : goal.returns-in-Some
returns-in-Some c = λ way e.
    tells_output way (output_in c.args.flat.now c.args.paired.now) c.in-Some.name.now c.refused_output.result e
    (c.in-Some.ensures ∙ ap (option_map (signal_name c.args.flat.now)) c.output_in_way.ensures) c.refused_output.ensures

pub returns-in-None : goal.returns-in-None
returns-in-None c = λ way e. (e, sym (c.in-None.ensures ∙ ap (option_map (signal_name c.args.flat.now)) c.output_in_way.ensures))
