use Rattle.std.proofs.Common.{length, ap, arith}
use Rattle.model_writer.specs.Shapes.{shaped_model}
use Rattle.model_writer.proofs.LengthLaws.{interface_length}
use Rattle.model_writer.proofs.counts.interface_length.Goals as goal

pub returns : goal.returns
returns c =
    let name = ap length c.as_bytes.ensures in
    omega (
      arith,
      interface_length (shaped_model c.args.lines),
      name,
      c.in_ok-inputs.ensures,
      c.in_ok-clocks.ensures,
      c.in_ok-outputs.ensures,
      c.in_ok-before.ensures,
      c.in_ok-behind.ensures,
      c.in_ok-count.ensures,
    )
