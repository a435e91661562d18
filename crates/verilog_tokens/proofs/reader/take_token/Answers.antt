use Rattle.std.proofs.Common.{ap, arith, length}
use Rattle.verilog_tokens.specs.Signs.{sign_of}
use Rattle.verilog_tokens.proofs.StepLaws.{cut_less, cut_tokens}
use Rattle.verilog_tokens.proofs.reader.take_token.Goals as goal

pub returns-in-Some-clause-token : goal.returns-in-Some-clause-token
returns-in-Some-clause-token c = cut_tokens _ c.args.place.now.bytes.now _ _ _ _ c.in-Some.ensures.cases.0 c.cut_token-found.ensures

pub returns-in-Some-clause-room : goal.returns-in-Some-clause-room
returns-in-Some-clause-room c =
    omega (arith, ap length c.in-Some.ensures.cases.0, cut_less c.in-Some.first.now c.in-Some.behind.now (sign_of c.cut_token-found.result.kind c.cut_token-found.result.bytes.now) c.cut_token-found.result.rest.now c.cut_token-found.ensures)
