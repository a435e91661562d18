use Rattle.verity_cli.proofs.run_once.Goals as goal

pub returns : goal.returns
returns g c = (c.run.result, c.code.ensures, c.run.ensures.answers)
