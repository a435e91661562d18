use Rattle.vrt_model.specs.Models.{network_of, own_fault}
use Rattle.blif_checks.proofs.JudgeLaws.{told_of}
use Rattle.blif_checks.proofs.judge.judge_model.Goals as goal

pub returns-in-Err : goal.returns-in-Err
returns-in-Err c =
    rw c.earlier_of.ensures
    (told_of (own_fault c.args.blif.now c.args.model.now) (own_fault c.args.blif.now (network_of c.args.model.now)) c.in-Err.fault c.judge_network-network.result c.in-Err.ensures c.judge_network-network.ensures)
