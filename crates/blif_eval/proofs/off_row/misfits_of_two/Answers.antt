use Rattle.bdd_ops.proofs.CountingLaws.{counts_more}
use Rattle.blif_eval.proofs.CountLaws.{literals_turned}
use Rattle.vrt_model.specs.Budget.{literals_in}
use Rattle.blif_eval.proofs.off_row.misfits_of_two.Goals as goal

pub returns-clause-counts : goal.returns-clause-counts
returns-clause-counts c u reads =
    counts_more u _ (literals_in c.args.row.now) c.args.store.now c.misfits.new.store c.misfits.result (literals_turned c.args.row.now c.requires.width) (c.misfits.ensures.counts u reads)
