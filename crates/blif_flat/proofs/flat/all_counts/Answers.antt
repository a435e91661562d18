use Rattle.std.proofs.Common.{subst, sym}
use Rattle.blif_flat.specs.Counts.{AreFlatCounts}
use Rattle.blif_flat.proofs.NetworkMade.{flat_counts}
use Rattle.blif_flat.proofs.flat.all_counts.Goals as goal

pub returns : goal.returns
returns c =
    subst (AreFlatCounts c.args.blif.now c.args.model) (sym c.counts_with.ensures)
    (flat_counts c.args.blif.now c.args.model c.counts_of.result c.args.names.now c.len.result c.network_rows-rows.result (c.counts_of.ensures c.args.blif.now c.requires.tables c.requires.subs) c.requires.names c.len.ensures
    c.network_rows-rows.ensures)
