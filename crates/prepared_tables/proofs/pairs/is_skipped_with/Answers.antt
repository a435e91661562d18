-- The name is that of the cell.
use Rattle.std.proofs.Common.{◌≡◌, ◌↔◌, List, ℕ, subst}
use Rattle.std.specs.Prelude.{IsTrue, bytes_eq, find}
use Rattle.vrt_model.specs.PairedPorts.{Skipped, paired_by}
use Rattle.vrt_model.specs.declared.rules.PairRule.{PairRule}
use Rattle.prepared_tables.proofs.pairs.is_skipped_with.Goals as goal

pub returns : goal.returns
returns c = λ blif.
    let P : List ℕ → Type 0 = λ name.
    IsTrue c.is_left_out.result ↔ (paired_by blif name (find (λ (r : PairRule). bytes_eq r.cell name) c.args.rules.now.pairs) ≡ Skipped) in
    subst P c.name_of.ensures (c.is_left_out.ensures blif)
