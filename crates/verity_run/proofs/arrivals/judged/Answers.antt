use Rattle.std.proofs.Common.{◌∙◌, [], ℕ, ap, false, replicate}
use Rattle.vrt_model.specs.declared.whole.CellFacts.{CellFacts}
use Rattle.verity_run.proofs.arrivals.judged.Goals as goal

pub judge_all-requires-clause-known : goal.judge_all-requires-clause-known
judge_all-requires-clause-known c =
    let nothing : CellFacts = record { equal = false; stateless = false; drives = [] } in
    c.in_ok-known.ensures.facts ∙ ap (λ (n : ℕ). replicate n nothing) c.len.ensures
