use Rattle.std.proofs.Common.{ℕ, List, Option, None, ap, refl, ◌∙◌}
use Rattle.std.specs.Prelude.{◌==◌, length}
use Rattle.std.proofs.lemmas.Bool.{eq-eqb}
use Rattle.std.proofs.lemmas.List.{length-replicate}
use Rattle.vrt_model.proofs.Members.{among_any}
use Rattle.vrt_model.specs.declared.ids.Net.{Net}
use Rattle.drive_levels.proofs.table.asking.Goals as goal

pub returns-clause-tables : goal.returns-clause-tables
returns-clause-tables c = record {
  asked = c.in_ok-asked.ensures.len;
  bare = ap (λ (xs : List (Option ℕ)). length xs) c.in_ok-bare.ensures ∙ length-replicate c.args.count None;
  kept = ap (λ (xs : List (Option ℕ)). length xs) c.in_ok-kept.ensures ∙ length-replicate c.args.count None;
}

pub returns-clause-asked : goal.returns-clause-asked
returns-clause-asked c = λ n m. c.in_ok-asked.ensures.is n.0 ∙ among_any (λ (x : Net). x.0 == n.0) c.args.nets.now n m (eq-eqb n.0 n.0 refl)
