use Rattle.std.proofs.Common.{ℕ, List, ap, ◌∙◌}
use Rattle.std.specs.Prelude.{option_and_then, slice_get}
use Rattle.rule_index.proofs.PlacedLaws.{first_placed}
use Rattle.rule_index.specs.Lines.{places_in}
use Rattle.vrt_model.specs.declared.rules.PairRule.{PairRule}
use Rattle.prepared_tables.proofs.pairs.rule_by.Goals as goal

pub returns-in-Some : goal.returns-in-Some
returns-in-Some c =
    c.get.ensures ∙ ap (option_and_then (slice_get c.args.rules.now)) c.in-Some.ensures.value ∙ ap (λ (ps : List ℕ). option_and_then (slice_get c.args.rules.now) (slice_get ps 0)) c.places.ensures
    ∙ first_placed (λ (r : PairRule). r.cell) c.args.rules.now (places_in c.args.lines.now c.args.cell.now) c.args.cell.now (c.requires c.args.cell.now)

pub returns-in-None : goal.returns-in-None
returns-in-None c =
    ap (option_and_then (slice_get c.args.rules.now)) c.in-None.ensures.value ∙ ap (λ (ps : List ℕ). option_and_then (slice_get c.args.rules.now) (slice_get ps 0)) c.places.ensures
    ∙ first_placed (λ (r : PairRule). r.cell) c.args.rules.now (places_in c.args.lines.now c.args.cell.now) c.args.cell.now (c.requires c.args.cell.now)
