use Rattle.std.proofs.Common.{◌≡◌, ◌+◌, ◌∙◌, ap, get_or}
use Rattle.std.proofs.lemmas.List.{get_or_read}
use Rattle.flat_sizes.proofs.StandLaws.{grown}
use Rattle.flat_sizes.specs.declared.stands.Stand.{Stand}
use Rattle.vrt_model.specs.Unsupported.{carried}
use Rattle.flat_sizes.proofs.stands.grow.Goals as goal

pub returns : goal.returns
returns c =
    let read : c.index.result.now ≡ get_or c.args.stands.now.items c.args.at c.args.stand = get_or_read c.args.stands.now.items c.args.at _ c.requires.there c.index.ensures c.args.stand in
    grown c.args.stands.now.items c.args.at c.args.stand.cell c.args.stand.count c.saturating_add-count.result c.args.stand c.requires.there c.requires.same
    (c.saturating_add-count.ensures ∙ ap (λ (s : Stand). carried (s.count + c.args.stand.count)) read)
