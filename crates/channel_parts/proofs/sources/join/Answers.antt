use Rattle.std.proofs.Common.{Some, ap, sym, ◌∙◌}
use Rattle.std.proofs.lemmas.Option.{none-some, same_Some}
use Rattle.std.proofs.lemmas.Result.{on_ok_weaker}
use Rattle.channel_parts.proofs.AddsLaws.{none_adds, same_adds}
use Rattle.channel_parts.specs.Sources.{IsFromTo}
use Rattle.known_nets.specs.Placed.{IsArc}
use Rattle.channel_parts.proofs.sources.join.Goals as goal

pub returns-in_default : goal.returns-in_default
returns-in_default c =
    none_adds (IsFromTo c.args.source c.args.owner) c.args.sources.now.items (λ f t arc. none-some f (sym c.in_default.is ∙ arc.0))

pub returns-in_default-owner : goal.returns-in_default-owner
returns-in_default-owner c =
    none_adds (IsFromTo c.args.source c.args.owner) c.args.sources.now.items (λ f t arc. none-some t (sym c.in_default-owner.is ∙ arc.1))

pub returns : goal.returns
returns c =
    on_ok_weaker c.lead.result
    (same_adds (IsArc c.in-Some.from c.in-Some-owner.to) (IsFromTo c.args.source c.args.owner) c.args.sources.now.items c.lead.new.graph.items
    (λ f t arc. (c.in-Some.is ∙ ap Some (sym arc.0), c.in-Some-owner.is ∙ ap Some (sym arc.1)))
    (λ f t arc. (same_Some f c.in-Some.from (sym arc.0 ∙ c.in-Some.is), same_Some t c.in-Some-owner.to (sym arc.1 ∙ c.in-Some-owner.is))))
    c.lead.ensures
