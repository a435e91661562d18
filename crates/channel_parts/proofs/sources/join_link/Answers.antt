use Rattle.std.proofs.Common.{ℕ, Option, subst, sym, ◌∙◌}
use Rattle.std.specs.Prelude.{bytes_eq}
use Rattle.std.proofs.lemmas.Bool.{and_from, and_parts, false≢true}
use Rattle.std.proofs.lemmas.Result.{on_ok_weaker}
use Rattle.channel_parts.proofs.AddsLaws.{none_adds, same_adds}
use Rattle.channel_parts.specs.Groups.{net_owner}
use Rattle.channel_parts.specs.Links.{is_counted, link_target}
use Rattle.channel_parts.specs.Sources.{IsFromTo, IsLinkBetween}
use Rattle.known_nets.specs.Placed.{Adds}
use Rattle.channel_parts.proofs.sources.join_link.Goals as goal

pub returns-then-not-counts : goal.returns-then-not-counts
returns-then-not-counts c =
    let phase = c.args.phase.now in
    let known = c.args.known.now in
    let link = c.args.link.now in
    none_adds (IsLinkBetween c.args.circuit.now phase known c.args.least.now c.args.whole.now link) c.args.sources.now.items
    (λ f t arc. false≢true (sym c.if-not-counts.true ∙ c.counts.ensures ∙ and_from (bytes_eq link.phase phase.name) (is_counted known link) arc.stands arc.counted))

pub returns : goal.returns
returns c =
    let circuit = c.args.circuit.now in
    let phase = c.args.phase.now in
    let known = c.args.known.now in
    let least = c.args.least.now in
    let w = c.args.whole.now in
    let link = c.args.link.now in
    let old = c.args.sources.now.items in
    let new = c.join.new.sources.items in
    let source = net_owner circuit least link.from.0 in
    let owner = link_target circuit least w link in
    let both = and_parts (bytes_eq link.phase phase.name) (is_counted known link) (sym c.counts.ensures ∙ c.if-not-counts.false) in
    on_ok_weaker c.join.result
    (λ adds.
    same_adds (IsFromTo source owner) (IsLinkBetween circuit phase known least w link) old new
    (λ f t arc. record { stands = both.0; counted = both.1; between = arc })
    (λ f t arc. arc.between)
    (subst (λ (o : Option ℕ). Adds (IsFromTo source o) old new) c.link_target-owner.ensures
    (subst (λ (s : Option ℕ). Adds (IsFromTo s c.link_target-owner.result) old new) c.net_owner-source.ensures adds)))
    c.join.ensures
