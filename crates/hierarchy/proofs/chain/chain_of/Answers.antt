use Rattle.std.proofs.Common.{List, Option, ap, is_some, subst, sym, ℕ, ◌∙◌}
use Rattle.std.specs.Prelude.{IfSome}
use Rattle.graphs.specs.Graphs.{AreInside, ArcIn}
use Rattle.vrt_model.specs.Known.{IsFirstCycle}
use Rattle.hierarchy.proofs.ChainLaws.{chain_told, none_around}
use Rattle.hierarchy.proofs.chain.chain_of.Goals as goal

pub first_cycle-requires : goal.first_cycle-requires
first_cycle-requires c = subst AreInside (sym (c.as_slice.ensures ∙ c.in_ok-sources.ensures)) (λ from to arc. c.requires.inside to from arc)

pub returns : goal.returns
returns c =
    chain_told c.args.inner.now c.as_slice.result.now c.args.number c.in-Some.nodes c.as_slice-in-Some.result.now c.in_ok-chain-in-Some.chain (c.as_slice.ensures ∙ c.in_ok-sources.ensures) c.requires.first
    (subst (λ (o : Option (List ℕ)). IfSome o (λ nodes. IsFirstCycle (ArcIn c.as_slice.result.now) nodes)) c.in-Some.is c.in_ok-found.ensures.found) c.as_slice-in-Some.ensures c.in_ok-chain-in-Some.ensures

pub unreachable-requires : goal.unreachable-requires
unreachable-requires c =
    none_around c.args.inner.now c.as_slice.result.now c.args.number (c.as_slice.ensures ∙ c.in_ok-sources.ensures) c.requires.first
    (c.in_ok-found.ensures.none (ap (λ (o : Option (List ℕ)). is_some o) c.in-None.is))
