use Rattle.std.proofs.Common.{◌∙◌, sym}
use Rattle.std.proofs.lemmas.Result.{IfOk-weaker}
use Rattle.net_places.proofs.InstanceLaws.{instances_are, no_instances, small_behind}
use Rattle.net_places.proofs.instances.flat_instances.Goals as goal
use Rattle.vrt_model.proofs.Lists.{no_items}

pub instances_at-requires : goal.instances_at-requires
instances_at-requires c = small_behind c.args.unrolled.now.places c.in-Some.inner.now _ (sym c.as_slice.ensures ∙ c.in-Some.ensures.cases.0) c.requires

pub returns-in-Some : goal.returns-in-Some
returns-in-Some c =
    IfOk-weaker c.instances_at.result _ _ (λ instances are t is. are ∙ instances_are t c.args.unrolled.now _ c.in-Some.inner.now is (sym c.as_slice.ensures ∙ c.in-Some.ensures.cases.0)) c.instances_at.ensures

pub returns-in-None : goal.returns-in-None
returns-in-None c t is = c.new.ensures ∙ no_instances t c.args.unrolled.now is (sym c.as_slice.ensures ∙ no_items _ c.in-None.ensures.cases)
