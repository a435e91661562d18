use Rattle.std.proofs.Common.{◌++◌, Option, ap, sym, ◌∙◌}
use Rattle.std.proofs.lemmas.List.{append-nil}
use Rattle.std.proofs.lemmas.Result.{on_ok_weaker}
use Rattle.circuit_faults.specs.Keys.{HasAllPorts, key_of}
use Rattle.vrt_model.proofs.Members.{all_among}
use Rattle.vrt_model.specs.declared.circuit.FlatInstance.{FlatInstance}
use Rattle.circuit_faults.proofs.step_keys.add_instance.Goals as goal

pub add_key-requires : goal.add_key-requires
add_key-requires c =
    all_among (HasAllPorts c.args.ranked.design.now) c.args.ranked.circuit.now.instances c.in-Some.instance.now c.requires (c.args.at, sym c.in-Some.ensures)

pub returns-in-Some : goal.returns-in-Some
returns-in-Some c =
    let old = c.args.keys.now.items in
    let ranked = c.args.ranked in
    on_ok_weaker c.add_key.result
    (λ e. e ∙ ap (λ (o : Option FlatInstance). old ++ key_of ranked.design.now ranked.rules.now ranked.phase ranked.ranks.now c.args.at o) c.in-Some.ensures) c.add_key.ensures

pub returns-in-None : goal.returns-in-None
returns-in-None c =
    let old = c.args.keys.now.items in
    let ranked = c.args.ranked in
    sym (append-nil old) ∙ ap (λ (o : Option FlatInstance). old ++ key_of ranked.design.now ranked.rules.now ranked.phase ranked.ranks.now c.args.at o) c.in-None.ensures
