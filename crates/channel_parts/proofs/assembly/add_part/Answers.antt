use Rattle.std.proofs.Common.{List, [], ◌∷◌, ◌++◌, subst, sym, ◌∙◌}
use Rattle.std.specs.Prelude.{filter}
use Rattle.channel_parts.proofs.PartLaws.{made_head, made_other}
use Rattle.channel_parts.specs.Groups.{AreMade, is_head}
use Rattle.channel_parts.specs.declared.part.Part.{Part}
use Rattle.channel_parts.proofs.assembly.add_part.Goals as goal

pub returns-then-not-is_head : goal.returns-then-not-is_head
returns-then-not-is_head c order are =
    made_other c.args.nets.now c.args.devices.now order c.args.list.now c.args.pair (sym c.is_head.ensures ∙ c.if-not-is_head.true) are

pub returns : goal.returns
returns c order are =
    let nets = c.args.nets.now in
    let devices = c.args.devices.now in
    let pair = c.args.pair in
    subst (λ (list : List Part). AreMade nets devices (filter is_head (order ++ pair ∷ [])) list) (sym c.in_ok-append.ensures)
    (made_head nets devices order c.args.list.now pair c.in_ok-part.part (sym c.is_head.ensures ∙ c.if-not-is_head.false) are c.in_ok-part.ensures)
