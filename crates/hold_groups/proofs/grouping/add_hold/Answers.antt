use Rattle.std.proofs.Common.{List, ℕ, ap, ◌∙◌, ◌≡◌, Some}
use Rattle.std.proofs.lemmas.Result.{on_ok_weaker}
use Rattle.names.specs.Names.{with_name}
use Rattle.vrt_model.specs.Groups.{Placed}
use Rattle.hold_groups.proofs.GroupingLaws.{hold_added}
use Rattle.hold_groups.specs.Grouped.{key_of}
use Rattle.hold_groups.proofs.grouping.add_hold.Goals as goal

pub returns : goal.returns
returns c =
    let h : Placed = record { place = c.args.place; hold = c.args.hold.now } in
    let is : c.as_bytes.result.now ≡ key_of h.hold.end = c.as_bytes.ensures ∙ c.in_ok-key.ensures in
    on_ok_weaker c.add_member.result
    (λ joins. λ (done : List Placed). λ are.
    hold_added c.args.elements.now.list done h c.args.keys.now c.number.new.self c.args.groups.now.items c.add_member.new.groups.items c.in_ok-number.number c.requires.small are
    (c.in_ok-number.ensures.names ∙ ap (with_name c.args.keys.now) is) (c.in_ok-number.ensures.place ∙ ap (λ (name : List ℕ). Some name) is) joins)
    c.add_member.ensures
