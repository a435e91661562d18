use Rattle.std.proofs.Common.{◌++◌, ap, ◌∙◌}
use Rattle.generator.specs.Forms.{for_each}
use Rattle.generator.specs.Texts.{top_cell}
use Rattle.generator.proofs.AppendLaws.{then}
use Rattle.generator.proofs.netlist.add_top.Goals as goal

pub returns : goal.returns
unfolding top_cell
returns c =
    let before = c.args.text.now in
    let size = c.args.size in
    let operands = c.in_ok-add_each.ensures ∙ ap (λ form. c.extend.new.self ++ for_each size form) c.operand_ports.ensures in
    let outputs = c.in_ok-add_each-2.ensures ∙ ap (λ form. c.add_each.new.text ++ for_each size form) c.output_ports.ensures in
    let cards = c.in_ok-add_each-3.ensures ∙ ap (λ form. c.extend-2.new.self ++ for_each size form) c.cards.ensures in
    then before _ _ _ _ (then before _ _ _ _ (then before _ _ _ _ (then before _ _ _ _ (then before _ _ _ _
    c.in_ok-extend.ensures operands) outputs) c.in_ok-extend-2.ensures) cards) c.in_ok-extend-3.ensures
