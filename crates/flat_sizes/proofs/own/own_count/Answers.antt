use Rattle.std.proofs.Common.{◌∙◌, ap, length}
use Rattle.flat_sizes.proofs.OwnLaws.{more_names, not_less, owns_are}
use Rattle.flat_sizes.specs.Mentions.{not_own}
use Rattle.names.specs.Names.{with_names}
use Rattle.vrt_model.specs.Unrolled.{mentions, own_nets}
use Rattle.flat_sizes.proofs.own.own_count.Goals as goal

pub more_than-requires : goal.more_than-requires
more_than-requires c =
    let names = not_own c.args.design.now c.args.rules.now c.args.cell.now in
    not_less (length names) (length (with_names names (mentions c.args.cell.now))) _ _ _ (c.len-before.ensures ∙ ap (λ xs. length xs) c.in_ok-add_not_own.ensures)
    (c.len.ensures ∙ ap (λ xs. length xs) (c.in_ok-add_mentions.ensures ∙ ap (λ xs. with_names xs (mentions c.args.cell.now)) c.in_ok-add_not_own.ensures))
    (more_names c.args.design.now c.args.rules.now c.args.cell.now)

pub returns : goal.returns
returns c =
    let names = not_own c.args.design.now c.args.rules.now c.args.cell.now in
    owns_are (length names) (length (with_names names (mentions c.args.cell.now))) (length (own_nets c.args.design.now c.args.rules.now c.args.cell.now)) _ _ _
    (c.len-before.ensures ∙ ap (λ xs. length xs) c.in_ok-add_not_own.ensures)
    (c.len.ensures ∙ ap (λ xs. length xs) (c.in_ok-add_mentions.ensures ∙ ap (λ xs. with_names xs (mentions c.args.cell.now)) c.in_ok-add_not_own.ensures))
    (more_names c.args.design.now c.args.rules.now c.args.cell.now) c.more_than.ensures
