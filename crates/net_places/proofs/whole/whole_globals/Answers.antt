use Rattle.std.proofs.Common.{◌∙◌, ◌<◌, sym, subst, ℕ}
use Rattle.net_places.proofs.WholeLaws.{both_ok, numbered_is, numbered_room}
use Rattle.net_places.proofs.whole.whole_globals.Goals as goal

pub global_nets-requires : goal.global_nets-requires
global_nets-requires c =
    numbered_room c.args.design.now c.args.rules.now c.args.tables.now c.requires.tables c.args.cell c.requires.netlist c.args.first c.in_ok-marks.marks.items c.as_slice.result.now c.as_slice.ensures.value
    c.requires.first c.requires.small (c.in_ok-marks.ensures.len ∙ c.len.ensures) (λ j lt. c.in_ok-marks.ensures.marked j (subst (λ (n : ℕ). j < n) (sym c.len.ensures) lt))

pub returns : goal.returns
returns c =
    both_ok c.global_nets.result _ _ _ (λ globals nets next.
    numbered_is c.args.design.now c.args.rules.now c.args.tables.now c.requires.tables c.args.cell c.requires.netlist c.args.first c.in_ok-marks.marks.items c.as_slice.result.now c.as_slice.ensures.value
    c.requires.first (c.in_ok-marks.ensures.len ∙ c.len.ensures) (λ j lt. c.in_ok-marks.ensures.marked j (subst (λ (n : ℕ). j < n) (sym c.len.ensures) lt)) globals.nets globals.next nets next) c.global_nets.ensures.nets c.global_nets.ensures.next
