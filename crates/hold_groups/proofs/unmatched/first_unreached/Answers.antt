use Rattle.std.proofs.Common.{Bool, not, List, ap, arith, ◌∙◌}
use Rattle.std.specs.Prelude.{option_and_then, position, slice_get}
use Rattle.hold_groups.proofs.MarkLaws.{first_without}
use Rattle.hold_groups.proofs.unmatched.first_unreached.Goals as goal

pub returns : goal.returns
returns c names count =
    let marks : List Bool = c.mark_reached.new.marks.items in
    let len = c.mark_reached.ensures.len in
    let size = c.in_ok-marks.ensures.len in
    ap (option_and_then (slice_get names)) (c.first_unset.ensures ∙ ap (λ (ms : List Bool). position (λ (m : Bool). not m) ms) c.as_slice.ensures.value)
    ∙ first_without c.args.groups.now marks names (omega (arith, count, len, size)) (λ e lt. c.mark_reached.ensures.marked e (omega (arith, lt, len)))
