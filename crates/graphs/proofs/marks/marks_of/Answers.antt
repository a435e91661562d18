use Rattle.std.proofs.Common.{◌≡◌, Bool, true, List, drop, length, arith, subst, sym}
use Rattle.std.proofs.lemmas.List.{take_at}
use Rattle.graphs.proofs.GroupLaws.{cycles_stay}
use Rattle.graphs.specs.Groups.{is_marked}
use Rattle.graphs.proofs.marks.marks_of.Goals as goal

pub returns : goal.returns
returns c n others cycle =
    let marks = c.mark_stays.new.marks in
    subst (λ (t : List Bool). is_marked t n ≡ true)
    (sym (take_at marks (drop (length marks) c.in_ok-marks.marks.items) c.in_ok-marks.marks.len (omega arith)))
    (cycles_stay c.args.sources.now c.as_slice-groups.result.now marks (c.none_falls.ensures c.if-not-none_falls.false) c.mark_stays.ensures n others cycle)
