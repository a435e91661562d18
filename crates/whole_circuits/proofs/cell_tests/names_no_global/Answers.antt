use Rattle.std.proofs.Common.{List, length, arith, ap, sym, ◌∙◌}
use Rattle.whole_circuits.proofs.CellLaws.{none_named, some_named}
use Rattle.whole_circuits.specs.CellTests.{is_zero_at}
use Rattle.vrt_model.specs.declared.design.Design.{Design}
use Rattle.vrt_model.specs.declared.ids.Net.{Net}
use Rattle.whole_circuits.proofs.cell_tests.names_no_global.Goals as goal

pub returns-then-not-is_zero_at : goal.returns-then-not-is_zero_at
returns-then-not-is_zero_at c t same is =
    let at = c.loop-at.at in
    let count = ap (λ (d : Design). length d.globals) same in
    let len = c.len-at-end.ensures in
    let lt = c.loop-at-test.true in
    sym (some_named t c.args.unrolled.now.globals is.others_are at (omega (arith, count, len, lt))
    (sym (c.if-not-is_zero_at.ensures ∙ ap (λ (ns : List Net). is_zero_at ns at) c.as_slice-nets.ensures)))

pub returns : goal.returns
returns c t same is =
    let count = ap (λ (d : Design). length d.globals) same in
    let len = c.len-at-end.ensures in
    let end = c.loop-at-test.false in
    sym (none_named t c.args.unrolled.now.globals is.globals_are (λ j lt. c.loop-at.invariant j (omega (arith, count, len, end, lt))))
