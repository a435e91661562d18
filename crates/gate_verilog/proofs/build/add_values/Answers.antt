use Rattle.std.proofs.Common.{map, subst, sym}
use Rattle.gate_verilog.specs.Built.{AddsEntries}
use Rattle.gate_verilog.proofs.BuildLaws.{entry_first, none_added}
use Rattle.gate_verilog.proofs.build.add_values.Goals as goal
use Rattle.verilog_expression.specs.Grammar.{seen}
use Rattle.verilog_source.specs.Modules.Entry.{assigned}
use Rattle.vrt_model.proofs.Lists.{no_items}

pub values-init : goal.values-init
values-init c = (λ new a. a, c.requires)

pub values-preserved : goal.values-preserved
values-preserved c = (
  λ new a. c.values.invariant.0 new
      (subst (λ xs. AddsEntries (map (λ e. assigned c.args.line c.args.net.now (seen e)) xs) c.values.draft new) (sym c.in-Some.ensures.cases.0)
      (entry_first (assigned c.args.line c.args.net.now (seen c.in-Some.value.now)) (map (λ e. assigned c.args.line c.args.net.now (seen e)) c.in-Some.behind.now) c.values.draft
      c.add_assigned.new.self new c.in_ok-add_assigned.ensures a)),
  c.in_ok-add_assigned.ensures.even,
)

pub returns : goal.returns
returns c =
    c.values.invariant.0 _ (subst (λ xs. AddsEntries (map (λ e. assigned c.args.line c.args.net.now (seen e)) xs) c.values.draft c.values.draft) (sym (no_items _ c.in_default.ensures.cases))
    (none_added c.values.draft))
