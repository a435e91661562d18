use Rattle.std.proofs.Common.{ap, ap₂, ◌∙◌, Some, None, Option, Bool, false, map, cond, bytes_eq}
use Rattle.std.specs.Prelude.{codes}
use Rattle.std.specs.Option.{option_or}
use Rattle.names.specs.Names.{with_names}
use Rattle.names.proofs.ApartLaws.{names_apart, once_is_all}
use Rattle.names.proofs.NameLaws.{names_once}
use Rattle.rule_index.specs.Tables.{declared_supply}
use Rattle.vrt_model.specs.Lists.{distinct}
use Rattle.vrt_model.specs.declared.design.Cell.{Cell}
use Rattle.net_tables.proofs.shared.SharedNames.fill.Goals as goal

pub returns : goal.returns
returns c = record {
  cells_are = c.in_ok-add_cells.ensures ∙ ap (λ cells. distinct (map (λ (x : Cell). x.name) cells)) c.as_slice.ensures
      ∙ once_is_all _ (names_apart (λ (x : Cell). x.name) c.args.design.now.cells c.requires.netlist.names);
  supplies_are = λ name. ap (λ (o : Option Bool). option_or o (cond (bytes_eq name (codes "0")) (Some false) None))
      (c.in_ok-note_supplies.ensures name ∙ ap (λ rules. declared_supply rules name) c.as_slice-2.ensures);
  globals_are = c.in_ok-add_all.ensures ∙ ap₂ with_names c.requires.fresh.globals c.as_slice-3.ensures
      ∙ names_once c.args.design.now.globals ∙ once_is_all c.args.design.now.globals c.requires.netlist.globals;
}
