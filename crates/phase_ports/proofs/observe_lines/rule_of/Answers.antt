use Rattle.std.proofs.Common.{List, ap, ◌∙◌}
use Rattle.std.specs.Prelude.{bytes_eq, find, map, option_and_then, slice_get}
use Rattle.phase_ports.specs.Seen.{is_rule_of}
use Rattle.rule_index.proofs.PlacedLaws.{found_placed}
use Rattle.rule_index.specs.Lines.{places_in}
use Rattle.vrt_model.specs.declared.rules.ObserveRule.{ObserveRule}
use Rattle.phase_ports.proofs.observe_lines.rule_of.Goals as goal

pub returns : goal.returns
returns c =
    let rules = c.args.rules.now.observes in
    let places = c.places-places.result.now in
    c.rule_among.ensures
    ∙ ap (λ (rs : List ObserveRule). option_and_then (slice_get rs) (find (is_rule_of rs c.args.port.now) places)) c.as_slice.ensures
    ∙ found_placed (λ (r : ObserveRule). r.cell) (λ (r : ObserveRule). bytes_eq r.port c.args.port.now) rules places c.args.cell.now
    (ap (map (slice_get rules)) (c.places-places.ensures ∙ ap (places_in c.args.index.now.lines.ports.observes) c.as_bytes.ensures) ∙ c.requires.tables.lines_are.ports.observes c.args.cell.now)
