use Rattle.arrival_lines.proofs.SettingLaws.{no_bits_told, no_names_told, valuation_told}
use Rattle.arrival_lines.proofs.settings.add_valuation.Goals as goal

pub returns-then-is_empty : goal.returns-then-is_empty
returns-then-is_empty c = no_names_told c.add_dash.result c.args.text.now c.add_dash.new.text c.args.names.now c.args.bits.now c.if-is_empty.ensures c.add_dash.ensures

pub returns-then-is_empty-2 : goal.returns-then-is_empty-2
returns-then-is_empty-2 c = no_bits_told c.add_dash-then-is_empty-2.result c.args.text.now c.add_dash-then-is_empty-2.new.text c.args.names.now c.args.bits.now c.if-is_empty-2.ensures c.add_dash-then-is_empty-2.ensures

pub returns : goal.returns
returns c = valuation_told c.add_settings.result c.args.text.now c.add_settings.new.text c.args.names.now c.args.bits.now c.if-is_empty.ensures c.if-is_empty-2.ensures c.add_settings.ensures
