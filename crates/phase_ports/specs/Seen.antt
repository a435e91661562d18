-- What an output port ought to have in a phase in which it is observed.
use Rattle.std.specs.Prelude.{ℕ, Bool, false, bytes_eq, cond, get_or, List, Option, Some, None, option_and_then, option_map, slice_get, unwrap_or}
use Rattle.phase_ports.specs.declared.port_list.Port.{Port}
use Rattle.phase_wishes.specs.declared.wishes.Wanted.TheVariants.{Signal}
use Rattle.phase_wishes.specs.declared.wishes.Wish.{Wish}
use Rattle.vrt_model.specs.CellRules.{is_observed_port}
use Rattle.vrt_model.specs.Comparison.{output_signal}
use Rattle.vrt_model.specs.declared.design.Cell.{Cell}
use Rattle.vrt_model.specs.declared.ids.Net.{Net}
use Rattle.vrt_model.specs.declared.rules.ObserveRule.{ObserveRule}
use Rattle.vrt_model.specs.declared.rules.Rules.{Rules}
use Rattle.vrt_model.specs.declared.verdict.FaultKind.TheVariants.{Differs}

-- the rule at a place is of the port
abbrev pub is_rule_of : List ObserveRule → List ℕ → ℕ → Bool
is_rule_of rules port place = unwrap_or (option_map (λ (r : ObserveRule). bytes_eq r.port port) (slice_get rules place)) false

-- the port's net ought to have the bit of the signal, where this don't-care bit, if there is one, is 0
abbrev pub output_wish : Port → ℕ → Option ℕ → Wish
output_wish p signal free =
    let net : Net = record { 0 = p.net } in
    record { kind = Differs; place = p.place; net = net; wanted = Signal signal; free = free }

-- what a port of the cell ought to have, if it is an output that is observed in the phase; the table has the don't-care bits of
-- signals
abbrev pub seen_wish : Rules → Cell → ℕ → List (Option ℕ) → Port → Option Wish
seen_wish rules cell phase bits p =
    option_and_then (λ (signal : ℕ). option_and_then (λ (name : List ℕ). cond (is_observed_port rules cell.name name phase) (Some (output_wish p signal (get_or bits signal None))) None) (slice_get cell.ports p.place)) (output_signal p.role)
