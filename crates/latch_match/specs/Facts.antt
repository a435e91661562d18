-- What the rules and the signals of a model say of a port, and what follows from it.
use Rattle.std.specs.Prelude.{ℕ, Bool, false, not, cond, nat_lt, ◌&&◌, ◌||◌, List, map, length, Option, Some, None, option_map, option_and_then, unwrap_or, is_some, is_none}
use Rattle.vrt_model.specs.CellRules.{clock_of_port, supply_of}
use Rattle.vrt_model.specs.PairedPorts.{is_assumed, port_rule, signal_of_port, signals_like}
use Rattle.vrt_model.specs.declared.design.Cell.{Cell}
use Rattle.vrt_model.specs.declared.flat_model.FlatModel.{FlatModel}
use Rattle.vrt_model.specs.declared.pairing.ClockedSignal.{ClockedSignal}
use Rattle.vrt_model.specs.declared.pairing.PortRole.{PortRole}
use Rattle.vrt_model.specs.declared.pairing.PortRole.TheVariants.{Supply, Clock, Input, Output}
use Rattle.vrt_model.specs.declared.rules.ClockRef.{ClockRef}
use Rattle.vrt_model.specs.declared.rules.Rules.{Rules}
use Rattle.latch_match.specs.declared.facts.PortFacts.{PortFacts}

abbrev pub port_facts : FlatModel → Rules → List ℕ → List ℕ → PortFacts
port_facts flat rules cell port = record {
  supply = supply_of rules port;
  clock = clock_of_port rules cell port;
  is_ruled = is_some (port_rule rules cell port);
  signal = signal_of_port flat rules cell port;
  fits_again = nat_lt 1 (length (signals_like flat port));
  is_assumed = is_assumed rules cell port;
}

abbrev pub all_facts : FlatModel → Rules → Cell → List PortFacts
all_facts flat rules cell = map (port_facts flat rules cell.name) cell.ports

-- the signal that a port pairs with
abbrev pub signal_paired : PortFacts → Option ℕ
signal_paired f = cond (is_some f.supply) None f.signal

-- the clock that a port gives its signal
abbrev pub clock_carried : PortFacts → Option ClockedSignal
clock_carried f =
    option_and_then (λ (clock : ClockRef). option_map (λ (s : ℕ). let one : ClockedSignal = record { signal = s; clock = clock } in one) (signal_paired f)) f.clock

-- the role of a port, by a test whether a signal is an output
abbrev pub role_from : (ℕ → Bool) → Option Bool → Option ClockRef → Option ℕ → Option PortRole
role_from is_output (Some value) clock signal = Some (Supply value)
role_from is_output None (Some clock) signal = Some (Clock clock)
role_from is_output None None (Some s) = Some (cond (is_output s) (Output s) (Input s))
role_from is_output None None None = None

abbrev pub role_in : (ℕ → Bool) → PortFacts → Option PortRole
role_in is_output f = role_from is_output f.supply f.clock f.signal

-- whether the signal that a port pairs with passes a test
abbrev pub leads_out : (ℕ → Bool) → PortFacts → Bool
leads_out test f = unwrap_or (option_map test (signal_paired f)) false

-- whether a port stands in the way, by tests whether a signal is an output and whether more than one port pairs with it
abbrev pub is_in_way : (ℕ → Bool) → (ℕ → Bool) → PortFacts → Bool
is_in_way is_output is_shared f =
    is_none (role_in is_output f)
    || (not (is_some f.supply) && not f.is_ruled && f.fits_again)
    || leads_out is_shared f
    || (f.is_ruled && is_none f.signal)
    || (is_some f.clock && (is_some f.supply || leads_out is_output f))
    || (leads_out is_output f && f.is_assumed)
