-- The kinds of nets that are observed in a phase.
use Rattle.std.specs.Prelude.{◌<◌, ◌==◌, ◌&&◌, ◌||◌, ℕ, Bool, List}
use Rattle.std.specs.List.{list_any}
use Rattle.phase_wishes.specs.declared.wishes.Wish.{Wish}
use Rattle.vrt_model.specs.CellRules.{is_constrained}
use Rattle.vrt_model.specs.Comparison.{cell_at}
use Rattle.vrt_model.specs.declared.circuit.Circuit.{Circuit}
use Rattle.vrt_model.specs.declared.circuit.Device.{Device}
use Rattle.vrt_model.specs.declared.circuit.FlatInstance.{FlatInstance}
use Rattle.vrt_model.specs.declared.circuit.Hold.{Hold}
use Rattle.vrt_model.specs.declared.design.Design.{Design}
use Rattle.vrt_model.specs.declared.ids.Net.{Net}
use Rattle.vrt_model.specs.declared.rules.Rules.{Rules}
use Rattle.vrt_model.specs.declared.whole.Whole.{Whole}
use Rattle.vrt_model.specs.declared.whole.WholePin.{WholePin}

-- the net is the gate of one of the devices
abbrev pub has_gate : List Device → ℕ → Bool
has_gate devices n = list_any (λ (d : Device). d.gate.0 == n) devices

-- one of the holds is at the net
abbrev pub has_hold : List Hold → ℕ → Bool
has_hold holds n = list_any (λ (h : Hold). h.net.0 == n) holds

-- one of the wishes is at the net
abbrev pub has_wish : List Wish → ℕ → Bool
has_wish wishes n = list_any (λ (w : Wish). w.net.0 == n) wishes

-- the net is one of these
abbrev pub has_net : List Net → ℕ → Bool
has_net nets n = list_any (λ (m : Net). m.0 == n) nets

-- the net is at a port of the instance, whose cell has an `assume` or a `clockport` rule
abbrev pub has_port : Design → Rules → ℕ → FlatInstance → Bool
has_port design rules n i = is_constrained rules (cell_at design i.cell).name && has_net i.ports n

-- the same of one of the instances
abbrev pub has_constrained : Design → Rules → List FlatInstance → ℕ → Bool
has_constrained design rules instances n = list_any (has_port design rules n) instances

-- the net is at a pin that is observed inside
abbrev pub has_pin : List WholePin → ℕ → Bool
has_pin pins n = list_any (λ (p : WholePin). p.observed && p.net.0 == n) pins

-- the same of an input of one of the whole instances
abbrev pub has_whole : List Whole → ℕ → Bool
has_whole wholes n = list_any (λ (w : Whole). has_pin w.inputs n) wholes

-- the net of the pin is one of so many
abbrev pub IsPinWithin : ℕ → WholePin → Type 0
IsPinWithin count p = p.net.0 < count

-- the net is of one of these kinds
abbrev pub has_any : Design → Rules → Circuit → List Wish → ℕ → Bool
has_any design rules c outputs n =
    has_gate c.devices n || has_hold c.holds n || has_wish outputs n || has_constrained design rules c.instances n || has_whole c.wholes n
