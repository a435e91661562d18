-- When the outputs of an instance that would be whole are at plain nets without holds, and are allowed, by marks and counts at nets.
use Rattle.std.specs.Prelude.{◌≡◌, ℕ, ◌==◌, Bool, true, false, not, ◌&&◌, ◌||◌, List, length, map}
use Rattle.std.specs.List.{enumerate_from, list_all, list_any}
use Rattle.known_nets.specs.Incidence.{AreHeldMarks}
use Rattle.whole_circuits.specs.Counts.{AreCounts, HaveLevels, bears_all}
use Rattle.whole_circuits.specs.Taken.{AreTaken, admits, joins, taken_at}
use Rattle.whole_circuits.specs.declared.outputs.NetMarks.{NetMarks}
use Rattle.vrt_model.specs.Known.{IsHeld, IsPlain, is_plain_at}
use Rattle.vrt_model.specs.Lists.{Among, mark_at}
use Rattle.vrt_model.specs.WholeInstances.{OutputAt, is_output_allowed}
use Rattle.vrt_model.specs.declared.circuit.Circuit.{Circuit}
use Rattle.vrt_model.specs.declared.circuit.Device.{Device}
use Rattle.vrt_model.specs.declared.whole.Drive.{Drive}
use Rattle.vrt_model.specs.declared.whole.WholePin.{WholePin}

-- a channel of one of the devices ends at the net
abbrev pub meets : List Device → ℕ → Bool
meets devices n = list_any (λ (d : Device). (d.left.0 == n) || (d.right.0 == n)) devices

-- ---- pins

-- a pin with its place is at a net, and not at this place
abbrev pub is_other_at : ℕ → ℕ → ℕ × WholePin → Bool
is_other_at n at q = (q.1.net.0 == n) && not (q.0 == at)

-- it is not, or it may be met by one of a drive
abbrev pub joins_own : ℕ → ℕ → Drive → ℕ × WholePin → Bool
joins_own n at drive q = not (is_other_at n at q) || joins drive q.1.drive

abbrev pub joins_others : List WholePin → ℕ → ℕ → Drive → Bool
joins_others pins n at drive = list_all (joins_own n at drive) (enumerate_from 0 pins)

-- a pin is at a plain net without hold, and its drive bears the channels and joins the outputs there
abbrev pub open_pin : Circuit → NetMarks → List WholePin → ℕ × WholePin → Bool
open_pin c marks pins q =
    let n = q.1.net.0 in
    (is_plain_at c n && not (mark_at marks.held.items n))
    && ((bears_all marks.channels.items q.1.drive n && admits (taken_at marks.taken.items n) q.1.drive) && joins_others pins n q.0 q.1.drive)

abbrev pub are_open : Circuit → NetMarks → List WholePin → Bool
are_open c marks pins = list_all (open_pin c marks pins) (enumerate_from 0 pins)

-- ---- what this says

-- the output pins of an instance of a number, each at its place
abbrev pub output_at : ℕ → ℕ × WholePin → OutputAt
output_at number q = record { instance = number; output = q.0; pin = q.1 }

abbrev pub own_outputs : ℕ → List WholePin → List OutputAt
own_outputs number pins = map (output_at number) (enumerate_from 0 pins)

-- the marks are those of a circuit with these devices, and of the outputs of other instances than that of the number
pub record AreAround (c : Circuit) (marks : NetMarks) (devices : List Device) (earlier : List OutputAt) (number : ℕ) : Type 0 where
  pub held : AreHeldMarks c marks.held.items
  pub levels : HaveLevels c devices
  pub counts : AreCounts (length c.nets) devices marks.channels.items
  pub taken : AreTaken earlier marks.taken.items
  pub apart : (o : OutputAt) → Among earlier o → (o.instance == number) ≡ false

-- each of the outputs is at a plain net without hold, and is allowed
pub record AreOpen (c : Circuit) (devices : List Device) (outputs own : List OutputAt) : Type 0 where
  pub plain : (o : OutputAt) → Among own o → IsPlain c o.pin.net.0 × (¬ IsHeld c o.pin.net.0)
  pub allowed : (o : OutputAt) → Among own o → is_output_allowed devices outputs o ≡ true
