-- The bits with which a replay begins, and tables of bits that grow by what nets show.
use Rattle.std.specs.Prelude.{◌≡◌, ℕ, ◌<◌, ◌≤◌, ◌⊎◌, Bool, true, false, cond, List, Option, Some, is_some, length, option_map, slice_get, unwrap_or}
use Rattle.known_nets.specs.KnownTables.{known_at}
use Rattle.known_nets.specs.Learned.{unknown}
use Rattle.plain_paths.specs.Local.{ShowsRoots}
use Rattle.plain_paths.specs.declared.signals.Signals.{Signals}
use Rattle.vrt_model.specs.Lists.{At, bit_at}
use Rattle.vrt_model.specs.State.{Setting}
use Rattle.vrt_model.specs.Variables.{is_input}
use Rattle.vrt_model.specs.declared.circuit.Circuit.{Circuit}
use Rattle.vrt_model.specs.declared.circuit.FlatNet.{FlatNet}
use Rattle.vrt_model.specs.declared.rules.Phase.{Phase}
use Rattle.witness.specs.Replays.{HasGivenBits, HasKnownNets, HasSeen, bits_shown, input_place}
use Rattle.witness.specs.declared.seen.Seen.{Seen}
use Rattle.witness.specs.declared.seen.Seen.TheVariants.{Bit}

-- ---- the start

-- whether the net is there and an input
abbrev pub is_input_at : Circuit → ℕ → Bool
is_input_at c n = unwrap_or (option_map (λ (net : FlatNet). is_input net.kind) (slice_get c.nets n)) false

-- the bit of an input, and of another net that which is known
abbrev pub start_of : Circuit → List (Option Bool) → List Bool → ℕ → Option Bool
start_of c known inputs n = cond (is_input_at c n) (Some (bit_at inputs (input_place c n))) (known_at known n)

-- ---- rounds

-- the bits that the first nets show were noted where there was none
pub record HasNoted (more : Bool) (bound : ℕ) (seen : List Seen) (old new : List (Option Bool)) : Type 0 where
  pub size : length new ≡ length old
  pub grown : (n : ℕ) (v : Bool) → known_at old n ≡ Some v → known_at new n ≡ Some v
  pub found : (n : ℕ) → n < bound → is_some (bits_shown seen n) ≡ true → is_some (known_at new n) ≡ true
  pub only : (n : ℕ) (v : Bool) → known_at new n ≡ Some v → (known_at old n ≡ Some v) ⊎ (bits_shown seen n ≡ Some v)
  pub same : more ≡ false → new ≡ old
  pub falls : unknown new ≤ unknown old
  pub less : more ≡ true → unknown new < unknown old

-- the given and the known nets have their bits, and nets show the bits that they have
pub record Stands (c : Circuit) (phase : Phase) (setting : Setting) (bits : ℕ → Option Bool) : Type 0 where
  pub given : HasGivenBits c phase setting.inputs bits
  pub known : HasKnownNets c phase bits
  pub shown : (n : ℕ) (v : Bool) → bits n ≡ Some v → HasSeen c phase setting bits true n (Bit v)

-- the bits stand, and tables have the signals of the roots alone
pub record IsSwept (c : Circuit) (phase : Phase) (setting : Setting) (given : ℕ → Bool) (bits : ℕ → Option Bool) (tables : Signals) : Type 0 where
  pub stands : Stands c phase setting bits
  pub roots : ShowsRoots c given setting.held tables

-- this is what the nets show at these bits, and the bits are those that they show
pub record IsSettled (c : Circuit) (phase : Phase) (setting : Setting) (bits : ℕ → Option Bool) (list : List Seen) : Type 0 where
  pub count : length list ≡ length c.nets
  pub stands : Stands c phase setting bits
  pub same : (n : ℕ) → bits n ≡ bits_shown list n
  pub seen : (n : ℕ) (seen : Seen) → At list n seen → HasSeen c phase setting bits true n seen
