use Rattle.std.proofs.Common.{◌≡◌, ◌<◌, ℕ, Bool, List, Option, Some, ◌⊎◌, false, ap₂, length, subst, sym, ◌∙◌}
use Rattle.std.specs.Prelude.{All}
use Rattle.channel_parts.specs.PartLists.{net_numbers}
use Rattle.known_nets.specs.KnownTables.{known_at}
use Rattle.plain_paths.specs.Local.{Shows, devices_at, filled_at, network_with}
use Rattle.vrt_model.specs.Lists.{Among}
use Rattle.vrt_model.specs.Path.{Network}
use Rattle.vrt_model.specs.declared.ids.Dev.{Dev}
use Rattle.vrt_model.specs.declared.ids.Net.{Net}
use Rattle.witness.proofs.SweepLaws.{stands_swept}
use Rattle.witness.specs.Looks.{is_stopped}
use Rattle.witness.specs.Views.{shown_by}
use Rattle.witness.proofs.sweeping.sweep_part.Goals as goal

pub note_nets-requires : goal.note_nets-requires
note_nets-requires c =
    subst (λ (nets : List Net). All (λ (net : Net). net.0 < length c.args.bits.now.items) nets) (sym c.as_slice-5.ensures)
    (subst (λ (k : ℕ). All (λ (net : Net). net.0 < k) c.args.part.now.nets) (sym c.requires.len) c.requires.nets)

pub returns-clause-swept : goal.returns-clause-swept
returns-clause-swept c phase setting rank given is reads roots swept =
    let circuit = c.args.circuit.now in
    let part = c.args.part.now in
    let old = c.args.bits.now.items in
    let new = c.note_nets.new.bits.items in
    let tables = c.raise.new.tables in
    let local : List Dev → Network = λ ks. network_with circuit (filled_at old) given setting.held (devices_at circuit ks) in
    let shows : Shows (local part.devices) tables =
    subst (λ (ks : List Dev). Shows (local ks) tables) c.as_slice-4.ensures
    (subst (λ (bs : List (Option Bool)). Shows (network_with circuit (filled_at bs) given setting.held (devices_at circuit c.as_slice-4.result.now)) tables) c.as_slice-3.ensures.value
    (c.in_ok-raise.ensures.signals given setting.held roots swept.roots)) in
    let ready : is_stopped circuit old part.devices ≡ false =
    sym (ap₂ (λ (bs : List (Option Bool)) (ks : List Dev). is_stopped circuit bs ks) c.as_slice.ensures.value c.as_slice-2.ensures) ∙ (sym c.is_stopped.ensures ∙ c.if-is_stopped.false) in
    let only : (n : ℕ) (v : Bool) → known_at new n ≡ Some v → (known_at old n ≡ Some v) ⊎ (Among (net_numbers part.nets) n × (shown_by tables n ≡ Some v)) =
    subst (λ (nets : List Net). (n : ℕ) (v : Bool) → known_at new n ≡ Some v → (known_at old n ≡ Some v) ⊎ (Among (net_numbers nets) n × (shown_by tables n ≡ Some v))) c.as_slice-5.ensures
    c.note_nets.ensures.only in
    record {
      stands = stands_swept circuit phase c.requires.flat setting rank part is old swept.stands given reads tables shows ready new c.note_nets.ensures.grown only;
      roots = c.restore.ensures.signals (filled_at old) given setting.held roots (subst (λ (ks : List Dev). Shows (local ks) tables) (sym c.as_slice-6.ensures) shows);
    }
