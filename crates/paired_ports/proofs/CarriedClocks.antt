-- The signals of a model that carry clocks, and that each input and clock carries one or is the input of a port.
use Rattle.std.proofs.Common.{◌≡◌, ℕ, ◌⊎◌, ◌&&◌, Bool, true, false, not, cond, List, ◌++◌, Option, Some, None, map, ap, ap₂, subst, sym, refl, ◌∙◌, inl, inr}
use Rattle.std.specs.Prelude.{filter, filter_map, option_and_then, option_map}
use Rattle.std.proofs.lemmas.Bool.{false≢true}
use Rattle.std.proofs.lemmas.Option.{none-some, same_Some}
use Rattle.paired_ports.proofs.FreePorts.{AreFree, IsInputPort, clock_apart, no_output, one_port, paired_parts, paired_there, signal_there}
use Rattle.paired_ports.proofs.GivenLists.{number_among}
use Rattle.vrt_model.proofs.Filtered.{filter_among}
use Rattle.vrt_model.proofs.Lists.{among_filter_map, filter_map_among}
use Rattle.vrt_model.proofs.Members.{among_either, among_left, among_map}
use Rattle.vrt_model.specs.CellRules.{clock_of_port, supply_of}
use Rattle.vrt_model.specs.Elements.{signal_name}
use Rattle.vrt_model.specs.Lists.{Among, At, has_number, place_of}
use Rattle.vrt_model.specs.PairedPorts.{clocked_by_name, clocked_port, clocked_signals, paired_signal, paired_signals, role_by, role_of, signal_of_port, upright}
use Rattle.vrt_model.specs.declared.design.Cell.{Cell}
use Rattle.vrt_model.specs.declared.flat_model.FlatModel.{FlatModel}
use Rattle.vrt_model.specs.declared.pairing.ClockedSignal.{ClockedSignal}
use Rattle.vrt_model.specs.declared.pairing.PortRole.TheVariants.{Input, Output}
use Rattle.vrt_model.specs.declared.rules.ClockRef.{ClockRef}
use Rattle.vrt_model.specs.declared.rules.Rules.{Rules}

-- a signal that carries a clock: by a port, or by its name where no port pairs with it
pub data Carries (flat : FlatModel) (rules : Rules) (cell : Cell) (c : ClockedSignal) : Type 0 where
  by_port :
      (at : ℕ) (port : List ℕ) → At cell.ports at port → clock_of_port rules cell.name port ≡ Some c.clock → paired_signal flat rules cell.name port ≡ Some c.signal
      → Carries flat rules cell c
  by_name :
      Among (flat.inputs ++ flat.clocks) c.signal → has_number (paired_signals flat rules cell) c.signal ≡ false → clocked_by_name flat rules c.signal ≡ Some c
      → Carries flat rules cell c

module _ (flat : FlatModel) (rules : Rules) (cell : Cell) (free : AreFree flat rules cell) where
  -- the signal of a port
  abbrev signal_at : List ℕ → Option ℕ
  signal_at port = paired_signal flat rules cell.name port

  -- ---- the clocks of the pairing

  -- the clock and the signal of a clock port
  clocked_parts : (port : List ℕ) (c : ClockedSignal) → clocked_port flat rules cell.name port ≡ Some c
      → (clock_of_port rules cell.name port ≡ Some c.clock) × (signal_at port ≡ Some c.signal)
  clocked_parts port c e = by_clock (clock_of_port rules cell.name port) (signal_at port) e
    where
      by_clock : (o : Option ClockRef) (g : Option ℕ)
          → option_and_then (λ (clock : ClockRef). option_map (λ (s : ℕ). let one : ClockedSignal = record { signal = s; clock = clock } in one) g) o ≡ Some c
          → (o ≡ Some c.clock) × (g ≡ Some c.signal)
      by_clock None g f = absurd (none-some c f)
      by_clock (Some clock) None f = absurd (none-some c f)
      by_clock (Some clock) (Some s) f =
          let one : ClockedSignal = record { signal = s; clock = clock } in
          let same = same_Some one c f in
          (ap (λ (x : ClockedSignal). Some x.clock) same, ap (λ (x : ClockedSignal). Some x.signal) same)

  -- what a name carries is the signal of that name
  named_signal : (s : ℕ) (c : ClockedSignal) → clocked_by_name flat rules s ≡ Some c → s ≡ c.signal
  named_signal s c e = by_place (place_of rules.clocks (signal_name flat s)) e
    where
      by_place : (o : Option ℕ) → option_map (λ (clock : ℕ). let one : ClockedSignal = record { signal = s; clock = upright clock } in one) o ≡ Some c → s ≡ c.signal
      by_place None f = absurd (none-some c f)
      by_place (Some clock) f =
          let one : ClockedSignal = record { signal = s; clock = upright clock } in
          ap (λ (x : ClockedSignal). x.signal) (same_Some one c f)

  -- a clock of the pairing is carried by a port, or by the name of a signal without port
  pub carries : (c : ClockedSignal) → Among (clocked_signals flat rules cell) c → Carries flat rules cell c
  carries c m =
      elim (among_either (filter_map (clocked_port flat rules cell.name) cell.ports) (filter_map (clocked_by_name flat rules) unpaired) c m) [
        | inl here ↦
            let h = among_filter_map (clocked_port flat rules cell.name) cell.ports c here in
            let p = clocked_parts h.0 c h.2 in by_port h.1.0 h.0 h.1.1 p.0 p.1
        | inr later ↦
            let h = among_filter_map (clocked_by_name flat rules) unpaired c later in
            let same : h.0 ≡ c.signal = named_signal h.0 c h.2 in
            let k = filter_among (λ (s : ℕ). not (has_number (paired_signals flat rules cell) s)) (flat.inputs ++ flat.clocks) h.0 h.1 in
            by_name (subst (Among (flat.inputs ++ flat.clocks)) same k.0) (denied (has_number (paired_signals flat rules cell) c.signal)
            (subst (λ (s : ℕ). not (has_number (paired_signals flat rules cell) s) ≡ true) same k.1))
            (ap (clocked_by_name flat rules) (sym same) ∙ h.2)
      ]
    where
      unpaired : List ℕ
      unpaired = filter (λ (s : ℕ). not (has_number (paired_signals flat rules cell) s)) (flat.inputs ++ flat.clocks)

      denied : (b : Bool) → not b ≡ true → b ≡ false
      denied true e = absurd (false≢true e)
      denied false e = refl

  -- what carries a clock is an input or a clock
  pub carried_input : (c : ClockedSignal) → Carries flat rules cell c → Among (flat.inputs ++ flat.clocks) c.signal
  carried_input c (by_name there unpaired named) = there
  carried_input c (by_port at port here clock paired) =
      no_output flat rules cell free c.signal (signal_there flat rules cell.name port c.signal (paired_parts flat rules cell.name port c.signal paired).1)
      (clock_apart flat rules cell free at port c.clock c.signal here clock paired)

  -- what carries a clock is not the signal of an input's port
  pub carried_apart : (c : ClockedSignal) (at : ℕ) (port : List ℕ) (s : ℕ) → Carries flat rules cell c → At cell.ports at port → IsInputPort flat rules cell free port s → c.signal ≡ s → ⊥
  carried_apart c at port s (by_name there unpaired named) here input e =
      false≢true (sym unpaired ∙ paired_there flat rules cell free at port c.signal here (input.paired ∙ ap Some (sym e)))
  carried_apart c at port s (by_port i p there clock paired) here input e =
      let same : i ≡ at = one_port flat rules cell free i at p port s there here (paired ∙ ap Some e) input.paired in
      let one : p ≡ port = same_Some p port (sym (subst (λ (n : ℕ). At cell.ports n p) same there) ∙ here) in
      none-some c.clock (sym input.unclocked ∙ (ap (clock_of_port rules cell.name) (sym one) ∙ clock))

  -- a signal carries one clock
  pub carried_once : (c d : ClockedSignal) → Carries flat rules cell c → Carries flat rules cell d → c.signal ≡ d.signal → c.clock ≡ d.clock
  carried_once c d (by_port i p a clock paired) (by_port j q b other given) e =
      let same : i ≡ j = one_port flat rules cell free i j p q d.signal a b (paired ∙ ap Some e) given in
      let one : p ≡ q = same_Some p q (sym (subst (λ (n : ℕ). At cell.ports n p) same a) ∙ b) in
      same_Some c.clock d.clock (sym clock ∙ (ap (clock_of_port rules cell.name) one ∙ other))
  carried_once c d (by_port i p a clock paired) (by_name there unpaired named) e =
      absurd (false≢true (sym unpaired ∙ paired_there flat rules cell free i p d.signal a (paired ∙ ap Some e)))
  carried_once c d (by_name there unpaired named) (by_port j q b other given) e =
      absurd (false≢true (sym unpaired ∙ paired_there flat rules cell free j q c.signal b (given ∙ ap Some (sym e))))
  carried_once c d (by_name there unpaired named) (by_name here single other) e =
      ap (λ (x : ClockedSignal). x.clock) (same_Some c d (sym named ∙ (ap (clocked_by_name flat rules) e ∙ other)))

  -- ---- each input is paired

  -- a clock of the signal, or a port with the role of its input
  abbrev pub IsGiven : ℕ → Type 0
  IsGiven s =
      ((c : ClockedSignal) × Among (clocked_signals flat rules cell) c × (c.signal ≡ s))
      ⊎ ((at : ℕ) × (port : List ℕ) × At cell.ports at port × (role_of flat rules cell.name port ≡ Some (Input s)))

  -- the clock and the signal together
  abbrev clock_by : Option ClockRef → Option ℕ → Option ClockedSignal
  clock_by o g =
      option_and_then (λ (clock : ClockRef). option_map (λ (n : ℕ). let one : ClockedSignal = record { signal = n; clock = clock } in one) g) o

  -- a port that pairs with an input is one of these
  port_given : (at : ℕ) (port : List ℕ) (s : ℕ) → At cell.ports at port → signal_at port ≡ Some s → has_number flat.outputs s ≡ false → IsGiven s
  port_given at port s here paired apart = by_clock (clock_of_port rules cell.name port) refl
    where
      parts : (supply_of rules port ≡ None) × (signal_of_port flat rules cell.name port ≡ Some s)
      parts = paired_parts flat rules cell.name port s paired

      by_clock : (o : Option ClockRef) → clock_of_port rules cell.name port ≡ o → IsGiven s
      by_clock None e =
          inr (
            at,
            port,
            here,
            ap₂ (λ (o : Option Bool) (g : Option ℕ). role_by flat o (clock_of_port rules cell.name port) g) parts.0 parts.1
                ∙ (ap (λ (o : Option ClockRef). role_by flat None o (Some s)) e ∙ ap (λ (b : Bool). Some (cond b (Output s) (Input s))) apart),
          )
      by_clock (Some clock) e =
          let one : ClockedSignal = record { signal = s; clock = clock } in
          inl (
            one,
            among_left (filter_map (clocked_port flat rules cell.name) cell.ports)
                (filter_map (clocked_by_name flat rules) (filter (λ (n : ℕ). not (has_number (paired_signals flat rules cell) n)) (flat.inputs ++ flat.clocks))) one
                (filter_map_among (clocked_port flat rules cell.name) cell.ports at port one here (ap₂ clock_by e paired)),
            refl,
          )

  -- the signals that carry clocks
  abbrev carriers : List ℕ
  carriers = map (λ (c : ClockedSignal). c.signal) (clocked_signals flat rules cell)

  -- so is each input and each clock
  pub input_given : (s : ℕ) → Among (flat.inputs ++ flat.clocks) s → IsGiven s
  input_given s m =
      by_tests (has_number (paired_signals flat rules cell) s) refl
      (free.signals s (among_left (flat.inputs ++ flat.clocks) (filter (λ n. not (has_number (flat.inputs ++ flat.clocks) n)) flat.outputs) s m))
    where
      held : (b : Bool) → not b ≡ false → b ≡ true
      held true e = refl
      held false e = absurd (false≢true (sym e))

      by_tests : (b : Bool) → has_number (paired_signals flat rules cell) s ≡ b → (not b && not (has_number carriers s)) ≡ false → IsGiven s
      by_tests true e f =
          let h = among_filter_map (paired_signal flat rules cell.name) cell.ports s (number_among (paired_signals flat rules cell) s e) in
          port_given h.1.0 h.0 s h.1.1 h.2 (free.outputs s m)
      by_tests false e f =
          let h = among_map (λ (c : ClockedSignal). c.signal) (clocked_signals flat rules cell) s (number_among carriers s (held (has_number carriers s) f)) in
          inl (h.0, h.1, h.2)
