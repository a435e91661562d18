-- What the functions mean once the outputs of a phase are joined.
use Rattle.std.proofs.Common.{◌≡◌, ◌↔◌, ℕ, ◌+◌, ◌<◌, ◌&&◌, Bool, true, List, Some, arith, ap, length, refl, subst, sym, ◌∙◌, inl, inr}
use Rattle.std.proofs.lemmas.Bool.{and_from, and_parts, cases_lt, eq-eqb, eqb-true, or_cases, or_left, or_right}
use Rattle.std.proofs.lemmas.Option.{same_Some}
use Rattle.bdd_core.specs.Diagram.{Valuation}
use Rattle.bdd_core.specs.Store.{Adds, Diagrams, function_of}
use Rattle.bdd_core.specs.Words.{shows}
use Rattle.bdd_core.specs.declared.handle.H.{H}
use Rattle.bdd_ops.specs.Ops.{bits_of}
use Rattle.output_functions.specs.Phases.{AreJoined, GivesBefore, HasOwnOutputs, HasSameSources}
use Rattle.output_joins.specs.Joins.{HasJoined, handle_in, is_of, part_of, parts_of, shown}
use Rattle.phase_check.specs.States.{HasNetBits}
use Rattle.phase_terms.specs.Found.{at_bits, met}
use Rattle.phase_terms.specs.Ready.{IsReady}
use Rattle.phase_terms.specs.declared.words.PhaseWords.{PhaseWords}
use Rattle.phase_wishes.specs.Wishes.{AreOutputWishes}
use Rattle.phase_wishes.specs.declared.wishes.Wanted.{Wanted}
use Rattle.phase_wishes.specs.declared.wishes.Wish.{Wish}
use Rattle.vrt_model.proofs.Members.{among_any, any_among}
use Rattle.vrt_model.proofs.Observed.{output_observed}
use Rattle.std.specs.Prelude.{slice_get}
use Rattle.vrt_model.specs.CellRules.{is_observed_port}
use Rattle.vrt_model.specs.Comparison.{CellPort, Comparison, cell_at, output_signal, ports_of}
use Rattle.vrt_model.specs.Constraints.{Meets}
use Rattle.vrt_model.specs.Equal.{IsEqual}
use Rattle.vrt_model.specs.Faults.{Solves}
use Rattle.vrt_model.specs.Held.{IsValuation, setting_of}
use Rattle.vrt_model.specs.Lists.{Among}
use Rattle.vrt_model.specs.declared.groups.Source.{Source}
use Rattle.written_cells.specs.Exchanged.{IsSeen}
use Rattle.written_cells.specs.Outputs.{GivesOne}

-- this phase gives the port 1
abbrev pub GivesHere : Comparison → ℕ → CellPort → ℕ → List Bool → Type 0
GivesHere k phase port signal bits = (one : GivesOne k port signal bits) × (one.phase ≡ phase)

module _ (k : Comparison) (phase : ℕ) (w : PhaseWords) (d : Diagrams) (care : H) (wishes : List Wish) (within : phase < length k.rules.phases)
    (equal : IsEqual k) (own : HasOwnOutputs k) (are : AreOutputWishes k phase wishes) (nets : HasNetBits k phase w d) (care_is : (bits : List Bool) → at_bits d care bits ≡ met k phase bits)
    (port : CellPort) (signal : ℕ) (there : Among (ports_of k) port) (role : output_signal port.role ≡ Some signal) (bits : List Bool) (valuation : IsValuation k phase bits) where
  abbrev added : Bool
  added = parts_of (function_of d care) (shows d w.gates) wishes signal (bits_of bits)

  -- a wish for the signal is at the port
  port_of_wish : (wish : Wish) → Among wishes wish → is_of wish.wanted signal ≡ true → IsSeen k phase port signal × (wish.net.0 ≡ port.net)
  port_of_wish wish m t =
      let each = are.each wish m in
      let other : CellPort = each.0 in
      let seen = each.2 in
      let same : each.1 ≡ signal = eqb-true each.1 signal (ap (λ (x : Wanted). is_of x signal) (sym each.4) ∙ t) in
      let place : wish.place ≡ there.0 = own wish.place there.0 other port signal seen.there there.1 (seen.role ∙ ap Some same) role in
      let equal_ports : other ≡ port = same_Some other port (sym seen.there ∙ ap (λ (i : ℕ). slice_get (ports_of k) i) place ∙ there.1) in (
        record {
          there = there;
          output = role;
          observed = subst (λ (p : CellPort). is_observed_port k.rules (cell_at k.design k.cell).name p.name phase ≡ true) equal_ports seen.seen;
        },
        each.3 ∙ ap (λ (p : CellPort). p.net) equal_ports,
      )

  -- a solution where the constraints are met
  gives_here : added ≡ true → GivesHere k phase port signal bits
  gives_here t =
      let found = any_among (λ (x : Wish). part_of (function_of d care) (shows d w.gates) x signal (bits_of bits)) wishes t in
      let wish : Wish = found.0 in
      let parts = and_parts (is_of wish.wanted signal) (function_of d care (bits_of bits) && shows d w.gates wish.net.0 (bits_of bits)) found.2 in
      let both = and_parts (function_of d care (bits_of bits)) (shows d w.gates wish.net.0 (bits_of bits)) parts.1 in
      let at = port_of_wish wish found.1 parts.0 in
      let is_met : met k phase bits ≡ true = sym (care_is bits) ∙ both.0 in
      let meets : Meets k phase bits = record { valuation = valuation; constraints = is_met } in
      let solution = ((equal phase within).agree bits meets).solution in
      let seen = output_observed k phase there.0 port signal there.1 role at.0.observed in (
        record {
          phase = phase;
          within = within;
          seen = at.0;
          meets = meets;
          solution = solution.0;
          solves = solution.1;
          one =
              nets.bits bits solution.0 is_met solution.1 port.net seen
              ∙ ap (λ (n : ℕ). Some (shows d w.gates n (bits_of bits))) (sym at.1) ∙ ap Some both.1;
        },
        refl,
      )

  -- and back
  here_gives : GivesHere k phase port signal bits → added ≡ true
  here_gives given =
      let one = given.0 in
      let seen : IsSeen k phase port signal = subst (λ (q : ℕ). IsSeen k q port signal) given.1 one.seen in
      let meets : Meets k phase bits = subst (λ (q : ℕ). Meets k q bits) given.1 one.meets in
      let solves : Solves k phase (setting_of k phase bits) one.solution = subst (λ (q : ℕ). Solves k q (setting_of k q bits) one.solution) given.1 one.solves in
      let found = are.all seen.there.0 port signal (record { there = seen.there.1; role = role; seen = seen.observed }) in
      let wish : Wish = found.0 in
      let each = are.each wish found.1 in
      let same : each.0 ≡ port = same_Some each.0 port (sym each.2.there ∙ ap (λ (i : ℕ). slice_get (ports_of k) i) found.2 ∙ seen.there.1) in
      let same_signal : each.1 ≡ signal = same_Some each.1 signal (sym each.2.role ∙ ap (λ (p : CellPort). output_signal p.role) same ∙ role) in
      let net : wish.net.0 ≡ port.net = each.3 ∙ ap (λ (p : CellPort). p.net) same in
      let wanted : is_of wish.wanted signal ≡ true = ap (λ (x : Wanted). is_of x signal) each.4 ∙ eq-eqb each.1 signal same_signal in
      let there_seen = output_observed k phase seen.there.0 port signal seen.there.1 role seen.observed in
      let bit : shows d w.gates port.net (bits_of bits) ≡ true =
      same_Some (shows d w.gates port.net (bits_of bits)) true (sym (nets.bits bits one.solution meets.constraints solves port.net there_seen) ∙ one.one) in
      let cared : function_of d care (bits_of bits) ≡ true = care_is bits ∙ meets.constraints in
      among_any (λ (x : Wish). part_of (function_of d care) (shows d w.gates) x signal (bits_of bits)) wishes wish found.1
      (and_from (is_of wish.wanted signal) (function_of d care (bits_of bits) && shows d w.gates wish.net.0 (bits_of bits)) wanted
      (and_from (function_of d care (bits_of bits)) (shows d w.gates wish.net.0 (bits_of bits)) cared (ap (λ (n : ℕ). shows d w.gates n (bits_of bits)) net ∙ bit)))

-- one phase more
module _ (k : Comparison) (phase : ℕ) (w : PhaseWords) (before d after : Diagrams) (care : H) (wishes : List Wish) (handles joined : List H) (ready : IsReady k)
    (within : phase < length k.rules.phases) (equal : IsEqual k) (own : HasOwnOutputs k) (same : HasSameSources k) (are : AreOutputWishes k phase wishes) (nets : HasNetBits k phase w d)
    (care_is : (bits : List Bool) → at_bits d care bits ≡ met k phase bits) (adds : Adds before d d.words)
    (j : HasJoined (parts_of (function_of d care) (shows d w.gates) wishes) d handles after joined) (so_far : AreJoined k phase handles before) where
  gives_more : (port : CellPort) (signal : ℕ) → Among (ports_of k) port → output_signal port.role ≡ Some signal → (q : ℕ) (bits : List Bool) → IsValuation k q bits
      → (shown after joined signal (bits_of bits) ≡ true) ↔ GivesBefore k (phase + 1) port signal bits
  gives_more port signal there role q bits valuation = (forward, back)
    where
      v : Valuation
      v = bits_of bits

      own_valuation : IsValuation k phase bits
      own_valuation = valuation ∙ ap (λ (xs : List Source). length xs) (same q phase)

      lt : signal < length handles
      lt = (let below = ready.outputs there.0 port signal there.1 role in let len = so_far.len in omega (arith, below, len))

      old : shown d handles signal v ≡ shown before handles signal v
      old = adds.kept (handle_in handles signal).0 (so_far.live signal lt) v

      added : Bool
      added = parts_of (function_of d care) (shows d w.gates) wishes signal v

      here : added ≡ true → GivesHere k phase port signal bits
      here = gives_here k phase w d care wishes within equal own are nets care_is port signal there role bits own_valuation

      back_here : GivesHere k phase port signal bits → added ≡ true
      back_here = here_gives k phase w d care wishes within equal own are nets care_is port signal there role bits own_valuation

      forward : shown after joined signal v ≡ true → GivesBefore k (phase + 1) port signal bits
      forward t = elim (or_cases (shown d handles signal v) added (sym (j.is signal lt v) ∙ t)) [
        | inl so ↦ (let given = (so_far.is port signal there role q bits valuation).0 (sym old ∙ so) in let low = given.1 in (given.0, omega (arith, low)))
        | inr now ↦ (let given = here now in let e = given.1 in (given.0, omega (arith, e)))
      ]

      back : GivesBefore k (phase + 1) port signal bits → shown after joined signal v ≡ true
      back given = j.is signal lt v ∙ elim (cases_lt given.0.phase phase) [
        | inl low ↦ or_left (shown d handles signal v) added (old ∙ (so_far.is port signal there role q bits valuation).1 (given.0, low))
        | inr high ↦ or_right (shown d handles signal v) added (back_here (given.0, (let below = given.1 in omega (arith, high, below))))
      ]

  pub phase_joined : AreJoined k (phase + 1) joined after
  phase_joined = record { len = j.len ∙ so_far.len; live = j.live; is = gives_more }
