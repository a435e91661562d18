-- The words of outputs, as they are written one after the other: those of one output, of the outputs at a net, and of those at a part.
use Rattle.std.proofs.Common.{◌≡◌, ℕ, ◌+◌, ◌-◌, ◌<◌, ◌≤◌, ◌⊎◌, List, Option, None, Some, length, arith, ap, refl, subst, sym, ◌∙◌, inl, inr}
use Rattle.std.proofs.lemmas.Bool.{cases_eq, cases_lt}
use Rattle.std.proofs.lemmas.Option.{slice_get_within}
use Rattle.node_pool.specs.declared.region.Span.{Span}
use Rattle.bdd_core.proofs.Frames.{beside_of, two_word}
use Rattle.bdd_core.specs.Diagram.{IsWithin, Valuation, meaning}
use Rattle.bdd_core.specs.Store.{Diagrams, IsSpan}
use Rattle.bdd_core.specs.Words.{IsApart, IsFilled, WritesTwo, shows, word_at}
use Rattle.bdd_ops.proofs.CountingLaws.{counted_none, counted_then}
use Rattle.bdd_ops.proofs.WithinLaws.{within_same}
use Rattle.bdd_ops.specs.Counting.{IsCounted, IsSpanWithin}
use Rattle.channel_parts.specs.declared.part.Part.{Part}
use Rattle.circuit_faults.proofs.ThreeSpans.{apart_outputs, net_beside, output_word}
use Rattle.circuit_faults.proofs.WiredWork.{IsUpTo, work_from, work_next}
use Rattle.circuit_faults.specs.Results.{HasCircuitSpans, output_span}
use Rattle.circuit_faults.specs.Scans.{IsInside}
use Rattle.circuit_faults.specs.Steps.{InPhase, phase_of}
use Rattle.circuit_faults.specs.Wholes.{OutputsGive}
use Rattle.known_nets.proofs.WiredLaws.{pin_of_whole}
use Rattle.vrt_model.proofs.Lists.{one_at}
use Rattle.vrt_model.specs.Lists.{At}
use Rattle.vrt_model.specs.Networks.{HasRanges}
use Rattle.vrt_model.specs.State.{ModelGives, OutputPin, output_pins}
use Rattle.vrt_model.specs.declared.circuit.Circuit.{Circuit}
use Rattle.vrt_model.specs.declared.ids.Net.{Net}
use Rattle.whole_steps.proofs.TableLaws.{input_in_range}
use Rattle.whole_steps.proofs.DriverLaws.{earlier_whole}
use Rattle.whole_steps.proofs.EvaluationLaws.{same_reading}
use Rattle.whole_steps.specs.Evaluations.{output_operations}
use Rattle.whole_steps.specs.Tables.{AreDrivers, IsLast, IsOutput, OutputGives, driver_at}
use Rattle.whole_steps.specs.declared.table.OutputPlace.{OutputPlace}

-- ---- one output

-- the words behind those of the nets
abbrev pub words_behind : Circuit → Span → Span
words_behind c roots = record { start = roots.start + length c.nets; len = roots.len - length c.nets }

-- they are words of the roots
module _ (c : Circuit) (roots : Span) (fits : length c.nets + length (output_pins c) ≤ roots.len) where
  word_behind : (d : Diagrams) (k : ℕ) → word_at d (words_behind c roots) k ≡ word_at d roots (length c.nets + k)
  word_behind d k = output_word c roots d k

  pub behind_span : (d : Diagrams) → IsSpan d roots → IsSpan d (words_behind c roots)
  behind_span d is = (let low = is.0 in omega (arith, low), let end = is.1 in omega (arith, end, fits))

  pub behind_filled : (d : Diagrams) → IsFilled d roots → IsFilled d (words_behind c roots)
  behind_filled d live k lt = (let there = live (length c.nets + k) (omega (arith, lt)) in let same = word_behind d k in omega (arith, there, same))

  pub behind_apart : (gates : Span) → IsApart roots gates → IsApart gates (words_behind c roots)
  behind_apart gates (inl low) = inr (omega (arith, low, fits))
  behind_apart gates (inr high) = inl (omega (arith, high, fits))

  pub behind_within : (u : ℕ) (d : Diagrams) → IsSpanWithin u d roots → IsSpanWithin u d (words_behind c roots)
  behind_within u d reads k lt = subst (λ (h : ℕ). IsWithin u (meaning d.nodes h)) (sym (word_behind d k)) (reads (length c.nets + k) (omega (arith, lt)))

  module _ (out : Span) (old new : Diagrams) (apart : IsApart roots out) (writes : WritesTwo (output_span c roots) out old new) where
    net_word : (n : ℕ) → n < length c.nets → word_at new roots n ≡ word_at old roots n
    net_word n lt = writes.others (roots.start + n) (net_beside c roots n lt) (beside_of roots out n apart (omega (arith, lt, fits)))

    -- a word of the roots is one of a net, or behind them
    of_word : (d : Diagrams) (P : ℕ → Type 0) → ((n : ℕ) → n < length c.nets → P (word_at d roots n)) → ((k : ℕ) → k < roots.len - length c.nets → P (word_at d (words_behind c roots) k))
        → (j : ℕ) → j < roots.len → P (word_at d roots j)
    of_word d P nets behind j lt = elim (cases_lt j (length c.nets)) [
      | inl low ↦ nets j low
      | inr high ↦
          let place : length c.nets + (j - length c.nets) ≡ j = omega (arith, high) in
          let within : j - length c.nets < roots.len - length c.nets = omega (arith, high, lt) in
          subst (λ (i : ℕ). P (word_at d roots i)) place (subst P (word_behind d (j - length c.nets)) (behind (j - length c.nets) within))
    ]

    pub roots_filled : IsFilled old roots → IsFilled new (words_behind c roots) → IsFilled new roots
    roots_filled live behind =
        of_word new (λ h. h < length new.nodes)
        (λ n lt. let there = live n (omega (arith, lt, fits)) in let same = net_word n lt in let longer = writes.adds.longer in omega (arith, there, same, longer)) behind

    pub roots_reading : (u : ℕ) → IsFilled old roots → IsSpanWithin u old roots → IsSpanWithin u new (words_behind c roots) → IsSpanWithin u new roots
    roots_reading u live reads behind =
        of_word new (λ h. IsWithin u (meaning new.nodes h))
        (λ n lt.
        let within : n < roots.len = omega (arith, lt, fits) in
        subst (λ (h : ℕ). IsWithin u (meaning new.nodes h)) (sym (net_word n lt))
        (within_same u (meaning old.nodes (word_at old roots n)) (meaning new.nodes (word_at old roots n)) (writes.adds.kept (word_at old roots n) (live n within)) (reads n within))) behind

pub one_gives : (w : InPhase) (roots gates : Span) (old new : Diagrams) (place : OutputPlace) (o : OutputPin) → IsOutput w.circuit (output_pins w.circuit) place o
    → length w.circuit.nets + length (output_pins w.circuit) ≤ roots.len → OutputGives (phase_of w) place.number o gates (words_behind w.circuit roots) old new
    → OutputsGive w (λ at out. at ≡ place.number) roots gates old new
one_gives w roots gates old new place o is fits g = record {
  bits = λ at out e same v.
      let one : o ≡ out = one_at (output_pins w.circuit) at o out (subst (λ (i : ℕ). At (output_pins w.circuit) i o) (sym same) is.number) e in
      subst (λ (x : OutputPin). ModelGives (phase_of w) x (λ n. shows old gates n v) (shows new (output_span w.circuit roots) at v)) one
      (subst (λ (i : ℕ). ModelGives (phase_of w) o (λ n. shows old gates n v) (shows new (output_span w.circuit roots) i v)) (sym same) (g.bit v));
  others = λ at out e other. g.others at (let lt = slice_get_within (output_pins w.circuit) at out e in omega (arith, lt, fits)) other;
}

-- ---- several outputs

module _ (w : InPhase) (roots gates out : Span) (fits : length w.circuit.nets + length (output_pins w.circuit) ≤ roots.len) where
  -- nothing is written
  pub gives_none : (Written : ℕ → OutputPin → Type 0) (d : Diagrams) → ((at : ℕ) (o : OutputPin) → At (output_pins w.circuit) at o → ¬ Written at o) → OutputsGive w Written roots gates d d
  gives_none Written d none = record { bits = λ at o e written v. absurd (none at o e written); others = λ at o e away. refl }

  -- the same outputs in other words
  pub gives_as : (Written Others : ℕ → OutputPin → Type 0) (old new : Diagrams)
      → ((at : ℕ) (o : OutputPin) → At (output_pins w.circuit) at o → Others at o → Written at o) → ((at : ℕ) (o : OutputPin) → At (output_pins w.circuit) at o → Written at o → Others at o)
      → OutputsGive w Written roots gates old new → OutputsGive w Others roots gates old new
  gives_as Written Others old new to back g = record {
    bits = λ at o e written v. g.bits at o e (to at o e written) v;
    others = λ at o e away. g.others at o e (λ written. away (back at o e written));
  }

  module _ (parts : List Part) (old mid new : Diagrams) (spans : HasCircuitSpans w.circuit parts roots gates out old) (live : IsFilled old gates) (pins_live : IsFilled mid (output_span w.circuit roots))
      (first : WritesTwo (output_span w.circuit roots) out old mid) (second : WritesTwo (output_span w.circuit roots) out mid new) where
    -- the nets keep their bits
    gates_stay : (n : ℕ) (v : Valuation) → n < gates.len → shows mid gates n v ≡ shows old gates n v
    gates_stay n v lt =
        ap (λ (h : ℕ). meaning mid.nodes h v) (two_word (output_span w.circuit roots) out gates old mid first (apart_outputs w.circuit roots gates fits spans.roots_gates) spans.gates_out n lt)
        ∙ first.adds.kept (word_at old gates n) (live n lt) v

    -- some outputs, and then others
    pub gives_then : (A B : ℕ → OutputPin → Type 0) → ((at : ℕ) (o : OutputPin) → At (output_pins w.circuit) at o → B at o ⊎ (¬ B at o))
        → HasRanges w.circuit
        → OutputsGive w A roots gates old mid → OutputsGive w B roots gates mid new → OutputsGive w (λ at o. A at o ⊎ B at o) roots gates old new
    gives_then A B decide ranges f s = record {
      bits = λ at o e written v. elim (decide at o e) [
        | inl b ↦ same_reading (phase_of w) o (λ n. shows mid gates n v) (λ n. shows old gates n v) (shows new (output_span w.circuit roots) at v)
            (λ input m. gates_stay input.net.0 v (let lt = input_in_range w.circuit ranges o.whole (pin_of_whole w.circuit o (at, e)).0 input m in let len = spans.gates_len in omega (arith, lt, len)))
            (s.bits at o e b v)
        | inr none ↦ elim written [
          | inl a ↦
              let word = s.others at o e none in
              let stays : shows mid (output_span w.circuit roots) at v ≡ shows new (output_span w.circuit roots) at v =
              sym (ap (λ (h : ℕ). meaning new.nodes h v) word
              ∙ second.adds.kept (word_at mid (output_span w.circuit roots) at) (pins_live at (slice_get_within (output_pins w.circuit) at o e)) v) in
              subst (ModelGives (phase_of w) o (λ n. shows old gates n v)) stays (f.bits at o e a v)
          | inr b ↦ absurd (none b)
        ]
      ];
      others = λ at o e away. s.others at o e (λ b. away (inr b)) ∙ f.others at o e (λ a. away (inl a));
    }

-- ---- the outputs at a net, from the last on

-- how far an entry is from the first
abbrev pub left_of : Option OutputPlace → ℕ
left_of None = 0
left_of (Some place) = place.number + 1

pub last_low : (c : Circuit) (pins : List OutputPin) (n bound : ℕ) (o : Option OutputPlace) → IsLast c pins n bound o → left_of o ≤ bound
last_low c pins n bound None last = omega arith
last_low c pins n bound (Some place) last = (let lt = last.2 in omega (arith, lt))

-- the outputs from a number on that are at a net have their bits, and the next is the last before it; its instance is not behind the one
-- whose model was evaluated last
pub record AreWrittenDown (w : InPhase) (roots gates : Span) (n : ℕ) (first now : Diagrams) (evaluated : Option ℕ) (next : Option OutputPlace) : Type 0 where
  pub bound : ℕ
  pub last : IsLast w.circuit (output_pins w.circuit) n bound next
  pub order : (place : OutputPlace) → next ≡ Some place → IsUpTo evaluated place.whole
  pub gives : OutputsGive w (λ at o. (o.pin.net.0 ≡ n) × (bound ≤ at)) roots gates first now
  pub counted :
      (u : ℕ) → IsSpanWithin u first gates → IsSpanWithin u first roots
      → (work : ℕ) × IsCounted u work first now × (work ≤ work_from w.circuit n evaluated)

module _ (w : InPhase) (roots gates out : Span) (fits : length w.circuit.nets + length (output_pins w.circuit) ≤ roots.len) (n : ℕ) (first : Diagrams) where
  abbrev pins : List OutputPin
  pins = output_pins w.circuit

  pub down_none : (drivers : List (Option OutputPlace)) → AreDrivers w.circuit (output_pins w.circuit) drivers → n < length w.circuit.nets → AreWrittenDown w roots gates n first first None (driver_at drivers n)
  down_none drivers are lt = record {
    bound = length pins;
    last = are.last n lt;
    order = λ place is. tt;
    gives = gives_none w roots gates out fits (λ at o. (o.pin.net.0 ≡ n) × (length pins ≤ at)) first
        (λ at o e written. let low = slice_get_within pins at o e in let high = written.1 in omega (arith, low, high));
    counted = λ u gates_in roots_in. (0, counted_none u first, omega arith);
  }

  module _ (parts : List Part) (ranges : HasRanges w.circuit) (now new : Diagrams) (spans : HasCircuitSpans w.circuit parts roots gates out first) (live : IsFilled first gates)
      (pins_live : IsFilled now (output_span w.circuit roots)) (before : WritesTwo (output_span w.circuit roots) out first now) (step : WritesTwo (output_span w.circuit roots) out now new)
      (place : OutputPlace) (evaluated : Option ℕ) (down : AreWrittenDown w roots gates n first now evaluated (Some place)) where
    abbrev here : OutputPin
    here = down.last.0

    pub work_here : work_from w.circuit n evaluated + output_operations evaluated place.whole here.whole ≤ work_from w.circuit n (Some place.whole)
    work_here = work_next w.circuit n place.whole evaluated here.whole here.pin down.last.1.whole (place.output, down.last.1.output) down.last.3 (down.order place refl)

    -- one output more
    pub down_more : (drivers : List (Option OutputPlace)) → AreDrivers w.circuit (output_pins w.circuit) drivers → OutputsGive w (λ at o. at ≡ place.number) roots gates now new
        → ((u : ℕ) → IsSpanWithin u first gates → IsSpanWithin u first roots → IsCounted u (output_operations evaluated place.whole here.whole) now new)
        → AreWrittenDown w roots gates n first new (Some place.whole) (driver_at drivers (length w.circuit.nets + place.number))
    down_more drivers are gives counted = record {
      bound = place.number;
      last = subst (λ (m : ℕ). IsLast w.circuit pins m place.number (driver_at drivers (length w.circuit.nets + place.number))) down.last.3 (are.earlier place.number here down.last.1.number);
      order = λ other is.
          let before = subst (IsLast w.circuit pins here.pin.net.0 place.number) is (are.earlier place.number here down.last.1.number) in
          earlier_whole w.circuit pins other place before.0 here before.1 down.last.1 before.2;
      gives = gives_as w roots gates out fits (λ at o. ((o.pin.net.0 ≡ n) × (down.bound ≤ at)) ⊎ (at ≡ place.number)) (λ at o. (o.pin.net.0 ≡ n) × (place.number ≤ at)) first new to back
          (gives_then w roots gates out fits parts first now new spans live pins_live before step (λ at o. (o.pin.net.0 ≡ n) × (down.bound ≤ at)) (λ at o. at ≡ place.number)
          (λ at o e. cases_eq at place.number) ranges down.gives gives);
      counted = λ u gates_in roots_in.
          let so_far = down.counted u gates_in roots_in in
          let more = work_here in
          let most = so_far.2 in
          let cost = output_operations evaluated place.whole here.whole in
          (so_far.0 + cost, counted_then u so_far.0 cost first now new so_far.1 (counted u gates_in roots_in), omega (arith, more, most));
    }
      where
        to : (at : ℕ) (o : OutputPin) → At pins at o → (o.pin.net.0 ≡ n) × (place.number ≤ at) → ((o.pin.net.0 ≡ n) × (down.bound ≤ at)) ⊎ (at ≡ place.number)
        to at o e written = elim (cases_eq at place.number) [
          | inl same ↦ inr same
          | inr ne ↦ elim (cases_lt at down.bound) [
            | inl low ↦ absurd (down.last.4 at o e (let high = written.1 in omega (arith, high, ne)) low written.0)
            | inr high ↦ inl (written.0, high)
          ]
        ]

        back : (at : ℕ) (o : OutputPin) → At pins at o → ((o.pin.net.0 ≡ n) × (down.bound ≤ at)) ⊎ (at ≡ place.number) → (o.pin.net.0 ≡ n) × (place.number ≤ at)
        back at o e (inl written) = (written.0, let high = written.1 in let lt = down.last.2 in omega (arith, high, lt))
        back at o e (inr same) =
            let one : here ≡ o = one_at pins at here o (subst (λ (i : ℕ). At pins i here) (sym same) down.last.1.number) e in
            (ap (λ (x : OutputPin). x.pin.net.0) (sym one) ∙ down.last.3, omega (arith, same))

  -- all of them
  pub down_all : (now : Diagrams) (evaluated : Option ℕ) (o : Option OutputPlace) → o ≡ None → AreWrittenDown w roots gates n first now evaluated o → OutputsGive w (λ at o. o.pin.net.0 ≡ n) roots gates first now
  down_all now evaluated o none down =
      gives_as w roots gates out fits (λ at o. (o.pin.net.0 ≡ n) × (down.bound ≤ at)) (λ at o. o.pin.net.0 ≡ n) first now
      (λ at o e net. elim (cases_lt at down.bound) [
        | inl low ↦ absurd (subst (IsLast w.circuit pins n down.bound) none down.last at o e low net)
        | inr high ↦ (net, high)
      ])
      (λ at o e written. written.0) down.gives

-- ---- the outputs at a part

-- the net is one of the first of a part
abbrev pub IsAmongFirst : Part → ℕ → ℕ → Type 0
IsAmongFirst part upto n = (i : ℕ) × (net : Net) × (i < upto) × At part.nets i net × (net.0 ≡ n)

module _ (w : InPhase) (roots gates out : Span) (fits : length w.circuit.nets + length (output_pins w.circuit) ≤ roots.len) (part : Part) (first : Diagrams) where
  pub nets_none : OutputsGive w (λ at o. IsAmongFirst part 0 o.pin.net.0) roots gates first first
  nets_none = gives_none w roots gates out fits (λ at o. IsAmongFirst part 0 o.pin.net.0) first (λ at o e written. let lt = written.2 in omega (arith, lt))

  pub nets_more : (parts : List Part) → HasRanges w.circuit → (now new : Diagrams) → HasCircuitSpans w.circuit parts roots gates out first → IsFilled first gates
      → IsFilled now (output_span w.circuit roots) → WritesTwo (output_span w.circuit roots) out first now → WritesTwo (output_span w.circuit roots) out now new
      → (i : ℕ) (net : Net) → At part.nets i net → OutputsGive w (λ at o. IsAmongFirst part i o.pin.net.0) roots gates first now → OutputsGive w (λ at o. o.pin.net.0 ≡ net.0) roots gates now new
      → OutputsGive w (λ at o. IsAmongFirst part (i + 1) o.pin.net.0) roots gates first new
  nets_more parts ranges now new spans live pins_live before step i net here so_far gives =
      gives_as w roots gates out fits (λ at o. IsAmongFirst part i o.pin.net.0 ⊎ (o.pin.net.0 ≡ net.0)) (λ at o. IsAmongFirst part (i + 1) o.pin.net.0) first new to back
      (gives_then w roots gates out fits parts first now new spans live pins_live before step (λ at o. IsAmongFirst part i o.pin.net.0) (λ at o. o.pin.net.0 ≡ net.0)
      (λ at o e. cases_eq o.pin.net.0 net.0) ranges so_far gives)
    where
      to : (at : ℕ) (o : OutputPin) → At (output_pins w.circuit) at o → IsAmongFirst part (i + 1) o.pin.net.0 → IsAmongFirst part i o.pin.net.0 ⊎ (o.pin.net.0 ≡ net.0)
      to at o e written = elim (cases_eq written.0 i) [
        | inl same ↦
            let one : written.1 ≡ net = one_at part.nets i written.1 net (subst (λ (j : ℕ). At part.nets j written.1) same written.3) here in
            inr (sym written.4 ∙ ap (λ (x : Net). x.0) one)
        | inr ne ↦ inl (written.0, written.1, (let lt = written.2 in omega (arith, lt, ne)), written.3, written.4)
      ]

      back : (at : ℕ) (o : OutputPin) → At (output_pins w.circuit) at o → IsAmongFirst part i o.pin.net.0 ⊎ (o.pin.net.0 ≡ net.0) → IsAmongFirst part (i + 1) o.pin.net.0
      back at o e (inl written) = (written.0, written.1, (let lt = written.2 in omega (arith, lt)), written.3, written.4)
      back at o e (inr same) = (i, net, omega arith, here, sym same)

  pub nets_all : (now : Diagrams) (upto : ℕ) → length part.nets ≤ upto → OutputsGive w (λ at o. IsAmongFirst part upto o.pin.net.0) roots gates first now
      → OutputsGive w (λ at o. IsInside part o.pin.net.0) roots gates first now
  nets_all now upto le gives =
      gives_as w roots gates out fits (λ at o. IsAmongFirst part upto o.pin.net.0) (λ at o. IsInside part o.pin.net.0) first now
      (λ at o e i. (i.0, i.1.0, (let lt = slice_get_within part.nets i.0 i.1.0 i.1.1 in omega (arith, lt, le)), i.1.1, i.1.2))
      (λ at o e written. (written.0, (written.1, written.3, written.4))) gives
