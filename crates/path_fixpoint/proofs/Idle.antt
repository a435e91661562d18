-- Devices and directions that pass nothing on, and so cost nothing.
use Rattle.std.proofs.Common.{◌≡◌, ℕ, ◌⊎◌, Bool, true, false, not, List, Option, Some, ap, refl, sym, subst, ◌∙◌, inl, inr}
use Rattle.std.proofs.lemmas.Bool.{false≢true}
use Rattle.std.proofs.lemmas.Option.{same_Some}
use Rattle.node_pool.specs.declared.region.Node.{Node}
use Rattle.node_pool.specs.declared.region.Span.{Span}
use Rattle.bdd_core.specs.Diagram.{Valuation, meaning}
use Rattle.bdd_core.specs.Store.{Diagrams}
use Rattle.bdd_core.specs.Words.{word_at}
use Rattle.bdd_core.proofs.Meaning.{meaning_one, meaning_zero}
use Rattle.vrt_model.specs.Networks.{HasRanges}
use Rattle.vrt_model.specs.Lists.{Among}
use Rattle.vrt_model.specs.Path.{IsOn, Joins, Network}
use Rattle.vrt_model.specs.Reading.{conducts, conducts_at}
use Rattle.vrt_model.specs.declared.circuit.Circuit.{Circuit}
use Rattle.vrt_model.specs.declared.circuit.Device.{Device}
use Rattle.vrt_model.specs.declared.design.Kind.{Kind}
use Rattle.vrt_model.specs.declared.design.Kind.TheVariants.{N, P}
use Rattle.vrt_model.specs.declared.ids.Net.{Net}
use Rattle.channel_parts.specs.declared.part.Part.{Part}
use Rattle.path_fixpoint.specs.declared.side.Side.{Side}
use Rattle.path_fixpoint.specs.declared.side.Side.TheVariants.{Outside}
use Rattle.path_fixpoint.specs.Parts.{IsGiven, IsOnSide, IsPart, IsWithoutGivenEnd, part_devices}
use Rattle.path_fixpoint.specs.Passed.{blocking}
use Rattle.path_fixpoint.specs.Reaching.{PassesSignal, SpreadsValue, slot_of}
use Rattle.path_fixpoint.specs.Strengths.{Passes, Spreads, StandsAt, strong, word_of}
use Rattle.path_fixpoint.proofs.Spreading.{device_ranges}
use Rattle.path_fixpoint.specs.declared.words.NetWords.{NetWords}

-- at the constant that blocks it no device conducts
blocked : (nodes : List Node) (kind : Kind) (v : Valuation) → conducts_at kind (meaning nodes (blocking kind) v) ≡ false
blocked nodes N v = meaning_zero nodes v
blocked nodes P v = ap not (meaning_one nodes v)

module _ (c : Circuit) (part : Part) (in_range : HasRanges c) (gates : Span) (out : NetWords) (d : Device) (member : Among (part_devices c part) d) (s : Diagrams)
    (gate_is : word_at s gates d.gate.0 ≡ blocking d.kind) where
  -- it is on at no valuation
  pub never_on : (x : Device) → x ≡ d → (v : Valuation) (w : Network) → StandsAt c part gates s v w → IsOn w x → ⊥
  never_on x is v w st on =
      let conducts_d : conducts w.reading d ≡ true = subst (λ (y : Device). conducts w.reading y ≡ true) is on.1 in
      let reads : meaning s.nodes (blocking d.kind) v ≡ w.reading d.gate.0 =
      ap (λ (h : ℕ). meaning s.nodes h v) (sym gate_is) ∙ st.reading d.gate.0 (device_ranges c part d in_range member).gate in
      false≢true (sym (blocked s.nodes d.kind v) ∙ ap (λ (b : Bool). conducts_at d.kind b) reads ∙ conducts_d)

  pub spreads_off : (level : ℕ) (side : Side) → Spreads c part gates out level side (λ x. x ≡ d) false s s
  spreads_off level side = record {
    grown = λ i lt v e. e;
    passed = λ x is v w st on. absurd (never_on x is v w st on);
    paths = λ v w st paths. paths;
    same = λ e. refl;
  }

  pub spreads_value_off : (roots : Span) (value : Bool) (side : Side) → SpreadsValue c part gates roots out value side (λ x. x ≡ d) false s s
  spreads_value_off roots value side = record {
    grown = λ i lt v e. e;
    passed = λ x is v w t st on. absurd (never_on x is v w st.stands on);
    paths = λ v w t st paths. paths;
    same = λ e. refl;
  }

-- both ends are in the part, so nothing comes from outside over the device
module _ (c : Circuit) (part : Part) (is_part : IsPart c part) (gates : Span) (out : NetWords) (d : Device) (member : Among (part_devices c part) d) (s : Diagrams)
    (side : Side) (no_given : IsWithoutGivenEnd c d) (outer : side ≡ Outside) where
  in_part : (net : Net) → Among part.nets net ⊎ IsGiven c net.0 → (IsGiven c net.0 → ⊥) → IsOnSide part Outside net.0 → ⊥
  in_part net (inl p) none away = away p.0 (net, p.1, refl)
  in_part net (inr given) none away = none given

  no_end : (x : Device) → x ≡ d → (m n : ℕ) → Joins x m n → IsOnSide part side m → ⊥
  no_end x is m n j lies =
      let away : IsOnSide part Outside m = subst (λ (other : Side). IsOnSide part other m) outer lies in
      elim (subst (λ (y : Device). Joins y m n) is j) [
        | inl q ↦ in_part d.left (is_part.left d member) no_given.0 (subst (IsOnSide part Outside) (sym q.0) away)
        | inr q ↦ in_part d.right (is_part.right d member) no_given.1 (subst (IsOnSide part Outside) (sym q.1) away)
      ]

  pub spreads_idle : (level : ℕ) → Spreads c part gates out level side (λ x. x ≡ d) false s s
  spreads_idle level = record {
    grown = λ i lt v e. e;
    passed = λ x is v w st on le m n j lies str. absurd (no_end x is m n j lies);
    paths = λ v w st paths. paths;
    same = λ e. refl;
  }

  pub spreads_value_idle : (roots : Span) (value : Bool) → SpreadsValue c part gates roots out value side (λ x. x ≡ d) false s s
  spreads_value_idle roots value = record {
    grown = λ i lt v e. e;
    passed = λ x is v w t st on m n j fits lies r. absurd (no_end x is m n j lies);
    paths = λ v w t st paths. paths;
    same = λ e. refl;
  }

-- nothing is added to the constant 1
module _ (out : NetWords) (level : ℕ) (d : Diagrams) (i : ℕ) (full : word_at d out.span (word_of out level i) ≡ 1) where
  full_strong : (v : Valuation) → strong d out level i v ≡ true
  full_strong v = ap (λ (h : ℕ). meaning d.nodes h v) full ∙ meaning_one d.nodes v

  pub passes_full : (kind : Kind) (gate signal : ℕ) → Passes out level kind gate signal (Some i) false d d
  passes_full kind gate signal = record {
    grown = λ j lt v e. e;
    passed = λ j is v on seen. subst (λ (x : ℕ). strong d out level x v ≡ true) (same_Some i j is) (full_strong v);
    only = λ j lt v e. inl e;
    same = λ e. refl;
  }

module _ (out : NetWords) (level : ℕ) (d : Diagrams) (to : Option ℕ) where
  -- nothing is passed on of the constant 0
  pub passes_none : (kind : Kind) (gate signal : ℕ) → signal ≡ 0 → Passes out level kind gate signal to false d d
  passes_none kind gate signal none = record {
    grown = λ j lt v e. e;
    passed = λ j is v on seen. absurd (false≢true (sym (ap (λ (h : ℕ). meaning d.nodes h v) none ∙ meaning_zero d.nodes v) ∙ seen));
    only = λ j lt v e. inl e;
    same = λ e. refl;
  }

module _ (out : NetWords) (value : Bool) (kind : Kind) (gate signal : ℕ) (from : Option ℕ) (i device : ℕ) (d : Diagrams) where
  pub signal_full : word_at d out.span (word_of out (slot_of out value) i) ≡ 1 → PassesSignal out value kind gate signal from (Some i) device false d d
  signal_full full = record {
    grown = λ j lt v e. e;
    passed = λ j is v on seen fit. subst (λ (x : ℕ). strong d out (slot_of out value) x v ≡ true) (same_Some i j is) (full_strong out (slot_of out value) d i full v);
    only = λ j lt v e. inl e;
    same = λ e. refl;
  }

  -- nothing is passed on of the constant 0
  pub signal_none : signal ≡ 0 → PassesSignal out value kind gate signal from (Some i) device false d d
  signal_none none = record {
    grown = λ j lt v e. e;
    passed = λ j is v on seen fit. absurd (false≢true (sym (ap (λ (h : ℕ). meaning d.nodes h v) none ∙ meaning_zero d.nodes v) ∙ seen));
    only = λ j lt v e. inl e;
    same = λ e. refl;
  }
