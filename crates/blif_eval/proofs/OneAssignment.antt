-- A model whose signals and elements have a plan has exactly one assignment: its assignments are the bits that follow
-- from themselves.
use Rattle.std.proofs.Common.{◌≡◌, ℕ, zero, suc, ◌+◌, ◌-◌, ◌<◌, Bool, not, cond, List, Option, Some, None, length, ltb, arith, ap, subst, sym, refl, ◌∙◌}
use Rattle.std.specs.Prelude.{option_map, unwrap_or}
use Rattle.std.proofs.lemmas.Bool.{le-ltb, lt-ltb}
use Rattle.std.proofs.lemmas.Option.{none-some, same_Some, slice_get_within}
use Rattle.blif_eval.proofs.Drivers.{covered_below, input_below, interface_below, latch_is}
use Rattle.blif_eval.proofs.FixedLaws.{agree_to, some_fixed}
use Rattle.blif_eval.proofs.FoundDrivers.{cover_at, driver_is, driver_there, given_at, stored_at}
use Rattle.blif_eval.proofs.LatchLaws.{latch_among, latch_part, part_latch, part_ranges}
use Rattle.blif_eval.proofs.LocalLaws.{cover_is_value, value_local}
use Rattle.blif_eval.specs.Drivers.{AreDrivers, IsDriver, IsStorage, node_count}
use Rattle.blif_eval.specs.OneAssignment.{AreSame, HasOneAssignment, IsAssigned}
use Rattle.blif_eval.specs.Plans.{AreBehind, AreOutside, entry_of}
use Rattle.blif_eval.specs.Settled.{AreFixed, control_value, cover_value, driver_at, stored, value_by, value_of}
use Rattle.blif_eval.specs.declared.driver_table.Driver.{Driver}
use Rattle.blif_eval.specs.declared.driver_table.Driver.TheVariants.{Given, Covered, Stored, Element}
use Rattle.blif_eval.specs.declared.driver_table.Storage.{Storage}
use Rattle.graphs.specs.Orders.{ListsOnce}
use Rattle.vrt_model.proofs.Assignments.{cover_same}
use Rattle.vrt_model.specs.Assignment.{Assignment, LatchHolds, control_bit}
use Rattle.vrt_model.specs.Elements.{Numbered, numbered_latches}
use Rattle.vrt_model.specs.FlatModels.{IsControl, IsFlatModel}
use Rattle.vrt_model.specs.Lists.{At, Among}
use Rattle.vrt_model.specs.ModelArcs.{Part, last_by, parts_by, parts_of}
use Rattle.vrt_model.specs.declared.blif.LatchKind.{LatchKind}
use Rattle.vrt_model.specs.declared.blif.LatchKind.TheVariants.{Re, Fe, Ah, Al}
use Rattle.vrt_model.specs.declared.flat_model.Cover.{Cover}
use Rattle.vrt_model.specs.declared.flat_model.FlatModel.{FlatModel}

-- ---- bits of numbers, and assignments

-- the bits of the signals, and behind them those of the elements, as an assignment, and back
abbrev pub assignment_of : ℕ → (ℕ → Bool) → Assignment
assignment_of signals bits = record { signal = bits; next = λ e. bits (signals + e) }

bits_of : ℕ → Assignment → ℕ → Bool
bits_of signals g n = cond (ltb n signals) (g.signal n) (g.next (n - signals))

signal_bit : (signals : ℕ) (g : Assignment) (n : ℕ) → n < signals → bits_of signals g n ≡ g.signal n
unfolding bits_of
signal_bit signals g n lt = ap (λ (b : Bool). cond b (g.signal n) (g.next (n - signals))) (lt-ltb n signals lt)

element_bit : (signals : ℕ) (g : Assignment) (n e : ℕ) → n ≡ signals + e → bits_of signals g n ≡ g.next e
unfolding bits_of
element_bit signals g n e is =
    ap (λ (b : Bool). cond b (g.signal n) (g.next (n - signals)))
    (le-ltb n signals (omega (arith, is)))
    ∙ ap g.next (omega (arith, is))

-- the new bits of the elements of a latch, and what its output shows
pub record HasPartValue (default_clock : Bool) (held bits : ℕ → Bool) (signals : ℕ) (part : Part) : Type 0 where
  pub value : (e : ℕ) → part.number ≡ signals + e → bits part.number ≡ stored part.transparent_at (control_value bits default_clock part.latch.control) (bits part.source) (held e)

-- the output of a latch has the new bit of its last element
shows_last : (kind : LatchKind) (control input : Bool) (held next : ℕ → Bool) (first : ℕ) (output : Bool) → LatchHolds kind control input held next first output → output ≡ next (last_by first kind)
shows_last Ah control input held next first output h = h.1
shows_last Al control input held next first output h = h.1
shows_last Re control input held next first output h = h.2
shows_last Fe control input held next first output h = h.2

-- ---- one latch

module _ (default_clock : Bool) (held bits : ℕ → Bool) (signals : ℕ) (l : Numbered) where
  abbrev control_now : Bool
  control_now = control_value bits default_clock l.latch.control

  abbrev new_bit : ℕ → Bool
  new_bit e = bits (signals + e)

  -- where each part has its value, the latch holds
  latch_holds : (kind : LatchKind) (output : Bool) → ((part : Part) → Among (parts_by signals l kind) part → HasPartValue default_clock held bits signals part)
      → output ≡ bits (signals + last_by l.first kind) → LatchHolds kind control_now (bits l.latch.input) held new_bit l.first output
  latch_holds Ah output each is = ((each _ (0, refl)).value l.first refl, is)
  latch_holds Al output each is = ((each _ (0, refl)).value l.first refl, is)
  latch_holds Re output each is = (
    (each _ (0, refl)).value l.first refl,
    ap bits (let same : signals + (l.first + 1) ≡ signals + l.first + 1 = omega arith in same) ∙ (each _ (1, refl)).value (l.first + 1) (omega arith),
    is,
  )
  latch_holds Fe output each is = (
    (each _ (0, refl)).value l.first refl,
    ap bits (let same : signals + (l.first + 1) ≡ signals + l.first + 1 = omega arith in same) ∙ (each _ (1, refl)).value (l.first + 1) (omega arith),
    is,
  )

  -- where the latch holds, each part has its value
  element_same : (d e n : ℕ) → signals + d ≡ n → n ≡ signals + e → held d ≡ held e
  element_same d e n one two = ap held (omega (arith, one, two))

  one_part : (part p : Part) (d : ℕ) → Some p ≡ Some part → p.number ≡ signals + d
      → bits p.number ≡ stored p.transparent_at (control_value bits default_clock p.latch.control) (bits p.source) (held d) → HasPartValue default_clock held bits signals part
  one_part part p d is number value = subst (HasPartValue default_clock held bits signals) (same_Some p part is) (record {
    value = λ e place. value ∙ ap (λ (b : Bool). stored p.transparent_at (control_value bits default_clock p.latch.control) (bits p.source) b) (element_same d e p.number (sym number) place);
  })

  part_holds : (kind : LatchKind) (output : Bool) → LatchHolds kind control_now (bits l.latch.input) held new_bit l.first output
      → (part : Part) → Among (parts_by signals l kind) part → HasPartValue default_clock held bits signals part
  part_holds Ah output h part (zero, e) = one_part part _ l.first e refl h.0
  part_holds Ah output h part (suc i, e) = absurd (none-some part e)
  part_holds Al output h part (zero, e) = one_part part _ l.first e refl h.0
  part_holds Al output h part (suc i, e) = absurd (none-some part e)
  part_holds Re output h part (zero, e) = one_part part _ l.first e refl h.0
  part_holds Re output h part (suc zero, e) =
      one_part part _ (l.first + 1) e (omega arith) (ap bits (let same : signals + l.first + 1 ≡ signals + (l.first + 1) = omega arith in same) ∙ h.1)
  part_holds Re output h part (suc (suc i), e) = absurd (none-some part e)
  part_holds Fe output h part (zero, e) = one_part part _ l.first e refl h.0
  part_holds Fe output h part (suc zero, e) =
      one_part part _ (l.first + 1) e (omega arith) (ap bits (let same : signals + l.first + 1 ≡ signals + (l.first + 1) = omega arith in same) ∙ h.1)
  part_holds Fe output h part (suc (suc i), e) = absurd (none-some part e)

-- latches that hold still do with other functions of the same bits
holds_over : (kind : LatchKind) (control c input i : Bool) (held next new : ℕ → Bool) (first : ℕ) (output o : Bool) → control ≡ c → input ≡ i → ((e : ℕ) → next e ≡ new e) → output ≡ o
    → LatchHolds kind control input held next first output → LatchHolds kind c i held new first o
holds_over Ah control c input i held next new first output o same_c same_i same_n same_o h = (
  sym (same_n first) ∙ (h.0 ∙ (ap (λ (x : Bool). cond x input (held first)) same_c ∙ ap (λ (x : Bool). cond c x (held first)) same_i)),
  sym same_o ∙ (h.1 ∙ same_n first),
)
holds_over Al control c input i held next new first output o same_c same_i same_n same_o h = (
  sym (same_n first) ∙ (h.0 ∙ (ap (λ (x : Bool). cond (not x) input (held first)) same_c ∙ ap (λ (x : Bool). cond (not c) x (held first)) same_i)),
  sym same_o ∙ (h.1 ∙ same_n first),
)
holds_over Re control c input i held next new first output o same_c same_i same_n same_o h = (
  sym (same_n first) ∙ (h.0 ∙ (ap (λ (x : Bool). cond (not x) input (held first)) same_c ∙ ap (λ (x : Bool). cond (not c) x (held first)) same_i)),
  sym (same_n (first + 1)) ∙ (h.1 ∙ (ap (λ (x : Bool). cond x (next first) (held (first + 1))) same_c ∙ ap (λ (x : Bool). cond c x (held (first + 1))) (same_n first))),
  sym same_o ∙ (h.2 ∙ same_n (first + 1)),
)
holds_over Fe control c input i held next new first output o same_c same_i same_n same_o h = (
  sym (same_n first) ∙ (h.0 ∙ (ap (λ (x : Bool). cond x input (held first)) same_c ∙ ap (λ (x : Bool). cond c x (held first)) same_i)),
  sym (same_n (first + 1)) ∙ (h.1 ∙ (ap (λ (x : Bool). cond (not x) (next first) (held (first + 1))) same_c ∙ ap (λ (x : Bool). cond (not c) x (held (first + 1))) (same_n first))),
  sym same_o ∙ (h.2 ∙ same_n (first + 1)),
)

-- ---- the whole model

module _ (flat : FlatModel) (model : IsFlatModel flat) (drivers : List Driver) (are : AreDrivers flat drivers) (default_clock : Bool) (held inputs : ℕ → Bool) where
  abbrev AreValues : (ℕ → Bool) → Type 0
  AreValues bits = (n : ℕ) → n < node_count flat → bits n ≡ value_of flat drivers default_clock held inputs bits n

  -- bits that follow from themselves are an assignment
  module _ (bits : ℕ → Bool) (values : AreValues bits) where
    value_by_driver : (n : ℕ) (d : Driver) → n < node_count flat → At drivers n d → bits n ≡ value_by flat d n bits default_clock held inputs
    value_by_driver n d lt e = values n lt ∙ ap (λ (x : Driver). value_by flat x n bits default_clock held inputs) (driver_is flat model drivers are n d e)

    part_value : (part : Part) → Among (parts_of flat) part → HasPartValue default_clock held bits (length flat.signals) part
    part_value part m =
        let p = are.parts part m in
        let s : Storage = p.0 in
        let is : IsStorage (length flat.signals) part s = p.2 in
        let r = part_ranges flat model part m in
        let low : part.number < node_count flat = (let number = r.number in let below = r.below in omega (arith, number, below)) in
        let shape : Bool → Option ℕ → ℕ → ℕ → Bool = λ open_at control source e. stored open_at (control_value bits default_clock control) (bits source) (held e) in
        record {
          value = λ e place.
              value_by_driver part.number (Element s) low p.1
              ∙ (ap (λ (x : Bool). shape x s.control s.source s.element) is.transparent
              ∙ (ap (λ (x : Option ℕ). shape part.transparent_at x s.source s.element) is.control
              ∙ (ap (λ (x : ℕ). shape part.transparent_at part.latch.control x s.element) is.source
              ∙ ap (λ (x : ℕ). shape part.transparent_at part.latch.control part.source x) (let there = is.place in let same : s.element ≡ e = omega (arith, there, place) in same))));
        }

    output_value : (l : Numbered) → Among (numbered_latches flat) l → bits l.latch.output ≡ bits (length flat.signals + last_by l.first l.latch.kind)
    output_value l m =
        let low = (latch_is flat model l.latch (latch_among flat l m)).output in
        value_by_driver l.latch.output (Stored (length flat.signals + last_by l.first l.latch.kind)) (omega (arith, low)) (stored_at flat model drivers are l m)

    pub assigned : IsAssigned flat default_clock held inputs (assignment_of (length flat.signals) bits)
    assigned = record {
      interface = λ s m. value_by_driver s Given (let low = interface_below flat model s m in omega (arith, low)) (given_at flat model drivers are s m);
      obeys = record {
        covers = λ c m.
            let p = cover_at flat model drivers are c m in
            value_by_driver c.output (Covered p.0) (let low = covered_below flat model c m in omega (arith, low)) p.1 ∙ cover_is_value flat.covers p.0 c bits p.2;
        latches = λ l m.
            latch_holds default_clock held bits (length flat.signals) l l.latch.kind (bits l.latch.output) (λ part n. part_value part (latch_part flat l part m n)) (output_value l m);
      };
    }

  -- and the other way round
  module _ (g : Assignment) (is : IsAssigned flat default_clock held inputs g) where
    bits : ℕ → Bool
    bits = bits_of (length flat.signals) g

    signal : (s : ℕ) → s < length flat.signals → bits s ≡ g.signal s
    unfolding bits
    signal s lt = signal_bit (length flat.signals) g s lt

    next : (e : ℕ) → bits (length flat.signals + e) ≡ g.next e
    unfolding bits
    next e = element_bit (length flat.signals) g (length flat.signals + e) e refl

    control_same : (control : Option ℕ) → IsControl (length flat.signals) control → unwrap_or (option_map g.signal control) default_clock ≡ control_value bits default_clock control
    control_same None range = refl
    control_same (Some s) range = sym (signal s range)

    latch_bits : (l : Numbered) → Among (numbered_latches flat) l
        → LatchHolds l.latch.kind (control_value bits default_clock l.latch.control) (bits l.latch.input) held (λ e. bits (length flat.signals + e)) l.first (bits l.latch.output)
    latch_bits l m =
        let range = latch_is flat model l.latch (latch_among flat l m) in
        holds_over l.latch.kind (control_bit default_clock g l.latch) (control_value bits default_clock l.latch.control) (g.signal l.latch.input) (bits l.latch.input) held g.next
        (λ e. bits (length flat.signals + e)) l.first (g.signal l.latch.output) (bits l.latch.output) (control_same l.latch.control range.control) (sym (signal l.latch.input range.input))
        (λ e. sym (next e)) (sym (signal l.latch.output range.output)) (is.obeys.latches l m)

    by_driver : (n : ℕ) (d : Driver) → n < node_count flat → IsDriver flat n d → bits n ≡ value_by flat d n bits default_clock held inputs
    by_driver n Given lt m = signal n (interface_below flat model n m) ∙ is.interface n m
    by_driver n (Covered place) lt h =
        let c : Cover = h.0 in
        let m : Among flat.covers c = (place, h.1) in
        subst (λ (x : ℕ). bits x ≡ cover_value flat.covers place bits) h.2
        (signal c.output (covered_below flat model c m)
        ∙ (is.obeys.covers c m
        ∙ (cover_same g.signal bits c (λ i a. sym (signal i (input_below flat model c i m a))) ∙ sym (cover_is_value flat.covers place c bits h.1))))
    by_driver n (Stored number) lt h =
        let l : Numbered = h.0 in
        subst (λ (x : ℕ). bits x ≡ bits number) h.2
        (shows_last l.latch.kind _ _ held (λ e. bits (length flat.signals + e)) l.first (bits l.latch.output) (latch_bits l h.1) ∙ ap bits (sym h.3))
    by_driver n (Element s) lt h =
        let part : Part = h.0 in
        let st : IsStorage (length flat.signals) part s = h.3 in
        let q = part_latch flat part h.1 in
        let l : Numbered = q.0 in
        let holds = part_holds default_clock held bits (length flat.signals) l l.latch.kind (bits l.latch.output) (latch_bits l q.1) part q.2 in
        let shape : Bool → Option ℕ → ℕ → Bool = λ open_at control source. stored open_at (control_value bits default_clock control) (bits source) (held s.element) in
        subst (λ (x : ℕ). bits x ≡ shape s.open_at s.control s.source) h.2
        (holds.value s.element st.place
        ∙ (ap (λ (x : Bool). shape x part.latch.control part.source) (sym st.transparent)
        ∙ (ap (λ (x : Option ℕ). shape s.open_at x part.source) (sym st.control) ∙ ap (λ (x : ℕ). shape s.open_at s.control x) (sym st.source))))

    values_of : AreValues bits
    values_of n lt =
        let there = driver_there flat model drivers are n lt in
        by_driver n (driver_at drivers n) lt (are.each n (driver_at drivers n) there)

  -- ---- exactly one

  module _ (known : List (Option Bool)) (outside : AreOutside flat known) (steps : List ℕ) (lists : ListsOnce (node_count flat) steps) (behind : AreBehind flat known drivers steps)
      (as_known : (s : ℕ) (v : Bool) → s < length flat.signals → entry_of known s ≡ Some v → inputs s ≡ v)
      (clock : (v : Bool) → entry_of known (length flat.signals) ≡ Some v → default_clock ≡ v) where
    abbrev value : (ℕ → Bool) → ℕ → Bool
    value = value_of flat drivers default_clock held inputs

    fixed_values : (b : ℕ → Bool) → AreFixed steps value (length steps) b → AreValues b
    fixed_values b fixed n lt = let p = lists.all n lt in fixed p.0 n (slice_get_within steps p.0 n p.1) p.1

    values_fixed : (b : ℕ → Bool) → AreValues b → AreFixed steps value (length steps) b
    values_fixed b values j n lt here = values n (lists.below n (j, here))

    same_bits : (b c : ℕ → Bool) → AreValues b → AreValues c → (n : ℕ) → n < node_count flat → b n ≡ c n
    same_bits b c one two n lt =
        let p = lists.all n lt in
        agree_to steps lists.once value (value_local flat model drivers are known outside steps lists.below behind default_clock held inputs as_known clock) (length steps) b c (values_fixed b one)
        (values_fixed c two) p.0 n (slice_get_within steps p.0 n p.1) p.1

    same_assignments : (g h : Assignment) → IsAssigned flat default_clock held inputs g → IsAssigned flat default_clock held inputs h → AreSame flat g h
    same_assignments g h one two =
        let same = same_bits (bits g one) (bits h two) (values_of g one) (values_of h two) in
        record {
          signal = λ s lt. sym (signal g one s lt) ∙ (same s (omega (arith, lt)) ∙ signal h two s lt);
          next = λ e lt. sym (next g one e) ∙ (same (length flat.signals + e) (omega (arith, lt)) ∙ next h two e);
        }

    pub one_assignment : HasOneAssignment flat default_clock held inputs
    one_assignment =
        let some = some_fixed steps lists.once value (value_local flat model drivers are known outside steps lists.below behind default_clock held inputs as_known clock) in
        record { some = (assignment_of (length flat.signals) some.0, assigned some.0 (fixed_values some.0 some.1)); one = same_assignments }
