-- What a region shows does not depend on what is outside; so a solution has the bits of regions that support themselves.
use Rattle.std.proofs.Common.{◌≡◌, ◌⊎◌, ℕ, zero, suc, ◌≤◌, Bool, true, Option, Some, arith, subst, sym, refl, ◌∙◌, ap, inl, inr}
use Rattle.cell_inside.proofs.NetKinds.{plain_not_given}
use Rattle.cell_inside.proofs.OutputPins.{pin_found}
use Rattle.cell_inside.specs.Regions.{ArePinsPlain, AreRegions, HasBits, IsGivenNet, IsRegion, RegionIsLocal, RegionsAreSolved}
use Rattle.vrt_model.proofs.Bounded.{response_inside}
use Rattle.vrt_model.proofs.GatesGiven.{given_once}
use Rattle.vrt_model.proofs.Networks.{given_source, network_levels}
use Rattle.vrt_model.specs.Known.{IsPlain}
use Rattle.vrt_model.specs.Networks.{Covers, HasRanges}
use Rattle.vrt_model.specs.Path.{Network}
use Rattle.vrt_model.specs.Reading.{conducts_at}
use Rattle.vrt_model.specs.Response.{IsResponse, Response, Shows}
use Rattle.vrt_model.specs.Solution.{AlwaysResponds, IsSolution}
use Rattle.vrt_model.specs.State.{IsState, Setting, State, network_of}
use Rattle.vrt_model.specs.declared.circuit.Circuit.{Circuit}
use Rattle.vrt_model.specs.declared.rules.Phase.{Phase}

module _ (c : Circuit) (phase : Phase) (setting : Setting) (region base bits : ℕ → Bool) (ranges : HasRanges c) (plain_pins : ArePinsPlain c)
    (p : IsRegion c phase setting region base bits) where
  abbrev view : State → Network
  view s = network_of c true setting.held s

  same_given : (s t : State) → IsState c phase setting.inputs s → IsState c phase setting.inputs t → (n : ℕ) → IsGivenNet c n → s.reading n ≡ t.reading n
  same_given s t is it n g = given_once phase setting.inputs g.0.kind n (s.reading n) (t.reading n) g.2 (is.reading n g.0 g.1) (it.reading n g.0 g.1)

  covers : (s t : State) → IsState c phase setting.inputs s → IsState c phase setting.inputs t → HasBits base bits s → HasBits base bits t
      → Covers (view s) (view t) (λ n. region n ≡ true) (IsGivenNet c)
  covers s t is it hs ht = record {
    source = refl;
    roots = λ root r there. elim r [
      | inl g ↦ inl (g.0, g.1, g.2, g.3, g.4 ∙ same_given s t is it root.net (g.0, g.1, g.2))
      | inr other ↦ elim other [
        | inl h ↦ inr (inl h)
        | inr o ↦
            let out = pin_found c o.0 o.1 o.2 in
            let net : out.0.pin.net.0 ≡ root.net = ap (λ q. q.net.0) out.2 ∙ sym o.3 in
            elim there [
              | inl ins ↦ inr (inr (o.0, o.1, o.2, o.3, o.4, o.5 ∙ p.pins s t is it hs ht o.0 out.0 out.1 (subst (λ (n : ℕ). region n ≡ true) (sym net) ins)))
              | inr given ↦ absurd (plain_not_given c root.net given.0.0 (subst (IsPlain c) net (plain_pins out.0 (o.0, out.1))) given.0.1 given.0.2)
            ]
      ]
    ];
    devices = λ m n d on joins ins.
        let same : s.reading d.gate.0 ≡ t.reading d.gate.0 =
        elim (p.gates n m d ins on.0 joins) [ inl b ↦ hs d.gate.0 b ∙ sym (ht d.gate.0 b) | inr g ↦ same_given s t is it d.gate.0 g ] in
        (on.0, subst (λ (b : Bool). conducts_at d.kind b ≡ true) same on.1);
    bounded = λ m n d on joins ins. p.bounded n m d s ins on.0 joins is hs on.1;
    edge = λ n g. given_source c true setting.held s ranges n g.0 g.1 g.2;
  }

  pub region_responds : (s t : State) → IsState c phase setting.inputs s → IsState c phase setting.inputs t → HasBits base bits s → HasBits base bits t
      → (n : ℕ) (r : Response) → region n ≡ true → IsResponse (view s) n r → IsResponse (view t) n r
  region_responds s t is it hs ht n r ins h =
      response_inside (view s) (view t) (λ k. region k ≡ true) (IsGivenNet c) (network_levels c true setting.held s ranges) (network_levels c true setting.held t ranges)
      (covers s t is it hs ht) (covers t s it is ht hs) n r ins h

pub region_is_local : RegionIsLocal
region_is_local c phase setting region base bits s t ranges plain_pins p is it hs ht n r ins h = region_responds c phase setting region base bits ranges plain_pins p s t is it hs ht n r ins h

module _ (c : Circuit) (phase : Phase) (setting : Setting) (observed fixed : ℕ → Bool) (region base : ℕ → ℕ → Bool) (s : State) (a : ℕ → Option Bool)
    (ranges : HasRanges c) (plain_pins : ArePinsPlain c) (p : AreRegions c phase setting observed fixed region base s.reading)
    (is : IsState c phase setting.inputs s) (held_bits : (n : ℕ) → fixed n ≡ true → observed n ≡ true → a n ≡ Some (s.reading n))
    (shows : (rank n : ℕ) → base rank n ≡ true → (fixed n ≡ true) ⊎ IsResponse (network_of c true setting.held s) n (Shows (s.reading n)))
    (solves : IsSolution c phase observed setting a) where
  -- a net of a base stands in a region of a lower rank, so by induction on ranks
  base_bits : (bound rank n : ℕ) → rank ≤ bound → base rank n ≡ true → a n ≡ Some (s.reading n)
  base_bits zero rank n le b =
      elim (p.below rank n b).1 [
        | inl f ↦ held_bits n f (p.below rank n b).0
        | inr low ↦ absurd (let lt = low.1 in omega (arith, le, lt))
      ]
  base_bits (suc bound) rank n le b =
      elim (shows rank n b) [
        | inl f ↦ held_bits n f (p.below rank n b).0
        | inr h ↦ elim (p.below rank n b).1 [
          | inl f ↦ held_bits n f (p.below rank n b).0
          | inr low ↦
              (solves n (s.reading n) (p.below rank n b).0).1 (λ t it agrees.
              region_responds c phase setting (region low.0) (base low.0) s.reading ranges plain_pins (p.each low.0) s t is it (λ m k. refl)
              (λ m k. agrees m (s.reading m) (p.below low.0 m k).0 (base_bits bound low.0 m (let lt = low.1 in omega (arith, le, lt)) k))
              n (Shows (s.reading n)) low.2 h)
        ]
      ]

  pub region_always : (rank n : ℕ) (r : Response) → region rank n ≡ true → IsResponse (network_of c true setting.held s) n r → AlwaysResponds c phase observed setting a true n r
  region_always rank n r ins h t it agrees =
      region_responds c phase setting (region rank) (base rank) s.reading ranges plain_pins (p.each rank) s t is it (λ m k. refl)
      (λ m k. agrees m (s.reading m) (p.below rank m k).0 (base_bits rank rank m (omega arith) k)) n r ins h

pub regions_are_solved : RegionsAreSolved
regions_are_solved c phase setting observed fixed region base s a ranges plain_pins p is held_bits shows solves = (
  λ rank n b. base_bits c phase setting observed fixed region base s a ranges plain_pins p is held_bits shows solves rank rank n (omega arith) b,
  region_always c phase setting observed fixed region base s a ranges plain_pins p is held_bits shows solves,
)
