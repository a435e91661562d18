-- A set of nets that is shut in two circuits of one source level with the same devices at it: each of its nets responds in the one as in the other.
use Rattle.std.proofs.Common.{◌≡◌, ◌⊎◌, ℕ, ◌||◌, Bool, true, false, filter, length, subst, sym, refl, ◌∙◌, inl, inr}
use Rattle.std.proofs.lemmas.Bool.{false≢true, or_cases, or_left, or_right}
use Rattle.cell_inside.proofs.AssuredLaws.{response_by}
use Rattle.cell_inside.proofs.Copies.{touched}
use Rattle.cell_inside.proofs.Images.{image_conducts}
use Rattle.cell_inside.proofs.OutsideLaws.{outside_changes_nothing}
use Rattle.cell_inside.specs.Inside.{IsCopy, IsInside, IsOutside, IsShared, Touches}
use Rattle.cell_inside.specs.Placed.{IsImage}
use Rattle.known_nets.proofs.KnownShow.{no_root_inside}
use Rattle.known_nets.proofs.WiredLaws.{pin_of_whole}
use Rattle.known_nets.specs.Wired.{IsWired}
use Rattle.vrt_model.proofs.Bounded.{response_inside}
use Rattle.vrt_model.proofs.Filtered.{among_kept, filter_among}
use Rattle.vrt_model.proofs.Laws.{turned}
use Rattle.vrt_model.proofs.Locality.{fixed_given}
use Rattle.vrt_model.proofs.Networks.{given_source, network_finite, network_levels}
use Rattle.vrt_model.specs.Known.{IsFixed, IsShut}
use Rattle.vrt_model.specs.Levels.{source_level}
use Rattle.vrt_model.specs.Lists.{Among}
use Rattle.vrt_model.specs.Networks.{Covers, HasLevels, IsFinite}
use Rattle.vrt_model.specs.Path.{IsOn, IsRoot, Joins, Network, Root}
use Rattle.vrt_model.specs.Reading.{IsReading, devices_of}
use Rattle.vrt_model.specs.Response.{IsResponse, Response}
use Rattle.vrt_model.specs.State.{State, network_of}
use Rattle.vrt_model.specs.declared.circuit.Circuit.{Circuit}
use Rattle.vrt_model.specs.declared.circuit.Device.{Device}
use Rattle.vrt_model.specs.declared.rules.Phase.{Phase}
use Rattle.whole_solutions.proofs.GivenShow.{root_value}

-- each device of the first circuit at the set has an image in the second
abbrev pub HasImages : Circuit → Circuit → (ℕ → Bool) → Type 0
HasImages c e inside =
    (n m : ℕ) (d : Device) → inside n ≡ true → Among (devices_of true c) d → Joins d n m → (f : Device) × Among (devices_of true e) f × IsImage (λ x. x) d f

-- and each device of the second there is such an image
abbrev pub AreImages : Circuit → Circuit → (ℕ → Bool) → Type 0
AreImages c e inside =
    (n m : ℕ) (f : Device) → inside n ≡ true → Among (devices_of true e) f → Joins f n m → (d : Device) × Among (devices_of true c) d × IsImage (λ x. x) d f

-- an image joins what its device joins
pub image_joins : (d f : Device) (k l : ℕ) → IsImage (λ x. x) d f → Joins d k l → Joins f k l
image_joins d f k l image (inl j) = inl (image.left ∙ j.0, image.right ∙ j.1)
image_joins d f k l image (inr j) = inr (image.left ∙ j.0, image.right ∙ j.1)

pub image_joined : (d f : Device) (k l : ℕ) → IsImage (λ x. x) d f → Joins f k l → Joins d k l
image_joined d f k l image (inl j) = inl (sym image.left ∙ j.0, sym image.right ∙ j.1)
image_joined d f k l image (inr j) = inr (sym image.left ∙ j.0, sym image.right ∙ j.1)

module _ (c e : Circuit) (phase : Phase) (wired : IsWired c) (other : IsWired e) (level : source_level c ≡ source_level e) (inside reading : ℕ → Bool)
    (shut : IsShut c phase inside reading) (also : IsShut e phase inside reading) (reads : IsReading c phase reading reading) (reads_also : IsReading e phase reading reading)
    (fixed_also : (n : ℕ) (v : Bool) → IsFixed c phase n v → IsFixed e phase n v) (there : HasImages c e inside) (back : AreImages c e inside)
    (held kept driven given : ℕ → Bool) where
  abbrev first : Network
  first = network_of c true held (record { reading = reading; driven = driven })

  abbrev second : Network
  second = network_of e true kept (record { reading = reading; driven = given })

  abbrev state : State
  state = record { reading = reading; driven = λ i. false }

  -- a device at the set
  abbrev near : Device → Bool
  near d = inside d.left.0 || inside d.right.0

  -- the first circuit with the devices at the set alone
  abbrev part : Network
  part = let w : Network = network_of c true held (record { reading = reading; driven = driven }) in record w { devices = filter near (devices_of true c) }

  abbrev IsEdge : ℕ → Type 0
  IsEdge n = (v : Bool) × IsFixed c phase n v

  near_at : (d : Device) (n : ℕ) → Touches d n → inside n ≡ true → near d ≡ true
  near_at d n (inl q) ins = or_left (inside d.left.0) (inside d.right.0) (subst (λ (x : ℕ). inside x ≡ true) (sym q) ins)
  near_at d n (inr q) ins = or_right (inside d.left.0) (inside d.right.0) (subst (λ (x : ℕ). inside x ≡ true) (sym q) ins)

  of_part : (d : Device) → IsOn part d → Among (devices_of true c) d × (near d ≡ true)
  of_part d on = filter_among near (devices_of true c) d on.0

  no_root : (root : Root) → IsRoot first root → inside root.net ≡ true → ⊥
  no_root root r ins = no_root_inside c phase wired inside reading held (record { reading = reading; driven = driven }) shut root r ins

  no_root_there : (root : Root) → IsRoot second root → inside root.net ≡ true → ⊥
  no_root_there root r ins = no_root_inside e phase other inside reading kept (record { reading = reading; driven = given }) also root r ins

  -- ---- the devices at the set alone

  covers : Covers first part (λ n. inside n ≡ true) IsEdge
  covers = record {
    source = refl;
    roots = λ root r at. r;
    devices = λ m n d on j ins. (among_kept near (devices_of true c) d on.0 (near_at d n (touched d m n j) ins), on.1);
    bounded = λ m n d on j ins. shut.joined n m d ins on.0 (turned d m n j) on.1;
    edge = λ n is. given_source c true held (record { reading = reading; driven = driven }) wired.ranges n is.1.0 is.1.1 (fixed_given phase is.1.0.kind is.0 is.1.2);
  }

  covers_back : Covers part first (λ n. inside n ≡ true) IsEdge
  covers_back = record {
    source = refl;
    roots = λ root r at. r;
    devices = λ m n d on j ins. ((of_part d on).0, on.1);
    bounded = λ m n d on j ins. shut.joined n m d ins (of_part d on).0 (turned d m n j) on.1;
    edge = λ n is. given_source c true held (record { reading = reading; driven = driven }) wired.ranges n is.1.0 is.1.1 (fixed_given phase is.1.0.kind is.0 is.1.2);
  }

  part_levels : HasLevels part
  part_levels =
      let all = network_levels c true held (record { reading = reading; driven = driven }) wired.ranges in
      record { roots = all.roots; devices = λ d on. all.devices d ((of_part d on).0, on.1) }

  part_finite : IsFinite part (length c.nets) (source_level c)
  part_finite =
      let all = network_finite c true held (record { reading = reading; driven = driven }) wired.ranges in
      record {
        bounded = record { roots = all.bounded.roots; hops = λ m n d on j. all.bounded.hops m n d ((of_part d on).0, on.1) j };
        most = all.most;
      }

  -- ---- the set in the other circuit

  -- a net with a fixed bit is a source of it in both
  shared : (n : ℕ) → IsEdge n → IsShared part second (λ x. x) n
  shared n is =
      let there = fixed_also n is.0 is.1 in
      let here = fixed_given phase is.1.0.kind is.0 is.1.2 in
      let above = fixed_given phase there.0.kind is.0 there.2 in
      record {
        value = reading n;
        alone = record {
          root = record { net = n; level = source_level c; value = reading n };
          is = inl (is.1.0, is.1.1, here, refl, refl);
          net = refl;
          level = refl;
          value = refl;
          only = λ root r q full. root_value c wired.ranges (λ out m. let from = pin_of_whole c out m in wired.outputs out.whole out.pin from.0 from.1) true held
              (record { reading = reading; driven = driven }) n (is.1.0, is.1.1, here) root r q full;
        };
        above = record {
          root = record { net = n; level = source_level e; value = reading n };
          is = inl (there.0, there.1, above, refl, refl);
          net = refl;
          level = refl;
          value = refl;
          only = λ root r q full. root_value e other.ranges (λ out m. let from = pin_of_whole e out m in other.outputs out.whole out.pin from.0 from.1) true kept
              (record { reading = reading; driven = given }) n (there.0, there.1, above) root r q full;
        };
      }

  end_at : (m n : ℕ) → m ≡ n → (inside m ≡ true) ⊎ IsEdge m → (inside n ≡ true) ⊎ IsShared part second (λ x. x) n
  end_at m n q (inl ins) = inl (subst (λ (x : ℕ). inside x ≡ true) q ins)
  end_at m n q (inr is) = inr (subst (IsShared part second (λ x. x)) q (shared m is))

  ends : (d : Device) (n : ℕ) → IsOn part d → Touches d n → (inside n ≡ true) ⊎ IsShared part second (λ x. x) n
  ends d n on t =
      elim (or_cases (inside d.left.0) (inside d.right.0) (of_part d on).1) [
        | inl l ↦
            let far = shut.joined d.left.0 d.right.0 d l (of_part d on).0 (inl (refl, refl)) on.1 in
            elim t [ inl q ↦ end_at d.left.0 n q (inl l) | inr q ↦ end_at d.right.0 n q far ]
        | inr r ↦
            let far = shut.joined d.right.0 d.left.0 d r (of_part d on).0 (inr (refl, refl)) on.1 in
            elim t [ inl q ↦ end_at d.left.0 n q far | inr q ↦ end_at d.right.0 n q (inl r) ]
      ]

  on_there : (d : Device) → IsOn part d → (f : Device) × IsOn second f × IsCopy (λ x. x) d f
  on_there d on =
      let a = of_part d on in
      let f : (g : Device) × Among (devices_of true e) g × IsImage (λ x. x) d g =
      elim (or_cases (inside d.left.0) (inside d.right.0) a.1) [
        | inl l ↦ there d.left.0 d.right.0 d l a.0 (inl (refl, refl))
        | inr r ↦ there d.right.0 d.left.0 d r a.0 (inr (refl, refl))
      ] in
      (f.0, (f.1, image_conducts state (λ x. x) d f.0 f.2 ∙ on.1), (f.2.level, f.2.left, f.2.right))

  -- no other device is at the set
  none_else : (f : Device) (n m : ℕ) → IsOn second f → IsOutside part (λ x. x) f → inside n ≡ true → Joins f n m → ⊥
  none_else f n m on out ins j =
      let d = back n m f ins on.0 j in
      let joins = image_joined d.0 f n m d.2 j in
      out d.0 (among_kept near (devices_of true c) d.0 d.1 (near_at d.0 n (touched d.0 m n (turned d.0 n m joins)) ins), sym (image_conducts state (λ x. x) d.0 f d.2) ∙ on.1)
      (d.2.level, d.2.left, d.2.right)

  no_device : (f : Device) (n : ℕ) → IsOn second f → IsOutside part (λ x. x) f → inside n ≡ true → Touches f n → ⊥
  no_device f n on out ins (inl q) = none_else f n f.right.0 on out ins (inl (q, refl))
  no_device f n on out ins (inr q) = none_else f n f.left.0 on out ins (inr (refl, q))

  part_inside : IsInside part second (λ x. x) inside (λ n. false) (λ n. 0)
  part_inside = record {
    source = level;
    no_root = λ root r ins. no_root root r ins;
    bounded = ends;
    there = on_there;
    exposed_inside = λ n q. absurd (false≢true q);
    devices = λ f n on out ins t. absurd (no_device f n on out ins t);
    roots = λ root n r ins q. absurd (no_root_there root r (subst (λ (x : ℕ). inside x ≡ true) (sym q) ins));
    apart = λ d m n on t ins q. inl q;
    drives = λ n q. absurd (false≢true q);
    not_above = λ root hops n path out q last. absurd (false≢true q);
  }

  pub responds_there : (n : ℕ) (r : Response) → inside n ≡ true → IsResponse first n r → IsResponse second n r
  responds_there n r ins responds =
      let law =
      outside_changes_nothing part second (λ x. x) inside (λ m. false) (λ m. 0) (length c.nets) (length e.nets) part_levels
      (network_levels e true kept (record { reading = reading; driven = given }) other.ranges)
      part_finite (network_finite e true kept (record { reading = reading; driven = given }) other.ranges) (λ m q. absurd (false≢true q)) part_inside in
      elim law.2 [
        | inl fight ↦ absurd (false≢true fight.1)
        | inr alike ↦
            response_by part second n n (λ u. alike n u ins) r
            (response_inside first part (λ m. inside m ≡ true) IsEdge (network_levels c true held (record { reading = reading; driven = driven }) wired.ranges) part_levels covers covers_back n r ins responds)
      ]
