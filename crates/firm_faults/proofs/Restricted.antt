-- A network with some of its devices alone: at nets of which it has all that conduct it is the same.
use Rattle.std.proofs.Common.{◌≡◌, ◌⊎◌, ◌↔◌, ℕ, Bool, true, filter, refl}
use Rattle.vrt_model.proofs.Bounded.{reaches_inside, strength_inside}
use Rattle.vrt_model.proofs.Filtered.{among_kept, filter_among}
use Rattle.vrt_model.specs.Networks.{Covers, HasLevels, IsFinite, IsSource}
use Rattle.vrt_model.specs.Path.{IsOn, Joins, Network}
use Rattle.vrt_model.specs.Response.{IsStrength, Reaches}
use Rattle.vrt_model.specs.declared.circuit.Device.{Device}

-- the network with the devices that pass a test
abbrev pub restricted : Network → (Device → Bool) → Network
restricted w test = record w { devices = filter test w.devices }

module _ (w : Network) (test : Device → Bool) where
  pub restricted_on : (d : Device) → IsOn (restricted w test) d → IsOn w d × (test d ≡ true)
  restricted_on d on = let both = filter_among test w.devices d on.0 in ((both.0, on.1), both.1)

  pub on_restricted : (d : Device) → IsOn w d → test d ≡ true → IsOn (restricted w test) d
  on_restricted d on e = (among_kept test w.devices d on.0 e, on.1)

  pub restricted_levels : HasLevels w → HasLevels (restricted w test)
  restricted_levels l = record { roots = l.roots; devices = λ d on. l.devices d (restricted_on d on).0 }

  pub restricted_finite : (nets top : ℕ) → IsFinite w nets top → IsFinite (restricted w test) nets top
  restricted_finite nets top f = record {
    bounded = record { roots = f.bounded.roots; hops = λ m n d on j. f.bounded.hops m n d (restricted_on d on).0 j };
    most = f.most;
  }

  module _ (Inside Edge : ℕ → Type 0) (levels : HasLevels w) (edge : (n : ℕ) → Edge n → IsSource w n)
      (kept : (m n : ℕ) (d : Device) → IsOn w d → Joins d m n → Inside n → test d ≡ true)
      (bounded : (m n : ℕ) (d : Device) → IsOn w d → Joins d m n → Inside n → Inside m ⊎ Edge m) where
    covers : Covers w (restricted w test) Inside Edge
    covers = record {
      source = refl;
      roots = λ root r there. r;
      devices = λ m n d on j ins. on_restricted d on (kept m n d on j ins);
      bounded = bounded;
      edge = edge;
    }

    covers_back : Covers (restricted w test) w Inside Edge
    covers_back = record {
      source = refl;
      roots = λ root r there. r;
      devices = λ m n d on j ins. (restricted_on d on).0;
      bounded = λ m n d on j ins. bounded m n d (restricted_on d on).0 j ins;
      edge = edge;
    }

    pub restricted_reaches : (n : ℕ) (v : Bool) → Inside n → Reaches w n v ↔ Reaches (restricted w test) n v
    restricted_reaches n v ins = (
      reaches_inside w (restricted w test) Inside Edge levels (restricted_levels levels) covers covers_back n v ins,
      reaches_inside (restricted w test) w Inside Edge (restricted_levels levels) levels covers_back covers n v ins,
    )

    pub restricted_strength : (n l : ℕ) → Inside n → IsStrength w n l → IsStrength (restricted w test) n l
    restricted_strength n l ins h = strength_inside w (restricted w test) Inside Edge levels (restricted_levels levels) covers covers_back n l ins h
