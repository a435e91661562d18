-- The bits of nets that a flat model's signals have.
use Rattle.std.specs.Prelude.{◌≡◌, ℕ, zero, suc, Bool, List, [], ◌∷◌, unwrap_or, slice_get}
use Rattle.verilog_meaning.specs.Meaning.{IsMeaning, StandsAt}
use Rattle.verilog_meaning.specs.Nets.{nets_in}
use Rattle.verilog_models.specs.Models.{blif_of}
use Rattle.verilog_source.specs.Modules.{Module}
use Rattle.vrt_model.specs.Assignment.{Assignment, Obeys}
use Rattle.vrt_model.specs.FlatBlif.{ModelPlace, flat_model_of, signal_at, subs_at, top_model}
use Rattle.vrt_model.specs.Lists.{Among}
use Rattle.vrt_model.specs.Unrolled.{deepest}
use Rattle.vrt_model.specs.declared.blif.Blif.{Blif}

-- the sub-model of a place by its number
abbrev pub sub_place : Blif → ℕ → ModelPlace → ℕ → ModelPlace
sub_place blif depth at k = unwrap_or (slice_get (subs_at blif depth at) k) at

-- the place to which a path leads
abbrev pub place_on : Blif → ℕ → ModelPlace → List ℕ → ModelPlace
place_on blif depth at [] = at
place_on blif zero at (k ∷ path) = at
place_on blif (suc depth) at (k ∷ path) = place_on blif depth (sub_place blif depth at k) path

unfoldable pub flat_place : Blif → ℕ → List ℕ → ModelPlace
flat_place blif m path = place_on blif deepest (top_model m) path

-- the bit of a net at a path: that of its flat signal
abbrev pub flat_bits : Blif → ℕ → (ℕ → Bool) → List ℕ → List ℕ → Bool
flat_bits blif m bits path name = bits (signal_at blif (flat_place blif m path) name)

-- an assignment of a flat model, which has no latches, whatever its default clock and the held bits are
abbrev pub Assigns : Blif → ℕ → (ℕ → Bool) → Type 0
Assigns blif m bits = (clock : Bool) (held next : ℕ → Bool) → Obeys (flat_model_of blif m) clock held (record { signal = bits; next = next })

-- The signals of a flat model have the bits of the nets, at each path of instances.
abbrev pub HaveNetBits : List Module → ℕ → Module → (ℕ → Bool) → (List ℕ → List ℕ → Bool) → Type 0
HaveNetBits modules k top signals bits =
    (path : List ℕ) (m : Module) → StandsAt modules top path m → (x : List ℕ) → Among (nets_in m) x → flat_bits (blif_of modules) k signals path x ≡ bits path x

-- Bits of nets come from an assignment of the flat model.
pub record IsGot (modules : List Module) (k : ℕ) (top : Module) (bits : List ℕ → List ℕ → Bool) : Type 0 where
  pub signals : ℕ → Bool
  pub assigned : Assigns (blif_of modules) k signals
  pub nets : HaveNetBits modules k top signals bits

-- The assignments of a flat model are, but for the signals that the text does not name, exactly the bits of nets that the module
-- means.
pub record IsExact (modules : List Module) (k : ℕ) (top : Module) : Type 0 where
  pub means : (clock : Bool) (held : ℕ → Bool) (g : Assignment) → Obeys (flat_model_of (blif_of modules) k) clock held g → IsMeaning modules top (flat_bits (blif_of modules) k g.signal)
  pub got : (bits : List ℕ → List ℕ → Bool) → IsMeaning modules top bits → IsGot modules k top bits
