-- What marks say of the nets, by their numbers.
use Rattle.std.specs.Prelude.{◌≡◌, ℕ, min, Bool, true, List, slice_index}
use Rattle.vrt_model.proofs.Clear.{HopFits, RootFits}
use Rattle.vrt_model.proofs.Marks.{IsMarked}
use Rattle.vrt_model.specs.Lists.{mark_at}
use Rattle.vrt_model.specs.Path.{Network}
use Rattle.plain_paths.specs.Channels.{Connects}
use Rattle.plain_paths.specs.declared.channels.Channel.{Channel}

-- over the channel the strength of the one net gives that of the other
abbrev pub ChannelFits : List ℕ → ℕ → Channel → ℕ → Type 0
ChannelFits strengths m ch n = min (slice_index strengths m) ch.level ≡ slice_index strengths n

-- the second marks have what the channel passes on from the first
abbrev pub MarksPass : List ℕ → Channel → List Bool → List Bool → Type 0
MarksPass strengths ch t u =
    (m n : ℕ) → Connects ch m n → ChannelFits strengths m ch n → mark_at t m ≡ true → mark_at u n ≡ true

-- a path from a root of the value, over devices that fit the strengths, ends at each marked net
abbrev pub Marked : Network → List ℕ → Bool → List Bool → Type 0
Marked w strengths value marks =
    IsMarked w (RootFits (slice_index strengths) value) (HopFits (slice_index strengths)) (mark_at marks)
