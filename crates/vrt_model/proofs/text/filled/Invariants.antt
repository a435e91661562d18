use Rattle.std.proofs.Common.{◌≡◌, ◌+◌, ◌++◌, length, take}
use Rattle.vrt_model.proofs.text.filled.Given as goal

-- the bytes so far
abbrev pub invariant-loop-at : goal.invariant-loop-at
invariant-loop-at l = (take l.at l.room ≡ take l.at l.first) × (length l.room ≡ 14)

abbrev pub invariant-loop-place : goal.invariant-loop-place
invariant-loop-place l = (take (length l.first + l.place) l.room ≡ l.first ++ take l.place l.second) × (length l.room ≡ 14)
