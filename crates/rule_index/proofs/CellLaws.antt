-- The numbers of cells, while they are noted by their names.
use Rattle.std.proofs.Common.{◌+◌, ℕ, Option, option_map}

-- a number among those from i on
abbrev pub from : ℕ → Option ℕ → Option ℕ
from i o = option_map (λ n. i + n) o
