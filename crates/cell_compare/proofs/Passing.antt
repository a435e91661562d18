-- A phase that may use up its budget may pass it by all that is counted of the flat circuit.
use Rattle.std.proofs.Common.{◌≡◌, ℕ, ◌+◌, ◌*◌, ◌^◌, ◌<◌, ◌≤◌, arith, ap}
use Rattle.std.proofs.Math.Nat.{mul-le-mul_left}

-- as many variables and no less work
pub passed_more : (u v small large budget : ℕ) → u ≡ v → small ≤ large → (4 < u) × (budget < 2 + 2 ^ u * small) → (4 < v) × (budget < 2 + 2 ^ v * large)
passed_more u v small large budget same less (many, passed) =
    let scaled : 2 ^ u * small ≤ 2 ^ u * large = mul-le-mul_left {m = small} {n = large} (2 ^ u) less in
    let power : 2 ^ u * large ≡ 2 ^ v * large = ap (λ (n : ℕ). 2 ^ n * large) same in
    (omega (arith, many, same), omega (arith, passed, scaled, power))
