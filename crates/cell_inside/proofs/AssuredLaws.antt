-- Nets that the same values reach respond in the same way.
use Rattle.std.proofs.Common.{ℕ, Bool, true, false}
use Rattle.std.specs.Prelude.{◌↔◌}
use Rattle.vrt_model.specs.Path.{Network}
use Rattle.vrt_model.specs.Response.{Fight, Float, IsResponse, Reaches, Response, Shows}

-- a net that the same values reach shows the same
shows_by : (w x : Network) (m n : ℕ) → ((cell : Bool) → Reaches w m cell ↔ Reaches x n cell) → (cell : Bool) → IsResponse w m (Shows cell) → IsResponse x n (Shows cell)
shows_by w x m n same true h = ((same true).0 h.0, λ q. h.1 ((same false).1 q))
shows_by w x m n same false h = ((same false).0 h.0, λ q. h.1 ((same true).1 q))

-- and responds in the same way
pub response_by : (w x : Network) (m n : ℕ) → ((cell : Bool) → Reaches w m cell ↔ Reaches x n cell) → (r : Response) → IsResponse w m r → IsResponse x n r
response_by w x m n same Fight h = ((same true).0 h.0, (same false).0 h.1)
response_by w x m n same Float h = (λ q. h.0 ((same true).1 q), λ q. h.1 ((same false).1 q))
response_by w x m n same (Shows cell) h = shows_by w x m n same cell h
