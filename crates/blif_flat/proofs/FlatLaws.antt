-- Limits of unrolled models.
use Rattle.std.proofs.Common.{◌≡◌, ◌≤◌, ◌-◌, ◌∷◌, [], ℕ, List, Bool, true, false, cond, length, Some, None, option_map, refl}
use Rattle.std.specs.Prelude.{find, nat_lt}
use Rattle.std.specs.List.{sum_by}
use Rattle.std.proofs.lemmas.Bool.{ltb-false}
use Rattle.vrt_model.specs.FlatBlif.{all_models, flat_model_of}
use Rattle.vrt_model.specs.Unsupported.{Limit, carried, model_limits, too_large}
use Rattle.vrt_model.specs.declared.blif.Blif.{Blif}
use Rattle.vrt_model.specs.declared.flat_model.Cover.{Cover}

-- the first count is within its limit where none passes
first_within : (a limit : ℕ) (rest : List Limit) → too_large (record { count = a; limit = limit } ∷ rest) ≡ None → a ≤ limit
first_within a limit rest e = by_test (nat_lt limit a) refl e where
  by_test : (b : Bool) → nat_lt limit a ≡ b → option_map (λ (l : Limit). carried l.count) (cond b (Some (record { count = a; limit = limit })) (find (λ (l : Limit). nat_lt l.limit l.count) rest)) ≡ None → a ≤ limit
  by_test true h e = cc
  by_test false h e = ltb-false limit a h

-- an unrolled model within the limits has at most 20,000 signals
pub signals_within : (blif : Blif) (m : ℕ) → too_large (model_limits blif m) ≡ None → length (flat_model_of blif m).signals ≤ 20000
signals_within blif m e =
    let rest : List Limit =
    record { count = sum_by (λ (c : Cover). length c.rows) (flat_model_of blif m).covers; limit = 200000 } ∷ record { count = length (all_models blif m) - 1; limit = 40000 } ∷ [] in
    first_within (length (flat_model_of blif m).signals) 20000 rest e

rest_within : (a limit : ℕ) (rest : List Limit) → too_large (record { count = a; limit = limit } ∷ rest) ≡ None → too_large rest ≡ None
rest_within a limit rest e = by_test (nat_lt limit a) e where
  by_test : (b : Bool) → option_map (λ (l : Limit). carried l.count) (cond b (Some (record { count = a; limit = limit })) (find (λ (l : Limit). nat_lt l.limit l.count) rest)) ≡ None → too_large rest ≡ None
  by_test true e = cc
  by_test false e = e

-- and at most 200,000 rows
pub rows_within : (blif : Blif) (m : ℕ) → too_large (model_limits blif m) ≡ None → sum_by (λ (c : Cover). length c.rows) (flat_model_of blif m).covers ≤ 200000
rows_within blif m e =
    let last : List Limit = record { count = length (all_models blif m) - 1; limit = 40000 } ∷ [] in
    let rest : List Limit = record { count = sum_by (λ (c : Cover). length c.rows) (flat_model_of blif m).covers; limit = 200000 } ∷ last in
    first_within (sum_by (λ (c : Cover). length c.rows) (flat_model_of blif m).covers) 200000 last (rest_within (length (flat_model_of blif m).signals) 20000 rest e)
