-- The text of functions by handles.
use Rattle.std.proofs.Common.{◌≡◌, ℕ, ◌<◌, List, All, length, map, subst}
use Rattle.bdd_core.specs.Store.{IsLive}
use Rattle.bdd_core.specs.declared.handle.H.{H}
use Rattle.output_functions.specs.declared.functions.Functions.{Functions}
use Rattle.output_joins.specs.Joins.{AreLive, handle_in}
use Rattle.vrt_model.proofs.Members.{all_among, all_by, among_map}
use Rattle.vrt_model.specs.Lists.{Among}

-- chosen handles are live
pub chosen_live : (f : Functions) (outputs : List ℕ) (chosen : List H) → AreLive f.store f.handles.items → All (λ s. s < length f.handles.items) outputs
    → chosen ≡ map (handle_in f.handles.items) outputs → All (IsLive f.store) chosen
chosen_live f outputs chosen live within is = all_by (IsLive f.store) chosen each
  where
    each : (h : H) → Among chosen h → IsLive f.store h
    each h m =
        let from = among_map (handle_in f.handles.items) outputs h (subst (λ (hs : List H). Among hs h) is m) in
        subst (λ (x : H). IsLive f.store x) from.2 (live from.0 (all_among (λ s. s < length f.handles.items) outputs from.0 within from.1))
