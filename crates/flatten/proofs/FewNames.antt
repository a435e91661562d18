-- How many names a cell without instances has at most.
use Rattle.std.proofs.Common.{◌≡◌, ◌≤◌, ◌+◌, ◌*◌, ◌∷◌, ◌++◌, [], ℕ, suc, List, Bool, true, false, cond, filter, nat_lt, length, length-append, Option, Some, None, refl, sym, ◌∙◌, arith, inl, inr}
use Rattle.std.proofs.lemmas.Bool.{cases_lt}
use Rattle.std.proofs.lemmas.Bool.Decides.{nat_tests}
use Rattle.flatten.specs.NetTables.{Supplies, globals_named, names_table, nets_named, port_table, with_net, with_nets}
use Rattle.names.specs.Names.{with_name}
use Rattle.vrt_model.specs.Lists.{has_name}
use Rattle.vrt_model.specs.Unsupported.{carried}
use Rattle.vrt_model.specs.declared.design.Cell.{Cell}
use Rattle.vrt_model.specs.declared.design.DeviceCard.{DeviceCard}

-- one net adds one name at most
one_more : (supply : Supplies) (names : List (List ℕ)) (name : List ℕ) → length (with_net supply names name) ≤ length names + 1
one_more supply names name = by_supply (supply name) where
  by_test : (b : Bool) → length (cond b names (names ++ name ∷ [])) ≤ length names + 1
  by_test true = omega arith
  by_test false = let len = length-append names (name ∷ []) in omega (arith, len)

  by_supply : (o : Option Bool) → length {A = List ℕ} (elim o [ None ↦ with_name names name | Some value ↦ names ]) ≤ length names + 1
  by_supply None = by_test (has_name names name)
  by_supply (Some value) = omega arith

length-with_nets : (supply : Supplies) (names xs : List (List ℕ)) → length (with_nets supply names xs) ≤ length names + length xs
length-with_nets supply names [] = omega arith
length-with_nets supply names (x ∷ xs) =
    let rest = length-with_nets supply (with_net supply names x) xs in let one = one_more supply names x in omega (arith, rest, one)

fewer : (p : List ℕ → Bool) (xs : List (List ℕ)) → length (filter p xs) ≤ length xs
fewer p [] = omega arith
fewer p (x ∷ xs) = by_test (p x) (fewer p xs) where
  by_test : (b : Bool) → length (filter p xs) ≤ length xs → length (cond b (x ∷ filter p xs) (filter p xs)) ≤ suc (length xs)
  by_test true h = omega (arith, h)
  by_test false h = omega (arith, h)

three_each : (cards : List DeviceCard) → length (nets_named cards) ≡ length cards * 3
three_each [] = refl
three_each (card ∷ cards) = let rest = three_each cards in omega (arith, rest)

-- a carried count that does not pass the limit
not_past : (n count : ℕ) → n ≡ carried count → nat_lt 20000 n ≡ false → count ≤ 20000
not_past n count e small =
    elim (cases_lt 20000 n) [
      | inl more ↦ (let yes : nat_lt 20000 n ≡ true = grind (arith, nat_tests, more) in let h : true ≡ false = sym yes ∙ small in cc)
      | inr less ↦ omega (arith, e, less)
    ]

-- the nets of the names, where all that can be named is few enough
pub few_names : (supply : Supplies) (globals : List (List ℕ)) (cell : Cell) (n : ℕ)
    → n ≡ carried (length cell.devices * 3 + length cell.ports + length globals + 2) → nat_lt 20000 n ≡ false → length (names_table supply globals cell) + 2 ≤ 20000
few_names supply globals cell n e small =
    let ports = port_table supply cell in
    let shared = with_nets supply ports (globals_named cell.devices globals) in
    let a = length-with_nets supply [] cell.ports in
    let b = length-with_nets supply ports (globals_named cell.devices globals) in
    let c = length-with_nets supply shared (nets_named cell.devices) in
    let d = fewer (has_name (nets_named cell.devices)) globals in
    let f = three_each cell.devices in
    let few = not_past n (length cell.devices * 3 + length cell.ports + length globals + 2) e small in
    omega (arith, a, b, c, d, f, few)
