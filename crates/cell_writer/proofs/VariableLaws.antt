-- The names of the variables, by the roles of ports.
use Rattle.std.proofs.Common.{◌≡◌, ℕ, suc, List, Option, [], ◌∷◌, ap, arith, length, map, refl}
use Rattle.std.specs.Prelude.{filter_map, option_map}
use Rattle.cell_writer.specs.Names.{input_name, name_in}
use Rattle.vrt_model.specs.Assignment.{Tied}
use Rattle.vrt_model.specs.Comparison.{CellPort, input_signal, ports_from}
use Rattle.vrt_model.specs.declared.pairing.PortRole.{PortRole}
use Rattle.vrt_model.specs.declared.pairing.PortRole.TheVariants.{Supply, Clock, Input, Output}

-- what an input port ties
abbrev tied_by : CellPort → Option Tied
tied_by p = option_map (λ (signal : ℕ). let tied : Tied = record { net = p.net; signal = signal } in tied) (input_signal p.role)

-- ports with a net and a role for each name
pub names_by_roles : (signals : List (List ℕ)) (at : ℕ) (names : List (List ℕ)) (nets : List ℕ) (roles : List PortRole) → length nets ≡ length names → length roles ≡ length names
    → map (λ (t : Tied). name_in signals t.signal) (filter_map tied_by (ports_from at names nets roles)) ≡ filter_map (input_name signals) roles
names_by_roles signals at [] nets [] a b = refl
names_by_roles signals at [] nets (r ∷ rs) a b = absurd (omega (arith, b))
names_by_roles signals at (x ∷ xs) [] roles a b = absurd (omega (arith, a))
names_by_roles signals at (x ∷ xs) (n ∷ ns) [] a b = absurd (omega (arith, b))
names_by_roles signals at (x ∷ xs) (n ∷ ns) (r ∷ rs) a b = by_role r (names_by_roles signals (suc at) xs ns rs (omega (arith, a)) (omega (arith, b)))
  where
    Rest : Type 0
    Rest = map (λ (t : Tied). name_in signals t.signal) (filter_map tied_by (ports_from (suc at) xs ns rs)) ≡ filter_map (input_name signals) rs

    by_role : (role : PortRole) → Rest
        → map (λ (t : Tied). name_in signals t.signal) (filter_map tied_by (ports_from at (x ∷ xs) (n ∷ ns) (role ∷ rs))) ≡ filter_map (input_name signals) (role ∷ rs)
    by_role (Supply value) rest = rest
    by_role (Clock clock) rest = rest
    by_role (Input signal) rest = ap (λ (names : List (List ℕ)). name_in signals signal ∷ names) rest
    by_role (Output signal) rest = rest
