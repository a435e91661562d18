-- Keys by which parts and instances stand in their order: a rank, 0 for a part and 1 for an instance, and a number.
use Rattle.std.specs.Prelude.{◌≡◌, ℕ, zero, suc, ◌<◌, ◌==◌, cond, List, [], ◌∷◌, ◌++◌, Option, Some, None, length, option_map, slice_get, slice_index, unwrap_or}
use Rattle.std.specs.List.Sorted.{IsPermutation, IsSorted}
use Rattle.channel_parts.specs.Listings.{order_cmp}
use Rattle.channel_parts.specs.PartLists.{net_numbers}
use Rattle.channel_parts.specs.declared.part.Part.{Part}
use Rattle.circuit_faults.specs.declared.steps.CircuitStep.{CircuitStep}
use Rattle.circuit_faults.specs.declared.steps.CircuitStep.TheVariants.{Part as PartStep, Instance as InstanceStep}
use Rattle.constraints.specs.Obliged.{has_lines, nets_named}
use Rattle.vrt_model.specs.Comparison.{cell_at}
use Rattle.vrt_model.specs.Lists.{At, Among}
use Rattle.vrt_model.specs.Places.{greatest_rank}
use Rattle.vrt_model.specs.declared.circuit.Circuit.{Circuit}
use Rattle.vrt_model.specs.declared.circuit.FlatInstance.{FlatInstance}
use Rattle.vrt_model.specs.declared.design.Design.{Design}
use Rattle.vrt_model.specs.declared.rules.Rules.{Rules}

-- an instance has a net for each port of its cell
abbrev pub HasAllPorts : Design → FlatInstance → Type 0
HasAllPorts design i = length i.ports ≡ length (cell_at design i.cell).ports

-- ---- the rank of each net

-- the rank of a part was noted at its nets alone
pub record IsNoted (part : Part) (old new : List ℕ) : Type 0 where
  pub inside : (n : ℕ) → Among (net_numbers part.nets) n → slice_index new n ≡ part.rank
  pub outside : (n : ℕ) → (¬ Among (net_numbers part.nets) n) → slice_index new n ≡ slice_index old n

-- the nets of the first parts have the ranks of their parts, where these are those of a function; others have 0
pub record AreNetRanks (parts : List Part) (k : ℕ) (ranks : List ℕ) : Type 0 where
  pub inside :
      (rank : ℕ → ℕ) → ((part : Part) (n : ℕ) → Among parts part → Among (net_numbers part.nets) n → part.rank ≡ rank n)
      → (j : ℕ) (part : Part) (n : ℕ) → j < k → At parts j part → Among (net_numbers part.nets) n → slice_index ranks n ≡ rank n
  pub outside : (n : ℕ) → ((j : ℕ) (part : Part) → j < k → At parts j part → ¬ Among (net_numbers part.nets) n) → slice_index ranks n ≡ 0

-- ---- keys

-- the rank of the part of a number
abbrev pub part_rank : List Part → ℕ → ℕ
part_rank parts number = unwrap_or (option_map (λ (part : Part). part.rank) (slice_get parts number)) 0

-- the keys of the first parts
abbrev pub part_keys : List Part → ℕ → List ((ℕ × ℕ) × ℕ)
part_keys parts zero = []
part_keys parts (suc n) = part_keys parts n ++ ((part_rank parts n, 0), n) ∷ []

-- the key of an instance, where its cell has a line: its rank is the greatest of the nets that the lines name
abbrev pub key_of : Design → Rules → ℕ → List ℕ → ℕ → Option FlatInstance → List ((ℕ × ℕ) × ℕ)
key_of design rules phase ranks at None = []
key_of design rules phase ranks at (Some i) =
    cond (has_lines design rules phase i) (((greatest_rank (slice_index ranks) (nets_named design rules phase i), 1), at) ∷ []) []

abbrev pub instance_key : Design → Rules → Circuit → ℕ → List ℕ → ℕ → List ((ℕ × ℕ) × ℕ)
instance_key design rules c phase ranks at = key_of design rules phase ranks at (slice_get c.instances at)

-- the keys of the first instances
abbrev pub instance_keys : Design → Rules → Circuit → ℕ → List ℕ → ℕ → List ((ℕ × ℕ) × ℕ)
instance_keys design rules c phase ranks zero = []
instance_keys design rules c phase ranks (suc n) = instance_keys design rules c phase ranks n ++ instance_key design rules c phase ranks n

-- all keys, as they are listed
abbrev pub all_keys : Design → Rules → Circuit → ℕ → List Part → List ℕ → List ((ℕ × ℕ) × ℕ)
all_keys design rules c phase parts ranks = part_keys parts (length parts) ++ instance_keys design rules c phase ranks (length c.instances)

-- and as they are sorted
pub record AreSorted (design : Design) (rules : Rules) (c : Circuit) (phase : ℕ) (parts : List Part) (ranks : List ℕ) (keys : List ((ℕ × ℕ) × ℕ)) : Type 0 where
  pub sorted : IsSorted order_cmp keys
  pub permutation : IsPermutation (all_keys design rules c phase parts ranks) keys

-- the step of a key
abbrev pub step_of_key : (ℕ × ℕ) × ℕ → CircuitStep
step_of_key key = cond (key.0.1 == 0) (PartStep key.1) (InstanceStep key.1)
