-- What a list of bits gives, read through the valuation that it is: the held values of holds, and whether the constraints are met.
use Rattle.std.proofs.Common.{◌≡◌, ℕ, suc, ◌&&◌, Bool, List, [], ◌∷◌, Option, Some, None, ap₂, refl}
use Rattle.std.proofs.Math.Path.{fun_ext}
use Rattle.bdd_ops.specs.Ops.{bits_of}
use Rattle.constraints.specs.Cared.{meets_by}
use Rattle.hold_keep.specs.Rooted.{bits_at, held_function}
use Rattle.phase_open.proofs.Sources.{read_bits}
use Rattle.phase_terms.specs.Found.{met}
use Rattle.vrt_model.specs.Comparison.{Comparison}
use Rattle.vrt_model.specs.Constraints.{meets_assumes, meets_enters}
use Rattle.vrt_model.specs.Held.{group_bit_at, held_bit, held_by, held_in, is_element, is_group, is_input_of, member_of, setting_of, sources_of}
use Rattle.vrt_model.specs.Variables.{entered_bit}
use Rattle.vrt_model.specs.declared.circuit.Circuit.{Circuit}
use Rattle.vrt_model.specs.declared.groups.Group.{Group as HoldGroup}
use Rattle.vrt_model.specs.declared.groups.Source.{Source}

module _ (sources : List Source) (bits : List Bool) where
  abbrev read : List Bool
  read = bits_at sources (bits_of bits)

  group_read : (number : ℕ) (element : Option ℕ) (entered : Option Bool) → group_bit_at sources read number element entered ≡ group_bit_at sources bits number element entered
  group_read number (Some e) entered = read_bits (is_element e) sources bits
  group_read number None (Some value) = refl
  group_read number None None = read_bits (is_group number) sources bits

  held_from : (c : Circuit) (phase number : ℕ) (groups : List HoldGroup) (hold : ℕ) → held_in c phase sources read number groups hold ≡ held_in c phase sources bits number groups hold
  held_from c phase number [] hold = refl
  held_from c phase number (group ∷ groups) hold =
      ap₂ (λ (x y : Bool). held_by (member_of hold group) x y) (group_read number group.element (entered_bit c phase group)) (held_from c phase (suc number) groups hold)

  pub held_read : (c : Circuit) (groups : List HoldGroup) (phase hold : ℕ) → held_function c groups phase sources hold (bits_of bits) ≡ held_bit c groups phase sources bits hold
  held_read c groups phase hold = held_from c phase 0 groups hold

-- the constraints are met through the valuation exactly where they are at the list
pub met_read : (k : Comparison) (phase : ℕ) (bits : List Bool)
    → meets_by k.design k.rules k.cell k.circuit k.groups (sources_of k phase) phase (bits_at (sources_of k phase) (bits_of bits)) ≡ met k phase bits
unfolding setting_of
met_read k phase bits =
    let sources = sources_of k phase in
    ap₂ (λ (inputs held : ℕ → Bool). meets_assumes k.design k.rules k.cell k.circuit phase inputs && meets_enters k.circuit phase held)
    (fun_ext (λ n. read_bits (is_input_of n) sources bits)) (fun_ext (λ hold. held_read sources bits k.circuit k.groups phase hold))
