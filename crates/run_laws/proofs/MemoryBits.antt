-- The valuation of a memory and of inputs: each variable has the bit that they give it.
use Rattle.std.proofs.Common.{◌≡◌, ℕ, ◌+◌, ◌<◌, ◌∷◌, [], Bool, true, false, List, Option, Some, None, length, map, arith, ap, ap₂, refl, sym, ◌∙◌}
use Rattle.std.specs.Prelude.{◌&&◌, is_none, option_map, slice_get}
use Rattle.std.proofs.lemmas.Bool.{false≢true}
use Rattle.std.proofs.lemmas.Bool.Decides.{Decides-eqb}
use Rattle.std.proofs.lemmas.List.{length-map}
use Rattle.std.proofs.lemmas.Option.{none-some, same_Some}
use Rattle.run_laws.proofs.HeldBits.{HasBits}
use Rattle.run_laws.proofs.Listed.{bit_made, element_listed, group_listed, input_listed}
use Rattle.vrt_model.proofs.Lists.{among_filter_map}
use Rattle.vrt_model.specs.Comparison.{Comparison}
use Rattle.vrt_model.specs.Elements.{element_names}
use Rattle.vrt_model.specs.Held.{bit_of, group_bit, group_bit_at, is_element, is_group, is_input_of, sources_of}
use Rattle.vrt_model.specs.Lists.{Among, At, differ}
use Rattle.vrt_model.specs.Runs.{IsRelated, Memory}
use Rattle.vrt_model.specs.Variables.{enter_of, entered_bit}
use Rattle.vrt_model.specs.declared.circuit.FlatNet.{FlatNet}
use Rattle.vrt_model.specs.declared.circuit.NetKind.TheVariants.{Input as InputNet}
use Rattle.vrt_model.specs.declared.groups.Group.{Group as HoldGroup}
use Rattle.vrt_model.specs.declared.groups.Member.{Member}
use Rattle.vrt_model.specs.declared.groups.Source.{Source}
use Rattle.vrt_model.specs.declared.groups.Source.TheVariants.{Input, Element, Group}

differ_twice : (a b : Bool) → differ a (differ a b) ≡ b
differ_twice true true = refl
differ_twice true false = refl
differ_twice false b = refl

-- ---- the bits

-- the bit of a group's first member, without its polarity
abbrev first_bit : (ℕ → Bool) → List Member → Bool
first_bit held [] = false
first_bit held (one ∷ rest) = differ one.inverted (held one.hold)

abbrev bit_in : (ℕ → Bool) → Option HoldGroup → Bool
bit_in held None = false
bit_in held (Some group) = first_bit held group.members

-- the bit of a variable
abbrev source_bit : Comparison → Memory → (ℕ → Bool) → Source → Bool
source_bit k m inputs (Input net) = inputs net.0
source_bit k m inputs (Element e) = m.elements e
source_bit k m inputs (Group g) = bit_in m.held (slice_get k.groups g)

abbrev pub bits_of : Comparison → ℕ → Memory → (ℕ → Bool) → List Bool
bits_of k phase m inputs = map (source_bit k m inputs) (sources_of k phase)

first_is : (held : ℕ → Bool) (members : List Member) (bit : Bool) → ((one : Member) → Among members one → held one.hold ≡ differ one.inverted bit) → (one : Member) → Among members one → first_bit held members ≡ bit
first_is held [] bit each one among = absurd (none-some one among.1)
first_is held (x ∷ xs) bit each one among = ap (differ x.inverted) (each x (0, refl)) ∙ differ_twice x.inverted bit

module _ (k : Comparison) (phase : ℕ) (m : Memory) (inputs : ℕ → Bool) where
  pub bits_count : length (bits_of k phase m inputs) ≡ length (sources_of k phase)
  bits_count = length-map (sources_of k phase) (source_bit k m inputs)

  pub input_bit : (n : ℕ) (net : FlatNet) → At k.circuit.nets n net → net.kind ≡ InputNet → bit_of (is_input_of n) (sources_of k phase) (bits_of k phase m inputs) ≡ inputs n
  input_bit n net there kind =
      bit_made (is_input_of n) (source_bit k m inputs) (inputs n) (sources_of k phase) _ (input_listed k.circuit k.model k.groups phase n net there kind) ((Decides-eqb n n).1 refl) same
    where
      same : (y : Source) → is_input_of n y ≡ true → source_bit k m inputs y ≡ inputs n
      same (Input net) t = ap inputs ((Decides-eqb net.0 n).0 t)
      same (Element e) t = absurd (false≢true t)
      same (Group g) t = absurd (false≢true t)

  pub element_bit : (e : ℕ) → e < length (element_names k.model) → bit_of (is_element e) (sources_of k phase) (bits_of k phase m inputs) ≡ m.elements e
  element_bit e lt =
      bit_made (is_element e) (source_bit k m inputs) (m.elements e) (sources_of k phase) (Element e) (element_listed k.circuit k.model k.groups phase e lt) ((Decides-eqb e e).1 refl) same
    where
      same : (y : Source) → is_element e y ≡ true → source_bit k m inputs y ≡ m.elements e
      same (Input net) t = absurd (false≢true t)
      same (Element f) t = ap m.elements ((Decides-eqb f e).0 t)
      same (Group g) t = absurd (false≢true t)

  free_bit : (at : ℕ) (group : HoldGroup) → At k.groups at group → group.element ≡ None → entered_bit k.circuit phase group ≡ None
      → bit_of (is_group at) (sources_of k phase) (bits_of k phase m inputs) ≡ first_bit m.held group.members
  free_bit at group there el none =
      bit_made (is_group at) (source_bit k m inputs) (first_bit m.held group.members) (sources_of k phase) (Group at)
      (group_listed k.circuit k.model k.groups phase at group there (ap₂ (λ (o : Option ℕ) (p : Option Bool). is_none o && is_none p) el none)) ((Decides-eqb at at).1 refl) same
    where
      same : (y : Source) → is_group at y ≡ true → source_bit k m inputs y ≡ first_bit m.held group.members
      same (Input net) t = absurd (false≢true t)
      same (Element f) t = absurd (false≢true t)
      same (Group g) t = ap (λ (n : ℕ). bit_in m.held (slice_get k.groups n)) ((Decides-eqb g at).0 t) ∙ ap (bit_in m.held) there

-- ---- groups

module _ (k : Comparison) (phase : ℕ) (m : Memory) (inputs : ℕ → Bool) (related : IsRelated k phase m)
    (elements : (at : ℕ) (group : HoldGroup) (e : ℕ) → At k.groups at group → group.element ≡ Some e → e < length (element_names k.model)) where
  -- a constant that an `enter` line asks of a group is the group's bit
  entered_is : (at : ℕ) (group : HoldGroup) (there : At k.groups at group) (v : Bool) → entered_bit k.circuit phase group ≡ Some v → v ≡ (related.groups at group there).0
  entered_is at group there v entered =
      let bit = (related.groups at group there).0 in
      let made = among_filter_map (λ (one : Member). option_map (λ (w : Bool). differ one.inverted w) (enter_of k.circuit phase one.hold)) group.members v (0, entered) in
      by_enter made.0 made.1 (enter_of k.circuit phase made.0.hold) refl made.2
    where
      by_enter : (one : Member) → Among group.members one → (o : Option Bool) → enter_of k.circuit phase one.hold ≡ o → option_map (λ (w : Bool). differ one.inverted w) o ≡ Some v → v ≡ (related.groups at group there).0
      by_enter one among None e is = absurd (none-some v is)
      by_enter one among (Some w) e is =
          let bit = (related.groups at group there).0 in
          sym (same_Some (differ one.inverted w) v is) ∙ ap (differ one.inverted) (sym (related.enters one.hold w e) ∙ (related.groups at group there).1 one among) ∙ differ_twice one.inverted bit

  group_bit_is : (at : ℕ) (group : HoldGroup) (there : At k.groups at group) (one : Member) → Among group.members one
      → (o : Option ℕ) → group.element ≡ o → (p : Option Bool) → entered_bit k.circuit phase group ≡ p
      → group_bit_at (sources_of k phase) (bits_of k phase m inputs) at o p ≡ (related.groups at group there).0
  group_bit_is at group there one among (Some e) el p entered =
      element_bit k phase m inputs e (elements at group e there el) ∙ sym ((related.groups at group there).2 e el)
  group_bit_is at group there one among None el (Some v) entered = entered_is at group there v entered
  group_bit_is at group there one among None el None entered =
      free_bit k phase m inputs at group there el entered ∙ first_is m.held group.members (related.groups at group there).0 (related.groups at group there).1 one among

  -- each member has the bit of its hold in the memory
  pub members_have : HasBits k.circuit phase (sources_of k phase) (bits_of k phase m inputs) m.held 0 k.groups
  members_have at group one there among =
      ap (λ (n : ℕ). differ one.inverted (group_bit k.circuit phase (sources_of k phase) (bits_of k phase m inputs) n group)) (let e : 0 + at ≡ at = omega arith in e)
      ∙ ap (differ one.inverted) (group_bit_is at group there one among group.element refl (entered_bit k.circuit phase group) refl)
      ∙ sym ((related.groups at group there).1 one among)
