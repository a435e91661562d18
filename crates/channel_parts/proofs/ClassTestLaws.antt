-- What tests of devices and nets say of a part.
use Rattle.std.proofs.Common.{◌≡◌, ℕ, Bool, true, false, List, Option, None, Some, slice_get, ap, refl, subst, sym, ◌∙◌, inl, inr}
use Rattle.std.specs.Prelude.{◌||◌, option_map, unwrap_or}
use Rattle.std.specs.List.{list_any}
use Rattle.std.proofs.lemmas.Bool.{and_from, and_parts, false≢true, or_cases, or_left, or_right}
use Rattle.std.proofs.lemmas.Option.{same_Some}
use Rattle.channel_parts.specs.PartLists.{least_of}
use Rattle.channel_parts.specs.declared.part.Part.{Part}
use Rattle.known_nets.proofs.NetKinds.{is_plain_is}
use Rattle.known_nets.specs.Conduction.{is_input_at}
use Rattle.known_nets.specs.Incidence.{AreHeldMarks}
use Rattle.channel_parts.proofs.PhaseTableLaws.{is_switched_is, switched_is}
use Rattle.channel_parts.specs.LinkedParts.{IsLinkedPart}
use Rattle.channel_parts.specs.Classes.{IsDomino, IsLinked, IsLinkedDevice, IsPass, IsStage, IsSupply, PassesInput, itself, onward, pulled_to}
use Rattle.channel_parts.specs.ClassTests.{device_at, has_hold, has_input, has_stage, is_between, is_stage, is_stored, is_supply_kind, kind_at, meets_input}
use Rattle.channel_parts.specs.PhaseTables.{AreTables, is_switched}
use Rattle.vrt_model.proofs.Lists.{map_among, one_at}
use Rattle.vrt_model.proofs.Members.{among_any, among_map, any_among}
use Rattle.vrt_model.specs.Known.{IsHeld, IsPlain, is_plain_at, is_plain_kind}
use Rattle.vrt_model.specs.Lists.{At, Among, mark_at}
use Rattle.vrt_model.specs.Path.{Joins}
use Rattle.vrt_model.specs.declared.circuit.Circuit.{Circuit}
use Rattle.vrt_model.specs.declared.circuit.Device.{Device}
use Rattle.vrt_model.specs.declared.circuit.FlatNet.{FlatNet}
use Rattle.vrt_model.specs.declared.circuit.NetKind.{NetKind}
use Rattle.vrt_model.specs.declared.circuit.NetKind.TheVariants.{Supply, Clock, Input, Plain}
use Rattle.vrt_model.specs.declared.ids.Dev.{Dev}
use Rattle.vrt_model.specs.declared.ids.Net.{Net}
use Rattle.vrt_model.specs.declared.rules.Phase.{Phase}
use Rattle.known_nets.proofs.ShutLaws.{input_is, is_input}

-- ---- kinds of nets

kind_there : (test : NetKind → Bool) (c : Circuit) (n : ℕ) → kind_at test c n ≡ true → (net : FlatNet) × At c.nets n net × (test net.kind ≡ true)
kind_there test c n t = found (slice_get c.nets n) refl t
  where
    found : (o : Option FlatNet) → slice_get c.nets n ≡ o → unwrap_or (option_map (λ (net : FlatNet). test net.kind) o) false ≡ true
        → (net : FlatNet) × At c.nets n net × (test net.kind ≡ true)
    found None e t = absurd (false≢true t)
    found (Some net) e t = (net, e, t)

there_kind : (test : NetKind → Bool) (c : Circuit) (n : ℕ) (net : FlatNet) → At c.nets n net → test net.kind ≡ true → kind_at test c n ≡ true
there_kind test c n net a t = ap (λ (o : Option FlatNet). unwrap_or (option_map (λ (x : FlatNet). test x.kind) o) false) a ∙ t

supply_kind : (v : Bool) (kind : NetKind) → is_supply_kind v kind ≡ true → kind ≡ Supply v
supply_kind true (Supply true) e = refl
supply_kind true (Supply false) e = absurd (false≢true e)
supply_kind false (Supply true) e = absurd (false≢true e)
supply_kind false (Supply false) e = refl
supply_kind v (Clock clock) e = absurd (false≢true e)
supply_kind v Input e = absurd (false≢true e)
supply_kind v Plain e = absurd (false≢true e)

own_supply : (v : Bool) → is_supply_kind v (Supply v) ≡ true
own_supply true = refl
own_supply false = refl

supply_is : (c : Circuit) (v : Bool) (n : ℕ) → kind_at (is_supply_kind v) c n ≡ true → IsSupply c n v
supply_is c v n t = let net = kind_there (is_supply_kind v) c n t in (net.0, net.1, supply_kind v net.0.kind net.2)

is_supply_is : (c : Circuit) (v : Bool) (n : ℕ) → IsSupply c n v → kind_at (is_supply_kind v) c n ≡ true
is_supply_is c v n s = there_kind (is_supply_kind v) c n s.0 s.1 (ap (is_supply_kind v) s.2 ∙ own_supply v)

-- a plain net has no other kind
plain_alone : (c : Circuit) (n : ℕ) (kind : NetKind) → is_plain_kind kind ≡ false → (net : FlatNet) × At c.nets n net × (net.kind ≡ kind) → IsPlain c n → ⊥
plain_alone c n kind f other p =
    let same : p.0 ≡ other.0 = same_Some p.0 other.0 (sym p.1 ∙ other.1) in
    false≢true (sym f ∙ ap is_plain_kind (sym other.2 ∙ ap (λ (x : FlatNet). x.kind) (sym same) ∙ p.2))

-- ---- channels

pub linked_plain : (c : Circuit) (n m : ℕ) → IsLinked c n m → IsPlain c m
linked_plain c n m (itself p) = p
linked_plain c n m (onward d t a j p) = p

-- a device of a part that leads to a net that is not plain leads there from a net of the part
near_linked : (c : Circuit) (n : ℕ) (d : Device) (near far : ℕ) → Joins d near far → (IsPlain c far → ⊥) → IsLinkedDevice c n d → IsLinked c n near
near_linked c n d near far joins given inside = by_ends joins inside.3
  where
    at_far : inside.0 ≡ far → IsLinked c n near
    at_far e = absurd (given (subst (IsPlain c) e (linked_plain c n inside.0 inside.2)))

    at_near : inside.0 ≡ near → IsLinked c n near
    at_near e = subst (IsLinked c n) e inside.2

    by_ends : Joins d near far → Joins d inside.0 inside.1 → IsLinked c n near
    by_ends (inl j) (inl k) = at_near (sym k.0 ∙ j.0)
    by_ends (inl j) (inr k) = at_far (sym k.1 ∙ j.1)
    by_ends (inr j) (inl k) = at_far (sym k.0 ∙ j.0)
    by_ends (inr j) (inr k) = at_near (sym k.1 ∙ j.1)

-- ---- devices

module _ (c : Circuit) (held : List Bool) (marks : AreHeldMarks c held) where
  between_from : (d : Device) (net supply : ℕ) → IsPlain c net → IsHeld c net → IsSupply c supply (pulled_to d.kind) → is_between c held (pulled_to d.kind) net supply ≡ true
  between_from d net supply p h s =
      and_from (is_stored c held net) (kind_at (is_supply_kind (pulled_to d.kind)) c supply)
      (and_from (is_plain_at c net) (mark_at held net) (is_plain_is c net p) ((marks net).1 h)) (is_supply_is c (pulled_to d.kind) supply s)

  module _ (phases : List Phase) (tables : List (List (Option Bool))) (are : AreTables c phases tables) (n : ℕ) where
    stage_from : (d : Device) (net supply : ℕ) → Joins d net supply → is_between c held (pulled_to d.kind) net supply ≡ true → is_switched tables d.gate.0 ≡ true → IsLinkedDevice c n d
        → IsStage c phases n d
    stage_from d net supply joins t switched inside =
        let parts = and_parts (is_stored c held net) (kind_at (is_supply_kind (pulled_to d.kind)) c supply) t in
        let stored = and_parts (is_plain_at c net) (mark_at held net) parts.0 in
        let pulls = supply_is c (pulled_to d.kind) supply parts.1 in
        record {
          net = net;
          linked = near_linked c n d net supply joins (plain_alone c supply (Supply (pulled_to d.kind)) refl pulls) inside;
          held = (marks net).0 stored.1;
          supply = supply;
          joins = joins;
          pulls = pulls;
          switched = switched_is c phases tables are d.gate.0 switched;
        }

    pub stage_is : (d : Device) → is_stage c held tables d ≡ true → IsLinkedDevice c n d → IsStage c phases n d
    stage_is d t inside =
        let forth = is_between c held (pulled_to d.kind) d.left.0 d.right.0 in
        let back = is_between c held (pulled_to d.kind) d.right.0 d.left.0 in
        let parts = and_parts (forth || back) (is_switched tables d.gate.0) t in
        elim (or_cases forth back parts.0) [
          | inl e ↦ stage_from d d.left.0 d.right.0 (inl (refl, refl)) e parts.1 inside
          | inr e ↦ stage_from d d.right.0 d.left.0 (inr (refl, refl)) e parts.1 inside
        ]

    pub is_stage_is : (d : Device) → IsStage c phases n d → is_stage c held tables d ≡ true
    is_stage_is d s =
        let forth = is_between c held (pulled_to d.kind) d.left.0 d.right.0 in
        let back = is_between c held (pulled_to d.kind) d.right.0 d.left.0 in
        let between = between_from d s.net s.supply (linked_plain c n s.net s.linked) s.held s.pulls in
        and_from (forth || back) (is_switched tables d.gate.0)
        (elim s.joins [
          | inl j ↦ or_left forth back (subst (λ (x : ℕ). is_between c held (pulled_to d.kind) x d.right.0 ≡ true) (sym j.0) (subst (λ (x : ℕ). is_between c held (pulled_to d.kind) s.net x ≡ true) (sym j.1) between))
          | inr j ↦ or_right forth back (subst (λ (x : ℕ). is_between c held (pulled_to d.kind) x d.left.0 ≡ true) (sym j.1) (subst (λ (x : ℕ). is_between c held (pulled_to d.kind) s.net x ≡ true) (sym j.0) between))
        ])
        (is_switched_is c phases tables are d.gate.0 s.switched)

-- an input at a channel of a part
passes_from : (c : Circuit) (n : ℕ) (d : Device) (net input : ℕ) → Joins d net input → is_input_at c input ≡ true → IsLinkedDevice c n d → PassesInput c n d
passes_from c n d net input joins t inside =
    let given = input_is c input t in
    record {
      net = net;
      linked = near_linked c n d net input joins (plain_alone c input Input refl given) inside;
      input = input;
      joins = joins;
      given = given;
    }

passes_is : (c : Circuit) (n : ℕ) (d : Device) → meets_input c d ≡ true → IsLinkedDevice c n d → PassesInput c n d
passes_is c n d t inside =
    elim (or_cases (is_input_at c d.left.0) (is_input_at c d.right.0) t) [
      | inl e ↦ passes_from c n d d.right.0 d.left.0 (inr (refl, refl)) e inside
      | inr e ↦ passes_from c n d d.left.0 d.right.0 (inl (refl, refl)) e inside
    ]

is_passes_is : (c : Circuit) (n : ℕ) (d : Device) → PassesInput c n d → meets_input c d ≡ true
is_passes_is c n d s =
    let given = is_input c s.input s.given in
    elim s.joins [
      | inl j ↦ or_right (is_input_at c d.left.0) (is_input_at c d.right.0) (subst (λ (x : ℕ). is_input_at c x ≡ true) (sym j.1) given)
      | inr j ↦ or_left (is_input_at c d.left.0) (is_input_at c d.right.0) (subst (λ (x : ℕ). is_input_at c x ≡ true) (sym j.0) given)
    ]

-- ---- the devices of a part

device_there : (test : Device → Bool) (c : Circuit) (k : ℕ) → device_at test c k ≡ true → (d : Device) × At c.devices k d × (test d ≡ true)
device_there test c k t = found (slice_get c.devices k) refl t
  where
    found : (o : Option Device) → slice_get c.devices k ≡ o → unwrap_or (option_map test o) false ≡ true → (d : Device) × At c.devices k d × (test d ≡ true)
    found None e t = absurd (false≢true t)
    found (Some d) e t = (d, e, t)

module _ (c : Circuit) (part : Part) (is : IsLinkedPart c part) where
  some_device : (test : Device → Bool) → list_any (λ (k : Dev). device_at test c k.0) part.devices ≡ true → (d : Device) × Among c.devices d × IsLinkedDevice c (least_of part) d × (test d ≡ true)
  some_device test t =
      let some = any_among (λ (k : Dev). device_at test c k.0) part.devices t in
      let d = device_there test c some.0.0 some.2 in
      let own = (is.devices some.0.0).0 (map_among (λ (k : Dev). k.0) part.devices some.0 some.1) in
      (d.0, (some.0.0, d.1), subst (IsLinkedDevice c (least_of part)) (one_at c.devices some.0.0 own.0 d.0 own.1 d.1) own.2, d.2)

  device_some : (test : Device → Bool) (d : Device) → Among c.devices d → IsLinkedDevice c (least_of part) d → test d ≡ true → list_any (λ (k : Dev). device_at test c k.0) part.devices ≡ true
  device_some test d m inside t =
      let from = among_map (λ (k : Dev). k.0) part.devices m.0 ((is.devices m.0).1 (d, m.1, inside)) in
      let there : device_at test c m.0 ≡ true = ap (λ (o : Option Device). unwrap_or (option_map test o) false) m.1 ∙ t in
      among_any (λ (k : Dev). device_at test c k.0) part.devices from.0 from.1 (subst (λ (x : ℕ). device_at test c x ≡ true) (sym from.2) there)

  module _ (held : List Bool) (marks : AreHeldMarks c held) where
    some_hold : has_hold held part.nets ≡ true → (m : ℕ) × IsLinked c (least_of part) m × IsHeld c m
    some_hold t =
        let some = any_among (λ (n : Net). mark_at held n.0) part.nets t in
        (some.0.0, (is.nets some.0.0).0 (map_among (λ (n : Net). n.0) part.nets some.0 some.1), (marks some.0.0).0 some.2)

    hold_some : (m : ℕ) → IsLinked c (least_of part) m → IsHeld c m → has_hold held part.nets ≡ true
    hold_some m l h =
        let from = among_map (λ (n : Net). n.0) part.nets m ((is.nets m).1 l) in
        among_any (λ (n : Net). mark_at held n.0) part.nets from.0 from.1 (subst (λ (x : ℕ). mark_at held x ≡ true) (sym from.2) ((marks m).1 h))

    pub pass_is : (has_input c part.devices || has_hold held part.nets) ≡ true → IsPass c (least_of part)
    pass_is t =
        elim (or_cases (has_input c part.devices) (has_hold held part.nets) t) [
          | inl e ↦ (let d = some_device (meets_input c) e in inl (d.0, d.1, passes_is c (least_of part) d.0 d.3 d.2))
          | inr e ↦ inr (some_hold e)
        ]

    pub is_pass_is : IsPass c (least_of part) → (has_input c part.devices || has_hold held part.nets) ≡ true
    is_pass_is (inl p) =
        let s = p.2 in
        or_left (has_input c part.devices) (has_hold held part.nets)
        (device_some (meets_input c) p.0 p.1 (s.net, s.input, s.linked, s.joins) (is_passes_is c (least_of part) p.0 s))
    is_pass_is (inr h) = or_right (has_input c part.devices) (has_hold held part.nets) (hold_some h.0 h.1 h.2)

    module _ (phases : List Phase) (tables : List (List (Option Bool))) (are : AreTables c phases tables) where
      pub domino_is : has_stage c held tables part.devices ≡ true → IsDomino c phases (least_of part)
      domino_is t = let d = some_device (is_stage c held tables) t in (d.0, d.1, stage_is c held marks phases tables are (least_of part) d.0 d.3 d.2)

      pub is_domino_is : IsDomino c phases (least_of part) → has_stage c held tables part.devices ≡ true
      is_domino_is p =
          let s = p.2 in
          device_some (is_stage c held tables) p.0 p.1 (s.net, s.supply, s.linked, s.joins) (is_stage_is c held marks phases tables are (least_of part) p.0 s)
