-- Kinds of nets as tests and as facts, and the readings of tables of known nets.
use Rattle.std.proofs.Common.{◌≡◌, ℕ, ◌<◌, ◌⊎◌, Bool, true, false, List, length, None, Option, Some, slice_get, ap, subst, sym, refl, ◌∙◌, inl, inr}
use Rattle.std.specs.Prelude.{option_map, unwrap_or}
use Rattle.std.proofs.lemmas.Bool.{cases_Bool, false≢true}
use Rattle.known_nets.specs.Conduction.{is_input_kind, is_plain_at, is_plain_kind}
use Rattle.known_nets.specs.KnownTables.{HasFixedNets, known_at}
use Rattle.known_nets.specs.Regions.{reading_of}
use Rattle.vrt_model.proofs.GatesGiven.{IsGiven}
use Rattle.vrt_model.proofs.Lists.{at_there}
use Rattle.vrt_model.specs.Known.{HasFixedBit, IsPlain}
use Rattle.vrt_model.specs.Lists.{At}
use Rattle.vrt_model.specs.Reading.{HasGivenBit, IsReading, clock_bit, is_given}
use Rattle.vrt_model.specs.declared.circuit.Circuit.{Circuit}
use Rattle.vrt_model.specs.declared.circuit.FlatNet.{FlatNet}
use Rattle.vrt_model.specs.declared.circuit.NetKind.{NetKind}
use Rattle.vrt_model.specs.declared.circuit.NetKind.TheVariants.{Supply, Clock, Input, Plain}
use Rattle.vrt_model.specs.declared.rules.Phase.{Phase}

-- ---- kinds

kind_is_plain : (kind : NetKind) → is_plain_kind kind ≡ true → kind ≡ Plain
kind_is_plain (Supply value) e = absurd (false≢true e)
kind_is_plain (Clock clock) e = absurd (false≢true e)
kind_is_plain Input e = absurd (false≢true e)
kind_is_plain Plain e = refl

pub kind_is_input : (kind : NetKind) → is_input_kind kind ≡ true → kind ≡ Input
kind_is_input (Supply value) e = absurd (false≢true e)
kind_is_input (Clock clock) e = absurd (false≢true e)
kind_is_input Input e = refl
kind_is_input Plain e = absurd (false≢true e)

-- a given net is a supply or a clock port, or an input
pub fixed_or_input : (phase : Phase) (kind : NetKind) → is_given kind ≡ true → ((v : Bool) × HasFixedBit phase kind v) ⊎ (kind ≡ Input)
fixed_or_input phase (Supply value) g = inl (value, refl)
fixed_or_input phase (Clock clock) g = inl (clock_bit phase clock, refl)
fixed_or_input phase Input g = inr refl
fixed_or_input phase Plain g = absurd (false≢true g)

pub plain_is : (c : Circuit) (n : ℕ) → is_plain_at c n ≡ true → IsPlain c n
plain_is c n t = found (slice_get c.nets n) refl t
  where
    found : (o : Option FlatNet) → slice_get c.nets n ≡ o → unwrap_or (option_map (λ (net : FlatNet). is_plain_kind net.kind) o) false ≡ true → IsPlain c n
    found None e t = absurd (false≢true t)
    found (Some net) e t = (net, e, kind_is_plain net.kind t)

pub is_plain_is : (c : Circuit) (n : ℕ) → IsPlain c n → is_plain_at c n ≡ true
is_plain_is c n p =
    ap (λ (o : Option FlatNet). unwrap_or (option_map (λ (net : FlatNet). is_plain_kind net.kind) o) false) p.1 ∙ ap is_plain_kind p.2

kind_plain : (k : NetKind) → is_given k ≡ false → k ≡ Plain
kind_plain (Supply value) g = absurd (false≢true (sym g))
kind_plain (Clock clock) g = absurd (false≢true (sym g))
kind_plain Input g = absurd (false≢true (sym g))
kind_plain Plain g = refl

-- a net of the circuit has a given value or is plain
pub given_or_plain : (c : Circuit) (n : ℕ) → n < length c.nets → IsGiven c n ⊎ IsPlain c n
given_or_plain c n lt =
    let at = at_there c.nets n lt in
    elim (cases_Bool (is_given at.0.kind)) [ inl t ↦ inl (at.0, at.1, t) | inr f ↦ inr (at.0, at.1, kind_plain at.0.kind f) ]

-- ---- readings

-- the known bits, and 0 at the other nets, are a reading
pub known_reading : (c : Circuit) (phase : Phase) (known : List (Option Bool)) → HasFixedNets c phase (known_at known) → IsReading c phase (reading_of known) (reading_of known)
known_reading c phase known has n net e = by_kind net.kind refl
  where
    bit : (v : Bool) → HasFixedBit phase net.kind v → reading_of known n ≡ v
    bit v f = ap (λ (o : Option Bool). unwrap_or o false) (has n v (net, e, f))

    by_kind : (kind : NetKind) → net.kind ≡ kind → HasGivenBit phase (reading_of known) kind n (reading_of known n)
    by_kind (Supply value) k = bit value (subst (λ (x : NetKind). HasFixedBit phase x value) (sym k) refl)
    by_kind (Clock clock) k = bit (clock_bit phase clock) (subst (λ (x : NetKind). HasFixedBit phase x (clock_bit phase clock)) (sym k) refl)
    by_kind Input k = refl
    by_kind Plain k = tt
