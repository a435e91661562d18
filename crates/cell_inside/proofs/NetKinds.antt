-- Nets that are plain, and nets with given values.
use Rattle.std.proofs.Common.{◌≡◌, ℕ, Bool, true, false, Option, Some, None, sym, refl, ◌∙◌, ap}
use Rattle.std.specs.Prelude.{option_map, slice_get, unwrap_or}
use Rattle.std.proofs.lemmas.Bool.{false≢true}
use Rattle.std.proofs.lemmas.Option.{same_Some}
use Rattle.cell_inside.specs.Placed.{IsSupply}
use Rattle.vrt_model.specs.Known.{IsPlain, is_plain_at, is_plain_kind}
use Rattle.vrt_model.specs.Lists.{At}
use Rattle.vrt_model.specs.Reading.{is_given}
use Rattle.vrt_model.specs.declared.circuit.Circuit.{Circuit}
use Rattle.vrt_model.specs.declared.circuit.FlatNet.{FlatNet}
use Rattle.vrt_model.specs.declared.circuit.NetKind.{NetKind}
use Rattle.vrt_model.specs.declared.circuit.NetKind.TheVariants.{Clock, Input, Plain, Supply}

kind_is_plain : (k : NetKind) → is_plain_kind k ≡ true → k ≡ Plain
kind_is_plain (Supply value) e = absurd (false≢true e)
kind_is_plain (Clock clock) e = absurd (false≢true e)
kind_is_plain Input e = absurd (false≢true e)
kind_is_plain Plain e = refl

-- a net that passes the test is plain
pub plain_is : (c : Circuit) (n : ℕ) → is_plain_at c n ≡ true → IsPlain c n
plain_is c n e = found (slice_get c.nets n) refl e
  where
    found : (o : Option FlatNet) → slice_get c.nets n ≡ o → unwrap_or (option_map (λ (net : FlatNet). is_plain_kind net.kind) o) false ≡ true → IsPlain c n
    found None at t = absurd (false≢true t)
    found (Some net) at t = (net, at, kind_is_plain net.kind t)

-- a plain net passes it
pub is_plain_is : (c : Circuit) (n : ℕ) → IsPlain c n → is_plain_at c n ≡ true
is_plain_is c n p =
    ap (λ (o : Option FlatNet). unwrap_or (option_map (λ (net : FlatNet). is_plain_kind net.kind) o) false) p.1 ∙ ap is_plain_kind p.2

-- a net is not both plain and given
pub plain_not_given : (c : Circuit) (n : ℕ) (net : FlatNet) → IsPlain c n → At c.nets n net → is_given net.kind ≡ true → ⊥
plain_not_given c n net p at g =
    let same : net ≡ p.0 = same_Some net p.0 (sym at ∙ p.1) in
    false≢true (sym (ap is_given p.2) ∙ ap (λ (x : FlatNet). is_given x.kind) (sym same) ∙ g)

-- a supply is given
pub supply_given : (c : Circuit) (n : ℕ) (value : Bool) (s : IsSupply c n value) → is_given s.0.kind ≡ true
supply_given c n value s = ap is_given s.2
