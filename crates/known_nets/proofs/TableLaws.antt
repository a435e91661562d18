-- Tables of known nets: how they begin and grow, and that a closed one has all known nets.
use Rattle.std.proofs.Common.{◌≡◌, ℕ, ◌<◌, Bool, true, cond, List, length, map, get_or, None, Option, Some, slice_get, arith, ap, sym, refl, ◌∙◌}
use Rattle.std.specs.Prelude.{is_none, is_some, option_map, unwrap_or}
use Rattle.std.proofs.Math.ListN.{set}
use Rattle.std.proofs.lemmas.List.Sums.{sum_by-set}
use Rattle.std.proofs.lemmas.Bool.{false≢true}
use Rattle.std.proofs.lemmas.Option.{none-some, same_Some, slice_get-map, unwrap_or-slice_get}
use Rattle.known_nets.proofs.KnownOnce.{closed_has_all}
use Rattle.known_nets.specs.KnownTables.{AreKnown, HasFixedNets, IsClosedTable, IsKnownTable, fixed_bit_of, known_at}
use Rattle.known_nets.specs.Learned.{bit_shown, unknown}
use Rattle.vrt_model.specs.Known.{HasFixedBit, IsKnown, fixed}
use Rattle.vrt_model.specs.Reading.{clock_bit}
use Rattle.vrt_model.specs.Response.{Fight, Float, Response, Shows}
use Rattle.vrt_model.specs.declared.circuit.Circuit.{Circuit}
use Rattle.vrt_model.specs.declared.circuit.FlatNet.{FlatNet}
use Rattle.vrt_model.specs.declared.circuit.NetKind.{NetKind}
use Rattle.vrt_model.specs.declared.circuit.NetKind.TheVariants.{Supply, Clock, Input, Plain}
use Rattle.vrt_model.specs.declared.rules.Phase.{Phase}

-- ---- tables

-- a bit more
pub known_less : (xs : List (Option Bool)) (i : ℕ) (o : Option Bool) → i < length xs → is_none (known_at xs i) ≡ true → is_some o ≡ true → unknown (set xs i o) < unknown xs
known_less xs i None lt e t = absurd (false≢true t)
known_less xs i (Some v) lt e t =
    let s = sum_by-set (λ (p : Option Bool). cond (is_none p) 1 0) xs i (Some v) None lt in
    let none : is_none (get_or xs i None) ≡ true = ap is_none (sym (unwrap_or-slice_get xs i None)) ∙ e in
    let one : cond (is_none (get_or xs i None)) 1 0 ≡ 1 = ap {B = ℕ} (λ (b : Bool). cond b 1 0) none in
    omega (arith, s, one)

-- an entry stays
pub some_grown : (o p : Option Bool) → ((v : Bool) → o ≡ Some v → p ≡ Some v) → is_some o ≡ true → is_some p ≡ true
some_grown None p grown t = absurd (false≢true t)
some_grown (Some v) p grown t = ap is_some (grown v refl)

fixed_is : (phase : Phase) (kind : NetKind) (v : Bool) → fixed_bit_of phase kind ≡ Some v → HasFixedBit phase kind v
fixed_is phase (Supply value) v e = sym (same_Some value v e)
fixed_is phase (Clock clock) v e = sym (same_Some (clock_bit phase clock) v e)
fixed_is phase Input v e = absurd (none-some v e)
fixed_is phase Plain v e = absurd (none-some v e)

is_fixed : (phase : Phase) (kind : NetKind) (v : Bool) → HasFixedBit phase kind v → fixed_bit_of phase kind ≡ Some v
is_fixed phase (Supply value) v e = ap (λ (b : Bool). Some b) (sym e)
is_fixed phase (Clock clock) v e = ap (λ (b : Bool). Some b) (sym e)
is_fixed phase Input v e = absurd e
is_fixed phase Plain v e = absurd e

abbrev pub fixed_table : Circuit → Phase → List (Option Bool)
fixed_table c phase = map (λ (net : FlatNet). fixed_bit_of phase net.kind) c.nets

fixed_at : (c : Circuit) (phase : Phase) (n : ℕ) → known_at (fixed_table c phase) n ≡ unwrap_or (option_map (λ (net : FlatNet). fixed_bit_of phase net.kind) (slice_get c.nets n)) None
fixed_at c phase n = ap (λ (o : Option (Option Bool)). unwrap_or o None) (slice_get-map (λ (net : FlatNet). fixed_bit_of phase net.kind) c.nets n)

-- the bits of the supplies and the clock ports are a table to begin with
pub fixed_has : (c : Circuit) (phase : Phase) → HasFixedNets c phase (known_at (fixed_table c phase))
fixed_has c phase n v f =
    fixed_at c phase n ∙ ap (λ (o : Option FlatNet). unwrap_or (option_map (λ (net : FlatNet). fixed_bit_of phase net.kind) o) None) f.1 ∙ is_fixed phase f.0.kind v f.2

pub fixed_known : (c : Circuit) (phase : Phase) → AreKnown c phase (known_at (fixed_table c phase))
fixed_known c phase n v e = found (slice_get c.nets n) refl (sym (fixed_at c phase n) ∙ e)
  where
    found : (o : Option FlatNet) → slice_get c.nets n ≡ o → unwrap_or (option_map (λ (net : FlatNet). fixed_bit_of phase net.kind) o) None ≡ Some v → IsKnown c phase n v
    found None here t = absurd (none-some v t)
    found (Some net) here t = fixed (net, here, fixed_is phase net.kind v t)

-- ---- what nets show

-- the bit of a response is shown
pub bit_is : (r : Response) (v : Bool) → bit_shown r ≡ Some v → r ≡ Shows v
bit_is Fight v e = absurd (none-some v e)
bit_is Float v e = absurd (none-some v e)
bit_is (Shows u) v e = ap Shows (same_Some u v e)

-- a closed table of known nets has exactly the known nets
pub closed_table : (c : Circuit) (phase : Phase) (known : List (Option Bool)) → HasFixedNets c phase (known_at known) → AreKnown c phase (known_at known) → IsClosedTable c phase (known_at known)
    → IsKnownTable c phase (known_at known)
closed_table c phase known has are closed n v = (are n v, closed_has_all c phase (known_at known) has closed n v)
