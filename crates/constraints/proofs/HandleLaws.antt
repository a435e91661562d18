-- The handles of ports are live, and read what those of their span read.
use Rattle.std.proofs.Common.{◌≡◌, ℕ, ◌<◌, Bool, true, false, cond, List, Option, Some, None, length, arith, refl}
use Rattle.std.specs.Prelude.{All, IfSome, bytes_eq, option_and_then, option_map, slice_get, unwrap_or}
use Rattle.std.proofs.lemmas.List.Quantifiers.{position-Some}
use Rattle.std.proofs.lemmas.Option.{slice_get_within}
use Rattle.node_pool.specs.declared.region.Span.{Span}
use Rattle.bdd_core.specs.Diagram.{IsReduced, IsWithin, meaning}
use Rattle.bdd_core.specs.Store.{Diagrams}
use Rattle.bdd_ops.proofs.WithinLaws.{within_one, within_zero}
use Rattle.bdd_ops.specs.Counting.{IsSpanWithin}
use Rattle.vrt_model.proofs.Members.{all_among}
use Rattle.vrt_model.specs.Lists.{place_of}
use Rattle.vrt_model.specs.declared.circuit.Circuit.{Circuit}
use Rattle.vrt_model.specs.declared.circuit.FlatNet.{FlatNet}
use Rattle.vrt_model.specs.declared.circuit.NetKind.{NetKind}
use Rattle.vrt_model.specs.declared.circuit.NetKind.TheVariants.{Supply, Clock, Input, Plain}
use Rattle.vrt_model.specs.declared.ids.Net.{Net}
use Rattle.vrt_model.specs.declared.rules.Rules.{Rules}
use Rattle.constraints.specs.Evaluated.{AreLive, AreWithin}
use Rattle.constraints.specs.Handles.{HasHandles, IsReady, clock_in, handle_by_kind, handle_given, handle_in, handle_listed, handle_of_net, handle_tied, net_at, port_net, word_of}
use Rattle.constraints.specs.declared.ports.Ports.{Ports}
use Rattle.constraints.specs.declared.ports.Ports.TheVariants.{Listed, Tied, Given}

-- ---- places

-- the place of a name is below the number of names
pub listed_low : (names : List (List ℕ)) (count : ℕ) (name : List ℕ) → count ≡ length names → IfSome (place_of names name) (λ k. k < count)
listed_low names count name len = by_place (place_of names name) refl
  where
    by_place : (o : Option ℕ) → place_of names name ≡ o → IfSome o (λ k. k < count)
    by_place None e = tt
    by_place (Some at) e = let low = (position-Some (bytes_eq name) names at name e).0 in omega (arith, low, len)

-- a net that is tied to a port is one of the nets
pub tied_low : (names : List (List ℕ)) (nets : List Net) (count : ℕ) (name : List ℕ) → All (λ (net : Net). net.0 < count) nets
    → IfSome (option_and_then (net_at nets) (place_of names name)) (λ k. k < count)
tied_low names nets count name low = by_place (place_of names name)
  where
    by_net : (at : ℕ) (o : Option Net) → slice_get nets at ≡ o → IfSome (option_map (λ (net : Net). net.0) o) (λ k. k < count)
    by_net at None e = tt
    by_net at (Some net) e = all_among (λ (x : Net). x.0 < count) nets net low (at, e)

    by_place : (o : Option ℕ) → IfSome (option_and_then (net_at nets) o) (λ k. k < count)
    by_place None = tt
    by_place (Some at) = by_net at (slice_get nets at) refl

-- ---- handles

module _ (d : Diagrams) (values : Span) where
  word_live : (o : Option ℕ) → IsReduced d.vars d.nodes → IsReady d values → IfSome o (λ k. k < values.len) → word_of d.words values o < length d.nodes
  word_live None sound ready low = let ends = sound.ends in omega (arith, ends)
  word_live (Some k) sound ready low = ready.1 k low

  word_within : (u : ℕ) (o : Option ℕ) → IsSpanWithin u d values → IfSome o (λ k. k < values.len) → IsWithin u (meaning d.nodes (word_of d.words values o))
  word_within u None reads low = within_zero u d
  word_within u (Some k) reads low = reads k low

  constant_live : (b : Bool) → IsReduced d.vars d.nodes → cond b 1 0 < length d.nodes
  constant_live true sound = let ends = sound.ends in omega (arith, ends)
  constant_live false sound = let ends = sound.ends in omega (arith, ends)

  constant_within : (u : ℕ) (b : Bool) → IsWithin u (meaning d.nodes (cond b 1 0))
  constant_within u true = within_one u d
  constant_within u false = within_zero u d

  kind_live : (bits : List Bool) (net : ℕ) (kind : NetKind) → IsReduced d.vars d.nodes → IsReady d values → net < values.len → handle_by_kind d.words bits values net kind < length d.nodes
  kind_live bits net (Supply value) sound ready low = constant_live value sound
  kind_live bits net (Clock clock) sound ready low = constant_live (clock_in bits clock) sound
  kind_live bits net Input sound ready low = ready.1 net low
  kind_live bits net Plain sound ready low = constant_live false sound

  kind_within : (u : ℕ) (bits : List Bool) (net : ℕ) (kind : NetKind) → IsSpanWithin u d values → net < values.len → IsWithin u (meaning d.nodes (handle_by_kind d.words bits values net kind))
  kind_within u bits net (Supply value) reads low = constant_within u value
  kind_within u bits net (Clock clock) reads low = constant_within u (clock_in bits clock)
  kind_within u bits net Input reads low = reads net low
  kind_within u bits net Plain reads low = within_zero u d

  module _ (c : Circuit) (bits : List Bool) (len : values.len ≡ length c.nets) where
    abbrev by_net : ℕ → Option FlatNet → ℕ
    by_net net o = unwrap_or (option_map (λ (n : FlatNet). handle_by_kind d.words bits values net n.kind) o) 0

    net_live : (net : ℕ) → IsReduced d.vars d.nodes → IsReady d values → handle_of_net d.words c bits values net < length d.nodes
    net_live net sound ready = pick (slice_get c.nets net) refl
      where
        pick : (o : Option FlatNet) → slice_get c.nets net ≡ o → by_net net o < length d.nodes
        pick None e = constant_live false sound
        pick (Some n) e = kind_live bits net n.kind sound ready (let low = slice_get_within c.nets net n e in omega (arith, low, len))

    net_within : (u net : ℕ) → IsSpanWithin u d values → IsWithin u (meaning d.nodes (handle_of_net d.words c bits values net))
    net_within u net reads = pick (slice_get c.nets net) refl
      where
        pick : (o : Option FlatNet) → slice_get c.nets net ≡ o → IsWithin u (meaning d.nodes (by_net net o))
        pick None e = within_zero u d
        pick (Some n) e = kind_within u bits net n.kind reads (let low = slice_get_within c.nets net n e in omega (arith, low, len))

  pub tied_live : (names : List (List ℕ)) (nets : List Net) → All (λ (net : Net). net.0 < values.len) nets → IsReduced d.vars d.nodes → IsReady d values → AreLive d (handle_tied d.words names nets values)
  tied_live names nets low sound ready name = word_live (option_and_then (net_at nets) (place_of names name)) sound ready (tied_low names nets values.len name low)

  pub tied_within : (u : ℕ) (names : List (List ℕ)) (nets : List Net) → All (λ (net : Net). net.0 < values.len) nets → IsSpanWithin u d values → AreWithin u d (handle_tied d.words names nets values)
  tied_within u names nets low reads name = word_within u (option_and_then (net_at nets) (place_of names name)) reads (tied_low names nets values.len name low)

  pub listed_live : (names : List (List ℕ)) → values.len ≡ length names → IsReduced d.vars d.nodes → IsReady d values → AreLive d (handle_listed d.words names values)
  listed_live names len sound ready name = word_live (place_of names name) sound ready (listed_low names values.len name len)

  pub listed_within : (u : ℕ) (names : List (List ℕ)) → values.len ≡ length names → IsSpanWithin u d values → AreWithin u d (handle_listed d.words names values)
  listed_within u names len reads name = word_within u (place_of names name) reads (listed_low names values.len name len)

  pub given_live : (c : Circuit) (rules : Rules) (names : List (List ℕ)) (bits : List Bool) → values.len ≡ length c.nets → IsReduced d.vars d.nodes → IsReady d values
      → AreLive d (handle_given d.words c rules names bits values)
  given_live c rules names bits len sound ready name = net_live c bits len (port_net rules names name) sound ready

  pub given_within : (u : ℕ) (c : Circuit) (rules : Rules) (names : List (List ℕ)) (bits : List Bool) → values.len ≡ length c.nets → IsSpanWithin u d values
      → AreWithin u d (handle_given d.words c rules names bits values)
  given_within u c rules names bits len reads name = net_within c bits len u (port_net rules names name) reads

pub handles_live : (d : Diagrams) (ports : Ports) → IsReduced d.vars d.nodes → HasHandles d ports → AreLive d (handle_in d.words ports)
handles_live d (Listed names values) sound has = listed_live d values names.now has.1 sound has.0
handles_live d (Tied names nets values) sound has = tied_live d values names.now nets.now has.1 sound has.0
handles_live d (Given given) sound has = given_live d given.values given.circuit.now given.rules.now given.names.now given.bits.now has.1 sound has.0
