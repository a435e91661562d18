-- What an assignment of a flat model says of modules.
use Rattle.std.proofs.Common.{inl, inr, length, ◌≡◌, ◌<◌, ℕ, zero, suc, Bool, not, cond, ◌&&◌, ◌||◌, List, [], ◌∷◌, ◌++◌, map, flat_map, Option, Some, None, refl, ap, ap₂, sym, subst, ◌∙◌}
use Rattle.std.proofs.lemmas.Option.{slice_get_within}
use Rattle.std.proofs.lemmas.List.{length-map}
use Rattle.blif_flat.proofs.OneDriverDepths.{Ends, models_end}
use Rattle.blif_flat.proofs.OneDriverLaws.{good_driven}
use Rattle.verilog_meaning.specs.Covered.{AreCovered, bit_given, bits_fit}
use Rattle.verilog_meaning.specs.FlatBits.{Assigns, flat_bits, flat_place, place_on}
use Rattle.std.specs.Prelude.{bytes_eq}
use Rattle.verilog_meaning.specs.Meaning.{Instance, IsMeaning, IsTied, StandsAt}
use Rattle.verilog_meaning.specs.Meaning.StandsAt.{itself, inside}
use Rattle.verilog_meaning.proofs.GateLaws.{actual_covered}
use Rattle.verilog_meaning.proofs.InstanceLaws.{model_there, tie_there}
use Rattle.verilog_meaning.proofs.ModuleLaws.{module_covered}
use Rattle.verilog_meaning.proofs.PlaceLaws.{IsLedOn, led_on, led_to, tie_same}
use Rattle.verilog_models.specs.Covers.{signal_of}
use Rattle.verilog_models.specs.Gates.{actual_value}
use Rattle.verilog_models.specs.Models.{blif_of, covers_in, model_of}
use Rattle.verilog_source.specs.Grammar.{IsSource}
use Rattle.verilog_source.specs.Modules.{Actual, Module, PortTie}
use Rattle.verilog_tokens.specs.Signs.{Token}
use Rattle.vrt_model.specs.FlatBlif.{ModelPlace, all_models, flat_cover, flat_latch, flat_model_of, model_at, models_in, network_cover, network_names, signal_at, top_model, unrolled_of}
use Rattle.vrt_model.specs.Elements.{Numbered, numbered_from}
use Rattle.vrt_model.specs.Covers.{byte_fits, cover_bit, row_fits}
use Rattle.vrt_model.specs.Inputs.{IsBlif}
use Rattle.vrt_model.specs.Lists.{Among, At, is_empty}
use Rattle.vrt_model.specs.Models.{AreModels, models_within}
use Rattle.vrt_model.specs.Unrolled.{deepest}
use Rattle.vrt_model.specs.declared.blif.Blif.{Blif}
use Rattle.vrt_model.specs.declared.blif.BlifModel.{BlifModel}
use Rattle.vrt_model.specs.declared.blif.CoverLine.{CoverLine}
use Rattle.vrt_model.specs.declared.blif.SubLine.{SubLine}
use Rattle.vrt_model.specs.declared.blif.Tie.{Tie}
use Rattle.vrt_model.specs.declared.blif.LatchLine.{LatchLine}
use Rattle.vrt_model.specs.declared.flat_model.Cover.{Cover}
use Rattle.vrt_model.specs.declared.flat_model.FlatLatch.{FlatLatch}
use Rattle.vrt_model.proofs.Lists.{any_same, map_among}
use Rattle.vrt_model.proofs.Members.{among_either, among_left, among_map, at_none, find_among, flat_map_among}

-- each cover of a flat model gives its output's bit
abbrev pub AreCoversObeyed : Blif → ℕ → (ℕ → Bool) → Type 0
AreCoversObeyed blif m bits = (c : Cover) → Among (flat_model_of blif m).covers c → bits c.output ≡ cover_bit bits c

-- ---- numbered signals

-- the bits of the names at a place
abbrev pub bits_at : Blif → (ℕ → Bool) → ModelPlace → List ℕ → Bool
bits_at blif bits p name = bits (signal_at blif p name)

row_same : (bits : ℕ → Bool) (at : List ℕ → ℕ) (inputs : List (List ℕ)) (row : List ℕ) → row_fits bits (map at inputs) row ≡ bits_fit (map (λ n. bits (at n)) inputs) row
row_same bits at [] row = refl
row_same bits at (x ∷ xs) [] = refl
row_same bits at (x ∷ xs) (byte ∷ row) = ap (λ b. byte_fits byte (bits (at x)) && b) (row_same bits at xs row)

-- a cover between the signals of a place gives what it gives for the bits of its names
pub cover_same : (blif : Blif) (bits : ℕ → Bool) (p : ModelPlace) (c : CoverLine) → cover_bit bits (flat_cover blif p c) ≡ bit_given (bits_at blif bits p) c
cover_same blif bits p c =
    ap (λ fits. cond (c.on || is_empty c.rows) fits (not fits))
    (any_same (row_fits bits (map (signal_at blif p) c.inputs)) (bits_fit (map (bits_at blif bits p) c.inputs)) (row_same bits (signal_at blif p) c.inputs) c.rows)

-- so has each cover at a place
place_covered : (blif : Blif) (m : ℕ) (bits : ℕ → Bool) (p : ModelPlace) → AreCoversObeyed blif m bits → Among (models_in blif deepest (top_model m)) p → AreCovered (bits_at blif bits p) (model_at blif p.model).covers
unfolding flat_model_of unrolled_of all_models
place_covered blif m bits p h a c b =
    h (flat_cover blif p c)
    (among_left (flat_map (λ (at : ModelPlace). map (flat_cover blif at) (model_at blif at.model).covers) (models_in blif deepest (top_model m))) _ (flat_cover blif p c)
    (flat_map_among (λ (at : ModelPlace). map (flat_cover blif at) (model_at blif at.model).covers) (models_in blif deepest (top_model m)) p (flat_cover blif p c) a
    (map_among (flat_cover blif p) (model_at blif p.model).covers c b)))
    ∙ cover_same blif bits p c

same_covers : (bits : List ℕ → Bool) (b : BlifModel) (m : Module) → b ≡ model_of m → AreCovered bits b.covers → AreCovered bits (covers_in 0 m.entries)
same_covers bits b m same h = subst (λ (x : BlifModel). AreCovered bits x.covers) same h

-- ---- all places

-- the places of a module of a text
pub record Runs (modules : List Module) (k : ℕ) (top : Module) : Type 0 where
  pub model : model_at (blif_of modules) (top_model k).model ≡ model_of top
  pub ends : Ends (models_within (blif_of modules)) deepest (top_model k).model

pub runs : (modules : List Module) (k : ℕ) (top : Module) → AreModels (blif_of modules) → At modules k top → Runs modules k top
runs modules k top are a =
    let few = slice_get_within modules k top a in
    let many = length-map modules model_of in
    record { model = model_there modules k top a; ends = models_end (blif_of modules) are.well_founded are.shallow k (subst (λ n. k < n) (sym many) few) }

tied_bit : (modules : List Module) (k : ℕ) (bits : ℕ → Bool) (at q : ModelPlace) (m : Module) (i : Instance) (t : PortTie) (o : Option Actual) → IsBlif (blif_of modules) → AreModels (blif_of modules)
    → AreCovered (bits_at (blif_of modules) bits at) (covers_in 0 m.entries) → IsLedOn modules at m i q → Among i.ties t → t.actual ≡ o
    → IsTied (bits_at (blif_of modules) bits at) (bits (signal_at (blif_of modules) q t.port)) o
tied_bit modules k bits at q m i t None good are covered led a e = tt
tied_bit modules k bits at q m i t (Some x) good are covered led a e =
    let blif = blif_of modules in
    let tie = tie_there led.is.line led.is.count i.ties a.0 t x a.1 e in
    let tied : Tie = record { formal = t.port; actual = signal_of tie.count (actual_value x) } in
    let among : Among led.sub.ties tied = subst (λ (s : SubLine). Among s.ties tied) (sym led.is.is) tie.there in
    ap bits (tie_same blif at led.sub q tied ((good_driven blif good are).tied at.model led.sub led.there) led.place among)
    ∙ actual_covered (bits_at blif bits at) led.is.line tie.count x (λ c b. covered c (led.is.ties c (tie.covered c b)))

pub stands_among : (modules : List Module) (m : Module) (path : List ℕ) (last : Module) → StandsAt modules m path last → Among modules m → Among modules last
stands_among modules _ _ _ itself a = a
stands_among modules _ _ _ (inside {m} {inner} {last} {path} k i b found later) a =
    stands_among modules inner path last later (find_among (λ (x : Module). bytes_eq x.name i.module_name) modules inner found).0

-- the bits of the nets are what the modules mean
pub flat_means : (tokens : List Token) (modules : List Module) (k : ℕ) (top : Module) (bits : ℕ → Bool) → IsSource tokens modules → IsBlif (blif_of modules) → AreModels (blif_of modules) → At modules k top
    → AreCoversObeyed (blif_of modules) k bits → IsMeaning modules top (flat_bits (blif_of modules) k bits)
unfolding flat_place
flat_means tokens modules k top bits source good are a obeys =
    let blif = blif_of modules in
    let whole = runs modules k top are a in record {
      entries = λ path m stands e b. (
          let led = led_to modules deepest (top_model k) top path m stands whole.model whole.ends in
          let p = place_on blif deepest (top_model k) path in
          module_covered tokens modules m source (stands_among modules top path m stands (k, a)) (bits_at blif bits p) (same_covers (bits_at blif bits p) (model_at blif p.model) m led.model (place_covered blif k bits p obeys led.there)) e b);
      ties = λ path m stands j i at t b. (
          let led = led_to modules deepest (top_model k) top path m stands whole.model whole.ends in
          let on = led_on modules deepest (top_model k) top path m stands whole.model whole.ends j i at in
          let p = place_on blif deepest (top_model k) path in
          tied_bit modules k bits p (place_on blif deepest (top_model k) (path ++ j ∷ [])) m i t t.actual good are
          (same_covers (bits_at blif bits p) (model_at blif p.model) m led.model (place_covered blif k bits p obeys led.there)) on b refl);
    }

-- ---- assignments

no_latches : (modules : List Module) (n : ℕ) → (model_at (blif_of modules) n).latches ≡ []
no_latches [] n = refl
no_latches (m ∷ modules) zero = refl
no_latches (m ∷ modules) (suc n) = no_latches modules n

none_placed : (modules : List Module) (ps : List ModelPlace) → flat_map (λ (p : ModelPlace). map (flat_latch (blif_of modules) p) (model_at (blif_of modules) p.model).latches) ps ≡ []
none_placed modules [] = refl
none_placed modules (p ∷ ps) = ap₂ (λ (ls : List LatchLine) (fs : List FlatLatch). map (flat_latch (blif_of modules) p) ls ++ fs) (no_latches modules p.model) (none_placed modules ps)

-- nor is there a network, so each cover of a flat model of a text is that of a place
pub no_networks : (modules : List Module) (n : ℕ) → (model_at (blif_of modules) n).exdc ≡ []
no_networks [] n = refl
no_networks (m ∷ modules) zero = refl
no_networks (m ∷ modules) (suc n) = no_networks modules n

pub cover_placed : (modules : List Module) (k : ℕ) (c : Cover) → Among (flat_model_of (blif_of modules) k).covers c
    → Among (flat_map (λ (q : ModelPlace). map (flat_cover (blif_of modules) q) (model_at (blif_of modules) q.model).covers) (models_in (blif_of modules) deepest (top_model k))) c
unfolding flat_model_of unrolled_of all_models
cover_placed modules k c a =
    let blif = blif_of modules in
    let number = network_cover blif k (length (unrolled_of blif k).signals) in
    elim (among_either (flat_map (λ (q : ModelPlace). map (flat_cover blif q) (model_at blif q.model).covers) (models_in blif deepest (top_model k))) (map number (model_at blif k).exdc) c a) [
      | inl own ↦ own
      | inr behind ↦ (let x = among_map number (model_at blif k).exdc c behind in absurd (at_none x.1.0 x.0 (subst (λ (cs : List CoverLine). At cs x.1.0 x.0) (no_networks modules k) x.1.1)))
    ]

-- a flat model of a text has no latches
flat_latches : (modules : List Module) (k : ℕ) → (flat_model_of (blif_of modules) k).latches ≡ []
unfolding flat_model_of unrolled_of all_models
flat_latches modules k = none_placed modules (models_in (blif_of modules) deepest (top_model k))

-- so an assignment is what gives each cover's output its bit
pub assigns : (modules : List Module) (k : ℕ) (bits : ℕ → Bool) → AreCoversObeyed (blif_of modules) k bits → Assigns (blif_of modules) k bits
assigns modules k bits obeyed clock held next = record {
  covers = obeyed;
  latches = λ l a. absurd (none (flat_model_of (blif_of modules) k).latches (flat_latches modules k) l a);
} where
  none : (ls : List FlatLatch) → ls ≡ [] → (l : Numbered) → Among (numbered_from 0 ls) l → ⊥
  none ls e l a = at_none a.0 l (subst (λ (xs : List FlatLatch). At (numbered_from 0 xs) a.0 l) e a.1)
