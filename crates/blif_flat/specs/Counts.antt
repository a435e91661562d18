-- How much stands in models once their sub-models are unrolled.
use Rattle.std.specs.Prelude.{◌≡◌, ℕ, zero, suc, ◌+◌, ◌-◌, List, [], map, length, sum_by, None, get_or, position, unwrap_or, bytes_eq}
use Rattle.blif_checks.specs.Tables.{AreTables}
use Rattle.vrt_model.specs.FlatBlif.{all_models, flat_model_of, formals, inner_signals, model_at, model_numbered, signals_of, unrolled_of}
use Rattle.vrt_model.specs.Lists.{At}
use Rattle.vrt_model.specs.Models.{bad_formal_after, interface_of}
use Rattle.vrt_model.specs.Unsupported.{carried}
use Rattle.vrt_model.specs.declared.blif.Blif.{Blif}
use Rattle.vrt_model.specs.declared.blif.BlifModel.{BlifModel}
use Rattle.vrt_model.specs.declared.blif.CoverLine.{CoverLine}
use Rattle.vrt_model.specs.declared.blif.SubLine.{SubLine}
use Rattle.vrt_model.specs.declared.flat_model.Cover.{Cover}
use Rattle.blif_flat.specs.Network.{rows_of}
use Rattle.blif_flat.specs.declared.counts.Counted.{Counted}
use Rattle.blif_flat.specs.declared.counts.Counted.TheVariants.{Signals, Rows, Subs}
use Rattle.blif_flat.specs.declared.counts.Counts.{Counts}
use Rattle.blif_flat.specs.declared.counts.Inside.{Inside}
use Rattle.blif_flat.specs.declared.counts.Sums.{Sums}
use Rattle.blif_flat.specs.declared.tables.ModelTables.{ModelTables}

-- ---- by the definition

-- what a model counts of its own, where some of its signals are tied
abbrev pub own : Blif → Counted → ℕ → List (List ℕ) → ℕ
own blif Signals m tied = length (inner_signals (model_at blif m) tied)
own blif Rows m tied = sum_by (λ (c : CoverLine). length c.rows) (model_at blif m).covers
own blif Subs m tied = 1

-- what the models in a model count, at most so deep
abbrev pub within : Blif → Counted → ℕ → ℕ → ℕ
within blif kind zero m = 0
within blif kind (suc depth) m =
    sum_by (λ (s : SubLine). own blif kind (model_numbered blif s.model) (formals s) + within blif kind depth (model_numbered blif s.model)) (model_at blif m).subs

-- the counts of an unrolled model without its network, each up to the greatest number of 64 bits
pub record AreCounts (blif : Blif) (m : ℕ) (counts : Counts) : Type 0 where
  pub signals : counts.signals ≡ carried (length (unrolled_of blif m).signals)
  pub rows : counts.rows ≡ carried (sum_by (λ (c : Cover). length c.rows) (unrolled_of blif m).covers)
  pub subs : counts.subs ≡ carried (length (all_models blif m) - 1)

-- the counts of the flat model, with the network
pub record AreFlatCounts (blif : Blif) (m : ℕ) (counts : Counts) : Type 0 where
  pub signals : counts.signals ≡ carried (length (flat_model_of blif m).signals)
  pub rows : counts.rows ≡ carried (sum_by (λ (c : Cover). length c.rows) (flat_model_of blif m).covers)
  pub subs : counts.subs ≡ carried (length (all_models blif m) - 1)

-- counts with so many signals and rows more
abbrev pub counts_with : Counts → ℕ → ℕ → Counts
counts_with counts signals rows = record counts { signals = carried (counts.signals + signals); rows = carried (counts.rows + rows) }

-- the ties of a sub-model fit the interface of its model
pub record Fits (blif : Blif) (s : SubLine) : Type 0 where
  pub formals : bad_formal_after (interface_of (model_at blif (model_numbered blif s.model))) [] (formals s) ≡ None

abbrev pub AllFit : Blif → Type 0
AllFit blif = (m i : ℕ) (s : SubLine) → At (model_at blif m).subs i s → Fits blif s

-- ---- by tables

abbrev pub rows_in : BlifModel → ℕ
rows_in m = carried (rows_of m.covers)

-- a sub-model, by the names of the models, their signals and their rows
abbrev pub sub_inside : List (List ℕ) → List (List (List ℕ)) → List ℕ → SubLine → Inside
sub_inside names signals rows s =
    let m = unwrap_or (position (bytes_eq s.model) names) 0 in
    record { model = m; signals = length (get_or signals m []) - length s.ties; rows = get_or rows m 0 }

abbrev pub inside_in : List (List ℕ) → List (List (List ℕ)) → List ℕ → BlifModel → List Inside
inside_in names signals rows m = map (sub_inside names signals rows) m.subs

abbrev pub weight : Counted → Inside → ℕ
weight Signals i = i.signals
weight Rows i = i.rows
weight Subs i = 1

-- what sub-models count, with what those in them count
abbrev pub sum_over : Counted → List ℕ → List Inside → ℕ
sum_over kind sums insides = carried (sum_by (λ (i : Inside). weight kind i + get_or sums i.model 0) insides)

-- what all models below one count, at most so deep
abbrev pub below : List (List Inside) → Counted → ℕ → ℕ → ℕ
below all kind zero m = 0
below all kind (suc depth) m = sum_by (λ (i : Inside). weight kind i + below all kind depth i.model) (get_or all m [])

abbrev pub AreSums : List (List Inside) → Counted → ℕ → List ℕ → Type 0
AreSums all kind depth sums = (m : ℕ) → get_or sums m 0 ≡ carried (below all kind depth m)

-- ---- the tables of a file

-- what models have of their own, and what stands below each
pub record AreSumsOf (names : List (List ℕ)) (signals : List (List (List ℕ))) (models : List BlifModel) (s : Sums) : Type 0 where
  pub rows_are : s.rows ≡ map rows_in models
  pub signals_are : AreSums (map (inside_in names signals s.rows) models) Signals 32 s.signals_below
  pub below_are : AreSums (map (inside_in names signals s.rows) models) Rows 32 s.rows_below
  pub subs_are : AreSums (map (inside_in names signals s.rows) models) Subs 32 s.subs_below

-- of models their names, interfaces, signals and sums
pub record AreModelTables (blif : Blif) (t : ModelTables) : Type 0 where
  pub tables_are : AreTables blif t.tables
  pub lists_are : t.signals ≡ map signals_of blif.models
  pub sums_are : AreSumsOf t.tables.names t.signals blif.models t.sums
