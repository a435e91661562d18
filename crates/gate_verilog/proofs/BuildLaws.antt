-- What is made of modules as tokens tell of them.
use Rattle.std.proofs.Common.{◌≡◌, ℕ, ◌++◌, ◌∷◌, [], List, map, refl, ap, ap₂, sym, subst, ◌∙◌, append-nil, append_assoc}
use Rattle.std.proofs.lemmas.List.{map-append}
use Rattle.gate_verilog.specs.Built.{AddsEntries, Building, IsBuilding, built_from, built_on, with_entries}
use Rattle.verilog_expression.specs.Grammar.{seen}
use Rattle.verilog_expression.specs.declared.tree.Expression.{Expression}
use Rattle.verilog_models.specs.Drafts.{AddsEntry, IsDraft, begun}
use Rattle.verilog_models.specs.Models.{model_of}
use Rattle.verilog_models.specs.declared.draft.Draft.{Draft}
use Rattle.verilog_models.proofs.EntryLaws.{draft_more}
use Rattle.verilog_source.specs.Modules.{Entry}
use Rattle.verilog_source.specs.Modules.Entry.{assigned}
use Rattle.verilog_source.specs.Places.Event.{begins, has, ends}
use Rattle.vrt_model.specs.declared.blif.BlifModel.{BlifModel}

-- ---- entries

pub none_added : (d : Draft) → AddsEntries [] d d
none_added d m h = subst (λ es. IsDraft (record { line = m.line; name = m.name; entries = es }) d) (sym (append-nil m.entries)) h

pub entry_added : (e : Entry) (old new : Draft) → AddsEntry e old new → AddsEntries (e ∷ []) old new
entry_added e old new a m h = draft_more m e old new h a

pub entries_joined : (es fs : List Entry) (old mid new : Draft) → AddsEntries es old mid → AddsEntries fs mid new → AddsEntries (es ++ fs) old new
entries_joined es fs old mid new a b m h =
    subst (λ xs. IsDraft (record { line = m.line; name = m.name; entries = xs }) new) (append_assoc m.entries es fs) (b (with_entries m es) (a m h))

pub entry_first : (e : Entry) (fs : List Entry) (old mid new : Draft) → AddsEntry e old mid → AddsEntries fs mid new → AddsEntries (e ∷ fs) old new
entry_first e fs old mid new a b = entries_joined (e ∷ []) fs old mid new (entry_added e old mid a) b

-- ---- events

entries_built : (b : Building) (es : List Entry) → built_from b (map has es) ≡ record { modules = b.modules; open_one = with_entries b.open_one es }
entries_built b [] = ap (λ xs. record { modules = b.modules; open_one = record { line = b.open_one.line; name = b.open_one.name; entries = xs } }) (sym (append-nil b.open_one.entries))
entries_built b (e ∷ es) =
    entries_built (built_on b (has e)) es
    ∙ ap (λ xs. record { modules = b.modules; open_one = record { line = b.open_one.line; name = b.open_one.name; entries = xs } }) (append_assoc b.open_one.entries (e ∷ []) es)

-- entries that are told are added to the open module
pub entries_told : (b : Building) (es : List Entry) (models : List BlifModel) (old new : Draft) → IsBuilding b models old → AddsEntries es old new → IsBuilding (built_from b (map has es)) models new
entries_told b es models old new h a = subst (λ c. IsBuilding c models new) (sym (entries_built b es)) (record { ended = h.ended; drafted = a b.open_one h.drafted })

pub entry_told : (b : Building) (e told : Entry) (models : List BlifModel) (old new : Draft) → e ≡ told → IsBuilding b models old → AddsEntry e old new
    → IsBuilding (built_from b (has told ∷ [])) models new
entry_told b e told models old new same h a =
    subst (λ x. IsBuilding (built_from b (has x ∷ [])) models new) same (record { ended = h.ended; drafted = entry_added e old new a b.open_one h.drafted })

values_told : (line : ℕ) (net : List ℕ) (es : List Expression) → map has (map (λ e. assigned line net (seen e)) es) ≡ map (λ e. has (assigned line net (seen e))) es
values_told line net [] = refl
values_told line net (e ∷ es) = ap (λ xs. has (assigned line net (seen e)) ∷ xs) (values_told line net es)

-- so are values
pub assigned_told : (b : Building) (line : ℕ) (net told_net : List ℕ) (es told : List Expression) (models : List BlifModel) (old new : Draft) → net ≡ told_net → es ≡ told → IsBuilding b models old
    → AddsEntries (map (λ e. assigned line net (seen e)) es) old new → IsBuilding (built_from b (map (λ e. has (assigned line told_net (seen e))) told)) models new
assigned_told b line net told_net es told models old new same_net same h a =
    subst (λ xs. IsBuilding (built_from b xs) models new)
    (values_told line net es ∙ ap₂ (λ n xs. map (λ e. has (assigned line n (seen e))) xs) same_net same) (entries_told b (map (λ e. assigned line net (seen e)) es) models old new h a)

-- a module begins
pub begun_told : (b : Building) (line : ℕ) (name : List ℕ) (models : List BlifModel) (old new : Draft) → IsBuilding b models old → IsDraft (begun line name) new
    → IsBuilding (built_from b (begins line name ∷ [])) models new
begun_told b line name models old new h d = record { ended = h.ended; drafted = d }

-- and ends
pub ended_told : (b : Building) (models new_models : List BlifModel) (old new : Draft) → IsBuilding b models old → new_models ≡ models ++ model_of b.open_one ∷ [] → IsDraft (begun 0 []) new
    → IsBuilding (built_from b (ends ∷ [])) new_models new
ended_told b models new_models old new h e d =
    record { ended = e ∙ ap (λ ms. ms ++ model_of b.open_one ∷ []) h.ended ∙ sym (map-append model_of b.modules (b.open_one ∷ [])); drafted = d }
