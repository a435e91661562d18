-- What the covers of a module say of bits, entry by entry.
use Rattle.std.proofs.Common.{ℕ, ◌+◌, Bool, List, [], ◌∷◌, All}
use Rattle.std.proofs.lemmas.List.Elements.{All-cons, All-head, All-nil, All-tail}
use Rattle.verilog_meaning.specs.Covered.{AreCovered}
use Rattle.verilog_meaning.specs.Meaning.{Holds}
use Rattle.verilog_meaning.specs.Terminals.{IsWhole}
use Rattle.verilog_meaning.proofs.GateLaws.{gate_covered}
use Rattle.verilog_meaning.proofs.SourceLaws.{source_whole}
use Rattle.verilog_meaning.proofs.ValueLaws.{assigned_covered, left_covered, right_covered}
use Rattle.verilog_models.specs.Models.{covers_in, entry_covers, entry_own, model_of}
use Rattle.verilog_source.specs.Grammar.{IsSource}
use Rattle.verilog_source.specs.Modules.{Entry, Module}
use Rattle.verilog_source.specs.Modules.Entry.{listed, directed, assigned, gate, instance}
use Rattle.verilog_tokens.specs.Signs.{Token}
use Rattle.vrt_model.specs.Lists.{Among}
use Rattle.vrt_model.proofs.Members.{all_among}

entry_covered : (bits : List ℕ → Bool) (n : ℕ) (e : Entry) → IsWhole e → AreCovered bits (entry_covers n e) → Holds bits e
entry_covered bits n (listed x) w h = tt
entry_covered bits n (directed l d x) w h = tt
entry_covered bits n (assigned l x f) w h = assigned_covered bits l n x f h
entry_covered bits n (gate l kind os fs) w h = gate_covered bits l n kind os fs w.0 h
entry_covered bits n (instance l m ts) w h = tt

entries_covered : (bits : List ℕ → Bool) (n : ℕ) (es : List Entry) → All IsWhole es → AreCovered bits (covers_in n es) → All (Holds bits) es
entries_covered bits n [] w h = All-nil (Holds bits)
entries_covered bits n (e ∷ es) w h =
    All-cons (Holds bits) e es (entry_covered bits n e (All-head IsWhole e es w) (left_covered bits (entry_covers n e) (covers_in (n + entry_own e) es) h))
    (entries_covered bits (n + entry_own e) es (All-tail IsWhole e es w) (right_covered bits (entry_covers n e) (covers_in (n + entry_own e) es) h))

-- the covers of a module of a text say what its entries do
pub module_covered : (ts : List Token) (ms : List Module) (m : Module) → IsSource ts ms → Among ms m → (bits : List ℕ → Bool) → AreCovered bits (model_of m).covers
    → (e : Entry) → Among m.entries e → Holds bits e
module_covered ts ms m source a bits h e b =
    all_among (Holds bits) m.entries e (entries_covered bits 0 m.entries (all_among (λ (x : Module). All IsWhole x.entries) ms m (source_whole source) a) h) b
