-- What one device passes on.
use Rattle.std.specs.Prelude.{◌≡◌, ℕ, ◌||◌, ◌&&◌, Bool, false}
use Rattle.node_pool.specs.declared.region.Span.{Span}
use Rattle.bdd_core.specs.Diagram.{Function, Valuation}
use Rattle.bdd_core.specs.Store.{Diagrams}
use Rattle.vrt_model.specs.Reading.{conducts_at}
use Rattle.vrt_model.specs.declared.design.Kind.{Kind}
use Rattle.vrt_model.specs.declared.design.Kind.TheVariants.{N, P}
use Rattle.bdd_core.specs.Words.{shows}

-- the signal where the device conducts
abbrev pub gated : Kind → Function → Function → Function
gated kind gate signal = λ v. conducts_at kind (gate v) && signal v

-- the constant at a gate that keeps a device from conducting
abbrev pub blocking : Kind → ℕ
blocking N = 0
blocking P = 1

-- one word shows a signal too; where it says that nothing changed, no word did
pub record IsWider (out : Span) (at : ℕ) (signal : Function) (changed : Bool) (old new : Diagrams) : Type 0 where
  pub here : (v : Valuation) → shows new out at v ≡ (shows old out at v || signal v)
  pub same : changed ≡ false → new.words ≡ old.words
