-- What callers see of a sink in memory.
use Rattle.std.specs.Prelude.{◌≡◌, ◌+◌, ◌-◌, ◌^◌, ◌∷◌, ◌++◌, ◌==◌, [], ℕ, List, Option, Some, None, min, take, map, find, option_map, unwrap_or}
use Rattle.vrt_io.specs.declared.mem_sink.Failure.{Failure}
use Rattle.vrt_io.specs.declared.mem_sink.MemSink.{MemSink}

-- what was put
abbrev pub sink_bytes : MemSink → List ℕ
sink_bytes s = s.bytes.items

-- how often it failed
abbrev pub sink_faults : MemSink → ℕ
sink_faults s = s.faults

-- how many calls were made, and which fail after how many bytes
pub record PutPlan : Type 0 where
  pub calls : ℕ
  pub failing : List Failure

abbrev pub put_plan_of : MemSink → PutPlan
put_plan_of s = record { calls = s.calls; failing = s.failures.items }

abbrev pub next_put : PutPlan → ℕ
next_put p = min (p.calls + 1) (2 ^ 32 - 1)

-- how many bytes the next call takes before it fails, if it is to fail: by the first failure that names it
abbrev pub next_failure : PutPlan → Option ℕ
next_failure p = option_map (λ (f : Failure). f.kept) (find (λ (f : Failure). f.call == next_put p) p.failing)

abbrev pub after_put : PutPlan → PutPlan
after_put p = record p { calls = next_put p }

abbrev pub with_put_failure : PutPlan → ℕ → ℕ → PutPlan
with_put_failure p call kept = record p { failing = p.failing ++ (record { call = call; kept = kept }) ∷ [] }
