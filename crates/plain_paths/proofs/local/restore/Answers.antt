use Rattle.std.proofs.Common.{ℕ, [], arith, get_or, subst, below_more}
use Rattle.std.proofs.lemmas.Option.{get_or_from_slice_get, slice_get_within}
use Rattle.plain_paths.proofs.LocalLaws.{agree_either, agree_kept, agree_shows, device_from, restored}
use Rattle.plain_paths.specs.Local.{AgreeAtEnds, devices_at, network_with}
use Rattle.vrt_model.specs.Lists.{At, Among}
use Rattle.vrt_model.specs.Path.{Network}
use Rattle.vrt_model.specs.declared.circuit.Device.{Device}
use Rattle.vrt_model.specs.declared.ids.Dev.{Dev}
use Rattle.plain_paths.proofs.local.restore.Goals as goal

pub loop-number-preserved : goal.loop-number-preserved
loop-number-preserved c =
    let circuit = c.args.circuit.now in
    let devices = c.args.devices.now in
    let roots = c.args.roots.now in
    let at = c.loop-number.number-index in
    let mid = c.loop-number.tables in
    let new = c.restore_at.new.tables in
    let blank : Dev = record { 0 = 0 } in
    let Back : Dev → Type 0 = λ k. (d : Device) → At circuit.devices k.0 d → AgreeAtEnds new roots d in
    let P : ℕ → Type 0 = λ i. (k : Dev) → At devices i k → Back k in
    let here : Back (get_or devices at blank) = c.restore_at.ensures.there in
    record {
      places = c.restore_at.ensures.places;
      there = below_more P at
          (λ i lt k e d h. (let both = c.loop-number.invariant.there i lt k e d h in
          (agree_kept new mid roots d.left.0 (c.restore_at.ensures.each d.left.0) both.0, agree_kept new mid roots d.right.0 (c.restore_at.ensures.each d.right.0) both.1)))
          (λ k e. subst Back (get_or_from_slice_get devices at k blank e) here);
      each = λ n. agree_either new mid c.args.tables.now roots n (c.restore_at.ensures.each n) (c.loop-number.invariant.each n);
    }

pub returns-clause-signals : goal.returns-clause-signals
returns-clause-signals c reading given held roots shows other =
    let circuit = c.args.circuit.now in
    let numbers = c.args.devices.now in
    let w : Network = network_with circuit reading given held (devices_at circuit numbers) in
    let ends : (d : Device) → Among w.devices d → AgreeAtEnds c.loop-number.tables c.args.roots.now d =
    λ d m. (let from = device_from circuit numbers d m in
    let inside = slice_get_within numbers from.1.0 from.0 from.1.1 in
    c.loop-number.invariant.there from.1.0 (omega (arith, inside, c.loop-number-test.false)) from.0 from.1.1 d from.2) in
    agree_shows (network_with circuit other given held []) c.loop-number.tables c.args.roots.now
    (restored w c.args.roots.now c.args.tables.now c.loop-number.tables shows (roots reading) ends c.loop-number.invariant.each) (roots other)
