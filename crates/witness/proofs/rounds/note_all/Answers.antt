use Rattle.std.proofs.Common.{◌≡◌, ℕ, ◌⊎◌, Bool, Option, Some, ap, subst, ◌∙◌}
use Rattle.std.specs.Prelude.{is_some}
use Rattle.known_nets.specs.KnownTables.{known_at}
use Rattle.witness.proofs.NoteLaws.{noted_more, noted_none}
use Rattle.witness.specs.Replays.{bits_shown}
use Rattle.witness.proofs.rounds.note_all.Goals as goal

pub loop-net-init : goal.loop-net-init
loop-net-init c = record { noted = noted_none c.args.seen.now c.args.bits.now.items }

pub loop-net-preserved : goal.loop-net-preserved
loop-net-preserved c =
    let seen = c.args.seen.now in
    let i = c.loop-net.net in
    let mid = c.loop-net.bits.items in
    let new = c.note-noted.new.bits.items in
    let bit : c.shown_at-bit.result ≡ bits_shown seen i = c.shown_at-bit.ensures in
    let noted = c.note-noted.ensures in
    record {
      noted = noted_more c.loop-net.more c.note-noted.result i seen c.args.bits.now.items mid new c.loop-net.invariant.noted noted.size noted.grown
          (λ some. noted.noted (ap is_some bit ∙ some))
          (subst (λ (o : Option Bool). (n : ℕ) (v : Bool) → known_at new n ≡ Some v → (known_at mid n ≡ Some v) ⊎ ((n ≡ i) × (o ≡ Some v))) bit noted.only)
          noted.same noted.falls noted.less;
    }
