use Rattle.std.proofs.Common.{◌≡◌, ℕ, Bool, List, Option, true, ap, length, subst, sym, ◌∙◌}
use Rattle.known_nets.specs.KnownTables.{known_at}
use Rattle.vrt_model.specs.Lists.{At}
use Rattle.witness.proofs.SettleLaws.{settled_new, stands_more}
use Rattle.witness.specs.Replays.{HasSeen}
use Rattle.witness.specs.Settling.{HasNoted, Stands}
use Rattle.witness.specs.declared.seen.Seen.{Seen}
use Rattle.witness.proofs.rounds.settle.Goals as goal

pub rounds-init : goal.rounds-init
rounds-init c = record { len = c.requires.len; stands = λ phase setting rank same each all stands. stands }

pub note_all-more-requires : goal.note_all-more-requires
note_all-more-requires c = ap (λ (xs : List Seen). length xs) c.as_slice-in-rounds.ensures ∙ (c.in_ok-seen.ensures.len ∙ sym c.rounds.invariant.len)

pub rounds-preserved : goal.rounds-preserved
rounds-preserved c =
    let circuit = c.args.circuit.now in
    let list = c.in_ok-seen.seen in
    let old = c.rounds.bits.items in
    let new = c.note_all-more.new.bits.items in
    let noted = c.note_all-more.ensures in
    let bits_is : c.as_slice.result.now ≡ old = c.as_slice.ensures.value in
    record {
      len = noted.size ∙ c.rounds.invariant.len;
      stands = λ phase setting rank same each all stands.
          let before : Stands circuit phase setting (known_at old) = c.rounds.invariant.stands phase setting rank same each all stands in
          let here : Stands circuit phase setting (known_at c.as_slice.result.now) = subst (λ (xs : List (Option Bool)). Stands circuit phase setting (known_at xs)) (sym bits_is) before in
          stands_more circuit phase c.requires.flat setting c.note_all-more.result (length list) list old new before
          (subst (λ (xs : List Seen). HasNoted c.note_all-more.result (length xs) xs old new) c.as_slice-in-rounds.ensures noted)
          (subst (λ (xs : List (Option Bool)). (n : ℕ) (seen : Seen) → At list n seen → HasSeen circuit phase setting (known_at xs) true n seen) bits_is
          (c.in_ok-seen.ensures.seen phase setting rank same each all here.given here.known));
    }

pub rounds-smaller : goal.rounds-smaller
rounds-smaller c = c.note_all-more.ensures.less c.if-not-more.false

pub returns-then-not-more : goal.returns-then-not-more
returns-then-not-more c phase setting rank same each all stands =
    let circuit = c.args.circuit.now in
    let list = c.in_ok-seen.seen in
    let old = c.rounds.bits.items in
    let new = c.note_all-more.new.bits.items in
    let bits_is : c.as_slice.result.now ≡ old = c.as_slice.ensures.value in
    let before : Stands circuit phase setting (known_at old) = c.rounds.invariant.stands phase setting rank same each all stands in
    let here : Stands circuit phase setting (known_at c.as_slice.result.now) = subst (λ (xs : List (Option Bool)). Stands circuit phase setting (known_at xs)) (sym bits_is) before in
    settled_new circuit phase c.requires.flat setting c.note_all-more.result list old new c.if-not-more.true before
    (subst (λ (xs : List Seen). HasNoted c.note_all-more.result (length xs) xs old new) c.as_slice-in-rounds.ensures c.note_all-more.ensures)
    (c.in_ok-seen.ensures.len ∙ sym c.rounds.invariant.len)
    (subst (λ (xs : List (Option Bool)). (n : ℕ) (seen : Seen) → At list n seen → HasSeen circuit phase setting (known_at xs) true n seen) bits_is
    (c.in_ok-seen.ensures.seen phase setting rank same each all here.given here.known))
    c.in_ok-seen.ensures.len
