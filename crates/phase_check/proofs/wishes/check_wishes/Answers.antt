use Rattle.std.proofs.Common.{ℕ, ◌+◌, ◌*◌, List, Option, None, Err, All, arith, ap, length, refl, subst, sym}
use Rattle.bdd_ops.specs.Counting.{Counts, IsCounted}
use Rattle.phase_check.proofs.Cases.{model_of}
use Rattle.phase_check.proofs.Ends.{adds_now, words_now}
use Rattle.phase_check.proofs.Stays.{nets_stay, searched_next, stays_added, store_next}
use Rattle.phase_check.proofs.WishStage.{bits_there, wish_equal, wish_phase_fault, wishes_inside, wishes_within}
use Rattle.phase_laws.proofs.Work.{live_within, may_spend}
use Rattle.phase_check.specs.States.{circuit_spots, handles_of}
use Rattle.phase_terms.specs.Ready.{comparison_in}
use Rattle.phase_wishes.specs.Missed.{AreBits, AreWithin, IsFirstMissed, IsFoundWish, IsWithinBits, WishesFind, WishesGive}
use Rattle.phase_wishes.specs.declared.missed.WishFault.{WishFault}
use Rattle.phase_wishes.specs.declared.wishes.Wish.{Wish}
use Rattle.phase_wishes.specs.declared.wishes.WishBits.{WishBits}
use Rattle.vrt_model.specs.Held.{sources_of}
use Rattle.phase_check.proofs.wishes.check_wishes.Goals as goal

pub wish_fault-requires-clause-bits : goal.wish_fault-requires-clause-bits
wish_fault-requires-clause-bits c =
    let k = comparison_in c.args.search.compared in
    let d = c.args.store.now in
    subst (λ (b : WishBits). AreBits d b) (sym c.wish_bits-bits.ensures)
    (bits_there k c.args.search.phase c.args.search.plan.now c.requires.search.ready c.requires.search.planned c.args.search.words d c.requires.evaluated.1.kept.searched.store.words c.requires.evaluated.1.kept.nets.live c.requires.evaluated.1.model.live)

pub wish_fault-requires-clause-wishes : goal.wish_fault-requires-clause-wishes
wish_fault-requires-clause-wishes c =
    let k = comparison_in c.args.search.compared in
    let d = c.args.store.now in
    let wishes = c.as_slice.result.now in
    subst (λ (b : WishBits). All (IsWithinBits b) wishes) (sym c.wish_bits-bits.ensures)
    (subst (λ (ws : List Wish). All (IsWithinBits (handles_of c.args.search.words)) ws) (sym c.as_slice.ensures)
    (wishes_inside k c.args.search.phase c.args.search.plan.now c.requires.search.ready c.requires.search.planned c.args.search.words d c.requires.evaluated.1.kept.searched.store.words))

pub returns-in-Ok-None-clause-gives : goal.returns-in-Ok-None-clause-gives
returns-in-Ok-None-clause-gives c made evaluated =
    let k = comparison_in c.args.search.compared in
    let phase = c.args.search.phase in
    let plan = c.args.search.plan.now in
    let words = c.args.search.words in
    let care = c.args.search.care in
    let d = c.args.store.now in
    let new = c.wish_fault.new.store in
    let s = evaluated.kept.searched in
    let sound = c.sound.ensures.sound in
    let u : ℕ = length (sources_of k phase) in
    let operations : ℕ = made in
    let adds = c.in-Ok-None.ensures.adds in
    let care_in = live_within d.budget u operations d c.args.search.care s.store.used sound s.opened.care_live in
    let all_in = wishes_within k phase plan c.requires.search.ready c.requires.search.planned words d s.store.words d.budget u operations s.store.used sound evaluated.kept.nets.live evaluated.model.live in
    let counted : IsCounted u (4 * length c.as_slice.result.now) d new =
    (c.in-Ok-None.ensures.counts u care_in (subst (λ (x : WishBits). AreWithin u d x) (sym c.wish_bits-bits.ensures) all_in)).added in
    let b = handles_of words in
    let found = subst (λ (o : Option WishFault). WishesFind c.as_slice.result.now care c.wish_bits-bits.result d new o) c.in-Ok-None.field-0-is c.in-Ok-None.ensures.found in
    let none : WishesFind plan.wishes care b d d None =
    subst (λ (ws : List Wish). WishesFind ws care b d d None) c.as_slice.ensures (subst (λ (x : WishBits). WishesFind c.as_slice.result.now care x d d None) c.wish_bits-bits.ensures found) in
    record {
      kept = record {
        searched = searched_next k phase d.budget operations (4 * length plan.wishes) words d new (adds_now d new adds) (words_now d new adds)
            (subst (λ (ws : List Wish). IsCounted u (4 * length ws) d new) c.as_slice.ensures counted) c.requires.search.ready c.args.search.care (circuit_spots k plan) (circuit_spots k plan)
            (stays_added words.roots d new adds) (stays_added words.inputs d new adds) (stays_added words.held d new adds) s s.clear;
        nets = nets_stay k phase c.requires.search.ready words d new s.store.words (adds_now d new adds) (stays_added words.gates d new adds) evaluated.kept.nets;
      };
      equal = wish_equal k phase plan c.requires.search.ready c.requires.search.planned words d s.store.words care s.opened evaluated.kept.nets evaluated.model c.requires.search.there
          (model_of k phase plan words d care c.requires.search.ready c.requires.search.planned s.opened) none s.clear s.met;
    }

pub returns-in-Err-clause-gives : goal.returns-in-Err-clause-gives
returns-in-Err-clause-gives c made evaluated =
    let k = comparison_in c.args.search.compared in
    let phase = c.args.search.phase in
    let plan = c.args.search.plan.now in
    let words = c.args.search.words in
    let d = c.args.store.now in
    let new = c.wish_fault.new.store in
    let s = evaluated.kept.searched in
    let sound = c.sound.ensures.sound in
    let u : ℕ = length (sources_of k phase) in
    let operations : ℕ = made in
    let spent = c.in-Err.spent in
    let care_in = live_within d.budget u operations d c.args.search.care s.store.used sound s.opened.care_live in
    let all_in = wishes_within k phase plan c.requires.search.ready c.requires.search.planned words d s.store.words d.budget u operations s.store.used sound evaluated.kept.nets.live evaluated.model.live in
    let counts : Counts {A = Option WishFault} u (4 * length c.as_slice.result.now) d new (Err spent) =
    c.in-Err.ensures.counts u care_in (subst (λ (b : WishBits). AreWithin u d b) (sym c.wish_bits-bits.ensures) all_in) in
    let more : ℕ = 4 * length plan.wishes in
    may_spend k phase d.budget u operations more (operations + more) d new spent s.store.used refl c.requires.budget (omega arith)
    (subst (λ (ws : List Wish). Counts {A = Option WishFault} u (4 * length ws) d new (Err spent)) c.as_slice.ensures counts)

pub returns-in-Ok-Some-clause-gives : goal.returns-in-Ok-Some-clause-gives
returns-in-Ok-Some-clause-gives c made evaluated =
    let k = comparison_in c.args.search.compared in
    let phase = c.args.search.phase in
    let plan = c.args.search.plan.now in
    let words = c.args.search.words in
    let care = c.args.search.care in
    let d = c.args.store.now in
    let new = c.wish_fault.new.store in
    let s = evaluated.kept.searched in
    let b = handles_of words in
    let sound = c.sound.ensures.sound in
    let u : ℕ = length (sources_of k phase) in
    let operations : ℕ = made in
    let fault = c.in-Ok-Some.fault in
    let adds = c.in-Ok-Some.ensures.adds in
    let gives = subst (λ (o : Option WishFault). WishesGive c.as_slice.result.now care c.wish_bits-bits.result d new o) c.in-Ok-Some.field-0-is c.in-Ok-Some.ensures.gives in
    let found = subst (λ (o : Option WishFault). WishesFind c.as_slice.result.now care c.wish_bits-bits.result d new o) c.in-Ok-Some.field-0-is c.in-Ok-Some.ensures.found in
    let first : IsFirstMissed plan.wishes care b fault d new =
    subst (λ (ws : List Wish). IsFirstMissed ws care b fault d new) c.as_slice.ensures (subst (λ (x : WishBits). IsFirstMissed c.as_slice.result.now care x fault d new) c.wish_bits-bits.ensures gives) in
    let has : IsFoundWish plan.wishes care b fault d new =
    subst (λ (ws : List Wish). IsFoundWish ws care b fault d new) c.as_slice.ensures (subst (λ (x : WishBits). IsFoundWish c.as_slice.result.now care x fault d new) c.wish_bits-bits.ensures found) in
    let care_in = live_within d.budget u operations d care s.store.used sound s.opened.care_live in
    let all_in = wishes_within k phase plan c.requires.search.ready c.requires.search.planned words d s.store.words d.budget u operations s.store.used sound evaluated.kept.nets.live evaluated.model.live in
    let counted : IsCounted u (4 * length c.as_slice.result.now) d new =
    (c.in-Ok-Some.ensures.counts u care_in (subst (λ (x : WishBits). AreWithin u d x) (sym c.wish_bits-bits.ensures) all_in)).added in
    wish_phase_fault k phase plan c.requires.search.ready c.requires.search.planned words d s.store.words care s.opened evaluated.kept.nets evaluated.model new fault first has c.requires.search.there
    (model_of k phase plan words d care c.requires.search.ready c.requires.search.planned s.opened) new.budget (operations + 4 * length c.as_slice.result.now)
    (store_next k phase d.budget operations (4 * length c.as_slice.result.now) words d new (adds_now d new adds) (words_now d new adds) counted s.store)
    adds.sound s.clear
