-- Each circuit of the chain is there where the last one is.
use Rattle.std.proofs.Common.{◌≡◌, ℕ, zero, suc, true, List, [], ◌∷◌, refl, subst}
use Rattle.std.specs.Prelude.{nat_lt}
use Rattle.std.specs.List.{AllZip}
use Rattle.std.proofs.lemmas.Bool.{and_parts, false≢true}
use Rattle.std.proofs.lemmas.Option.{none-some, same_Some}
use Rattle.checked_chain.proofs.WholeLaws.{whole_elsewhere}
use Rattle.checked_chain.specs.Steps.{ChainIsThere}
use Rattle.vrt_model.proofs.Filtered.{among_kept, filter_among}
use Rattle.vrt_model.specs.Checked.{before}
use Rattle.vrt_model.specs.CheckedParts.{checked_devices, checked_holds, checked_instances}
use Rattle.vrt_model.specs.Cut.{Cut, NumberedPlace, is_whole, numbered_places, whole_places}
use Rattle.vrt_model.specs.FlatCircuit.{flat_nets}
use Rattle.vrt_model.specs.Levels.{source_of}
use Rattle.vrt_model.specs.Lists.{Among}
use Rattle.vrt_model.specs.WholeInstances.{IsWholeAt}
use Rattle.vrt_model.specs.declared.whole.Whole.{Whole}

-- a list of what each item has
each_has : {A B : Type 0} (R : A → B → Type 0) (xs : List A) → ((x : A) → Among xs x → (y : B) × R x y) → (ys : List B) × AllZip R xs ys
each_has R [] h = ([], tt)
each_has R (x ∷ xs) h =
    let first = h x (0, refl) in
    let rest = each_has R xs (λ y m. h y (suc m.0, m.1)) in
    (first.0 ∷ rest.0, (first.1, rest.1))

-- what stands in the one list has its item in the other
beside : {A B : Type 0} (R : A → B → Type 0) (xs : List A) (ys : List B) (x : A) → AllZip R xs ys → Among xs x → (y : B) × R x y
beside R [] [] x h m = absurd (none-some x m.1)
beside R [] (y ∷ ys) x h m = absurd h
beside R (z ∷ xs) [] x h m = absurd h
beside {A} {B} R (z ∷ xs) (y ∷ ys) x h (zero, e) = (y, subst (λ (w : A). R w y) (same_Some z x e) h.0)
beside R (z ∷ xs) (y ∷ ys) x h (suc i, e) = beside R xs ys x h.1 (i, e)

-- an instance that is whole before another is whole
pub whole_before : (cut : Cut) (i n : ℕ) → is_whole (before cut i).choice n ≡ true → is_whole cut.choice n ≡ true
whole_before cut i zero e = absurd (false≢true e)
whole_before cut i (suc n) e = (and_parts (cut.choice n) (nat_lt n i) e).0

pub chain_is_there : ChainIsThere
chain_is_there cut blif facts c i h =
    let here : (p : NumberedPlace) → Among (whole_places (before cut i)) p → (w : Whole) × IsWholeAt (before cut i) blif facts p w = λ p m.
    let kept = filter_among (λ (q : NumberedPlace). is_whole (before cut i).choice q.number) (numbered_places cut.top) p m in
    let among : Among (whole_places cut) p = among_kept (λ (q : NumberedPlace). is_whole cut.choice q.number) (numbered_places cut.top) p kept.0 (whole_before cut i p.number kept.1) in
    let there = beside (IsWholeAt cut blif facts) (whole_places cut) c.wholes p h.wholes among in
    whole_elsewhere cut.top cut.choice (before cut i).choice blif facts p there.0 there.1
    in
    let wholes = each_has (IsWholeAt (before cut i) blif facts) (whole_places (before cut i)) here in (
      record {
        nets = flat_nets cut.top;
        devices = checked_devices (before cut i);
        holds = checked_holds (before cut i);
        instances = checked_instances (before cut i);
        wholes = wholes.0;
        source = source_of cut.top.rules;
      },
      record { nets = refl; devices = refl; holds = refl; instances = refl; wholes = wholes.1; source = refl },
    )
