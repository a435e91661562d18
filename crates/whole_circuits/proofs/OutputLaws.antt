-- Whether outputs are allowed, by marks and counts at nets and by the definition.
use Rattle.std.proofs.Common.{◌≡◌, ℕ, ◌<◌, ◌==◌, ◌&&◌, ◌||◌, ◌++◌, Bool, true, false, not, cond, List, [], ◌∷◌, length, ap, ap₂, refl, subst, sym, ◌∙◌}
use Rattle.std.specs.Prelude.{◌↔◌, filter}
use Rattle.std.specs.List.{enumerate_from, list_all, list_any}
use Rattle.std.proofs.lemmas.Bool.{and_from, and_parts, eq-eqb, false_from_ne_true, false≢true}
use Rattle.std.proofs.lemmas.List.Folds.{list_all-append, list_all-map}
use Rattle.std.proofs.lemmas.Option.{slice_get_within}
use Rattle.known_nets.proofs.NetKinds.{is_plain_is, plain_is}
use Rattle.whole_circuits.proofs.LevelLaws.{all_from, bears_is, none_borne}
use Rattle.whole_circuits.specs.Counts.{bears, bears_all}
use Rattle.whole_circuits.specs.Outputs.{AreAround, AreOpen, are_open, joins_others, joins_own, open_pin, output_at, own_outputs}
use Rattle.whole_circuits.specs.Taken.{admits, joins, may_meet, taken_at}
use Rattle.whole_circuits.specs.declared.outputs.NetMarks.{NetMarks}
use Rattle.vrt_model.proofs.Lists.{map_among}
use Rattle.vrt_model.proofs.Members.{among_later, among_map}
use Rattle.vrt_model.proofs.Tables.{all_at}
use Rattle.vrt_model.specs.Known.{IsHeld, IsPlain, is_plain_at}
use Rattle.vrt_model.specs.Lists.{Among, is_empty, mark_at}
use Rattle.vrt_model.specs.WholeInstances.{OutputAt, channels_at, fits_drive, has_level, is_output_allowed, others_at}
use Rattle.vrt_model.specs.declared.circuit.Circuit.{Circuit}
use Rattle.vrt_model.specs.declared.circuit.Device.{Device}
use Rattle.vrt_model.specs.declared.whole.Drive.{Drive}
use Rattle.vrt_model.specs.declared.whole.Drive.TheVariants.{Soft, Level}
use Rattle.vrt_model.specs.declared.whole.WholePin.{WholePin}

-- ---- tests of lists

-- a filter leaves nothing where no item passes
pub none_passes : {X : Type 0} (test : X → Bool) (xs : List X) → is_empty (filter test xs) ≡ not (list_any test xs)
none_passes test [] = refl
none_passes {X} test (x ∷ xs) = by_test (test x) (none_passes test xs)
  where
    by_test : (b : Bool) → is_empty (filter test xs) ≡ not (list_any test xs) → is_empty (cond b (x ∷ filter test xs) (filter test xs)) ≡ not (b || list_any test xs)
    by_test true rest = refl
    by_test false rest = rest

-- all that a filter leaves pass where each item is left out or passes
all_filtered : {X : Type 0} (p test : X → Bool) (xs : List X) → list_all p (filter test xs) ≡ list_all (λ x. not (test x) || p x) xs
all_filtered p test [] = refl
all_filtered {X} p test (x ∷ xs) = by_test (test x) (all_filtered p test xs)
  where
    by_test : (b : Bool) → list_all p (filter test xs) ≡ list_all (λ y. not (test y) || p y) xs
        → list_all p (cond b (x ∷ filter test xs) (filter test xs)) ≡ ((not b || p x) && list_all (λ y. not (test y) || p y) xs)
    by_test true rest = ap (λ (b : Bool). p x && b) rest
    by_test false rest = rest

all_within : {X : Type 0} (p q : X → Bool) (xs : List X) → ((x : X) → Among xs x → p x ≡ q x) → list_all p xs ≡ list_all q xs
all_within p q [] h = refl
all_within p q (x ∷ xs) h = ap₂ (λ (a b : Bool). a && b) (h x (0, refl)) (all_within p q xs (λ y m. h y (among_later x xs y m)))

-- ---- drives

-- where nothing is met, whatever is met passes
nothing_met : {X Y : Type 0} (p : X → Bool) (q : Y → Bool) (xs : List X) (ys : List Y) → ((is_empty xs && is_empty ys) || (list_all p xs && list_all q ys)) ≡ (list_all p xs && list_all q ys)
nothing_met p q [] [] = refl
nothing_met p q [] (y ∷ ys) = refl
nothing_met p q (x ∷ xs) ys = refl

-- an output is allowed where its drive bears the channels and joins the outputs there
by_drive : (devices : List Device) (outputs : List OutputAt) (one : OutputAt) (drive : Drive)
    → ((is_empty (channels_at devices one.pin.net.0) && is_empty (others_at outputs one)) || fits_drive devices outputs one drive)
    ≡ (list_all (λ (d : Device). bears drive d.level) (channels_at devices one.pin.net.0) && list_all (λ (o : OutputAt). joins drive o.pin.drive) (others_at outputs one))
by_drive devices outputs one Soft =
    or_false (is_empty (channels_at devices one.pin.net.0) && is_empty (others_at outputs one))
    ∙ ap₂ (λ (a b : Bool). a && b) (sym (none_borne (channels_at devices one.pin.net.0))) (sym (none_borne (others_at outputs one)))
  where
    or_false : (b : Bool) → (b || false) ≡ b
    or_false true = refl
    or_false false = refl
by_drive devices outputs one (Level level) =
    nothing_met (λ (d : Device). bears (Level level) d.level) (λ (o : OutputAt). has_level level o.pin.drive) (channels_at devices one.pin.net.0) (others_at outputs one)

-- ---- outputs

module _ (c : Circuit) (marks : NetMarks) (devices : List Device) (earlier : List OutputAt) (number : ℕ) (pins : List WholePin)
    (around : AreAround c marks devices earlier number) where
  abbrev outputs : List OutputAt
  outputs = earlier ++ own_outputs number pins

  abbrev allowed_by : ℕ × WholePin → Bool
  allowed_by q =
      (bears_all marks.channels.items q.1.drive q.1.net.0 && admits (taken_at marks.taken.items q.1.net.0) q.1.drive) && joins_others pins q.1.net.0 q.0 q.1.drive

  module _ (q : ℕ × WholePin) (within : q.1.net.0 < length c.nets) where
    abbrev n : ℕ
    n = q.1.net.0

    abbrev drive : Drive
    drive = q.1.drive

    -- another output is at the net
    abbrev is_other : OutputAt → Bool
    is_other o = (o.pin.net.0 == n) && not ((o.instance == number) && (o.output == q.0))

    -- it is not, or may be met
    abbrev may : OutputAt → Bool
    may o = not (is_other o) || joins drive o.pin.drive

    earlier_is : list_all may earlier ≡ admits (taken_at marks.taken.items n) drive
    earlier_is =
        all_within may (may_meet n drive) earlier
        (λ o m.
        ap (λ (b : Bool). not ((o.pin.net.0 == n) && not (b && (o.output == q.0))) || joins drive o.pin.drive) (around.apart o m)
        ∙ ap (λ (b : Bool). not b || joins drive o.pin.drive) (and_true (o.pin.net.0 == n))) ∙ sym (around.taken n drive)
      where
        and_true : (b : Bool) → (b && true) ≡ b
        and_true true = refl
        and_true false = refl

    own_is : list_all may (own_outputs number pins) ≡ joins_others pins n q.0 drive
    own_is =
        list_all-map may (output_at number) (enumerate_from 0 pins)
        ∙ all_within (λ (p : ℕ × WholePin). may (output_at number p)) (joins_own n q.0 drive) (enumerate_from 0 pins)
        (λ p m. ap (λ (b : Bool). not ((p.1.net.0 == n) && not (b && (p.0 == q.0))) || joins drive p.1.drive) (eq-eqb number number refl))

    others_are : list_all (λ (o : OutputAt). joins drive o.pin.drive) (others_at outputs (output_at number q)) ≡ (admits (taken_at marks.taken.items n) drive && joins_others pins n q.0 drive)
    others_are =
        all_filtered (λ (o : OutputAt). joins drive o.pin.drive) is_other outputs ∙ list_all-append may earlier (own_outputs number pins)
        ∙ ap₂ (λ (a b : Bool). a && b) earlier_is own_is

    pub allowed_is : is_output_allowed devices outputs (output_at number q) ≡ allowed_by q
    allowed_is =
        by_drive devices outputs (output_at number q) drive
        ∙ ap₂ (λ (a b : Bool). a && b) (sym (bears_is c devices (length c.nets) marks.channels.items around.levels around.counts drive n within)) others_are
        ∙ grouped (bears_all marks.channels.items drive n) (admits (taken_at marks.taken.items n) drive) (joins_others pins n q.0 drive)
      where
        grouped : (a b d : Bool) → (a && (b && d)) ≡ ((a && b) && d)
        grouped true b d = refl
        grouped false b d = refl

  -- ---- all pins

  within_plain : (n : ℕ) → IsPlain c n → n < length c.nets
  within_plain n p = slice_get_within c.nets n p.0 p.1

  to_open : are_open c marks pins ≡ true → AreOpen c devices outputs (own_outputs number pins)
  to_open free = record {
    plain = λ o m.
        let q = among_map (output_at number) (enumerate_from 0 pins) o m in
        let parts = free_at q.0 q.1 in
        subst (λ (x : OutputAt). IsPlain c x.pin.net.0 × (¬ IsHeld c x.pin.net.0)) q.2
        (plain_is c q.0.1.net.0 parts.0, λ held. false≢true (sym (not_true (mark_at marks.held.items q.0.1.net.0) parts.1.0) ∙ (around.held q.0.1.net.0).1 held));
    allowed = λ o m.
        let q = among_map (output_at number) (enumerate_from 0 pins) o m in
        let parts = free_at q.0 q.1 in
        subst (λ (x : OutputAt). is_output_allowed devices outputs x ≡ true) q.2
        (allowed_is q.0 (within_plain q.0.1.net.0 (plain_is c q.0.1.net.0 parts.0)) ∙ parts.1.1);
  }
    where
      not_true : (b : Bool) → not b ≡ true → b ≡ false
      not_true true e = absurd (false≢true e)
      not_true false e = refl

      free_at : (q : ℕ × WholePin) → Among (enumerate_from 0 pins) q
          → (is_plain_at c q.1.net.0 ≡ true) × ((not (mark_at marks.held.items q.1.net.0) ≡ true) × (allowed_by q ≡ true))
      free_at q m =
          let n = q.1.net.0 in
          let both = and_parts (is_plain_at c n && not (mark_at marks.held.items n)) (allowed_by q) (all_at (open_pin c marks pins) (enumerate_from 0 pins) q free m) in
          let own = and_parts (is_plain_at c n) (not (mark_at marks.held.items n)) both.0 in
          (own.0, (own.1, both.1))

  from_open : AreOpen c devices outputs (own_outputs number pins) → are_open c marks pins ≡ true
  from_open open_are = all_from (open_pin c marks pins) (enumerate_from 0 pins) each
    where
      unheld : (n : ℕ) → (¬ IsHeld c n) → not (mark_at marks.held.items n) ≡ true
      unheld n none = ap not (false_from_ne_true (mark_at marks.held.items n) (λ e. none ((around.held n).0 e)))

      each : (q : ℕ × WholePin) → Among (enumerate_from 0 pins) q → open_pin c marks pins q ≡ true
      each q m =
          let n = q.1.net.0 in
          let own = map_among (output_at number) (enumerate_from 0 pins) q m in
          let plain = open_are.plain (output_at number q) own in
          let allowed = open_are.allowed (output_at number q) own in
          and_from (is_plain_at c n && not (mark_at marks.held.items n)) (allowed_by q)
          (and_from (is_plain_at c n) (not (mark_at marks.held.items n)) (is_plain_is c n plain.0) (unheld n plain.1))
          (sym (allowed_is q (within_plain n plain.0)) ∙ allowed)

  pub open_is : (are_open c marks pins ≡ true) ↔ AreOpen c devices outputs (own_outputs number pins)
  open_is = (to_open, from_open)
