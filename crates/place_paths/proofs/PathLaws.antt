-- Paths of places: how they go on, and that the instances of each cell have different names.
use Rattle.std.proofs.Common.{◌≡◌, ◌⊎◌, ◌+◌, ◌++◌, ◌∷◌, [], ℕ, zero, suc, List, true, map, flat_map, length, inl, inr, Option, Some, None, refl, ap, sym, ◌∙◌, arith, append_assoc, length-append}
use Rattle.std.specs.Prelude.{bytes_eq, slice_get, unwrap_or}
use Rattle.std.proofs.lemmas.Bool.{and_parts, false≢true}
use Rattle.std.proofs.lemmas.Option.{same_Some}
use Rattle.place_paths.specs.Paths.{GoesOn, GoesOver, same_card, step_at}
use Rattle.vrt_model.proofs.Lists.{at_back, map_at}
use Rattle.vrt_model.proofs.Members.{all_among, among_flat_map, among_later, at_none}
use Rattle.vrt_model.specs.Comparison.{cell_at}
use Rattle.vrt_model.specs.FlatCircuit.{same_path}
use Rattle.vrt_model.specs.Inputs.{AllApart, IsCell, IsDesign}
use Rattle.vrt_model.specs.Lists.{Among}
use Rattle.vrt_model.specs.Unrolled.{Place, Step, Top, cell_named, instances_at, instances_from, own_count, own_nets, places_in}
use Rattle.vrt_model.specs.declared.design.Cell.{Cell}
use Rattle.vrt_model.specs.declared.design.Design.{Design}
use Rattle.vrt_model.specs.declared.design.DeviceCard.{DeviceCard}
use Rattle.vrt_model.specs.declared.design.InstanceCard.{InstanceCard}

-- ---- paths that are the same

pub same_count : (xs ys : List Step) → same_path xs ys ≡ true → length xs ≡ length ys
same_count [] [] e = refl
same_count [] (y ∷ ys) e = absurd (false≢true e)
same_count (x ∷ xs) [] e = absurd (false≢true e)
same_count (x ∷ xs) (y ∷ ys) e = ap suc (same_count xs ys (and_parts (bytes_eq x.instance y.instance) (same_path xs ys) e).1)

-- two paths over steps from the same path are the same only where the steps are
pub same_step : (a b : List Step) (x y : Step) (rest : List Step) → same_path (a ++ x ∷ rest) (b ++ y ∷ rest) ≡ true → bytes_eq x.instance y.instance ≡ true
same_step [] [] x y rest e = (and_parts (bytes_eq x.instance y.instance) (same_path rest rest) e).0
same_step [] (z ∷ b) x y rest e =
    let count = same_count rest (b ++ y ∷ rest) (and_parts (bytes_eq x.instance z.instance) (same_path rest (b ++ y ∷ rest)) e).1 in
    let both = length-append b (y ∷ rest) in
    absurd (omega (arith, count, both))
same_step (z ∷ a) [] x y rest e =
    let count = same_count (a ++ x ∷ rest) rest (and_parts (bytes_eq z.instance y.instance) (same_path (a ++ x ∷ rest) rest) e).1 in
    let both = length-append a (x ∷ rest) in
    absurd (omega (arith, count, both))
same_step (z ∷ a) (w ∷ b) x y rest e = same_step a b x y rest (and_parts (bytes_eq z.instance w.instance) (same_path (a ++ x ∷ rest) (b ++ y ∷ rest)) e).1

-- ---- instances

-- the instances of a cell have different names
pub cards_apart : (design : Design) → IsDesign design → (k : ℕ) → AllApart same_card (cell_at design k).instances
cards_apart design is k = by_cell (slice_get design.cells k) refl
  where
    of_cell : (c : Cell) → IsCell c → AllApart same_card c.instances
    of_cell c one i j x y here there alike =
        let devices : List (List ℕ) = map (λ (d : DeviceCard). d.name) c.devices in
        let instances : List (List ℕ) = map (λ (card : InstanceCard). card.name) c.instances in
        let e = one.elements (length devices + i) (length devices + j) x.name y.name (at_back devices instances i x.name (map_at (λ (card : InstanceCard). card.name) c.instances i x here))
        (at_back devices instances j y.name (map_at (λ (card : InstanceCard). card.name) c.instances j y there)) alike in
        omega (arith, e)

    by_cell : (o : Option Cell) → slice_get design.cells k ≡ o → AllApart same_card (unwrap_or o (record { line = 0; name = []; ports = []; devices = []; instances = [] })).instances
    by_cell None e = λ i j x y here there alike. absurd (at_none i x here)
    by_cell (Some c) e = of_cell c (all_among IsCell design.cells c is.cells (k, e))

-- ---- paths that go on

module _ (t : Top) where
  card_path : (depth : ℕ) (q : Place) (base : ℕ) (cards : List InstanceCard) (r : Place) → Among (instances_from t q depth base cards) r
      → (c : InstanceCard) × Among cards c × (r.path ≡ step_at t q c ∷ q.path)
  card_path depth q base [] r m = absurd (at_none m.0 r m.1)
  card_path depth q base (i ∷ cards) r (zero, e) = (i, (0, refl), sym (ap (λ (a : Place). a.path) (same_Some _ r e)))
  card_path depth q base (i ∷ cards) r (suc j, e) =
      let rest = card_path depth q (base + own_count t.design t.rules depth (cell_at t.design (cell_named t.design i.cell))) cards r (j, e) in
      (rest.0, among_later i cards rest.0 rest.1, rest.2)

  -- the path to a place in another goes on from that one's
  pub path_on : (depth : ℕ) (q r : Place) → Among (places_in t depth q) r → GoesOn r q.path
  path_on zero q r (zero, e) = ([], sym (ap (λ (a : Place). a.path) (same_Some q r e)))
  path_on zero q r (suc i, e) = absurd (at_none i r e)
  path_on (suc depth) q r (zero, e) = ([], sym (ap (λ (a : Place). a.path) (same_Some q r e)))
  path_on (suc depth) q r (suc i, e) =
      let found = among_flat_map (places_in t depth) (instances_at t depth q) r (i, e) in
      let card = card_path depth q (q.base + length (own_nets t.design t.rules (cell_at t.design q.cell))) (cell_at t.design q.cell).instances found.0 found.1 in
      let on = path_on depth found.0 r found.2 in (
        on.0 ++ step_at t q card.0 ∷ [],
        on.1 ∙ ap (λ (s : List Step). on.0 ++ s) card.2 ∙ sym (append_assoc on.0 (step_at t q card.0 ∷ []) q.path),
      )

  -- and, in an instance, over its step
  pub path_over : (depth : ℕ) (q : Place) (base : ℕ) (cards : List InstanceCard) (r : Place) → Among (flat_map (places_in t depth) (instances_from t q depth base cards)) r → GoesOver t q cards r
  path_over depth q base cards r m =
      let found = among_flat_map (places_in t depth) (instances_from t q depth base cards) r m in
      let card = card_path depth q base cards found.0 found.1 in
      let on = path_on depth found.0 r found.2 in
      (card.0, card.1, on.0, on.1 ∙ ap (λ (s : List Step). on.0 ++ s) card.2)

pub here_or_over : (t : Top) (depth : ℕ) (q r : Place) → Among (places_in t depth q) r → (r ≡ q) ⊎ GoesOver t q (cell_at t.design q.cell).instances r
here_or_over t zero q r (zero, e) = inl (sym (same_Some q r e))
here_or_over t zero q r (suc i, e) = absurd (at_none i r e)
here_or_over t (suc depth) q r (zero, e) = inl (sym (same_Some q r e))
here_or_over t (suc depth) q r (suc i, e) =
    inr (path_over t depth q (q.base + length (own_nets t.design t.rules (cell_at t.design q.cell))) (cell_at t.design q.cell).instances r (i, e))
