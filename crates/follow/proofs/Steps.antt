-- An accepted report or removal keeps the table in step with the story: each is a change at one place that fits (`Fits`), in the three ways in which a
-- report finds its place, and a removal at its key's. Assumes nothing.
use Prim.Native.Nat.{ℕ, ◌+◌, ◌*◌, ◌≤◌, ◌<◌}
use native.Mathlib.Omega.{arith}
use mathlib.Core.Path.{◌≡◌, refl, sym, ◌∙◌}
use mathlib.Core.List.{List}
use mathlib.Core.Option.{some}
use mathlib.Core.Logic.{◌⊎◌, inl, inr, ⊎_elim}
use lib.ListN.{length}
use lib.Seq.{get_or-set_same, get_or-set_other}
use borrow.Author.Tests.{ne_eqb}
use Rattle.octets.specs.Octets.{placed}
use Rattle.octets.proofs.Laws.{length_placed, part_placed_same, part_placed_other}
use Rattle.board_record.specs.Sizes.{places, room, key_least}
use Rattle.board_record.specs.Table.{Table, length_at, bearing, changed}
use Rattle.board_record.specs.Search.{KeyPlace, place_of, ReportPlace, keeps, takes, drops, target_of, floor_after}
use Rattle.board_record.specs.Proper.{Proper}
use Rattle.board_record.proofs.Logic.{from?}
use Rattle.board_record.proofs.Proper.{proper_sound}
use Rattle.board_record.proofs.Search.{report_place_is, floor_keeps, floor_takes, floor_drops}
use Rattle.board_rules.specs.Body.{octets_at}
use Rattle.board_rules.specs.Remove.{removed}
use Rattle.follow.specs.Story.{sets, clears, Story, did}
use Rattle.follow.proofs.Begun.{path_in}
use Rattle.follow.proofs.Table.{StandsFor}
use Rattle.follow.proofs.Changed.{Fits, stands_changed}

apart : (i j : ℕ) → (i ≡ j → ⊥) → (i < j) ⊎ (j < i)
apart i j d = ⊎_elim (λ l. inl (omega (arith, d))) (λ l. inr l) (from? i j)

-- ---- a report

module _ (b : Table) (st : List ℕ) (h : Story) (k : ℕ) (src : List ℕ) (pst : ℕ) (r : StandsFor b st h)
    (k-low : key_least ≤ k) (size_low : 0 < length src) (size-high : length src ≤ room) where
  module _ (i : ℕ) (l : i < places) (f : ℕ) where
    fits_in : room * i + length src ≤ length st
    fits_in = omega (arith, r.enough)

    body_new : path_in (changed b i (bearing b k (length src) pst) f) (placed st (room * i) src) i ≡ some (record { form = pst; octets = src })
    unfolding octets_at
    body_new =
        rw (
          get_or-set_same b.lengths i (length src) 0 (omega (arith, r.sized.lengths)),
          get_or-set_same b.forms i pst 0 (omega (arith, r.sized.forms)),
          ne_eqb (length src) 0 (λ z. omega arith),
          part_placed_same st (room * i) src fits_in,
        )

    others_stay : (j : ℕ) → j < places → (i ≡ j → ⊥) → path_in (changed b i (bearing b k (length src) pst) f) (placed st (room * i) src) j ≡ path_in b st j
    unfolding octets_at
    others_stay j m d =
        let o = (proper_sound b r.proper j m).size.most in
        rw (
          get_or-set_other b.lengths i j (length src) 0 (λ e. d (sym e)),
          get_or-set_other b.forms i j pst 0 (λ e. d (sym e)),
          part_placed_other st (room * i) src (room * j) (length_at b j) fits_in (omega (arith, r.enough)) (⊎_elim (λ q. inr (omega arith)) (λ q. inl (omega arith)) (apart i j d)),
        )

  report_fits : (i : ℕ) → i < places → Proper (changed b i (bearing b k (length src) pst) (floor_after b k i)) → ReportPlace b k i
      → Fits b st (placed st (room * i) src) (sets k (record { form = pst; octets = src })) i (length src) pst (floor_after b k i)
  report_fits i l p (keeps y) =
      let f = floor_keeps b k i y.key in
      record {
        proper = p;
        place = l;
        low = k-low;
        alone = λ j m d q. d (r.proper.keys_distinct i j l m (λ z. omega (arith, y.key)) (y.key ∙ sym q));
        rises = omega arith;
        dropped = λ u z. absurd (z y.key);
        body = body_new i l (floor_after b k i);
        store = length_placed st (room * i) src (fits_in i l 0);
        others = others_stay i l (floor_after b k i);
      }
  report_fits i l p (takes n y) =
      let f = floor_takes b k i y.empty in
      record {
        proper = p;
        place = l;
        low = k-low;
        alone = λ j m d q. n j m q;
        rises = omega arith;
        dropped = λ u z. absurd (u y.empty);
        body = body_new i l (floor_after b k i);
        store = length_placed st (room * i) src (fits_in i l 0);
        others = others_stay i l (floor_after b k i);
      }
  report_fits i l p (drops n z y) =
      let f = floor_drops b k i (z i l) (n i l) in
      record {
        proper = p;
        place = l;
        low = k-low;
        alone = λ j m d q. n j m q;
        rises = omega (arith, r.proper.removal_above i l y.removal);
        dropped = λ u q. (y.removal.bare, omega arith);
        body = body_new i l (floor_after b k i);
        store = length_placed st (room * i) src (fits_in i l 0);
        others = others_stay i l (floor_after b k i);
      }

  -- the table after it
  abbrev after : Table
  after = changed b (target_of b k) (bearing b k (length src) pst) (floor_after b k (target_of b k))

  pub stands_report : target_of b k < places → Proper after → StandsFor after (placed st (room * target_of b k) src) (did (sets k (record { form = pst; octets = src })) h)
  stands_report l p =
      stands_changed b st (placed st (room * target_of b k) src) h (sets k (record { form = pst; octets = src })) (target_of b k) (length src) pst (floor_after b k (target_of b k)) r
      (report_fits (target_of b k) l p (report_place_is b k l))

-- ---- a removal

module _ (b : Table) (st : List ℕ) (h : Story) (k : ℕ) (r : StandsFor b st h) (y : KeyPlace b k (place_of b k)) (k-low : key_least ≤ k) (p : Proper (removed b k)) where
  remove_fits : Fits b st st (clears k) (place_of b k) 0 0 b.floor
  unfolding octets_at removed
  remove_fits =
      record {
        proper = p;
        place = y.here;
        low = k-low;
        alone = λ j m d q. d (r.proper.keys_distinct (place_of b k) j y.here m (λ z. omega (arith, y.key)) (y.key ∙ sym q));
        rises = omega arith;
        dropped = λ v z. absurd (z y.key);
        body = rw (get_or-set_same b.lengths (place_of b k) 0 0 (omega (arith, r.sized.lengths, y.here)));
        store = refl;
        others = λ j m d.
            rw (get_or-set_other b.lengths (place_of b k) j 0 0 (λ e. d (sym e)), get_or-set_other b.forms (place_of b k) j 0 0 (λ e. d (sym e)));
      }

  pub stands_remove : StandsFor (removed b k) st (did (clears k) h)
  unfolding removed
  stands_remove = stands_changed b st st h (clears k) (place_of b k) 0 0 b.floor r remove_fits
