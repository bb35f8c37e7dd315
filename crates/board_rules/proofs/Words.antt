-- The answers in the paper's words: the place that a call uses is the one that the paper describes, whichever way it was found. Assumes nothing.
use Prim.Native.Nat.{ℕ, ◌<◌, ◌≤◌}
use native.Mathlib.Omega.{arith}
use mathlib.Core.Path.{◌≡◌}
use mathlib.Core.Bool.{true}
use mathlib.Core.List.{List}
use mathlib.Core.Logic.{◌⊎◌, ⊎_elim}
use lib.ListN.{length}
use borrow.Author.Tests.{eq-eqb, lt-ltb, le-ltb}
use Rattle.answers.specs.Verdicts.{accepted_with}
use Rattle.board_record.specs.Sizes.{places, key_least, key_most}
use Rattle.board_record.specs.Table.{Table, form_at, PathAt, bearing, changed}
use Rattle.board_record.specs.Search.{KeyPlace, place_of, ReportPlace, keeps, takes, drops, target_of, floor_after, Wanted, NextChange, next_of}
use Rattle.board_record.specs.Proper.{Proper}
use Rattle.board_record.proofs.Logic.{from?}
use Rattle.board_record.proofs.Search.{key_place_found, report_place_is, report_place_one, Full, full_is, next_is, next_none, next_one}
use Rattle.board_rules.specs.Handed.{Level}
use Rattle.board_rules.specs.Rules.{has_path}
use Rattle.board_rules.specs.Report.{body_in, reported}
use Rattle.board_rules.specs.Remove.{removed}
use Rattle.board_rules.specs.Body.{body_rules, body_number, octets_at, body_of, body_form}
use Rattle.board_rules.specs.Next.{next_verdict, change_at, handed_at, next_answer}
use Rattle.board_rules.proofs.Verdicts.{IsBoard, range_is, whole_board, path_has}

-- ---- report: "A key on the table, path or removal, keeps its place"; "A new key takes the lowest empty place; with none, that of the oldest removal"
no_place_full : (b : Table) (k i : ℕ) → Full b k → ReportPlace b k i → ⊥
no_place_full b k i f (keeps x) = f.new i x.here x.key
no_place_full b k i f (takes n x) = (f.paths i x.here).used x.empty
no_place_full b k i f (drops n u x) = (f.paths i x.here).body x.removal.bare

pub report_goes : (b : Table) → Proper b → (k i : ℕ) → (k ≡ 0 → ⊥) → ReportPlace b k i → target_of b k ≡ i
report_goes b p k i z r =
    ⊎_elim (λ l. absurd (no_place_full b k i (full_is b k l) r)) (λ l. report_place_one b p k (target_of b k) i z (report_place_is b k l) r) (from? 128 (target_of b k))

pub report_stores : (b : Table)
    → Proper b
    → (k i : ℕ) (octets : List ℕ) (pst : ℕ)
    → (k ≡ 0 → ⊥)
    → ReportPlace b k i
    → reported b k octets pst ≡ changed b i (bearing b k (length (body_in octets)) pst) (floor_after b k i)
unfolding reported
report_stores b p k i octets pst z r = rw (report_goes b p k i z r)

-- ---- remove: "The removal stays as a mark", at the key's place
pub remove_marks : (b : Table) → Proper b → (k i : ℕ) → (k ≡ 0 → ⊥) → KeyPlace b k i → removed b k ≡ changed b i (bearing b k 0 0) b.floor
unfolding removed
remove_marks b p k i z x = rw (key_place_found b p k i z x)

-- ---- body: "The path's octets are handed back"
module _ (b : Table) (store : List ℕ) (k i : ℕ) (w : IsBoard b (length store)) (low : key_least ≤ k) (high : k ≤ key_most) (x : KeyPlace b k i) (y : PathAt b i) where
  found : place_of b k ≡ i
  found = key_place_found b w.proper k i (λ z. omega arith) x

  has : has_path b k ≡ true
  has = path_has b w.proper k i (λ z. omega arith) x y

  pub body_accepted : body_number b store k ≡ accepted_with 0
  unfolding body_number body_rules
  body_accepted = rw (whole_board b (length store) w, range_is k low high, has)

  pub body_handed : body_of b store k ≡ octets_at b store i
  unfolding body_of
  body_handed = rw (body_accepted, found)

  pub form_handed : body_form b store k ≡ form_at b i
  unfolding body_form
  form_handed = rw (body_accepted, found)

-- ---- next: "the change of smallest version above w that is a path, or is a removal above s; or level with the board's version"
module _ (b : Table) (store : List ℕ) (s w : ℕ) (z : (next_verdict b store s w).number ≡ 0) where
  pub next_hands : Proper b → (i : ℕ) → NextChange b s w i → next_answer b store s w ≡ change_at b i
  unfolding next_answer handed_at
  next_hands p i x = rw (eq-eqb (next_verdict b store s w).number 0 z, handed_at, at, lt-ltb i 128 x.here)
    where
      at : next_of b s w ≡ i
      at = ⊎_elim (λ l. absurd (next_none b s w l i x.here x.wanted)) (λ l. next_one b p s w (next_of b s w) i (next_is b s w l) x) (from? 128 (next_of b s w))

  pub next_level : ((i : ℕ) → i < places → Wanted b s w i → ⊥) → next_answer b store s w ≡ Level b.version
  unfolding next_answer handed_at
  next_level f = rw (eq-eqb (next_verdict b store s w).number 0 z, handed_at, le-ltb (next_of b s w) 128 none)
    where
      none : 128 ≤ next_of b s w
      none = ⊎_elim (λ l. l) (λ l. absurd (f (next_of b s w) l (next_is b s w l).wanted)) (from? 128 (next_of b s w))
