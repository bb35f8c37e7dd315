-- The body call hands out what the story says is held. Assumes nothing.
use Prim.Native.Nat.{ℕ, ◌≤◌, ◌<◌}
use native.Mathlib.Omega.{arith}
use mathlib.Core.Path.{◌≡◌, sym, ap, ◌∙◌}
use mathlib.Core.Bool.{false, not, ◌&&◌}
use mathlib.Core.List.{List}
use mathlib.Core.Option.{none, some}
use mathlib.Core.Logic.{◌⊎◌, ⊎_elim}
use lib.Dec.{eqb, ltb}
use borrow.Author.Tests.{eq-eqb, ne_eqb, lt-ltb, le-ltb}
use Rattle.answers.specs.Numbers.{key_out_of_range, no_path}
use Rattle.answers.specs.Verdicts.{refused_by, accepted_with}
use Rattle.board_record.specs.Sizes.{places, key_least, key_most}
use Rattle.board_record.specs.Table.{Table, key_at, length_at, Used}
use Rattle.board_record.specs.Search.{place_of}
use Rattle.board_record.proofs.Logic.{from?}
use Rattle.board_record.proofs.Proper.{proper_sound}
use Rattle.board_record.proofs.Search.{key_place_is, key_place_found}
use Rattle.board_rules.specs.Rules.{in_range, has_path}
use Rattle.board_rules.proofs.Verdicts.{range_passed, range_is}
use Rattle.board_rules.specs.Body.{body_rules, body_number, body_of, body_form}
use Rattle.follow.specs.Story.{HeldPath, path_at, Story, held, last}
use Rattle.follow.specs.Run.{World, start, run}
use Rattle.follow.specs.Promise.{BodyGiven, BodiesAreThoseHeld}
use Rattle.follow.proofs.Cases.{some≢none, some_one, not_true_is_false}
use Rattle.follow.proofs.Begun.{path_in, path_mark, path_there}
use Rattle.follow.proofs.Keeps.{none_yet}
use Rattle.follow.proofs.Table.{StandsFor, path_none}
use Rattle.follow.proofs.Theorem.{Good, is_board_lem, good_run, good_start}

-- a key that is held has a place of its own, with that path
pub record Kept (b : Table) (store : List ℕ) (k : ℕ) (path : HeldPath) : Type 0 where
  pub place : place_of b k < places
  pub low : key_least ≤ k
  pub high : k ≤ key_most
  pub long : length_at b (place_of b k) ≡ 0 → ⊥
  pub path_is : path_at b store (place_of b k) ≡ path

pub kept_at : (b : Table) (store : List ℕ) (h : Story) (k : ℕ) (path : HeldPath) → StandsFor b store h → held h k ≡ some path → Kept b store k path
kept_at b store h k path r e = ⊎_elim there (λ y. absurd (some≢none path (sym e ∙ y.0))) (r.there k changed)
  where
    changed : 0 < last h k
    changed = ⊎_elim (λ l. absurd (some≢none path (sym e ∙ none_yet h r.ordered k l))) (λ l. l) (from? (last h k) 0)

    there : (i : ℕ) × (i < places) × (key_at b i ≡ k) → Kept b store k path
    there y =
        let u : Used b y.0 = λ z. omega (arith, changed, r.zero_not, ap (last h) (sym y.2 ∙ z)) in
        let q : place_of b k ≡ y.0 = key_place_found b r.proper k y.0 (λ z. u (y.2 ∙ z)) (record { here = y.1; key = y.2 }) in
        let o : path_in b store y.0 ≡ some path = sym (r.here y.0 y.1 u).1 ∙ ap (held h) y.2 ∙ e in
        let n : length_at b y.0 ≡ 0 → ⊥ = λ z. some≢none path (sym o ∙ path_mark b store y.0 z) in
        record {
          place = omega (arith, y.1);
          low = omega (arith, u, y.2);
          high = omega (arith, (proper_sound b r.proper y.0 y.1).key, y.2);
          long = λ z. n (ap (length_at b) (sym q) ∙ z);
          path_is = ap (path_at b store) q ∙ some_one (path_at b store y.0) path (sym (path_there b store y.0 n) ∙ o);
        }

-- a key that is not held has no place, or that of a removal
pub without_path : (b : Table) (store : List ℕ) (h : Story) (k : ℕ) → StandsFor b store h → key_least ≤ k → held h k ≡ none → has_path b k ≡ false
unfolding has_path
without_path b store h k r low e = ⊎_elim (λ l. rw (le-ltb (place_of b k) places l)) at_place (from? places (place_of b k))
  where
    at_place : place_of b k < places → ltb (place_of b k) places && not (eqb (length_at b (place_of b k)) 0) ≡ false
    at_place l =
        let y = key_place_is b k l in
        let g = r.here (place_of b k) l (λ z. omega (arith, y.key)) in
        let n : length_at b (place_of b k) ≡ 0 = path_none b store (place_of b k) (sym g.1 ∙ ap (held h) y.key ∙ e) in
        rw (lt-ltb (place_of b k) places l, eq-eqb (length_at b (place_of b k)) 0 n)

range_not : (k : ℕ) → (key_least ≤ k → k ≤ key_most → ⊥) → in_range k ≡ false
range_not k o = not_true_is_false (in_range k) (λ e. let p = range_passed k (ap not e) in o p.0 p.1)

body_given : (x : World) → Good x → (k : ℕ)
    → BodyGiven x.story k (body_number x.table x.store k) (body_of x.table x.store k) (body_form x.table x.store k)
unfolding body_number body_rules has_path body_of body_form
body_given x g k = record {
  path = λ path e.
      let b = x.table in
      let y = kept_at b x.store x.story k path g.stands e in
      let n : body_number b x.store k ≡ accepted_with 0 =
      rw (is_board_lem x g, range_is k y.low y.high, lt-ltb (place_of b k) places y.place, ne_eqb (length_at b (place_of b k)) 0 y.long) in
      (n, rw n (ap (λ (p : HeldPath). p.octets) y.path_is), rw n (ap (λ (p : HeldPath). p.form) y.path_is));
  without_path = λ e l m.
      let n : body_number x.table x.store k ≡ refused_by no_path 0 =
      rw (is_board_lem x g, range_is k l m, without_path x.table x.store x.story k g.stands l e) in
      (n, rw n, rw n);
  no_key = λ o.
      let n : body_number x.table x.store k ≡ refused_by key_out_of_range 0 = rw (is_board_lem x g, range_not k o) in
      (n, rw n, rw n);
}

pub bodies_are_those_held : BodiesAreThoseHeld
bodies_are_those_held b store followers g acts k =
    body_given (run (start b store followers) acts) (good_run (start b store followers) acts (good_start b store followers g)) k
