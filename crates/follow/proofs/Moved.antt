-- Yes exactly if some key of the range had its last change after v: a used place has its key's last change, and a key whose last change is above v, and so above the floor, has a
-- place. Assumes nothing.
use Prim.Native.Nat.{ℕ, ◌≤◌, ◌<◌}
use native.Mathlib.Omega.{arith}
use mathlib.Core.Path.{◌≡◌, refl, sym, ap, ◌∙◌}
use mathlib.Core.List.{List}
use mathlib.Core.Bool.{Bool, true, false}
use mathlib.Core.Logic.{◌⊎◌, inl, inr, ⊎_elim}
use mathlib.Core.Option.{none}
use lib.ListN.{length}
use Rattle.answers.specs.declared.verdict.Verdict.{Verdict}
use Rattle.answers.specs.Numbers.{mark_too_old, mark_ahead}
use Rattle.answers.specs.Verdicts.{refused_by, accepted_with}
use Rattle.board_record.specs.Sizes.{places}
use Rattle.board_record.specs.Table.{Table, key_at}
use Rattle.board_record.specs.Search.{MovedAt, moved_in}
use Rattle.board_record.proofs.Logic.{true≢false, from?}
use Rattle.board_record.proofs.Ranges.{moved_where, where_moved}
use Rattle.board_rules.specs.Moved.{moved_answer}
use Rattle.board_rules.proofs.Verdicts.{IsBoard}
use Rattle.board_rules.proofs.Moves.{moved_ahead, moved_too_old, moved_yes, moved_no}
use Rattle.follow.specs.Story.{Story, version, held, last}
use Rattle.follow.specs.Floor.{floor_of}
use Rattle.follow.specs.Run.{World, start, run}
use Rattle.follow.specs.Moved.{Changed, MovedSaid, MovedIsTheStorys}
use Rattle.follow.proofs.Table.{StandsFor}
use Rattle.follow.proofs.Theorem.{Good, good_run, good_start}

-- ---- the table against the story
module _ (b : Table) (store : List ℕ) (h : Story) (r : StandsFor b store h) (from to v : ℕ) where
  place_changed : (i : ℕ) → MovedAt b from to v i → Changed h from to v
  place_changed i m = record { key = key_at b i; least = m.least; most = m.most; after = omega (arith, m.after, (r.here i m.here m.used).0) }

  changed_place : b.floor ≤ v → Changed h from to v → (i : ℕ) × MovedAt b from to v i
  changed_place f c = go (r.there c.key (omega (arith, c.after)))
    where
      go : ((i : ℕ) × (i < places) × (key_at b i ≡ c.key)) ⊎ ((held h c.key ≡ none) × (last h c.key ≤ b.floor)) → (i : ℕ) × MovedAt b from to v i
      go (inl y) =
          let u : key_at b y.0 ≡ 0 → ⊥ = λ z. omega (arith, c.after, r.zero_not, ap (last h) (sym y.2 ∙ z)) in (
            y.0,
            record {
              here = y.1;
              used = u;
              least = omega (arith, y.2, c.least);
              most = omega (arith, y.2, c.most);
              after = omega (arith, c.after, (r.here y.0 y.1 u).0, ap (last h) y.2);
            },
          )
      go (inr y) = absurd (omega (arith, c.after, y.1))

-- ---- the answer
pub data Told (h : Story) (from to v : ℕ) (a : Verdict) : Type 0 where
  ahead : version h < v → a ≡ refused_by mark_ahead 0 → Told h from to v a
  old : v ≤ version h → v < floor_of h → a ≡ refused_by mark_too_old 0 → Told h from to v a
  moved : v ≤ version h → floor_of h ≤ v → Changed h from to v → a ≡ accepted_with 1 → Told h from to v a
  still : v ≤ version h → floor_of h ≤ v → (Changed h from to v → ⊥) → a ≡ accepted_with 0 → Told h from to v a

numbers : {a p q : Verdict} → a ≡ p → a ≡ q → p.number ≡ q.number
numbers e f = ap (λ (y : Verdict). y.number) (sym e ∙ f)

counts : {a p q : Verdict} → a ≡ p → a ≡ q → p.count ≡ q.count
counts e f = ap (λ (y : Verdict). y.count) (sym e ∙ f)

said_of : (h : Story) (from to v : ℕ) (a : Verdict) → Told h from to v a → MovedSaid h from to v a
said_of h from to v a (ahead l e) =
    record {
      ahead = (λ q. l, λ q. e);
      too_old = (λ q. absurd (omega (arith, numbers e q)), λ q. absurd (omega (arith, q.0)));
      yes = (λ q. absurd (omega (arith, numbers e q)), λ q. absurd (omega (arith, q.0)));
      no = (λ q. absurd (omega (arith, numbers e q)), λ q. absurd (omega (arith, q.0)));
    }
said_of h from to v a (old l m e) =
    record {
      ahead = (λ q. absurd (omega (arith, numbers e q)), λ q. absurd (omega arith));
      too_old = (λ q. (l, m), λ q. e);
      yes = (λ q. absurd (omega (arith, numbers e q)), λ q. absurd (omega (arith, q.1)));
      no = (λ q. absurd (omega (arith, numbers e q)), λ q. absurd (omega (arith, q.1)));
    }
said_of h from to v a (moved l m c e) =
    record {
      ahead = (λ q. absurd (omega (arith, numbers e q)), λ q. absurd (omega arith));
      too_old = (λ q. absurd (omega (arith, numbers e q)), λ q. absurd (omega (arith, q.1)));
      yes = (λ q. (l, m, c), λ q. e);
      no = (λ q. absurd (omega (arith, counts e q)), λ q. absurd (q.2 c));
    }
said_of h from to v a (still l m f e) =
    record {
      ahead = (λ q. absurd (omega (arith, numbers e q)), λ q. absurd (omega arith));
      too_old = (λ q. absurd (omega (arith, numbers e q)), λ q. absurd (omega (arith, q.1)));
      yes = (λ q. absurd (omega (arith, counts e q)), λ q. absurd (f q.2));
      no = (λ q. (l, m, f), λ q. e);
    }

pub moved_said : (x : World) → Good x → (from to v : ℕ) → MovedSaid x.story from to v (moved_answer x.table x.store from to v)
moved_said x g from to v = said_of x.story from to v (moved_answer x.table x.store from to v) (⊎_elim inside above (from? v x.table.version))
  where
    whole : IsBoard x.table (length x.store)
    whole = record { store = g.stands.enough; proper = g.stands.proper }

    above : x.table.version < v → Told x.story from to v (moved_answer x.table x.store from to v)
    above l = ahead (omega (arith, g.stands.version_is)) (moved_ahead x.table x.store from to v whole l)

    inside : v ≤ x.table.version → Told x.story from to v (moved_answer x.table x.store from to v)
    inside l = ⊎_elim looks below (from? x.table.floor v)
      where
        below : v < x.table.floor → Told x.story from to v (moved_answer x.table x.store from to v)
        below m = old (omega (arith, g.stands.version_is)) (omega (arith, g.floor_is)) (moved_too_old x.table x.store from to v whole l m)

        looks : x.table.floor ≤ v → Told x.story from to v (moved_answer x.table x.store from to v)
        looks m = go (moved_in x.table.keys x.table.versions from to v) refl
          where
            go : (y : Bool) → moved_in x.table.keys x.table.versions from to v ≡ y → Told x.story from to v (moved_answer x.table x.store from to v)
            go true e =
                let w = moved_where x.table from to v e in
                moved (omega (arith, g.stands.version_is)) (omega (arith, g.floor_is)) (place_changed x.table x.store x.story g.stands from to v w.0 w.1)
                (moved_yes x.table x.store from to v whole l m w.0 w.1)
            go false e =
                let f : (i : ℕ) → MovedAt x.table from to v i → ⊥ = λ i w. true≢false (sym (where_moved x.table from to v i w) ∙ e) in
                still (omega (arith, g.stands.version_is)) (omega (arith, g.floor_is))
                (λ c. let w = changed_place x.table x.store x.story g.stands from to v m c in f w.0 w.1)
                (moved_no x.table x.store from to v whole l m f)

pub moved_is_the_storys : MovedIsTheStorys
moved_is_the_storys b store followers g acts from to v =
    let x = start b store followers in
    moved_said (run x acts) (good_run x acts (good_start b store followers g)) from to v
