-- What a follower must hear, by cases (`Owed`): the promise says no less and no more. Of two that are owed both are refusals, changes or level, since each case shuts the others out; and the
-- oldest change that is lacked is one only. So any two answers that fit are equal. Assumes nothing.
use Prim.Native.Nat.{ℕ, ◌≤◌, ◌<◌, max}
use native.Mathlib.Omega.{arith}
use mathlib.Core.Path.{◌≡◌, refl, sym, ap, ◌∙◌}
use mathlib.Core.Logic.{◌⊎◌, ⊎_elim}
use Rattle.answers.specs.Numbers.{mark_too_old}
use Rattle.board_record.proofs.Logic.{from?}
use Rattle.follow.specs.Story.{Deed, sets, clears, Story, version, key_of, leaves, held, last}
use Rattle.follow.specs.Ordered.{Ordered, beginning_of}
use Rattle.follow.specs.Floor.{floor_of}
use Rattle.follow.specs.Follower.{Follower, Lacks, Oldest}
use Rattle.follow.specs.Heard.{Heard, refusal, change, level}
use Rattle.follow.specs.Promise.{Answered}
use Rattle.follow.proofs.Cases.{some≢none, some_one}
use Rattle.follow.proofs.Keeps.{last_one}

-- too old; or handed the oldest change that it lacks; or level, where it lacks none
pub data Owed (h : Story) (f : Follower) (a : Heard) : Type 0 where
  old : max f.s f.w < floor_of h → a ≡ refusal mark_too_old → Owed h f a
  next : floor_of h ≤ max f.s f.w → (c : Deed) (v : ℕ) → Oldest h f.s f.w (key_of c) v → leaves c ≡ held h (key_of c) → a ≡ change c v → Owed h f a
  done : floor_of h ≤ max f.s f.w → ((k : ℕ) → Lacks h f.s f.w k → ⊥) → ((k : ℕ) → f.holds k ≡ held h k) → a ≡ level (version h) → Owed h f a

-- ---- what is heard is one thing

refusal≢change : (n : ℕ) (c : Deed) (v : ℕ) → refusal n ≡ change c v → ⊥
refusal≢change n c v q = let z : ◌≡◌ {A = ℕ} 0 1 = cc in omega arith

refusal≢level : (n v : ℕ) → refusal n ≡ level v → ⊥
refusal≢level n v q = let z : ◌≡◌ {A = ℕ} 0 1 = cc in omega arith

change≢level : (c : Deed) (v w : ℕ) → change c v ≡ level w → ⊥
change≢level c v w q = let z : ◌≡◌ {A = ℕ} 0 1 = cc in omega arith

refusal_one : (n m : ℕ) → refusal n ≡ refusal m → n ≡ m
refusal_one n m q = cc

level_one : (n m : ℕ) → level n ≡ level m → n ≡ m
level_one n m q = cc

change_one : (c d : Deed) (v w : ℕ) → change c v ≡ change d w → (c ≡ d) × (v ≡ w)
change_one c d v w q = (cc, cc)

-- ---- the promise from the cases, and the cases from the promise

pub answered_of : (h : Story) (f : Follower) (a : Heard) → Owed h f a → Answered h f a
answered_of h f a (old l e) = record {
  too_old = (λ q. l, λ q. e);
  no_other = λ n q. refusal_one n mark_too_old (sym q ∙ e);
  handed = λ c v q. absurd (refusal≢change mark_too_old c v (sym e ∙ q));
  level_if = λ v. (λ q. absurd (refusal≢level mark_too_old v (sym e ∙ q)), λ q. absurd (omega (arith, q.1)));
  holds_all = λ v q. absurd (refusal≢level mark_too_old v (sym e ∙ q));
}
answered_of h f a (next l c v o b e) = record {
  too_old = (λ q. absurd (refusal≢change mark_too_old c v (sym q ∙ e)), λ q. absurd (omega arith));
  no_other = λ n q. absurd (refusal≢change n c v (sym q ∙ e));
  handed = λ d w q. let p = change_one c d v w (sym e ∙ q) in rw (← p.0, ← p.1) (o, b);
  level_if = λ w. (λ q. absurd (change≢level c v w (sym e ∙ q)), λ q. absurd (q.2 (key_of c) o.lacked));
  holds_all = λ w q. absurd (change≢level c v w (sym e ∙ q));
}
answered_of h f a (done l n b e) = record {
  too_old = (λ q. absurd (refusal≢level mark_too_old (version h) (sym q ∙ e)), λ q. absurd (omega arith));
  no_other = λ m q. absurd (refusal≢level m (version h) (sym q ∙ e));
  handed = λ c v q. absurd (change≢level c v (version h) (sym q ∙ e));
  level_if = λ v. (λ q. (level_one v (version h) (sym q ∙ e), l, n), λ q. e ∙ ap level (sym q.0));
  holds_all = λ v q. b;
}

pub owed_of : (h : Story) (f : Follower) (a : Heard) → Answered h f a → Owed h f a
owed_of h f (refusal n) r = let e : refusal n ≡ refusal mark_too_old = ap refusal (r.no_other n refl) in old (r.too_old.0 e) e
owed_of h f (change c v) r =
    ⊎_elim (λ l. next l c v (r.handed c v refl).0 (r.handed c v refl).1 refl) (λ l. absurd (refusal≢change mark_too_old c v (sym (r.too_old.1 l))))
    (from? (floor_of h) (max f.s f.w))
owed_of h f (level v) r = let p = (r.level_if v).0 refl in done p.1 p.2 (r.holds_all v refl) (ap level p.0)

-- ---- any two answers that fit are equal

-- a change is its key and its body
change_is : (c d : Deed) → key_of c ≡ key_of d → leaves c ≡ leaves d → c ≡ d
change_is (sets k x) (sets j y) p q = rw (p, some_one x y q)
change_is (sets k x) (clears j) p q = absurd (some≢none x q)
change_is (clears k) (sets j y) p q = absurd (some≢none y (sym q))
change_is (clears k) (clears j) p q = ap clears p

-- the oldest lacked is one change
oldest_one : (h : Story) → Ordered (beginning_of h) → (s w j k u v : ℕ) → Oldest h s w j u → Oldest h s w k v → j ≡ k
oldest_one h o s w j k u v x y = last_one h o j k (omega (arith, x.first k y.lacked, y.first j x.lacked)) (omega (arith, x.lacked.newer))

owed_one : (h : Story) → Ordered (beginning_of h) → (f : Follower) (a d : Heard) → Owed h f a → Owed h f d → a ≡ d
owed_one h i f a d (old l e) (old m q) = e ∙ sym q
owed_one h i f a d (old l e) (next m c v o b q) = absurd (omega arith)
owed_one h i f a d (old l e) (done m n b q) = absurd (omega arith)
owed_one h i f a d (next l c v o b e) (old m q) = absurd (omega arith)
owed_one h i f a d (next l c v o b e) (next m c' v' o' b' q) =
    let k = oldest_one h i f.s f.w (key_of c) (key_of c') v v' o o' in
    let y : c ≡ c' = change_is c c' k (b ∙ ap (held h) k ∙ sym b') in
    let z : v ≡ v' = sym o.bears ∙ ap (last h) k ∙ o'.bears in
    e ∙ ap (λ (x : Deed). change x v) y ∙ ap (change c') z ∙ sym q
owed_one h i f a d (next l c v o b e) (done m n b' q) = absurd (n (key_of c) o.lacked)
owed_one h i f a d (done l n b e) (old m q) = absurd (omega arith)
owed_one h i f a d (done l n b e) (next m c v o b' q) = absurd (n (key_of c) o.lacked)
owed_one h i f a d (done l n b e) (done m n' b' q) = e ∙ sym q

pub answered_determined : (h : Story) → Ordered (beginning_of h) → (f : Follower) (a d : Heard) → Answered h f a → Answered h f d → a ≡ d
answered_determined h i f a d x y = owed_one h i f a d (owed_of h f a x) (owed_of h f d y)
