-- A call's answer, from the octets that the line spells; a list laid behind the writer's part of the memory.
use Prim.Native.Nat.{ℕ, ◌-◌, ◌≤◌}
use mathlib.Core.Path.{◌≡◌, ◌∙◌}
use mathlib.Core.Bool.{Bool}
use mathlib.Core.List.{List}
use lib.ListN.{length, take, drop}
use lib.Seq.{take_at, drop_at, length-take-le}
use borrow.Rule.Slice.PartMut.{put_mid}
use Rattle.answers.specs.declared.verdict.Verdict.{Verdict}
use Rattle.octets.specs.Octets.{over}
use Rattle.octets.proofs.Laws.{rest_back}
use Rattle.session.specs.declared.Sessions.{Sessions}
use Rattle.route.specs.Picked.{Picked}
use Rattle.route_call.specs.Called.{judged_for, segment_for}
use Rattle.command_forms.specs.Forms.{most_size}
use Rattle.console_state.specs.State.{list_in}
use Rattle.console_state.proofs.Laws.{spelled}

pub judged_told : (ero : Bool) (sessions : Sessions) (pst : ℕ) (l : List ℕ) {x y : List ℕ} {v : Verdict} → x ≡ y → v ≡ judged_for x ero sessions pst l
    → v ≡ judged_for y ero sessions pst l
judged_told ero sessions pst l e g = g ∙ (λ i. judged_for (e i) ero sessions pst l)

pub picked_told : (ero : Bool) (sessions : Sessions) (pst : ℕ) (l : List ℕ) (k : ℕ) {x y : List ℕ} {p : Picked} → x ≡ y → p ≡ segment_for x ero sessions pst l k
    → p ≡ segment_for y ero sessions pst l k
picked_told ero sessions pst l k e g = g ∙ (λ i. segment_for (e i) ero sessions pst l k)

pub list_laid : (m y w z : List ℕ) {n : ℕ} → most_size ≤ length m → (n ≡ length w) × (y ≡ over w z)
    → (list_in (put_mid most_size (length m - most_size) m y) n ≡ w) × (take most_size (put_mid most_size (length m - most_size) m y) ≡ take most_size m)
unfolding list_in
list_laid m y w z {n} = go most_size
  where
    go : (a : ℕ) → a ≤ length m → (n ≡ length w) × (y ≡ over w z)
        → (take n (drop a (put_mid a (length m - a) m y)) ≡ w) × (take a (put_mid a (length m - a) m y) ≡ take a m)
    go a h e =
        let k = length-take-le a m h in
        (rw (rest_back m y a, drop_at (take a m) y a k) (spelled w z e), rw (rest_back m y a) (take_at (take a m) y a k))
