-- A read puts what it took right behind what was there.
use Rattle.std.proofs.Common.{◌≡◌, ◌∙◌, ap, sym, subst, ℕ, ◌+◌, ◌≤◌, List, ◌++◌, length, take, rules, Result, Ok, Err, IsOk, OnOk, length-take-le}
use Rattle.std.specs.Io.KnownBytes.{Consumes}
use Rattle.std.proofs.KnownBytes.{Consumes-trans}
use borrow.Rule.Slice.PartMut.{put_mid, post_of}
use lib.Seq.{take-append-add, take-append-le}
use Rattle.streams.proofs.Streams.read_full.Goals as goal

-- What holds of both calls, where the later one went well, as the earlier one then did.
onward : {A B E : Type 0} {P Q R : Type 0} (r : Result A E) (s : Result B E) → OnOk r P → OnOk s Q → OnOk s (IsOk r) → (P → Q → R) → OnOk s R
onward (Ok a) (Ok b) p q k f = f p q
onward (Err e) (Ok b) p q k f = absurd cc
onward r (Err e) p q k f = tt

behind : (a k n : ℕ) (xs ys : List ℕ) → a ≤ length xs → n ≤ length ys → take a xs ++ take n ys ≡ take (a + n) (put_mid a k xs ys)
behind a k n xs ys within fits =
    let e : length (take a xs) ≡ a = length-take-le a xs within in
    let after = post_of a k xs in
    sym ((rw e at (take-append-add (take a xs) (ys ++ after) n)) ∙ ap (λ l. take a xs ++ l) (take-append-le n ys after fits))

pub loop-done-preserved : goal.loop-done-preserved
loop-done-preserved g c =
    let i = c.loop-done.invariant in
    let r = c.read-n.ensures in
    let before = c.loop-done.self.failed in
    let after = c.read-n.new.self.failed in (
      search rules,
      search rules,
      search rules,
      onward before after i.3 r.octets r.kept (λ p q. subst (Consumes _ _) (behind _ _ _ _ _ i.0 r.within) (Consumes-trans _ _ _ _ _ p q)),
      onward before after i.4 r.kept r.kept (λ p q. p),
    )
