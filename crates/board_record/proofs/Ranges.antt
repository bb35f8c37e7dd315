-- A look at all places finds one exactly if there is one; and none where the range is empty. Assumes nothing.
use Prim.Native.Nat.{ℕ, ◌<◌}
use native.Mathlib.Omega.{arith}
use mathlib.Core.Path.{◌≡◌, refl}
use mathlib.Core.Bool.{Bool, true, false, not, ◌&&◌}
use lib.Dec.{eqb, leb}
use borrow.Author.Tests.{ne_eqb, eqb-false, lt-ltb, le-leb, ltb-true, leb-true, not-true}
use Rattle.octets.proofs.Said.{both_true}
use Rattle.board_record.specs.Sizes.{places}
use Rattle.board_record.specs.Table.{Table, key_at, version_at}
use Rattle.board_record.specs.Search.{MovedAt, moved_b, moved_in}
use Rattle.board_record.proofs.Looks.{any_of, any_where}

module _ (b : Table) (from to v : ℕ) where
  moved_at : (i : ℕ) → i < places → moved_b b.keys b.versions from to v i ≡ true → MovedAt b from to v i
  unfolding moved_b
  moved_at i l e =
      let p = both_true (not (eqb (key_at b i) 0) && leb from (key_at b i) && leb (key_at b i) to) _ e in
      let q = both_true (not (eqb (key_at b i) 0) && leb from (key_at b i)) _ p.0 in
      let r = both_true (not (eqb (key_at b i) 0)) _ q.0 in
      record {
        here = l;
        used = eqb-false (key_at b i) 0 (not-true (eqb (key_at b i) 0) r.0);
        least = leb-true from (key_at b i) r.1;
        most = leb-true (key_at b i) to q.1;
        after = ltb-true v (version_at b i) p.1;
      }

  at_moved : (i : ℕ) → MovedAt b from to v i → moved_b b.keys b.versions from to v i ≡ true
  unfolding moved_b
  at_moved i m = rw (ne_eqb (key_at b i) 0 m.used, le-leb from (key_at b i) m.least, le-leb (key_at b i) to m.most, lt-ltb v (version_at b i) m.after)

  pub moved_where : moved_in b.keys b.versions from to v ≡ true → (i : ℕ) × MovedAt b from to v i
  unfolding moved_in
  moved_where e = let y = any_where (moved_b b.keys b.versions from to v) 128 e in (y.0, moved_at y.0 y.1 y.2)

  pub where_moved : (i : ℕ) → MovedAt b from to v i → moved_in b.keys b.versions from to v ≡ true
  unfolding moved_in
  where_moved i m = any_of (moved_b b.keys b.versions from to v) 128 i m.here (at_moved i m)

  -- "a above b is "no""
  pub none_between : to < from → moved_in b.keys b.versions from to v ≡ false
  none_between l = go (moved_in b.keys b.versions from to v) refl
    where
      go : (x : Bool) → moved_in b.keys b.versions from to v ≡ x → x ≡ false
      go true e = let y = moved_where e in absurd (omega (arith, y.1.least, y.1.most))
      go false e = refl
