-- A change at one place leaves a proper table: the place that changes is sound by what is asked of its entry, every other as it was; the new key and
-- the new version stand at no other place. Assumes nothing.
use Prim.Native.Nat.{ℕ, ◌<◌, ◌≤◌}
use native.Mathlib.Omega.{arith}
use mathlib.Core.Path.{◌≡◌, sym, ap, ◌∙◌}
use mathlib.Core.Logic.{◌⊎◌, ⊎_elim}
use lib.ListN.{get_or, set, length, length-set}
use lib.Seq.{get_or-set_same, get_or-set_other}
use Rattle.board_record.specs.Sizes.{places, key_least, key_most, version_most}
use Rattle.board_record.specs.Table.{Table, ListsWhole, key_at, version_at, length_at, form_at, entry_at, Entry, Used, RemovalAt, changed}
use Rattle.board_record.specs.Proper.{Proper}
use Rattle.board_record.proofs.Logic.{same?}
use Rattle.board_record.proofs.Proper.{Storable, Sound, proper_sound, sound_proper}

pub changed_sized : (b : Table) (i : ℕ) (e : Entry) (f : ℕ) → ListsWhole b → ListsWhole (changed b i e f)
changed_sized b i e f s =
    record {
      keys = length-set b.keys i e.key ∙ s.keys;
      versions = length-set b.versions i e.version ∙ s.versions;
      lengths = length-set b.lengths i e.length ∙ s.lengths;
      forms = length-set b.forms i e.form ∙ s.forms;
    }

-- when a change of place i to the entry e, with the floor f after it, keeps a table proper
pub record FittingEntry (b : Table) (i : ℕ) (e : Entry) (f : ℕ) : Type 0 where
  pub here : i < places
  pub low : key_least ≤ e.key
  pub high : e.key ≤ key_most
  pub size : Storable e.length e.form
  pub newer : b.version < e.version
  pub version_in : e.version ≤ version_most
  pub floor : f ≤ b.version
  pub only : (j : ℕ) → j < places → (j ≡ i → ⊥) → key_at b j ≡ e.key → ⊥
  pub marks : (j : ℕ) → j < places → (j ≡ i → ⊥) → RemovalAt b j → f < version_at b j

module _ (b : Table) (i : ℕ) (e : Entry) (f : ℕ) (s : ListsWhole b) where
  -- the table after it
  abbrev b' : Table
  b' = changed b i e f

  pub key_same : (j : ℕ) → i < places → j ≡ i → key_at (changed b i e f) j ≡ e.key
  key_same j l q = ap (λ (x : ℕ). get_or (set b.keys i e.key) x 0) q ∙ get_or-set_same b.keys i e.key 0 (omega (arith, s.keys))

  pub key_other : (j : ℕ) → (j ≡ i → ⊥) → key_at (changed b i e f) j ≡ key_at b j
  key_other j d = get_or-set_other b.keys i j e.key 0 d

  pub version_same : (j : ℕ) → i < places → j ≡ i → version_at (changed b i e f) j ≡ e.version
  version_same j l q = ap (λ (x : ℕ). get_or (set b.versions i e.version) x 0) q ∙ get_or-set_same b.versions i e.version 0 (omega (arith, s.versions))

  pub version_other : (j : ℕ) → (j ≡ i → ⊥) → version_at (changed b i e f) j ≡ version_at b j
  version_other j d = get_or-set_other b.versions i j e.version 0 d

  pub length_same : (j : ℕ) → i < places → j ≡ i → length_at (changed b i e f) j ≡ e.length
  length_same j l q = ap (λ (x : ℕ). get_or (set b.lengths i e.length) x 0) q ∙ get_or-set_same b.lengths i e.length 0 (omega (arith, s.lengths))

  pub length_other : (j : ℕ) → (j ≡ i → ⊥) → length_at (changed b i e f) j ≡ length_at b j
  length_other j d = get_or-set_other b.lengths i j e.length 0 d

  pub form_same : (j : ℕ) → i < places → j ≡ i → form_at (changed b i e f) j ≡ e.form
  form_same j l q = ap (λ (x : ℕ). get_or (set b.forms i e.form) x 0) q ∙ get_or-set_same b.forms i e.form 0 (omega (arith, s.forms))

  pub form_other : (j : ℕ) → (j ≡ i → ⊥) → form_at (changed b i e f) j ≡ form_at b j
  form_other j d = get_or-set_other b.forms i j e.form 0 d

  pub changed_proper : Proper b → FittingEntry b i e f → Proper (changed b i e f)
  changed_proper p g = sound_proper b' (omega (arith, g.floor, g.newer)) g.version_in at keys versions
    where
      -- the place that changes
      mine : Sound e e.version f
      mine =
          record {
            none = λ y. absurd (omega (arith, g.low));
            key = g.high;
            low = λ y. omega (arith, g.newer);
            high = omega arith;
            mark = λ y z. omega (arith, g.floor, g.newer);
            size = g.size;
          }

      -- and every other
      theirs : (j : ℕ) → j < places → (j ≡ i → ⊥) → Sound (entry_at b j) e.version f
      theirs j l d =
          let o = proper_sound b p j l in
          record {
            none = o.none;
            key = o.key;
            low = o.low;
            high = omega (arith, o.high, g.newer);
            mark = λ y z. g.marks j l d (record { used = y; bare = z });
            size = o.size;
          }

      at : (j : ℕ) → j < places → Sound (entry_at b' j) e.version f
      at j l =
          ⊎_elim (λ q. rw (key_same j g.here q, version_same j g.here q, length_same j g.here q, form_same j g.here q) mine)
          (λ d. rw (key_other j d, version_other j d, length_other j d, form_other j d) (theirs j l d)) (same? j i)

      keys : (x y : ℕ) → x < places → y < places → Used b' x → key_at b' x ≡ key_at b' y → x ≡ y
      keys x y l m u q =
          ⊎_elim
          (λ xi. ⊎_elim (λ yi. xi ∙ sym yi) (λ yd. absurd (g.only y m yd (sym (key_other y yd) ∙ sym q ∙ key_same x g.here xi))) (same? y i))
          (λ xd. ⊎_elim (λ yi. absurd (g.only x l xd (sym (key_other x xd) ∙ q ∙ key_same y g.here yi)))
          (λ yd. p.keys_distinct x y l m (λ z. u (key_other x xd ∙ z)) (sym (key_other x xd) ∙ q ∙ key_other y yd)) (same? y i))
          (same? x i)

      -- an older version is not the newest
      apart : (x : ℕ) → x < places → version_at b x ≡ e.version → ⊥
      apart x l q = omega (arith, (proper_sound b p x l).high, g.newer)

      versions : (x y : ℕ) → x < places → y < places → Used b' x → version_at b' x ≡ version_at b' y → x ≡ y
      versions x y l m u q =
          ⊎_elim
          (λ xi. ⊎_elim (λ yi. xi ∙ sym yi) (λ yd. absurd (apart y m (sym (version_other y yd) ∙ sym q ∙ version_same x g.here xi))) (same? y i))
          (λ xd. ⊎_elim (λ yi. absurd (apart x l (sym (version_other x xd) ∙ q ∙ version_same y g.here yi)))
          (λ yd. p.versions_distinct x y l m (λ z. u (key_other x xd ∙ z)) (sym (version_other x xd) ∙ q ∙ version_other y yd)) (same? y i))
          (same? x i)
