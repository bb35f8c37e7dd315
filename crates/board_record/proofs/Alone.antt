-- A table all of whose paths have SRv6's form is proper exactly if document 01 by itself calls it proper: part by part; of two places with one key or one version, being apart and
-- being the same are compared. Assumes nothing.
use Prim.Native.Nat.{ℕ, ◌<◌}
use native.Mathlib.Omega.{arith}
use mathlib.Core.Path.{◌≡◌, ◌∙◌}
use mathlib.Core.Bool.{true}
use mathlib.Core.Logic.{◌⊎◌, inl, ⊎_elim}
use Rattle.board_record.specs.Sizes.{body_least}
use Rattle.board_record.specs.Table.{Table, version_at, form_at, Used, PathAt}
use Rattle.board_record.specs.Proper.{Proper, proper_b}
use Rattle.board_record.specs.Alone.{ProperAlone, FormsAlone}
use Rattle.board_record.proofs.Logic.{same?}
use Rattle.board_record.proofs.Proper.{proper_is, is_proper}

srv6_least : (form : ℕ) → form ≡ 3 → body_least form ≡ 24
unfolding body_least
srv6_least form e = rw e

-- ---- document 01 by itself, from what both documents say
pub proper_alone : (b : Table) → ((i : ℕ) → i < 128 → PathAt b i → form_at b i ≡ 3) → Proper b → ProperAlone b × FormsAlone b
proper_alone b f p = (
  record {
    keys_in_range = λ i l u. (p.least_key i l u, p.most_key i l u);
    keys_distinct = λ i j l m u v d e. d (p.keys_distinct i j l m u e);
    versions_distinct = λ i j l m u v d e. d (p.versions_distinct i j l m u e);
    versions_in_range = λ i l u. (p.least_version i l u, p.most_version i l u);
    removals_above = p.removal_above;
    floor_in = p.floor_in;
    version_in = p.version_in;
    lengths = λ i l y. (p.length_unit i l y, (rw (srv6_least (form_at b i) (f i l y)) at (p.length_least i l y), p.length_most i l y));
    empty = λ i l e. (p.empty_version i l e, p.empty_length i l e);
  },
  record { paths = f; removals = p.removal_form; empty = p.empty_form },
)

-- ---- and back
pub alone_proper : (b : Table) → FormsAlone b → ProperAlone b → Proper b
alone_proper b f p =
    record {
      least_key = λ i l u. (p.keys_in_range i l u).0;
      most_key = λ i l u. (p.keys_in_range i l u).1;
      keys_distinct = λ i j l m u e. ⊎_elim (λ s. s) (λ d. absurd (p.keys_distinct i j l m u (λ z. u (e ∙ z)) d e)) (same? i j);
      versions_distinct = λ i j l m u e. ⊎_elim (λ s. s) (λ d. absurd (p.versions_distinct i j l m u (born i j l m u e) d e)) (same? i j);
      least_version = λ i l u. (p.versions_in_range i l u).0;
      most_version = λ i l u. (p.versions_in_range i l u).1;
      removal_above = p.removals_above;
      floor_in = p.floor_in;
      version_in = p.version_in;
      length_unit = λ i l y. (p.lengths i l y).0;
      length_least = λ i l y. rw (srv6_least (form_at b i) (f.paths i l y)) (p.lengths i l y).1.0;
      length_most = λ i l y. (p.lengths i l y).1.1;
      empty_version = λ i l e. (p.empty i l e).0;
      empty_length = λ i l e. (p.empty i l e).1;
      path_form = λ i l y. inl (f.paths i l y);
      removal_form = f.removals;
      empty_form = f.empty;
    }
  where
    -- a place with the version of a used one is used: an empty one has version 0
    born : (i j : ℕ) → i < 128 → j < 128 → Used b i → version_at b i ≡ version_at b j → Used b j
    born i j l m u e z = omega (arith, (p.versions_in_range i l u).0, e, (p.empty j m z).0)

-- ---- the same of the test
pub alone_passes : (b : Table) → FormsAlone b → ProperAlone b → proper_b b ≡ true
alone_passes b f p = is_proper b (alone_proper b f p)

pub passes_alone : (b : Table) → FormsAlone b → proper_b b ≡ true → ProperAlone b
passes_alone b f e = (proper_alone b f.paths (proper_is b e)).0
