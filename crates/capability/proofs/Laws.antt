-- What sub-TLV 27 announces, in the order of the definitions. Assumes nothing.
use Rattle.std.specs.Prelude.{Option, None, Result}
use Prim.Native.Nat.{ℕ, ◌/◌, ◌%◌, ◌≤◌, ◌<◌}
use mathlib.Core.Path.{◌≡◌, refl, sym, ◌∙◌}
use mathlib.Core.Logic.{◌↔◌, ◌⊎◌, inl, inr, ⊎_elim}
use mathlib.Core.List.{List, []}
use mathlib.Core.Bool.{Bool, true, false, cond, false≢true}
use lib.Dec.{eqb}
use lib.ListN.{length}
use borrow.Author.Tests.{eq-eqb, ne_eqb, le-leb, lt-leb}
use Rattle.octets.proofs.Said.{and_false}
use Rattle.objects.specs.Objects.{srv6_setup}
use Rattle.answers.specs.Numbers.{open_malformed, wrong_msd}
use Rattle.flag_positions.specs.declared.Positions.{Positions}
use Rattle.flag_positions.specs.Positions.{flag_at}
use Rattle.session.specs.Opened.{Opened}
use Rattle.session.specs.Sessions.{open_refused, open_carries}
use Rattle.session.specs.declared.opened.Srv6Half.{Srv6Half}
use Rattle.session.specs.declared.opened.OpenRefusal.{OpenRefusal}
use Rattle.session.specs.Answered.{srv6_of}
use Rattle.session.proofs.Laws.{srv6_back}
use Rattle.msd.specs.Msd.{max_segments_left, max_h_encaps, wrong_pairs}
use Rattle.msd.specs.Stands.{Stands}
use Rattle.msd_limit.specs.Limits.{limit_by, limit_of_pairs, present, only_ends}
use Rattle.msd_limit.proofs.Theorems.{free_exactly, only_ends_limit_nothing}
use Rattle.octets.specs.Octets.{octet_of, be16}
use Rattle.capability.specs.Srv6.{both_flags_at, flags_at, pairs_at, sized_of, n_of, x_of, a_of, r_of, pairs_of, wrong_of, h_encaps_of, segments_left_of, limit_of, announced_of}

-- the limit ----------------------------------------------------------------------------------------------------

module _ (w : List ℕ) where
  -- There is no limit exactly if X is set or neither H.Encaps nor Segments Left is present.
  pub no_limit_exactly : (limit_of w ≡ None) ↔ ((x_of w ≡ true) ⊎ ((present (pairs_of w) max_h_encaps ≡ false) × (present (pairs_of w) max_segments_left ≡ false)))
  unfolding limit_of h_encaps_of segments_left_of
  no_limit_exactly = go (x_of w)
    where
      go : (x : Bool) → (limit_of_pairs (cond x [] (pairs_of w)) ≡ None)
          ↔ ((x ≡ true) ⊎ ((present (pairs_of w) max_h_encaps ≡ false) × (present (pairs_of w) max_segments_left ≡ false)))
      go true = (λ e. inl refl, λ h. refl)
      go false = (λ e. inr ((free_exactly (pairs_of w)).0 e), λ h. ⊎_elim (λ e. absurd (false≢true e)) (λ k. (free_exactly (pairs_of w)).1 k) h)

  -- Pairs of End Pop and End D alone limit nothing.
  pub ends_limit_nothing : only_ends (pairs_of w) ≡ true → limit_of w ≡ None
  unfolding limit_of h_encaps_of segments_left_of
  ends_limit_nothing e = go (x_of w)
    where
      go : (x : Bool) → limit_of_pairs (cond x [] (pairs_of w)) ≡ None
      go true = refl
      go false = only_ends_limit_nothing (pairs_of w) e

-- what sub-TLV 27 announces --------------------------------------------------------------------------------------

module _ (p : Positions) (w : List ℕ) where
  -- The size, as the code tests it.
  pub sized : length w % 2 ≡ 0 → pairs_at ≤ length w → sized_of w ≡ true
  unfolding sized_of
  sized e h = rw (eq-eqb (length w % 2) 0 e, le-leb pairs_at (length w) h)

  pub odd : (length w % 2 ≡ 0 → ⊥) → sized_of w ≡ false
  unfolding sized_of
  odd h = rw (ne_eqb (length w % 2) 0 h)

  pub short : length w < pairs_at → sized_of w ≡ false
  unfolding sized_of
  short h = rw (lt-leb pairs_at (length w) h, and_false (eqb (length w % 2) 0))

  -- X, N, A and R as it reads them.
  x_told : (flags : ℕ) (x : Bool) → flags ≡ octet_of w flags_at → eqb (flags / 1 % 2) 1 ≡ x → x_of w ≡ x
  unfolding x_of
  x_told flags x e f = rw (← e) f

  n_told : (flags : ℕ) → flags ≡ octet_of w flags_at → eqb (flags / 2 % 2) 1 ≡ n_of w
  unfolding n_of
  n_told flags e = rw e

  pub a_told : (all : ℕ) {a : Bool} → all ≡ be16 w both_flags_at → a ≡ flag_at all p.a → a ≡ a_of p w
  unfolding a_of
  a_told all e f = f ∙ rw e

  pub r_told : (all : ℕ) {r : Bool} → all ≡ be16 w both_flags_at → r ≡ flag_at all p.r → r ≡ r_of p w
  unfolding r_of
  r_told all e f = f ∙ rw e

  -- The ways out of the code: of the wrong size,
  pub announced_unsized : {o : Opened} → sized_of w ≡ false → o ≡ open_refused open_malformed srv6_setup → o ≡ announced_of p w
  unfolding announced_of
  announced_unsized s o = o ∙ rw s

  -- with X set,
  pub announced_free : (flags : ℕ) (a r : Bool) {o : Opened} → flags ≡ octet_of w flags_at → sized_of w ≡ true → eqb (flags / 1 % 2) 1 ≡ true → a ≡ a_of p w → r ≡ r_of p w
      → o ≡ open_carries true (eqb (flags / 2 % 2) 1) None a r None None → o ≡ announced_of p w
  unfolding announced_of wrong_of limit_of h_encaps_of segments_left_of
  announced_free flags a r e s x f h o = o ∙ rw (s, x_told flags true e x, n_told flags e, f, h)

  -- with a wrong pair,
  pub announced_wrong : (flags : ℕ) {o : Opened} → flags ≡ octet_of w flags_at → sized_of w ≡ true → eqb (flags / 1 % 2) 1 ≡ false → wrong_pairs (pairs_of w) ≡ true
      → o ≡ open_refused wrong_msd srv6_setup → o ≡ announced_of p w
  unfolding announced_of wrong_of
  announced_wrong flags e s x wrong o = o ∙ rw (s, x_told flags false e x, wrong)

  -- and with none.
  pub announced_pairs : (flags : ℕ) (a r : Bool) {v m l : Option ℕ} {o : Opened} → flags ≡ octet_of w flags_at → sized_of w ≡ true
      → eqb (flags / 1 % 2) 1 ≡ false → wrong_pairs (pairs_of w) ≡ false → a ≡ a_of p w → r ≡ r_of p w
      → Stands (pairs_of w) v m → l ≡ limit_by v m → o ≡ open_carries true (eqb (flags / 2 % 2) 1) l a r v m → o ≡ announced_of p w
  unfolding announced_of wrong_of limit_of h_encaps_of segments_left_of
  announced_pairs flags a r e s x none f h t l o = o ∙ rw (s, x_told flags false e x, none, n_told flags e, f, h, l, t.0, t.1)

-- Any two answers that fit the contract of a call are equal ----------------------------------------------------

pub announced_determined : (p : Positions) (w : List ℕ) {x y : Result Srv6Half OpenRefusal} → srv6_of x ≡ announced_of p w → srv6_of y ≡ announced_of p w → x ≡ y
announced_determined p w {x} {y} e f = srv6_back x y (e ∙ sym f)
