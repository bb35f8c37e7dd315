-- What sub-TLV 26 announces, by each way out of the code. Assumes nothing.
use Rattle.std.specs.Prelude.{None, Some, Result}
use Prim.Native.Nat.{ℕ, ◌/◌, ◌%◌}
use mathlib.Core.Path.{◌≡◌, sym, ◌∙◌}
use mathlib.Core.List.{List}
use lib.ListN.{length}
use lib.Dec.{eqb}
use borrow.Author.Tests.{eq-eqb, ne_eqb}
use Rattle.answers.specs.Numbers.{open_malformed, wrong_msd}
use Rattle.octets.specs.Octets.{octet_of}
use Rattle.objects.specs.Objects.{mpls_setup}
use Rattle.session.specs.Sessions.{open_refused, without_srv6, with_mpls}
use Rattle.session.specs.declared.opened.MplsHalf.{MplsHalf}
use Rattle.session.specs.declared.opened.OpenRefusal.{OpenRefusal}
use Rattle.session.specs.Answered.{mpls_of}
use Rattle.session.proofs.Laws.{mpls_back}
use Rattle.capability_mpls.specs.Mpls.{mpls_size, mpls_flags_at, depth_at, mpls_sized_of, mpls_n_of, mpls_x_of, depth_of, depthless, mpls_limit_of, mpls_announced_of}

-- what sub-TLV 26 announces --------------------------------------------------------------------------------------

module _ (w : List ℕ) where
  pub announced_unsized : (length w ≡ mpls_size → ⊥) → open_refused open_malformed mpls_setup ≡ mpls_announced_of w
  unfolding mpls_announced_of mpls_sized_of
  announced_unsized h = rw (ne_eqb (length w) mpls_size h)

  -- of a value of length 4, by its flags and its depth
  module _ (flags : ℕ) (s : length w ≡ mpls_size) (e : flags ≡ octet_of w mpls_flags_at) where
    pub announced_free : flags / 1 % 2 ≡ 1 → with_mpls without_srv6 (eqb (flags / 2 % 2) 1) None ≡ mpls_announced_of w
    unfolding mpls_announced_of mpls_sized_of depthless mpls_x_of mpls_n_of mpls_limit_of
    announced_free x = rw (eq-eqb (length w) mpls_size s, ← e, eq-eqb (flags / 1 % 2) 1 x)

    pub announced_depthless : (depth : ℕ) → (flags / 1 % 2 ≡ 1 → ⊥) → depth ≡ octet_of w depth_at → depth ≡ 0 → open_refused wrong_msd mpls_setup ≡ mpls_announced_of w
    unfolding mpls_announced_of mpls_sized_of depthless depth_of mpls_x_of
    announced_depthless depth x d z = rw (eq-eqb (length w) mpls_size s, ← e, ne_eqb (flags / 1 % 2) 1 x, ← d, eq-eqb depth 0 z)

    pub announced_depth : (depth : ℕ) → (flags / 1 % 2 ≡ 1 → ⊥) → depth ≡ octet_of w depth_at → (depth ≡ 0 → ⊥)
        → with_mpls without_srv6 (eqb (flags / 2 % 2) 1) (Some depth) ≡ mpls_announced_of w
    unfolding mpls_announced_of mpls_sized_of depthless depth_of mpls_x_of mpls_n_of mpls_limit_of
    announced_depth depth x d z = rw (eq-eqb (length w) mpls_size s, ← e, ne_eqb (flags / 1 % 2) 1 x, ← d, ne_eqb depth 0 z)

-- Any two answers that fit the contract of a call are equal ----------------------------------------------------

pub announced_mpls_determined : (w : List ℕ) {x y : Result MplsHalf OpenRefusal} → mpls_of x ≡ mpls_announced_of w → mpls_of y ≡ mpls_announced_of w → x ≡ y
announced_mpls_determined w {x} {y} e f = mpls_back x y (e ∙ sym f)
