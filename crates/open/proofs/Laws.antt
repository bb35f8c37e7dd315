-- The answer to an OPEN object by the walk over its TLVs is the one that its rules give. Each form's half is the first broken one of its three rules (`srv6_half`,
-- `mpls_half`); the halves joined are the first broken one of the six by number (`joined_halves`, by cases); a torn walk is the rule that all fits (`answered`).
use Rattle.std.specs.Prelude.{Option, None, Some}
use Prim.Native.Nat.{ℕ, ◌-◌}
use mathlib.Core.Path.{◌≡◌, refl, ◌∙◌}
use mathlib.Core.List.{List, [], ◌∷◌}
use mathlib.Core.Bool.{Bool, true, false, cond, not, ◌&&◌}
use lib.ListN.{length, drop}
use Rattle.octets.specs.Octets.{part}
use Rattle.octets.proofs.Laws.{rest_lent}
use Rattle.objects.specs.Objects.{mpls_setup, srv6_setup}
use Rattle.answers.specs.Numbers.{open_malformed, capability_missing, wrong_msd, not_usable}
use Rattle.flag_positions.specs.declared.Positions.{Positions}
use Rattle.flag_positions.specs.Positions.{usable_positions}
use Rattle.session.specs.Opened.{Opened}
use Rattle.session.specs.Sessions.{no_form, open_refused, without_srv6}
use Rattle.tlvs.specs.Tlvs.{tlvs_whole, first_tlv, not_there}
use Rattle.setup_types.specs.SetupTypes.{path_setup, holds_list, subs_of, lists_type, listed_in}
use Rattle.capability_mpls.specs.Mpls.{mpls_capability, mpls_announced_of}
use Rattle.capability.specs.Srv6.{srv6_capability, announced_of}
use Rattle.open_walk.specs.Walk.{Sight, torn, seen, open_walk}
use Rattle.open.specs.Open.{
  tlvs_at,
  framed,
  open_tlvs,
  setup_of,
  mpls_of,
  srv6_of,
  mpls_listed,
  listed,
  fitting,
  holding,
  mpls_sized_in,
  sized_in,
  depthless_sub,
  wrong_sub,
  breaks28,
  breaks1,
  breaks1_mpls,
  breaks1_srv6,
  breaks2_mpls,
  breaks2_srv6,
  breaks3_mpls,
  breaks3_srv6,
  said_by,
  srv6_carried,
  beside_by,
  carries_of,
  Rule,
  rule,
  first_rule,
  open_of,
}
use Rattle.open_carried.specs.Carried.{announced_by, srv6_by, mpls_announced_by, mpls_by, joined_of}

-- the answer ---------------------------------------------------------------------------------------------------

pub part_rest : (s : List ℕ) (a : ℕ) → part s a (length s - a) ≡ drop a s
unfolding part
part_rest s a = rest_lent s a

-- one form's half ----------------------------------------------------------------------------------------------

-- The three rules of a form.
abbrev three : Bool → Bool → Bool → ℕ → List Rule
three a b c form = rule open_malformed form a ∷ rule capability_missing form b ∷ rule wrong_msd form c ∷ []

-- A half is the first broken one of its three rules, or what it carries.
srv6_half : (p : Positions) (v sub : Option (List ℕ))
    → srv6_by p v sub
    ≡ (let l = listed_in v srv6_setup in first_rule (three (l && not (sized_in sub)) (l && not_there sub) (l && wrong_sub sub) srv6_setup) (cond l (said_by p sub) without_srv6))
unfolding announced_of
srv6_half p None sub = refl
srv6_half p (Some v) sub = go (lists_type v srv6_setup) sub
  where
    go : (l : Bool) (o : Option (List ℕ))
        → cond l (announced_by p o) without_srv6
        ≡ first_rule (three (l && not (sized_in o)) (l && not_there o) (l && wrong_sub o) srv6_setup) (cond l (said_by p o) without_srv6)
    go false o = refl
    go true None = refl
    go true (Some w) = refl

mpls_half : (v sub : Option (List ℕ))
    → mpls_by v sub
    ≡ (let l = listed_in v mpls_setup in
    first_rule (three (l && not (mpls_sized_in sub)) (l && not_there sub) (l && depthless_sub sub) mpls_setup) (beside_by without_srv6 sub l))
unfolding mpls_announced_of
mpls_half None sub = refl
mpls_half (Some v) sub = go (lists_type v mpls_setup) sub
  where
    go : (l : Bool) (o : Option (List ℕ))
        → cond l (mpls_announced_by o) without_srv6
        ≡ first_rule (three (l && not (mpls_sized_in o)) (l && not_there o) (l && depthless_sub o) mpls_setup) (beside_by without_srv6 o l)
    go false o = refl
    go true None = refl
    go true (Some w) = refl

-- both halves --------------------------------------------------------------------------------------------------

-- The rules of both forms by their numbers, MPLS's first of each.
abbrev six : Bool → Bool → Bool → Bool → Bool → Bool → List Rule
six a a' b b' c c' =
    rule open_malformed mpls_setup a
    ∷ rule open_malformed srv6_setup a'
    ∷ rule capability_missing mpls_setup b
    ∷ rule capability_missing srv6_setup b'
    ∷ rule wrong_msd mpls_setup c
    ∷ rule wrong_msd srv6_setup c'
    ∷ []

-- The halves joined are the first broken one of the six rules, or what both carry.
module _ (sub : Option (List ℕ)) (o : Opened) (accepted : o.number ≡ 0) where
  joined_halves : (a a' b b' c c' l : Bool)
      → joined_of (first_rule (three a b c mpls_setup) (beside_by without_srv6 sub l)) (first_rule (three a' b' c' srv6_setup) o)
      ≡ first_rule (six a a' b b' c c') (beside_by o sub l)
  joined_halves true true b b' c c' l = refl
  joined_halves true false b true c c' l = refl
  joined_halves true false b false c true l = refl
  joined_halves true false b false c false l = rw accepted
  joined_halves false true true b' c c' l = refl
  joined_halves false false true true c c' l = refl
  joined_halves false false true false c true l = refl
  joined_halves false false true false c false l = rw accepted
  joined_halves false true false b' true c' l = refl
  joined_halves false false false true true c' l = refl
  joined_halves false false false false true true l = refl
  joined_halves false false false false true false l = rw accepted
  joined_halves false true false b' false c' l = go l sub
    where
      go : (l : Bool) (w : Option (List ℕ)) → joined_of (beside_by without_srv6 w l) (open_refused open_malformed srv6_setup) ≡ open_refused open_malformed srv6_setup
      go false w = refl
      go true None = refl
      go true (Some w) = refl
  joined_halves false false false true false c' l = go l sub
    where
      go : (l : Bool) (w : Option (List ℕ)) → joined_of (beside_by without_srv6 w l) (open_refused capability_missing srv6_setup) ≡ open_refused capability_missing srv6_setup
      go false w = refl
      go true None = refl
      go true (Some w) = refl
  joined_halves false false false false false true l = go l sub
    where
      go : (l : Bool) (w : Option (List ℕ)) → joined_of (beside_by without_srv6 w l) (open_refused wrong_msd srv6_setup) ≡ open_refused wrong_msd srv6_setup
      go false w = refl
      go true None = refl
      go true (Some w) = refl
  joined_halves false false false false false false l = go l sub
    where
      go : (l : Bool) (w : Option (List ℕ)) → joined_of (beside_by without_srv6 w l) o ≡ beside_by o w l
      go false w = refl
      go true None = refl
      go true (Some w) = rw accepted

pub said_zero : (p : Positions) (l : Bool) (sub : Option (List ℕ)) → (cond l (said_by p sub) without_srv6).number ≡ 0
said_zero p true None = refl
said_zero p true (Some w) = refl
said_zero p false sub = refl

pub halves : (p : Positions) (v mpls srv6 : Option (List ℕ))
    → joined_of (mpls_by v mpls) (srv6_by p v srv6)
    ≡ (let m = listed_in v mpls_setup in
    let l = listed_in v srv6_setup in
    first_rule (six (m && not (mpls_sized_in mpls)) (l && not (sized_in srv6)) (m && not_there mpls) (l && not_there srv6) (m && depthless_sub mpls) (l && wrong_sub srv6))
    (beside_by (cond l (said_by p srv6) without_srv6) mpls m))
halves p v mpls srv6 =
    let m = listed_in v mpls_setup in
    let l = listed_in v srv6_setup in
    rw (mpls_half v mpls, srv6_half p v srv6) (
    joined_halves mpls (cond l (said_by p srv6) without_srv6) (said_zero p l srv6)
    (m && not (mpls_sized_in mpls)) (l && not (sized_in srv6)) (m && not_there mpls) (l && not_there srv6) (m && depthless_sub mpls) (l && wrong_sub srv6) m
    )

-- What the walks over the TLVs of a framed object, for 27 and for 26, come to. The second is made only where setup type 1 is listed.
abbrev pub with_beside : Opened → Sight → Opened
with_beside o torn = open_refused open_malformed no_form
with_beside o (seen again mpls) = joined_of (mpls_announced_by mpls) o

abbrev pub answer_by : Positions → Sight → Sight → Opened
answer_by p torn beside = open_refused open_malformed no_form
answer_by p (seen list srv6) beside = cond (listed_in list mpls_setup) (with_beside (srv6_by p list srv6) beside) (srv6_by p list srv6)

-- Of MPLS nothing is joined where setup type 1 is not listed.
joined_listed : (p : Positions) (v mpls srv6 : Option (List ℕ))
    → cond (listed_in v mpls_setup) (joined_of (mpls_announced_by mpls) (srv6_by p v srv6)) (srv6_by p v srv6) ≡ joined_of (mpls_by v mpls) (srv6_by p v srv6)
joined_listed p v mpls srv6 = go (listed_in v mpls_setup)
  where
    go : (l : Bool) → cond l (joined_of (mpls_announced_by mpls) (srv6_by p v srv6)) (srv6_by p v srv6) ≡ joined_of (cond l (mpls_announced_by mpls) without_srv6) (srv6_by p v srv6)
    go true = refl
    go false = refl

-- Positions of no use go before everything else.
pub unusable : (p : Positions) (s : List ℕ) → usable_positions p ≡ false → open_refused not_usable no_form ≡ open_of p s
unfolding open_of breaks28
unusable p s u = rw u

pub unframed : (p : Positions) (s : List ℕ) → usable_positions p ≡ true → framed s ≡ false → open_refused open_malformed no_form ≡ open_of p s
unfolding open_of breaks28 breaks1
unframed p s u e = rw (u, e)

-- The walks of the code and the rules of the paper give the same answer.
module _ (p : Positions) (s : List ℕ) (u : usable_positions p ≡ true) (e : framed s ≡ true) where
  pub answered : answer_by p (open_walk (drop tlvs_at s) false srv6_capability) (open_walk (drop tlvs_at s) false mpls_capability) ≡ open_of p s
  unfolding open_walk open_of breaks28 breaks1 breaks1_mpls breaks1_srv6 breaks2_mpls breaks2_srv6 breaks3_mpls breaks3_srv6 fitting holding mpls_listed listed mpls_of
      srv6_of setup_of carries_of srv6_carried
  answered = fit (tlvs_whole (open_tlvs s)) (first_tlv (open_tlvs s) path_setup) refl refl
    where
      hold : (v : List ℕ) → tlvs_whole (open_tlvs s) ≡ true → first_tlv (open_tlvs s) path_setup ≡ Some v
          → (b : Bool) → (holds_list v && tlvs_whole (subs_of v)) ≡ b
          → answer_by p (open_walk (drop tlvs_at s) false srv6_capability) (open_walk (drop tlvs_at s) false mpls_capability) ≡ open_of p s
      hold v f g true h =
          let mpls = first_tlv (subs_of v) mpls_capability in
          let srv6 = first_tlv (subs_of v) srv6_capability in
          rw (u, e, f, g, h) (joined_listed p (Some v) mpls srv6 ∙ halves p (Some v) mpls srv6)
      hold v f g false h = rw (u, e, f, g, h)

      fit : (b : Bool) (o : Option (List ℕ)) → tlvs_whole (open_tlvs s) ≡ b → first_tlv (open_tlvs s) path_setup ≡ o
          → answer_by p (open_walk (drop tlvs_at s) false srv6_capability) (open_walk (drop tlvs_at s) false mpls_capability) ≡ open_of p s
      fit false o f g = rw (u, e, f)
      fit true None f g = rw (u, e, f, g)
      fit true (Some v) f g = hold v f g (holds_list v && tlvs_whole (subs_of v)) refl

  -- by what the walks found
  pub cut_first : torn ≡ open_walk (drop tlvs_at s) false srv6_capability → open_refused open_malformed no_form ≡ open_of p s
  cut_first a = rw (← a) at answered

  module _ {list srv6 : Option (List ℕ)} (a : seen list srv6 ≡ open_walk (drop tlvs_at s) false srv6_capability) where
    pub alone : listed_in list mpls_setup ≡ false → srv6_by p list srv6 ≡ open_of p s
    alone l = rw (← a, l) at answered

    pub cut_second : listed_in list mpls_setup ≡ true → torn ≡ open_walk (drop tlvs_at s) false mpls_capability → open_refused open_malformed no_form ≡ open_of p s
    cut_second l b = rw (← a, l, ← b) at answered

    pub beside : listed_in list mpls_setup ≡ true → {again mpls : Option (List ℕ)} → seen again mpls ≡ open_walk (drop tlvs_at s) false mpls_capability
        → joined_of (mpls_announced_by mpls) (srv6_by p list srv6) ≡ open_of p s
    beside l b = rw (← a, l, ← b) at answered
