-- Laws of the limit that an ERO is judged by: the first segment in the code's words, and what the limit is. Each way out of the code is one law: the tests that led
-- there are rewritten into the definition, and it computes to what is returned.
use Rattle.std.specs.Prelude.{is_some, Option, None, Some}
use Prim.Native.Nat.{ℕ, ◌+◌, ◌/◌, ◌≤◌, ◌<◌}
use native.Mathlib.Omega.{arith}
use mathlib.Core.Path.{◌≡◌, refl, sym, ap, ◌∙◌}
use mathlib.Core.List.{List, []}
use mathlib.Core.Bool.{Bool, true, false, cond, false≢true}
use lib.ListN.{length, drop, length-take, length-drop}
use lib.Dec.{eqb}
use Rattle.octets.proofs.Said.{and_false, or_true}
use Rattle.answers.proofs.Determined.{determined}
use Rattle.octets.specs.Octets.{octet_of, part}
use Rattle.objects.specs.Objects.{header}
use Rattle.session.specs.declared.Session.{Session}
use Rattle.forms.specs.declared.Form.{Form}
use Rattle.forms.specs.Forms.{srv6_form, flag_in}
use Rattle.subobject.specs.Layout.{nai_place, sid_length, worth_nt, head_of, head_at}
use Rattle.head_end.specs.Addresses.{address_size, has_address}
use Rattle.head_end.proofs.Laws.{short_is_none, none_in_none}
use Rattle.msd_limit.specs.Limits.{one_more_by}
use Rattle.route_limit.specs.FirstOff.{is_adjacency, first_head, local_address, own_adjacency, stays_off, with_one_more, limit_for, session_for}

-- the first segment ----------------------------------------------------------------------------------------------

short_part : (s : List ℕ) (at : ℕ) → length s < at + address_size → length (part s at address_size) < address_size
unfolding part
short_part s at h = omega (arith, length-take address_size (drop at s), length-drop at s)

-- Where the local address stands: behind the fixed part, and behind the SID if S is 0.
pub place_told : (flags : ℕ) {form : Form} {fixed flag k : ℕ} → form ≡ srv6_form → fixed ≡ form.fixed → flag ≡ flag_in flags form.s → k ≡ sid_length form flag
    → (header + fixed + k ≡ nai_place srv6_form (flag_in flags srv6_form.s) header) × (header + fixed + k ≤ 28)
place_told flags {form} {fixed} {flag} {k} e f h p =
    let eight : fixed ≡ 8 = f ∙ ap (λ (x : Form). x.fixed) e in
    let w : flag ≡ flag_in flags 1 = h ∙ ap (λ (x : Form). flag_in flags x.s) e in
    let q : k ≡ sid_length srv6_form (flag_in flags 1) = p ∙ ap (λ (x : Form). sid_length x flag) e ∙ ap (sid_length srv6_form) w in
    (rw (q, eight), least (eqb (flag_in flags 1) 0) k q eight)
  where
    least : (b : Bool) (k : ℕ) → k ≡ cond b 16 0 → fixed ≡ 8 → header + fixed + k ≤ 28
    least true k q g = omega (arith, q, g)
    least false k q g = omega (arith, q, g)

-- In the words of the code: high the octet with NT, low the one with S.
module _ (s addresses : List ℕ) (high : ℕ) (e : high ≡ octet_of s (header + 2)) where
  nt_told : (first_head s).nt ≡ high / worth_nt
  unfolding head_at head_of
  nt_told = rw e

  pub not_own : {b : Bool} → b ≡ is_adjacency (high / worth_nt) → b ≡ false → false ≡ own_adjacency s addresses
  unfolding own_adjacency
  not_own f g = rw (nt_told, sym f ∙ g)

  module _ (low : ℕ) (f : low ≡ octet_of s (header + 3)) (at : ℕ) (g : at ≡ nai_place srv6_form (flag_in low srv6_form.s) header) where
    local_told : local_address s ≡ part s at address_size
    unfolding head_at head_of
    local_told = rw (g, f)

    pub own_short : length s < at + address_size → false ≡ own_adjacency s addresses
    unfolding own_adjacency
    own_short h =
        rw (local_told, short_is_none (part s at address_size) addresses (short_part s at h)) (sym (and_false (is_adjacency (first_head s).nt)))

    pub own_told : {b r : Bool} → b ≡ is_adjacency (high / worth_nt) → b ≡ true → r ≡ has_address addresses (part s at address_size) → r ≡ own_adjacency s addresses
    unfolding own_adjacency
    own_told k m n = n ∙ rw (nt_told, sym k ∙ m, local_told)

-- the limit ------------------------------------------------------------------------------------------------------

-- The ways out of the code.
module _ (s : List ℕ) (ero : Bool) (session : Session) (addresses : List ℕ) where
  -- In an RRO nothing stays off.
  pub in_rro : ero ≡ false → session.limit ≡ limit_for s ero session addresses
  unfolding limit_for stays_off
  in_rro e = rw e

  pub by_r : {l : Option ℕ} → ero ≡ true → session.r ≡ true → l ≡ with_one_more session → l ≡ limit_for s ero session addresses
  unfolding limit_for stays_off
  by_r e f g = g ∙ rw (e, f)

  pub by_none : session.r ≡ false → session.a ≡ false → session.limit ≡ limit_for s ero session addresses
  unfolding limit_for stays_off
  by_none e f = rw (e, f, and_false ero)

  -- Without H.Encaps one segment more is none.
  pub without_encaps : is_some session.v ≡ false → session.limit ≡ limit_for s ero session addresses
  unfolding limit_for
  without_encaps h = go (stays_off s ero session addresses) (none session.v h)
    where
      none : (v : Option ℕ) → is_some v ≡ false → one_more_by session.limit v session.m ≡ session.limit
      none None h = refl
      none (Some v) h = absurd (false≢true (sym h))

      go : (b : Bool) → with_one_more session ≡ session.limit → session.limit ≡ cond b (with_one_more session) session.limit
      go true f = sym f
      go false f = refl

  pub by_a : {own : Bool} {l : Option ℕ} → ero ≡ true → session.a ≡ true → own ≡ own_adjacency s addresses → own ≡ true
      → l ≡ with_one_more session → l ≡ limit_for s ero session addresses
  unfolding limit_for stays_off
  by_a e f g h k = k ∙ rw (e, f, sym g ∙ h, or_true session.r)

  pub not_by_a : {own : Bool} → session.r ≡ false → own ≡ own_adjacency s addresses → own ≡ false → session.limit ≡ limit_for s ero session addresses
  unfolding limit_for stays_off
  not_by_a e g h = rw (e, sym g ∙ h, and_false session.a, and_false ero)

  -- With no address and R not agreed the limit is the session's own.
  pub no_address : session.r ≡ false → limit_for s ero session [] ≡ session.limit
  unfolding limit_for stays_off own_adjacency
  no_address e = rw (e, none_in_none (local_address s), and_false (is_adjacency (first_head s).nt), and_false session.a, and_false ero)

-- Any two answers that fit the contract of `session_for` are equal -----------------------------------------------

pub session_for_determined : (s : List ℕ) (ero : Bool) (session : Session) (addresses : List ℕ) {x y : Session}
    → x ≡ session_for s ero session addresses → y ≡ session_for s ero session addresses → x ≡ y
session_for_determined s ero session addresses = determined
