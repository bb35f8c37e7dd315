-- Both forms can be read again when they are written. For each form the numbers are known, so that flags in an octet are linear arithmetic (`omega`); an octet is put together again bit by
-- bit (`by_four`). Assumes nothing.
use Prim.Native.Nat.{ℕ, ◌+◌, ◌*◌, ◌/◌, ◌%◌, ◌<◌}
use mathlib.Core.Path.{◌≡◌, refl, sym}
use mathlib.Core.Bool.{Bool, true, false, cond}
use lib.Dec.{eqb}
use native.Mathlib.Nat.{div-one}
use native.Mathlib.Omega.{arith}
use Rattle.forms.specs.Forms.{srv6_form, mpls_form, form_of, flag_in, nai_length}
use Rattle.forms.proofs.Laws.{of_both, srv6_fours, mpls_fours}
use Rattle.writer_spare.specs.NaiSizes.{NaiOctets}
use Rattle.writer_layout.specs.Readable.{Marks, FlagsApart, Readable}

srv6_apart : (v t f s c m : ℕ) → Marks srv6_form v t f s c m → FlagsApart srv6_form v t f s c m
unfolding flag_in
srv6_apart v t f s c m k =
    let hc = k.no_c refl in
    let hm = k.no_m refl in
    record {
      back_v = omega (arith, k.bit_v, k.bit_t, k.bit_f, k.bit_s, k.bit_c, k.bit_m, hc, hm);
      back_t = omega (arith, k.bit_v, k.bit_t, k.bit_f, k.bit_s, k.bit_c, k.bit_m, hc, hm);
      back_f = omega (arith, k.bit_v, k.bit_t, k.bit_f, k.bit_s, k.bit_c, k.bit_m, hc, hm);
      back_s = omega (arith, k.bit_v, k.bit_t, k.bit_f, k.bit_s, k.bit_c, k.bit_m, hc, hm);
      back_c = sym hc;
      back_m = sym hm;
      none = omega (arith, k.bit_v, k.bit_t, k.bit_f, k.bit_s, k.bit_c, k.bit_m, hc, hm);
    }

mpls_apart : (v t f s c m : ℕ) → Marks mpls_form v t f s c m → FlagsApart mpls_form v t f s c m
unfolding flag_in
mpls_apart v t f s c m k =
    let ht = k.no_t refl in
    record {
      back_v = omega (arith, k.bit_v, k.bit_t, k.bit_f, k.bit_s, k.bit_c, k.bit_m, ht);
      back_t = sym ht;
      back_f = omega (arith, k.bit_v, k.bit_t, k.bit_f, k.bit_s, k.bit_c, k.bit_m, ht);
      back_s = omega (arith, k.bit_v, k.bit_t, k.bit_f, k.bit_s, k.bit_c, k.bit_m, ht);
      back_c = omega (arith, k.bit_v, k.bit_t, k.bit_f, k.bit_s, k.bit_c, k.bit_m, ht);
      back_m = omega (arith, k.bit_v, k.bit_t, k.bit_f, k.bit_s, k.bit_c, k.bit_m, ht);
      none = omega (arith, k.bit_v, k.bit_t, k.bit_f, k.bit_s, k.bit_c, k.bit_m, ht);
    }

-- An octet by its bits.
by_four : (a : ℕ) → a / 16 * 16 + a / 8 % 2 * 8 + a / 4 % 2 * 4 + a / 2 % 2 * 2 + a % 2 ≡ a
by_four a =
    let q4 : a / 4 ≡ a / 2 / 2 = omega arith in
    let q8 : a / 8 ≡ a / 4 / 2 = omega arith in
    let q16 : a / 16 ≡ a / 8 / 2 = omega arith in
    omega arith

one_more : (a : ℕ) → a / 32 * 32 + a / 16 % 2 * 16 ≡ a / 16 * 16
one_more a = let q32 : a / 32 ≡ a / 16 / 2 = omega arith in omega arith

srv6_sum : (x v t f s a : ℕ) → x + v * 8 + t * 4 + f * 2 + s ≡ a → x + (v * 8 + t * 4 + f * 2 + s * 1 + 0 + 0) ≡ a
srv6_sum x v t f s a e = omega arith

mpls_sum : (x y v f s c m a : ℕ) → x * 32 + v * 16 ≡ y → y + f * 8 + s * 4 + c * 2 + m ≡ a → x * 32 + (v * 16 + 0 + f * 8 + s * 4 + c * 2 + m * 1) ≡ a
mpls_sum x y v f s c m a e d = omega arith

srv6_whole : (a : ℕ) → a / 16 * 16 + (a / 8 % 2 * 8 + a / 4 % 2 * 4 + a / 2 % 2 * 2 + a / 1 % 2 * 1 + 0 + 0) ≡ a
srv6_whole a = rw (div-one a) (srv6_sum (a / 16 * 16) (a / 8 % 2) (a / 4 % 2) (a / 2 % 2) (a % 2) a (by_four a))

mpls_whole : (a : ℕ) → a / 32 * 32 + (a / 16 % 2 * 16 + 0 + a / 8 % 2 * 8 + a / 4 % 2 * 4 + a / 2 % 2 * 2 + a / 1 % 2 * 1) ≡ a
mpls_whole a =
    rw (div-one a) (mpls_sum (a / 32) (a / 16 * 16) (a / 16 % 2) (a / 8 % 2) (a / 4 % 2) (a / 2 % 2) (a % 2) a (one_more a) (by_four a))

srv6_strays : (a b : ℕ) → b < 256 → (a * 256 + b) % 4096 / 16 * 16 ≡ a % 16 * 256 + b / 16 * 16
srv6_strays a b h =
    let e : (a * 256 + b) % 4096 ≡ a % 16 * 256 + b = omega arith in
    rw e (omega arith)

mpls_strays : (a b : ℕ) → b < 256 → (a * 256 + b) % 4096 / 32 * 32 ≡ a % 16 * 256 + b / 32 * 32
mpls_strays a b h =
    let e : (a * 256 + b) % 4096 ≡ a % 16 * 256 + b = omega arith in
    rw e (omega arith)

srv6_sizes : (nt : ℕ) → NaiOctets (nai_length srv6_form nt)
unfolding nai_length
srv6_sizes nt = go (eqb nt 1) (eqb nt 2) (eqb nt 3) (eqb nt 4) (eqb nt 5) (eqb nt 6)
  where
    go : (a b c d e f : Bool) → NaiOctets (cond a 0 (cond b 16 (cond c 0 (cond d 32 (cond e 0 (cond f 40 0))))))
    go true b c d e f = NaiOctets.none
    go false true c d e f = NaiOctets.node
    go false false true d e f = NaiOctets.none
    go false false false true e f = NaiOctets.adjacency
    go false false false false true f = NaiOctets.none
    go false false false false false true = NaiOctets.local_link
    go false false false false false false = NaiOctets.none

pub srv6_readable : Readable srv6_form
unfolding flag_in
srv6_readable =
    record {
      setup = refl;
      kind = omega arith;
      sid = refl;
      label = omega arith;
      nai = srv6_fours;
      sizes = srv6_sizes;
      most = omega arith;
      apart = srv6_apart;
      whole = λ a h. srv6_whole a;
      v = omega arith;
      strays = srv6_strays;
    }

mpls_sizes : (nt : ℕ) → NaiOctets (nai_length mpls_form nt)
unfolding nai_length
mpls_sizes nt = go (eqb nt 1) (eqb nt 2) (eqb nt 3) (eqb nt 4) (eqb nt 5) (eqb nt 6)
  where
    go : (a b c d e f : Bool) → NaiOctets (cond a 4 (cond b 16 (cond c 8 (cond d 32 (cond e 16 (cond f 40 0))))))
    go true b c d e f = NaiOctets.four
    go false true c d e f = NaiOctets.node
    go false false true d e f = NaiOctets.eight
    go false false false true e f = NaiOctets.adjacency
    go false false false false true f = NaiOctets.node
    go false false false false false true = NaiOctets.local_link
    go false false false false false false = NaiOctets.none

pub mpls_readable : Readable mpls_form
unfolding flag_in
mpls_readable =
    record {
      setup = refl;
      kind = omega arith;
      sid = refl;
      label = omega arith;
      nai = mpls_fours;
      sizes = mpls_sizes;
      most = omega arith;
      apart = mpls_apart;
      whole = λ a h. mpls_whole a;
      v = omega arith;
      strays = mpls_strays;
    }

-- The form that a setup type names.
pub readable_by : (pst : ℕ) → Readable (form_of pst)
readable_by pst = of_both Readable srv6_readable mpls_readable pst
