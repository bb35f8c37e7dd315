-- A flag of an octet, by what it is worth; the sizes of the two forms. What holds of a form's NAIs is computed for each NT to 6, by cases of the tests of `nai_length`,
-- and past 6 there are none; what holds of both forms holds of the one that a setup type names (`of_both`). Assumes nothing.
use Prim.Native.Nat.{ℕ, zero, suc, ◌*◌, ◌^◌, ◌/◌, ◌%◌, ◌≤◌, ◌<◌}
use mathlib.Core.Path.{◌≡◌, refl, sym, ◌∙◌}
use mathlib.Core.Bool.{Bool, true, false, cond}
use lib.Dec.{eqb}
use native.Mathlib.Omega.{arith}
use borrow.Author.Tests.{eq-eqb, ne_eqb}
use Rattle.forms.specs.declared.Form.{Form}
use Rattle.forms.specs.Forms.{srv6_form, mpls_form, srv6_nai, mpls_nai, form_of, flag_in, nai_length}
use Rattle.forms.specs.Sized.{Sized, Shortest}

pub flag_none : (octet w worth : ℕ) → w ≡ worth → w ≡ 0 → 0 ≡ flag_in octet worth
unfolding flag_in
flag_none octet w worth e z = rw (eq-eqb worth 0 (sym e ∙ z))

pub flag_some : (octet w worth : ℕ) → w ≡ worth → (w ≡ 0 → ⊥) → octet / w % 2 ≡ flag_in octet worth
unfolding flag_in
flag_some octet w worth e n = rw (← e, ne_eqb w 0 n)

-- A flag is a bit.
pub flag_most : (octet w : ℕ) → flag_in octet w ≤ 1
unfolding flag_in
flag_most octet w = go (eqb w 0)
  where
    go : (b : Bool) → cond b 0 (octet / w % 2) ≤ 1
    go true = omega arith
    go false = omega arith

-- The fixed part has four octets, and eight where the form has a behaviour.
pub fixed_least : {form : Form} → Sized form → 4 ≤ form.fixed
fixed_least {form} z = go form.behaves z.fixed
  where
    go : (b : Bool) → form.fixed ≡ cond b 8 4 → 4 ≤ form.fixed
    go true e = omega arith
    go false e = omega arith

pub fixed_most : {form : Form} → Sized form → form.fixed ≤ 8
fixed_most {form} z = go form.behaves z.fixed
  where
    go : (b : Bool) → form.fixed ≡ cond b 8 4 → form.fixed ≤ 8
    go true e = omega arith
    go false e = omega arith

pub fixed_eight : {form : Form} → Sized form → form.behaves ≡ true → form.fixed ≡ 8
fixed_eight z e = z.fixed ∙ rw e

-- The form that a setup type names: what holds of both forms holds of it.
pub of_both : (P : Form → Type 0) → P srv6_form → P mpls_form → (pst : ℕ) → P (form_of pst)
of_both P a b pst = go (eqb pst 1)
  where
    go : (x : Bool) → P (cond x mpls_form srv6_form)
    go true = b
    go false = a

pub form_mpls : (pst : ℕ) → pst ≡ 1 → mpls_form ≡ form_of pst
form_mpls pst e = rw (eq-eqb pst 1 e)

pub form_srv6 : (pst : ℕ) → (pst ≡ 1 → ⊥) → srv6_form ≡ form_of pst
form_srv6 pst e = rw (ne_eqb pst 1 e)

-- The number that a form has names it.
pub named_again : (pst : ℕ) → form_of (form_of pst).setup ≡ form_of pst
named_again pst = of_both (λ form. form_of form.setup ≡ form) refl refl pst

-- Both forms fit into a segment.
pub srv6_sized : Sized srv6_form
unfolding nai_length
srv6_sized =
    record { fixed = refl; sid = omega arith; nai = λ nt. go (eqb nt 1) (eqb nt 2) (eqb nt 3) (eqb nt 4) (eqb nt 5) (eqb nt 6); free = omega arith }
  where
    go : (a b c d e f : Bool) → cond a 0 (cond b 16 (cond c 0 (cond d 32 (cond e 0 (cond f 40 0))))) ≤ 40
    go true b c d e f = omega arith
    go false true c d e f = omega arith
    go false false true d e f = omega arith
    go false false false true e f = omega arith
    go false false false false true f = omega arith
    go false false false false false true = omega arith
    go false false false false false false = omega arith

pub mpls_sized : Sized mpls_form
unfolding nai_length
mpls_sized =
    record { fixed = refl; sid = omega arith; nai = λ nt. go (eqb nt 1) (eqb nt 2) (eqb nt 3) (eqb nt 4) (eqb nt 5) (eqb nt 6); free = omega arith }
  where
    go : (a b c d e f : Bool) → cond a 4 (cond b 16 (cond c 8 (cond d 32 (cond e 16 (cond f 40 0))))) ≤ 40
    go true b c d e f = omega arith
    go false true c d e f = omega arith
    go false false true d e f = omega arith
    go false false false true e f = omega arith
    go false false false false true f = omega arith
    go false false false false false true = omega arith
    go false false false false false false = omega arith

pub sized_by : (pst : ℕ) → Sized (form_of pst)
sized_by pst = of_both Sized srv6_sized mpls_sized pst

-- The octets of an NAI: none for NT 0 and above 6,
pub nai_none : (form : Form) (nt : ℕ) → nt ≡ 0 → 0 ≡ nai_length form nt
unfolding nai_length
nai_none form nt e = rw e

pub nai_past : (form : Form) (nt : ℕ) → 6 < nt → 0 ≡ nai_length form nt
unfolding nai_length
nai_past form nt h =
    rw (ne_eqb nt 1 (omega arith), ne_eqb nt 2 (omega arith), ne_eqb nt 3 (omega arith), ne_eqb nt 4 (omega arith), ne_eqb nt 5 (omega arith), ne_eqb nt 6 (omega arith))

-- else the octet of the lengths to which a shift by as many octets comes.
pub nai_shifted : (form : Form) (nt : ℕ) → (nt ≡ 0 → ⊥) → nt ≤ 6 → form.nais / 2 ^ (8 * nt) % 256 ≡ nai_length form nt
unfolding nai_length
nai_shifted form zero n h = absurd (n refl)
nai_shifted form (suc zero) n h = refl
nai_shifted form (suc (suc zero)) n h = refl
nai_shifted form (suc (suc (suc zero))) n h = refl
nai_shifted form (suc (suc (suc (suc zero)))) n h = refl
nai_shifted form (suc (suc (suc (suc (suc zero))))) n h = refl
nai_shifted form (suc (suc (suc (suc (suc (suc zero)))))) n h = refl
nai_shifted form (suc (suc (suc (suc (suc (suc (suc k))))))) n h = absurd (omega arith)

-- They are those of the papers' tables.
srv6_past : (nt : ℕ) → 6 < nt → srv6_nai nt ≡ 0
srv6_past nt h = rw (ne_eqb nt 2 (omega arith), ne_eqb nt 4 (omega arith), ne_eqb nt 6 (omega arith))

beyond : (nt : ℕ) → 6 < nt → nai_length srv6_form nt ≡ srv6_nai nt
beyond nt h = sym (nai_past srv6_form nt h) ∙ sym (srv6_past nt h)

pub srv6_nais : (nt : ℕ) → nai_length srv6_form nt ≡ srv6_nai nt
unfolding nai_length
srv6_nais zero = refl
srv6_nais (suc zero) = refl
srv6_nais (suc (suc zero)) = refl
srv6_nais (suc (suc (suc zero))) = refl
srv6_nais (suc (suc (suc (suc zero)))) = refl
srv6_nais (suc (suc (suc (suc (suc zero))))) = refl
srv6_nais (suc (suc (suc (suc (suc (suc zero)))))) = refl
srv6_nais (suc (suc (suc (suc (suc (suc (suc k))))))) = beyond (suc (suc (suc (suc (suc (suc (suc k))))))) (omega arith)

pub mpls_nais : (nt : ℕ) → nai_length mpls_form nt ≡ mpls_nai nt
unfolding nai_length
mpls_nais nt = refl

-- No NAI is longer than what a segment keeps for it.
pub nai_most : {form : Form} → Sized form → (nt : ℕ) → nai_length form nt ≤ 40
nai_most z nt = z.nai nt

-- A SID or an NAI of SRv6 has 16 octets or more, one of MPLS 4 or more.
pub srv6_shortest : Shortest srv6_form 16
unfolding nai_length
srv6_shortest = record { sid = omega arith; nai = λ nt. go (eqb nt 1) (eqb nt 2) (eqb nt 3) (eqb nt 4) (eqb nt 5) (eqb nt 6) }
  where
    go : (a b c d e f : Bool) → 0 < cond a 0 (cond b 16 (cond c 0 (cond d 32 (cond e 0 (cond f 40 0)))))
        → 16 ≤ cond a 0 (cond b 16 (cond c 0 (cond d 32 (cond e 0 (cond f 40 0)))))
    go true b c d e f h = absurd (omega arith)
    go false true c d e f h = omega arith
    go false false true d e f h = absurd (omega arith)
    go false false false true e f h = omega arith
    go false false false false true f h = absurd (omega arith)
    go false false false false false true h = omega arith
    go false false false false false false h = absurd (omega arith)

pub mpls_shortest : Shortest mpls_form 4
unfolding nai_length
mpls_shortest = record { sid = omega arith; nai = λ nt. go (eqb nt 1) (eqb nt 2) (eqb nt 3) (eqb nt 4) (eqb nt 5) (eqb nt 6) }
  where
    go : (a b c d e f : Bool) → 0 < cond a 4 (cond b 16 (cond c 8 (cond d 32 (cond e 16 (cond f 40 0)))))
        → 4 ≤ cond a 4 (cond b 16 (cond c 8 (cond d 32 (cond e 16 (cond f 40 0)))))
    go true b c d e f h = omega arith
    go false true c d e f h = omega arith
    go false false true d e f h = omega arith
    go false false false true e f h = omega arith
    go false false false false true f h = omega arith
    go false false false false false true h = omega arith
    go false false false false false false h = absurd (omega arith)

-- An NAI is a multiple of 4 octets.
pub srv6_fours : (nt : ℕ) → nai_length srv6_form nt % 4 ≡ 0
unfolding nai_length
srv6_fours nt = go (eqb nt 1) (eqb nt 2) (eqb nt 3) (eqb nt 4) (eqb nt 5) (eqb nt 6)
  where
    go : (a b c d e f : Bool) → cond a 0 (cond b 16 (cond c 0 (cond d 32 (cond e 0 (cond f 40 0))))) % 4 ≡ 0
    go true b c d e f = refl
    go false true c d e f = refl
    go false false true d e f = refl
    go false false false true e f = refl
    go false false false false true f = refl
    go false false false false false true = refl
    go false false false false false false = refl

pub mpls_fours : (nt : ℕ) → nai_length mpls_form nt % 4 ≡ 0
unfolding nai_length
mpls_fours nt = go (eqb nt 1) (eqb nt 2) (eqb nt 3) (eqb nt 4) (eqb nt 5) (eqb nt 6)
  where
    go : (a b c d e f : Bool) → cond a 4 (cond b 16 (cond c 8 (cond d 32 (cond e 16 (cond f 40 0))))) % 4 ≡ 0
    go true b c d e f = refl
    go false true c d e f = refl
    go false false true d e f = refl
    go false false false true e f = refl
    go false false false false true f = refl
    go false false false false false true = refl
    go false false false false false false = refl
