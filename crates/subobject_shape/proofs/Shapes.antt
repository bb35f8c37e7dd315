-- The shapes of an MPLS subobject: 16 ways of its flags by 16 NTs, looked at one by one by a test that is computed. Assumes nothing.
use Prim.Native.Nat.{ℕ, zero, suc, ◌+◌, ◌*◌, ◌/◌, ◌%◌, ◌^◌, ◌≤◌, ◌<◌}
use mathlib.Core.Path.{◌≡◌, refl, sym, ◌∙◌, ap, subst}
use mathlib.Core.List.{List}
use mathlib.Core.Bool.{Bool, true, false, false≢true, not, ◌&&◌, ◌||◌}
use lib.Dec.{eqb, leb}
use lib.ListN.{get_or}
use native.Mathlib.Omega.{arith}
use borrow.Author.Tests.{eq-eqb, eqb-true, eqb-false, leb-true, not-true}
use Rattle.octets.specs.Octets.{octet_of}
use Rattle.octets.proofs.Said.{both_true}
use Rattle.forms.specs.Forms.{mpls_form, flag_in, nai_length, knows}
use Rattle.subobject.specs.declared.head.Head.{Head}
use Rattle.subobject.specs.Layout.{expected_length, head_of, head_at}
use Rattle.subobject.specs.Rules.{rule7, rule8, rule9, rule10, flag_f, malformed}
use Rattle.subobject_shape.specs.Fitting.{Fitting, allowed_by}

-- A test passes at each number below n.
abbrev below : ℕ → (ℕ → Bool) → Bool
below zero f = true
below (suc n) f = f n && below n f

below_at : (n : ℕ) (f : ℕ → Bool) → below n f ≡ true → (k : ℕ) → k < n → f k ≡ true
below_at zero f e k h = absurd (omega arith)
below_at (suc n) f e k h = go (eqb k n) refl (λ l. below_at n f (both_true (f n) (below n f) e).1 k l)
  where
    go : (b : Bool) → eqb k n ≡ b → (k < n → f k ≡ true) → f k ≡ true
    go true q less = ap f (eqb-true k n q) ∙ (both_true (f n) (below n f) e).0
    go false q less = let apart = eqb-false k n q in less (omega (arith, apart))

-- What 8, 9 and 7 ask of NT and the flags, and 10 where a SID is needed; and that the NT has a length.
abbrev Asked : Bool → ℕ → ℕ → ℕ → ℕ → ℕ → Bool
Asked needed nt s f c m =
    knows mpls_form nt
    && (not (eqb s 1 && eqb f 1)
    && (eqb f (flag_f nt)
    && (not ((eqb s 1 && (eqb m 1 || eqb c 1)) || (eqb c 1 && not (eqb m 1))) && (not (needed && eqb s 1) && leb nt 6))))

-- Whether flags and NT go together, as two numbers tell.
abbrev pub together : Bool → ℕ → ℕ → Bool
together needed x nt = eqb (allowed_by needed / 2 ^ (2 * x) % 4) (4294961833 / 2 ^ (2 * nt) % 4)

abbrev right : Bool → ℕ → ℕ → Bool
right needed x nt = not (together needed x nt) || Asked needed nt (x / 4 % 2) (x / 8 % 2) (x / 2 % 2) (x / 1 % 2)

all_right : (needed : Bool) → below 16 (λ (x : ℕ). below 16 (λ (nt : ℕ). right needed x nt)) ≡ true
unfolding knows nai_length
all_right true = refl
all_right false = refl

asked_at : (needed : Bool) (x nt : ℕ) → x < 16 → nt < 16 → together needed x nt ≡ true → Asked needed nt (x / 4 % 2) (x / 8 % 2) (x / 2 % 2) (x / 1 % 2) ≡ true
asked_at needed x nt hx hn e =
    go (together needed x nt) _ e (below_at 16 (λ (k : ℕ). right needed x k) (below_at 16 (λ (k : ℕ). below 16 (λ (j : ℕ). right needed k j)) (all_right needed) x hx) nt hn)
  where
    go : (a b : Bool) → a ≡ true → (not a || b) ≡ true → b ≡ true
    go true b h q = q
    go false b h q = absurd (false≢true h)

-- An octet for each NT: the length with a SID.
long_at : (nt : ℕ) → nt ≤ 6 → 13537359229881352 / 2 ^ (8 * nt) % 256 ≡ 8 + nai_length mpls_form nt
unfolding nai_length
long_at zero h = refl
long_at (suc zero) h = refl
long_at (suc (suc zero)) h = refl
long_at (suc (suc (suc zero))) h = refl
long_at (suc (suc (suc (suc zero)))) h = refl
long_at (suc (suc (suc (suc (suc zero))))) h = refl
long_at (suc (suc (suc (suc (suc (suc zero)))))) h = refl
long_at (suc (suc (suc (suc (suc (suc (suc k))))))) h = absurd (omega arith)

six : (a b c d e f : Bool) → (a && (b && (c && (d && (e && f))))) ≡ true
    → (a ≡ true) × (b ≡ true) × (c ≡ true) × (d ≡ true) × (e ≡ true) × (f ≡ true)
six true true true true true true q = (refl, refl, refl, refl, refl, refl)
six false b c d e f q = absurd (false≢true q)
six true false c d e f q = absurd (false≢true q)
six true true false d e f q = absurd (false≢true q)
six true true true false e f q = absurd (false≢true q)
six true true true true false f q = absurd (false≢true q)
six true true true true true false q = absurd (false≢true q)

-- What was asked, one by one.
told : (needed : Bool) (nt s f c m : ℕ) → Asked needed nt s f c m ≡ true
    → (knows mpls_form nt ≡ true) × (not (eqb s 1 && eqb f 1) ≡ true) × (eqb f (flag_f nt) ≡ true)
    × (not ((eqb s 1 && (eqb m 1 || eqb c 1)) || (eqb c 1 && not (eqb m 1))) ≡ true) × (not (needed && eqb s 1) ≡ true) × (leb nt 6 ≡ true)
told needed nt s f c m a =
    six (knows mpls_form nt) (not (eqb s 1 && eqb f 1)) (eqb f (flag_f nt)) (not ((eqb s 1 && (eqb m 1 || eqb c 1)) || (eqb c 1 && not (eqb m 1))))
    (not (needed && eqb s 1)) (leb nt 6) a

-- The flags of an octet are those of its low four bits.
asked_low : (needed : Bool) (low high : ℕ) → high < 256 → together needed (low % 16) (high / 16) ≡ true
    → Asked needed (high / 16) (low / 4 % 2) (low / 8 % 2) (low / 2 % 2) (low / 1 % 2) ≡ true
asked_low needed low high h e =
    let es : low % 16 / 4 % 2 ≡ low / 4 % 2 = omega arith in
    let ef : low % 16 / 8 % 2 ≡ low / 8 % 2 = omega arith in
    let ec : low % 16 / 2 % 2 ≡ low / 2 % 2 = omega arith in
    let em : low % 16 / 1 % 2 ≡ low / 1 % 2 = omega arith in
    rw (← es, ← ef, ← ec, ← em) (asked_at needed (low % 16) (high / 16) (omega arith) (omega arith) e)

-- An NT that goes with flags has a length.
pub within : (needed : Bool) (low high : ℕ) → high < 256 → together needed (low % 16) (high / 16) ≡ true → high / 16 ≤ 6
within needed low high h e = leb-true (high / 16) 6 (told needed (high / 16) (low / 4 % 2) (low / 8 % 2) (low / 2 % 2) (low / 1 % 2) (asked_low needed low high h e)).5

expected_is : (nt s size : ℕ) → s ≤ 1 → size + s * 4 ≡ 8 + nai_length mpls_form nt → size ≡ expected_length mpls_form nt s 0
unfolding expected_length
expected_is nt zero size h e = omega (arith, e)
expected_is nt (suc zero) size h e = omega (arith, e)
expected_is nt (suc (suc k)) size h e = absurd (omega arith)

seven_of : (a b c : Bool) → a ≡ true → b ≡ true → not c ≡ true → (not a || (not b || c)) ≡ false
seven_of true true false p q r = refl
seven_of true true true p q r = absurd (false≢true r)
seven_of true false c p q r = absurd (false≢true q)
seven_of false b c p q r = absurd (false≢true p)

pub fitting : (needed : Bool) (size high low : ℕ) → high < 256 → together needed (low % 16) (high / 16) ≡ true
    → size + low % 16 / 4 % 2 * 4 ≡ 13537359229881352 / 2 ^ (8 * (high / 16)) % 256 → (first : ℕ) (ero : Bool) → Fitting (head_of mpls_form first size high low ero) needed
unfolding head_of flag_in rule7 rule8 rule9 malformed
fitting needed size high low h e q first ero =
    let nt = high / 16 in
    let t = told needed nt (low / 4 % 2) (low / 8 % 2) (low / 2 % 2) (low / 1 % 2) (asked_low needed low high h e) in
    let long = long_at nt (leb-true nt 6 t.5) in
    let size_is : size ≡ expected_length mpls_form nt (low / 4 % 2) 0 = expected_is nt (low / 4 % 2) size (omega arith) (omega (arith, q, long)) in
    record {
      eight = rw t.0;
      nine = not-true _ t.1;
      seven = seven_of (eqb (low / 8 % 2) (flag_f nt)) (eqb size (expected_length mpls_form nt (low / 4 % 2) 0)) _ t.2 (eq-eqb size (expected_length mpls_form nt (low / 4 % 2) 0) size_is) t.3;
      sid = not-true _ t.4;
    }

-- From the number that the code has.
pub together_by : (needed : Bool) (a low high : ℕ) → a ≡ allowed_by needed → a / 2 ^ (2 * (low % 16)) % 4 ≡ 4294961833 / 2 ^ (2 * (high / 16)) % 4
    → together needed (low % 16) (high / 16) ≡ true
together_by needed a low high e q =
    eq-eqb (allowed_by needed / 2 ^ (2 * (low % 16)) % 4) (4294961833 / 2 ^ (2 * (high / 16)) % 4) (ap (λ (n : ℕ). n / 2 ^ (2 * (low % 16)) % 4) (sym e) ∙ q)

turned : (a b c : Bool) → ((a && not b) && c) ≡ false → (a && (c && not b)) ≡ false
turned false b c q = refl
turned true true true q = refl
turned true true false q = refl
turned true false true q = q
turned true false false q = refl

ten_of : (h : Head) (ero n needed : Bool) → needed ≡ (ero && not n) → (needed && eqb h.s 1) ≡ false → rule10 h ero n ≡ false
unfolding rule10
ten_of h ero n needed e z = turned ero n (eqb h.s 1) (rw e at z)

size_at : (s : List ℕ) (ero : Bool) (at : ℕ) → (head_at mpls_form s ero at).size ≡ get_or s (at + 1) 0
unfolding head_at head_of octet_of
size_at s ero at = refl

head_at_lem : (s : List ℕ) (ero : Bool) (at : ℕ) → head_at mpls_form s ero at ≡ head_of mpls_form (get_or s at 0) (get_or s (at + 1) 0) (get_or s (at + 2) 0) (get_or s (at + 3) 0) ero
unfolding head_at octet_of
head_at_lem s ero at = refl

same_head : (o a b c a' b' c' : ℕ) (ero : Bool) → a ≡ a' → b ≡ b' → c ≡ c' → head_of mpls_form o a b c ero ≡ head_of mpls_form o a' b' c' ero
same_head o a b c a' b' c' ero p q r = rw (p, q, r)

-- The rules of the subobject at a place, from its octets 2 and 3.
pub kept_at : (s : List ℕ) (ero n : Bool) (at high low : ℕ) (h : Head) (needed : Bool) → h ≡ head_at mpls_form s ero at → high ≡ get_or s (at + 2) 0 → low ≡ get_or s (at + 3) 0
    → needed ≡ (ero && not n) → ((first : ℕ) (e : Bool) → Fitting (head_of mpls_form first h.size high low e) needed)
    → (rule8 mpls_form h ≡ false) × (rule9 h ≡ false) × (rule7 mpls_form h ≡ false) × (rule10 h ero n ≡ false)
kept_at s ero n at high low h needed e eh el en f =
    let size : h.size ≡ get_or s (at + 1) 0 = ap (λ (x : Head). x.size) e ∙ size_at s ero at in
    let same : head_of mpls_form (get_or s at 0) h.size high low ero ≡ h = same_head _ _ _ _ _ _ _ ero size eh el ∙ sym (e ∙ head_at_lem s ero at) in
    let k : Fitting h needed = subst (λ (x : Head). Fitting x needed) same (f (get_or s at 0) ero) in
    (k.eight, k.nine, k.seven, ten_of h ero n needed en k.sid)
