-- Octets that are all 0: four of them, as one number, are 0 if each is (`four_blank`), and two runs one behind the other if both are
-- (`zeros_both`); what is kept for absent parts (`tidy_parts`). Assumes nothing.
use Prim.Native.Nat.{ℕ, ◌+◌, ◌-◌, ◌*◌, ◌≤◌}
use mathlib.Core.Path.{◌≡◌, refl, sym, ◌∙◌, ap}
use mathlib.Core.Bool.{Bool, true, false, cond, ◌&&◌, ◌||◌}
use mathlib.Core.List.{List, [], ◌∷◌, ◌++◌}
use lib.Dec.{eqb}
use lib.ListN.{length, get_or, take, drop, drop_of_length-le, take-append-drop, length-drop}
use lib.Seq.{take_all, take-add, get_or-drop}
use native.Mathlib.Nat.{add-zero}
use borrow.Author.Tests.{eq-eqb, ne_eqb, eqb-true, eqb-false}
use native.Mathlib.Omega.{arith}
use Rattle.octets.specs.Octets.{octet_of, part}
use Rattle.octet_sums.specs.Sums.{four_of, four_at}
use Rattle.forms.specs.declared.Form.{Form}
use Rattle.forms.specs.Forms.{srv6_form, mpls_form, nai_length}
use Rattle.subobject.specs.declared.segment.Segment.{Segment}
use Rattle.subobject.specs.Layout.{bit_lengths}
use Rattle.writer_spare.specs.Typed.{Typed}
use Rattle.writer_spare.specs.Spare.{zeros, tidy_of}
use Rattle.writer_spare.specs.NaiSizes.{Known}

-- Four octets make a number that is 0 where each octet is.
sum_zero : (a b c d : ℕ) → eqb (four_of a b c d) 0 ≡ (eqb a 0 && (eqb b 0 && (eqb c 0 && (eqb d 0 && true))))
sum_zero a b c d = go (eqb a 0) refl (eqb b 0) refl (eqb c 0) refl (eqb d 0) refl
  where
    go : (x : Bool) → eqb a 0 ≡ x → (y : Bool) → eqb b 0 ≡ y → (z : Bool) → eqb c 0 ≡ z → (w : Bool) → eqb d 0 ≡ w
        → eqb (four_of a b c d) 0 ≡ (x && (y && (z && (w && true))))
    go true p true q true r true s = eq-eqb (four_of a b c d) 0 (omega (arith, eqb-true a 0 p, eqb-true b 0 q, eqb-true c 0 r, eqb-true d 0 s))
    go false p y q z r w s = ne_eqb (four_of a b c d) 0 (λ (e : four_of a b c d ≡ 0). eqb-false a 0 p (omega arith))
    go true p false q z r w s = ne_eqb (four_of a b c d) 0 (λ (e : four_of a b c d ≡ 0). eqb-false b 0 q (omega arith))
    go true p true q false r w s = ne_eqb (four_of a b c d) 0 (λ (e : four_of a b c d ≡ 0). eqb-false c 0 r (omega arith))
    go true p true q true r false s = ne_eqb (four_of a b c d) 0 (λ (e : four_of a b c d ≡ 0). eqb-false d 0 s (omega arith))

-- Four octets one by one.
four_zero : (x : List ℕ) → zeros (take 4 x) ≡ (eqb (get_or x 0 0) 0 && (eqb (get_or x 1 0) 0 && (eqb (get_or x 2 0) 0 && (eqb (get_or x 3 0) 0 && true))))
four_zero [] = refl
four_zero (a ∷ []) = refl
four_zero (a ∷ b ∷ []) = refl
four_zero (a ∷ b ∷ c ∷ []) = refl
four_zero (a ∷ b ∷ c ∷ d ∷ x) = refl

pub part_zero : (s : List ℕ) (p : ℕ)
    → zeros (part s p 4) ≡ (eqb (octet_of s p) 0 && (eqb (octet_of s (p + 1)) 0 && (eqb (octet_of s (p + 2)) 0 && (eqb (octet_of s (p + 3)) 0 && true))))
unfolding part octet_of
part_zero s p =
    let e0 : get_or (drop p s) 0 0 ≡ get_or s p 0 = get_or-drop p s 0 0 ∙ ap (λ (i : ℕ). get_or s i 0) (add-zero p) in
    four_zero (drop p s) ∙ rw (e0, get_or-drop p s 1 0, get_or-drop p s 2 0, get_or-drop p s 3 0)

pub four_blank : (s : List ℕ) (at : ℕ) {n : ℕ} → n ≡ four_at s at → eqb n 0 ≡ zeros (part s at 4)
unfolding four_at
four_blank s at e = rw e (sum_zero (octet_of s at) (octet_of s (at + 1)) (octet_of s (at + 2)) (octet_of s (at + 3)) ∙ sym (part_zero s at))

-- runs ---------------------------------------------------------------------------------------------------------

pub zeros_both : (a b : List ℕ) → zeros (a ++ b) ≡ (zeros a && zeros b)
zeros_both [] b = refl
zeros_both (x ∷ a) b = go (eqb x 0) (zeros_both a b)
  where
    go : (t : Bool) → zeros (a ++ b) ≡ (zeros a && zeros b) → (t && zeros (a ++ b)) ≡ ((t && zeros a) && zeros b)
    go true e = e
    go false e = refl

-- Octets, and all that stand behind them.
pub zeros_split : (s : List ℕ) (m : ℕ) → (zeros (take m s) && zeros (drop m s)) ≡ zeros s
zeros_split s m = sym (zeros_both (take m s) (drop m s)) ∙ ap zeros (take-append-drop m s)

-- What is left to look at where the first are 0, and where they are not.
pub split_true : (s : List ℕ) (m : ℕ) (f e : Bool) → f ≡ zeros (take m s) → f ≡ true → e ≡ zeros (take (length s - m) (drop m s)) → e ≡ zeros s
split_true s m f e p t q = let k : zeros (take m s) ≡ true = sym p ∙ t in let z = zeros_split s m in q ∙ ap zeros (take_all (length s - m) (drop m s) (omega (arith, length-drop m s))) ∙ rw k at z

pub split_false : (s : List ℕ) (m : ℕ) (f : Bool) → f ≡ zeros (take m s) → f ≡ false → f ≡ zeros s
split_false s m f p t = let k : zeros (take m s) ≡ false = sym p ∙ t in let z = zeros_split s m in t ∙ rw k at z

-- A loop over fours.
pub fours_none : (s : List ℕ) → true ≡ zeros (take (4 * 0) s)
fours_none s = refl

fours_run : (s : List ℕ) (i : ℕ) → (zeros (take (4 * i) s) && zeros (part s (4 * i) 4)) ≡ zeros (take (4 * (i + 1)) s)
unfolding part
fours_run s i =
    let k : 4 * i + 4 ≡ 4 * (i + 1) = omega arith in
    sym (zeros_both (take (4 * i) s) (take 4 (drop (4 * i) s))) ∙ ap zeros (sym (take-add (4 * i) 4 s)) ∙ ap (λ (m : ℕ). zeros (take m s)) k

pub fours_more : (s : List ℕ) (i : ℕ) (all : Bool) {n : ℕ} → all ≡ zeros (take (4 * i) s) → n ≡ four_at s (4 * i)
    → (all && eqb n 0) ≡ zeros (take (4 * (i + 1)) s)
fours_more s i all e q = rw (e, four_blank s (4 * i) q) (fours_run s i)

pub fours_end : (s : List ℕ) (i n : ℕ) (all : Bool) → i ≤ n → n ≤ i → all ≡ zeros (take (4 * i) s) → all ≡ zeros (take (4 * n) s)
fours_end s i n all h l e = let q : i ≡ n = omega arith in rw q at e

-- The octets of a part that is there or not.
pub zeros_there : (b : Bool) (l : List ℕ) (n : ℕ) → length l ≡ n → zeros (drop (cond b n 0) l) ≡ (b || zeros l)
zeros_there true l n e = let q : length l ≤ n = omega arith in rw (drop_of_length-le l q)
zeros_there false l n e = refl

-- A segment whose SID, four bit lengths and NAI are looked at in this order.
pub tidy_parts : (form : Form) (g : Segment) → Typed g
    → tidy_of form g
    ≡ (zeros (drop (cond g.hassid form.sid 0) g.sid) && ((g.structured || zeros g.structure) && zeros (drop (nai_length form g.nt) g.nai)))
unfolding tidy_of
tidy_parts form g h =
    rw (zeros_there g.structured g.structure bit_lengths h.structure)
    (go (zeros (drop (cond g.hassid form.sid 0) g.sid)) (zeros (drop (nai_length form g.nt) g.nai)) (g.structured || zeros g.structure))
  where
    go : (a b c : Bool) → (a && (b && c)) ≡ (a && (c && b))
    go true true true = refl
    go true true false = refl
    go true false true = refl
    go true false false = refl
    go false b c = refl

-- which form, and how many octets ------------------------------------------------------------------------------

pub known_srv6 : (form : Form) → Known form → form.behaves ≡ true → srv6_form ≡ form
known_srv6 form k b = go (eqb form.setup 1) k
  where
    go : (x : Bool) → cond x mpls_form srv6_form ≡ form → srv6_form ≡ form
    go true e = absurd (let y : ◌≡◌ {A = Bool} false true = ap (λ (f : Form). f.behaves) e ∙ b in let z : ◌≡◌ {A = ℕ} 0 1 = cc in omega arith)
    go false e = e

pub known_mpls : (form : Form) → Known form → form.behaves ≡ false → mpls_form ≡ form
known_mpls form k b = go (eqb form.setup 1) k
  where
    go : (x : Bool) → cond x mpls_form srv6_form ≡ form → mpls_form ≡ form
    go false e = absurd (let y : ◌≡◌ {A = Bool} true false = ap (λ (f : Form). f.behaves) e ∙ b in let z : ◌≡◌ {A = ℕ} 0 1 = cc in omega arith)
    go true e = e
