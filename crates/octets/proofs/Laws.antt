-- Laws about lists of octets that the readers and the writers share, in the order of specs/Octets. Those of parts go octet by octet
-- (`ext_get_or`); those of `over` and `placed` rewrite take, drop and append until both sides are the same.
use Prim.Native.Nat.{ℕ, ◌+◌, ◌-◌, ◌≤◌, ◌<◌}
use mathlib.Core.Path.{◌≡◌, refl, sym, ◌∙◌, ap}
use mathlib.Core.List.{List, [], ◌++◌, append_assoc, append-nil}
use mathlib.Core.Logic.{◌⊎◌, ⊎_elim}
use lib.ListN.{length, get_or, take, drop, set, replicate, length-append, length-drop, drop_of_length-le, get_or-append}
use lib.Seq.{take_all, drop_at, take_at, drop-drop, length-take-le, paste-suc, get_or-take, get_or-drop, get_or-append-add, ext_get_or}
use native.Mathlib.Nat.{zero-add, le_of_eq, add-sub_cancel_left}
use native.Mathlib.Numerals.{add-one}
use native.Mathlib.Omega.{arith}
use borrow.Rule.Slice.PartMut.{put_mid}
use Rattle.octets.specs.Octets.{part, over, placed, part_of}

-- part ---------------------------------------------------------------------------------------------------------

pub length_part : (s : List ℕ) (at n : ℕ) → at + n ≤ length s → length (part s at n) ≡ n
unfolding part
length_part s at n h = length-take-le n (drop at s) (omega (arith, length-drop at s))

pub get_d_part : (s : List ℕ) (at n m : ℕ) → m < n → get_or (part s at n) m 0 ≡ get_or s (at + m) 0
unfolding part
get_d_part s at n m h = get_or-take n (drop at s) m 0 h ∙ get_or-drop at s m 0

-- Two lists that agree on a stretch have the same part there.
pub part_ext : (xs ys : List ℕ) (a n : ℕ) → a + n ≤ length xs → a + n ≤ length ys
    → ((m : ℕ) → m < n → get_or xs (a + m) 0 ≡ get_or ys (a + m) 0) → part xs a n ≡ part ys a n
part_ext xs ys a n h g f =
    ext_get_or 0 (part xs a n) (part ys a n) (length_part xs a n h ∙ sym (length_part ys a n g))
    (λ m l. let k : m < n = omega (arith, length_part xs a n h) in get_d_part xs a n m k ∙ f m k ∙ sym (get_d_part ys a n m k))

-- over ---------------------------------------------------------------------------------------------------------

pub length_over : (w b : List ℕ) → length w ≤ length b → length (over w b) ≡ length b
unfolding over
length_over w b k = simp (length-append, length-drop) (omega arith)

-- Two runs laid one behind the other.
pub over_append : (h t b : List ℕ) → length h ≤ length b → placed (over h b) (length h) t ≡ over (h ++ t) b
unfolding placed over
over_append h t b k =
    rw (take_at h (drop (length h) b) (length h) refl, drop_at h (drop (length h) b) (length h) refl, drop-drop, length-append, append_assoc)

-- The same, with the place written in another way.
pub over_at : (h t b : List ℕ) (n : ℕ) → length h ≡ n → n ≤ length b → placed (over h b) n t ≡ over (h ++ t) b
over_at h t b n e k = rw (← e) (over_append h t b (rw e k))

-- d with its first n elements replaced by those of s: a copy under way.
abbrev pub copied : List ℕ → List ℕ → ℕ → List ℕ
copied d s n = take n s ++ drop n d

pub copied_more : (d s : List ℕ) (i : ℕ) → i < length d → i < length s → set (copied d s i) i (get_or s i 0) ≡ copied d s (i + 1)
copied_more d s i hd hs = rw (add-one i) (simp zero-add at (paste-suc d 0 s i 0 (simp zero-add hd) hs))

-- placed -------------------------------------------------------------------------------------------------------

pub length_placed : (b : List ℕ) (at : ℕ) (w : List ℕ) → at + length w ≤ length b → length (placed b at w) ≡ length b
unfolding placed
length_placed b at w h =
    simp (length-append, length-take-le at b (omega arith), length_over w (drop at b) (omega (arith, length-drop at b)), length-drop) (omega arith)

-- The octets before those placed stay.
pub get_d_before : (b : List ℕ) (at : ℕ) (w : List ℕ) (m : ℕ) → at + length w ≤ length b → m < at → get_or (placed b at w) m 0 ≡ get_or b m 0
unfolding placed
get_d_before b at w m h l =
    get_or-append (take at b) (over w (drop at b)) 0 m (omega (arith, length-take-le at b (omega arith))) ∙ get_or-take at b m 0 l

-- The octets behind those placed stay.
pub get_d_behind : (b : List ℕ) (at : ℕ) (w : List ℕ) (m : ℕ) → at + length w ≤ length b → at + length w ≤ m → get_or (placed b at w) m 0 ≡ get_or b m 0
unfolding placed over
get_d_behind b at w m h l =
    let n : length (take at b ++ w) ≡ at + length w = simp (length-append, length-take-le at b (omega arith)) in
    let e : m ≡ length (take at b ++ w) + (m - (at + length w)) = omega arith in
    ap (λ (q : List ℕ). get_or q m 0) (sym (append_assoc (take at b) w (drop (length w) (drop at b))))
    ∙ ap (λ (q : ℕ). get_or ((take at b ++ w) ++ drop (length w) (drop at b)) q 0) e
    ∙ get_or-append-add (take at b ++ w) (drop (length w) (drop at b)) (m - (at + length w)) 0
    ∙ get_or-drop (length w) (drop at b) (m - (at + length w)) 0
    ∙ get_or-drop at b (length w + (m - (at + length w))) 0
    ∙ ap (λ (q : ℕ). get_or b q 0) (omega arith)

-- What was placed is read back.
pub part_placed_same : (b : List ℕ) (at : ℕ) (w : List ℕ) → at + length w ≤ length b → part (placed b at w) at (length w) ≡ w
unfolding placed over part
part_placed_same b at w h =
    rw (drop_at (take at b) (w ++ drop (length w) (drop at b)) at (length-take-le at b (omega arith)))
    (take_at w (drop (length w) (drop at b)) (length w) refl)

-- A part that lies before or behind what was placed stays.
pub part_placed_other : (b : List ℕ) (at : ℕ) (w : List ℕ) (a n : ℕ) → at + length w ≤ length b → a + n ≤ length b
    → (a + n ≤ at) ⊎ (at + length w ≤ a) → part (placed b at w) a n ≡ part b a n
part_placed_other b at w a n h g d =
    part_ext (placed b at w) b a n (omega (arith, length_placed b at w h)) g
    (λ m l. ⊎_elim (λ p. get_d_before b at w (a + m) h (omega arith)) (λ p. get_d_behind b at w (a + m) h (omega arith)) d)

-- the rest of a buffer, lent on --------------------------------------------------------------------------------

-- The rest of a buffer from a on, as it is lent,
pub rest_lent : (b : List ℕ) (a : ℕ) → take (length b - a) (drop a b) ≡ drop a b
rest_lent b a = take_all (length b - a) (drop a b) (le_of_eq (length-drop a b))

-- and as it comes back.
pub rest_back : (b y : List ℕ) (a : ℕ) → put_mid a (length b - a) b y ≡ take a b ++ y
rest_back b y a = rw (drop_of_length-le (drop a b) (le_of_eq (length-drop a b)), append-nil y)

-- What a callee that was lent the rest laid over its start, said of the whole.
pub placed_back : (b y w : List ℕ) (a : ℕ) → y ≡ over w (take (length b - a) (drop a b)) → put_mid a (length b - a) b y ≡ placed b a w
unfolding placed
placed_back b y w a e = rest_back b y a ∙ rw (e, rest_lent)

-- A part as it is lent; a part of no octets.
pub part_lent : (s : List ℕ) (a n : ℕ) → take (a + n - a) (drop a s) ≡ part s a n
unfolding part
part_lent s a n = rw (add-sub_cancel_left a n)

pub part_none : (s : List ℕ) (at : ℕ) → part s at 0 ≡ []
unfolding part
part_none s at = refl

-- What was copied from a part into an array of m zeros.
pub part_taken : (s x : List ℕ) (at n m : ℕ) → x ≡ over (take (at + n - at) (drop at s)) (replicate m 0) → x ≡ part_of s at n m
unfolding part_of part
part_taken s x at n m e = rw (add-sub_cancel_left at n) at e
